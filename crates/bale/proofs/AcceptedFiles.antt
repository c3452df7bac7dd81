-- What an accepted writing says of its arguments, and an accepted reading of its file. Assumes nothing.
use mathlib.Core.Path.{◌≡◌, sym, ap, ◌∙◌}
use mathlib.Core.List.{List}
use Prim.Native.Nat.{ℕ, zero, suc, ◌+◌, ◌*◌, ◌≤◌}
use native.Mathlib.Omega.{arith}
use lib.Dec.{T, leb, eqb, leb→le, le→leb, eqb→eq}
use lib.IntN.{ℤ}
use lib.ListN.{length}
use Rattle.mathematics.specs.Inner.Splices.{splice}
use Rattle.mathematics.proofs.Splices.{splice_whole}
use Rattle.pyramid.specs.declared.Settings.{Settings}
use Rattle.pyramid.specs.Definitions.Sizes.{nodes_at, nodes_to, total}
use Rattle.pyramid.specs.Inner.Lawful.{Shaped, Lawful}
use Rattle.pyramid.specs.Definitions.Refusals.{settings_refusal, values_ok}
use Rattle.pyramid.proofs.Refusals.{first_nil, first_none, first_pass, unless_holds, unless_none, accepted_shape, accepted_settings}
use Rattle.pyramid.proofs.Sizes.{nodes_to-zero, nodes_to-suc, total-is}
use Rattle.bale.specs.declared.Note.{Note}
use Rattle.bale.specs.Definitions.Readings.{note_ok}
use Rattle.bale.specs.Definitions.Files.{shape_count, file_length}
use Rattle.bale.specs.Definitions.Reader.{count_in, depth_in, levels_place, settings_in, levels_from, levels_in, shape_section_refusal, level_sections_refusal, body_refusal}
use Rattle.bale.specs.Definitions.Calls.{write_refusal, read_refusal}
use Rattle.bale.proofs.Sections.{eqb_of}
use Rattle.bale.proofs.LevelTrips.{length_from}

-- ---- the writer

pub record AcceptedWriting (s : Settings) (note : Note) (levels : List ℤ) (room : ℕ) : Type 0 where
  pub settings : settings_refusal s ≡ 0
  pub law : Lawful s
  pub noted : T (note_ok note)
  pub long : length levels ≡ total s
  pub fits : file_length s ≤ room
  pub valued : T (values_ok s levels)

pub accepted_writing : (s : Settings) (note : Note) (levels : List ℤ) (room : ℕ) → write_refusal s note levels room ≡ 0 → AcceptedWriting s note levels room
unfolding write_refusal
accepted_writing s note levels room e =
    let (settings, e₄) = first_none _ _ e in
    let (four, e₆) = first_none _ _ e₄ in
    let (six, e₈) = first_none _ _ e₆ in
    let (eight, e₁₁) = first_none _ _ e₈ in
    let (eleven, _) = first_none _ _ e₁₁ in
    record {
      settings = settings;
      law = accepted_settings s settings;
      noted = unless_none (note_ok note) 3 four;
      long = eqb→eq _ _ (unless_none (eqb (length levels) (total s)) 5 six);
      fits = leb→le _ _ (unless_none (leb (file_length s) room) 7 eight);
      valued = unless_none (values_ok s levels) 10 eleven;
    }

pub writing_accepted : (s : Settings) (note : Note) (levels : List ℤ) (room : ℕ) → settings_refusal s ≡ 0 → T (note_ok note) → length levels ≡ total s
    → file_length s ≤ room → T (values_ok s levels) → write_refusal s note levels room ≡ 0
unfolding write_refusal
writing_accepted s note levels room settings noted long fits valued =
    first_pass _ settings
    (first_pass _ (unless_holds (note_ok note) 4 noted)
    (first_pass _ (unless_holds (eqb (length levels) (total s)) 6 (eqb_of long))
    (first_pass _ (unless_holds (leb (file_length s) room) 8 (le→leb (file_length s) room fits))
    (first_pass _ (unless_holds (values_ok s levels) 11 valued) first_nil))))

-- ---- the reader

module _ (bytes : List ℕ) where
  file_end : (s : Settings) (l at : ℕ) → level_sections_refusal bytes s l at ≡ 0 → at + 2 * (l + 1) + 2 * nodes_to s l ≡ length bytes
  unfolding level_sections_refusal
  file_end s zero at e =
      let (_, e₁₂) = first_none _ _ e in
      let end : length bytes ≡ at + 2 + 2 * nodes_at s 0 = eqb→eq _ _ (unless_none (eqb (length bytes) (at + 2 + 2 * nodes_at s 0)) 11 (first_none _ _ e₁₂).0) in
      omega (arith, nodes_to-zero s)
  file_end s (suc l) at e =
      let (_, e₂) = first_none _ _ e in
      omega (arith, nodes_to-suc s l, file_end s l (at + 2 + 2 * nodes_at s (suc l)) (first_none _ _ e₂).0)

  pub record AcceptedFile (places : ℕ) : Type 0 where
    pub counted : count_in bytes ≡ shape_count (settings_in bytes)
    pub shaped : Shaped (settings_in bytes)
    pub places_are : places ≡ total (settings_in bytes)
    pub whole : levels_place (settings_in bytes) + 2 * ((settings_in bytes).depth + 1) + 2 * nodes_to (settings_in bytes) (settings_in bytes).depth ≡ length bytes

  pub accepted_file : (places : ℕ) → read_refusal bytes places ≡ 0 → AcceptedFile places
  unfolding read_refusal shape_section_refusal body_refusal settings_in
  accepted_file places e =
      let (shape, e₆) = first_none _ _ e in
      let (six, body) = first_none _ _ e₆ in
      let (_, e₁₀) = first_none _ _ shape in
      let (ten, e₁) = first_none _ _ e₁₀ in
      let (_, e₄) = first_none _ _ (first_none _ _ body).0 in
      let (_, e₉) = first_none _ _ e₄ in
      record {
        counted = eqb→eq _ _ (unless_none (eqb (count_in bytes) (shape_count (settings_in bytes))) 9 ten);
        shaped = accepted_shape (settings_in bytes) (first_none _ _ e₁).0;
        places_are = eqb→eq _ _ (unless_none (eqb places (total (settings_in bytes))) 5 six);
        whole = file_end (settings_in bytes) (depth_in bytes) (levels_place (settings_in bytes)) (first_none _ _ e₉).0;
      }

  -- what fills the level buffer is all that it then holds
  pub filled : (s : Settings) (levels : List ℤ) {new : List ℤ} → s ≡ settings_in bytes → read_refusal bytes (length levels) ≡ 0
      → new ≡ splice 0 (levels_from bytes s s.depth (levels_place s)) levels → new ≡ levels_in bytes
  unfolding settings_in
  filled s levels e accepted q =
      let n : length (levels_in bytes) ≡ length levels =
      length_from (settings_in bytes) bytes (depth_in bytes) (levels_place (settings_in bytes)) ∙ sym (total-is (settings_in bytes))
      ∙ sym (accepted_file (length levels) accepted).places_are
      in
      q ∙ ap (λ (x : Settings). splice 0 (levels_from bytes x x.depth (levels_place x)) levels) e ∙ splice_whole (levels_in bytes) levels n

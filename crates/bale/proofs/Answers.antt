-- What the writer and the readers answer and leave, refused and accepted. Assumes nothing.
use mathlib.Core.Path.{◌≡◌, refl, sym, ap, ◌∙◌}
use mathlib.Core.List.{List, ◌++◌}
use Prim.Native.Nat.{ℕ, zero, suc}
use borrow.Author.Tests.{eq-eqb, ne_eqb}
use lib.IntN.{ℤ}
use lib.ListN.{length, drop}
use Rattle.refusals.specs.Definitions.Outcomes.{outcome}
use Rattle.pyramid.specs.declared.Settings.{Settings}
use Rattle.pyramid.specs.Definitions.Sizes.{total}
use Rattle.pyramid.specs.Definitions.Calls.{leaves}
use Rattle.pyramid.proofs.Refusals.{first_skip, first-last, answers_fails, unless_passes, leaves_new, leaves_kept, outcome_left}
use Rattle.bale.specs.declared.Note.{Note}
use Rattle.bale.specs.Definitions.Files.{file_of, file_length}
use Rattle.bale.specs.Definitions.Reader.{settings_in, note_in, levels_in, shape_section_refusal, body_refusal}
use Rattle.bale.specs.Definitions.Calls.{bale_in, check_refusal, check_file, write_refusal, write_file, no_settings, no_note, bale_of, read_refusal, read_file}

-- ---- the writer

module _ (s : Settings) (note : Note) (levels : List ℤ) (file : List ℕ) where
  pub writing_refusal : (write_file s note levels file).answer.refusal ≡ write_refusal s note levels (length file)
  unfolding write_file
  writing_refusal = refl

  pub writing_is : write_refusal s note levels (length file) ≡ 0
      → write_file s note levels file ≡ record { answer = record { refusal = 0; size = file_length s }; file = file_of s note levels ++ drop (file_length s) file }
  unfolding write_file
  writing_is e = rw (e, leaves_new 0 (file_length s) 0 refl, leaves_new 0 (file_of s note levels ++ drop (file_length s) file) file refl)

-- a call that is refused, and one that is not
module _ (s : Settings) (note : Note) (levels : List ℤ) (file : List ℕ) where
  pub writing_left : outcome (write_refusal s note levels (length file)) (file_length s)
      ≡ outcome (write_file s note levels file).answer.refusal (write_file s note levels file).answer.size
  unfolding write_file
  writing_left = sym (outcome_left _ _ _)

  pub writing_kept : (write_refusal s note levels (length file) ≡ 0 → ⊥) → file ≡ (write_file s note levels file).file
  unfolding write_file
  writing_kept refused = sym (leaves_kept _ _ _ refused)

  pub writing_put : write_refusal s note levels (length file) ≡ 0 → file_of s note levels ++ drop (file_length s) file ≡ (write_file s note levels file).file
  unfolding write_file
  writing_put none = sym (leaves_new _ _ _ none)

-- ---- the reader

module _ (bytes : List ℕ) where
  pub bale_is : bale_of bytes 0 ≡ record { refusal = 0; settings = settings_in bytes; note = note_in bytes (settings_in bytes) }
  unfolding bale_of
  bale_is = rw (leaves_new 0 (settings_in bytes) no_settings refl, leaves_new 0 (note_in bytes (settings_in bytes)) no_note refl)

  -- what is left to look at
  check_left : shape_section_refusal bytes ≡ 0 → check_refusal bytes ≡ body_refusal bytes
  unfolding check_refusal
  check_left shape = first_skip _ _ shape ∙ first-last _

  module _ (levels : List ℤ) (shape : shape_section_refusal bytes ≡ 0) where
    pub places_wrong : (length levels ≡ total (settings_in bytes) → ⊥) → 6 ≡ read_refusal bytes (length levels)
    unfolding read_refusal
    places_wrong wrong = answers_fails _ (ne_eqb _ _ wrong) ∙ sym (first_skip _ _ shape)

    pub places_right : length levels ≡ total (settings_in bytes) → read_refusal bytes (length levels) ≡ body_refusal bytes
    unfolding read_refusal
    places_right right = first_skip _ _ shape ∙ first_skip _ _ (unless_passes 6 (eq-eqb _ _ right)) ∙ first-last _

  -- what a call answers of the bale
  pub bale_left : (n : ℕ) → outcome n (bale_in (bale_of bytes n)) ≡ outcome n (record { settings = settings_in bytes; note = note_in bytes (settings_in bytes) })
  unfolding outcome bale_of leaves
  bale_left zero = refl
  bale_left (suc n) = refl

  pub checked : shape_section_refusal bytes ≡ 0
      → outcome (body_refusal bytes) (record { settings = settings_in bytes; note = note_in bytes (settings_in bytes) })
      ≡ outcome (check_file bytes).refusal (bale_in (check_file bytes))
  unfolding check_file bale_of
  checked shape = sym (bale_left (body_refusal bytes)) ∙ ap (λ (n : ℕ). outcome n (bale_in (bale_of bytes n))) (sym (check_left shape))

  pub reading_is : (levels : List ℤ) → read_refusal bytes (length levels) ≡ 0
      → read_file bytes levels ≡ record { answer = record { refusal = 0; settings = settings_in bytes; note = note_in bytes (settings_in bytes) }; levels = levels_in bytes }
  unfolding read_file
  reading_is levels e = rw (e, bale_is, leaves_new 0 (levels_in bytes) levels refl)

-- a call that is refused, and one that is not
module _ (bytes : List ℕ) (levels : List ℤ) where
  pub reading_left : outcome (read_refusal bytes (length levels)) (record { settings = settings_in bytes; note = note_in bytes (settings_in bytes) })
      ≡ outcome (read_file bytes levels).answer.refusal (bale_in (read_file bytes levels).answer)
  unfolding read_file bale_of
  reading_left = sym (bale_left bytes (read_refusal bytes (length levels)))

  pub reading_kept : (read_refusal bytes (length levels) ≡ 0 → ⊥) → levels ≡ (read_file bytes levels).levels
  unfolding read_file
  reading_kept refused = sym (leaves_kept _ _ _ refused)

  pub reading_filled : read_refusal bytes (length levels) ≡ 0 → levels_in bytes ≡ (read_file bytes levels).levels
  unfolding read_file
  reading_filled none = sym (leaves_new _ _ _ none)

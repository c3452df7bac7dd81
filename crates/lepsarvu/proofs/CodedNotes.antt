-- The writer that is handed kinds and numbers for its readings: which refusal comes first, and what is left. Assumes nothing.
use mathlib.Core.Path.{◌≡◌, refl, sym, ap, ◌∙◌}
use mathlib.Core.List.{List, [], ◌∷◌}
use Prim.Native.Nat.{ℕ, zero, suc, ◌+◌, ◌≤◌}
use lib.IntN.{ℤ}
use lib.ListN.{length, get_or}
use Rattle.refusals.specs.Definitions.Outcomes.{outcome}
use Rattle.refusals.specs.Checks.Numbers.{greatest}
use Rattle.pyramid.specs.declared.Settings.{Settings}
use Rattle.pyramid.specs.Definitions.Refusals.{first, settings_refusal}
use Rattle.pyramid.specs.Definitions.Calls.{leaves}
use Rattle.pyramid.specs.Checks.Numbers.{settings_numbers}
use Rattle.pyramid.proofs.Numbers.{pyramid_numbers}
use Rattle.pyramid.proofs.Refusals.{first_stop, first_skip, first-last, leaves_kept, outcome_left}
use Rattle.bale.specs.declared.Note.{Note}
use Rattle.bale.specs.Definitions.Files.{file_length}
use Rattle.bale.specs.Definitions.Calls.{write_refusal, write_file}
use Rattle.bale.specs.Checks.Numbers.{writing_numbers}
use Rattle.bale.proofs.Numbers.{bale_numbers}
use Rattle.bale.proofs.Answers.{writing_refusal}
use Rattle.lepsarvu.specs.Definitions.Exports.{reading_at, note_of, coded_refusal, coded_file}
use Rattle.lepsarvu.proofs.Given.{small, one_small}

left_twice : {A : Type 0} (n : ℕ) (new old : A) → leaves n new old ≡ leaves n (leaves n new old) old
unfolding leaves
left_twice zero new old = refl
left_twice (suc n) new old = refl

first_most : (x : ℕ) (later : List ℕ) → x ≤ greatest → first later ≤ greatest → first (x ∷ later) ≤ greatest
unfolding first
first_most zero later h k = k
first_most (suc n) later h k = h

module _ (s : Settings) (numbers : List ℕ) (levels : List ℤ) (file : List ℕ) where
  abbrev given-note : Note
  given-note = note_of numbers

  abbrev drier : ℕ
  drier = (reading_at numbers 0).refusal

  abbrev press : ℕ
  press = (reading_at numbers 2).refusal

  abbrev coded : ℕ
  coded = coded_refusal s numbers levels (length file)

  -- ---- which refusal comes first

  pub settings_first : (settings_refusal s ≡ 0 → ⊥) → coded ≡ settings_refusal s
  unfolding coded_refusal
  settings_first r = first_stop _ _ r

  module _ (none : settings_refusal s ≡ 0) where
    pub drier_first : (drier ≡ 0 → ⊥) → coded ≡ drier
    unfolding coded_refusal
    drier_first r = first_skip _ _ none ∙ first_stop _ _ r

    module _ (dry : drier ≡ 0) where
      pub press_first : (press ≡ 0 → ⊥) → coded ≡ press
      unfolding coded_refusal
      press_first r = first_skip _ _ none ∙ first_skip _ _ dry ∙ first_stop _ _ r

      pub writer_first : press ≡ 0 → coded ≡ write_refusal s given-note levels (length file)
      unfolding coded_refusal
      writer_first pressed = first_skip _ _ none ∙ first_skip _ _ dry ∙ first_skip _ _ pressed ∙ first-last _

  -- ---- what is left in the file buffer

  pub file_kept : (coded ≡ 0 → ⊥) → file ≡ coded_file s numbers levels file
  unfolding coded_file
  file_kept r = sym (leaves_kept _ _ _ r)

  -- what the writer leaves and answers, where it is the one that is asked
  module _ (e : coded ≡ write_refusal s given-note levels (length file)) where
    pub file_written : (write_file s given-note levels file).file ≡ coded_file s numbers levels file
    unfolding coded_file write_file
    file_written = rw e (left_twice (write_refusal s given-note levels (length file)) _ file)

    pub size_answered : outcome (write_file s given-note levels file).answer.refusal (write_file s given-note levels file).answer.size ≡ outcome coded (file_length s)
    unfolding write_file
    size_answered = outcome_left _ _ _ ∙ ap (λ (n : ℕ). outcome n (file_length s)) (sym e)

  -- ---- the number is that of a refusal

  settings_number : settings_refusal s ≤ greatest
  unfolding small
  settings_number = one_small (0 ∷ settings_numbers) _ tt (pyramid_numbers s).of_settings

  reading_number : (i : ℕ) → (reading_at numbers i).refusal ≤ greatest
  unfolding small reading_at
  reading_number i = one_small (0 ∷ 4 ∷ []) _ tt (bale_numbers.of_decoding (get_or numbers i 0) (get_or numbers (i + 1) 0))

  writer_number : write_refusal s given-note levels (length file) ≤ greatest
  unfolding small
  writer_number =
      let h : (write_file s given-note levels file).answer.refusal ≤ greatest = one_small (0 ∷ writing_numbers) _ tt (bale_numbers.of_writing s given-note levels file) in
      rw (writing_refusal s given-note levels file) at h

  pub coded_number : coded ≤ greatest
  unfolding coded_refusal
  coded_number =
      first_most _ _ settings_number
      (first_most _ _ (reading_number 0)
      (first_most _ _ (reading_number 2) (rw first-last writer_number)))

-- What a reader that knows no black and white makes of a file: black and white say which count the file begins with. Assumes nothing.
use mathlib.Core.Path.{◌≡◌, refl, sym, ◌∙◌}
use mathlib.Core.Bool.{Bool, true, false, cond}
use mathlib.Core.List.{List, [], ◌∷◌, ◌++◌}
use Prim.Native.Nat.{ℕ, ◌≤◌}
use native.Mathlib.Omega.{arith}
use borrow.Author.Tests.{le-leb, ne_eqb}
use lib.Dec.{T}
use lib.IntN.{ℤ}
use lib.ListN.{length, take}
use Rattle.pyramid.specs.declared.Settings.{Settings}
use Rattle.pyramid.proofs.Refusals.{answers_fails, answers_passes}
use Rattle.bale.specs.declared.Note.{Note}
use Rattle.bale.specs.Definitions.Words.{le16, words, u16_at}
use Rattle.bale.specs.Definitions.Sections.{numbers_section, section_refusal}
use Rattle.bale.specs.Definitions.Files.{every_grey, shape_section, bins_section, readings_section, level_sections, file_of}
use Rattle.bale.specs.Theorems.OldReaders.{EveryGrey, OldReader, OldReaders}
use Rattle.bale.proofs.Forms.{every_of, every_is}

module _ (s : Settings) (note : Note) (levels : List ℤ) where
  abbrev after : List ℕ
  after = bins_section s ++ (readings_section note ++ level_sections s s.depth levels)

  -- the file, by the test of black and white
  file_by : Bool → List ℕ
  file_by every = numbers_section (s.columns ∷ s.rows ∷ s.depth ∷ s.kernel ∷ cond every [] (s.black ∷ s.white ∷ [])) ++ after

  file_is : file_of s note levels ≡ file_by (every_grey s)
  unfolding file_of shape_section file_by
  file_is = refl

  every_by : (every : Bool) → (T every → EveryGrey s) → ¬ EveryGrey s → every ≡ false
  every_by true is other = absurd (other (is tt))
  every_by false is other = refl

  begins_by : take 2 (file_by false) ≡ 0x06 ∷ 0x00 ∷ []
  unfolding file_by numbers_section le16 words
  begins_by = refl

  counted : u16_at (file_by false) 0 ≡ 6
  unfolding file_by numbers_section le16 words u16_at
  counted = refl

  there : 2 ≤ length (file_by false)
  unfolding file_by numbers_section le16 words
  there = omega arith

  refused_by : 10 ≡ section_refusal (file_by false) 0 4 2
  unfolding section_refusal
  refused_by = answers_fails _ (ne_eqb _ _ (λ e. omega (arith, counted, e))) ∙ answers_passes 9 _ (le-leb _ _ there)

  old_reader : OldReader s note levels
  old_reader = record {
    same = λ (black, white). rw (file_is, every_of s black white) (unfold file_by in refl);
    begins = λ other. rw (file_is, every_by (every_grey s) (every_is s) other) begins_by;
    refused = λ other. rw (file_is, every_by (every_grey s) (every_is s) other) (sym refused_by);
  }

pub old_readers : OldReaders
old_readers s note levels = old_reader s note levels

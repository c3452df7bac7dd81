-- Each number of the writer is given on its condition and on no other, since it looks through rules with their tests. Assumes nothing.
use mathlib.Core.Path.{◌≡◌, refl}
use mathlib.Core.Logic.Iff
use mathlib.Core.Logic.{◌↔◌}
use mathlib.Core.Bool.{Bool, true, false, cond}
use mathlib.Core.List.{List, [], ◌∷◌, ◌++◌}
use Prim.Native.Nat.{ℕ, ◌+◌, ◌*◌, ◌≤◌, ◌<◌}
use lib.Dec.{T, leb, ltb, eqb, ltb→lt, lt→ltb, eqb→eq}
use lib.Ieee.{Float, binary32, le, to_bits, of_bits}
use lib.IntN.{ℤ}
use lib.ListN.{length}
use Rattle.pyramid.specs.declared.Settings.{Settings}
use Rattle.pyramid.specs.Definitions.Sizes.{total}
use Rattle.pyramid.specs.Definitions.Refusals.{first}
use Rattle.pyramid.proofs.Refusals.{unless_none, unless_holds}
use Rattle.pyramid.proofs.Rules.{Tested, refusals, first_join, both_say, given}
use Rattle.pyramid.proofs.RuleTests.{le_decides}
use Rattle.pyramid.proofs.Conditions.{settings_tests, levels_test, values_test, settings_look}
use Rattle.bale.specs.declared.Reading.{Reading}
use Rattle.bale.specs.declared.Reading.TheVariants.{NotFitted, Percentage, Fault}
use Rattle.bale.specs.declared.Note.{Note}
use Rattle.bale.specs.Definitions.Readings.{percentage_ok, fault_ok, code_where, code_of, reading_ok, note_ok}
use Rattle.bale.specs.Definitions.Files.{every_grey, shape_count, file_length}
use Rattle.bale.specs.Definitions.Calls.{size_answer, write_refusal, write_file}
use Rattle.bale.specs.Checks.Conditions.{ReadingRule, grey_bytes, WriterConditions}
use Rattle.bale.proofs.Sections.{eqb_of}

-- ---- tests that decide

code_decides : (ok : Bool) (kind number : ℕ) → T (eqb (code_where ok kind number).refusal 0) ↔ T ok
unfolding code_where
code_decides ok kind number = (λ t. unless_none ok 3 (eqb→eq _ 0 t), λ t. eqb_of (unless_holds ok 4 t))

percentage_decides : (bits : ℕ) (x : Float) → T (percentage_ok bits x) ↔ ((bits < 0x8000_0000) × T (le x (of_bits binary32 0x42C8_0000)))
unfolding percentage_ok
percentage_decides bits x = both_say (ltb bits 0x8000_0000) (le x (of_bits binary32 0x42C8_0000)) (ltb→lt bits 0x8000_0000, lt→ltb bits 0x8000_0000) (λ t. t, λ t. t)

fault_decides : (code : ℕ) → T (fault_ok code) ↔ ((1 ≤ code) × (code ≤ 255))
unfolding fault_ok
fault_decides code = both_say (leb 1 code) (leb code 255) (le_decides 1 code) (le_decides code 255)

reading_decides : (r : Reading) → T (reading_ok r) ↔ ReadingRule r
unfolding code_of
reading_decides NotFitted = code_decides true 0 0
reading_decides (Percentage x) = Iff.trans (code_decides _ 1 _) (percentage_decides (to_bits binary32 x) x)
reading_decides (Fault code) = Iff.trans (code_decides _ 2 code) (fault_decides code)

pub note_decides : (note : Note) → T (note_ok note) ↔ (ReadingRule note.before_drier × ReadingRule note.at_press)
unfolding note_ok
note_decides note =
    both_say (reading_ok note.before_drier) (reading_ok note.at_press) (reading_decides note.before_drier) (reading_decides note.at_press)

-- the file's length in document 01's words
length_is : (s : Settings) → file_length s ≡ 24 + grey_bytes s + 4 * (s.depth + 1) + 2 * total s
unfolding file_length shape_count
length_is s = by (every_grey s)
  where
    by : (every : Bool) → 16 + 2 * cond every 4 6 + 4 * (s.depth + 1) + 2 * total s ≡ 24 + cond every 0 4 + 4 * (s.depth + 1) + 2 * total s
    by true = refl
    by false = refl

pub room_decides : (s : Settings) (room : ℕ) → T (leb (file_length s) room) ↔ (24 + grey_bytes s + 4 * (s.depth + 1) + 2 * total s ≤ room)
room_decides s room = rw (← length_is s) (le_decides (file_length s) room)

-- ---- the writer

module _ (s : Settings) (note : Note) (levels : List ℤ) (room : ℕ) where
  abbrev own_tests : List Tested
  own_tests =
      record {
        number = 4;
        test = note_ok note;
        says = ReadingRule note.before_drier × ReadingRule note.at_press;
        decides = note_decides note;
      }
      ∷ levels_test s levels
      ∷ record { number = 8; test = leb (file_length s) room; says = 24 + grey_bytes s + 4 * (s.depth + 1) + 2 * total s ≤ room; decides = room_decides s room }
      ∷ values_test s levels
      ∷ []

  abbrev pub writing_tests : List Tested
  writing_tests = settings_tests s ++ own_tests

  pub writing_looks : write_refusal s note levels room ≡ first (refusals writing_tests)
  unfolding write_refusal
  writing_looks = rw (settings_look s) (first_join [] (refusals (settings_tests s)) (refusals own_tests))

pub writer_conditions : (s : Settings) → WriterConditions s
unfolding size_answer write_file
writer_conditions s = record {
  of_size = given (settings_tests s) (settings_look s) tt;
  of_writing = λ note levels file. given (writing_tests s note levels (length file)) (writing_looks s note levels (length file)) tt;
}

-- Each number of the writer is given on its condition and on no other (document 01, "Who can cause which refusal"). Assumes nothing.
use Rattle.std.specs.Prelude.{cond, ◌&&◌, eqb, List, [], ◌∷◌, ◌++◌, ℕ, ◌+◌, ◌*◌, ◌≤◌, ◌<◌, T, ℤ, length}
use Rattle.std.specs.Float.{binary32}
use Rattle.std.specs.Float.Ieee.{le, to_bits, of_bits}
use Rattle.pyramid.specs.declared.Settings.{Settings}
use Rattle.pyramid.specs.Definitions.Sizes.{total}
use Rattle.pyramid.specs.Checks.Conditions.{Rule, Given, settings_rules, levels_rule, values_rule}
use Rattle.bale.specs.declared.Reading.{Reading}
use Rattle.bale.specs.declared.Reading.TheVariants.{NotFitted, Percentage, Fault}
use Rattle.bale.specs.declared.Note.{Note}
use Rattle.bale.specs.Definitions.Calls.{size_answer, write_file}

-- either reading may be not fitted; a percentage has a clear sign bit and is at most 100, whose bits are 42C80000; a fault code is 1 to 255
abbrev pub ReadingRule : Reading → Type 0
ReadingRule NotFitted = Unit {0}
ReadingRule (Percentage x) = (to_bits binary32 x < 0x8000_0000) × T (le x (of_bits binary32 0x42C8_0000))
ReadingRule (Fault code) = (1 ≤ code) × (code ≤ 255)

-- the bytes of black and white, which a file holds where they are not 0 and 255
abbrev pub grey_bytes : Settings → ℕ
grey_bytes s = cond (eqb s.black 0 && eqb s.white 255) 0 4

-- the writer looks for the settings' numbers, then 4, 6, 8, 11; a file has 24 + 4(N + 1) + 2T bytes beside those
abbrev pub writing_rules : Settings → Note → List ℤ → ℕ → List Rule
writing_rules s note levels room =
    settings_rules s
    ++ (record { number = 4; says = ReadingRule note.before_drier × ReadingRule note.at_press }
    ∷ levels_rule s levels
    ∷ record { number = 8; says = 24 + grey_bytes s + 4 * (s.depth + 1) + 2 * total s ≤ room }
    ∷ values_rule s levels
    ∷ [])

pub record WriterConditions (s : Settings) : Type 0 where
  pub of_size : Given (settings_rules s) (size_answer s).refusal
  pub of_writing : (note : Note) (levels : List ℤ) (file : List ℕ)
      → Given (writing_rules s note levels (length file)) (write_file s note levels file).answer.refusal

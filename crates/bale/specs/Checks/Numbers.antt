-- Which numbers each call can answer (document 01, "Who can cause which refusal"; document 02, P1 and P5), a row for each call. Assumes nothing.
use Rattle.std.specs.Prelude.{List, [], ◌∷◌, ◌++◌, ℕ, ℤ}
use Rattle.pyramid.specs.declared.Settings.{Settings}
use Rattle.pyramid.specs.Checks.Numbers.{Answers, shape_numbers, settings_numbers}
use Rattle.bale.specs.declared.Reading.{Reading}
use Rattle.bale.specs.declared.Note.{Note}
use Rattle.bale.specs.Definitions.Readings.{code_of, decode}
use Rattle.bale.specs.Definitions.Calls.{size_answer, write_file, check_file, read_file}

abbrev pub writing_numbers : List ℕ
writing_numbers = settings_numbers ++ (4 ∷ 6 ∷ 8 ∷ 11 ∷ [])

-- the counts of any section and the items of those after the shape
abbrev pub section_numbers : List ℕ
section_numbers = 3 ∷ 4 ∷ 9 ∷ 10 ∷ 11 ∷ 12 ∷ []

-- the reader that is lent no level buffer; lent one, it has 6 too
abbrev pub check_numbers : List ℕ
check_numbers = shape_numbers ++ section_numbers

abbrev pub read_numbers : List ℕ
read_numbers = 6 ∷ check_numbers

pub record BaleNumbers : Type 0 where
  pub of_size : (s : Settings) → Answers settings_numbers (size_answer s).refusal
  pub of_writing : (s : Settings) (note : Note) (levels : List ℤ) (file : List ℕ) → Answers writing_numbers (write_file s note levels file).answer.refusal
  pub of_checking : (bytes : List ℕ) → Answers check_numbers (check_file bytes).refusal
  pub of_reading : (bytes : List ℕ) (levels : List ℤ) → Answers read_numbers (read_file bytes levels).answer.refusal
  -- a reading's kind and number, and the reading of these
  pub of_code : (reading : Reading) → Answers (4 ∷ []) (code_of reading).refusal
  pub of_decoding : (kind number : ℕ) → Answers (4 ∷ []) (decode kind number).refusal

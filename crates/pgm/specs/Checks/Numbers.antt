-- Which numbers each call can answer (document 02, P2), a row for each call: reading is total, and the two readers differ in 5 alone.
-- Assumes nothing.
use Rattle.std.specs.Prelude.{◌≡◌, ◌⊎◌, List, [], ◌∷◌, ◌++◌, ℕ}
use Rattle.pyramid.specs.Checks.Numbers.{Answers}
use Rattle.pgm.specs.Definitions.Calls.{size_answer, write_pgm, check_pgm, read_pgm}

abbrev pub size_numbers : List ℕ
size_numbers = 1 ∷ []

abbrev pub writing_numbers : List ℕ
writing_numbers = 1 ∷ 5 ∷ 8 ∷ []

-- the reader that is lent no picture; lent one, it has 5 too
abbrev pub check_numbers : List ℕ
check_numbers = 16 ∷ 1 ∷ 17 ∷ 18 ∷ []

abbrev pub read_numbers : List ℕ
read_numbers = check_numbers ++ (5 ∷ [])

pub record PgmNumbers : Type 0 where
  pub of_size : (columns rows : ℕ) → Answers size_numbers (size_answer columns rows).refusal
  pub of_writing : (columns rows : ℕ) (picture file : List ℕ) → Answers writing_numbers (write_pgm columns rows picture file).answer.refusal
  -- every list of bytes has an answer
  pub of_checking : (bytes : List ℕ) → Answers check_numbers (check_pgm bytes).refusal
  pub of_reading : (bytes picture : List ℕ) → Answers read_numbers (read_pgm bytes picture).answer.refusal
  pub differ : (bytes picture : List ℕ) → ((read_pgm bytes picture).answer.refusal ≡ 5) ⊎ ((read_pgm bytes picture).answer ≡ check_pgm bytes)

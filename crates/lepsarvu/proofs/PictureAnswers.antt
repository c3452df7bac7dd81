-- The numbers that calls on PGM files answer are those of refusals. Assumes nothing.
use Rattle.std.proofs.Common.{List, ◌∷◌, ℕ, ◌≤◌}
use Rattle.refusals.specs.Checks.Numbers.{greatest}
use Rattle.pgm.specs.Definitions.Calls.{size_answer, write_pgm, check_pgm, read_pgm}
use Rattle.pgm.specs.Checks.Numbers.{size_numbers, writing_numbers, check_numbers, read_numbers}
use Rattle.pgm.proofs.Numbers.{pgm_numbers}
use Rattle.lepsarvu.proofs.Given.{small, one_small}

module _ (columns rows : ℕ) where
  pub size_number : (size_answer columns rows).refusal ≤ greatest
  unfolding small
  size_number = one_small (0 ∷ size_numbers) _ tt (pgm_numbers.of_size columns rows)

  pub write_number : (picture file : List ℕ) → (write_pgm columns rows picture file).answer.refusal ≤ greatest
  unfolding small
  write_number picture file = one_small (0 ∷ writing_numbers) _ tt (pgm_numbers.of_writing columns rows picture file)

module _ (bytes : List ℕ) where
  pub check_number : (check_pgm bytes).refusal ≤ greatest
  unfolding small
  check_number = one_small (0 ∷ check_numbers) _ tt (pgm_numbers.of_checking bytes)

  pub read_number : (picture : List ℕ) → (read_pgm bytes picture).answer.refusal ≤ greatest
  unfolding small
  read_number picture = one_small (0 ∷ read_numbers) _ tt (pgm_numbers.of_reading bytes picture)

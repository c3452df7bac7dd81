-- Which numbers each call can answer: 0 or the number of one of the rules that it looks through. Assumes nothing.
use mathlib.Core.Path.{◌≡◌}
use mathlib.Core.Logic.{◌⊎◌, inl, inr}
use mathlib.Core.List.{List, []}
use Prim.Native.Nat.{ℕ, ◌*◌}
use lib.Dec.{eqb}
use lib.ListN.{length}
use Rattle.pyramid.proofs.Refusals.{first-last, unless-more}
use Rattle.pyramid.proofs.Rules.{answered}
use Rattle.pgm.specs.Definitions.Header.{columns_in, rows_in}
use Rattle.pgm.specs.Definitions.Calls.{check_refusal, read_refusal, size_in, check_pgm, read_pgm, write_pgm}
use Rattle.pgm.specs.Checks.Numbers.{PgmNumbers}
use Rattle.pgm.proofs.Conditions.{size_tests, writing_tests, check_tests, read_tests, size_looks, writing_looks, check_looks, read_looks}

-- ---- the two readers

differ_number : (bytes : List ℕ) (places : ℕ) → (read_refusal bytes places ≡ 5) ⊎ (read_refusal bytes places ≡ check_refusal bytes)
unfolding read_refusal
differ_number bytes places = rw (first-last (check_refusal bytes)) at (unless-more (check_refusal bytes) (eqb places (rows_in bytes * columns_in bytes)) 4 [])

differ : (bytes picture : List ℕ) → ((read_pgm bytes picture).answer.refusal ≡ 5) ⊎ ((read_pgm bytes picture).answer ≡ check_pgm bytes)
unfolding read_pgm check_pgm size_in
differ bytes picture = cases (differ_number bytes (length picture))
  where
    cases : (read_refusal bytes (length picture) ≡ 5) ⊎ (read_refusal bytes (length picture) ≡ check_refusal bytes)
        → (read_refusal bytes (length picture) ≡ 5) ⊎ (size_in bytes (read_refusal bytes (length picture)) ≡ size_in bytes (check_refusal bytes))
    cases (inl e) = inl e
    cases (inr e) = inr (rw e)

pub pgm_numbers : PgmNumbers
unfolding write_pgm check_pgm read_pgm size_in
pgm_numbers = record {
  of_size = λ columns rows. answered (size_tests columns rows) (size_looks columns rows);
  of_writing = λ columns rows picture file.
      answered (writing_tests columns rows (length picture) (length file)) (writing_looks columns rows (length picture) (length file));
  of_checking = λ bytes. answered (check_tests bytes) (check_looks bytes);
  of_reading = λ bytes picture. answered (read_tests bytes (length picture)) (read_looks bytes (length picture));
  differ = differ;
}

-- The digits of a number are the only ones that have its value and no needless 0 in front; and numbers worked by hand. Assumes nothing.
use mathlib.Core.Path.{◌≡◌, refl, ap}
use mathlib.Core.List.{List, [], ◌∷◌}
use Prim.Native.Nat.{ℕ, zero, suc}
use native.Mathlib.Omega.{arith}
use lib.Dec.{T, leb, ltb, leb→le, ltb→lt}
use lib.ListN.{length, get_or}
use Rattle.mathematics.specs.Definitions.Tests.{all}
use Rattle.mathematics.proofs.Tests.{both}
use Rattle.decimals.specs.Definitions.Digits.{value, digits}
use Rattle.decimals.specs.Checks.DigitLaws.{Digits, Plain, DigitLaws, WorkedNumber, WorkedNumbers}
use Rattle.decimals.proofs.Digits.{digits_one, digits_none, digits_cons, digits-below, digits_some, digits-first, value_one, value-digits, digits_value, length_digits, digits-length}

-- 0 is written as one 0, and every other number has another digit in front
first_alone : (n : ℕ) → get_or (digits n) 0 0 ≡ 0 → length (digits n) ≡ 1
first_alone zero e = ap length (digits_one 0 (omega arith))
first_alone (suc n) e = absurd (omega (arith, digits-first (suc n) (omega arith)))

again : (ds : List ℕ) → Plain ds → digits (value ds) ≡ ds
again [] p = absurd (omega (arith, p.some))
again (zero ∷ []) p = rw (value_one 0) (digits_one 0 (omega arith))
again (zero ∷ d ∷ ds) p = absurd (omega (arith, p.alone refl))
again (suc d ∷ ds) p = digits_value (suc d) ds (omega arith) p.below

pub digit_laws : DigitLaws
digit_laws =
    record {
      plain = λ n. record { below = digits-below n; some = digits_some n; alone = first_alone n };
      value_of_digits = value-digits;
      digits_of_value = again;
      enough = λ n k h. (digits-length n k, length_digits n k h);
    }

-- a list whose digits are found small by one test, and whose first is not 0
small : (ds : List ℕ) → T (all (λ d. ltb d 10) ds) → Digits ds
unfolding all
small [] t = digits_none
small (d ∷ ds) t = let (h, later) = both (ltb d 10) (all (λ d. ltb d 10) ds) t in digits_cons d ds (ltb→lt d 10 h) (small ds later)

worked : (d : ℕ) (ds : List ℕ) → T (leb 1 d) → T (all (λ d. ltb d 10) (d ∷ ds)) → WorkedNumber (value (d ∷ ds)) (d ∷ ds)
worked d ds first t = record { written = digits_value d ds (leb→le 1 d first) (small (d ∷ ds) t); counted = refl }

pub worked_numbers : WorkedNumbers
unfolding value all
worked_numbers =
    record {
      zero = record { written = digits_one 0 (omega arith); counted = refl };
      seven = worked 7 [] tt tt;
      ten = worked 1 (0 ∷ []) tt tt;
      greatest_side = worked 1 (2 ∷ 9 ∷ []) tt tt;
      greatest_grey = worked 2 (5 ∷ 5 ∷ []) tt tt;
      greatest_word = worked 6 (5 ∷ 5 ∷ 3 ∷ 5 ∷ []) tt tt;
      five_digits = worked 9 (9 ∷ 9 ∷ 9 ∷ 9 ∷ []) tt tt;
      leading_zeros = refl;
    }

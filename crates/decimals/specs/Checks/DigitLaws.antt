-- The digits of a number are the only ones that have its value and no needless 0 in front; how many there are; and numbers worked by hand.
-- Assumes nothing.
use Rattle.std.specs.Prelude.{◌≡◌, ◌↔◌, List, [], ◌∷◌, ℕ, ◌^◌, ◌≤◌, ◌<◌, length, get_or}
use Rattle.decimals.specs.Definitions.Digits.{value, digits}

-- each is below 10: what is read at any place, 0 past the end
abbrev pub Digits : List ℕ → Type 0
Digits ds = (k : ℕ) → get_or ds k 0 < 10

-- the way in which a number is written: there is a digit, and a 0 in front stands alone
pub record Plain (ds : List ℕ) : Type 0 where
  pub below : Digits ds
  pub some : 1 ≤ length ds
  pub alone : get_or ds 0 0 ≡ 0 → length ds ≡ 1

-- one undoes the other
pub record DigitLaws : Type 0 where
  pub plain : (n : ℕ) → Plain (digits n)
  pub value_of_digits : (n : ℕ) → value (digits n) ≡ n
  pub digits_of_value : (ds : List ℕ) → Plain ds → digits (value ds) ≡ ds
  -- k digits are enough just for the numbers below 10 to the k
  pub enough : (n k : ℕ) → 1 ≤ k → (length (digits n) ≤ k) ↔ (n < 10 ^ k)

-- a number, and its digits as they are written by hand
pub record WorkedNumber (n : ℕ) (ds : List ℕ) : Type 0 where
  pub written : digits n ≡ ds
  pub counted : value ds ≡ n

pub record WorkedNumbers : Type 0 where
  pub zero : WorkedNumber 0 (0 ∷ [])
  pub seven : WorkedNumber 7 (7 ∷ [])
  pub ten : WorkedNumber 10 (1 ∷ 0 ∷ [])
  pub greatest_side : WorkedNumber 129 (1 ∷ 2 ∷ 9 ∷ [])
  pub greatest_grey : WorkedNumber 255 (2 ∷ 5 ∷ 5 ∷ [])
  pub greatest_word : WorkedNumber 65535 (6 ∷ 5 ∷ 5 ∷ 3 ∷ 5 ∷ [])
  pub five_digits : WorkedNumber 99999 (9 ∷ 9 ∷ 9 ∷ 9 ∷ 9 ∷ [])
  -- zeros in front count nothing
  pub leading_zeros : value (0 ∷ 0 ∷ 7 ∷ []) ≡ 7

-- Decimal digits (document 02, P2): the value of digits, and the digits of a value; the first digit counts most. Assumes nothing.
use Rattle.std.specs.Prelude.{cond, List, [], ◌∷◌, ◌++◌, ℕ, zero, suc, ◌+◌, ◌*◌, ◌/◌, ◌%◌, ◌^◌, ltb, length}

-- the value of digits: each counts 10 to the number of digits after it
unfoldable pub value : List ℕ → ℕ
value [] = 0
value (d ∷ ds) = d * 10 ^ length ds + value ds

-- the digits of a value that has no more than so many: those of its tens, where there are any, and its ones
unfoldable pub digits_up_to : ℕ → ℕ → List ℕ
digits_up_to zero n = []
digits_up_to (suc most) n = cond (ltb n 10) (n ∷ []) (digits_up_to most (n / 10) ++ (n % 10 ∷ []))

-- n has no more than n + 1 digits
unfoldable pub digits : ℕ → List ℕ
digits n = digits_up_to (suc n) n

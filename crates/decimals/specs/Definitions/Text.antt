-- Numbers as text (document 02, P2: "in decimal"): digits are the bytes 48 to 57. Assumes nothing.
use Rattle.std.specs.Prelude.{Bool, cond, ◌&&◌, List, [], ◌∷◌, ◌++◌, map, ℕ, zero, suc, ◌+◌, ◌-◌, min, eqb, leb, length, take, drop, Option, Some, None}
use Rattle.decimals.specs.declared.Number.{Number}
use Rattle.decimals.specs.Definitions.Digits.{value, digits}

-- ---- written

-- a number's digits, 0 as the byte 48
unfoldable pub decimal : ℕ → List ℕ
decimal n = map (λ d. 48 + d) (digits n)

-- text in a buffer from a place on: bytes before it and after it keep their contents
abbrev pub text_at : ℕ → List ℕ → List ℕ → List ℕ
text_at at text buffer = take at buffer ++ (text ++ drop (at + length text) buffer)

-- where the text has room there; else nothing is written
unfoldable pub has_room : ℕ → List ℕ → List ℕ → Bool
has_room at text buffer = leb (at + length text) (length buffer)

-- ---- read

unfoldable pub is_digit : ℕ → Bool
is_digit b = leb 48 b && leb b 57

-- the digits that a text begins with, no more than so many
unfoldable pub leading_digits : ℕ → List ℕ → List ℕ
leading_digits zero text = []
leading_digits (suc most) [] = []
leading_digits (suc most) (b ∷ text) = cond (is_digit b) ((b - 48) ∷ leading_digits most text) []

-- the number of at most so many digits that begins at a place, and how many digits it has; nine digits always fit 32 bits
unfoldable pub number_at : List ℕ → (at most : ℕ) → Number
number_at text at most =
    let found = leading_digits (min most 9) (drop at text) in
    record { value = value found; digits = length found }

-- there is one, unless it has no digit
unfoldable pub number_found : Number → Option Number
number_found n = cond (eqb n.digits 0) None (Some n)

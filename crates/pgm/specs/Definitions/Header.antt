-- The header of a PGM file (document 02, P2): P5, three numbers with white space before each, and one white space byte before the pixels.
-- Bytes by their codes: 80 is P, 53 is 5, 35 is #, 10 is newline. Assumes nothing.
use Rattle.std.specs.Prelude.{Bool, true, false, not, cond, ◌&&◌, ◌||◌, List, [], ◌∷◌, ℕ, suc, ◌+◌, ltb, eqb, get_or, drop}
use Rattle.decimals.specs.Definitions.Text.{number_at}

-- space, tab, newline or carriage return
unfoldable pub is_space : ℕ → Bool
is_space b = eqb b 32 || eqb b 9 || eqb b 10 || eqb b 13

-- how many bytes are white space, comments counted as such: one goes from # up to and with the next newline. The test says whether the first
-- byte is inside a comment
unfoldable pub spaces : Bool → List ℕ → ℕ
spaces inside [] = 0
spaces true (b ∷ bytes) = suc (spaces (not (eqb b 10)) bytes)
spaces false (b ∷ bytes) = cond (is_space b || eqb b 35) (suc (spaces (eqb b 35) bytes)) 0

module _ (bytes : List ℕ) where
  -- ---- a number of one to five digits, and white space before it, from a place on

  -- where its digits start and end
  unfoldable pub digits_place : ℕ → ℕ
  digits_place at = at + spaces false (drop at bytes)

  unfoldable pub number_end : ℕ → ℕ
  number_end at = digits_place at + (number_at bytes (digits_place at) 5).digits

  unfoldable pub number_in : ℕ → ℕ
  number_in at = (number_at bytes (digits_place at) 5).value

  -- there is white space, and there is a digit
  unfoldable pub number_ok : ℕ → Bool
  number_ok at = ltb at (digits_place at) && ltb (digits_place at) (number_end at)

  -- ---- width, height and greatest grey, each after the one before it, and the pixels

  abbrev pub rows_place : ℕ
  rows_place = number_end 2

  abbrev pub greatest_place : ℕ
  greatest_place = number_end rows_place

  abbrev pub last_space : ℕ
  last_space = number_end greatest_place

  abbrev pub columns_in : ℕ
  columns_in = number_in 2

  abbrev pub rows_in : ℕ
  rows_in = number_in rows_place

  abbrev pub greatest_in : ℕ
  greatest_in = number_in greatest_place

  -- a byte past the end is 0, which is none of those that are looked for
  unfoldable pub header_ok : Bool
  header_ok =
      eqb (get_or bytes 0 0) 80 && eqb (get_or bytes 1 0) 53
      && number_ok 2 && number_ok rows_place && number_ok greatest_place
      && is_space (get_or bytes last_space 0)

  abbrev pub pixels_place : ℕ
  pixels_place = last_space + 1

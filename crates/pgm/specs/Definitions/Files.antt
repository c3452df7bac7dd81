-- The single form in which a PGM file is written (document 02, P2): P5, newline, width, space, height, newline, 255, newline, pixels.
-- Assumes nothing.
use Rattle.std.specs.Prelude.{List, [], ◌∷◌, ◌++◌, ℕ, ◌+◌, ◌*◌, length, drop}
use Rattle.decimals.specs.Definitions.Text.{decimal}
use Rattle.pgm.specs.Definitions.Header.{columns_in, rows_in, pixels_place}

-- a number, and the white space byte after it
unfoldable pub number_then : ℕ → ℕ → List ℕ
number_then n space = decimal n ++ (space ∷ [])

-- 80 is P, 53 is 5, 10 is newline, 32 is space
unfoldable pub header_of : ℕ → ℕ → List ℕ
header_of columns rows = (80 ∷ 53 ∷ 10 ∷ []) ++ (number_then columns 32 ++ (number_then rows 10 ++ number_then 255 10))

unfoldable pub pgm_of : ℕ → ℕ → List ℕ → List ℕ
pgm_of columns rows picture = header_of columns rows ++ picture

-- its bytes
unfoldable pub pgm_length : ℕ → ℕ → ℕ
pgm_length columns rows = length (header_of columns rows) + rows * columns

-- the single form of a file
abbrev pub single_form : List ℕ → List ℕ
single_form bytes = pgm_of (columns_in bytes) (rows_in bytes) (drop (pixels_place bytes) bytes)

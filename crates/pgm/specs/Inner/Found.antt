-- What is found in a header, as the code holds it; and how a comment is followed byte by byte. Assumes nothing.
use Rattle.std.specs.Prelude.{Bool, true, not, cond, ◌||◌, List, ℕ, eqb, drop, Option, Some, None, Result, Ok, Err}
use Rattle.refusals.specs.declared.Refusal.{Refusal}
use Rattle.pyramid.specs.declared.Dimensions.{Dimensions}
use Rattle.pgm.specs.declared.finding.Field.{Field}
use Rattle.pgm.specs.declared.finding.Header.{Header}
use Rattle.pgm.specs.declared.checking.Picture.{Picture}
use Rattle.pgm.specs.Definitions.Header.{is_space, number_in, number_end, number_ok, header_ok, columns_in, rows_in, greatest_in, pixels_place}

-- a byte counts as white space before a number, and the next byte is inside a comment
unfoldable pub passed : Bool → ℕ → Bool
passed inside b = cond inside true (is_space b || eqb b 35)

unfoldable pub inside_after : Bool → ℕ → Bool
inside_after inside b = cond inside (not (eqb b 10)) (eqb b 35)

module _ (bytes : List ℕ) where
  unfoldable pub field_at : ℕ → Option Field
  field_at at = cond (number_ok bytes at) (Some (record { value = number_in bytes at; end = number_end bytes at })) None

  unfoldable pub header_in : Option Header
  header_in =
      cond (header_ok bytes)
      (Some (record { columns = columns_in bytes; rows = rows_in bytes; greatest = greatest_in bytes; pixels = pixels_place bytes }))
      None

  -- of a file that is accepted, the size and the pixels
  unfoldable pub picture_in : Dimensions × List ℕ
  picture_in = (record { columns = columns_in bytes; rows = rows_in bytes }, drop (pixels_place bytes) bytes)

-- and of an answer
abbrev pub size_and_pixels : Result Picture Refusal → Result (Dimensions × List ℕ) Refusal
size_and_pixels (Ok picture) = Ok (picture.size, picture.pixels.now)
size_and_pixels (Err refusal) = Err refusal

-- A written picture is read back, and a picture that was read is written as the single form of its file: a written file is one of document
-- 02's, and these can be read in one way only. Assumes nothing.
use mathlib.Core.Path.{◌≡◌, refl, sym, ap, ◌∙◌}
use mathlib.Core.List.{List, [], ◌∷◌, append_assoc}
use Prim.Native.Nat.{ℕ, ◌+◌, ◌*◌, ◌≤◌, ◌<◌, ◌^◌}
use native.Mathlib.Nat.{mul-le-mul}
use native.Mathlib.Omega.{arith}
use lib.Dec.{T}
use lib.ListN.{length, drop, length-append, length-drop}
use Rattle.pyramid.specs.Definitions.Settings.{size_ok}
use Rattle.pyramid.proofs.RuleTests.{size_decides}
use Rattle.decimals.specs.Definitions.Digits.{digits}
use Rattle.decimals.specs.Definitions.Text.{decimal}
use Rattle.decimals.proofs.Digits.{digits-below, digits_some, length_digits, value-digits}
use Rattle.decimals.proofs.Text.{decimal-is, decimal_most}
use Rattle.pgm.specs.Definitions.Header.{columns_in, rows_in, pixels_place}
use Rattle.pgm.specs.Definitions.Files.{number_then, header_of, pgm_of, pgm_length, single_form}
use Rattle.pgm.specs.Definitions.Calls.{check_refusal}
use Rattle.pgm.specs.Checks.Grammar.{SpaceByte, space, newline, none, byte, SpacedNumber, IsPgm, ReadAs}
use Rattle.pgm.specs.Theorems.RoundTrips.{WrittenIsRead, WrittenThenRead, ReadIsWritten, ReadThenWritten}
use Rattle.pgm.proofs.Grammar.{header_rule}
use Rattle.pgm.proofs.Acceptance.{AcceptedFile, accepted_file, file_accepted, reading_accepted, checking_is, reading_is, Alike, alike_checked, alike_read, AcceptedWriting, accepted_writing, writing_accepted, writing_is}

-- ---- a written file is one of document 02's

-- a white space byte and a number's digits
spaced : {b : ℕ} (n : ℕ) → SpaceByte b → n < 10 ^ 5 → SpacedNumber (b ∷ decimal n) n
spaced {b} n white h =
    record {
      gap = b ∷ [];
      number = decimal n;
      parts = refl;
      white = byte white none;
      some = omega arith;
      numbered =
          record {
            figures = digits n;
            below = digits-below n;
            some = digits_some n;
            most = length_digits n 5 (omega arith) h;
            written = decimal-is n;
            counted = value-digits n;
          };
    }

module _ (columns rows : ℕ) (picture : List ℕ) (sized : T (size_ok columns rows)) where
  written_is_pgm : IsPgm (pgm_of columns rows picture) columns rows 255 picture
  unfolding pgm_of header_of number_then
  written_is_pgm =
      let small = (size_decides columns rows).0 sized in
      record {
        width = 10 ∷ decimal columns;
        height = 32 ∷ decimal rows;
        grey = 10 ∷ decimal 255;
        last = 10;
        parts = simp append_assoc;
        columned = spaced columns newline (omega arith);
        rowed = spaced rows space (omega arith);
        greyed = spaced 255 newline (omega arith);
        white = newline;
      }

  read_again : ReadAs (pgm_of columns rows picture) columns rows 255 picture
  read_again = header_rule.only (pgm_of columns rows picture) columns rows 255 picture written_is_pgm

  -- ---- its length

  length_header : length (header_of columns rows) ≤ 15
  unfolding header_of number_then
  length_header =
      let small = (size_decides columns rows).0 sized in
      let across = decimal_most columns 3 (omega arith) (omega arith) in
      let along = decimal_most rows 3 (omega arith) (omega arith) in
      let grey = decimal_most 255 3 (omega arith) (omega arith) in
      simp length-append (omega arith)

  length_most : pgm_length columns rows ≤ 16656
  unfolding pgm_length
  length_most =
      let small = (size_decides columns rows).0 sized in
      omega (arith, length_header, mul-le-mul small.1.1 small.0.1)

  module _ (long : length picture ≡ rows * columns) where
    length-is : length (pgm_of columns rows picture) ≡ pgm_length columns rows
    unfolding pgm_of pgm_length
    length-is = omega (arith, length-append (header_of columns rows) picture)

    -- ---- it is accepted, and read as it was

    accepted : AcceptedFile (pgm_of columns rows picture)
    accepted =
        record {
          header = read_again.ok;
          sized = rw (read_again.columned, read_again.rowed) sized;
          grey = read_again.greyed;
          whole = rw (read_again.columned, read_again.rowed) (sym read_again.whole ∙ ap (λ (n : ℕ). pixels_place (pgm_of columns rows picture) + n) long);
        }

    passes : check_refusal (pgm_of columns rows picture) ≡ 0
    passes = file_accepted (pgm_of columns rows picture) accepted

    pub written_is_read : WrittenIsRead columns rows picture
    written_is_read =
        record {
          size = length-is;
          most = length_most;
          read = λ lent e.
              reading_is (pgm_of columns rows picture) lent
              (reading_accepted (pgm_of columns rows picture) (length lent) passes (rw (read_again.columned, read_again.rowed) e))
              ∙ rw (read_again.columned, read_again.rowed, read_again.rest);
          single = rw (read_again.columned, read_again.rowed, read_again.rest);
        }

pub written_then_read : WrittenThenRead
written_then_read columns rows picture room e =
    let a = accepted_writing columns rows (length picture) room e in
    written_is_read columns rows picture a.sized a.long

-- ---- read, then written

module _ (bytes : List ℕ) (e : check_refusal bytes ≡ 0) where
  abbrev columns : ℕ
  columns = columns_in bytes

  abbrev rows : ℕ
  rows = rows_in bytes

  abbrev pixels : List ℕ
  pixels = drop (pixels_place bytes) bytes

  accepted_bytes : AcceptedFile bytes
  accepted_bytes = accepted_file bytes e

  long : length pixels ≡ rows * columns
  long = omega (arith, length-drop (pixels_place bytes) bytes, accepted_bytes.whole)

  single_long : length (single_form bytes) ≡ pgm_length columns rows
  single_long = length-is columns rows pixels accepted_bytes.sized long

  alike : Alike (single_form bytes) bytes
  alike =
      let again = read_again columns rows pixels accepted_bytes.sized in
      record { refused = passes columns rows pixels accepted_bytes.sized long ∙ sym e; columned = again.columned; rowed = again.rowed; pixels = again.rest }

  pub read_is_written : ReadIsWritten bytes
  read_is_written =
      record {
        written = λ lent file room fits.
            let exact : length lent ≡ rows * columns = rw (checking_is bytes e) at room in
            let writing : AcceptedWriting columns rows (length pixels) (length file) = record { sized = accepted_bytes.sized; long = long; fits = rw single_long at fits } in
            rw (reading_is bytes lent (reading_accepted bytes (length lent) e exact), single_long)
            (writing_is columns rows pixels file (writing_accepted columns rows (length pixels) (length file) writing));
        checked = alike_checked (single_form bytes) bytes alike;
        read = alike_read (single_form bytes) bytes alike;
      }

pub read_then_written : ReadThenWritten
read_then_written bytes e = read_is_written bytes e

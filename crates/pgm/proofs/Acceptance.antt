-- What an accepted reading says of its file and an accepted writing of its arguments, and what is then answered and left. Assumes nothing.
use mathlib.Core.Path.{◌≡◌, refl}
use mathlib.Core.List.{List, ◌++◌}
use Prim.Native.Nat.{ℕ, ◌+◌, ◌*◌, ◌≤◌}
use lib.Dec.{T, leb, eqb}
use lib.ListN.{length, drop}
use Rattle.pyramid.specs.Definitions.Settings.{size_ok}
use Rattle.pyramid.proofs.Refusals.{first_nil, first_none, first_pass, unless_holds, unless_none, leaves_new}
use Rattle.pyramid.proofs.RuleTests.{le_decides, eq_decides}
use Rattle.pgm.specs.Definitions.Header.{header_ok, columns_in, rows_in, greatest_in, pixels_place}
use Rattle.pgm.specs.Definitions.Files.{pgm_of, pgm_length}
use Rattle.pgm.specs.Definitions.Calls.{check_refusal, read_refusal, size_in, check_pgm, read_pgm, write_refusal, write_pgm}

-- ---- the readers

pub record AcceptedFile (bytes : List ℕ) : Type 0 where
  pub header : T (header_ok bytes)
  pub sized : T (size_ok (columns_in bytes) (rows_in bytes))
  pub grey : greatest_in bytes ≡ 255
  pub whole : length bytes ≡ pixels_place bytes + rows_in bytes * columns_in bytes

module _ (bytes : List ℕ) where
  pub accepted_file : check_refusal bytes ≡ 0 → AcceptedFile bytes
  unfolding check_refusal
  accepted_file e =
      let (header, e₁) = first_none _ _ e in
      let (sized, e₁₇) = first_none _ _ e₁ in
      let (grey, e₁₈) = first_none _ _ e₁₇ in
      let counted = pixels_place bytes + rows_in bytes * columns_in bytes in
      record {
        header = unless_none (header_ok bytes) 15 header;
        sized = unless_none (size_ok (columns_in bytes) (rows_in bytes)) 0 sized;
        grey = (eq_decides (greatest_in bytes) 255).0 (unless_none (eqb (greatest_in bytes) 255) 16 grey);
        whole = (eq_decides (length bytes) counted).0 (unless_none (eqb (length bytes) counted) 17 (first_none _ _ e₁₈).0);
      }

  pub file_accepted : AcceptedFile bytes → check_refusal bytes ≡ 0
  unfolding check_refusal
  file_accepted a =
      first_pass _ (unless_holds (header_ok bytes) 16 a.header)
      (first_pass _ (unless_holds (size_ok (columns_in bytes) (rows_in bytes)) 1 a.sized)
      (first_pass _ (unless_holds (eqb (greatest_in bytes) 255) 17 ((eq_decides (greatest_in bytes) 255).1 a.grey))
      (first_pass _ (unless_holds (eqb (length bytes) (pixels_place bytes + rows_in bytes * columns_in bytes)) 18 ((eq_decides _ _).1 a.whole)) first_nil)))

  pub reading_accepted : (room : ℕ) → check_refusal bytes ≡ 0 → room ≡ rows_in bytes * columns_in bytes → read_refusal bytes room ≡ 0
  unfolding read_refusal
  reading_accepted room e long =
      first_pass _ e (first_pass _ (unless_holds (eqb room (rows_in bytes * columns_in bytes)) 5 ((eq_decides _ _).1 long)) first_nil)

  pub size_is : size_in bytes 0 ≡ record { refusal = 0; columns = columns_in bytes; rows = rows_in bytes }
  unfolding size_in
  size_is = rw (leaves_new 0 (columns_in bytes) 0 refl, leaves_new 0 (rows_in bytes) 0 refl)

  pub checking_is : check_refusal bytes ≡ 0 → check_pgm bytes ≡ record { refusal = 0; columns = columns_in bytes; rows = rows_in bytes }
  unfolding check_pgm
  checking_is e = rw (e, size_is)

  pub reading_is : (lent : List ℕ) → read_refusal bytes (length lent) ≡ 0
      → read_pgm bytes lent
      ≡ record { answer = record { refusal = 0; columns = columns_in bytes; rows = rows_in bytes }; picture = drop (pixels_place bytes) bytes }
  unfolding read_pgm
  reading_is lent e = rw (e, size_is, leaves_new 0 (drop (pixels_place bytes) bytes) lent refl)

-- two files with the same answer, width, height and pixels are read alike, whatever is lent
pub record Alike (a b : List ℕ) : Type 0 where
  pub refused : check_refusal a ≡ check_refusal b
  pub columned : columns_in a ≡ columns_in b
  pub rowed : rows_in a ≡ rows_in b
  pub pixels : drop (pixels_place a) a ≡ drop (pixels_place b) b

module _ (a b : List ℕ) (same : Alike a b) where
  pub alike_checked : check_pgm a ≡ check_pgm b
  unfolding check_pgm size_in
  alike_checked = rw (same.refused, same.columned, same.rowed)

  pub alike_read : (lent : List ℕ) → read_pgm a lent ≡ read_pgm b lent
  unfolding read_pgm read_refusal size_in
  alike_read lent = rw (same.refused, same.columned, same.rowed, same.pixels)

-- ---- the writer

pub record AcceptedWriting (columns rows picture room : ℕ) : Type 0 where
  pub sized : T (size_ok columns rows)
  pub long : picture ≡ rows * columns
  pub fits : pgm_length columns rows ≤ room

module _ (columns rows : ℕ) where
  pub accepted_writing : (picture room : ℕ) → write_refusal columns rows picture room ≡ 0 → AcceptedWriting columns rows picture room
  unfolding write_refusal
  accepted_writing picture room e =
      let (sized, e₅) = first_none _ _ e in
      let (long, e₈) = first_none _ _ e₅ in
      record {
        sized = unless_none (size_ok columns rows) 0 sized;
        long = (eq_decides picture (rows * columns)).0 (unless_none (eqb picture (rows * columns)) 4 long);
        fits = (le_decides (pgm_length columns rows) room).0 (unless_none (leb (pgm_length columns rows) room) 7 (first_none _ _ e₈).0);
      }

  pub writing_accepted : (picture room : ℕ) → AcceptedWriting columns rows picture room → write_refusal columns rows picture room ≡ 0
  unfolding write_refusal
  writing_accepted picture room a =
      first_pass _ (unless_holds (size_ok columns rows) 1 a.sized)
      (first_pass _ (unless_holds (eqb picture (rows * columns)) 5 ((eq_decides _ _).1 a.long))
      (first_pass _ (unless_holds (leb (pgm_length columns rows) room) 8 ((le_decides _ _).1 a.fits)) first_nil))

  pub writing_is : (picture file : List ℕ) → write_refusal columns rows (length picture) (length file) ≡ 0
      → write_pgm columns rows picture file
      ≡ record { answer = record { refusal = 0; size = pgm_length columns rows }; file = pgm_of columns rows picture ++ drop (pgm_length columns rows) file }
  unfolding write_pgm
  writing_is picture file e = rw (e, leaves_new 0 (pgm_length columns rows) 0 refl, leaves_new 0 (pgm_of columns rows picture ++ drop (pgm_length columns rows) file) file refl)

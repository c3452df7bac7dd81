-- What the readers and the writer of PGM files answer, and what they leave in every lent buffer (document 02, P2). Assumes nothing.
use Rattle.std.specs.Prelude.{List, [], ◌∷◌, ◌++◌, ℕ, ◌+◌, ◌*◌, leb, eqb, length, drop}
use Rattle.pyramid.specs.Definitions.Settings.{size_ok}
use Rattle.pyramid.specs.Definitions.Refusals.{unless, first}
use Rattle.pyramid.specs.Definitions.Calls.{leaves}
use Rattle.pyramid.specs.declared.Dimensions.{Dimensions}
use Rattle.pgm.specs.Definitions.Header.{header_ok, columns_in, rows_in, greatest_in, pixels_place}
use Rattle.pgm.specs.Definitions.Files.{pgm_of, pgm_length}

-- ---- a refusal's number, or 0 and the numbers that a call then answers; beside another number they are 0, and the call answers its refusal alone

pub record PictureSizeAnswer : Type 0 where
  pub refusal : ℕ
  pub columns : ℕ
  pub rows : ℕ

abbrev pub picture_size : PictureSizeAnswer → Dimensions
picture_size answer = record { columns = answer.columns; rows = answer.rows }

pub record SizeAnswer : Type 0 where
  pub refusal : ℕ
  pub size : ℕ

-- ---- the readers

pub record ReadOutcome : Type 0 where
  pub answer : PictureSizeAnswer
  pub picture : List ℕ

module _ (bytes : List ℕ) where
  -- 16: bad header; 1: columns or rows; 17: greatest grey is not 255; 18: pixel count is too few or too many
  unfoldable pub check_refusal : ℕ
  check_refusal =
      first (unless (header_ok bytes) 16
      ∷ unless (size_ok (columns_in bytes) (rows_in bytes)) 1
      ∷ unless (eqb (greatest_in bytes) 255) 17
      ∷ unless (eqb (length bytes) (pixels_place bytes + rows_in bytes * columns_in bytes)) 18
      ∷ [])

  -- these, then 5: the picture's length
  unfoldable pub read_refusal : ℕ → ℕ
  read_refusal room = first (check_refusal ∷ unless (eqb room (rows_in bytes * columns_in bytes)) 5 ∷ [])

  -- width and height, 0 where the file is refused
  unfoldable pub size_in : ℕ → PictureSizeAnswer
  size_in refusal = record { refusal = refusal; columns = leaves refusal (columns_in bytes) 0; rows = leaves refusal (rows_in bytes) 0 }

  -- the reader that is lent no picture
  unfoldable pub check_pgm : PictureSizeAnswer
  check_pgm = size_in check_refusal

  unfoldable pub read_pgm : List ℕ → ReadOutcome
  read_pgm picture =
      let refusal = read_refusal (length picture) in
      record { answer = size_in refusal; picture = leaves refusal (drop (pixels_place bytes) bytes) picture }

-- ---- the writer

pub record WriteOutcome : Type 0 where
  pub answer : SizeAnswer
  pub file : List ℕ

module _ (columns rows : ℕ) where
  -- the size of a file of a picture of this size, whose number is looked for
  unfoldable pub size_answer : SizeAnswer
  size_answer =
      let refusal = unless (size_ok columns rows) 1 in
      record { refusal = refusal; size = leaves refusal (pgm_length columns rows) 0 }

  -- 1, then 5: the picture's length, then 8: the file buffer is shorter than the file
  unfoldable pub write_refusal : (picture room : ℕ) → ℕ
  write_refusal picture room =
      first (unless (size_ok columns rows) 1 ∷ unless (eqb picture (rows * columns)) 5 ∷ unless (leb (pgm_length columns rows) room) 8 ∷ [])

  -- it answers the size; bytes of its buffer after the file are untouched
  unfoldable pub write_pgm : List ℕ → List ℕ → WriteOutcome
  write_pgm picture file =
      let refusal = write_refusal (length picture) (length file) in
      record {
        answer = record { refusal = refusal; size = leaves refusal (pgm_length columns rows) 0 };
        file = leaves refusal (pgm_of columns rows picture ++ drop (pgm_length columns rows) file) file;
      }

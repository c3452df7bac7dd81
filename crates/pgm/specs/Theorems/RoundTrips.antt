-- Reading a written picture gives it back; writing a picture that was read gives the single form of its file (document 02, P2). Assumes nothing.
use Rattle.std.specs.Prelude.{◌≡◌, List, ◌++◌, ℕ, ◌*◌, ◌≤◌, length, drop}
use Rattle.pgm.specs.Definitions.Files.{pgm_of, pgm_length, single_form}
use Rattle.pgm.specs.Definitions.Calls.{check_refusal, check_pgm, read_pgm, write_refusal, write_pgm}

-- ---- written, then read: whatever the writer accepts, read into any picture of its length, is the same width, height and pixels

pub record WrittenIsRead (columns rows : ℕ) (picture : List ℕ) : Type 0 where
  pub size : length (pgm_of columns rows picture) ≡ pgm_length columns rows
  pub most : pgm_length columns rows ≤ 16656
  pub read : (lent : List ℕ) → length lent ≡ rows * columns
      → read_pgm (pgm_of columns rows picture) lent ≡ record { answer = record { refusal = 0; columns = columns; rows = rows }; picture = picture }
  -- a written file is its own single form
  pub single : single_form (pgm_of columns rows picture) ≡ pgm_of columns rows picture

abbrev pub WrittenThenRead : Type 0
WrittenThenRead = (columns rows : ℕ) (picture : List ℕ) (room : ℕ) → write_refusal columns rows (length picture) room ≡ 0 → WrittenIsRead columns rows picture

-- ---- read, then written: what was read of any list of bytes is written as the single form of these

pub record ReadIsWritten (bytes : List ℕ) : Type 0 where
  pub written : (lent file : List ℕ) → length lent ≡ (check_pgm bytes).rows * (check_pgm bytes).columns → length (single_form bytes) ≤ length file
      → write_pgm (read_pgm bytes lent).answer.columns (read_pgm bytes lent).answer.rows (read_pgm bytes lent).picture file
      ≡ record { answer = record { refusal = 0; size = length (single_form bytes) }; file = single_form bytes ++ drop (length (single_form bytes)) file }
  -- the single form is read as the file is, by both readers and whatever picture is lent
  pub checked : check_pgm (single_form bytes) ≡ check_pgm bytes
  pub read : (lent : List ℕ) → read_pgm (single_form bytes) lent ≡ read_pgm bytes lent

abbrev pub ReadThenWritten : Type 0
ReadThenWritten = (bytes : List ℕ) → check_refusal bytes ≡ 0 → ReadIsWritten bytes

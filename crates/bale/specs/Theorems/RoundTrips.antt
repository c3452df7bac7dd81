-- Demand 2 about the file: what is written is read back as it was, and a file that is read is written again byte for byte. Assumes nothing.
use Rattle.std.specs.Prelude.{◌≡◌, List, ◌++◌, ℕ, ◌≤◌, T, ℤ, pos, length, get_or, drop}
use Rattle.std.specs.Int.{w16}
use Rattle.std.proofs.Common.{SFits}
use Rattle.pyramid.specs.declared.Settings.{Settings}
use Rattle.pyramid.specs.declared.Manner.{Manner}
use Rattle.pyramid.specs.Definitions.Sizes.{total}
use Rattle.pyramid.specs.Definitions.Buffers.{Bytes}
use Rattle.pyramid.specs.Definitions.Calls.{coding}
use Rattle.bale.specs.declared.Note.{Note}
use Rattle.bale.specs.Definitions.Readings.{HeldReading, note_ok}
use Rattle.bale.specs.Definitions.Files.{file_of, file_length}
use Rattle.bale.specs.Definitions.Calls.{write_refusal, write_file, read_refusal, read_file}

-- ---- what the types of the arguments say of them, and no more

pub record Held (s : Settings) (note : Note) (levels : List ℤ) : Type 0 where
  pub seven : length s.bins ≡ 7
  pub drier : HeldReading note.before_drier
  pub press : HeldReading note.at_press
  pub short : (p : ℕ) → SFits w16 (get_or levels p (pos 0))

-- ---- written, then read: whatever the writer accepts, read into any level buffer of T places, is the same settings, readings and levels

pub record WrittenIsRead (s : Settings) (note : Note) (levels : List ℤ) : Type 0 where
  pub size : length (file_of s note levels) ≡ file_length s
  pub most : file_length s ≤ 44774
  pub read : (lent : List ℤ) → length lent ≡ total s
      → read_file (file_of s note levels) lent ≡ record { answer = record { refusal = 0; settings = s; note = note }; levels = levels }

abbrev pub WrittenThenRead : Type 0
WrittenThenRead =
    (s : Settings) (note : Note) (levels : List ℤ) (room : ℕ) → Held s note levels → write_refusal s note levels room ≡ 0 → WrittenIsRead s note levels

-- ---- read, then written: any list of bytes that the reader accepts is what the writer writes for what was read

pub record ReadIsWritten (bytes : List ℕ) (lent : List ℤ) : Type 0 where
  pub same : file_of (read_file bytes lent).answer.settings (read_file bytes lent).answer.note (read_file bytes lent).levels ≡ bytes
  pub written : (file : List ℕ) → length bytes ≤ length file
      → write_file (read_file bytes lent).answer.settings (read_file bytes lent).answer.note (read_file bytes lent).levels file
      ≡ record { answer = record { refusal = 0; size = length bytes }; file = bytes ++ drop (length bytes) file }

abbrev pub ReadThenWritten : Type 0
ReadThenWritten = (bytes : List ℕ) (lent : List ℤ) → Bytes bytes → read_refusal bytes (length lent) ≡ 0 → ReadIsWritten bytes lent

-- ---- coded, then written: the writer accepts whatever levels an accepted coding leaves, in either manner

abbrev pub CodedThenWritten : Type 0
CodedThenWritten =
    (s : Settings) (note : Note) (manner : Manner) (picture : List ℕ) (levels work : List ℤ) (room : ℕ)
    → (coding s manner picture levels work).answer ≡ 0
    → T (note_ok note) → file_length s ≤ room → write_refusal s note (coding s manner picture levels work).levels room ≡ 0

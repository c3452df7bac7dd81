-- An archive: a first picture that is coded and written with its note, and copies of its file into other settings, each coded in either
-- manner (document 01, "Generations", of files; document 02, P4). Assumes nothing.
use Rattle.std.specs.Prelude.{◌≡◌, List, [], ◌∷◌, ℕ, ◌+◌, ℤ, length, take}
use Rattle.pyramid.specs.declared.Settings.{Settings}
use Rattle.pyramid.specs.declared.Manner.{Manner}
use Rattle.pyramid.specs.Definitions.Bound.{bound_at}
use Rattle.pyramid.specs.Definitions.Refusals.{first}
use Rattle.pyramid.specs.Definitions.Calls.{leaves, CodingOutcome, RebuildingOutcome, coding, rebuilding}
use Rattle.bale.specs.declared.Note.{Note}
use Rattle.bale.specs.Definitions.Readings.{HeldReading}
use Rattle.bale.specs.Definitions.Calls.{WriteOutcome, ReadOutcome, write_file, read_file}

-- the bytes of a file that was written into a buffer
abbrev pub written_bytes : WriteOutcome → List ℕ
written_bytes w = take w.answer.size w.file

-- ---- the first file

-- The picture, the settings and the manner that it is coded with, the note, and the buffers of both calls, of any length and contents; what
-- follows says no more than the types of these: there are seven bins, readings are what an enum of a 32-bit float and a number holds
pub record Filing : Type 0 where
  pub picture : List ℕ
  pub settings : Settings
  pub manner : Manner
  pub note : Note
  pub levels : List ℤ
  pub work : List ℤ
  pub file : List ℕ
  pub seven : length settings.bins ≡ 7
  pub drier : HeldReading note.before_drier
  pub press : HeldReading note.at_press

module _ (f : Filing) where
  abbrev pub first_coded : CodingOutcome
  first_coded = coding f.settings f.manner f.picture f.levels f.work

  abbrev pub first_written : WriteOutcome
  first_written = write_file f.settings f.note first_coded.levels f.file

  unfoldable pub filing_refusal : ℕ
  filing_refusal = first (first_coded.answer ∷ first_written.answer.refusal ∷ [])

-- ---- a copy

-- The settings that the picture is coded with, lawful or not, the manner, and the buffers of its four calls, of any length and contents:
-- those lent to the reader, to the rebuilding, to the coding and to the writer
pub record Copy : Type 0 where
  pub settings : Settings
  pub manner : Manner
  pub read : List ℤ
  pub picture : List ℕ
  pub work : List ℤ
  pub levels : List ℤ
  pub coding_work : List ℤ
  pub file : List ℕ
  pub seven : length settings.bins ≡ 7

-- the file at hand is read and rebuilt, the picture coded with the copy's settings in its manner and written with the note that was read
module _ (bytes : List ℕ) (c : Copy) where
  abbrev pub source : ReadOutcome
  source = read_file bytes c.read

  abbrev pub shown : RebuildingOutcome
  shown = rebuilding source.answer.settings source.levels c.picture c.work

  abbrev pub recoded : CodingOutcome
  recoded = coding c.settings c.manner shown.picture c.levels c.coding_work

  abbrev pub rewritten : WriteOutcome
  rewritten = write_file c.settings source.answer.note recoded.levels c.file

  -- 0 where all four calls are accepted, else the number of the first that is refused
  unfoldable pub copy_refusal : ℕ
  copy_refusal = first (source.answer.refusal ∷ shown.answer ∷ recoded.answer ∷ rewritten.answer.refusal ∷ [])

  -- the file at hand afterwards: the one that was written, or the old one where a call was refused
  unfoldable pub copied : List ℕ
  copied = leaves copy_refusal (written_bytes rewritten) bytes

  -- the bound of the copy's level 0 in its manner where it is accepted, else 0
  unfoldable pub copy_bound : ℕ
  copy_bound = leaves copy_refusal (bound_at c.settings c.manner 0) 0

-- ---- any list of copies: the file at hand after it, and the sum of the accepted copies' level 0 bounds

unfoldable pub file_after : List ℕ → List Copy → List ℕ
file_after bytes [] = bytes
file_after bytes (c ∷ later) = file_after (copied bytes c) later

unfoldable pub copies_sum : List ℕ → List Copy → ℕ
copies_sum bytes [] = 0
copies_sum bytes (c ∷ later) = copy_bound bytes c + copies_sum (copied bytes c) later

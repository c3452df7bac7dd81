-- Small files, byte by byte: document 01's file of piece A, and two of our own with fewer rows than columns and no level above level 0, put
-- together by hand from document 01's "Bale file": one with black 0 and white 255, one with black 16 and white 235 (document 02, P5).
-- Assumes nothing.
use Rattle.std.specs.Prelude.{◌≡◌, List, [], ◌∷◌, ℕ, ℤ, pos, negsuc, length}
use Rattle.std.specs.Float.{binary32}
use Rattle.std.specs.Float.Ieee.{of_bits}
use Rattle.pyramid.specs.declared.Settings.{Settings}
use Rattle.pyramid.specs.Definitions.Sizes.{total}
use Rattle.pyramid.specs.Checks.WorkedPieces.{piece_a, levels_a}
use Rattle.bale.specs.declared.Reading.TheVariants.{NotFitted, Percentage, Fault}
use Rattle.bale.specs.declared.Note.{Note}
use Rattle.bale.specs.Definitions.Files.{file_of}
use Rattle.bale.specs.Definitions.Calls.{check_file, read_file}

-- settings, readings and levels are written as these bytes, and the bytes are read as these settings, readings and levels
pub record WorkedFile (s : Settings) (note : Note) (levels : List ℤ) (bytes : List ℕ) : Type 0 where
  pub written : file_of s note levels ≡ bytes
  pub checked : check_file bytes ≡ record { refusal = 0; settings = s; note = note }
  pub read : (lent : List ℤ) → length lent ≡ total s
      → read_file bytes lent ≡ record { answer = record { refusal = 0; settings = s; note = note }; levels = levels }

-- ---- piece A with readings 6.5 % (bits 40D00000) and not fitted: 58 bytes

abbrev pub note_a : Note
note_a = record { before_drier = Percentage (of_bits binary32 0x40D0_0000); at_press = NotFitted }

abbrev pub file_a : List ℕ
file_a =
    0x04 ∷ 0x00 ∷ 0x03 ∷ 0x00 ∷ 0x03 ∷ 0x00 ∷ 0x01 ∷ 0x00 ∷ 0x04 ∷ 0x00 ∷
    0x02 ∷ 0x00 ∷ 0x04 ∷ 0x00 ∷ 0x0A ∷ 0x00 ∷
    0x02 ∷ 0x00 ∷ 0x01 ∷ 0x00 ∷ 0x00 ∷ 0xD0 ∷ 0x40 ∷ 0x00 ∷ 0x00 ∷ 0x00 ∷ 0x00 ∷ 0x00 ∷
    0x04 ∷ 0x00 ∷ 0x06 ∷ 0x00 ∷ 0x06 ∷ 0x00 ∷ 0x06 ∷ 0x00 ∷ 0x06 ∷ 0x00 ∷
    0x09 ∷ 0x00 ∷ 0xFD ∷ 0xFF ∷ 0xFD ∷ 0xFF ∷ 0xFD ∷ 0xFF ∷ 0xFD ∷ 0xFF ∷ 0x07 ∷ 0x00 ∷ 0xFD ∷ 0xFF ∷ 0xFD ∷ 0xFF ∷ 0xFD ∷ 0xFF ∷ 0xFD ∷ 0xFF ∷ []

-- ---- three columns and two rows, N = 0, k = 5, bin 7; fault 9, then 100 % (bits 42C80000); indices 1, -2, 3 / -4, 5, -6: 40 bytes

abbrev pub wide : Settings
wide = record { columns = 3; rows = 2; depth = 0; kernel = 5; black = 0; white = 255; bins = 7 ∷ 0 ∷ 0 ∷ 0 ∷ 0 ∷ 0 ∷ 0 ∷ [] }

abbrev pub note_wide : Note
note_wide = record { before_drier = Fault 9; at_press = Percentage (of_bits binary32 0x42C8_0000) }

abbrev pub levels_wide : List ℤ
levels_wide = pos 1 ∷ negsuc 1 ∷ pos 3 ∷ negsuc 3 ∷ pos 5 ∷ negsuc 5 ∷ []

abbrev pub file_wide : List ℕ
file_wide =
    0x04 ∷ 0x00 ∷ 0x03 ∷ 0x00 ∷ 0x02 ∷ 0x00 ∷ 0x00 ∷ 0x00 ∷ 0x05 ∷ 0x00 ∷
    0x01 ∷ 0x00 ∷ 0x07 ∷ 0x00 ∷
    0x02 ∷ 0x00 ∷ 0x02 ∷ 0x09 ∷ 0x00 ∷ 0x00 ∷ 0x00 ∷ 0x01 ∷ 0x00 ∷ 0x00 ∷ 0xC8 ∷ 0x42 ∷
    0x06 ∷ 0x00 ∷ 0x01 ∷ 0x00 ∷ 0xFE ∷ 0xFF ∷ 0x03 ∷ 0x00 ∷ 0xFC ∷ 0xFF ∷ 0x05 ∷ 0x00 ∷ 0xFA ∷ 0xFF ∷ []

-- ---- the same with black 16 and white 235, whose bytes follow k: 44 bytes

abbrev pub grey : Settings
grey = record { columns = 3; rows = 2; depth = 0; kernel = 5; black = 16; white = 235; bins = 7 ∷ 0 ∷ 0 ∷ 0 ∷ 0 ∷ 0 ∷ 0 ∷ [] }

abbrev pub file_grey : List ℕ
file_grey =
    0x06 ∷ 0x00 ∷ 0x03 ∷ 0x00 ∷ 0x02 ∷ 0x00 ∷ 0x00 ∷ 0x00 ∷ 0x05 ∷ 0x00 ∷ 0x10 ∷ 0x00 ∷ 0xEB ∷ 0x00 ∷
    0x01 ∷ 0x00 ∷ 0x07 ∷ 0x00 ∷
    0x02 ∷ 0x00 ∷ 0x02 ∷ 0x09 ∷ 0x00 ∷ 0x00 ∷ 0x00 ∷ 0x01 ∷ 0x00 ∷ 0x00 ∷ 0xC8 ∷ 0x42 ∷
    0x06 ∷ 0x00 ∷ 0x01 ∷ 0x00 ∷ 0xFE ∷ 0xFF ∷ 0x03 ∷ 0x00 ∷ 0xFC ∷ 0xFF ∷ 0x05 ∷ 0x00 ∷ 0xFA ∷ 0xFF ∷ []

pub record WorkedFiles : Type 0 where
  pub piece_file : WorkedFile piece_a note_a levels_a file_a
  pub wide_file : WorkedFile wide note_wide levels_wide file_wide
  pub grey_file : WorkedFile grey note_wide levels_wide file_grey

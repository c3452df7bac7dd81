-- Numbers and settings in bytes, low byte first; 0 stands past the end. Assumes nothing.
use Rattle.std.specs.Prelude.{List, ℕ, ◌+◌, ◌*◌, ℤ, get_or}
use Rattle.std.specs.Int.{w16, w32}
use Rattle.std.proofs.Common.{to_z}
use Rattle.mathematics.specs.Definitions.Tables.{tabulate}
use Rattle.pyramid.specs.declared.Settings.{Settings}
use Rattle.test_support.specs.declared.decoding.Form.{Form}
use Rattle.test_support.specs.declared.decoding.Form.TheVariants.{Short, Greys}

-- how many bytes settings have
abbrev pub settings_length : Form → ℕ
settings_length Short = 22
settings_length Greys = 26

module _ (bytes : List ℕ) where
  -- the number of 16 bits, and of 32, at a place
  abbrev pub unsigned16 : ℕ → ℕ
  unsigned16 at = get_or bytes at 0 + 256 * get_or bytes (at + 1) 0

  abbrev pub unsigned32 : ℕ → ℕ
  unsigned32 at = unsigned16 at + 65536 * unsigned16 (at + 2)

  -- the same, in two's complement
  abbrev pub signed16 : ℕ → ℤ
  signed16 at = to_z w16 (unsigned16 at)

  abbrev pub signed32 : ℕ → ℤ
  signed32 at = to_z w32 (unsigned32 at)

  -- C, R, N and k, and seven bins from a place on, slot 0 first, each of 16 bits
  abbrev pub settings_with : (black white at : ℕ) → Settings
  settings_with black white at =
      record {
        columns = unsigned16 0;
        rows = unsigned16 2;
        depth = unsigned16 4;
        kernel = unsigned16 6;
        black = black;
        white = white;
        bins = tabulate 7 (λ slot. unsigned16 (at + 2 * slot));
      }

  -- black is 0 and white is 255, or both stand before the bins
  abbrev pub settings : Form → Settings
  settings Short = settings_with 0 255 8
  settings Greys = settings_with (unsigned16 8) (unsigned16 10) 12

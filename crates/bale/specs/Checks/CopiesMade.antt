-- What a copy does to the file at hand of an archive: a refused one nothing, an accepted one leaves a file of the copy's settings, and with
-- lawful settings and buffers of right lengths it is accepted. Assumes nothing.
use Rattle.std.specs.Prelude.{◌≡◌, ◌≢◌, List, ℕ, ◌*◌, ◌≤◌, length}
use Rattle.pyramid.specs.declared.Settings.{Settings}
use Rattle.pyramid.specs.Definitions.Sizes.{total}
use Rattle.pyramid.specs.Definitions.Bound.{bound_at}
use Rattle.pyramid.specs.Definitions.Refusals.{settings_refusal}
use Rattle.bale.specs.Definitions.Files.{file_length}
use Rattle.bale.specs.Definitions.Calls.{check_file}
use Rattle.bale.specs.Definitions.Copies.{Filing, Copy, written_bytes, first_written, filing_refusal, copy_refusal, copied, copy_bound, file_after}

-- lawful settings of a picture as large as that of the old ones, black and white that take in the old ones, and buffers as the four calls ask
-- for
pub record Suits (old : Settings) (c : Copy) : Type 0 where
  pub lawful : settings_refusal c.settings ≡ 0
  pub pixels : old.rows * old.columns ≡ c.settings.rows * c.settings.columns
  pub black : c.settings.black ≤ old.black
  pub white : old.white ≤ c.settings.white
  pub read : length c.read ≡ total old
  pub picture : length c.picture ≡ old.rows * old.columns
  pub work : total old ≤ length c.work
  pub levels : length c.levels ≡ total c.settings
  pub coding_work : total c.settings ≤ length c.coding_work
  pub file : file_length c.settings ≤ length c.file

pub record CopyMade (bytes : List ℕ) (c : Copy) : Type 0 where
  pub refused : copy_refusal bytes c ≢ 0 → (copied bytes c ≡ bytes) × (copy_bound bytes c ≡ 0)
  pub accepted : copy_refusal bytes c ≡ 0 → ((check_file (copied bytes c)).settings ≡ c.settings) × (copy_bound bytes c ≡ bound_at c.settings c.manner 0)
  pub made : Suits (check_file bytes).settings c → copy_refusal bytes c ≡ 0

abbrev pub CopiesMade : Type 0
CopiesMade = (f : Filing) (copies : List Copy) (c : Copy) → filing_refusal f ≡ 0 → CopyMade (file_after (written_bytes (first_written f)) copies) c

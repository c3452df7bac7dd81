-- A refusal holds 0 in the pixel and in the number of indices read (document 02, P6). Assumes nothing.
use Rattle.std.specs.Prelude.{◌≡◌, List, ℕ, ℤ}
use Rattle.pyramid.specs.declared.Settings.{Settings}
use Rattle.pyramid.specs.Checks.Refused.{Refused}
use Rattle.pixel.specs.Definitions.Pixel.{pixel_answer}

abbrev pub RefusedPixelsHoldNothing : Type 0
RefusedPixelsHoldNothing =
    (s : Settings) (column row : ℕ) (levels : List ℤ)
    → Refused (pixel_answer s column row levels).refusal (((pixel_answer s column row levels).pixel ≡ 0) × ((pixel_answer s column row levels).read ≡ 0))

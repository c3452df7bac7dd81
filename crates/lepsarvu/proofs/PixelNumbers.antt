-- The numbers that the call for one pixel answers are those of refusals. Assumes nothing.
use Rattle.std.proofs.Common.{List, ◌∷◌, ℕ, ◌≤◌, ℤ}
use Rattle.refusals.specs.Checks.Numbers.{greatest}
use Rattle.pyramid.specs.declared.Settings.{Settings}
use Rattle.pixel.specs.Definitions.Pixel.{pixel_answer}
use Rattle.pixel.specs.Checks.Numbers.{rebuild_numbers}
use Rattle.pixel.proofs.CallChecks.{pixel_numbers}
use Rattle.lepsarvu.proofs.Given.{small, one_small}

pub pixel_number : (s : Settings) (column row : ℕ) (levels : List ℤ) → (pixel_answer s column row levels).refusal ≤ greatest
unfolding small
pixel_number s column row levels = one_small (0 ∷ rebuild_numbers) _ tt (pixel_numbers s column row levels)

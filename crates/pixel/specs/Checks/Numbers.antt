-- Which numbers the call can answer (document 02, P6). Assumes nothing.
use Rattle.std.specs.Prelude.{List, [], ◌∷◌, ◌++◌, ℕ, ℤ}
use Rattle.pyramid.specs.declared.Settings.{Settings}
use Rattle.pyramid.specs.Checks.Numbers.{Answers, settings_numbers}
use Rattle.pixel.specs.Definitions.Pixel.{pixel_answer}

abbrev pub rebuild_numbers : List ℕ
rebuild_numbers = settings_numbers ++ (6 ∷ 21 ∷ 11 ∷ [])

abbrev pub PixelNumbers : Type 0
PixelNumbers = (s : Settings) (column row : ℕ) (levels : List ℤ) → Answers rebuild_numbers (pixel_answer s column row levels).refusal

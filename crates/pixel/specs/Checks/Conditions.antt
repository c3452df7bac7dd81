-- Each number is given on its condition and on no other (document 02, P6): settings and length "are checked as in rebuilding", 21 comes "after 6 and
-- before 11", and "index values are checked only inside the windows". Assumes nothing.
use Rattle.std.specs.Prelude.{List, [], ◌∷◌, ◌++◌, ℕ, ◌≤◌, ◌<◌, T, ℤ, pos, nat_abs, ◌*ℤ◌}
use Rattle.pyramid.specs.declared.Settings.{Settings}
use Rattle.pyramid.specs.Definitions.Settings.{bin}
use Rattle.pyramid.specs.Definitions.Sizes.{columns_at, rows_at}
use Rattle.pyramid.specs.Definitions.Buffers.{read_levels}
use Rattle.pyramid.specs.Checks.Conditions.{Rule, Given, settings_rules, levels_rule}
use Rattle.pixel.specs.Definitions.Windows.{in_window}
use Rattle.pixel.specs.Definitions.Pixel.{pixel_answer}

module _ (s : Settings) (column row : ℕ) where
  abbrev pub place_rule : Rule
  place_rule = record { number = 21; says = (column < s.columns) × (row < s.rows) }

  -- of the indices in the windows alone
  abbrev pub windows_rule : List ℤ → Rule
  windows_rule levels = record {
    number = 11;
    says = (l i j : ℕ) → l ≤ s.depth → i < columns_at s l → j < rows_at s l → T (in_window s column row l i j)
        → nat_abs (read_levels s levels l i j *ℤ pos (bin s l)) ≤ 4096;
  }

abbrev pub PixelConditions : Type 0
PixelConditions =
    (s : Settings) (column row : ℕ) (levels : List ℤ)
    → Given (settings_rules s ++ (levels_rule s levels ∷ place_rule s column row ∷ windows_rule s column row levels ∷ [])) (pixel_answer s column row levels).refusal

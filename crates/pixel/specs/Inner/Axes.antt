-- What an axis of a window is, for the contracts of functions inside this crate. Assumes nothing.
use Rattle.std.specs.Prelude.{◌≡◌, ℕ, suc, ◌+◌, ◌/◌, ◌^◌}
use Rattle.pyramid.specs.declared.Settings.{Settings}
use Rattle.pyramid.specs.Definitions.Sizes.{last}
use Rattle.pixel.specs.declared.axes.Axis.{Axis}
use Rattle.pixel.specs.declared.axes.Step.{Step}
use Rattle.pixel.specs.Definitions.Windows.{range_at}

-- of column (row) p at level l, of a picture of so many columns (rows): halving the column after the pixel's l times gives the column after the one
-- at the first place
pub record AxisOf (side p l : ℕ) (a : Axis) : Type 0 where
  pub next_is : a.next ≡ (p + 1) / 2 ^ l
  pub end_is : a.next + a.end ≡ (range_at side p l).last + 2
  pub z_is : a.z ≡ last side l

-- both axes of a pixel's window
pub record AxesOf (s : Settings) (column row l : ℕ) (columns rows : Axis) : Type 0 where
  pub columns_are : AxisOf s.columns column l columns
  pub rows_are : AxisOf s.rows row l rows

-- one axis of the step from level l + 1 to level l
pub record StepOf (side p l : ℕ) (a : Step) : Type 0 where
  pub below_is : a.below ≡ (p + 1) / 2 ^ l
  pub above_is : AxisOf side p (suc l) a.above

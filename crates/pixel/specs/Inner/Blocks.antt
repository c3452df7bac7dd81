-- EXPAND of a block of sixteen values, four a row, for the contracts of functions inside this crate. Assumes nothing.
use Rattle.std.specs.Prelude.{cond, ◌&&◌, List, ℕ, ◌+◌, ◌-◌, ◌/◌, ◌%◌, eqb, ℤ, ◌*ℤ◌}
use Rattle.mathematics.specs.Definitions.Sums.{sum}
use Rattle.pyramid.specs.Definitions.Sizes.{Level}
use Rattle.pyramid.specs.Definitions.Steps.{even_weight}
use Rattle.pyramid.specs.Inner.Rows.{as_level}
use Rattle.pixel.specs.declared.axes.Axis.{Axis}
use Rattle.pixel.specs.declared.axes.Step.{Step}

-- four values along an axis, with what an edge reflects to the place before column (row) 0 and to the one after the window's last
unfoldable pub extended : Axis → (ℕ → ℤ) → ℕ → ℤ
extended a v n = cond (eqb a.end n) (v (n - 2)) (cond (eqb n 0 && eqb a.next 0) (v 2) (v n))

-- each row of a block
unfoldable pub extended_rows : Axis → List ℤ → Level
extended_rows a values n y = extended a (λ x. as_level 4 values x y) n

-- what EXPAND takes of them for place m of the level below: that is an odd column (row) where m and the next of that level are both even or both odd
unfoldable pub line_sum : (k next : ℕ) → (ℕ → ℤ) → ℕ → ℤ
line_sum k next v m = sum 5 (λ t. even_weight k (next % 2 + m + 1) t *ℤ v ((next % 2 + m + 3 - t) / 2))

-- along each row, and then down each column
unfoldable pub row_sums : (k : ℕ) → Step → List ℤ → Level
row_sums k columns values y m = line_sum k columns.below (extended columns.above (λ x. as_level 4 values x y)) m

unfoldable pub block_sum : (k : ℕ) → (columns rows : Step) → List ℤ → Level
block_sum k columns rows values m n = line_sum k rows.below (extended rows.above (λ y. row_sums k columns values y m)) n

-- The two passes that average a level (document 02, P3): along its rows, then down the columns. Assumes nothing.
use Rattle.std.specs.Prelude.{ℕ, ◌+◌, ◌*◌, ◌*ℤ◌}
use Rattle.mathematics.specs.Definitions.Sums.{sum}
use Rattle.quantizer.specs.Definitions.Rounding.{round_div}
use Rattle.pyramid.specs.Definitions.Sizes.{Level}
use Rattle.pyramid.specs.Definitions.Weights.{weight}
use Rattle.pyramid.specs.Definitions.Edge.{reflect}

-- the row pass: for column i of the next level and row y of this one, whose last column is z, the unrounded sum of five products of weight
-- and value. Tap t stands for m = t - 2, and column 2i + m is place 2i + t
unfoldable pub row_pass : (k z : ℕ) → Level → Level
row_pass k z g i y = sum 5 (λ t. weight k t *ℤ g (reflect z (2 * i + t)) y)

-- the column pass, of row sums alone, where z is the last row: for node (i, j) of the next level the sum of five products of weight and row
-- sum, over 400, rounded once
unfoldable pub column_pass : (k z : ℕ) → Level → Level
column_pass k z sums i j = round_div (sum 5 (λ t. weight k t *ℤ sums i (reflect z (2 * j + t)))) 400

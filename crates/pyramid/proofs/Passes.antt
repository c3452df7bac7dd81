-- The row pass and then the column pass are REDUCE. Assumes nothing.
use mathlib.Core.Path.{sym, ap}
use Prim.Native.Nat.{◌+◌, ◌*◌}
use lib.IntN.{ℤ}
use Rattle.quantizer.specs.Definitions.Rounding.{round_div}
use Rattle.pyramid.specs.Definitions.Weights.{weight}
use Rattle.pyramid.specs.Definitions.Edge.{reflect}
use Rattle.pyramid.specs.Definitions.Steps.{reduce}
use Rattle.pyramid.specs.Definitions.Passes.{row_pass, column_pass}
use Rattle.pyramid.specs.Theorems.RowsThenColumns.{RowsThenColumns}
use Rattle.pyramid.proofs.WeightedSums.{weighted_rows}

pub rows_then_columns : RowsThenColumns
unfolding row_pass column_pass reduce
rows_then_columns k zc zr g i j =
    ap (λ (z : ℤ). round_div z 400) (sym (weighted_rows (weight k) (weight k) (λ t. reflect zc (2 * i + t)) (λ t. reflect zr (2 * j + t)) g))

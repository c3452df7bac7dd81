-- The worked passes, by computation; rounding answers by its law. Assumes nothing.
use mathlib.Core.Path.{◌≡◌, refl}
use lib.IntN.{pos}
use Rattle.mathematics.specs.Definitions.Sums.{sum}
use Rattle.mathematics.specs.Definitions.Tables.{tabulate}
use Rattle.quantizer.specs.Definitions.Rounding.{round_div}
use Rattle.quantizer.proofs.Rounding.{round_at}
use Rattle.pyramid.specs.Definitions.Weights.{weights, weight}
use Rattle.pyramid.specs.Definitions.Edge.{reflect}
use Rattle.pyramid.specs.Definitions.Passes.{row_pass, column_pass}
use Rattle.pyramid.specs.Definitions.Buffers.{raster, pixels}
use Rattle.pyramid.specs.Checks.WorkedPasses.{WorkedPasses}

near : round_div (pos 65280) 400 ≡ pos 163
near = round_at (pos 65280) 400 (pos 163) tt

side : round_div (pos 108120) 400 ≡ pos 270
side = round_at (pos 108120) 400 (pos 270) tt

far : round_div (pos 100980) 400 ≡ pos 252
far = round_at (pos 100980) 400 (pos 252) tt

pub worked_passes : WorkedPasses
unfolding sum tabulate weights weight reflect row_pass column_pass raster pixels
worked_passes = record { rows_a = refl; rows_corner = refl; columns_corner = simp (near, side, far) }

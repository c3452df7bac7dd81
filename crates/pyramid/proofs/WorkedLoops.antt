-- The closed loop by hand, by computation; rounding and the bin rule answer by their laws. Assumes nothing.
use mathlib.Core.Path.{refl}
use lib.IntN.{pos, negsuc}
use Rattle.mathematics.specs.Definitions.Sums.{sum}
use Rattle.mathematics.specs.Definitions.Tests.{all_below, all}
use Rattle.mathematics.specs.Definitions.Tables.{tabulate}
use Rattle.quantizer.proofs.Rounding.{round_at}
use Rattle.quantizer.proofs.Bins.{bin_at}
use Rattle.pyramid.specs.Definitions.Settings.{side_ok, depth_ok, divides, kernel_ok, black_white_ok, slot_ok, size_ok, bins_ok}
use Rattle.pyramid.specs.Definitions.Sizes.{last, nodes_to, total}
use Rattle.pyramid.specs.Definitions.Weights.{weights, weight}
use Rattle.pyramid.specs.Definitions.Edge.{reflect}
use Rattle.pyramid.specs.Definitions.Steps.{weighted_sum, reduce, even_weight, expand}
use Rattle.pyramid.specs.Definitions.Pyramid.{index_of, average}
use Rattle.pyramid.specs.Definitions.Rebuilding.{value_of}
use Rattle.pyramid.specs.Definitions.Manners.{quantized, closed_rebuilt, reference, difference, index}
use Rattle.pyramid.specs.Definitions.Bound.{tolerance, bound_at}
use Rattle.pyramid.specs.Definitions.Buffers.{raster, pixels, stack}
use Rattle.pyramid.specs.Definitions.Refusals.{unless, first, shape_refusal, settings_refusal, buffers_refusal, lent_refusal, pixels_ok, coding_refusal}
use Rattle.pyramid.specs.Definitions.Calls.{leaves, coding}
use Rattle.pyramid.specs.Checks.WorkedLoops.{WorkedLoops}

pub worked_loops : WorkedLoops
unfolding sum all_below all tabulate side_ok depth_ok divides kernel_ok black_white_ok slot_ok size_ok bins_ok last nodes_to total weights weight reflect weighted_sum reduce even_weight expand index_of average value_of quantized closed_rebuilt reference difference index tolerance bound_at raster pixels stack unless first shape_refusal settings_refusal buffers_refusal lent_refusal pixels_ok coding_refusal leaves coding
worked_loops = record {
  -- the average, EXPAND of 24, the index of the average, and those of what level 0 codes
  of_a = simp (
    round_at (pos 10000) 400 (pos 25) tt,
    round_at (pos 9600) 400 (pos 24) tt,
    bin_at (pos 25) 4 (pos 6) tt,
    bin_at (pos 76) 10 (pos 8) tt,
    bin_at (negsuc 23) 10 (negsuc 1) tt,
  );
  bounds_a = (refl, refl);
  -- the averages and their indices; EXPAND of 160 and three times 260; the indices of what level 0 codes
  of_bright = simp (
    round_at (pos 65280) 400 (pos 163) tt,
    round_at (pos 108120) 400 (pos 270) tt,
    round_at (pos 100980) 400 (pos 252) tt,
    bin_at (pos 163) 20 (pos 8) tt,
    bin_at (pos 270) 20 (pos 13) tt,
    bin_at (pos 252) 20 (pos 13) tt,
    round_at (pos 46400) 400 (pos 116) tt,
    round_at (pos 80000) 400 (pos 200) tt,
    round_at (pos 113600) 400 (pos 284) tt,
    round_at (pos 94000) 400 (pos 235) tt,
    round_at (pos 108000) 400 (pos 270) tt,
    round_at (pos 102400) 400 (pos 256) tt,
    bin_at (negsuc 115) 10 (negsuc 11) tt,
    bin_at (pos 55) 10 (pos 5) tt,
    bin_at (negsuc 28) 10 (negsuc 2) tt,
    bin_at (pos 20) 10 (pos 2) tt,
    bin_at (negsuc 14) 10 (negsuc 1) tt,
    bin_at (negsuc 0) 10 (pos 0) tt,
  );
}

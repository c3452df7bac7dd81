-- Black and white by hand, by computation; rounding and the bin rule answer by their laws. Assumes nothing.
use mathlib.Core.Path.{◌≡◌, refl}
use lib.IntN.{pos, negsuc}
use Rattle.mathematics.specs.Definitions.Sums.{sum}
use Rattle.mathematics.specs.Definitions.Tests.{all_below, all}
use Rattle.mathematics.specs.Definitions.Tables.{tabulate}
use Rattle.quantizer.specs.Definitions.Rounding.{round_div}
use Rattle.quantizer.proofs.Rounding.{round_at}
use Rattle.quantizer.proofs.Bins.{bin_at}
use Rattle.pyramid.specs.Definitions.Settings.{side_ok, depth_ok, divides, kernel_ok, black_white_ok, slot_ok, size_ok, bins_ok}
use Rattle.pyramid.specs.Definitions.Sizes.{last, nodes_to, total}
use Rattle.pyramid.specs.Definitions.Weights.{weights, weight}
use Rattle.pyramid.specs.Definitions.Edge.{reflect}
use Rattle.pyramid.specs.Definitions.Steps.{weighted_sum, reduce, even_weight, expand}
use Rattle.pyramid.specs.Definitions.Pyramid.{index_of, average}
use Rattle.pyramid.specs.Definitions.Rebuilding.{value_of, rebuild, clamp}
use Rattle.pyramid.specs.Definitions.Manners.{reference, difference, index}
use Rattle.pyramid.specs.Definitions.Buffers.{raster, pixels, stack, start, read_levels}
use Rattle.pyramid.specs.Definitions.Refusals.{unless, first, shape_refusal, settings_refusal, buffers_refusal, values_ok, lent_refusal, pixels_ok, coding_refusal, rebuilding_refusal}
use Rattle.pyramid.specs.Definitions.Calls.{leaves, coding, rebuilding}
use Rattle.pyramid.specs.Checks.WorkedGreys.{WorkedGreys}

-- EXPAND of 72
expanded : round_div (pos 28800) 400 ≡ pos 72
expanded = round_at (pos 28800) 400 (pos 72) tt

pub worked_greys : WorkedGreys
unfolding sum all_below all tabulate side_ok depth_ok divides kernel_ok black_white_ok slot_ok size_ok bins_ok last nodes_to total weights weight reflect weighted_sum reduce even_weight expand index_of average value_of rebuild clamp reference difference index raster pixels stack start read_levels unless first shape_refusal settings_refusal buffers_refusal values_ok lent_refusal pixels_ok coding_refusal rebuilding_refusal leaves coding rebuilding
worked_greys = record {
  -- the average, EXPAND of 71, the index of the average, and those of what level 0 codes
  coded = simp (
    round_at (pos 28300) 400 (pos 71) tt,
    round_at (pos 28400) 400 (pos 71) tt,
    bin_at (pos 71) 4 (pos 18) tt,
    bin_at (pos 164) 10 (pos 16) tt,
    bin_at (negsuc 54) 10 (negsuc 5) tt,
  );
  shown = simp expanded;
  white = simp expanded;
  every_grey = simp expanded;
  first = (refl, refl);
  middle = (refl, refl);
  last = (refl, refl);
  inside = (refl, refl);
  after_work = refl;
  equal = (refl, refl);
  beyond = (refl, refl);
  ends = (refl, refl);
  order = (refl, refl);
}

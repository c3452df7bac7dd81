-- Pixels by hand: each test of a rule computes, and so does each value. Assumes nothing.
use mathlib.Core.Path.{◌≡◌, refl}
use lib.IntN.{pos}
use Rattle.mathematics.specs.Definitions.Sums.{sum}
use Rattle.mathematics.specs.Definitions.Tests.{all_below, all}
use Rattle.mathematics.specs.Definitions.Tables.{tabulate}
use Rattle.quantizer.specs.Definitions.Rounding.{round_div}
use Rattle.quantizer.proofs.Rounding.{round_at}
use Rattle.pyramid.specs.Definitions.Settings.{side_ok, depth_ok, divides, kernel_ok, black_white_ok, slot_ok, size_ok, bins_ok}
use Rattle.pyramid.specs.Definitions.Sizes.{last, nodes_to, total}
use Rattle.pyramid.specs.Definitions.Weights.{weights, weight}
use Rattle.pyramid.specs.Definitions.Edge.{reflect}
use Rattle.pyramid.specs.Definitions.Steps.{weighted_sum, even_weight, expand}
use Rattle.pyramid.specs.Definitions.Rebuilding.{value_of, rebuild, clamp}
use Rattle.pyramid.specs.Definitions.Buffers.{raster, stack, start, read_levels}
use Rattle.pyramid.specs.Definitions.Refusals.{unless, first, shape_refusal, settings_refusal, values_ok}
use Rattle.pyramid.specs.Definitions.Calls.{leaves}
use Rattle.pixel.specs.Definitions.Windows.{above, range_at, inside, count, in_window, nodes_read}
use Rattle.pixel.specs.Definitions.Pixel.{window_index, pixel_refusal, pixel_answer}
use Rattle.pixel.specs.Checks.WorkedPixels.{WorkedPixels}

rebuilt_a : round_div (pos 9600) 400 ≡ pos 24
rebuilt_a = round_at (pos 9600) 400 (pos 24) tt

pub worked_pixels : WorkedPixels
unfolding sum all_below all tabulate side_ok depth_ok divides kernel_ok black_white_ok slot_ok size_ok bins_ok last nodes_to total weights weight reflect weighted_sum even_weight expand value_of rebuild clamp raster stack start read_levels unless first shape_refusal settings_refusal values_ok leaves above range_at inside count in_window nodes_read window_index pixel_refusal pixel_answer
worked_pixels = record {
  centre = simp (rebuilt_a) refl;
  corner = simp (rebuilt_a) refl;
  own = refl;
  black = refl;
  white = refl;
  index = (refl, refl);
  place = (refl, refl);
  order = refl;
  length = refl;
}

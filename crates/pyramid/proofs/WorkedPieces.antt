-- The worked pieces, by computation; rounding and the bin rule answer by their laws. Assumes nothing.
use mathlib.Core.Path.{◌≡◌, refl}
use lib.IntN.{pos, negsuc}
use Rattle.mathematics.specs.Definitions.Sums.{sum}
use Rattle.mathematics.specs.Definitions.Tests.{all_below, all}
use Rattle.mathematics.specs.Definitions.Tables.{tabulate}
use Rattle.quantizer.specs.Definitions.Rounding.{round_div}
use Rattle.quantizer.specs.Definitions.Bins.{bin_index}
use Rattle.quantizer.proofs.Rounding.{round_at}
use Rattle.quantizer.proofs.Bins.{bin_at}
use Rattle.pyramid.specs.Definitions.Settings.{side_ok, depth_ok, divides, kernel_ok, black_white_ok, slot_ok, size_ok, bins_ok}
use Rattle.pyramid.specs.Definitions.Sizes.{last, nodes_to, total}
use Rattle.pyramid.specs.Definitions.Weights.{weights, weight}
use Rattle.pyramid.specs.Definitions.Edge.{reflect}
use Rattle.pyramid.specs.Definitions.Steps.{weighted_sum, reduce, even_weight, expand}
use Rattle.pyramid.specs.Definitions.Pyramid.{index_of, average}
use Rattle.pyramid.specs.Definitions.Rebuilding.{value_of, rebuild, clamp}
use Rattle.pyramid.specs.Definitions.Manners.{quantized, closed_rebuilt, reference, difference, index}
use Rattle.pyramid.specs.Definitions.Bound.{hundredths, magnified, tolerance, bound, bound_at}
use Rattle.pyramid.specs.Definitions.Buffers.{raster, pixels, stack, start, read_levels}
use Rattle.pyramid.specs.Definitions.Refusals.{unless, first, shape_refusal, settings_refusal, buffers_refusal, values_ok, lent_refusal, pixels_ok, coding_refusal, rebuilding_refusal}
use Rattle.pyramid.specs.Definitions.Calls.{leaves, coding, rebuilding}
use Rattle.pyramid.specs.Checks.WorkedPieces.{WorkedPieces}

-- ---- piece A: averages, differences, indices, rebuilt values

average_a_lem : round_div (pos 10000) 400 ≡ pos 25
average_a_lem = round_at (pos 10000) 400 (pos 25) tt

top_a : bin_index (pos 25) 4 ≡ pos 6
top_a = bin_at (pos 25) 4 (pos 6) tt

centre_a : bin_index (pos 75) 10 ≡ pos 7
centre_a = bin_at (pos 75) 10 (pos 7) tt

others_a : bin_index (negsuc 24) 10 ≡ negsuc 2
others_a = bin_at (negsuc 24) 10 (negsuc 2) tt

rebuilt_a_lem : round_div (pos 9600) 400 ≡ pos 24
rebuilt_a_lem = round_at (pos 9600) 400 (pos 24) tt

-- ---- the corner under kernel 6

corner_near : round_div (pos 65280) 400 ≡ pos 163
corner_near = round_at (pos 65280) 400 (pos 163) tt

corner_side : round_div (pos 108120) 400 ≡ pos 270
corner_side = round_at (pos 108120) 400 (pos 270) tt

corner_far : round_div (pos 100980) 400 ≡ pos 252
corner_far = round_at (pos 100980) 400 (pos 252) tt

-- ---- EXPAND of -1 and 0: -8/10, -1/2, -2/10

expand_left : round_div (negsuc 319) 400 ≡ negsuc 0
expand_left = round_at (negsuc 319) 400 (negsuc 0) tt

expand_middle : round_div (negsuc 199) 400 ≡ pos 0
expand_middle = round_at (negsuc 199) 400 (pos 0) tt

expand_right : round_div (negsuc 79) 400 ≡ pos 0
expand_right = round_at (negsuc 79) 400 (pos 0) tt

ruleset answers = (average_a_lem, top_a, centre_a, others_a, rebuilt_a_lem, corner_near, corner_side, corner_far, expand_left, expand_middle, expand_right)

pub worked_pieces : WorkedPieces
unfolding sum all_below all tabulate side_ok depth_ok divides kernel_ok black_white_ok slot_ok size_ok bins_ok last nodes_to total weights weight reflect weighted_sum reduce even_weight expand index_of average value_of rebuild clamp quantized closed_rebuilt reference difference index hundredths magnified tolerance bound bound_at raster pixels stack start read_levels unless first shape_refusal settings_refusal buffers_refusal values_ok lent_refusal pixels_ok coding_refusal rebuilding_refusal leaves coding rebuilding
worked_pieces = record {
  average_a = simp answers;
  difference_a = simp answers;
  accepted_a = refl;
  indices_a = simp answers;
  unclamped_a = simp answers;
  accepted_levels_a = refl;
  rebuilt_a = simp answers;
  bounds_a = (refl, refl);
  average_corner = simp answers;
  expand_minus_one = simp answers;
  bin2 = (bin_at (pos 1) 2 (pos 0) tt, bin_at (negsuc 0) 2 (negsuc 0) tt);
  bin255 = (bin_at (pos 127) 255 (pos 0) tt, bin_at (pos 128) 255 (pos 1) tt);
  bin1 = bin_at (pos 7) 1 (pos 7) tt;
  bound_kernel5 = refl;
  bound_kernel6 = refl;
}

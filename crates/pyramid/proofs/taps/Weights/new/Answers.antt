-- `pyramid::taps::Weights::new` meets its contract: half of the centre's weight is the kernel's number. Assumes nothing.
use Rattle.std.proofs.Common.{arith}
use Rattle.pyramid.specs.Definitions.Weights.{weights}
use Rattle.pyramid.proofs.Weights.{half_fits, half_held, outer_fits}
use Rattle.pyramid.proofs.taps.Weights.new.Goals as goal

pub nonzero_div-half : goal.nonzero_div-half
unfolding weights
nonzero_div-half c = (omega arith, half_fits c.requires c.from.ensures)

pub overflow_sub-half : goal.overflow_sub-half
unfolding weights
overflow_sub-half c = outer_fits c.requires c.from.ensures

pub invariant_of-result : goal.invariant_of-result
unfolding weights
invariant_of-result c = record { lawful = c.requires; half_is = half_held c.requires c.from.ensures }

-- `pixel::sums::Weights::new` meets its contract: half of the centre's weight is the kernel's number. Assumes nothing.
use Rattle.std.proofs.Common.{rules}
use Rattle.pyramid.proofs.Refusals.{accepted_settings}
use Rattle.pixel.proofs.sums.Weights.new.Goals as goal

pub invariant_of-result : goal.invariant_of-result
invariant_of-result c = record { lawful = (accepted_settings _ c.lawful.invariant).shaped.kernel; half_is = search rules }

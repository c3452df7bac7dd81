-- `quantizer::indexing::raised` meets its contract. Assumes nothing.
use Rattle.quantizer.proofs.Nearness.{raised_near}
use Rattle.quantizer.proofs.indexing.raised.Goals as goal

pub returns : goal.returns
returns c = rw c.cast_unsigned.ensures (raised_near c.args.value c.ranges.value)

-- `quantizer::dividing::reciprocal` meets its contract: what the quotient lacks of 2^31 over d is below 1. Assumes nothing.
use Rattle.quantizer.proofs.Multiplication.{one_more}
use Rattle.quantizer.proofs.dividing.reciprocal.Goals as goal

pub returns : goal.returns
returns c = one_more c.requires

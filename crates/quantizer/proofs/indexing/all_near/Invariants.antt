-- What the loop of `quantizer::indexing::all_near` keeps.
use Rattle.quantizer.proofs.Nearness.{Joined}
use Rattle.quantizer.proofs.indexing.all_near.Given as goal

abbrev pub invariant-loop-value : goal.invariant-loop-value
invariant-loop-value l = Joined l.row l.value-index l.bits

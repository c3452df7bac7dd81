-- What the loop of `quantizer::testing::indices_within` keeps.
use Rattle.quantizer.proofs.Ranges.{Ranged}
use Rattle.quantizer.proofs.testing.indices_within.Given as goal

abbrev pub invariant-loop-index : goal.invariant-loop-index
invariant-loop-index l = Ranged l.fn.limit l.fn.bin l.indices l.index-index l.range

-- What the loop of `quantizer::testing::pairs_within` keeps.
use Rattle.std.proofs.Common.{map}
use Rattle.quantizer.specs.Definitions.Values.{pair_index}
use Rattle.quantizer.proofs.Ranges.{Ranged}
use Rattle.quantizer.proofs.testing.pairs_within.Given as goal

abbrev pub invariant-loop-pair : goal.invariant-loop-pair
invariant-loop-pair l = Ranged l.fn.limit l.fn.bin (map pair_index l.pairs) l.pair-index l.range

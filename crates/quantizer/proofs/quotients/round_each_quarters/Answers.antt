-- `quantizer::quotients::round_each_quarters` meets its contract: each turn of its loop rounds one sum. Assumes nothing.
use Rattle.std.proofs.Common.{arith, rules}
use Rattle.mathematics.proofs.Mapping.{mapping_start, mapping_next, mapping_end}
use Rattle.quantizer.proofs.quotients.round_each_quarters.Goals as goal

pub loop-sum-init : goal.loop-sum-init
loop-sum-init c = mapping_start _ _ _

pub loop-sum-preserved : goal.loop-sum-preserved
loop-sum-preserved c = mapping_next c.loop-sum.invariant (omega arith) (search rules)

pub returns : goal.returns
returns c = mapping_end c.loop-sum.invariant c.loop-sum-test.false

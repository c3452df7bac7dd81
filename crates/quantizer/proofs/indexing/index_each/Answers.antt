-- `quantizer::indexing::index_each` meets its contract: each turn of its loop makes one index. Assumes nothing.
use Rattle.std.proofs.Common.{arith, rules}
use Rattle.mathematics.proofs.Mapping.{mapping_start, mapping_next, mapping_end}
use Rattle.quantizer.proofs.indexing.index_each.Goals as goal

pub loop-value-init : goal.loop-value-init
loop-value-init c = mapping_start _ _ _

pub loop-value-preserved : goal.loop-value-preserved
loop-value-preserved c = mapping_next c.loop-value.invariant (omega arith) (search rules)

pub returns : goal.returns
returns c = mapping_end c.loop-value.invariant c.loop-value-test.false

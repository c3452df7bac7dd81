-- `quantizer::indexing::all_near` meets its contract: each turn of its loop joins the bits of one value. Assumes nothing.
use Rattle.std.proofs.Common.{rules}
use Rattle.quantizer.proofs.Nearness.{joined_start, joined_next, joined_end}
use Rattle.quantizer.proofs.indexing.all_near.Goals as goal

pub loop-value-init : goal.loop-value-init
loop-value-init c = joined_start _

pub loop-value-preserved : goal.loop-value-preserved
loop-value-preserved c = joined_next _ c.loop-value.invariant c.loop-value-test.true (search rules)

pub returns : goal.returns
returns c = joined_end c.loop-value.invariant c.loop-value-test.false

-- `quantizer::testing::indices_within` meets its contract: each turn of its loop widens the range by one index. Assumes nothing.
use Rattle.std.proofs.Common.{◌∙◌, pos, rules}
use Rattle.quantizer.proofs.Ranges.{ranged_start, ranged_next, ranged_end}
use Rattle.quantizer.proofs.testing.indices_within.Goals as goal

pub loop-index-init : goal.loop-index-init
loop-index-init c = ranged_start _ _ _ _ c.default-range.ensures

pub loop-index-preserved : goal.loop-index-preserved
loop-index-preserved c = ranged_next _ _ c.loop-index.invariant c.loop-index-test.true (pos 0) (search rules) c.widened-range.ensures

pub returns : goal.returns
returns c = c.range_ok.ensures ∙ ranged_end _ _ c.loop-index.invariant c.loop-index-test.false

-- `quantizer::testing::range_ok` meets its contract: the low end decides, or else the high end. Assumes nothing.
use Rattle.std.proofs.Common.{rules}
use Rattle.quantizer.specs.Inner.Ranges.{range_ok}
use Rattle.quantizer.proofs.testing.range_ok.Goals as goal

pub returns-then-value_ok : goal.returns-then-value_ok
unfolding range_ok
returns-then-value_ok c = search rules

pub returns-else-value_ok : goal.returns-else-value_ok
unfolding range_ok
returns-else-value_ok c = search rules

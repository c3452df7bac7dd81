-- `quantizer::testing::widened` meets its contract: both ends as the library finds them. Assumes nothing.
use Rattle.std.proofs.Common.{rules}
use Rattle.quantizer.specs.Inner.Ranges.{widened}
use Rattle.quantizer.proofs.testing.widened.Goals as goal

pub returns : goal.returns
unfolding widened
returns c = search rules

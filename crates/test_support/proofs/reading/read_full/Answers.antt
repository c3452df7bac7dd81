-- Each read adds to what was taken.
use Rattle.std.proofs.Common.{rules}
use Rattle.test_support.proofs.Taking.{taken_more}
use Rattle.test_support.proofs.reading.read_full.Goals as goal

pub loop-n-preserved : goal.loop-n-preserved
loop-n-preserved g c =
    (search rules, search rules, taken_more _ _ _ _ _ _ _ _ c.loop-n.invariant.1 c.in_ok-more.ensures.bound.0 c.loop-n.invariant.2 c.in_ok-more.ensures.bytes.0)

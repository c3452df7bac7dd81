-- `test_support::comparing::holds` meets its contract: what the buffer lends there is compared. Assumes nothing.
use Rattle.std.proofs.Common.{◌∙◌}
use Rattle.test_support.proofs.Lookups.{lent_at, lent_is}
use Rattle.test_support.proofs.comparing.holds.Goals as goal

pub returns : goal.returns
returns g c = rw (lent_at _ _ _ c.get.ensures.lookup) (c.eq.ensures ∙ lent_is g.T.PartialEq.eq c.get.result c.args.expected)

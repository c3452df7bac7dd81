-- `test_support::comparing::is_same` meets its contract: what both lends hold there. Assumes nothing.
use Rattle.test_support.proofs.Lookups.{lent_at}
use Rattle.test_support.proofs.comparing.is_same.Goals as goal

pub returns-in-Some-Some : goal.returns-in-Some-Some
returns-in-Some-Some g c = rw (lent_at _ _ _ c.get.ensures.lookup, lent_at _ _ _ c.get-2.ensures.lookup, c.in-Some-Some.is-0, c.in-Some-Some.is-1) c.eq.ensures

pub returns-in_default : goal.returns-in_default
returns-in_default g c = rw (lent_at _ _ _ c.get.ensures.lookup, lent_at _ _ _ c.get-2.ensures.lookup, c.in_default.is-0, c.in_default.is-1)

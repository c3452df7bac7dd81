-- `test_support::answers::compare` meets its contract: two values are compared as `values` does. Assumes nothing.
use Rattle.test_support.proofs.answers.compare.Goals as goal

pub returns-in-Ok-Ok : goal.returns-in-Ok-Ok
returns-in-Ok-Ok g c f h = rw (c.in-Ok-Ok.is-0, c.in-Ok-Ok.is-1) (h _ _ _ c.values.ensures)

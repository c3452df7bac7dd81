-- `test_support::comparing::first_failure` meets its contract. Assumes nothing.
use Rattle.std.proofs.Common.{◌≡◌, false, true, sym, ◌∙◌, rules}
use Rattle.test_support.proofs.Searching.{first_failure_here, first_failure_later, first_failure_none}
use Rattle.test_support.proofs.comparing.first_failure.Goals as goal

pub returns-then-not-test : goal.returns-then-not-test
returns-then-not-test g c passes h =
    let e : passes c.loop-i.i ≡ false = sym (h _ _ c.loop-i-test.true c.test.ensures) ∙ (search rules) in
    first_failure_here _ _ _ c.loop-i-test.true e ∙ sym (c.loop-i.invariant passes h)

pub loop-i-preserved : goal.loop-i-preserved
loop-i-preserved g c passes h =
    let e : passes c.loop-i.i ≡ true = sym (h _ _ c.loop-i-test.true c.test.ensures) ∙ (search rules) in
    c.loop-i.invariant passes h ∙ first_failure_later _ _ _ c.loop-i-test.true e

pub returns : goal.returns
returns g c passes h = first_failure_none _ _ _ c.loop-i-test.false ∙ sym (c.loop-i.invariant passes h)

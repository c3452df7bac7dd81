-- `test_support::faults::Faults::find` meets its contract: a refusal that is passed is not in the set, or fails the test. Assumes nothing.
use Rattle.std.proofs.Common.{◌≡◌, true, false, sym, ap, ◌∙◌}
use Rattle.std.specs.List.{find}
use Rattle.refusals.specs.declared.Refusal.TheVariants.{Size}
use Rattle.test_support.proofs.Choosing.{chosen_in, chosen_out, find_here, find_later}
use Rattle.test_support.proofs.faults.Faults.find.Goals as goal
use Rattle.test_support.proofs.faults.Faults.find.Goals.{else-bits-eq1-via-then-bits-eq1+else-test, else-bits-eq1-via-else-bits-eq1}

pub returns-then-test : goal.returns-then-test
returns-then-test g c passes h =
    let e : passes _ ≡ true = sym (h _ _ c.test.ensures) ∙ c.if-test.true in
    sym (find_here passes _ _ _ (chosen_in _ _ _ Size c.loop-refusal-test.true c.if-bits-eq1.true) e) ∙ c.loop-refusal.invariant passes h

pub loop-refusal-preserved : goal.loop-refusal-preserved
loop-refusal-preserved g c passes h =
    elim c.else-bits-eq1.branch [
      | else-bits-eq1-via-then-bits-eq1+else-test w ↦
          let e : passes _ ≡ false = sym (h _ _ w.test.ensures) ∙ w.if-test.false in
          sym (find_later passes _ _ _ (chosen_in _ _ _ Size c.loop-refusal-test.true w.if-bits-eq1.true) e)
      | else-bits-eq1-via-else-bits-eq1 w ↦ ap (find passes) (sym (chosen_out _ _ _ Size c.loop-refusal-test.true w.if-bits-eq1.false))
    ]
    ∙ c.loop-refusal.invariant passes h

-- `pyramid::bounds_of` meets its contract: bounds are made of settings that are accepted. Assumes nothing.
use mathlib.Core.Path.{refl, sym}
use Rattle.refusals.proofs.Outcomes.{accepts, none, value-is, passed_on}
use Rattle.pyramid.specs.Definitions.Answers.{bounds_answer}
use Rattle.pyramid.proofs.Refusals.{outcome_left}
use Rattle.pyramid.proofs.bounds_of.Goals as goal

pub returns-in_err-lawful : goal.returns-in_err-lawful
unfolding bounds_answer
returns-in_err-lawful c = passed_on _ _ _ c.from_residual.result _ c.from_residual.ensures.1 c.in_err-lawful.ensures (λ _. refl)

pub returns : goal.returns
unfolding bounds_answer
returns c =
    let e = sym c.in_ok-lawful.ensures in
    rw (outcome_left, c.bound_slots.ensures, value-is _ _ e) (accepts _ (none _ _ e))

-- `pyramid::total_nodes` meets its contract: T is counted where settings are accepted. Assumes nothing.
use mathlib.Core.Path.{refl, sym}
use Rattle.refusals.proofs.Outcomes.{accepts, none, value-is, passed_on}
use Rattle.pyramid.specs.Definitions.Answers.{nodes_answer}
use Rattle.pyramid.proofs.Refusals.{outcome_left}
use Rattle.pyramid.proofs.total_nodes.Goals as goal

pub returns-in_err-lawful : goal.returns-in_err-lawful
unfolding nodes_answer
returns-in_err-lawful c = passed_on _ _ _ c.from_residual.result _ c.from_residual.ensures.1 c.in_err-lawful.ensures (λ _. refl)

pub returns : goal.returns
unfolding nodes_answer
returns c =
    let e = sym c.in_ok-lawful.ensures in
    rw (outcome_left, c.nodes.ensures, c.shape.ensures, value-is _ _ e) (accepts _ (none _ _ e))

-- `pyramid::shape_nodes` meets its contract: T is counted where a shape is accepted. Assumes nothing.
use mathlib.Core.Path.{refl, sym}
use Rattle.refusals.proofs.Outcomes.{accepts, none, value-is, passed_on}
use Rattle.pyramid.specs.Definitions.Answers.{shape_answer}
use Rattle.pyramid.proofs.Refusals.{outcome_left}
use Rattle.pyramid.proofs.shape_nodes.Goals as goal

pub returns-in_err-shape : goal.returns-in_err-shape
unfolding shape_answer
returns-in_err-shape c = passed_on _ _ _ c.from_residual.result _ c.from_residual.ensures.1 c.in_err-shape.ensures (λ _. refl)

pub returns : goal.returns
unfolding shape_answer
returns c =
    let e = sym c.in_ok-shape.ensures in
    rw (outcome_left, c.nodes.ensures, value-is _ _ e) (accepts _ (none _ _ e))

-- `pyramid::level_size` meets its contract: a level that an accepted shape has is counted, and any other is 0 by 0. Assumes nothing.
use mathlib.Core.Path.{refl, sym}
use Rattle.refusals.proofs.Outcomes.{accepts, none, value-is, passed_on}
use Rattle.pyramid.specs.Definitions.Answers.{level_size_answer}
use Rattle.pyramid.proofs.level_size.Goals as goal

pub returns-in_err-shape : goal.returns-in_err-shape
unfolding level_size_answer
returns-in_err-shape c = passed_on _ _ _ c.from_residual.result _ c.from_residual.ensures.1 c.in_err-shape.ensures (λ _. refl)

pub returns : goal.returns
unfolding level_size_answer
returns c =
    let e = sym c.in_ok-shape.ensures in
    rw (c.level_size.ensures, value-is _ _ e) (accepts _ (none _ _ e))

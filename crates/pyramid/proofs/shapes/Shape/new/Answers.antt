-- `pyramid::shapes::Shape::new` meets its contract. Assumes nothing.
use mathlib.Core.Path.{sym}
use Rattle.refusals.proofs.Outcomes.{accepts, none}
use Rattle.std.proofs.lemmas.Result.{err_from_is_err_and}
use Rattle.refusals.proofs.Outcomes.{passes}
use Rattle.pyramid.proofs.shapes.Shape.new.Goals as goal

pub returns-in_err-check_shape : goal.returns-in_err-check_shape
returns-in_err-check_shape c =
    let (r, was, from) = err_from_is_err_and c.from_residual.result c.from_residual.ensures.1 in
    rw (was, from) (passes tt _ _ (sym c.in_err-check_shape.ensures))

pub invariant_of-result : goal.invariant_of-result
invariant_of-result c = record { shaped = none tt _ (sym c.in_ok-check_shape.ensures) }

pub returns : goal.returns
returns c = accepts _ (none tt _ (sym c.in_ok-check_shape.ensures))

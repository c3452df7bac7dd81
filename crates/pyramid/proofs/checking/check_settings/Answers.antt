-- `pyramid::checking::check_settings` meets its contract. Assumes nothing.
use mathlib.Core.Path.{refl, sym}
use Rattle.refusals.proofs.Outcomes.{accepts, none, passed_on}
use Rattle.pyramid.proofs.checking.check_settings.Goals as goal

pub returns-in_err-new : goal.returns-in_err-new
returns-in_err-new c = passed_on _ _ _ c.from_residual.result _ c.from_residual.ensures.1 c.in_err-new.ensures (λ _. refl)

pub returns : goal.returns
returns c = accepts _ (none _ _ (sym c.in_ok-new.ensures))

-- `pyramid::check_levels` meets its contract: the settings, then the levels. Assumes nothing.
use mathlib.Core.Path.{sym, ◌∙◌}
use Rattle.refusals.proofs.Outcomes.{none, value-is, passed_on}
use Rattle.pyramid.specs.Definitions.Refusals.{levels_refusal}
use Rattle.pyramid.proofs.Refusals.{first_stop, levels_parts}
use Rattle.pyramid.proofs.check_levels.Goals as goal

pub returns-in_err-lawful : goal.returns-in_err-lawful
unfolding levels_refusal
returns-in_err-lawful c = passed_on _ _ _ c.from_residual.result _ c.from_residual.ensures.1 c.in_err-lawful.ensures (first_stop _ _)

pub returns : goal.returns
returns c =
    let e = sym c.in_ok-lawful.ensures in
    c.check_levels.ensures ∙ rw (value-is _ _ e, levels_parts _ _ (none _ _ e))

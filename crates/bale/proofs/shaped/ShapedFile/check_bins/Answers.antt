-- `bale::shaped::ShapedFile::check_bins` meets its contract: the section, then the bins. Assumes nothing.
use mathlib.Core.Path.{sym, ◌∙◌}
use native.Mathlib.Omega.{arith}
use Rattle.refusals.proofs.Outcomes.{accepts, none, passed_on}
use Rattle.bale.proofs.After.{section_after}
use Rattle.bale.proofs.Checks.{bins_stop, bins_left}
use Rattle.pyramid.proofs.Refusals.{accepted_shape}
use Rattle.bale.proofs.shaped.ShapedFile.check_bins.Goals as goal

pub overflow_add-self : goal.overflow_add-self
overflow_add-self c = record { fits = omega (arith, (accepted_shape _ c.args.self.now.shape.shaped).deep) }

pub returns-in_err-check_section : goal.returns-in_err-check_section
returns-in_err-check_section c =
    let said = rw (c.rest-section.ensures, c.bins.ensures.0, section_after) at c.in_err-check_section.ensures in
    passed_on _ _ _ c.from_residual.result _ c.from_residual.ensures.1 said (bins_stop _ _ c.args.self.now.read)

pub returns-in_err-lawful : goal.returns-in_err-lawful
returns-in_err-lawful c =
    let section = none _ _ (sym (rw (c.rest-section.ensures, c.bins.ensures.0, section_after) at c.in_ok-check_section.ensures)) in
    passed_on _ _ _ c.from_residual-in_err-lawful.result _ c.from_residual-in_err-lawful.ensures.1 c.in_err-lawful.ensures
    (λ _. bins_left _ _ c.args.self.now.read section)

pub returns : goal.returns
returns c =
    let section = none _ _ (sym (rw (c.rest-section.ensures, c.bins.ensures.0, section_after) at c.in_ok-check_section.ensures)) in
    accepts _ (bins_left _ _ c.args.self.now.read section ∙ none _ _ (sym c.in_ok-lawful.ensures))

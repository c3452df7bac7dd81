-- `bale::shaped::ShapedFile::bale` meets its contract: section by section. Assumes nothing.
use mathlib.Core.Path.{sym, ◌∙◌}
use Rattle.refusals.proofs.Outcomes.{accepts, none, value-is, passed_on}
use Rattle.pyramid.proofs.Refusals.{first_stop, first_skip, first-last}
use Rattle.bale.specs.Definitions.Reader.{settings_in, body_refusal}
use Rattle.bale.proofs.Checks.{readings_in, levels_in_lem}
use Rattle.bale.proofs.shaped.ShapedFile.bale.Goals as goal

pub returns-in_err-check_bins : goal.returns-in_err-check_bins
unfolding body_refusal
returns-in_err-check_bins c = passed_on _ _ _ c.from_residual.result _ c.from_residual.ensures.1 c.in_err-check_bins.ensures (first_stop _ _)

pub returns-in_err-note : goal.returns-in_err-note
unfolding body_refusal
returns-in_err-note c =
    let read = c.args.self.now.read in
    let bins = none _ _ (sym c.in_ok-check_bins.ensures) in
    let readings = readings_in _ _ read in
    passed_on _ _ _ c.from_residual-in_err-note.result _ c.from_residual-in_err-note.ensures.1 c.in_err-note.ensures
    (λ r. first_skip _ _ bins ∙ first_stop _ _ (λ z. r (readings ∙ z)) ∙ sym readings)

pub returns-in_err-check_levels : goal.returns-in_err-check_levels
unfolding body_refusal
returns-in_err-check_levels c =
    let read = c.args.self.now.read in
    let bins = none _ _ (sym c.in_ok-check_bins.ensures) in
    let readings = sym (readings_in _ _ read) ∙ none _ _ (sym c.in_ok-note.ensures) in
    passed_on _ _ _ c.from_residual-in_err-check_levels.result _ c.from_residual-in_err-check_levels.ensures.1 c.in_err-check_levels.ensures
    (λ _. first_skip _ _ bins ∙ first_skip _ _ readings ∙ first-last _ ∙ sym (levels_in_lem _ _ read))

pub returns : goal.returns
unfolding body_refusal settings_in
returns c =
    let read = c.args.self.now.read in
    let bins = none _ _ (sym c.in_ok-check_bins.ensures) in
    let note = sym c.in_ok-note.ensures in
    let readings = sym (readings_in _ _ read) ∙ none _ _ note in
    let levels = sym (levels_in_lem _ _ read) ∙ none _ _ (sym c.in_ok-check_levels.ensures) in
    rw (value-is _ _ note, read) (accepts _ (first_skip _ _ bins ∙ first_skip _ _ readings ∙ first-last _ ∙ levels))

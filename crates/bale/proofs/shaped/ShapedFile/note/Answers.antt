-- `bale::shaped::ShapedFile::note` meets its contract: the section, then each reading. Assumes nothing.
use mathlib.Core.Path.{sym, ◌∙◌}
use Rattle.refusals.proofs.Outcomes.{accepts, none, value-is, passed_on}
use Rattle.pyramid.proofs.Refusals.{first_stop, first_skip, first-last}
use Rattle.bale.specs.Definitions.Reader.{readings_section_refusal, note_in}
use Rattle.bale.proofs.After.{section_after, reading_after}
use Rattle.bale.proofs.shaped.ShapedFile.note.Goals as goal

pub returns-in_err-check_section : goal.returns-in_err-check_section
unfolding readings_section_refusal
returns-in_err-check_section c =
    let said = rw (c.rest-section.ensures, c.readings.ensures.0, section_after) at c.in_err-check_section.ensures in
    passed_on _ _ _ c.from_residual.result _ c.from_residual.ensures.1 said (first_stop _ _)

pub returns-in_err-before_drier : goal.returns-in_err-before_drier
unfolding readings_section_refusal
returns-in_err-before_drier c =
    let section = none _ _ (sym (rw (c.rest-section.ensures, c.readings.ensures.0, section_after) at c.in_ok-check_section.ensures)) in
    let said = rw (c.rest-drier.ensures, c.drier.ensures.0, reading_after) at c.in_err-before_drier.ensures in
    passed_on _ _ _ c.from_residual-in_err-before_drier.result _ c.from_residual-in_err-before_drier.ensures.1 said (λ r. first_skip _ _ section ∙ first_stop _ _ r)

pub returns-in_err-at_press : goal.returns-in_err-at_press
unfolding readings_section_refusal
returns-in_err-at_press c =
    let section = none _ _ (sym (rw (c.rest-section.ensures, c.readings.ensures.0, section_after) at c.in_ok-check_section.ensures)) in
    let drier = none _ _ (sym (rw (c.rest-drier.ensures, c.drier.ensures.0, reading_after) at c.in_ok-before_drier.ensures)) in
    let said = rw (c.rest-press.ensures, c.press.ensures, reading_after) at c.in_err-at_press.ensures in
    passed_on _ _ _ c.from_residual-in_err-at_press.result _ c.from_residual-in_err-at_press.ensures.1 said
    (λ r. first_skip _ _ section ∙ first_skip _ _ drier ∙ first-last _)

pub returns : goal.returns
unfolding readings_section_refusal note_in
returns c =
    let section = none _ _ (sym (rw (c.rest-section.ensures, c.readings.ensures.0, section_after) at c.in_ok-check_section.ensures)) in
    let drier = sym (rw (c.rest-drier.ensures, c.drier.ensures.0, reading_after) at c.in_ok-before_drier.ensures) in
    let press = sym (rw (c.rest-press.ensures, c.press.ensures, reading_after) at c.in_ok-at_press.ensures) in
    rw (value-is _ _ drier, value-is _ _ press)
    (accepts _ (first_skip _ _ section ∙ first_skip _ _ (none _ _ drier) ∙ first-last _ ∙ none _ _ press))

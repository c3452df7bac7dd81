-- `lepsarvu::write_coded` meets its contract: each refusal where those before it do not come, and then the writer. Assumes nothing.
use mathlib.Core.Path.{sym, ◌∙◌}
use Rattle.refusals.proofs.Outcomes.{none, some, value-is, passed_on}
use Rattle.lepsarvu.specs.Definitions.Exports.{reading_at}
use Rattle.lepsarvu.proofs.CodedNotes.{settings_first, drier_first, press_first, writer_first, file_kept, file_written, size_answered}
use Rattle.lepsarvu.proofs.write_coded.Goals as goal

pub returns-in_err-check_settings : goal.returns-in_err-check_settings
returns-in_err-check_settings c =
    let r = some _ _ (sym c.in_err-check_settings.ensures) in
    let same = settings_first c.args.s c.args.note c.args.levels.now c.args.file.now r in
    record {
      value = passed_on _ _ _ c.from_residual.result _ c.from_residual.ensures.1 c.in_err-check_settings.ensures (λ _. same);
      file_after = file_kept _ _ _ _ (λ z. r (sym same ∙ z));
    }

pub returns-in_err-before_drier : goal.returns-in_err-before_drier
unfolding reading_at
returns-in_err-before_drier c =
    let settings = none _ _ (sym c.in_ok-check_settings.ensures) in
    let r = some _ _ (sym c.in_err-before_drier.ensures) in
    let same = drier_first c.args.s c.args.note c.args.levels.now c.args.file.now settings r in
    record {
      value = passed_on _ _ _ c.from_residual-in_err-before_drier.result _ c.from_residual-in_err-before_drier.ensures.1 c.in_err-before_drier.ensures (λ _. same);
      file_after = file_kept _ _ _ _ (λ z. r (sym same ∙ z));
    }

pub returns-in_err-at_press : goal.returns-in_err-at_press
unfolding reading_at
returns-in_err-at_press c =
    let settings = none _ _ (sym c.in_ok-check_settings.ensures) in
    let drier = none _ _ (sym c.in_ok-before_drier.ensures) in
    let r = some _ _ (sym c.in_err-at_press.ensures) in
    let same = press_first c.args.s c.args.note c.args.levels.now c.args.file.now settings drier r in
    record {
      value = passed_on _ _ _ c.from_residual-in_err-at_press.result _ c.from_residual-in_err-at_press.ensures.1 c.in_err-at_press.ensures (λ _. same);
      file_after = file_kept _ _ _ _ (λ z. r (sym same ∙ z));
    }

pub returns : goal.returns
unfolding reading_at
returns c =
    let settings = none _ _ (sym c.in_ok-check_settings.ensures) in
    let d = sym c.in_ok-before_drier.ensures in
    let p = sym c.in_ok-at_press.ensures in
    let e = writer_first c.args.s c.args.note c.args.levels.now c.args.file.now settings (none _ _ d) (none _ _ p) in
    record {
      value = (rw (value-is _ _ d, value-is _ _ p) at c.write_file.ensures.value) ∙ size_answered _ _ _ _ e;
      file_after = (rw (value-is _ _ d, value-is _ _ p) at c.write_file.ensures.file_after) ∙ file_written _ _ _ _ e;
    }

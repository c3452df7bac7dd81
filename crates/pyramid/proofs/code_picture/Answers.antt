-- `pyramid::code_picture` meets its contract: an accepted call is coded, and a refusal leaves both buffers as they were. Assumes nothing.
use mathlib.Core.Path.{refl, sym, ◌∙◌}
use Rattle.refusals.specs.Definitions.Outcomes.{outcome}
use Rattle.refusals.proofs.Outcomes.{value-is, passed_on, some}
use Rattle.pyramid.specs.Definitions.Refusals.{unless, first, coding_refusal}
use Rattle.pyramid.specs.Definitions.Calls.{leaves, coding}
use Rattle.pyramid.proofs.Refusals.{first_stop, taken, pixels_left, leaves_kept}
use Rattle.pyramid.proofs.code_picture.Goals as goal

pub returns-in_err-lawful : goal.returns-in_err-lawful
unfolding coding coding_refusal
returns-in_err-lawful c =
    let refused = some _ _ (sym c.in_err-lawful.ensures) in
    let same = first_stop _ _ refused in
    record {
      value = passed_on _ _ _ c.from_residual.result _ c.from_residual.ensures.1 c.in_err-lawful.ensures (λ _. same);
      levels_after = sym (leaves_kept _ _ _ (λ e. refused (sym same ∙ e)));
      work_after = sym (leaves_kept _ _ _ (λ e. refused (sym same ∙ e)));
    }

pub returns-then-not-pixels_ok : goal.returns-then-not-pixels_ok
unfolding coding unless first leaves outcome
returns-then-not-pixels_ok c =
    rw (pixels_left _ _ _ _ _ c.in_ok-lawful.ensures c.if-not-pixels_ok.ensures) (record { value = refl; levels_after = refl; work_after = refl })

-- where none of 5, 6 and 7 was given, the buffers are as long
-- as the coding asks
pub code-requires : goal.code-requires
code-requires c = (taken _ _ _ _ _ c.in_ok-lawful.ensures).sized

pub returns : goal.returns
unfolding coding unless first leaves outcome
returns c =
    let s = value-is _ _ (sym c.in_ok-lawful.ensures) in
    rw (pixels_left _ _ _ _ _ c.in_ok-lawful.ensures c.if-not-pixels_ok.ensures)
    (record { value = refl; levels_after = rw s at c.code.ensures.levels_after; work_after = rw s at c.code.ensures.work_after })

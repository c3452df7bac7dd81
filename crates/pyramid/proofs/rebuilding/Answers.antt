-- `pyramid::rebuilding` meets its contract: an accepted call is rebuilt, and a refusal leaves both buffers as they were. Assumes nothing.
use mathlib.Core.Path.{refl, sym, ◌∙◌, subst}
use Rattle.refusals.specs.Definitions.Outcomes.{outcome}
use Rattle.refusals.proofs.Outcomes.{value-is, passed_on, some}
use lib.Dec.{T}
use Rattle.pyramid.specs.Definitions.Refusals.{unless, first, rebuilding_refusal}
use Rattle.pyramid.specs.Definitions.Calls.{leaves, rebuilding}
use Rattle.pyramid.proofs.Refusals.{first_stop, taken, values_left, leaves_kept}
use Rattle.pyramid.proofs.rebuilding.Goals as goal

pub returns-in_err-lawful : goal.returns-in_err-lawful
unfolding rebuilding rebuilding_refusal
returns-in_err-lawful c =
    let refused = some _ _ (sym c.in_err-lawful.ensures) in
    let same = first_stop _ _ refused in
    record {
      value = passed_on _ _ _ c.from_residual.result _ c.from_residual.ensures.1 c.in_err-lawful.ensures (λ _. same);
      picture_after = sym (leaves_kept _ _ _ (λ e. refused (sym same ∙ e)));
      work_after = sym (leaves_kept _ _ _ (λ e. refused (sym same ∙ e)));
    }

pub values_ok-requires : goal.values_ok-requires
values_ok-requires c = (taken _ _ _ _ _ c.in_ok-lawful.ensures).sized.levels_is

pub returns-then-not-values_ok : goal.returns-then-not-values_ok
unfolding rebuilding unless first leaves outcome
returns-then-not-values_ok c = rw (values_left _ _ _ _ _ c.in_ok-lawful.ensures c.if-not-values_ok.ensures) (record { value = refl; picture_after = refl; work_after = refl })

pub rebuild-requires : goal.rebuild-requires
rebuild-requires c = record { sized = (taken _ _ _ _ _ c.in_ok-lawful.ensures).sized; t = subst T c.if-not-values_ok.ensures tt }

pub returns : goal.returns
unfolding rebuilding unless first leaves outcome
returns c =
    let s = value-is _ _ (sym c.in_ok-lawful.ensures) in
    rw (values_left _ _ _ _ _ c.in_ok-lawful.ensures c.if-not-values_ok.ensures)
    (record { value = refl; picture_after = rw s at c.rebuild.ensures.picture_after; work_after = rw s at c.rebuild.ensures.work_after })

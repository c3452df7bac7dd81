-- `pyramid::shapes::LawfulSettings::new` meets its contract: the bins are looked at where the shape passes. Assumes nothing.
use mathlib.Core.Path.{◌≡◌, sym, ap, ◌∙◌}
use Prim.Native.Nat.{ℕ}
use Rattle.std.proofs.lemmas.Result.{err_from_is_err_and}
use Rattle.refusals.specs.Definitions.Outcomes.{outcome}
use Rattle.refusals.proofs.Outcomes.{none, value-is, some}
use Rattle.pyramid.specs.declared.Settings.{Settings}
use Rattle.pyramid.specs.Definitions.Settings.{bins_ok}
use Rattle.pyramid.specs.Definitions.Refusals.{unless, shape_refusal, settings_refusal}
use Rattle.pyramid.proofs.Refusals.{first_stop, first_skip, first-last}
use Rattle.pyramid.proofs.shapes.LawfulSettings.new.Goals as goal

pub returns-in_err-shape : goal.returns-in_err-shape
unfolding settings_refusal
returns-in_err-shape c =
    let (r, was, from) = err_from_is_err_and c.from_residual.result c.from_residual.ensures.1 in
    let e = sym c.in_err-shape.ensures in
    rw (was, from, first_stop _ _ (some _ _ e)) (sym e)

-- what is left to look at
bins_left : (s : Settings) → shape_refusal s ≡ 0 → unless (bins_ok s) 3 ≡ settings_refusal s
unfolding settings_refusal
bins_left s e = sym (first_skip _ _ e ∙ first-last _)

pub returns : goal.returns
returns c =
    let e = sym c.in_ok-shape.ensures in
    c.lawful.ensures ∙ rw (value-is _ _ e) (ap (λ (n : ℕ). outcome n c.args.s) (bins_left c.args.s (none _ _ e)))

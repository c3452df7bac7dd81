-- `pyramid::accepted` meets its contract: each rule is looked at where those before it hold. Assumes nothing.
use mathlib.Core.Path.{◌≡◌, sym, ◌∙◌}
use Rattle.refusals.proofs.Outcomes.{refuses, accepts, none, value-is, some}
use borrow.Author.Tests.{eq-eqb, le-leb, ne_eqb, lt-leb}
use Rattle.std.proofs.lemmas.Result.{err_from_is_err_and}
use Rattle.refusals.specs.declared.Refusal.TheVariants.{PictureLength, LevelsLength, WorkLength}
use Rattle.pyramid.specs.Definitions.Sizes.{total}
use Rattle.pyramid.specs.Definitions.Refusals.{unless, first, buffers_refusal, lent_refusal}
use Rattle.pyramid.proofs.Refusals.{first_stop}
use Rattle.pyramid.proofs.accepted.Goals as goal

pub returns-in_err-lawful : goal.returns-in_err-lawful
unfolding lent_refusal
returns-in_err-lawful c =
    let (r, was, from) = err_from_is_err_and c.from_residual.result c.from_residual.ensures.1 in
    let e = sym c.in_err-lawful.ensures in
    rw (was, from, first_stop _ _ (some _ _ e)) (sym e)

pub returns-then-picture-s : goal.returns-then-picture-s
unfolding lent_refusal buffers_refusal unless first
returns-then-picture-s c =
    let e = sym c.in_ok-lawful.ensures in
    refuses _ PictureLength (rw (none _ _ e, ne_eqb _ _ c.if-picture-s.true))

pub returns-then-levels-t : goal.returns-then-levels-t
unfolding lent_refusal buffers_refusal unless first
returns-then-levels-t c =
    let e = sym c.in_ok-lawful.ensures in
    let t : c.total-t.result ≡ total c.args.s = c.total-t.ensures.0 ∙ rw (c.shape.ensures, value-is _ _ e) in
    refuses _ LevelsLength (rw (none _ _ e, eq-eqb _ _ c.if-picture-s.false, ← t, ne_eqb _ _ c.if-levels-t.true))

pub returns-then-work-t : goal.returns-then-work-t
unfolding lent_refusal buffers_refusal unless first
returns-then-work-t c =
    let e = sym c.in_ok-lawful.ensures in
    let t : c.total-t.result ≡ total c.args.s = c.total-t.ensures.0 ∙ rw (c.shape.ensures, value-is _ _ e) in
    refuses _ WorkLength
    (rw (none _ _ e, eq-eqb _ _ c.if-picture-s.false, ← t, eq-eqb _ _ c.if-levels-t.false, lt-leb _ _ c.if-work-t.true))

pub returns : goal.returns
unfolding lent_refusal buffers_refusal unless first
returns c =
    let e = sym c.in_ok-lawful.ensures in
    let t : c.total-t.result ≡ total c.args.s = c.total-t.ensures.0 ∙ rw (c.shape.ensures, value-is _ _ e) in
    rw (value-is _ _ e)
    (accepts _
    (rw (none _ _ e, eq-eqb _ _ c.if-picture-s.false, ← t, eq-eqb _ _ c.if-levels-t.false, le-leb _ _ c.if-work-t.false)))

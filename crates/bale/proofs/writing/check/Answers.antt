-- `bale::writing::check` meets its contract: rule by rule, number 8 before the levels' last. Assumes nothing.
use mathlib.Core.Path.{sym, ap, ◌∙◌}
use Rattle.std.proofs.lemmas.Result.{err_from_is_err_and}
use Rattle.refusals.specs.declared.Refusal.TheVariants.{Reading, LevelsLength, FileLength}
use Rattle.refusals.proofs.Outcomes.{refuses, accepts, none, some, value-is, passes}
use Rattle.pyramid.specs.Definitions.Sizes.{total}
use Rattle.pyramid.proofs.Refusals.{first_stop}
use Rattle.bale.specs.Definitions.Calls.{write_refusal}
use Rattle.bale.proofs.Writings.{note_refused, length_refused, room_refused, values_left}
use Rattle.bale.proofs.writing.check.Goals as goal

pub returns-in_err-lawful : goal.returns-in_err-lawful
unfolding write_refusal
returns-in_err-lawful c =
    let (r, was, from) = err_from_is_err_and c.from_residual.result c.from_residual.ensures.1 in
    let e = sym c.in_err-lawful.ensures in
    rw (was, from, first_stop _ _ (some _ _ e)) (passes _ _ _ e)

pub returns-then-not-is_lawful : goal.returns-then-not-is_lawful
returns-then-not-is_lawful c = refuses _ Reading (note_refused _ _ _ _ (none _ _ (sym c.in_ok-lawful.ensures)) c.if-not-is_lawful.ensures)

pub returns-then-levels-nodes : goal.returns-then-levels-nodes
returns-then-levels-nodes c =
    let e = sym c.in_ok-lawful.ensures in
    let t = c.nodes.ensures ∙ ap total (c.shape-shape.ensures ∙ value-is _ _ e) in
    refuses _ LevelsLength (length_refused _ _ _ _ (none _ _ e) c.if-not-is_lawful.ensures (λ long. c.if-levels-nodes.true (long ∙ sym t)))

pub returns-then-room-file_length : goal.returns-then-room-file_length
returns-then-room-file_length c =
    let e = sym c.in_ok-lawful.ensures in
    let s = c.shape-shape.ensures ∙ value-is _ _ e in
    let long = c.if-levels-nodes.false ∙ c.nodes.ensures ∙ ap total s in
    let short = rw (c.file_length.ensures, s) at c.if-room-file_length.true in
    refuses _ FileLength (room_refused _ _ _ _ (none _ _ e) c.if-not-is_lawful.ensures long short)

pub returns-in_err-check_levels : goal.returns-in_err-check_levels
returns-in_err-check_levels c =
    let e = sym c.in_ok-lawful.ensures in
    let s = c.shape-shape.ensures ∙ value-is _ _ e in
    let long = c.if-levels-nodes.false ∙ c.nodes.ensures ∙ ap total s in
    let fits = rw (c.file_length.ensures, s) at c.if-room-file_length.false in
    let (r, was, from) = err_from_is_err_and c.from_residual-in_err-check_levels.result c.from_residual-in_err-check_levels.ensures.1 in
    let said = sym (rw (value-is _ _ e) at c.in_err-check_levels.ensures) in
    rw (was, from, values_left _ _ _ _ (none _ _ e) c.if-not-is_lawful.ensures long fits) (passes _ _ _ said)

pub returns : goal.returns
returns c =
    let e = sym c.in_ok-lawful.ensures in
    let s = c.shape-shape.ensures ∙ value-is _ _ e in
    let long = c.if-levels-nodes.false ∙ c.nodes.ensures ∙ ap total s in
    let fits = rw (c.file_length.ensures, s) at c.if-room-file_length.false in
    let said = sym (rw (value-is _ _ e) at c.in_ok-check_levels.ensures) in
    rw s (accepts _ (values_left _ _ _ _ (none _ _ e) c.if-not-is_lawful.ensures long fits ∙ none _ _ said))

-- `pixel::rebuild_pixel` meets its contract: each rule is looked at where those before it hold, and then the pixel is rebuilt. Assumes nothing.
use Rattle.std.proofs.Common.{◌≡◌, ◌∙◌, sym, ◌<◌, length, arith}
use Rattle.refusals.specs.declared.Refusal.TheVariants.{LevelsLength, Place, Index}
use Rattle.refusals.proofs.Outcomes.{refuses, accepts, none, value-is, some, passed_on}
use Rattle.pyramid.specs.Definitions.Sizes.{total}
use Rattle.pyramid.specs.Definitions.Refusals.{settings_refusal}
use Rattle.pyramid.proofs.Refusals.{first_stop}
use Rattle.pixel.specs.Definitions.Pixel.{pixel_refusal, pixel_answer}
use Rattle.pixel.proofs.PixelAnswers.{length_refused, place_refused, index_refused, accepted, pixel_answered}
use Rattle.pixel.proofs.rebuild_pixel.Goals as goal
use Rattle.pixel.proofs.rebuild_pixel.Goals.{After-from, After-rebuild, then-s-column-via-then-s-column, then-s-column-via-else-s-column+then-s-row}

pub returns-in_err-lawful : goal.returns-in_err-lawful
unfolding pixel_answer pixel_refusal
returns-in_err-lawful c =
    let same = first_stop _ _ (some _ _ (sym c.in_err-lawful.ensures)) in
    passed_on _ _ _ c.from_residual.result _ c.from_residual.ensures.1 c.in_err-lawful.ensures (λ _. same)

-- the settings were accepted
module _ (n : After-from) where
  lawful : n.in_ok-lawful.lawful ≡ n.args.s
  lawful = value-is _ _ (sym n.in_ok-lawful.ensures)

  settings : settings_refusal n.args.s ≡ 0
  settings = none _ _ (sym n.in_ok-lawful.ensures)

  nodes : n.from.result ≡ total n.args.s
  nodes = n.from.ensures ∙ n.nodes.ensures ∙ rw (n.shape.ensures, lawful)

pub returns-then-levels-from : goal.returns-then-levels-from
unfolding pixel_answer
returns-then-levels-from c =
    let n = (goal.at.returns-then-levels-from c).After-from in
    refuses _ LevelsLength (length_refused c.args.s c.args.column c.args.row c.args.levels.now (settings n) (λ e. c.if-levels-from.true (e ∙ sym (nodes n))))

pub returns-then-s-column : goal.returns-then-s-column
unfolding pixel_answer
returns-then-s-column c =
    let n = (goal.at.returns-then-s-column c).After-from in
    refuses _ Place
    (place_refused c.args.s c.args.column c.args.row c.args.levels.now (settings n) (c.if-levels-from.false ∙ nodes n)
    (λ h. elim c.then-s-column.branch [
      | then-s-column-via-then-s-column w ↦ omega (arith, h.0, w.if-s-column)
      | then-s-column-via-else-s-column+then-s-row w ↦ omega (arith, h.1, w.if-s-row)
    ]))

pub new-requires-2 : goal.new-requires-2
new-requires-2 c =
    let n = (goal.at.new-requires-2 c).After-from in
    rw (lawful n) (c.if-s-column.false, c.if-s-row.false)

pub returns-in-Some : goal.returns-in-Some
unfolding pixel_answer
returns-in-Some c =
    let n = (goal.at.returns-in-Some c).After-from in
    let inside : (c.args.column < c.args.s.columns) × (c.args.row < c.args.s.rows) = (c.if-s-column.false, c.if-s-row.false) in
    let filled : length c.args.levels.now ≡ total c.args.s = c.if-levels-from.false ∙ nodes n in
    let (read, pixel, number) = rw (c.new-2.ensures.0, lawful n, c.new-2.ensures.1, c.new-2.ensures.2) at (c.rebuild.ensures.read c.in-Some.pixel c.in-Some.is) in
    rw (pixel_answered c.args.s c.args.column c.args.row c.args.levels.now (settings n) filled inside.0 inside.1 read pixel number)
    (accepts _ (sym (accepted c.args.s c.args.column c.args.row c.args.levels.now (settings n) filled inside.0 inside.1 read)))

pub returns-in-None : goal.returns-in-None
unfolding pixel_answer
returns-in-None c =
    let n = (goal.at.returns-in-None c).After-from in
    let filled : length c.args.levels.now ≡ total c.args.s = c.if-levels-from.false ∙ nodes n in
    let unlawful = rw (c.new-2.ensures.0, lawful n, c.new-2.ensures.1, c.new-2.ensures.2) at (c.rebuild.ensures.refused c.in-None.is) in
    refuses _ Index (index_refused c.args.s c.args.column c.args.row c.args.levels.now (settings n) filled c.if-s-column.false c.if-s-row.false unlawful)

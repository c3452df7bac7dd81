-- `pixel::axes::Axis::read_row` meets its contract: each turn writes a place, and counts it where it is the window's. Assumes nothing.
use Rattle.std.proofs.Common.{◌≡◌, ◌∙◌, sym, ap, ℕ, ◌+◌, arith}
use borrow.Author.Rules.{sfits_of}
use Rattle.mathematics.proofs.Held.{held_is}
use Rattle.mathematics.proofs.Filling.{filling_start, filling_next}
use Rattle.pyramid.proofs.LentParts.{filled_whole}
use Rattle.pixel.proofs.PlacesHeld.{held_to, held_start, held_more, held-same, held_all}
use Rattle.pixel.proofs.axes.Axis.read_row.Goals as goal
use Rattle.pixel.proofs.axes.Axis.read_row.Goals.{Joined-holds, then-holds, else-holds}

counted : (n : Joined-holds) → n.if-holds.read ≡ held_to n.args.self (n.loop-m.m + 1)
counted n =
    elim n.if-holds.branch [
      | then-holds w ↦ w.read-is ∙ ap (λ (k : ℕ). k + 1) n.loop-m.invariant.1 ∙ held_more n.args.self n.loop-m.m (sym n.holds.ensures ∙ w.if-holds.true)
      | else-holds w ↦ w.read-is ∙ n.loop-m.invariant.1 ∙ held-same n.args.self n.loop-m.m (sym n.holds.ensures ∙ w.if-holds.false)
    ]

pub loop-m-init : goal.loop-m-init
loop-m-init c = (filling_start _ _ _ _, held_start c.args.self)

pub loop-m-preserved : goal.loop-m-preserved
loop-m-preserved c = (
  filling_next c.loop-m.invariant.0 (omega (arith, c.requires.0)) (omega arith) (held_is (sfits_of c.value.type_inv) ∙ c.value.ensures) (omega (arith, c.requires.0)),
  counted (goal.at.loop-m-preserved c).Joined-holds,
)

pub returns-clause-count : goal.returns-clause-count
returns-clause-count c = c.loop-m.invariant.1 ∙ held_all c.args.self c.loop-m.m (omega (arith, c.requires.0))

pub returns-clause-values_after : goal.returns-clause-values_after
returns-clause-values_after c = filled_whole c.loop-m.invariant.0 (omega (arith, c.requires.0)) c.requires.0

-- `bale::shaped::ShapedFile::check_levels` meets its contract: level by level. Assumes nothing.
use mathlib.Core.Path.{sym, ◌∙◌}
use native.Mathlib.Omega.{arith}
use Rattle.refusals.specs.declared.Refusal.TheVariants.{BytesAfter}
use Rattle.refusals.proofs.Outcomes.{refuses, accepts, none, passed_on, value-is}
use Rattle.pyramid.proofs.Refusals.{unless_passes, unless_fails}
use Rattle.bale.proofs.After.{sections_after}
use Rattle.bale.proofs.Checks.{levels_stop, levels_next, levels_end}
use Rattle.bale.proofs.shaped.ShapedFile.check_levels.Goals as goal
use Rattle.bale.proofs.shaped.ShapedFile.check_levels.Goals.{else-loop-level-test, then-loop-level-test+in_ok-left+else-level-gt0}

pub loop-level-init : goal.loop-level-init
loop-level-init c = rw (c.rest-left.ensures, sections_after, c.levels.ensures)

pub loop-level-preserved : goal.loop-level-preserved
loop-level-preserved c =
    let s = c.args.self.now.shape.settings in
    let l = c.loop-level in
    let said = sym c.in_ok-left.ensures in
    l.invariant ∙ sym (levels_next l.left.now s l.level (value-is _ _ said) (none _ _ said) (λ e. omega (arith, e)))

pub returns-in_err-left : goal.returns-in_err-left
returns-in_err-left c =
    passed_on _ _ _ c.from_residual.result _ c.from_residual.ensures.1 c.in_err-left.ensures
    (λ r. c.loop-level.invariant ∙ levels_stop _ _ _ r)

pub returns-then-not-is_empty : goal.returns-then-not-is_empty
returns-then-not-is_empty c =
    elim c.loop-level-test.branch [
      | else-loop-level-test w ↦ absurd (omega (arith, w.loop-level-test.false))
      | then-loop-level-test+in_ok-left+else-level-gt0 w ↦
          let said = sym w.in_ok-left.ensures in
          let last = levels_end c.loop-level.left.now c.args.self.now.shape.settings c.loop-level.level (value-is _ _ said) (none _ _ said) (omega arith) in
          refuses _ BytesAfter (sym (c.loop-level.invariant ∙ last ∙ unless_fails 12 (sym (rw w.left-is at c.if-not-is_empty.ensures))))
    ]

pub returns : goal.returns
returns c =
    elim c.loop-level-test.branch [
      | else-loop-level-test w ↦ absurd (omega (arith, w.loop-level-test.false))
      | then-loop-level-test+in_ok-left+else-level-gt0 w ↦
          let said = sym w.in_ok-left.ensures in
          let last = levels_end c.loop-level.left.now c.args.self.now.shape.settings c.loop-level.level (value-is _ _ said) (none _ _ said) (omega arith) in
          accepts _ (c.loop-level.invariant ∙ last ∙ unless_passes 12 (sym (rw w.left-is at c.if-not-is_empty.ensures)))
    ]

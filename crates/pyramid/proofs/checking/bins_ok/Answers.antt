-- `pyramid::checking::bins_ok` meets its contract: each turn tests one slot. Assumes nothing.
use Rattle.std.proofs.Common.{◌≡◌, sym, ◌∙◌, arith}
use Rattle.mathematics.proofs.Tests.{below_none, below_next, below_fails}
use Rattle.pyramid.specs.Definitions.Settings.{bins_ok}
use Rattle.pyramid.proofs.SettingsTests.{slot}
use Rattle.pyramid.proofs.checking.bins_ok.Goals as goal

pub loop-level-init : goal.loop-level-init
loop-level-init c = below_none _

pub returns-then-not-slot_ok : goal.returns-then-not-slot_ok
unfolding bins_ok
returns-then-not-slot_ok c = sym (below_fails 7 (slot c.args.s) _ c.loop-level-test.true (sym (rw c.from.ensures at c.slot_ok.ensures) ∙ c.if-not-slot_ok.true))

pub loop-level-preserved : goal.loop-level-preserved
loop-level-preserved c = below_next _ (slot c.args.s) c.loop-level.invariant (sym (rw c.from.ensures at c.slot_ok.ensures) ∙ c.if-not-slot_ok.false)

pub returns : goal.returns
unfolding bins_ok
returns c = let e : c.loop-level.level ≡ 7 = omega arith in sym (rw e at c.loop-level.invariant)

-- `pgm::finding::digits_place` meets its contract: each turn of its loop passes one byte. Assumes nothing.
use mathlib.Core.Path.{refl}
use Rattle.pgm.proofs.Passing.{passing_next, passing_stop, passing_past}
use Rattle.pgm.proofs.finding.digits_place.Goals as goal

pub loop-i-preserved : goal.loop-i-preserved
loop-i-preserved c = passing_next c.loop-i.invariant c.loop-i-test.true c.is_passed.ensures c.if-not-is_passed.false c.is_inside_after-inside.ensures

pub returns-then-not-is_passed : goal.returns-then-not-is_passed
returns-then-not-is_passed c = passing_stop c.loop-i.invariant _ _ c.requires refl c.loop-i-test.true c.is_passed.ensures c.if-not-is_passed.true

pub returns : goal.returns
returns c = passing_past c.loop-i.invariant _ _ c.requires refl c.loop-i-test.false c.loop-i.auto.i-end

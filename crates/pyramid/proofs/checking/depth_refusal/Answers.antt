-- `pyramid::checking::depth_refusal` meets its contract: three rules are looked at in their order, the last by what is left. Assumes nothing.
use Rattle.pyramid.proofs.SettingsTests.{size_positive}
use Rattle.pyramid.proofs.ShapeRefusals.{depth_fails, columns_fail, rows_fail}
use Rattle.pyramid.proofs.checking.depth_refusal.Goals as goal

pub deepest-most-requires : goal.deepest-most-requires
deepest-most-requires c = let (across, along) = size_positive _ _ c.requires.0 in (across, across)

pub returns-then-s-gt6 : goal.returns-then-s-gt6
returns-then-s-gt6 c = depth_fails c.args.s c.requires.0 c.if-s-gt6.true

pub returns-then-most-s : goal.returns-then-most-s
returns-then-most-s c = columns_fail c.args.s c.requires.0 c.if-s-gt6.false (rw c.deepest-most.ensures at c.if-most-s.true)

pub returns : goal.returns
returns c = rows_fail c.args.s c.requires.0 c.if-s-gt6.false (rw c.deepest-most.ensures at c.if-most-s.false) c.requires.1

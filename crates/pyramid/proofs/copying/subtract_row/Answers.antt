-- `pyramid::copying::subtract_row` meets its contract: each turn of its loop leaves one difference. Assumes nothing.
use Rattle.std.proofs.Common.{get_or, pos, arith}
use Rattle.mathematics.proofs.Mapping.{replacing_start, replacing_next, replacing_end}
use Rattle.pyramid.specs.Inner.Rows.{Within}
use Rattle.pyramid.proofs.Copies.{difference-fits, difference_held}
use Rattle.pyramid.proofs.copying.subtract_row.Goals as goal
use Rattle.pyramid.proofs.copying.subtract_row.Goals.{In-loop-i}

-- what is read in a turn is still the prediction
unwritten : (n : In-loop-i) → Within 8388608 (get_or n.loop-i.predicted n.loop-i.i (pos 0))
unwritten n = rw (n.loop-i.invariant.left n.loop-i.i (omega arith)) (n.requires.small_2 n.loop-i.i)

pub loop-i-init : goal.loop-i-init
loop-i-init c = replacing_start _ _ _

pub overflow_sub-x : goal.overflow_sub-x
overflow_sub-x c = difference-fits tt tt tt (c.requires.small c.loop-i.i) (unwritten (goal.at.overflow_sub-x c).In-loop-i)

pub loop-i-preserved : goal.loop-i-preserved
loop-i-preserved c =
    replacing_next c.loop-i.invariant (omega arith) (difference_held tt tt tt (c.requires.small c.loop-i.i) (unwritten (goal.at.loop-i-preserved c).In-loop-i))

pub returns : goal.returns
returns c = replacing_end c.loop-i.invariant c.loop-i-test.false

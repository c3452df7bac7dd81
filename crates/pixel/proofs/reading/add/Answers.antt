-- `pixel::reading::add` meets its contract: each turn of its loop adds one value. Assumes nothing.
use Rattle.std.proofs.Common.{get_or, pos, arith}
use Rattle.mathematics.proofs.Mapping.{replacing_start, replacing_next, replacing_end}
use Rattle.pyramid.specs.Inner.Rows.{Within}
use Rattle.pixel.proofs.PlacesHeld.{sum_fits, sum_held}
use Rattle.pixel.proofs.reading.add.Goals as goal
use Rattle.pixel.proofs.reading.add.Goals.{In-loop-p}

-- what is read in a turn is still the prediction
unwritten : (n : In-loop-p) → Within 2097152 (get_or n.loop-p.predicted n.loop-p.p (pos 0))
unwritten n = rw (n.loop-p.invariant.left n.loop-p.p (omega arith)) (n.requires.1 n.loop-p.p)

pub loop-p-init : goal.loop-p-init
loop-p-init c = replacing_start _ _ _

pub overflow_add-x : goal.overflow_add-x
overflow_add-x c = sum_fits (c.requires.0 c.loop-p.p) (unwritten (goal.at.overflow_add-x c).In-loop-p)

pub loop-p-preserved : goal.loop-p-preserved
loop-p-preserved c =
    replacing_next c.loop-p.invariant (omega arith) (sum_held (c.requires.0 c.loop-p.p) (unwritten (goal.at.loop-p-preserved c).In-loop-p))

pub returns : goal.returns
returns c = replacing_end c.loop-p.invariant (omega arith)

-- `pyramid::copying::value_row` meets its contract: each turn of its loop leaves one rebuilt value. Assumes nothing.
use Rattle.std.proofs.Common.{get_or, pos, arith, rules}
use Rattle.mathematics.proofs.Mapping.{replacing_start, replacing_next, replacing_end}
use Rattle.pyramid.specs.Inner.Rows.{Within}
use Rattle.pyramid.proofs.Copies.{value_fits, rebuilt_fits, rebuilt_held}
use Rattle.pyramid.proofs.copying.value_row.Goals as goal
use Rattle.pyramid.proofs.copying.value_row.Goals.{In-loop-i}

-- what is read in a turn is still the prediction
unwritten : (n : In-loop-i) → Within 8388608 (get_or n.loop-i.predicted n.loop-i.i (pos 0))
unwritten n = rw (n.loop-i.invariant.left n.loop-i.i (omega arith)) (n.requires.small n.loop-i.i)

pub loop-i-init : goal.loop-i-init
loop-i-init c = replacing_start _ _ _

pub overflow_mul-indices : goal.overflow_mul-indices
overflow_mul-indices c = value_fits (search rules) c.requires.short (c.requires.values_within.at c.loop-i.i (omega arith))

pub overflow_add-value : goal.overflow_add-value
overflow_add-value c =
    let i = c.loop-i.i in
    rebuilt_fits (search rules) c.requires.short (c.requires.values_within.at i (omega arith)) (unwritten (goal.at.overflow_add-value c).In-loop-i) c.from.ensures

pub loop-i-preserved : goal.loop-i-preserved
loop-i-preserved c =
    let i = c.loop-i.i in
    replacing_next c.loop-i.invariant (omega arith)
    (rebuilt_held (search rules) c.requires.short (c.requires.values_within.at i (omega arith)) (unwritten (goal.at.loop-i-preserved c).In-loop-i) c.from.ensures)

pub returns : goal.returns
returns c = replacing_end c.loop-i.invariant c.loop-i-test.false

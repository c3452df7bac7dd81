-- `pyramid::bounding::bound_slots` meets its contract: each turn fills the slot of the next level down. Assumes nothing.
use Rattle.std.proofs.Common.{arith}
use Rattle.pyramid.proofs.BoundSlots.{filled_start, filled_next, filled_end}
use Rattle.pyramid.proofs.Refusals.{accepted_settings}
use Rattle.pyramid.proofs.bounding.bound_slots.Goals as goal

pub loop-l-init : goal.loop-l-init
loop-l-init c = rw c.from-top.ensures (filled_start (accepted_settings _ c.lawful.invariant))

pub bounds-bins-top : goal.bounds-bins-top
bounds-bins-top c = omega (arith, c.from-top.ensures, (accepted_settings _ c.lawful.invariant).shaped.deep)

pub bounds-out-top : goal.bounds-out-top
bounds-out-top c = omega (arith, c.from-top.ensures, (accepted_settings _ c.lawful.invariant).shaped.deep)

pub overflow_add-bound : goal.overflow_add-bound
overflow_add-bound c = let k = filled_next c.loop-l.invariant c.loop-l-test.true in omega arith

pub loop-l-preserved : goal.loop-l-preserved
loop-l-preserved c = rw c.carried.ensures (filled_next c.loop-l.invariant c.loop-l-test.true)

pub returns : goal.returns
returns c = rw (← c.lawful.view_is) (filled_end c.loop-l.invariant (omega arith))

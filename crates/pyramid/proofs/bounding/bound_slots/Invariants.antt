-- What the loop of `pyramid::bounding::bound_slots` keeps: the bound is that of level l, and the slots from l on are filled.
use Rattle.pyramid.proofs.BoundSlots.{Filled}
use Rattle.pyramid.proofs.bounding.bound_slots.Given as goal

abbrev pub invariant-loop-l : goal.invariant-loop-l
invariant-loop-l l = Filled l.lawful-inside.settings l.manner l.out l.l l.bound

-- What the loop of `pyramid::layering::value_level` keeps: j rows of the level's values are there.
use Rattle.pyramid.proofs.ValueLevels.{Values}
use Rattle.pyramid.proofs.layering.value_level.Given as goal

abbrev pub invariant-loop-j : goal.invariant-loop-j
invariant-loop-j l = Values l.level.settings l.level.number l.levels l.fn.work l.initial.here l.here l.j

-- What the loop of `pyramid::layering::value_levels` keeps: the values of the levels above level l are there.
use Rattle.pyramid.specs.Definitions.Buffers.{start}
use Rattle.pyramid.proofs.ValueLevels.{Rebuildable, Rebuilding}
use Rattle.pyramid.proofs.layering.value_levels.Given as goal

abbrev pub invariant-loop-l : goal.invariant-loop-l
invariant-loop-l l = Rebuildable l.lawful l.levels l.initial.work → Rebuilding l.lawful l.levels l.initial.work l.work (start l.lawful l.l)

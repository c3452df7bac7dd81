-- What the loop of `pyramid::layering::code_level` keeps: j rows of the level's indices are there, and of what is kept.
use Rattle.pyramid.proofs.CodeLevels.{Indices, Kept}
use Rattle.pyramid.proofs.layering.code_level.Given as goal

abbrev pub invariant-loop-j : goal.invariant-loop-j
invariant-loop-j l =
    Indices l.level.settings l.level.number l.fn.work l.fn.levels l.levels l.j × Kept l.level.settings l.level.number l.manner l.fn.work l.initial.here l.here l.j

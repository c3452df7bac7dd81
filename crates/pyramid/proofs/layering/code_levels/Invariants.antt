-- What the loop of `pyramid::layering::code_levels` keeps: the levels above level l are coded.
use Rattle.pyramid.specs.Definitions.Buffers.{start}
use Rattle.pyramid.proofs.CodeLevels.{Codable, Coding}
use Rattle.pyramid.proofs.layering.code_levels.Given as goal

abbrev pub invariant-loop-l : goal.invariant-loop-l
invariant-loop-l l =
    Codable l.fn.lawful l.fn.manner l.fn.levels l.fn.work
    → Coding l.fn.lawful l.fn.manner l.fn.levels l.fn.work l.levels l.work (start l.fn.lawful l.l)

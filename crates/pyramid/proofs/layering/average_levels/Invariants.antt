-- What the loop of `pyramid::layering::average_levels` keeps: the averages of levels l to 0 are in their place.
use Rattle.std.proofs.Common.{◌≤◌, length}
use Rattle.pyramid.specs.Definitions.Sizes.{total}
use Rattle.pyramid.specs.Inner.Lawful.{Lawful}
use Rattle.pyramid.proofs.AverageLevels.{Averaged}
use Rattle.pyramid.proofs.layering.average_levels.Given as goal

abbrev pub invariant-loop-l : goal.invariant-loop-l
invariant-loop-l l = (law : Lawful l.lawful) (long : total l.lawful ≤ length l.initial.work) → Averaged l.lawful law l.initial.work long l.work l.l

-- What the loop of `pyramid::layering::values_ok` keeps: the answer is that of levels l to 0, which are what is left.
use Rattle.std.proofs.Common.{◌≡◌, length}
use Rattle.pyramid.specs.Definitions.Sizes.{nodes_to}
use Rattle.pyramid.specs.Definitions.Refusals.{values_ok}
use Rattle.pyramid.proofs.CheckedLevels.{checked}
use Rattle.pyramid.proofs.layering.values_ok.Given as goal

abbrev pub invariant-loop-l : goal.invariant-loop-l
invariant-loop-l l = (values_ok l.fn.lawful l.fn.levels ≡ checked l.fn.lawful l.l l.left) × (length l.left ≡ nodes_to l.fn.lawful l.l)

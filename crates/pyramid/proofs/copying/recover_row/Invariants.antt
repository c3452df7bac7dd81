-- What the loop of `pyramid::copying::recover_row` keeps.
use Rattle.std.proofs.Common.{get_or, pos, ◌-ℤ◌}
use Rattle.mathematics.proofs.Mapping.{Replacing}
use Rattle.pyramid.proofs.copying.recover_row.Given as goal

abbrev pub invariant-loop-i : goal.invariant-loop-i
invariant-loop-i l = Replacing (λ k a. a -ℤ get_or l.differences k (pos 0)) (pos 0) l.initial.averages l.averages l.i

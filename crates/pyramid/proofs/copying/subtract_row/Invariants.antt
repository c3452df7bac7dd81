-- What the loop of `pyramid::copying::subtract_row` keeps.
use Rattle.std.proofs.Common.{get_or, pos, ◌-ℤ◌}
use Rattle.mathematics.proofs.Mapping.{Replacing}
use Rattle.pyramid.proofs.copying.subtract_row.Given as goal

abbrev pub invariant-loop-i : goal.invariant-loop-i
invariant-loop-i l = Replacing (λ k p. get_or l.averages k (pos 0) -ℤ p) (pos 0) l.initial.predicted l.predicted l.i

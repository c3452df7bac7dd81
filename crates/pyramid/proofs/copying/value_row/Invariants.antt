-- What the loop of `pyramid::copying::value_row` keeps.
use Rattle.std.proofs.Common.{get_or, pos, ◌+ℤ◌, ◌*ℤ◌}
use Rattle.mathematics.proofs.Mapping.{Replacing}
use Rattle.pyramid.proofs.copying.value_row.Given as goal

abbrev pub invariant-loop-i : goal.invariant-loop-i
invariant-loop-i l = Replacing (λ k e. get_or l.indices k (pos 0) *ℤ pos l.bin +ℤ e) (pos 0) l.initial.predicted l.predicted l.i

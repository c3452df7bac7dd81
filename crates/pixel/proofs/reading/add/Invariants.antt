-- What the loop of `pixel::reading::add` keeps.
use Rattle.std.proofs.Common.{get_or, pos, ◌+ℤ◌}
use Rattle.mathematics.proofs.Mapping.{Replacing}
use Rattle.pixel.proofs.reading.add.Given as goal

abbrev pub invariant-loop-p : goal.invariant-loop-p
invariant-loop-p l = Replacing (λ k e. get_or l.values k (pos 0) +ℤ e) (pos 0) l.initial.predicted l.predicted l.p

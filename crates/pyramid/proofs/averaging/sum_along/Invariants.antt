-- What the loop of `pyramid::averaging::sum_along` keeps: the sums before sum i are written.
use Rattle.std.proofs.Common.{List, ℕ, ◌+◌, ◌*◌, ◌/◌, ℤ, pos, ◌*ℤ◌, get_or}
use Rattle.mathematics.specs.Definitions.Sums.{sum}
use Rattle.mathematics.proofs.Filling.{Filling}
use Rattle.pyramid.specs.Definitions.Weights.{weight}
use Rattle.pyramid.specs.Definitions.Edge.{reflect}
use Rattle.pyramid.proofs.averaging.sum_along.Given as goal

-- sum i of the row
abbrev pub sum_at : ℕ → List ℤ → ℕ → ℕ → ℤ
sum_at k row last i = sum 5 (λ t. weight k t *ℤ get_or row (reflect last (2 * i + t)) (pos 0))

abbrev pub invariant-loop-i : goal.invariant-loop-i
invariant-loop-i l = Filling 0 (l.last / 2 + 1) (sum_at l.weights.kernel l.row l.last) l.fn.sums l.sums l.i

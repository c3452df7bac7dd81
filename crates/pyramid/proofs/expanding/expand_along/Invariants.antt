-- What the loop of `pyramid::expanding::expand_along` keeps: before turn a the first 2a sums are written.
use Rattle.std.proofs.Common.{◌+◌, ◌*◌}
use Rattle.mathematics.proofs.Filling.{Filling}
use Rattle.pyramid.proofs.ExpandTaps.{along}
use Rattle.pyramid.proofs.expanding.expand_along.Given as goal

abbrev pub invariant-loop-a : goal.invariant-loop-a
invariant-loop-a l = Filling 0 (2 * l.last + 1) (along l.fn.weights.kernel l.last l.sums) l.fn.row l.row (2 * l.a)

-- What the loop of `pyramid::expanding::weigh_three` keeps.
use Rattle.std.proofs.Common.{length, pos, get_or}
use Rattle.mathematics.proofs.Filling.{Filling}
use Rattle.pyramid.proofs.ExpandTaps.{three}
use Rattle.pyramid.proofs.expanding.weigh_three.Given as goal

abbrev pub invariant-loop-x : goal.invariant-loop-x
invariant-loop-x l =
    Filling 0 (length l.initial.sums) (λ x. three l.weights.kernel (get_or l.a x (pos 0)) (get_or l.b x (pos 0)) (get_or l.c x (pos 0))) l.initial.sums l.sums l.x

-- What the loop of `pyramid::copying::load` keeps.
use Rattle.std.proofs.Common.{pos, length, get_or}
use Rattle.mathematics.proofs.Filling.{Filling}
use Rattle.pyramid.proofs.copying.load.Given as goal

abbrev pub invariant-loop-i : goal.invariant-loop-i
invariant-loop-i l = Filling 0 (length l.picture) (λ k. pos (get_or l.picture k 0)) l.initial.values l.values l.i

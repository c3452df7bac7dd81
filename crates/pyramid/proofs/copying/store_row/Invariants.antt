-- What the loop of `pyramid::copying::store_row` keeps.
use Rattle.std.proofs.Common.{length, get_or, pos}
use Rattle.mathematics.proofs.Filling.{Filling}
use Rattle.pyramid.proofs.copying.store_row.Given as goal

abbrev pub invariant-loop-i : goal.invariant-loop-i
invariant-loop-i l = Filling 0 (length l.numbers) (λ k. get_or l.numbers k (pos 0)) l.initial.indices l.indices l.i

-- What the loop of `pyramid::averaging::weigh_rows` keeps.
use Rattle.std.proofs.Common.{pos, ◌+ℤ◌, ◌*ℤ◌, length, get_or}
use Rattle.mathematics.proofs.Filling.{Filling}
use Rattle.pyramid.specs.Definitions.Weights.{weight}
use Rattle.pyramid.proofs.averaging.weigh_rows.Given as goal

abbrev pub invariant-loop-i : goal.invariant-loop-i
invariant-loop-i l =
    let k = l.fn.weights.kernel in
    Filling 0 (length l.initial.row)
    (λ i. weight k 4 *ℤ (get_or l.a i (pos 0) +ℤ get_or l.e i (pos 0)) +ℤ weight k 3 *ℤ (get_or l.b i (pos 0) +ℤ get_or l.d i (pos 0)) +ℤ weight k 2 *ℤ get_or l.c i (pos 0))
    l.initial.row l.row l.i

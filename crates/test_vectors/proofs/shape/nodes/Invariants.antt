-- What the loop of `test_vectors::shape::nodes` keeps: the sides of a level, and what the nodes are at most.
use Rattle.std.proofs.Common.{◌≤◌, ◌+◌, ◌*◌}
use Rattle.test_vectors.proofs.shape.nodes.Given as goal

abbrev pub invariant-loop : goal.invariant-loop
invariant-loop l = record { columns : l.c ≤ 128; rows : l.r ≤ 128; few : l.n ≤ 16641 * (l.counter + 1) }

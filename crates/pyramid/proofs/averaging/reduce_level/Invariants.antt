-- What the loop of `pyramid::averaging::reduce_level` keeps: j rows of the next level are there, and the sums of the last five rows before
-- row `next`.
use Rattle.std.proofs.Common.{◌≤◌, ◌+◌, ◌-◌, ◌*◌, ◌/◌}
use Rattle.pyramid.specs.Definitions.Steps.{reduce}
use Rattle.pyramid.specs.Inner.Rows.{as_level}
use Rattle.pyramid.specs.Inner.RowSums.{LastSums}
use Rattle.pyramid.proofs.Rendering.{Rendering}
use Rattle.pyramid.proofs.averaging.reduce_level.Given as goal

abbrev pub invariant-loop-j : goal.invariant-loop-j
invariant-loop-j l =
    let k = l.level.weights.kernel in
    let read = as_level l.level.columns l.level.values.now in
    Rendering 0 ((l.level.columns - 1) / 2 + 1) ((l.level.rows - 1) / 2 + 1) (reduce k (l.level.columns - 1) (l.level.rows - 1) read) l.initial.above l.above l.j
    × (LastSums k (l.level.columns - 1) read l.next l.sums × (l.next ≤ l.level.rows × l.next ≤ 2 * l.j + 1))

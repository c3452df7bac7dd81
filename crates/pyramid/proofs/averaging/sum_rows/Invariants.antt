-- What the loop of `pyramid::averaging::sum_rows` keeps: the sums of the last five rows before row y.
use Rattle.std.proofs.Common.{◌-◌}
use Rattle.pyramid.specs.Inner.Rows.{as_level}
use Rattle.pyramid.specs.Inner.RowSums.{LastSums}
use Rattle.pyramid.proofs.averaging.sum_rows.Given as goal

abbrev pub invariant-loop-y : goal.invariant-loop-y
invariant-loop-y l = LastSums l.level.weights.kernel (l.level.columns - 1) (as_level l.level.columns l.level.values.now) l.y l.sums

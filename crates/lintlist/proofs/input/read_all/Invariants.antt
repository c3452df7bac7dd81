-- What is read so far is inside the buffer, and each read that gives no end gives a byte or more.
use Rattle.std.proofs.Common.{◌-◌, ◌≤◌, length}
use Rattle.lintlist.proofs.input.read_all.Given as goal

abbrev pub invariant-loop-n : goal.invariant-loop-n
invariant-loop-n g l = l.n ≤ length l.space

abbrev pub decreases-loop-n : goal.decreases-loop-n
decreases-loop-n g l = length l.initial.space - l.n

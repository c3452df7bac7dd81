-- What is read so far is the next bytes of the data, at the start of the buffer.
use Rattle.std.proofs.Common.{◌≡◌, ◌-◌, ◌≤◌, length, take}
use Rattle.std.specs.Io.KnownBytes.{Consumes}
use Rattle.test_support.proofs.reading.read_full.Given as goal

abbrev pub invariant-loop-n : goal.invariant-loop-n
invariant-loop-n g l = (length l.bytes ≡ length l.initial.bytes) × (l.n ≤ length l.bytes) × Consumes (g.R.Read.remaining l.initial.source) (g.R.Read.remaining l.source) (take l.n l.bytes)

abbrev pub decreases-loop-n : goal.decreases-loop-n
decreases-loop-n g l = length l.initial.bytes - l.n

-- What the loop of `test_support::fillers::fill` keeps: the fillers of the places before i.
use Rattle.std.proofs.Common.{ℕ, length}
use Rattle.mathematics.proofs.Filling.{Filling}
use Rattle.test_support.specs.Definitions.Comparisons.{Gives}
use Rattle.test_support.proofs.fillers.fill.Given as goal

abbrev pub invariant-loop-i : goal.invariant-loop-i
invariant-loop-i g l =
    (f : ℕ → _) → Gives (length l.initial.buffer) (goal.F-post g l.filler) f → Filling 0 (length l.initial.buffer) f l.initial.buffer l.buffer l.i

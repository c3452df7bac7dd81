-- The places before i pass.
use Rattle.std.proofs.Common.{◌≡◌, ℕ, Bool}
use Rattle.test_support.specs.Definitions.Comparisons.{Gives, first_failure}
use Rattle.test_support.proofs.comparing.first_failure.Given as goal

abbrev pub invariant-loop-i : goal.invariant-loop-i
invariant-loop-i g l =
    (passes : ℕ → Bool) → Gives l.fn.places.end (goal.P-post g l.test) passes → first_failure l.fn.places.start l.fn.places.end passes ≡ first_failure l.i l.i-end passes

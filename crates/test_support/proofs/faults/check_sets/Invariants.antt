-- What the loops of `test_support::faults::check_sets` keep: the tally of the sets and variants before.
use Rattle.std.proofs.Common.{◌≡◌, ℕ, ◌+◌, ◌*◌, ◌/◌, ◌%◌, Option}
use Rattle.test_support.specs.declared.faults.Faults.{Faults}
use Rattle.test_support.specs.declared.faults.Variant.{Variant}
use Rattle.test_support.specs.Definitions.FaultSets.{variant_at}
use Rattle.test_support.specs.Definitions.Tallies.{tallied}
use Rattle.test_support.proofs.faults.check_sets.Given as goal

abbrev pub invariant-loop-variant : goal.invariant-loop-variant
invariant-loop-variant g l =
    (found : ℕ → Variant → Option _) → ((faults : Faults) (r : Option _) → faults.table.now ≡ l.table → goal.C-post g l.check faults r → r ≡ found faults.bits faults.variant) → l.tally ≡ tallied (λ k. found (k / 4) (variant_at (k % 4))) (4 * l.bits + l.variant-index)

abbrev pub invariant-loop-bits : goal.invariant-loop-bits
invariant-loop-bits g l =
    (found : ℕ → Variant → Option _) → ((faults : Faults) (r : Option _) → faults.table.now ≡ l.table → goal.C-post g l.check faults r → r ≡ found faults.bits faults.variant) → l.tally ≡ tallied (λ k. found (k / 4) (variant_at (k % 4))) (4 * l.bits)

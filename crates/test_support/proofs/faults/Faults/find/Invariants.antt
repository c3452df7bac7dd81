-- What the loop of `test_support::faults::Faults::find` keeps: no refusal of the set before passes the test.
use Rattle.std.proofs.Common.{◌≡◌, Bool, drop}
use Rattle.std.specs.List.{find}
use Rattle.refusals.specs.declared.Refusal.{Refusal}
use Rattle.test_support.specs.Definitions.FaultSets.{chosen}
use Rattle.test_support.proofs.faults.Faults.find.Given as goal

abbrev pub invariant-loop-refusal : goal.invariant-loop-refusal
invariant-loop-refusal g l =
    (passes : Refusal → Bool) → ((refusal : Refusal) (r : Bool) → goal.P-post g l.test refusal r → r ≡ passes refusal) → find passes (chosen l.bits (drop l.refusal-index l.self.table.now)) ≡ find passes (chosen l.self.bits l.self.table.now)

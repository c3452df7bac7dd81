-- How an answer differs from what is expected: a value, or the number of a refusal. Assumes nothing.
use Rattle.std.specs.Prelude.{ℕ, cond, eqb, Option, None, Some, Result, Ok}
use Rattle.refusals.specs.declared.Refusal.{Refusal}
use Rattle.refusals.specs.Definitions.Outcomes.{answer_number}
use Rattle.test_support.specs.declared.reporting.Finding.{Finding}
use Rattle.test_support.specs.declared.reporting.Spot.{Spot}

module _ {C P : Type 0} (part : P) where
  -- a number that is not the one expected
  abbrev pub other_number : (got expected : ℕ) → Option (Finding (Spot C P))
  other_number got expected = cond (eqb got expected) None (Some (record { part = record { call = None; part = part }; place = got }))

  -- two values by a comparison, and where there are not two the numbers, of which 0 is that of a value
  abbrev pub other_answer : {T E : Type 0} → (T → E → Option (Finding (Spot C P))) → Result T Refusal → Result E Refusal → Option (Finding (Spot C P))
  other_answer values (Ok x) (Ok e) = values x e
  other_answer values got expected = other_number (answer_number got) (answer_number expected)

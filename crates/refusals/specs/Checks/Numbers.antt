-- Numbers and refusals stand for each other: what is answered under a number from 1 to the greatest is the refusal of that number, and no two refusals
-- have one number. Assumes nothing.
use Rattle.std.specs.Prelude.{◌≡◌, ℕ, ◌≤◌, Ok, Err}
use Rattle.refusals.specs.declared.Refusal.{Refusal}
use Rattle.refusals.specs.Definitions.Numbers.{number}
use Rattle.refusals.specs.Definitions.Outcomes.{outcome, answer_number}

-- the greatest number
abbrev pub greatest : ℕ
greatest = 21

pub record OneNumberEach : Type 1 where
  pub range : (r : Refusal) → (1 ≤ number r) × (number r ≤ greatest)
  pub refused : {A : Type 0} (r : Refusal) (value : A) → outcome (number r) value ≡ Err r
  pub accepted : {A : Type 0} (value : A) → outcome 0 value ≡ Ok value
  pub answered : {A : Type 0} (n : ℕ) (value : A) → n ≤ greatest → answer_number (outcome n value) ≡ n
  pub apart : (r q : Refusal) → number r ≡ number q → r ≡ q

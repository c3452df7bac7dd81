-- Sets of faults: one bit for each refusal of a table, the lowest bit for the first; and the variants of a fault. Assumes nothing.
use Rattle.std.specs.Prelude.{Bool, true, false, cond, List, [], ◌∷◌, ℕ, ◌/◌, ◌%◌, eqb, get_or, Option, None, Some, Result, Ok, Err}
use Rattle.refusals.specs.declared.Refusal.{Refusal}
use Rattle.refusals.specs.Definitions.Numbers.{number}
use Rattle.test_support.specs.declared.faults.Variant.{Variant}
use Rattle.test_support.specs.declared.faults.Variant.TheVariants.{First, Second, Third, Fourth}

-- the refusals of a set, in the table's order
abbrev pub chosen : ℕ → List Refusal → List Refusal
chosen bits [] = []
chosen bits (r ∷ table) = cond (eqb (bits % 2) 1) (r ∷ chosen (bits / 2) table) (chosen (bits / 2) table)

-- whether a refusal is one of a list
abbrev pub member : Refusal → List Refusal → Bool
member fault [] = false
member fault (r ∷ rs) = cond (eqb (number r) (number fault)) true (member fault rs)

-- the first of a list, if there is one
abbrev pub first : List Refusal → Option Refusal
first [] = None
first (r ∷ rs) = Some r

-- what is answered where faults are a list: the first, or this value where there is none
abbrev pub answer_with : {A : Type 0} → A → List Refusal → Result A Refusal
answer_with value [] = Ok value
answer_with value (r ∷ rs) = Err r

-- the variants in their order, from 0
abbrev pub place : Variant → ℕ
place First = 0
place Second = 1
place Third = 2
place Fourth = 3

abbrev pub variant_at : ℕ → Variant
variant_at n = get_or (First ∷ Second ∷ Third ∷ Fourth ∷ []) n Fourth

-- the variant of a fault that is one of a list
abbrev pub variant_of : Refusal → List Refusal → Variant → Option Variant
variant_of fault faults variant = cond (member fault faults) (Some variant) None

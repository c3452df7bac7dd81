-- The refusals of a set of faults from a place of the table on. Assumes nothing.
use Rattle.std.proofs.Common.{◌≡◌, ℕ, ◌+◌, ◌/◌, ◌%◌, ◌<◌, List, [], length, get_or, drop, ◌∷◌, drop-cons, add-one, Bool, true, false, cond, eqb, Option, Some, ap, refl, sym, ◌∙◌}
use Rattle.std.specs.List.{find}
use Rattle.std.specs.Option.{is_some}
use borrow.Author.Tests.{eq-eqb, ne_eqb}
use denote.Enum.Bare.{sameb, same_true, same_false}
use Rattle.refusals.specs.contracts.Refusal.{the_type}
use Rattle.refusals.specs.declared.Refusal.{Refusal}
use Rattle.refusals.specs.Definitions.Numbers.{number}
use Rattle.refusals.proofs.Outcomes.{one_number_each}
use Rattle.test_support.specs.Definitions.FaultSets.{chosen, member, first}

module _ (bits : ℕ) (table : List Refusal) (i : ℕ) (d : Refusal) (h : i < length table) where
  pub chosen_in : bits % 2 ≡ 1 → chosen bits (drop i table) ≡ get_or table i d ∷ chosen (bits / 2) (drop (i + 1) table)
  chosen_in e = rw (drop-cons table i d h, add-one i, eq-eqb (bits % 2) 1 e)

  pub chosen_out : (bits % 2 ≡ 1 → ⊥) → chosen bits (drop i table) ≡ chosen (bits / 2) (drop (i + 1) table)
  chosen_out e = rw (drop-cons table i d h, add-one i, ne_eqb (bits % 2) 1 e)

-- a list that starts with a refusal that fails a test, or passes it
module _ (passes : Refusal → Bool) (r : Refusal) (rest rs : List Refusal) (e : rs ≡ r ∷ rest) where
  pub find_here : passes r ≡ true → find passes rs ≡ Some r
  find_here h = rw (e, h)

  pub find_later : passes r ≡ false → find passes rs ≡ find passes rest
  find_later h = rw (e, h)

-- two refusals are the same if their numbers are
pub same_number : (b : Bool) (r fault : Refusal) → sameb the_type r fault ≡ b → b ≡ eqb (number r) (number fault)
same_number true r fault h = sym (eq-eqb (number r) (number fault) (ap number (same_true the_type tt r fault h)))
same_number false r fault h = sym (ne_eqb (number r) (number fault) (λ n. same_false the_type r fault h (one_number_each.apart r fault n)))

is_some-cond : {A : Type 0} (b : Bool) (x : A) (o : Option A) → is_some (cond b (Some x) o) ≡ cond b true (is_some o)
is_some-cond true x o = refl
is_some-cond false x o = refl

-- whether one of a list is a refusal, and the first of a list
pub found_member : (fault : Refusal) (rs : List Refusal) → is_some (find (λ r. eqb (number r) (number fault)) rs) ≡ member fault rs
found_member fault [] = refl
found_member fault (r ∷ rs) =
    let b = eqb (number r) (number fault) in
    is_some-cond b r (find (λ q. eqb (number q) (number fault)) rs) ∙ ap (cond b true) (found_member fault rs)

pub found_first : (rs : List Refusal) → find (λ _. true) rs ≡ first rs
found_first [] = refl
found_first (r ∷ rs) = refl

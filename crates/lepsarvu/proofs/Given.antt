-- What a call answers as a number, and what is left where a caller lent room for a part of its answer. Assumes nothing.
use Rattle.std.proofs.Common.{◌≡◌, refl, ap, ◌∙◌, Bool, true, false, cond, List, [], ◌∷◌, ℕ, zero, suc, ◌≤◌, leb, Result, Ok, Err, arith}
use borrow.Author.Tests.{leb-true}
use lib.Dec.{T, eqb}
use Rattle.std.proofs.lemmas.Bool.{eqb-true}
use Rattle.refusals.specs.declared.Refusal.{Refusal}
use Rattle.refusals.specs.Definitions.Numbers.{number}
use Rattle.refusals.specs.Definitions.Outcomes.{outcome, answer_number}
use Rattle.refusals.proofs.Outcomes.{one_number_each}
use Rattle.refusals.specs.Checks.Numbers.{greatest}
use Rattle.pyramid.specs.Definitions.Calls.{leaves}
use Rattle.pyramid.specs.Checks.Numbers.{one_of}
use Rattle.lepsarvu.specs.Inner.Given.{given}

-- ---- a number that a call answers is one of the table's

unfoldable pub small : List ℕ → Bool
small [] = true
small (m ∷ ms) = cond (leb m greatest) (small ms) false

pub one_small : (ms : List ℕ) (n : ℕ) → T (small ms) → T (one_of ms n) → n ≤ greatest
unfolding small
one_small [] n s t = absurd t
one_small (m ∷ ms) n s t = by_tests (leb m greatest) refl (eqb n m) refl s t (λ s t. one_small ms n s t)
  where
    by_tests : (b : Bool) → leb m greatest ≡ b → (c : Bool) → eqb n m ≡ c → T (cond b (small ms) false) → T (cond c true (one_of ms n)) → (T (small ms) → T (one_of ms n) → n ≤ greatest) → n ≤ greatest
    by_tests true low true same s t later = let e = eqb-true n m same in let l = leb-true m greatest low in omega arith
    by_tests true low false other s t later = later s t
    by_tests false low c other s t later = absurd s

-- ---- what is answered and left, of an answer that is given

-- what another function gave of an answer, whose refusal it answered
module _ {A B : Type 0} (refusal : A → ℕ) (field : A → B) {answer is : A} (e : answer ≡ is) (old : B) where
  pub passed_on : {new : B} {r : ℕ} → r ≡ refusal answer → new ≡ leaves (refusal answer) (field answer) old → new ≡ leaves r (field is) old
  passed_on p q = q ∙ rw (p, ap field e)

leaves-old : {B : Type 0} (n : ℕ) (old : B) → old ≡ leaves n old old
unfolding leaves
leaves-old zero old = refl
leaves-old (suc n) old = refl

leaves-leaves : {B : Type 0} (n : ℕ) (new old : B) → leaves n (leaves n new old) old ≡ leaves n new old
unfolding leaves
leaves-leaves zero new old = refl
leaves-leaves (suc n) new old = refl

-- what is left of an answer, by its number
given-leaves : {A B : Type 0} (answer : Result A Refusal) (part : A → B) (old : B) → given answer part old ≡ leaves (answer_number answer) (given answer part old) old
unfolding given answer_number leaves
given-leaves (Ok value) part old = refl
given-leaves (Err refusal) part old = leaves-old (number refusal) old

module _ {A : Type 0} {n : ℕ} (h : n ≤ greatest) (value : A) {answer : Result A Refusal} (e : answer ≡ outcome n value) where
  pub number-is : {r : ℕ} → r ≡ answer_number answer → r ≡ n
  number-is p = p ∙ ap answer_number e ∙ one_number_each.answered n value h

  left-is : {B : Type 0} (field : A → B) (old : B) → given (outcome n value) field old ≡ leaves n (field value) old
  unfolding given outcome leaves
  left-is field old = by_number n value
    where
      by_number : (n : ℕ) (value : A) → given (outcome n value) field old ≡ leaves n (field value) old
      by_number zero value = refl
      by_number (suc n) value = refl

  pub left : {B : Type 0} (field : A → B) (old : B) {new : B} {r : ℕ} → r ≡ answer_number answer → new ≡ given answer field old → new ≡ leaves r (field value) old
  left field old {r = r} p q =
      let handed = passed_on answer_number (λ (a : Result A Refusal). given a field old) e old p (q ∙ given-leaves answer field old) in
      handed ∙ rw (number-is p, left-is field old) (leaves-leaves n (field value) old)

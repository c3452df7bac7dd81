-- Rules in an order, each with a number and a test: what the first that is broken answers. Assumes nothing.
use mathlib.Core.Path.{◌≡◌, refl, sym, ◌∙◌, subst}
use mathlib.Core.Logic.{◌↔◌}
use mathlib.Core.Bool.{Bool, true, false, not, cond, ◌&&◌}
use mathlib.Core.List.{List, [], ◌∷◌, ◌++◌}
use Prim.Native.Nat.{ℕ, zero, suc}
use borrow.Author.Tests.{eq-eqb}
use lib.Dec.{T, eqb, eqb→eq, T_not}
use Rattle.mathematics.proofs.Tests.{both, both_of, cond_elim}
use Rattle.pyramid.specs.Definitions.Refusals.{unless, first}
use Rattle.pyramid.specs.Checks.Numbers.{one_of}
use Rattle.pyramid.specs.Checks.Conditions.{Rule, GivenAfter, Given}
use Rattle.pyramid.proofs.Refusals.{first_skip, unless_passes, unless_fails, answers_stop}

-- a rule that a test decides
pub record Tested : Type 1 where
  pub number : ℕ
  pub test : Bool
  pub says : Type 0
  pub decides : T test ↔ says

abbrev pub rules : List Tested → List Rule
rules [] = []
rules (t ∷ ts) = record { number = t.number; says = t.says } ∷ rules ts

abbrev pub numbers : List Tested → List ℕ
numbers [] = []
numbers (t ∷ ts) = t.number ∷ numbers ts

abbrev pub refusals : List Tested → List ℕ
refusals [] = []
refusals (t ∷ ts) = unless t.test t.number ∷ refusals ts

-- a list of rules after some and before others is looked through where it stands
pub first_join : (xs ys later : List ℕ) → first (xs ++ (first ys ∷ later)) ≡ first (xs ++ (ys ++ later))
unfolding first
first_join (zero ∷ xs) ys later = first_join xs ys later
first_join (suc n ∷ xs) ys later = refl
first_join [] [] later = refl
first_join [] (zero ∷ ys) later = first_join [] ys later
first_join [] (suc n ∷ ys) later = refl

-- ---- one of some numbers

one_here : (n : ℕ) (ns : List ℕ) → T (one_of (n ∷ ns) n)
one_here n ns = rw (eq-eqb n n refl) tt

one_later : (m n : ℕ) (ns : List ℕ) → T (one_of ns n) → T (one_of (m ∷ ns) n)
one_later m n ns h = cases (eqb n m)
  where
    cases : (b : Bool) → T (cond b true (one_of ns n))
    cases true = tt
    cases false = h

-- a number more, in the second place
pub one_between : (k m n : ℕ) (ns : List ℕ) → T (one_of (k ∷ ns) n) → T (one_of (k ∷ m ∷ ns) n)
one_between k m n ns h = cases (eqb n k) h
  where
    cases : (b : Bool) → T (cond b true (one_of ns n)) → T (cond b true (one_of (m ∷ ns) n))
    cases true t = tt
    cases false t = one_later m n ns t

-- numbers more, behind some or before them
pub one_before : (ms ns : List ℕ) (n : ℕ) → T (one_of ms n) → T (one_of (ms ++ ns) n)
one_before [] ns n h = absurd h
one_before (m ∷ ms) ns n h = cases (eqb n m) h (λ t. one_before ms ns n t)
  where
    cases : (b : Bool) → T (cond b true (one_of ms n)) → (T (one_of ms n) → T (one_of (ms ++ ns) n)) → T (cond b true (one_of (ms ++ ns) n))
    cases true t later = tt
    cases false t later = later t

pub one_after : (k : ℕ) (ms ns : List ℕ) (n : ℕ) → T (one_of (k ∷ ns) n) → T (one_of (k ∷ (ms ++ ns)) n)
one_after k [] ns n h = h
one_after k (m ∷ ms) ns n h = one_between k m n (ms ++ ns) (one_after k ms ns n h)

-- lists that share no number
abbrev pub disjoint : List ℕ → List ℕ → Bool
disjoint [] ns = true
disjoint (m ∷ ms) ns = not (one_of ns m) && disjoint ms ns

pub one_apart : (ms ns : List ℕ) → T (disjoint ms ns) → (n : ℕ) → T (one_of ms n) → T (one_of ns n) → ⊥
one_apart [] ns d n h k = absurd h
one_apart (m ∷ ms) ns d n h k =
    let (new, later) = both (not (one_of ns m)) (disjoint ms ns) d in
    cond_elim (eqb n m) true (one_of ms n) (λ b. T b → ⊥)
    (λ e t. T_not (one_of ns m) new (subst (λ (m : ℕ). T (one_of ns m)) (eqb→eq n m e) k))
    (λ e t. one_apart ms ns later n t k) h

-- ---- the answer is 0 or a rule's number

answer_one : (ts : List Tested) → T (one_of (0 ∷ numbers ts) (first (refusals ts)))
unfolding first unless
answer_one [] = tt
answer_one (t ∷ ts) = cases t.test t.number (answer_one ts)
  where
    cases : (b : Bool) (n : ℕ) → T (one_of (0 ∷ numbers ts) (first (refusals ts))) → T (one_of (0 ∷ n ∷ numbers ts) (first (unless b n ∷ refusals ts)))
    cases true n h = one_between 0 n (first (refusals ts)) (numbers ts) h
    cases false zero h = one_between 0 0 (first (refusals ts)) (numbers ts) h
    cases false (suc n) h = one_later 0 (suc n) (suc n ∷ numbers ts) (one_here (suc n) (numbers ts))

pub answered : (ts : List Tested) {answer : ℕ} → answer ≡ first (refusals ts) → T (one_of (0 ∷ numbers ts) answer)
answered ts e = rw e (answer_one ts)

-- ---- each number on its condition

-- no number is 0, and none stands twice
abbrev pub apart : List ℕ → Bool
apart [] = true
apart (n ∷ ns) = not (one_of (0 ∷ ns) n) && apart ns

-- where all rules before these hold, the answer is the first of these; else it is none of their numbers
abbrev Follows : ℕ → Bool → (numbers refusals : List ℕ) → Type 0
Follows answer true numbers refusals = answer ≡ first refusals
Follows answer false numbers refusals = T (one_of (0 ∷ numbers) answer) → ⊥

at_end : (answer : ℕ) (held : Bool) {before : Type 0} → T held ↔ before → Follows answer held [] [] → (answer ≡ 0) ↔ before
unfolding first
at_end answer true d f = (λ e. d.0 tt, λ b. f)
at_end answer false d f = (λ e. absurd (f (rw e tt)), λ b. absurd (d.1 b))

-- a rule and those after it, none of which has its number
module _ (answer number : ℕ) (ns later : List ℕ) (new : T (one_of (0 ∷ ns) number) → ⊥) where
  passed : answer ≡ first (unless true number ∷ later) → answer ≡ first later
  passed f = f ∙ first_skip _ later (unless_passes number refl)

  stopped : answer ≡ first (unless false number ∷ later) → answer ≡ number
  stopped f = f ∙ sym (answers_stop later (sym (unless_fails number refl)) (λ z. new (rw z tt)))

  here : (held test : Bool) {before says : Type 0} → T held ↔ before → T test ↔ says → T (one_of (0 ∷ ns) (first later))
      → Follows answer held (number ∷ ns) (unless test number ∷ later) → (answer ≡ number) ↔ (before × ¬ says)
  here false test d e one f = (λ p. absurd (f (rw p (one_later 0 number (number ∷ ns) (one_here number ns)))), λ h. absurd (d.1 h.0))
  here true false d e one f = (λ p. (d.0 tt, λ h. e.1 h), λ h. stopped f)
  here true true d e one f = (λ p. absurd (new (rw (sym p ∙ passed f) one)), λ h. absurd (h.1 (e.0 tt)))

  next : (held test : Bool) → Follows answer held (number ∷ ns) (unless test number ∷ later) → Follows answer (held && test) ns later
  next false test f = λ h. f (one_between 0 number answer ns h)
  next true true f = passed f
  next true false f = λ h. new (rw (← stopped f) h)

pub both_say : (held test : Bool) {before says : Type 0} → T held ↔ before → T test ↔ says → T (held && test) ↔ (before × says)
both_say held test d e = (λ t. let (a, b) = both held test t in (d.0 a, e.0 b), λ h. both_of held test (d.1 h.0) (e.1 h.1))

given_after : (answer : ℕ) (before : Type 0) (held : Bool) → T held ↔ before → (ts : List Tested) → T (apart (numbers ts))
    → Follows answer held (numbers ts) (refusals ts) → GivenAfter before (rules ts) answer
unfolding GivenAfter
given_after answer before held d [] a f = at_end answer held d f
given_after answer before held d (t ∷ ts) a f =
    let (other, later) = both (not (one_of (0 ∷ numbers ts) t.number)) (apart (numbers ts)) a in
    let new = T_not (one_of (0 ∷ numbers ts) t.number) other in (
      here answer t.number (numbers ts) (refusals ts) new held t.test d t.decides (answer_one ts) f,
      given_after answer (before × t.says) (held && t.test) (both_say held t.test d t.decides) ts later
          (next answer t.number (numbers ts) (refusals ts) new held t.test f),
    )

pub given : (ts : List Tested) {answer : ℕ} → answer ≡ first (refusals ts) → T (apart (numbers ts)) → Given (rules ts) answer
given ts {answer} e a = given_after answer (Unit {0}) true (λ t. tt, λ u. tt) ts a e

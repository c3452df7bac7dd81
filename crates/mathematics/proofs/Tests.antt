-- Laws of tests: what a passed test says, a rule that one computed test proves at each number below a bound, and tests of joined lists, of
-- what is left of a list and of images, and a loop that tests one element a turn. Assumes nothing.
use mathlib.Core.Path.{◌≡◌, refl, sym, ◌∙◌, subst}
use mathlib.Core.Bool.{Bool, true, false, not, cond, ◌&&◌, and_assoc, and-true}
use mathlib.Core.List.{List, [], ◌∷◌, ◌++◌, map}
use Prim.Native.Nat.{ℕ, zero, suc, ◌+◌, ◌-◌, ◌≤◌, ◌<◌}
use native.Mathlib.Nat.{not-suc-le-zero}
use native.Mathlib.Decide.{dec_lt}
use native.Mathlib.Numerals.{add-one}
use native.Mathlib.Omega.{arith}
use lib.Dec.{T}
use lib.ListN.{length, get_or, drop, drop_of_length-le}
use lib.Seq.{drop-cons}
use Rattle.mathematics.specs.Definitions.Tests.{all_below, all}

pub both : (a b : Bool) → T (a && b) → T a × T b
both true b t = (tt, t)
both false b t = absurd t

pub both_of : (a b : Bool) → T a → T b → T (a && b)
both_of true b s t = t
both_of false b s t = absurd s

pub then : (c : Bool) (x y : Bool) → T c → T (cond c x y) → T x
then true x y t u = u
then false x y t u = absurd t

pub cond_elim : {A : Type 0} (c : Bool) (x y : A) (P : A → Type 0) → (T c → P x) → (T (not c) → P y) → P (cond c x y)
cond_elim true x y P f g = f tt
cond_elim false x y P f g = g tt

-- tests that pass together are the same
pub same_test : (a b : Bool) → (T a → T b) → (T b → T a) → a ≡ b
same_test true true f g = refl
same_test true false f g = absurd (f tt)
same_test false true f g = absurd (g tt)
same_test false false f g = refl

-- ---- 0 to n - 1

pub below_at : (n : ℕ) (test : ℕ → Bool) → T (all_below n test) → (k : ℕ) → k < n → T (test k)
unfolding all_below
below_at zero test t k h = absurd (not-suc-le-zero h)
below_at (suc n) test t k h = cases (below_at n test (both (all_below n test) (test n) t).0 k) (dec_lt k n)
  where
    cases : (k < n → T (test k)) → Dec (k < n) → T (test k)
    cases before (yes l) = before l
    cases before (no l) = let e : n ≡ k = omega arith in subst (λ (m : ℕ). T (test m)) e (both (all_below n test) (test n) t).1

-- no number, one more, and a number at which the test fails
pub below_none : (test : ℕ → Bool) → all_below 0 test ≡ true
unfolding all_below
below_none test = refl

pub below_next : (n : ℕ) (test : ℕ → Bool) → all_below n test ≡ true → test n ≡ true → all_below (n + 1) test ≡ true
unfolding all_below
below_next n test e f = rw (add-one n, e, f)

pub below_fails : (n : ℕ) (test : ℕ → Bool) (k : ℕ) → k < n → test k ≡ false → all_below n test ≡ false
below_fails n test k h e = same_test (all_below n test) false (λ t. rw e at (below_at n test t k h)) (λ t. absurd t)

-- from a to a + n - 1
pub between_at : (a n : ℕ) (test : ℕ → Bool) → T (all_below n (λ m. test (a + m))) → (k : ℕ) → a ≤ k → k < a + n → T (test k)
between_at a n test t k l h = subst (λ (m : ℕ). T (test m)) (omega arith) (below_at n (λ m. test (a + m)) t (k - a) (omega arith))

-- ---- lists

module _ {A : Type 0} (test : A → Bool) where
  pub all_nil : all test [] ≡ true
  unfolding all
  all_nil = refl

  -- two lists joined
  pub all_joined : (xs ys : List A) → all test (xs ++ ys) ≡ (all test xs && all test ys)
  unfolding all
  all_joined [] ys = refl
  all_joined (x ∷ xs) ys = rw (all_joined xs ys) (sym (and_assoc (test x) (all test xs) (all test ys)))

  pub all_append : (xs ys : List A) → T (all test xs) → T (all test ys) → T (all test (xs ++ ys))
  all_append xs ys s t = rw (all_joined xs ys) (both_of (all test xs) (all test ys) s t)

  pub all_front : (xs ys : List A) → T (all test (xs ++ ys)) → T (all test xs)
  all_front xs ys t = (both (all test xs) (all test ys) (rw (all_joined xs ys) at t)).0

  pub all_back : (xs ys : List A) → T (all test (xs ++ ys)) → T (all test ys)
  all_back xs ys t = (both (all test xs) (all test ys) (rw (all_joined xs ys) at t)).1

  -- from element i on: that element and the rest, and nothing past the end
  pub all-next : (xs : List A) (i : ℕ) (d : A) → i < length xs → all test (drop i xs) ≡ (test (get_or xs i d) && all test (drop (i + 1) xs))
  unfolding all
  all-next xs i d h = rw (drop-cons xs i d h, add-one i)

  pub all_past : (xs : List A) (i : ℕ) → length xs ≤ i → all test (drop i xs) ≡ true
  all_past xs i h = rw (drop_of_length-le xs {i = i} h) all_nil

  -- at each place
  pub all_inside : (d : A) (xs : List A) → T (all test xs) → (p : ℕ) → p < length xs → T (test (get_or xs p d))
  unfolding all
  all_inside d [] t p h = absurd (not-suc-le-zero h)
  all_inside d (x ∷ xs) t zero h = (both (test x) (all test xs) t).0
  all_inside d (x ∷ xs) t (suc p) h = all_inside d xs (both (test x) (all test xs) t).1 p (omega (arith, h))

  pub inside_all : (d : A) (xs : List A) → ((p : ℕ) → p < length xs → T (test (get_or xs p d))) → T (all test xs)
  unfolding all
  inside_all d [] h = tt
  inside_all d (x ∷ xs) h = both_of (test x) (all test xs) (h 0 (omega arith)) (inside_all d xs (λ p k. h (suc p) (omega (arith, k))))

  -- a loop: `passed` says whether those before i pass
  pub record Testing (xs : List A) (i : ℕ) (passed : Bool) : Type 0 where
    pub rest : all test xs ≡ (passed && all test (drop i xs))

  pub testing_start : (xs : List A) → Testing xs 0 true
  testing_start xs = record { rest = refl }

  pub testing_next : {xs : List A} {i : ℕ} {passed now : Bool} (d : A) → Testing xs i passed → i < length xs → now ≡ (passed && test (get_or xs i d)) → Testing xs (i + 1) now
  testing_next {xs} {i} {passed} d r h e =
      record { rest = r.rest ∙ rw (all-next xs i d h, e) (sym (and_assoc passed (test (get_or xs i d)) (all test (drop (i + 1) xs)))) }

  pub testing_end : {xs : List A} {i : ℕ} {passed : Bool} → Testing xs i passed → length xs ≤ i → passed ≡ all test xs
  testing_end {xs} {i} {passed} r h = sym (rw (all_past xs i h, and-true passed) at r.rest)

-- the images of a list's elements
pub all_map : {A B : Type 0} (g : A → B) (test : B → Bool) (xs : List A) → all test (map g xs) ≡ all (λ x. test (g x)) xs
unfolding all
all_map g test [] = refl
all_map g test (x ∷ xs) = rw (all_map g test xs)

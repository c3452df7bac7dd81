-- The deepest depth is the largest lawful one, and trailing-zero counts give it. Assumes nothing.
use mathlib.Core.Path.{◌≡◌, refl, sym, ap, ◌∙◌, subst}
use mathlib.Core.Bool.{Bool, not, ◌&&◌}
use Prim.Native.Nat.{ℕ, zero, suc, ◌+◌, ◌-◌, ◌*◌, ◌/◌, ◌%◌, ◌^◌, ◌≤◌, min}
use native.Mathlib.Nat.{mod-one, le_of_suc-le-suc, not-suc-le-zero}
use native.Mathlib.Decide.{dec_le}
use native.Mathlib.Numerals.{add-one}
use native.Mathlib.Omega.{arith}
use borrow.Author.Tests.{ne_eqb}
use lib.Count.{count_trailing_zeros, under}
use lib.Dec.{T, leb, eqb, leb-zero, leb-suc-zero, leb-suc-suc, leb→le, le→leb, T_not}
use lib.Pow.{mod-pow-add}
use Rattle.mathematics.proofs.Tests.{both, both_of, cond_elim, same_test}
use Rattle.pyramid.specs.Definitions.Settings.{depth_ok, divides}
use Rattle.pyramid.specs.Definitions.Depth.{largest, allows, deepest_depth}

-- ---- a trailing-zero count is a test of divisibility

-- the lowest binary digit and the rest
low_digit : (x m : ℕ) → x % 2 ^ suc m ≡ (x / 2 % 2 ^ m) * 2 + x % 2
low_digit x m = ap (λ (k : ℕ). x % 2 ^ k) (sym (add-one m)) ∙ mod-pow-add x m 1

twice : (y : ℕ) → eqb (y * 2 + 0) 0 ≡ eqb y 0
twice zero = refl
twice (suc y) = ne_eqb (suc y * 2 + 0) 0 (λ p. omega arith) ∙ sym (ne_eqb (suc y) 0 (λ p. omega arith))

digit : (m x t d : ℕ) → x % 2 ≡ d → leb m t ≡ eqb (x / 2 % 2 ^ m) 0 → leb (suc m) (under d t) ≡ eqb (x % 2 ^ suc m) 0
digit m x t zero e ih = rw (low_digit, e) (leb-suc-suc m t ∙ ih ∙ sym (twice (x / 2 % 2 ^ m)))
digit m x t (suc d) e ih = rw (low_digit, e) (leb-suc-zero m ∙ sym (ne_eqb (x / 2 % 2 ^ m * 2 + suc d) 0 (λ p. omega arith)))

-- of x read as k binary digits: at least n of them are trailing zeros exactly if 2^n divides x
pub trailing_divides : (k n x : ℕ) → n ≤ k → leb n (count_trailing_zeros k x) ≡ eqb (x % 2 ^ n) 0
unfolding count_trailing_zeros
trailing_divides k zero x h = leb-zero (count_trailing_zeros k x) ∙ sym (ap (λ (y : ℕ). eqb y 0) (mod-one x))
trailing_divides zero (suc m) x h = absurd (not-suc-le-zero h)
trailing_divides (suc k) (suc m) x h = digit m x (count_trailing_zeros k (x / 2)) (x % 2) refl (trailing_divides k m (x / 2) (le_of_suc-le-suc h))

-- C columns and R rows allow depth n exactly if n is at most both counts
module _ (c r n : ℕ) (h : n ≤ 16) where
  pub allows_counts : T (allows c r n) → (n ≤ count_trailing_zeros 16 (c - 1)) × (n ≤ count_trailing_zeros 16 (r - 1))
  unfolding allows divides
  allows_counts t =
      let (a, b) = both (divides n c) (divides n r) t in
      (leb→le n _ (rw (trailing_divides 16 n (c - 1) h) a), leb→le n _ (rw (trailing_divides 16 n (r - 1) h) b))

  pub counts_allow : n ≤ count_trailing_zeros 16 (c - 1) → n ≤ count_trailing_zeros 16 (r - 1) → T (allows c r n)
  unfolding allows divides
  counts_allow a b =
      both_of (divides n c) (divides n r) (rw (trailing_divides 16 n (c - 1) h) at (le→leb n _ a)) (rw (trailing_divides 16 n (r - 1) h) at (le→leb n _ b))

-- ---- the largest at which a test holds

largest_most : (n : ℕ) (test : ℕ → Bool) → largest n test ≤ n
unfolding largest
largest_most zero test = omega arith
largest_most (suc n) test = let h = largest_most n test in cond_elim (test (suc n)) (suc n) (largest n test) (λ m. m ≤ suc n) (λ t. omega arith) (λ t. omega arith)

largest_holds : (n : ℕ) (test : ℕ → Bool) → T (test 0) → T (test (largest n test))
unfolding largest
largest_holds zero test t = t
largest_holds (suc n) test t = cond_elim (test (suc n)) (suc n) (largest n test) (λ m. T (test m)) (λ u. u) (λ u. largest_holds n test t)

largest_above : (n : ℕ) (test : ℕ → Bool) (m : ℕ) → m ≤ n → T (test m) → m ≤ largest n test
unfolding largest
largest_above zero test m h t = h
largest_above (suc n) test m h t =
    cond_elim (test (suc n)) (suc n) (largest n test) (λ k. m ≤ k) (λ u. h) (λ u. cases (λ k. largest_above n test m k t) u (dec_le m n))
  where
    cases : (m ≤ n → m ≤ largest n test) → T (not (test (suc n))) → Dec (m ≤ n) → m ≤ largest n test
    cases below u (yes k) = below k
    cases below u (no k) = let e : m ≡ suc n = omega arith in absurd (T_not (test (suc n)) u (subst (λ (m : ℕ). T (test m)) e t))

-- ---- the deepest depth

zero_allowed : (c r : ℕ) → T (allows c r 0)
zero_allowed c r = counts_allow c r 0 (omega arith) (omega arith) (omega arith)

-- the largest N of 0 to 6 that the size allows
pub record LargestDepth (c r d : ℕ) : Type 0 where
  pub most : d ≤ 6
  pub allowed : T (allows c r d)
  pub largest_of : (n : ℕ) → n ≤ 6 → T (allows c r n) → n ≤ d

pub deepest_rule : (c r : ℕ) → LargestDepth c r (deepest_depth c r)
unfolding deepest_depth
deepest_rule c r =
    record {
      most = largest_most 6 (allows c r);
      allowed = largest_holds 6 (allows c r) (zero_allowed c r);
      largest_of = λ n h t. largest_above 6 (allows c r) n h t;
    }

-- the fewer of the trailing zero bits of C - 1 and R - 1, but at most 6
pub deepest_counts : (c r : ℕ) → deepest_depth c r ≡ min (min (count_trailing_zeros 16 (c - 1)) (count_trailing_zeros 16 (r - 1))) 6
deepest_counts c r =
    let d : LargestDepth c r (deepest_depth c r) = deepest_rule c r in
    let (a, b) = allows_counts c r (deepest_depth c r) (omega (arith, d.most)) d.allowed in
    let fewest : ℕ = min (min (count_trailing_zeros 16 (c - 1)) (count_trailing_zeros 16 (r - 1))) 6 in
    let k : fewest ≤ deepest_depth c r = d.largest_of fewest (omega arith) (counts_allow c r fewest (omega arith) (omega arith) (omega arith)) in
    omega (arith, d.most)

-- every depth up to the deepest is allowed
pub allowed_below : (c r n : ℕ) → n ≤ deepest_depth c r → T (allows c r n)
allowed_below c r n h =
    let d : LargestDepth c r (deepest_depth c r) = deepest_rule c r in
    let (a, b) = allows_counts c r (deepest_depth c r) (omega (arith, d.most)) d.allowed in
    counts_allow c r n (omega (arith, d.most)) (omega arith) (omega arith)

-- so that one comparison with the deepest tests a depth and both sides
pub deepest_test : (c r n : ℕ) → leb n (deepest_depth c r) ≡ (depth_ok n && (divides n c && divides n r))
unfolding depth_ok allows
deepest_test c r n =
    let d : LargestDepth c r (deepest_depth c r) = deepest_rule c r in
    same_test (leb n (deepest_depth c r)) (leb n 6 && allows c r n)
    (λ t.
    let h : n ≤ deepest_depth c r = leb→le n (deepest_depth c r) t in
    both_of (leb n 6) (allows c r n) (le→leb n 6 (omega (arith, d.most))) (allowed_below c r n h))
    (λ t. let (a, b) = both (leb n 6) (allows c r n) t in le→leb n (deepest_depth c r) (d.largest_of n (leb→le n 6 a) b))

-- Laws of REDUCE and EXPAND: a constant level stays as it is, and how far apart the steps of two levels are. Assumes nothing.
use mathlib.Core.Path.{◌≡◌, sym}
use Prim.Native.Nat.{ℕ, ◌+◌, ◌*◌, ◌/◌, ◌≤◌}
use native.Mathlib.Nat.{mul-le-mul, mul-le-mul_right, mul_assoc, le_of_eq, le_trans}
use native.Mathlib.Omega.{arith}
use lib.Dec.{lit<}
use lib.IntN.{ℤ, pos, ◌*ℤ◌}
use Rattle.mathematics.proofs.Integers.{ints, all₁}
use Rattle.mathematics.proofs.Distance.{Near, near_more, near_mul}
use Rattle.quantizer.proofs.Rounding.{round_near, round_whole}
use Rattle.pyramid.specs.Definitions.Sizes.{Level}
use Rattle.pyramid.specs.Definitions.Weights.{weight}
use Rattle.pyramid.specs.Definitions.Edge.{reflect}
use Rattle.pyramid.specs.Definitions.Steps.{reduce, even_weight, halved, expand}
use Rattle.pyramid.specs.Definitions.Bound.{hundredths, magnified}
use Rattle.pyramid.specs.Checks.Multiplier.{gain}
use Rattle.pyramid.specs.Inner.Lawful.{Kernel}
use Rattle.pyramid.proofs.Weights.{size, weight-sum, weight-size, even_sum, even_size, gain_square}
use Rattle.pyramid.proofs.WeightedSums.{weighted_constant, near_weighted}
use Rattle.pyramid.proofs.Edge.{reduce_inside, expand_inside}

-- two levels are at most e apart, at the nodes up to column zc and row zr
abbrev pub NearLevel : ℕ → (zc zr : ℕ) → Level → Level → Type 0
NearLevel e zc zr u v = (i j : ℕ) → i ≤ zc → j ≤ zr → Near e (u i j) (v i j)

-- ---- a constant level

reduced : (c : ℤ) → (pos 20 *ℤ pos 20) *ℤ c ≡ c *ℤ pos 400
reduced = all₁ _ (λ p n. simp ints (omega arith))

expanded : (c : ℤ) → pos 4 *ℤ ((pos 10 *ℤ pos 10) *ℤ c) ≡ c *ℤ pos 400
expanded = all₁ _ (λ p n. simp ints (omega arith))

pub reduce_constant : {k : ℕ} → Kernel k → (zc zr : ℕ) (c : ℤ) (i j : ℕ) → reduce k zc zr (λ i j. c) i j ≡ c
unfolding reduce
reduce_constant {k} h zc zr c i j =
    rw (weighted_constant (weight k) (weight k) (λ t. reflect zc (2 * i + t)) (λ t. reflect zr (2 * j + t)) c, weight-sum h, reduced c)
    (round_whole c 400 (lit< tt))

pub expand_constant : {k : ℕ} → Kernel k → (zc zr : ℕ) (c : ℤ) (i j : ℕ) → expand k zc zr (λ i j. c) i j ≡ c
unfolding expand
expand_constant {k} h zc zr c i j =
    rw (weighted_constant (even_weight k i) (even_weight k j) (λ t. reflect zc (halved i t)) (λ t. reflect zr (halved j t)) c, even_sum h i, even_sum h j, expanded c)
    (round_whole c 400 (lit< tt))

-- ---- distance

-- by 1.44, rounded up
abbrev pub spread : ℕ → ℕ
spread e = (144 * e + 99) / 100

pub near_reduce : {k : ℕ} → Kernel k → (zc zr e : ℕ) (u v : Level) → NearLevel e zc zr u v → 2 ≤ zc → 2 ≤ zr
    → NearLevel (spread e) (zc / 2) (zr / 2) (reduce k zc zr u) (reduce k zc zr v)
unfolding reduce
near_reduce {k} h zc zr e u v close hc hr i j hi hj =
    round_near 400 (spread e) (lit< tt)
    (near_more (omega (arith, mul-le-mul (weight-size h) (mul-le-mul_right e (weight-size h))))
    (near_weighted (weight k) (weight k) (λ t. reflect zc (2 * i + t)) (λ t. reflect zr (2 * j + t)) u v e
    (λ m n hm hn. close _ _ (reduce_inside zc i m hc hi hm) (reduce_inside zr j n hr hj hn))))

covers : {k : ℕ} → Kernel k → (a b e : ℕ) → a ≤ gain k → b ≤ gain k → 4 * (a * (b * e)) ≤ magnified k e * 400
unfolding magnified
covers {k} h a b e ha hb =
    let square : a * (b * e) ≤ hundredths k * e = rw (← mul_assoc) (mul-le-mul_right e (le_trans (mul-le-mul ha hb) (le_of_eq (sym (gain_square h))))) in
    omega arith

pub near_expand : {k : ℕ} → Kernel k → (zc zr e : ℕ) (u v : Level) → NearLevel e zc zr u v → 1 ≤ zc → 1 ≤ zr
    → NearLevel (magnified k e) (2 * zc + 1) (2 * zr + 1) (expand k zc zr u) (expand k zc zr v)
unfolding expand
near_expand {k} h zc zr e u v close hc hr i j hi hj =
    round_near 400 (magnified k e) (lit< tt)
    (near_more (covers h (size (even_weight k i)) (size (even_weight k j)) e (even_size h i) (even_size h j))
    (near_mul (pos 4) (near_weighted (even_weight k i) (even_weight k j) (λ t. reflect zc (halved i t)) (λ t. reflect zr (halved j t)) u v e
    (λ m n hm hn. close _ _ (expand_inside zc i m hc hi hm) (expand_inside zr j n hr hj hn)))))

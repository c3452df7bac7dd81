-- Laws of whole numbers: products, the order, the distance from zero, and the range of a signed width. Assumes nothing.
use mathlib.Core.Path.{◌≡◌, refl}
use mathlib.Core.Bool.{true, false}
use Prim.Native.Nat.{ℕ, zero, suc, ◌+◌, ◌*◌, ◌^◌, ◌<◌, ◌≤◌}
use native.Mathlib.Nat.{mul-le-mul_right, mul-le-mul_left, lt_of_mul-lt-mul_right}
use native.Mathlib.Omega.{arith}
use lib.Dec.{T, ltb, ltb→lt}
use lib.IntN.{ℤ, pos, negsuc, neg_ℤ, nat_abs, ◌+ℤ◌, ◌-ℤ◌, ◌*ℤ◌}
use lib.Signed.{◌≤ℤ◌, ◌<ℤ◌, lt_z, le_z}
use mir.Syntax.{Width}
use mir.Val.{SFits, hbits}
use Rattle.mathematics.proofs.Integers.{ints, all₁, all₂, all₃, abs-⊖}

pub *ℤ-assoc : (x y z : ℤ) → (x *ℤ y) *ℤ z ≡ x *ℤ (y *ℤ z)
*ℤ-assoc = all₃ _ (λ p n q m r s. simp ints (omega arith))

pub *ℤ-+ℤ : (x y z : ℤ) → x *ℤ (y +ℤ z) ≡ x *ℤ y +ℤ x *ℤ z
*ℤ-+ℤ = all₃ _ (λ p n q m r s. simp ints (omega arith))

pub *ℤ--ℤ : (x y z : ℤ) → x *ℤ (y -ℤ z) ≡ x *ℤ y -ℤ x *ℤ z
*ℤ--ℤ = all₃ _ (λ p n q m r s. simp ints (omega arith))

-- taken off, and the rest taken off
pub minus-minus : (x y : ℤ) → x -ℤ (x -ℤ y) ≡ y
minus-minus = all₂ _ (λ p n q m. simp ints (omega arith))

pub ≤ℤ-trans : {x y z : ℤ} → x ≤ℤ y → y ≤ℤ z → x ≤ℤ z
≤ℤ-trans {x} {y} {z} = all₃ (λ x y z. x ≤ℤ y → y ≤ℤ z → x ≤ℤ z) (λ p n q m r s. simp ints (omega arith)) x y z

pub ≤ℤ-antisym : (x y : ℤ) → x ≤ℤ y → y ≤ℤ x → x ≡ y
≤ℤ-antisym = all₂ _ (λ p n q m. simp ints (omega arith))

pub <ℤ-≤ℤ : {x y : ℤ} → x <ℤ y → x ≤ℤ y
<ℤ-≤ℤ {x} {y} = all₂ (λ x y. x <ℤ y → x ≤ℤ y) (λ p n q m. simp ints (omega arith)) x y

pub *ℤ-mono : (k : ℕ) (x y : ℤ) → x ≤ℤ y → (x *ℤ pos k) ≤ℤ (y *ℤ pos k)
*ℤ-mono k = all₂ _ (λ p n q m. simp ints (λ h. omega (arith, mul-le-mul_right k h)))

pub *ℤ-cancel : (k : ℕ) (x y : ℤ) → (x *ℤ pos k) <ℤ (y *ℤ pos k) → x <ℤ y
*ℤ-cancel k = all₂ _ (λ p n q m. simp ints (λ h. lt_of_mul-lt-mul_right k {m = p + m} {n = q + n} (omega arith)))

-- ---- the distance from zero

-- with the bounds as numbers: what a chain of sums wants
pub abs_sum : (k l : ℕ) (x y : ℤ) → nat_abs x ≤ k → nat_abs y ≤ l → nat_abs (x +ℤ y) ≤ k + l
abs_sum k l = all₂ _ (λ p n q m. simp ints (omega arith))

pub abs_minus : (k l : ℕ) (x y : ℤ) → nat_abs x ≤ k → nat_abs y ≤ l → nat_abs (x -ℤ y) ≤ k + l
abs_minus k l = all₂ _ (λ p n q m. simp ints (omega arith))

abs_neg : (n : ℕ) → nat_abs (neg_ℤ (pos n)) ≡ n
abs_neg zero = refl
abs_neg (suc n) = refl

pub abs-*ℤ : (x y : ℤ) → nat_abs (x *ℤ y) ≡ nat_abs x * nat_abs y
abs-*ℤ (pos a) (pos b) = refl
abs-*ℤ (pos a) (negsuc b) = abs_neg (a * suc b)
abs-*ℤ (negsuc a) (pos b) = abs_neg (suc a * b)
abs-*ℤ (negsuc a) (negsuc b) = refl

pub abs_product : (k l : ℕ) (x y : ℤ) → nat_abs x ≤ k → nat_abs y ≤ l → nat_abs (x *ℤ y) ≤ k * l
abs_product k l x y h i = omega (arith, abs-*ℤ x y, mul-le-mul_right (nat_abs y) h, mul-le-mul_left k i)

-- between two numbers within k of zero, and below and above all of them
pub abs_between : (k : ℕ) (x y z : ℤ) → x ≤ℤ y → y ≤ℤ z → nat_abs x ≤ k → nat_abs z ≤ k → nat_abs y ≤ k
abs_between k = all₃ _ (λ p n q m r s. simp ints (omega arith))

pub abs_below : (k : ℕ) (z : ℤ) → z <ℤ negsuc k → suc k < nat_abs z
abs_below k = all₁ _ (λ p n. simp (ints, abs-⊖) (omega arith))

pub abs_above : (k : ℕ) (z : ℤ) → pos k <ℤ z → k < nat_abs z
abs_above k = all₁ _ (λ p n. simp (ints, abs-⊖) (omega arith))

-- a bound below half the width's power is a range
pub fits_abs : (w : Width) (z : ℤ) (k : ℕ) → nat_abs z ≤ k → k < 2 ^ hbits w → SFits w z
fits_abs w z k = all₁ (λ z. nat_abs z ≤ k → k < 2 ^ hbits w → SFits w z) (λ p n. simp ints (omega arith)) z

-- and a range is a bound
pub abs_of_fits : (w : Width) (z : ℤ) → SFits w z → nat_abs z ≤ 2 ^ hbits w
abs_of_fits w = all₁ _ (λ p n. simp ints (omega arith))

pub fits_by : (w : Width) (k : ℕ) {z : ℤ} → T (ltb k (2 ^ hbits w)) → nat_abs z ≤ k → SFits w z
fits_by w k {z} t h = fits_abs w z k h (ltb→lt k (2 ^ hbits w) t)

-- ---- what a branch's test tells

pub lt_ℤ_true : {x y : ℤ} → lt_z x y ≡ true → x <ℤ y
lt_ℤ_true {x} {y} = all₂ (λ x y. lt_z x y ≡ true → x <ℤ y) (λ p n q m. simp ints (omega arith)) x y

pub lt_ℤ_false : {x y : ℤ} → lt_z x y ≡ false → y ≤ℤ x
lt_ℤ_false {x} {y} = all₂ (λ x y. lt_z x y ≡ false → y ≤ℤ x) (λ p n q m. simp ints (omega arith)) x y

pub le_ℤ_true : {x y : ℤ} → le_z x y ≡ true → x ≤ℤ y
le_ℤ_true {x} {y} = all₂ (λ x y. le_z x y ≡ true → x ≤ℤ y) (λ p n q m. simp ints (omega arith)) x y

pub le_ℤ_false : {x y : ℤ} → le_z x y ≡ false → y <ℤ x
le_ℤ_false {x} {y} = all₂ (λ x y. le_z x y ≡ false → y <ℤ x) (λ p n q m. simp ints (omega arith)) x y

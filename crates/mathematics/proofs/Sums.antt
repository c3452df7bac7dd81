-- Laws of finite sums: distance, size, a common factor, and the order of two sums. Assumes nothing.
use mathlib.Core.Path.{◌≡◌, refl, sym}
use Prim.Native.Nat.{ℕ, zero, suc, ◌+◌, ◌*◌, ◌-◌, ◌≤◌, ◌<◌}
use native.Mathlib.Nat.{mul-zero, zero-mul, mul-add, add-mul, add-zero, add-suc, le_refl}
use native.Mathlib.Omega.{arith}
use lib.IntN.{ℤ, pos, nat_abs, ◌+ℤ◌, ◌*ℤ◌, *ℤ-zero}
use Rattle.mathematics.specs.Definitions.Sums.{sum}
use Rattle.mathematics.proofs.Integers.{ints, all₄}
use Rattle.mathematics.proofs.IntegerLaws.{*ℤ-+ℤ, abs_sum}
use Rattle.mathematics.proofs.Distance.{Near, near_refl, near_add}

-- f 0 to f (n - 1) together, of natural numbers
unfoldable pub total : ℕ → (ℕ → ℕ) → ℕ
total zero f = 0
total (suc n) f = total n f + f n

pub mul_total : (x n : ℕ) (f : ℕ → ℕ) → total n (λ t. x * f t) ≡ x * total n f
unfolding total
mul_total x zero f = sym (mul-zero x)
mul_total x (suc n) f = simp (mul_total x n f, mul-add)

pub total_mul : (x n : ℕ) (f : ℕ → ℕ) → total n (λ t. f t * x) ≡ total n f * x
unfolding total
total_mul x zero f = sym (zero-mul x)
total_mul x (suc n) f = simp (total_mul x n f, add-mul)

grows : (m : ℕ) (f : ℕ → ℕ) (n : ℕ) → total n f ≤ total (n + m) f
unfolding total
grows zero f n = rw add-zero (le_refl (total n f))
grows (suc m) f n = rw add-suc (omega (arith, grows m f n))

pub total_mono : (n m : ℕ) (f : ℕ → ℕ) → n ≤ m → total n f ≤ total m f
total_mono n m f h = let e : n + (m - n) ≡ m = omega arith in rw e at (grows (m - n) f n)

pub near_sum : (n : ℕ) (f g : ℕ → ℤ) (e : ℕ → ℕ) → ((t : ℕ) → t < n → Near (e t) (f t) (g t)) → Near (total n e) (sum n f) (sum n g)
unfolding total sum
near_sum zero f g e h = near_refl (pos 0)
near_sum (suc n) f g e h = near_add (near_sum n f g e (λ t ht. h t (omega arith))) (h n (omega arith))

pub abs_of_sum : (n : ℕ) (f : ℕ → ℤ) (e : ℕ → ℕ) → ((t : ℕ) → t < n → nat_abs (f t) ≤ e t) → nat_abs (sum n f) ≤ total n e
unfolding total sum
abs_of_sum zero f e h = omega arith
abs_of_sum (suc n) f e h = abs_sum (total n e) (e n) (sum n f) (f n) (abs_of_sum n f e (λ t ht. h t (omega arith))) (h n (omega arith))

pub sum_scale : (w : ℤ) (n : ℕ) (f : ℕ → ℤ) → sum n (λ t. w *ℤ f t) ≡ w *ℤ sum n f
unfolding sum
sum_scale w zero f = sym (*ℤ-zero w)
sum_scale w (suc n) f = simp (sum_scale w n f, *ℤ-+ℤ)

-- ---- two sums in either order

sum-zero : (n : ℕ) → sum n (λ t. pos 0) ≡ pos 0
unfolding sum
sum-zero zero = refl
sum-zero (suc n) = rw (sum-zero n)

cross : (a b c d : ℤ) → (a +ℤ b) +ℤ (c +ℤ d) ≡ (a +ℤ c) +ℤ (b +ℤ d)
cross = all₄ _ (λ p n q m r s t u. simp ints (omega arith))

sum_add : (n : ℕ) (f g : ℕ → ℤ) → sum n (λ t. f t +ℤ g t) ≡ sum n f +ℤ sum n g
unfolding sum
sum_add zero f g = refl
sum_add (suc n) f g = rw (sum_add n f g) (cross (sum n f) (sum n g) (f n) (g n))

pub sum_swap : (n m : ℕ) (f : ℕ → ℕ → ℤ) → sum n (λ i. sum m (λ j. f i j)) ≡ sum m (λ j. sum n (λ i. f i j))
unfolding sum
sum_swap zero m f = sym (sum-zero m)
sum_swap (suc n) m f = rw (sum_swap n m f) (sym (sum_add m (λ j. sum n (λ i. f i j)) (f n)))

-- the same terms
pub sum_same : (n : ℕ) (f g : ℕ → ℤ) → ((t : ℕ) → t < n → f t ≡ g t) → sum n f ≡ sum n g
unfolding sum
sum_same zero f g h = refl
sum_same (suc n) f g h = rw (sum_same n f g (λ t ht. h t (omega arith)), h n (omega arith))

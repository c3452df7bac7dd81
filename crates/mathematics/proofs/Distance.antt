-- Whole numbers at most a distance apart, and how sums, differences and products carry the distance on. Assumes nothing.
use mathlib.Core.Path.{◌≡◌, subst}
use Prim.Native.Nat.{ℕ, ◌+◌, ◌*◌, ◌≤◌}
use native.Mathlib.Nat.{le_trans, le_refl}
use native.Mathlib.Omega.{arith}
use lib.Dec.{leb→le, le→leb}
use lib.IntN.{ℤ, pos, negsuc, nat_abs, ◌+ℤ◌, ◌-ℤ◌, ◌*ℤ◌}
use lib.Signed.{◌≤ℤ◌, ◌<ℤ◌}
use Rattle.mathematics.proofs.Integers.{ints, all₁, all₂, all₃, all₄}
use Rattle.mathematics.proofs.IntegerLaws.{*ℤ--ℤ, abs_product}

-- x and y are at most e apart
pub record Near (e : ℕ) (x y : ℤ) : Type 0 where
  pub apart : nat_abs (x -ℤ y) ≤ e

refl_abs : (x : ℤ) → nat_abs (x -ℤ x) ≤ 0
refl_abs = all₁ _ (λ p n. simp ints (omega arith))

sym_abs : (e : ℕ) (x y : ℤ) → nat_abs (x -ℤ y) ≤ e → nat_abs (y -ℤ x) ≤ e
sym_abs e = all₂ _ (λ p n q m. simp ints (omega arith))

zero_abs : (e : ℕ) (x : ℤ) → nat_abs x ≤ e → nat_abs (x -ℤ pos 0) ≤ e
zero_abs e = all₁ _ (λ p n. simp ints (omega arith))

abs_zero : (e : ℕ) (x : ℤ) → nat_abs (x -ℤ pos 0) ≤ e → nat_abs x ≤ e
abs_zero e = all₁ _ (λ p n. simp ints (omega arith))

above_abs : (e : ℕ) (x y : ℤ) → nat_abs (x -ℤ y) ≤ e → x ≤ℤ (y +ℤ pos e)
above_abs e = all₂ _ (λ p n q m. simp ints (omega arith))

between_abs : (e : ℕ) (x y : ℤ) → x ≤ℤ (y +ℤ pos e) → y ≤ℤ (x +ℤ pos e) → nat_abs (x -ℤ y) ≤ e
between_abs e = all₂ _ (λ p n q m. simp ints (omega arith))

negative_abs : (e : ℕ) (x y : ℤ) → nat_abs (x -ℤ y) ≤ e → x <ℤ pos 0 → y ≤ℤ pos e
negative_abs e = all₂ _ (λ p n q m. simp ints (omega arith))

same_abs : (x y : ℤ) → nat_abs (x -ℤ y) ≤ 0 → x ≡ y
same_abs = all₂ _ (λ p n q m. simp ints (omega arith))

trans_abs : (e f : ℕ) (x y z : ℤ) → nat_abs (x -ℤ y) ≤ e → nat_abs (y -ℤ z) ≤ f → nat_abs (x -ℤ z) ≤ e + f
trans_abs e f = all₃ _ (λ p n q m r s. simp ints (omega arith))

add_abs : (e f : ℕ) (x y u v : ℤ) → nat_abs (x -ℤ y) ≤ e → nat_abs (u -ℤ v) ≤ f → nat_abs ((x +ℤ u) -ℤ (y +ℤ v)) ≤ e + f
add_abs e f = all₄ _ (λ p n q m r s t w. simp ints (omega arith))

sub_abs : (e f : ℕ) (x y u v : ℤ) → nat_abs (x -ℤ y) ≤ e → nat_abs (u -ℤ v) ≤ f → nat_abs ((x -ℤ u) -ℤ (y -ℤ v)) ≤ e + f
sub_abs e f = all₄ _ (λ p n q m r s t w. simp ints (omega arith))

pub near_refl : (x : ℤ) → Near 0 x x
near_refl x = record { apart = refl_abs x }

pub near_sym : {e : ℕ} {x y : ℤ} → Near e x y → Near e y x
near_sym {e} {x} {y} n = record { apart = sym_abs e x y n.apart }

pub near_same : {x y : ℤ} → Near 0 x y → x ≡ y
near_same {x} {y} n = same_abs x y n.apart

pub same_near : {x y : ℤ} → x ≡ y → Near 0 x y
same_near {x} e = subst (Near 0 x) e (near_refl x)

pub near_more : {e f : ℕ} {x y : ℤ} → e ≤ f → Near e x y → Near f x y
near_more h n = record { apart = le_trans n.apart h }

pub near_trans : {e f : ℕ} {x y z : ℤ} → Near e x y → Near f y z → Near (e + f) x z
near_trans {e} {f} {x} {y} {z} m n = record { apart = trans_abs e f x y z m.apart n.apart }

pub near_add : {e f : ℕ} {x y u v : ℤ} → Near e x y → Near f u v → Near (e + f) (x +ℤ u) (y +ℤ v)
near_add {e} {f} {x} {y} {u} {v} m n = record { apart = add_abs e f x y u v m.apart n.apart }

pub near_sub : {e f : ℕ} {x y u v : ℤ} → Near e x y → Near f u v → Near (e + f) (x -ℤ u) (y -ℤ v)
near_sub {e} {f} {x} {y} {u} {v} m n = record { apart = sub_abs e f x y u v m.apart n.apart }

pub near_mul : (w : ℤ) {e : ℕ} {x y : ℤ} → Near e x y → Near (nat_abs w * e) (w *ℤ x) (w *ℤ y)
near_mul w {e} {x} {y} n = record { apart = rw (← *ℤ--ℤ w x y) (abs_product (nat_abs w) e w (x -ℤ y) (le_refl (nat_abs w)) n.apart) }

-- the distance from zero, and between two numbers that are not negative
pub near_zero : {e : ℕ} (x : ℤ) → nat_abs x ≤ e → Near e x (pos 0)
near_zero {e} x h = record { apart = zero_abs e x h }

pub abs_near : {e : ℕ} {x : ℤ} → Near e x (pos 0) → nat_abs x ≤ e
abs_near {e} {x} n = abs_zero e x n.apart

pub near_pos : {a b e : ℕ} → Near e (pos a) (pos b) → (a ≤ b + e) × (b ≤ a + e)
near_pos {a} {b} {e} n =
    (leb→le a (b + e) (above_abs e (pos a) (pos b) n.apart).le, leb→le b (a + e) (above_abs e (pos b) (pos a) (near_sym n).apart).le)

pub pos_near : {a b e : ℕ} → a ≤ b + e → b ≤ a + e → Near e (pos a) (pos b)
pos_near {a} {b} {e} h k = record { apart = between_abs e (pos a) (pos b) (record { le = le→leb a (b + e) h }) (record { le = le→leb b (a + e) k }) }

-- from a negative number it is farther to n than from 0
pub near_negative : {m n e : ℕ} → Near e (negsuc m) (pos n) → n ≤ e
near_negative {m} {n} {e} c = leb→le n e (negative_abs e (negsuc m) (pos n) c.apart (record { lt = tt })).le

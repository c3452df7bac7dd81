-- Whole numbers as differences of natural numbers, which omega reads: `simp ints` turns a statement over ℤ, its hypotheses included, into
-- one over ℕ, once each variable is a difference (`all₁` to `all₅`):
--   law : (x y z : ℤ) → ..
--   law = all₃ _ (λ p n q m r s. simp ints (omega arith))
-- Assumes nothing.
use mathlib.Core.Path.{◌≡◌, refl, sym, ap, subst}
use mathlib.Core.Logic.{◌↔◌}
use mathlib.Core.Bool.{Bool, true, false, not, cond}
use Prim.Native.Nat.{ℕ, zero, suc, ◌+◌, ◌*◌, ◌-◌, ◌<◌, ◌≤◌, ◌^◌}
use native.Mathlib.Decide.{dec_le, dec_lt}
use native.Mathlib.Omega.{arith}
use lib.Dec.{T, ltb, ltb→lt, nltb→le, lt→ltb, le→leb, leb→le, not_T, T_not}
use lib.Ieee.Bits.{is_true, is_false}
use lib.IntN.{ℤ, pos, negsuc, neg_ℤ, nat_abs, ◌+ℤ◌, ◌*ℤ◌, sub_ℕ, pos-ne-negsuc}
use lib.Signed.{◌≤ℤ◌, ◌<ℤ◌, le_z, lt_z, mag}
use mir.Syntax.{Width}
use mir.Val.{SFits, hbits}

-- p − n
infix 55 ◌⊖◌
pub ◌⊖◌ : ℕ → ℕ → ℤ
p ⊖ n = sub_ℕ p n

-- which of the two forms a difference has
data Form (p n : ℕ) : ℤ → Type 0 where
  up : (k : ℕ) → p ≡ n + k → Form p n (pos k)
  down : (k : ℕ) → n ≡ p + suc k → Form p n (negsuc k)

by_test : (p n : ℕ) (b : Bool) → (T b → p < n) → (T (not b) → n ≤ p) → Form p n (cond b (negsuc (n - suc p)) (pos (p - n)))
by_test p n true f g = let h = f tt in down (n - suc p) (omega arith)
by_test p n false f g = let h = g tt in up (p - n) (omega arith)

form : (p n : ℕ) → Form p n (p ⊖ n)
unfolding ◌⊖◌
form p n = by_test p n (ltb p n) (ltb→lt p n) (nltb→le p n)

-- ---- the laws of differences

-- a difference is the number of its form
eq_up : {p n : ℕ} {z : ℤ} → Form p n z → (q m : ℕ) {y : ℤ} → Form q m y → p + m ≡ q + n → z ≡ y
eq_up (up k e) q m (up j d) h = ap pos (omega arith)
eq_up (up k e) q m (down j d) h = absurd (omega arith)
eq_up (down k e) q m (up j d) h = absurd (omega arith)
eq_up (down k e) q m (down j d) h = ap negsuc (omega arith)

eq_down : {p n : ℕ} {z : ℤ} → Form p n z → (q m : ℕ) {y : ℤ} → Form q m y → z ≡ y → p + m ≡ q + n
eq_down (up k e) q m (up j d) h = let i = ap nat_abs h in omega arith
eq_down (up k e) q m (down j d) h = absurd (pos-ne-negsuc k j h)
eq_down (down k e) q m (up j d) h = absurd (pos-ne-negsuc j k (sym h))
eq_down (down k e) q m (down j d) h = let i = ap nat_abs h in omega arith

pub ⊖-path : (p n q m : ℕ) → p + m ≡ q + n → p ⊖ n ≡ q ⊖ m
⊖-path p n q m h = eq_up (form p n) q m (form q m) h

pub ⊖-≡ : (p n q m : ℕ) → (p ⊖ n ≡ q ⊖ m) ↔ (p + m ≡ q + n)
⊖-≡ p n q m = (eq_down (form p n) q m (form q m), ⊖-path p n q m)

pub pos-⊖ : (k : ℕ) → pos k ≡ k ⊖ 0
pos-⊖ k = eq_up {p = k} {n = 0} (up k (omega arith)) k 0 (form k 0) refl

pub negsuc-⊖ : (k : ℕ) → negsuc k ≡ 0 ⊖ suc k
negsuc-⊖ k = eq_up {p = 0} {n = suc k} (down k (omega arith)) 0 (suc k) (form 0 (suc k)) refl

-- of a number and of its form
of_form : {p n : ℕ} {z : ℤ} → Form p n z → z ≡ p ⊖ n
of_form {p} {n} f = eq_up f p n (form p n) refl

neg_form : {p n : ℕ} {z : ℤ} → Form p n z → Form n p (neg_ℤ z)
neg_form (up zero e) = up 0 (omega arith)
neg_form (up (suc k) e) = down k (omega arith)
neg_form (down k e) = up (suc k) (omega arith)

pub neg-⊖ : (p n : ℕ) → neg_ℤ (p ⊖ n) ≡ n ⊖ p
neg-⊖ p n = of_form (neg_form (form p n))

sub_form : (a b p n : ℕ) → a + n ≡ b + p → Form p n (sub_ℕ a b)
unfolding ◌⊖◌
sub_form a b p n h = subst (λ (z : ℤ). Form p n z) (⊖-path p n a b (omega arith)) (form p n)

add_form : {p n q m : ℕ} {y z : ℤ} → Form p n z → Form q m y → Form (p + q) (n + m) (z +ℤ y)
add_form (up k e) (up j d) = up (k + j) (omega arith)
add_form {p} {n} {q} {m} (up k e) (down j d) = sub_form k (suc j) (p + q) (n + m) (omega arith)
add_form {p} {n} {q} {m} (down k e) (up j d) = sub_form j (suc k) (p + q) (n + m) (omega arith)
add_form (down k e) (down j d) = down (suc (k + j)) (omega arith)

pub add-⊖ : (p n q m : ℕ) → (p ⊖ n) +ℤ (q ⊖ m) ≡ (p + q) ⊖ (n + m)
add-⊖ p n q m = of_form (add_form (form p n) (form q m))

-- the product, of two that are not below zero, with a sign each
mul_form : {p n q m : ℕ} {y z : ℤ} → Form p n z → Form q m y → Form (p * q + n * m) (p * m + n * q) (z *ℤ y)
mul_form {p} {n} {q} {m} (up k e) (up j d) = subst (λ (p : ℕ). Form (p * q + n * m) (p * m + n * q) (pos (k * j))) (sym e) (subst (λ (q : ℕ). Form ((n + k) * q + n * m) ((n + k) * m + n * q) (pos (k * j))) (sym d) (up (k * j) (omega arith)))
mul_form {p} {n} {q} {m} (up k e) (down j d) = subst (λ (p : ℕ). Form (p * q + n * m) (p * m + n * q) (neg_ℤ (pos (k * suc j)))) (sym e) (subst (λ (m : ℕ). Form ((n + k) * q + n * m) ((n + k) * m + n * q) (neg_ℤ (pos (k * suc j)))) (sym d) (neg_form (up (k * suc j) (omega arith))))
mul_form {p} {n} {q} {m} (down k e) (up j d) = subst (λ (n : ℕ). Form (p * q + n * m) (p * m + n * q) (neg_ℤ (pos (suc k * j)))) (sym e) (subst (λ (q : ℕ). Form (p * q + (p + suc k) * m) (p * m + (p + suc k) * q) (neg_ℤ (pos (suc k * j)))) (sym d) (neg_form (up (suc k * j) (omega arith))))
mul_form {p} {n} {q} {m} (down k e) (down j d) = subst (λ (n : ℕ). Form (p * q + n * m) (p * m + n * q) (pos (suc k * suc j))) (sym e) (subst (λ (m : ℕ). Form (p * q + (p + suc k) * m) (p * m + (p + suc k) * q) (pos (suc k * suc j))) (sym d) (up (suc k * suc j) (omega arith)))

pub mul-⊖ : (p n q m : ℕ) → (p ⊖ n) *ℤ (q ⊖ m) ≡ (p * q + n * m) ⊖ (p * m + n * q)
mul-⊖ p n q m = of_form (mul_form (form p n) (form q m))

-- ---- the order
le_up : {p n q m : ℕ} {y z : ℤ} → Form p n z → Form q m y → p + m ≤ q + n → T (le_z z y)
le_up (up k e) (up j d) h = le→leb k j (omega arith)
le_up (up k e) (down j d) h = absurd (omega arith)
le_up (down k e) (up j d) h = tt
le_up (down k e) (down j d) h = le→leb j k (omega arith)

le_down : {p n q m : ℕ} {y z : ℤ} → Form p n z → Form q m y → T (le_z z y) → p + m ≤ q + n
le_down (up k e) (up j d) h = let i = leb→le k j h in omega arith
le_down (up k e) (down j d) h = absurd h
le_down (down k e) (up j d) h = omega arith
le_down (down k e) (down j d) h = let i = leb→le j k h in omega arith

lt_up : {p n q m : ℕ} {y z : ℤ} → Form p n z → Form q m y → p + m < q + n → T (lt_z z y)
lt_up (up k e) (up j d) h = lt→ltb k j (omega arith)
lt_up (up k e) (down j d) h = absurd (omega arith)
lt_up (down k e) (up j d) h = tt
lt_up (down k e) (down j d) h = lt→ltb j k (omega arith)

lt_down : {p n q m : ℕ} {y z : ℤ} → Form p n z → Form q m y → T (lt_z z y) → p + m < q + n
lt_down (up k e) (up j d) h = let i = ltb→lt k j h in omega arith
lt_down (up k e) (down j d) h = absurd h
lt_down (down k e) (up j d) h = omega arith
lt_down (down k e) (down j d) h = let i = ltb→lt j k h in omega arith

pub ⊖-≤ : (p n q m : ℕ) → (p ⊖ n ≤ℤ q ⊖ m) ↔ (p + m ≤ q + n)
⊖-≤ p n q m = ((λ h. le_down (form p n) (form q m) h.le), (λ h. record { le = le_up (form p n) (form q m) h }))

pub ⊖-< : (p n q m : ℕ) → (p ⊖ n <ℤ q ⊖ m) ↔ (p + m < q + n)
⊖-< p n q m = ((λ h. lt_down (form p n) (form q m) h.lt), (λ h. record { lt = lt_up (form p n) (form q m) h }))

-- what the sum of a `pos` and a `negsuc` has become by computation, with its parts rewritten
sub_test : (p n : ℕ) (b : Bool) → (T b → p < n) → (T (not b) → n ≤ p) → cond b (0 ⊖ suc (n - suc p)) (p - n ⊖ 0) ≡ p ⊖ n
sub_test p n true f g = let h = f tt in ⊖-path 0 (suc (n - suc p)) p n (omega arith)
sub_test p n false f g = let h = g tt in ⊖-path (p - n) 0 p n (omega arith)

pub sub-⊖ : (p n : ℕ) → cond (ltb p n) (0 ⊖ suc (n - suc p)) (p - n ⊖ 0) ≡ p ⊖ n
sub-⊖ p n = sub_test p n (ltb p n) (ltb→lt p n) (nltb→le p n)

-- ---- the distance from zero, and the range of a signed width
abs_form : {p n : ℕ} {z : ℤ} → Form p n z → nat_abs z ≡ (p - n) + (n - p)
abs_form (up k e) = omega arith
abs_form (down k e) = omega arith

pub abs-⊖ : (p n : ℕ) → nat_abs (p ⊖ n) ≡ (p - n) + (n - p)
abs-⊖ p n = abs_form (form p n)

abs≤-up : {p n : ℕ} {z : ℤ} (k : ℕ) → Form p n z → (p ≤ n + k) × (n ≤ p + k) → nat_abs z ≤ k
abs≤-up k (up j e) h = omega arith
abs≤-up k (down j e) h = omega arith

abs≤-down : {p n : ℕ} {z : ℤ} (k : ℕ) → Form p n z → nat_abs z ≤ k → (p ≤ n + k) × (n ≤ p + k)
abs≤-down k (up j e) h = omega arith
abs≤-down k (down j e) h = omega arith

pub ⊖-abs≤ : (p n k : ℕ) → (nat_abs (p ⊖ n) ≤ k) ↔ ((p ≤ n + k) × (n ≤ p + k))
⊖-abs≤ p n k = (abs≤-down k (form p n), abs≤-up k (form p n))

mag_up : {p n : ℕ} {z : ℤ} (H : ℕ) → Form p n z → (p < n + H) × (n ≤ p + H) → mag z < H
mag_up H (up k e) h = omega arith
mag_up H (down k e) h = omega arith

mag_down : {p n : ℕ} {z : ℤ} (H : ℕ) → Form p n z → mag z < H → (p < n + H) × (n ≤ p + H)
mag_down H (up k e) h = omega arith
mag_down H (down k e) h = omega arith

pub ⊖-fits : (w : Width) (p n : ℕ) → SFits w (p ⊖ n) ↔ ((p < n + 2 ^ hbits w) × (n ≤ p + 2 ^ hbits w))
⊖-fits w p n = ((λ h. mag_down (2 ^ hbits w) (form p n) h.sfits), (λ h. record { sfits = mag_up (2 ^ hbits w) (form p n) h }))

-- ---- tests, as a branch leaves them
true-is : (b : Bool) → b ≡ true → T b
true-is b e = subst T (sym e) tt

false-is : (b : Bool) → b ≡ false → T (not b)
false-is b e = subst (λ (b : Bool). T (not b)) (sym e) tt

nle_up : {p n q m : ℕ} {y z : ℤ} → Form p n z → Form q m y → q + n < p + m → T (not (le_z z y))
nle_up {y} {z} f g h = not_T (le_z z y) (λ t. let i = le_down f g t in omega arith)

nle_down : {p n q m : ℕ} {y z : ℤ} → Form p n z → Form q m y → T (not (le_z z y)) → q + n < p + m
nle_down {p} {n} {q} {m} {y} {z} f g t = pick (dec_lt (q + n) (p + m))
  where
    pick : Dec (q + n < p + m) → q + n < p + m
    pick (yes h) = h
    pick (no h) = absurd (T_not (le_z z y) t (le_up f g (omega arith)))

nlt_up : {p n q m : ℕ} {y z : ℤ} → Form p n z → Form q m y → q + n ≤ p + m → T (not (lt_z z y))
nlt_up {y} {z} f g h = not_T (lt_z z y) (λ t. let i = lt_down f g t in omega arith)

nlt_down : {p n q m : ℕ} {y z : ℤ} → Form p n z → Form q m y → T (not (lt_z z y)) → q + n ≤ p + m
nlt_down {p} {n} {q} {m} {y} {z} f g t = pick (dec_le (q + n) (p + m))
  where
    pick : Dec (q + n ≤ p + m) → q + n ≤ p + m
    pick (yes h) = h
    pick (no h) = absurd (T_not (lt_z z y) t (lt_up f g (omega arith)))

pub ⊖-le-true : (p n q m : ℕ) → (le_z (p ⊖ n) (q ⊖ m) ≡ true) ↔ (p + m ≤ q + n)
⊖-le-true p n q m = ((λ h. le_down (form p n) (form q m) (true-is _ h)), (λ h. is_true _ (le_up (form p n) (form q m) h)))

pub ⊖-le-false : (p n q m : ℕ) → (le_z (p ⊖ n) (q ⊖ m) ≡ false) ↔ (q + n < p + m)
⊖-le-false p n q m = ((λ h. nle_down (form p n) (form q m) (false-is _ h)), (λ h. is_false _ (nle_up (form p n) (form q m) h)))

pub ⊖-lt-true : (p n q m : ℕ) → (lt_z (p ⊖ n) (q ⊖ m) ≡ true) ↔ (p + m < q + n)
⊖-lt-true p n q m = ((λ h. lt_down (form p n) (form q m) (true-is _ h)), (λ h. is_true _ (lt_up (form p n) (form q m) h)))

pub ⊖-lt-false : (p n q m : ℕ) → (lt_z (p ⊖ n) (q ⊖ m) ≡ false) ↔ (q + n ≤ p + m)
⊖-lt-false p n q m = ((λ h. nlt_down (form p n) (form q m) (false-is _ h)), (λ h. is_false _ (nlt_up (form p n) (form q m) h)))

-- ---- every integer is a difference
pub data Diff : ℤ → Type 0 where
  diff : (p n : ℕ) → Diff (p ⊖ n)

pub view : (z : ℤ) → Diff z
view (pos k) = subst Diff (sym (pos-⊖ k)) (diff k 0)
view (negsuc k) = subst Diff (sym (negsuc-⊖ k)) (diff 0 (suc k))

view₁ : (P : ℤ → Type 0) → ((p n : ℕ) → P (p ⊖ n)) → {z : ℤ} → Diff z → P z
view₁ P f (diff p n) = f p n

pub all₁ : (P : ℤ → Type 0) → ((p n : ℕ) → P (p ⊖ n)) → (z : ℤ) → P z
all₁ P f z = view₁ P f (view z)

pub all₂ : (P : ℤ → ℤ → Type 0) → ((p n q m : ℕ) → P (p ⊖ n) (q ⊖ m)) → (x y : ℤ) → P x y
all₂ P f x y = all₁ (λ x. P x y) (λ p n. all₁ (λ y. P (p ⊖ n) y) (f p n) y) x

pub all₃ : (P : ℤ → ℤ → ℤ → Type 0) → ((p n q m r s : ℕ) → P (p ⊖ n) (q ⊖ m) (r ⊖ s)) → (x y z : ℤ) → P x y z
all₃ P f x y z = all₂ (λ x y. P x y z) (λ p n q m. all₁ (λ z. P (p ⊖ n) (q ⊖ m) z) (f p n q m) z) x y

pub all₄ : (P : ℤ → ℤ → ℤ → ℤ → Type 0) → ((p n q m r s t u : ℕ) → P (p ⊖ n) (q ⊖ m) (r ⊖ s) (t ⊖ u)) → (w x y z : ℤ) → P w x y z
all₄ P f w x y z = all₂ (λ w x. P w x y z) (λ p n q m. all₂ (λ y z. P (p ⊖ n) (q ⊖ m) y z) (f p n q m) y z) w x

pub all₅ : (P : ℤ → ℤ → ℤ → ℤ → ℤ → Type 0) → ((p n q m r s t u a b : ℕ) → P (p ⊖ n) (q ⊖ m) (r ⊖ s) (t ⊖ u) (a ⊖ b)) → (v w x y z : ℤ) → P v w x y z
all₅ P f v w x y z = all₁ (λ v. P v w x y z) (λ p n. all₄ (λ w x y z. P (p ⊖ n) w x y z) (f p n) w x y z) v

-- from a statement over ℤ to one over ℕ
pub ruleset ints = (pos-⊖, negsuc-⊖, sub-⊖, neg-⊖, add-⊖, mul-⊖, ⊖-abs≤, ⊖-≡, ⊖-≤, ⊖-<, ⊖-fits, ⊖-le-true, ⊖-le-false, ⊖-lt-true, ⊖-lt-false)

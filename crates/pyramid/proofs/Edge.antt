-- The edge rule holds of `reflect`, for every last column z of 1 or more, and at the places that it speaks of nothing else meets it. What is
-- read inside, before and past the level, and that a tap of REDUCE or EXPAND stays inside. Assumes nothing.
use mathlib.Core.Path.{◌≡◌, refl, sym, ◌∙◌, subst}
use Prim.Native.Nat.{ℕ, zero, suc, ◌+◌, ◌-◌, ◌*◌, ◌/◌, ◌≤◌, ◌<◌}
use native.Mathlib.Omega.{arith}
use native.Mathlib.Decide.{dec_lt}
use Rattle.pyramid.specs.Definitions.Edge.{reflect, EdgeRule}
use Rattle.pyramid.specs.Definitions.Steps.{halved}

-- ---- what is read: inside, before and past the level

pub read_inside : (z p : ℕ) {column : ℕ} → column + 2 ≡ p → column ≤ z → column ≡ reflect z p
unfolding reflect
read_inside z p e h = omega arith

pub read_before : (z p : ℕ) {column : ℕ} → column + p ≡ 2 → column ≤ z → column ≡ reflect z p
unfolding reflect
read_before z p e h = omega arith

pub read_past : (z p : ℕ) {column : ℕ} → column + p ≡ 2 * z + 2 → z + 2 ≤ p → column ≡ reflect z p
unfolding reflect
read_past z p e h = omega arith

pub reflect_most : (z p : ℕ) → 2 ≤ z + p → p ≤ 2 * z + 2 → reflect z p ≤ z
unfolding reflect
reflect_most z p h k = omega arith

-- ---- the rule

pub edge_rule : (z : ℕ) → 1 ≤ z → EdgeRule z (reflect z)
edge_rule zero h = absurd (omega arith)
edge_rule (suc zero) h = unfold reflect in record { inside = λ column k. omega arith; before = (refl, refl); past = (refl, refl) }
edge_rule (suc (suc y)) h = record {
  inside = λ column k. sym (read_inside _ _ refl k);
  before = (sym (read_before _ _ {column = 1} refl (omega arith)) ∙ read_inside _ _ refl (omega arith), sym (read_before _ _ {column = 2} refl (omega arith)) ∙ read_inside _ _ refl (omega arith));
  past = (sym (read_past _ _ {column = suc y} (omega arith) (omega arith)) ∙ read_inside _ _ (omega arith) (omega arith), sym (read_past _ _ {column = y} (omega arith) (omega arith)) ∙ read_inside _ _ (omega arith) (omega arith));
}

-- what meets the rule reads the same columns, from -2 to z + 2
module _ (z : ℕ) (least : 1 ≤ z) (f g : ℕ → ℕ) (a : EdgeRule z f) (b : EdgeRule z g) where
  inner : (p : ℕ) → 2 ≤ p → p ≤ z + 2 → f p ≡ g p
  inner p h k = let e : p - 2 + 2 ≡ p = omega arith in subst (λ (q : ℕ). f q ≡ g q) e (a.inside (p - 2) (omega arith) ∙ sym (b.inside (p - 2) (omega arith)))

  first-before : f 1 ≡ g 1
  first-before = a.before.0 ∙ inner 3 (omega arith) (omega arith) ∙ sym b.before.0

  first_past : f (z + 3) ≡ g (z + 3)
  first_past = a.past.0 ∙ inner (z + 1) (omega arith) (omega arith) ∙ sym b.past.0

  fourth : Dec (1 < z) → f 4 ≡ g 4
  fourth (yes l) = inner 4 (omega arith) (omega arith)
  fourth (no l) = let e : z + 3 ≡ 4 = omega arith in subst (λ (q : ℕ). f q ≡ g q) e first_past

  second_last : Dec (1 < z) → f z ≡ g z
  second_last (yes l) = inner z (omega arith) (omega arith)
  second_last (no l) = let e : 1 ≡ z = omega arith in subst (λ (q : ℕ). f q ≡ g q) e first-before

  outer : (p : ℕ) → p ≤ z + 4 → Dec (p < z + 3) → Dec (p < z + 4) → 2 ≤ p → f p ≡ g p
  outer p h (yes l) d k = inner p k (omega arith)
  outer p h (no l) (yes m) k = let e : z + 3 ≡ p = omega arith in subst (λ (q : ℕ). f q ≡ g q) e first_past
  outer p h (no l) (no m) k =
      let e : z + 4 ≡ p = omega arith in
      subst (λ (q : ℕ). f q ≡ g q) e (a.past.1 ∙ second_last (dec_lt 1 z) ∙ sym b.past.1)

  pub edge_only : (p : ℕ) → p ≤ z + 4 → f p ≡ g p
  edge_only zero h = a.before.1 ∙ fourth (dec_lt 1 z) ∙ sym b.before.1
  edge_only (suc zero) h = first-before
  edge_only (suc (suc p)) h = outer (suc (suc p)) h (dec_lt (suc (suc p)) (z + 3)) (dec_lt (suc (suc p)) (z + 4)) (omega arith)

-- ---- the taps

pub reduce_inside : (z i t : ℕ) → 2 ≤ z → i ≤ z / 2 → t < 5 → reflect z (2 * i + t) ≤ z
reduce_inside z i t hz hi ht = reflect_most z (2 * i + t) (omega arith) (omega arith)

-- and at most two columns from the one in the middle
pub reduce_from : (z i t : ℕ) → 2 ≤ z → 2 * i ≤ z → t < 5 → 2 * i ≤ reflect z (2 * i + t) + 2
unfolding reflect
reduce_from z i t hz hi ht = omega arith

pub reduce_upto : (z i t : ℕ) → 2 ≤ z → 2 * i ≤ z → t < 5 → reflect z (2 * i + t) ≤ 2 * i + 2
unfolding reflect
reduce_upto z i t hz hi ht = omega arith

pub expand_inside : (z i t : ℕ) → 1 ≤ z → i ≤ 2 * z + 1 → t < 5 → reflect z (halved i t) ≤ z
expand_inside z i t hz hi ht = reflect_most z (halved i t) (omega arith) (omega arith)

-- `round_div` meets document 01's rule of rounding. Assumes nothing.
use Rattle.std.specs.Prelude.{◌≡◌, refl, ℕ, zero, suc, ◌+◌, ◌*◌, ◌<◌, ℤ, pos, negsuc, ◌+ℤ◌, ◌*ℤ◌, ◌≤ℤ◌, ◌<ℤ◌}
use Rattle.std.proofs.Common.{div-add-mod', mod-lt, lt_of_mul-lt-mul_right, le_of_suc-le-suc, arith}
use Rattle.std.specs.Int.Signed.{shr_z}
use Rattle.mathematics.proofs.Integers.{ints, all₂, all₃}
use Rattle.quantizer.specs.Definitions.Rounding.{round_div, Rounded}

-- 2qD ≤ 2S + D < 2(q + 1)D
pub record Between (S : ℤ) (D : ℕ) (q : ℤ) : Type 0 where
  pub low : (pos 2 *ℤ q *ℤ pos D) ≤ℤ (pos 2 *ℤ S +ℤ pos D)
  pub high : (pos 2 *ℤ S +ℤ pos D) <ℤ (pos 2 *ℤ (q +ℤ pos 1) *ℤ pos D)

-- ---- `shr_z` rounds down

pub floor_low : (z : ℤ) (d : ℕ) → 0 < d → (shr_z z d *ℤ pos d) ≤ℤ z
floor_low (pos a) d h = simp ints (omega (arith, div-add-mod' a d))
floor_low (negsuc a) d h = simp ints (omega (arith, div-add-mod' a d, mod-lt a h))

pub floor_high : (z : ℤ) (d : ℕ) → 0 < d → z <ℤ (shr_z z d *ℤ pos d +ℤ pos d)
floor_high (pos a) d h = simp ints (omega (arith, div-add-mod' a d, mod-lt a h))
floor_high (negsuc a) d h = simp ints (omega (arith, div-add-mod' a d, mod-lt a h))

low_of : (D : ℕ) (S q : ℤ) → (q *ℤ pos (2 * D)) ≤ℤ (pos 2 *ℤ S +ℤ pos D) → (pos 2 *ℤ q *ℤ pos D) ≤ℤ (pos 2 *ℤ S +ℤ pos D)
low_of D = all₂ _ (λ p n q m. simp ints (omega arith))

high_of : (D : ℕ) (S q : ℤ) → (pos 2 *ℤ S +ℤ pos D) <ℤ (q *ℤ pos (2 * D) +ℤ pos (2 * D)) → (pos 2 *ℤ S +ℤ pos D) <ℤ (pos 2 *ℤ (q +ℤ pos 1) *ℤ pos D)
high_of D = all₂ _ (λ p n q m. simp ints (omega arith))

pub round_between : (S : ℤ) (D : ℕ) → 0 < D → Between S D (round_div S D)
unfolding round_div
round_between S zero h = absurd (omega arith)
round_between S (suc d) h =
    record {
      low = low_of (suc d) S (round_div S (suc d)) (floor_low _ (2 * suc d) (omega arith));
      high = high_of (suc d) S (round_div S (suc d)) (floor_high _ (2 * suc d) (omega arith));
    }

-- ---- the largest

-- a factor is cancelled
below : (d : ℕ) (x y : ℤ) → (x *ℤ pos d) <ℤ ((y +ℤ pos 1) *ℤ pos d) → x ≤ℤ y
below d = all₂ _ (λ p n q m. simp ints (λ h. le_of_suc-le-suc (lt_of_mul-lt-mul_right d {m = p + m} {n = suc (q + n)} (omega arith))))

meet : (D : ℕ) (S k q : ℤ) → (pos 2 *ℤ k *ℤ pos D) ≤ℤ (pos 2 *ℤ S +ℤ pos D) → (pos 2 *ℤ S +ℤ pos D) <ℤ (pos 2 *ℤ (q +ℤ pos 1) *ℤ pos D)
    → (k *ℤ pos (2 * D)) <ℤ ((q +ℤ pos 1) *ℤ pos (2 * D))
meet D = all₃ _ (λ p n q m r s. simp ints (omega arith))

pub rounded_of : {S : ℤ} {D : ℕ} {q : ℤ} → Between S D q → Rounded S D q
rounded_of {S} {D} {q} b =
    record {
      not_above = record { holds = b.low };
      largest = λ k n. below (2 * D) k q (meet D S k q n.holds b.high);
    }

-- the rule: for a divisor that is not 0, `round_div` is the largest whole number not above S/D + 1/2
pub round_rule : (S : ℤ) (D : ℕ) → 0 < D → Rounded S D (round_div S D)
round_rule S D h = rounded_of (round_between S D h)

pub round_zero : (S : ℤ) → round_div S 0 ≡ pos 0
unfolding round_div
round_zero S = refl

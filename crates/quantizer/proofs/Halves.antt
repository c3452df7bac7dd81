-- Rounding over four quarters: half the sum, rounded down, over half the divisor. Assumes nothing.
use mathlib.Core.Path.{◌≡◌}
use Prim.Native.Nat.{ℕ, ◌*◌, ◌/◌, ◌<◌}
use native.Mathlib.Omega.{arith}
use lib.IntN.{ℤ, pos, ◌+ℤ◌, ◌*ℤ◌}
use lib.Signed.{◌≤ℤ◌, ◌<ℤ◌, shr_z}
use Rattle.mathematics.proofs.Integers.{ints, all₃}
use Rattle.quantizer.specs.Definitions.Rounding.{round_div}
use Rattle.quantizer.specs.Definitions.Rounding.Law.{floor_low, floor_high}
use Rattle.quantizer.specs.Inner.Division.{Floor}
use Rattle.quantizer.proofs.Rounding.{floor_round}

-- s is half of x, rounded down
whole_low : (q : ℕ) (x s t : ℤ) → (s *ℤ pos 2) ≤ℤ x → (t *ℤ pos (2 * q)) ≤ℤ (s +ℤ pos q) → (t *ℤ pos (4 * q)) ≤ℤ (x +ℤ pos (4 * q / 2))
whole_low q = all₃ _ (λ p n q m r s. simp ints (omega arith))

whole_high : (q : ℕ) (x s t : ℤ) → x <ℤ (s *ℤ pos 2 +ℤ pos 2) → (s +ℤ pos q) <ℤ ((t +ℤ pos 1) *ℤ pos (2 * q)) → (x +ℤ pos (4 * q / 2)) <ℤ ((t +ℤ pos 1) *ℤ pos (4 * q))
whole_high q = all₃ _ (λ p n q m r s. simp ints (omega arith))

pub half_round : (x : ℤ) (q : ℕ) (t : ℤ) → 0 < q → Floor (shr_z x 2 +ℤ pos q) (pos (2 * q)) t → t ≡ round_div x (4 * q)
half_round x q t h f =
    let s = shr_z x 2 in
    floor_round x (4 * q) t (omega arith)
    (record { low = whole_low q x s t (floor_low x 2 (omega arith)) f.low; high = whole_high q x s t (floor_high x 2 (omega arith)) f.high })

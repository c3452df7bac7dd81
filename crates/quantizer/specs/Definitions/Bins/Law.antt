-- `bin_index` meets document 01's bin rule. Assumes nothing.
use Rattle.std.specs.Prelude.{◌≡◌, ℕ, ◌<◌, ℤ, pos, neg_ℤ, ◌+ℤ◌, ◌-ℤ◌, ◌*ℤ◌, ◌≤ℤ◌, ◌<ℤ◌}
use Rattle.std.proofs.Common.{ap, arith}
use Rattle.mathematics.proofs.Integers.{ints, all₂}
use Rattle.quantizer.specs.Definitions.Rounding.{round_div}
use Rattle.quantizer.specs.Definitions.Rounding.Law.{Between, round_between, round_zero}
use Rattle.quantizer.specs.Definitions.Bins.{bin_index, InBin}

above_of : (n : ℕ) (L q : ℤ) → (pos 2 *ℤ neg_ℤ L +ℤ pos n) <ℤ (pos 2 *ℤ (q +ℤ pos 1) *ℤ pos n) → ((pos 2 *ℤ neg_ℤ q -ℤ pos 1) *ℤ pos n) <ℤ (pos 2 *ℤ L)
above_of n = all₂ _ (λ p n q m. simp ints (omega arith))

upto_of : (n : ℕ) (L q : ℤ) → (pos 2 *ℤ q *ℤ pos n) ≤ℤ (pos 2 *ℤ neg_ℤ L +ℤ pos n) → (pos 2 *ℤ L) ≤ℤ ((pos 2 *ℤ neg_ℤ q +ℤ pos 1) *ℤ pos n)
upto_of n = all₂ _ (λ p n q m. simp ints (omega arith))

-- the rule, for a bin that is not 0
pub bin_rule : (L : ℤ) (n : ℕ) → 0 < n → InBin L n (bin_index L n)
unfolding bin_index
bin_rule L n h =
    let b : Between (neg_ℤ L) n (round_div (neg_ℤ L) n) = round_between (neg_ℤ L) n h in
    record { above = above_of n L (round_div (neg_ℤ L) n) b.high; upto = upto_of n L (round_div (neg_ℤ L) n) b.low }

pub bin-zero : (L : ℤ) → bin_index L 0 ≡ pos 0
unfolding bin_index
bin-zero L = ap neg_ℤ (round_zero (neg_ℤ L))

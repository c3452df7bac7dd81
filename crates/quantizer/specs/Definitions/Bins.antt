-- The bin rule (document 01, "Pyramid steps"): the index m of a value L at bin n is the only whole number with
-- (2m - 1)n < 2L ≤ (2m + 1)n. `bin_index` is shut: it is used by the rule `Bins.Law.bin_rule` and by the laws that follow from it.
-- Assumes nothing.
use Rattle.std.specs.Prelude.{ℕ, ℤ, pos, neg_ℤ, ◌+ℤ◌, ◌-ℤ◌, ◌*ℤ◌, ◌≤ℤ◌, ◌<ℤ◌}
use Rattle.quantizer.specs.Definitions.Rounding.{round_div}
pub mod Law

-- L/n rounded to the nearest whole number, a half down: rounding of -L, with the sign turned again. At bin 0 it is 0
pub bin_index : ℤ → ℕ → ℤ
bin_index L n = neg_ℤ (round_div (neg_ℤ L) n)

-- (2m - 1)n < 2L ≤ (2m + 1)n
pub record InBin (L : ℤ) (n : ℕ) (m : ℤ) : Type 0 where
  pub above : ((pos 2 *ℤ m -ℤ pos 1) *ℤ pos n) <ℤ (pos 2 *ℤ L)
  pub upto : (pos 2 *ℤ L) ≤ℤ ((pos 2 *ℤ m +ℤ pos 1) *ℤ pos n)

-- The bound's multiplier, 100 or 196 hundredths (document 01, "Pyramid steps"), is what EXPAND can make of a distance. Assumes nothing.
use Rattle.std.specs.Prelude.{◌≡◌, ℕ, ◌+◌, ◌*◌, ◌≤◌, max, nat_abs}
use Rattle.pyramid.specs.Definitions.Steps.{even_weight}
use Rattle.pyramid.specs.Definitions.Bound.{hundredths}

-- The sizes of the weights that EXPAND takes at column i, together. EXPAND's four is a two for each axis, and two twentieths are a tenth: a
-- distance of 1 everywhere becomes so many tenths along one axis, at most
abbrev pub sizes_at : ℕ → ℕ → ℕ
sizes_at k i =
    nat_abs (even_weight k i 0) + nat_abs (even_weight k i 1) + nat_abs (even_weight k i 2) + nat_abs (even_weight k i 3) + nat_abs (even_weight k i 4)

-- EXPAND's gain along one axis, in tenths: the larger of an even column's and of an odd one's. It is 10, or 14 for kernel 6
unfoldable pub gain : ℕ → ℕ
gain k = max (sizes_at k 0) (sizes_at k 1)

-- no column has a larger one, and the gains of both axes together are the multiplier, in hundredths
pub record Multiplier (k : ℕ) : Type 0 where
  pub most : (i : ℕ) → sizes_at k i ≤ gain k
  pub square : hundredths k ≡ gain k * gain k

abbrev pub Multipliers : Type 0
Multipliers = (k : ℕ) → 3 ≤ k → k ≤ 6 → Multiplier k

-- The bound of each level (document 01, "Pyramid steps"): half its bin and, below the top, what EXPAND makes of the bound above it. In a
-- closed loop half its bin alone (document 02, P4). Assumes nothing.
use Rattle.std.specs.Prelude.{cond, ℕ, zero, suc, ◌+◌, ◌-◌, ◌*◌, ◌/◌, eqb}
use Rattle.pyramid.specs.declared.Settings.{Settings}
use Rattle.pyramid.specs.declared.Manner.{Manner}
use Rattle.pyramid.specs.declared.Manner.TheVariants.{OpenLoop, ClosedLoop}
use Rattle.pyramid.specs.Definitions.Settings.{bin}

-- the multiplier in hundredths: 100, or 196 for kernel 6
unfoldable pub hundredths : ℕ → ℕ
hundredths k = cond (eqb k 6) 196 100

-- a distance times the multiplier, rounded up
unfoldable pub magnified : ℕ → ℕ → ℕ
magnified k e = (hundredths k * e + 99) / 100

module _ (s : Settings) where
  -- how far a value of level l may lie from its index's value: half the bin, rounded down
  unfoldable pub tolerance : ℕ → ℕ
  tolerance l = bin s l / 2

  -- the open-loop bound of level l, which has d levels above it
  unfoldable pub bound : ℕ → ℕ → ℕ
  bound zero l = tolerance l
  bound (suc d) l = magnified s.kernel (bound d (suc l)) + tolerance l

  -- the bound of level l
  unfoldable pub bound_at : Manner → ℕ → ℕ
  bound_at OpenLoop l = bound (s.depth - l) l
  bound_at ClosedLoop l = tolerance l

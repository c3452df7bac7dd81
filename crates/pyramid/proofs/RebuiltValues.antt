-- The value of an index, and rebuilt values by the level: at the top the index's value, and below it that and EXPAND of the next level up. Assumes nothing.
use mathlib.Core.Path.{◌≡◌, refl}
use Prim.Native.Nat.{ℕ, suc, ◌-◌, ◌<◌}
use native.Mathlib.Omega.{arith}
use lib.IntN.{ℤ, pos, ◌+ℤ◌, ◌*ℤ◌}
use Rattle.pyramid.specs.declared.Settings.{Settings}
use Rattle.pyramid.specs.Definitions.Settings.{bin}
use Rattle.pyramid.specs.Definitions.Sizes.{Level}
use Rattle.pyramid.specs.Definitions.Pyramid.{expanded}
use Rattle.pyramid.specs.Definitions.Rebuilding.{value_of, rebuild, rebuilt}

-- the value of an index
pub value-is : (s : Settings) (l : ℕ) (m : ℤ) → value_of s l m ≡ m *ℤ pos (bin s l)
unfolding value_of
value-is s l m = refl

module _ (s : Settings) (m : ℕ → Level) (l : ℕ) where
  pub rebuilt_top : l ≡ s.depth → (i j : ℕ) → rebuilt s m l i j ≡ value_of s l (m l i j)
  unfolding rebuild
  rebuilt_top h i j = let e : s.depth - l ≡ 0 = omega arith in rw e

  pub rebuilt_below : l < s.depth → (i j : ℕ) → rebuilt s m l i j ≡ value_of s l (m l i j) +ℤ expanded s l (rebuilt s m (suc l)) i j
  unfolding rebuild
  rebuilt_below h i j = let e : s.depth - l ≡ suc (s.depth - suc l) = omega arith in rw e

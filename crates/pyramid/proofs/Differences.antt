-- A difference at the top is the average, and below it the average less EXPAND of the next level up of the reference. Assumes nothing.
use mathlib.Core.Path.{◌≡◌}
use Prim.Native.Nat.{ℕ, suc, ◌<◌}
use native.Mathlib.Omega.{arith}
use borrow.Author.Tests.{eq-eqb, ne_eqb}
use lib.IntN.{◌-ℤ◌}
use Rattle.pyramid.specs.declared.Settings.{Settings}
use Rattle.pyramid.specs.declared.Manner.{Manner}
use Rattle.pyramid.specs.Definitions.Sizes.{Level}
use Rattle.pyramid.specs.Definitions.Pyramid.{expanded}
use Rattle.pyramid.specs.Definitions.Manners.{reference, difference}

module _ (s : Settings) (manner : Manner) (g : ℕ → Level) (l : ℕ) where
  pub difference_top : l ≡ s.depth → (i j : ℕ) → difference s manner g l i j ≡ g l i j
  unfolding difference
  difference_top h i j = rw (eq-eqb l s.depth h)

  pub difference_below : l < s.depth → (i j : ℕ) → difference s manner g l i j ≡ g l i j -ℤ expanded s l (reference s manner g (suc l)) i j
  unfolding difference
  difference_below h i j = rw (ne_eqb l s.depth (λ e. omega arith))

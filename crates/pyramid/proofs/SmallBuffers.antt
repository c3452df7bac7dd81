-- Buffers whose values all lie within a bound: tables and rasters. Assumes nothing.
use mathlib.Core.List.{List}
use Prim.Native.Nat.{ℕ, ◌<◌}
use native.Mathlib.Omega.{arith}
use lib.IntN.{ℤ, pos}
use lib.ListN.{length, get_or}
use Rattle.mathematics.specs.Definitions.Tables.{tabulate}
use Rattle.mathematics.proofs.Each.{each_inside, each_tabulate}
use Rattle.pyramid.specs.Definitions.Sizes.{Level}
use Rattle.pyramid.specs.Definitions.Buffers.{raster}
use Rattle.pyramid.specs.Inner.Rows.{Within, Small}
use Rattle.pyramid.proofs.Buffers.{length-raster, raster_at, by_place}

module _ {e : ℕ} where
  zero_within : Within e (pos 0)
  zero_within = record { small = omega arith }

  -- inside by the elements, past the end by the default
  pub by_length : (l : List ℤ) → ((p : ℕ) → p < length l → Within e (get_or l p (pos 0))) → Small e l
  by_length = each_inside (Within e) (pos 0) zero_within

  pub small-tabulate : (n : ℕ) (f : ℕ → ℤ) → ((i : ℕ) → i < n → Within e (f i)) → Small e (tabulate n f)
  small-tabulate = each_tabulate (Within e) (pos 0) zero_within

  pub small-raster : (columns rows : ℕ) (f : Level) → 0 < columns → ((i j : ℕ) → i < columns → j < rows → Within e (f i j)) → Small e (raster columns rows f)
  small-raster columns rows f h g =
      by_length (raster columns rows f) (λ p k. by_place columns rows (λ p. Within e (get_or (raster columns rows f) p (pos 0))) h
      (λ i j hi hj. rw (raster_at columns rows f (pos 0) i j hi hj) (g i j hi hj)) p (omega (arith, length-raster columns rows f)))

-- The averages g of a picture, and the index of a value (document 01, "Pyramid steps"). Assumes nothing.
use Rattle.std.specs.Prelude.{ℕ, zero, suc, ℤ}
use Rattle.quantizer.specs.Definitions.Bins.{bin_index}
use Rattle.pyramid.specs.declared.Settings.{Settings}
use Rattle.pyramid.specs.Definitions.Settings.{bin}
use Rattle.pyramid.specs.Definitions.Sizes.{Level, last}
use Rattle.pyramid.specs.Definitions.Steps.{reduce, expand}

module _ (s : Settings) where
  -- REDUCE of level l, and EXPAND of the level above l
  abbrev pub reduced : ℕ → Level → Level
  reduced l = reduce s.kernel (last s.columns l) (last s.rows l)

  abbrev pub expanded : ℕ → Level → Level
  expanded l = expand s.kernel (last s.columns (suc l)) (last s.rows (suc l))

  -- the index of a value of level l
  unfoldable pub index_of : ℕ → ℤ → ℤ
  index_of l x = bin_index x (bin s l)

  -- g0 is the picture; each next g is REDUCE of the last
  unfoldable pub average : Level → ℕ → Level
  average p zero = p
  average p (suc l) = reduced l (average p l)

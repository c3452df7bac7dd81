-- The lowest and the highest index: a faster way to the test of all. Assumes nothing.
use Rattle.std.specs.Prelude.{Bool, ◌&&◌, ℕ, ℤ}
use Rattle.std.specs.Int.{int_min, int_max}
use Rattle.quantizer.specs.declared.testing.Range.{Range}
use Rattle.quantizer.specs.Definitions.Values.{value_ok}

-- the range with one index more
unfoldable pub widened : Range → ℤ → Range
widened range index = record { low = int_min range.low index; high = int_max range.high index }

-- the values of both ends lie within the limit
unfoldable pub range_ok : (limit n : ℕ) → Range → Bool
range_ok limit n range = value_ok limit n range.low && value_ok limit n range.high

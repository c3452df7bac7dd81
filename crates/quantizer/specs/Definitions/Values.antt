-- The test of an index's value, which is m × n (document 01, "Pyramid steps"). Assumes nothing.
use Rattle.std.specs.Prelude.{Bool, List, ℕ, leb, ℤ, pos, nat_abs, ◌*ℤ◌}
use mir.Syntax.{w16}
use mir.Val.{to_z}
use Rattle.std.specs.Int.{from_le_bytes}

-- the value of index m at bin n lies within a limit of 0
unfoldable pub value_ok : (limit n : ℕ) → ℤ → Bool
value_ok limit n m = leb (nat_abs (m *ℤ pos n)) limit

-- the index that two bytes hold, low byte first, in two's complement
unfoldable pub pair_index : List ℕ → ℤ
pair_index pair = to_z w16 (from_le_bytes w16 pair)

-- How many places are lent. Assumes nothing.
use Rattle.std.specs.Prelude.{ℕ, ◌+◌, ◌-◌, min}
use Rattle.test_support.specs.declared.rooms.Room.{Room}
use Rattle.test_support.specs.declared.rooms.Room.TheVariants.{Exact, Longer, Shorter}

-- for a size, with so many places more where there are more
abbrev pub places : Room → (size more : ℕ) → ℕ
places Exact size more = size
places Longer size more = min (size + more) 18446744073709551615
places Shorter size more = size - 1

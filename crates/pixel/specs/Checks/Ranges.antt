-- A range going up, in the other words that document 02's may be said in: column (row) x of the level above is in it exactly where 2x lies between
-- a - 2 and b + 2, and x in the level. And ranges by hand. Assumes nothing.
use Rattle.std.specs.Prelude.{◌≡◌, ◌↔◌, ℕ, ◌+◌, ◌*◌, ◌≤◌, T}
use Rattle.pixel.specs.Definitions.Windows.{Range, above, range_at, inside}

abbrev pub EachColumn : Type 0
EachColumn = (z : ℕ) (r : Range) (x : ℕ) → T (inside (above z r) x) ↔ ((r.first ≤ 2 * x + 2) × (2 * x ≤ r.last + 2) × (x ≤ z))

abbrev pub from : ℕ → ℕ → Range
from first last = record { first = first; last = last }

pub record WorkedRanges : Type 0 where
  -- the column in the middle of 129: 62/2 to 66/2, 29/2 rounded up to 35/2 rounded down, and so on; at level 6, -1/2 rounded up to 5/2 rounded down
  pub middle : (range_at 129 64 0 ≡ from 64 64) × (range_at 129 64 1 ≡ from 31 33) × (range_at 129 64 2 ≡ from 15 17) × (range_at 129 64 3 ≡ from 7 9)
      × (range_at 129 64 4 ≡ from 3 5) × (range_at 129 64 5 ≡ from 1 3) × (range_at 129 64 6 ≡ from 0 2)
  -- one that has four columns from level 2 on
  pub four : (range_at 129 62 1 ≡ from 30 32) × (range_at 129 62 2 ≡ from 14 17) × (range_at 129 62 3 ≡ from 6 9) × (range_at 129 62 4 ≡ from 2 5)
  -- an odd column; the first and the last, where the range is kept inside the level
  pub odd : range_at 129 63 1 ≡ from 31 32
  pub first : (range_at 129 0 1 ≡ from 0 1) × (range_at 129 0 6 ≡ from 0 1)
  pub last : (range_at 129 128 1 ≡ from 63 64) × (range_at 129 128 6 ≡ from 1 2)

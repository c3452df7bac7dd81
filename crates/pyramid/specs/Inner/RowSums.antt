-- The row sums that the column pass is handed, of five rows at a time, for the contracts of functions inside this crate. Assumes nothing.
use Rattle.std.specs.Prelude.{◌≡◌, List, ℕ, ◌+◌, ◌*◌, ◌/◌, ◌%◌, ◌≤◌, ◌<◌, ℤ, length}
use Rattle.pyramid.specs.Definitions.Sizes.{Level}
use Rattle.pyramid.specs.Definitions.Passes.{row_pass}
use Rattle.pyramid.specs.Inner.Rows.{as_level, Small}

-- a buffer of five rows of n sums, read as the sums of all rows: those of row y stand in row y % 5 of the buffer
unfoldable pub in_turn : ℕ → List ℤ → Level
in_turn n sums i y = as_level n sums i (y % 5)

-- such a buffer holds the sums of the last five rows before row `next`, of a level g whose last column is z
pub record LastSums (k z : ℕ) (g : Level) (next : ℕ) (sums : List ℤ) : Type 0 where
  pub long : length sums ≡ 5 * (z / 2 + 1)
  pub small : Small 98304 sums
  pub held : (i y : ℕ) → i < z / 2 + 1 → y < next → next ≤ y + 5 → in_turn (z / 2 + 1) sums i y ≡ row_pass k z g i y

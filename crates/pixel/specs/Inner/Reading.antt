-- What is known of windows once they were read, from the top down, for the contracts of functions inside this crate. Assumes nothing.
use Rattle.std.specs.Prelude.{◌≡◌, List, ℕ, zero, suc, ◌+◌, ◌-◌, ◌*◌, ◌/◌, ◌^◌, ◌≤◌, T, ℤ, nat_abs, ◌+ℤ◌}
use Rattle.pyramid.specs.declared.Settings.{Settings}
use Rattle.pyramid.specs.Definitions.Sizes.{Level}
use Rattle.pyramid.specs.Definitions.Rebuilding.{value_of, rebuilt}
use Rattle.pyramid.specs.Definitions.Buffers.{start, read_levels}
use Rattle.pyramid.specs.Definitions.Refusals.{limit}
use Rattle.pyramid.specs.Inner.Ranges.{height}
use Rattle.pyramid.specs.Inner.Rows.{as_level, Within, Small}
use Rattle.pixel.specs.Definitions.Windows.{in_window, nodes_read}

-- how far from 0 a prediction can lie, with d levels above
unfoldable pub predicted_height : ℕ → ℕ
predicted_height zero = 0
predicted_height (suc d) = (196 * height d + 99) / 100

module _ (s : Settings) (column row : ℕ) where
  -- where node (i, j) of level l stands in its block
  unfoldable pub entry : ℕ → List ℤ → Level
  entry l values i j = as_level 4 values (i + 1 - (column + 1) / 2 ^ l) (j + 1 - (row + 1) / 2 ^ l)

  module _ (levels : List ℤ) where
    -- the indices in the windows of levels l to N are lawful: their values lie within the limit
    abbrev pub LawfulFrom : ℕ → Type 0
    LawfulFrom l = (k i j : ℕ) → l ≤ k → k ≤ s.depth → T (in_window s column row k i j) → nat_abs (value_of s k (read_levels s levels k i j)) ≤ limit

    -- the windows above level l were read: so many indices, up to the place where level l starts; the window just above it is in the block
    pub record Above (l read place : ℕ) (values : List ℤ) : Type 0 where
      pub place_is : place ≡ start s l
      pub lawful : LawfulFrom (suc l)
      pub counted : read + nodes_read s column row l ≡ nodes_read s column row s.depth
      pub small : suc l ≤ s.depth → Small (height (s.depth - suc l)) values
      pub is : suc l ≤ s.depth → (i j : ℕ) → T (in_window s column row (suc l) i j) → entry (suc l) values i j ≡ rebuilt s (read_levels s levels) (suc l) i j

    -- what the window of level l is predicted to be: with the indices' values it is what is rebuilt
    pub record Predicted (l : ℕ) (values : List ℤ) : Type 0 where
      pub small : Small (predicted_height (s.depth - l)) values
      pub is : (i j : ℕ) → T (in_window s column row l i j) → value_of s l (read_levels s levels l i j) +ℤ entry l values i j ≡ rebuilt s (read_levels s levels) l i j

    -- the same of the pixel alone
    pub record PixelPredicted (value : ℤ) : Type 0 where
      pub small : Within (predicted_height s.depth) value
      pub is : value_of s 0 (read_levels s levels 0 column row) +ℤ value ≡ rebuilt s (read_levels s levels) 0 column row

-- The windows of a pixel (document 02, P6): the columns and rows of each level that its rebuilding reads. Assumes nothing.
use Rattle.std.specs.Prelude.{Bool, ◌&&◌, ℕ, zero, suc, ◌+◌, ◌-◌, ◌*◌, ◌/◌, leb, min}
use Rattle.pyramid.specs.declared.Settings.{Settings}
use Rattle.pyramid.specs.Definitions.Sizes.{last}

-- columns, or rows, from a first to a last one, both among them
pub record Range : Type 0 where
  pub first : ℕ
  pub last : ℕ

-- Going up along one axis, from a to b becomes (a - 2)/2 rounded up to (b + 2)/2 rounded down, kept inside a level whose last column (row) is z.
-- Where a - 2 is negative it is 0 here: a natural number less a larger one
unfoldable pub above : ℕ → Range → Range
above z r = record { first = (r.first - 2 + 1) / 2; last = min ((r.last + 2) / 2) z }

-- of a picture of so many columns (rows): at level 0 the column (row) p of the pixel, and going up
unfoldable pub range_at : (side p : ℕ) → ℕ → Range
range_at side p zero = record { first = p; last = p }
range_at side p (suc l) = above (last side (suc l)) (range_at side p l)

-- x is in the range
unfoldable pub inside : Range → ℕ → Bool
inside r x = leb r.first x && leb x r.last

-- how many there are
unfoldable pub count : Range → ℕ
count r = suc r.last - r.first

module _ (s : Settings) (column row : ℕ) where
  -- the columns and rows of the window at level l
  abbrev pub columns_read : ℕ → Range
  columns_read = range_at s.columns column

  abbrev pub rows_read : ℕ → Range
  rows_read = range_at s.rows row

  -- node (i, j) of level l is in the window
  unfoldable pub in_window : ℕ → ℕ → ℕ → Bool
  in_window l i j = inside (columns_read l) i && inside (rows_read l) j

  -- the nodes in the window of level l, and in those of levels 0 to n together
  abbrev pub window_nodes : ℕ → ℕ
  window_nodes l = count (rows_read l) * count (columns_read l)

  unfoldable pub nodes_read : ℕ → ℕ
  nodes_read zero = window_nodes 0
  nodes_read (suc n) = window_nodes (suc n) + nodes_read n

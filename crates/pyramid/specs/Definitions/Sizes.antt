-- The sizes of the levels, and T (document 01, "Settings"). Assumes nothing.
use Rattle.std.specs.Prelude.{ℕ, zero, suc, ◌+◌, ◌-◌, ◌*◌, ◌/◌, ◌^◌, ℤ}
use Rattle.pyramid.specs.declared.Settings.{Settings}

-- a level is a function of column and row
abbrev pub Level : Type 0
Level = ℕ → ℕ → ℤ

-- the last column (row) of level l of a picture with so many columns (rows)
unfoldable pub last : ℕ → ℕ → ℕ
last side l = (side - 1) / 2 ^ l

module _ (s : Settings) where
  -- level l has (C - 1)/2^l + 1 columns and (R - 1)/2^l + 1 rows
  abbrev pub columns_at : ℕ → ℕ
  columns_at l = last s.columns l + 1

  abbrev pub rows_at : ℕ → ℕ
  rows_at l = last s.rows l + 1

  abbrev pub nodes_at : ℕ → ℕ
  nodes_at l = rows_at l * columns_at l

  -- the nodes of levels 0 to n together
  unfoldable pub nodes_to : ℕ → ℕ
  nodes_to zero = nodes_at 0
  nodes_to (suc n) = nodes_at (suc n) + nodes_to n

  -- T, the number of nodes of levels 0 to N together
  unfoldable pub total : ℕ
  total = nodes_to s.depth

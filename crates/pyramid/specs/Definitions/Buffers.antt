-- The order of the buffers (document 01, "Buffers"): a picture and a level row after row; level N first, level 0 last. Assumes nothing.
use Rattle.std.specs.Prelude.{List, [], ◌++◌, ℕ, zero, suc, ◌+◌, ◌-◌, ◌*◌, ◌<◌, ℤ, pos, get_or}
use Rattle.mathematics.specs.Definitions.Tables.{tabulate}
use Rattle.pyramid.specs.declared.Settings.{Settings}
use Rattle.pyramid.specs.Definitions.Sizes.{Level, columns_at, rows_at, nodes_to, total}

-- the values f i j of columns i and rows j, row after row
unfoldable pub raster : {A : Type 0} → ℕ → ℕ → (ℕ → ℕ → A) → List A
raster columns zero f = []
raster columns (suc j) f = raster columns j f ++ tabulate columns (λ i. f i j)

-- the picture is bytes, 0 to 255
abbrev pub Bytes : List ℕ → Type 0
Bytes picture = (p : ℕ) → get_or picture p 0 < 256

-- a picture of so many columns, read as level 0
unfoldable pub pixels : ℕ → List ℕ → Level
pixels columns picture i j = pos (get_or picture (j * columns + i) 0)

module _ (s : Settings) where
  abbrev pub level_raster : (ℕ → Level) → ℕ → List ℤ
  level_raster f l = raster (columns_at s l) (rows_at s l) (f l)

  -- levels n to 0, level n first
  unfoldable pub stack : (ℕ → Level) → ℕ → List ℤ
  stack f zero = level_raster f 0
  stack f (suc n) = level_raster f (suc n) ++ stack f n

  -- levels N to 0
  abbrev pub all_levels : (ℕ → Level) → List ℤ
  all_levels f = stack f s.depth

  -- where level l begins in a buffer of all levels: level l and those below it end at T
  unfoldable pub start : ℕ → ℕ
  start l = total s - nodes_to s l

  -- a buffer of all levels, read as levels
  unfoldable pub read_levels : List ℤ → ℕ → Level
  read_levels buffer l i j = get_or buffer (start l + (j * columns_at s l + i)) (pos 0)

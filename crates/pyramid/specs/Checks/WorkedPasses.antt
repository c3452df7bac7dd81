-- The passes by hand, so that each is pinned for itself: row sums of document 01's pieces, and the averages that come of them. Assumes nothing.
use Rattle.std.specs.Prelude.{◌≡◌, List, [], ◌∷◌, ◌+◌, ◌*◌, ℤ, pos, get_or}
use Rattle.pyramid.specs.Definitions.Buffers.{raster, pixels}
use Rattle.pyramid.specs.Definitions.Passes.{row_pass, column_pass}
use Rattle.pyramid.specs.Definitions.Sizes.{Level}
use Rattle.pyramid.specs.Checks.WorkedPieces.{picture_a, corner}

-- rows of two sums: of row 0 they are 12 × 0 + 5 × 510 - 510 and, at the last column, 12 × 255 + 5 × 510 - 0
abbrev pub corner_sums : List ℤ
corner_sums = pos 2040 ∷ pos 5610 ∷ pos 5100 ∷ pos 5100 ∷ pos 5100 ∷ pos 5100 ∷ []

-- read as a level of two columns
abbrev pub summed : Level
summed i j = get_or corner_sums (j * 2 + i) (pos 0)

pub record WorkedPasses : Type 0 where
  -- piece A, kernel 4: only row 1 has a pixel, 5 × (100 + 100) twice
  pub rows_a : raster 2 3 (row_pass 4 2 (pixels 3 picture_a)) ≡ pos 0 ∷ pos 0 ∷ pos 1000 ∷ pos 1000 ∷ pos 0 ∷ pos 0 ∷ []
  -- all 255 but (0, 0), kernel 6
  pub rows_corner : raster 2 3 (row_pass 6 2 (pixels 3 corner)) ≡ corner_sums
  pub columns_corner : raster 2 2 (column_pass 6 2 summed) ≡ pos 163 ∷ pos 270 ∷ pos 270 ∷ pos 252 ∷ []

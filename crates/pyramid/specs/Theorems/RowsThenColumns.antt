-- The row pass and then the column pass are REDUCE (document 02, P3): for any kernel, any last column and row, any level and each node.
-- Assumes nothing.
use Rattle.std.specs.Prelude.{◌≡◌, ℕ}
use Rattle.pyramid.specs.Definitions.Sizes.{Level}
use Rattle.pyramid.specs.Definitions.Steps.{reduce}
use Rattle.pyramid.specs.Definitions.Passes.{row_pass, column_pass}

abbrev pub RowsThenColumns : Type 0
RowsThenColumns = (k zc zr : ℕ) (g : Level) (i j : ℕ) → column_pass k zr (row_pass k zc g) i j ≡ reduce k zc zr g i j

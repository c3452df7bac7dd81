-- The edge (document 01, "Pyramid steps"): column -1 is column 1, -2 is 2; past the last column z, z + 1 is z - 1 and z + 2 is z - 2.
-- Rows alike. Assumes nothing.
use Rattle.std.specs.Prelude.{◌≡◌, ℕ, ◌+◌, ◌*◌, ◌≤◌, min}
use Rattle.mathematics.specs.Definitions.Distances.{distance}

-- The column that place p reads. Place p stands for column p - 2, so that no place is negative. Before column 0 that is column c, its
-- distance from 0. Past z it is z - (c - z), which is 2z - c, or c - 2z where that lies before column 0 again; it is then below c
unfoldable pub reflect : ℕ → ℕ → ℕ
reflect z p = min (distance p 2) (distance (2 * z) (distance p 2))

-- document 01's sentence, of the column f p that place p reads: columns 0 to z are themselves; column -1 is column 1, and -2 is 2;
-- z + 1 is z - 1, and z + 2 is z - 2
pub record EdgeRule (z : ℕ) (f : ℕ → ℕ) : Type 0 where
  pub inside : (column : ℕ) → column ≤ z → f (column + 2) ≡ column
  pub before : (f 1 ≡ f 3) × (f 0 ≡ f 4)
  pub past : (f (z + 3) ≡ f (z + 1)) × (f (z + 4) ≡ f z)

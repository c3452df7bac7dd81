-- Demand 3, as one statement about a first picture and any list of generations. Assumes nothing.
use Rattle.std.specs.Prelude.{◌≡◌, List, [], ◌∷◌, ℕ, ◌≤◌, ◌<◌, nat_abs, ◌-ℤ◌, length, get_or}
use Rattle.mathematics.specs.Definitions.Distances.{distance}
use Rattle.pyramid.specs.Definitions.Sizes.{columns_at, rows_at}
use Rattle.pyramid.specs.Definitions.Pyramid.{average}
use Rattle.pyramid.specs.Definitions.Bound.{bound_at}
use Rattle.pyramid.specs.Definitions.Buffers.{pixels, read_levels}
use Rattle.pyramid.specs.Definitions.Generations.{Generation, rebuilt_from, outcome, left_by, at_hand, bound_sum}

-- node by node, at every level: the rebuilt values that the generation's rebuilding leaves in the work buffer lie within that level's bound
-- of the averages of the picture that it coded
abbrev pub LevelsWithin : List ℕ → Generation → Type 0
LevelsWithin picture g =
    (l i j : ℕ) → l ≤ g.settings.depth → i < columns_at g.settings l → j < rows_at g.settings l
    → nat_abs (read_levels g.settings (rebuilt_from picture g).work l i j -ℤ average g.settings (pixels g.settings.columns picture) l i j)
    ≤ bound_at g.settings g.manner l

-- so it is in each accepted generation of the list
abbrev pub EachAccepted : List ℕ → List Generation → Type 0
EachAccepted picture [] = Unit {0}
EachAccepted picture (g ∷ later) = (outcome picture g ≡ 0 → LevelsWithin picture g) × EachAccepted (left_by picture g) later

pub record Accuracy (picture : List ℕ) (list : List Generation) : Type 0 where
  -- the picture at hand has the pixels of the first picture, each moved by the sum of the bounds at most
  pub size : length (at_hand picture list) ≡ length picture
  pub moved : (p : ℕ) → distance (get_or (at_hand picture list) p 0) (get_or picture p 0) ≤ bound_sum picture list
  pub levels : EachAccepted picture list

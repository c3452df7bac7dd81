-- Averages and differences of a legal picture stay within ±4,096, and so do the values of their indices (document 01, "Pyramid steps"), and
-- the same in a closed loop, with the rebuilt values (document 02, P4). Assumes nothing.
use Rattle.std.specs.Prelude.{◌≡◌, List, ℕ, ◌≤◌, ◌<◌, ℤ, nat_abs}
use Rattle.pyramid.specs.declared.Settings.{Settings}
use Rattle.pyramid.specs.declared.Manner.{Manner}
use Rattle.pyramid.specs.Definitions.Sizes.{columns_at, rows_at}
use Rattle.pyramid.specs.Definitions.Pyramid.{average}
use Rattle.pyramid.specs.Definitions.Rebuilding.{value_of}
use Rattle.pyramid.specs.Definitions.Manners.{reference, difference, index}
use Rattle.pyramid.specs.Definitions.Buffers.{pixels}
use Rattle.pyramid.specs.Definitions.Refusals.{limit, coding_refusal}

-- at a node of level l of averages g: what is within so much of 0
pub record WithinLimit (s : Settings) (manner : Manner) (g : ℕ → ℕ → ℕ → ℤ) (l i j : ℕ) : Type 0 where
  pub average : nat_abs (g l i j) ≤ limit
  pub reference : nat_abs (reference s manner g l i j) ≤ limit
  pub difference : nat_abs (difference s manner g l i j) ≤ limit
  pub value : nat_abs (value_of s l (index s manner g l i j)) ≤ limit

-- a picture is legal where coding accepts it; at each node of each level of its pyramid
abbrev pub Ranges : Type 0
Ranges =
    (s : Settings) (manner : Manner) (picture : List ℕ) (levels work : List ℤ) → coding_refusal s picture levels work ≡ 0
    → (l i j : ℕ) → l ≤ s.depth → i < columns_at s l → j < rows_at s l → WithinLimit s manner (average s (pixels s.columns picture)) l i j

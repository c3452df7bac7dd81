-- Rebuilt values row by row and level by level, from the top down. Assumes nothing.
use mathlib.Core.Path.{◌≡◌, ap, ◌∙◌, subst}
use mathlib.Core.List.{List}
use Prim.Native.Nat.{ℕ, zero, suc, ◌+◌, ◌-◌, ◌≤◌, ◌<◌}
use native.Mathlib.Omega.{arith}
use lib.IntN.{ℤ, pos, ◌+ℤ◌, +ℤ_idr}
use lib.ListN.{length, get_or}
use Rattle.mathematics.specs.Inner.Splices.{splice}
use Rattle.pyramid.specs.declared.Settings.{Settings}
use Rattle.pyramid.specs.Definitions.Settings.{bin}
use Rattle.pyramid.specs.Inner.Lawful.{Lawful}
use Rattle.pyramid.specs.Definitions.Sizes.{Level, columns_at, rows_at, nodes_at, total}
use Rattle.pyramid.specs.Definitions.Rebuilding.{value_of, rebuild, rebuilt}
use Rattle.pyramid.specs.Definitions.Buffers.{level_raster, all_levels, start, read_levels}
use Rattle.pyramid.specs.Inner.Ranges.{EachNode, RebuildingRanges}
use Rattle.pyramid.specs.Inner.Rows.{ValuesWithin}
use Rattle.pyramid.specs.Inner.Layers.{predicted, value_at, ValueLevel}
use Rattle.pyramid.proofs.MadeRows.{Made}
use Rattle.pyramid.proofs.LevelParts.{start-next, level_inside}
use Rattle.pyramid.proofs.LevelPlaces.{topped, length_topped, topped_first, topped_done, read_topped, topped_last}
use Rattle.pyramid.proofs.PredictedRows.{predicted-same, row_of, length_row, row_node}

-- ---- row by row: j rows of level l are there, from the level's place on

abbrev pub Values : Settings → ℕ → (levels w here₀ here : List ℤ) → ℕ → Type 0
Values s l levels w here₀ here j = Made s l (λ m e. value_of s l m +ℤ e) (read_levels s levels l) (read_levels s w) 0 here₀ here j

module _ {s : Settings} {l : ℕ} {levels w : List ℤ} (v : ValueLevel s l levels w) where
  pub value_room : start s l + nodes_at s l ≤ length w
  value_room = omega (arith, v.worked, level_inside s l v.deep)

  -- the indices of row j
  module _ {j : ℕ} (turn : j < rows_at s l) where
    length_indices : length (row_of s l j levels) ≡ columns_at s l
    length_indices = length_row s l j v.deep turn levels (omega (arith, v.filled))

    pub index_node : (i : ℕ) → i < columns_at s l → get_or (row_of s l j levels) i (pos 0) ≡ read_levels s levels l i j
    index_node = row_node s l j v.deep turn levels (omega (arith, v.filled))

    pub values_within : ValuesWithin (row_of s l j levels) (bin s l)
    unfolding value_of
    values_within = record {
      at = λ i h. let hi : i < columns_at s l = omega (arith, length_indices) in record { small = rw (index_node i hi) (v.values i j hi turn) };
    }

-- ---- level by level, from the top down

abbrev values : Settings → List ℤ → ℕ → Level
values s levels = rebuilt s (read_levels s levels)

-- what rebuilding asks of its buffers
pub record Rebuildable (s : Settings) (levels w : List ℤ) : Type 0 where
  pub law : Lawful s
  pub filled : length levels ≡ total s
  pub long : total s ≤ length w
  pub ranges : RebuildingRanges s (read_levels s levels)

-- w became `work`, with values of the levels in the first e places
pub record Rebuilding (s : Settings) (levels w work : List ℤ) (e : ℕ) : Type 0 where
  pub is : work ≡ topped s (values s levels) w e

-- a level's values and its prediction from the rebuilt level above it
rebuilt_from_lem : (s : Settings) (m : ℕ → Level) (d l : ℕ) → l + d ≡ s.depth → (i j : ℕ) → value_of s l (m l i j) +ℤ predicted s d l (rebuilt s m) i j ≡ rebuild s m d l i j
unfolding predicted rebuild
rebuilt_from_lem s m zero l e i j = +ℤ_idr (value_of s l (m l i j))
rebuilt_from_lem s m (suc d) l e i j = let k : s.depth - suc l ≡ d = omega arith in rw k

module _ {s : Settings} {levels w : List ℤ} (g : Rebuildable s levels w) where
  pub rebuilding-first : Rebuilding s levels w w (start s s.depth)
  rebuilding-first = record { is = topped_first s (values s levels) w g.long }

  module _ (l : ℕ) (deep : l ≤ s.depth) {work : List ℤ} where
    -- level l is made from those above it
    module _ (r : Rebuilding s levels w work (start s l)) where
      read_above : suc l ≤ s.depth → EachNode s (suc l) (λ i j. read_levels s work (suc l) i j ≡ values s levels (suc l) i j)
      read_above h i j hi hj = rw r.is (read_topped s (values s levels) w g.long l i j h hi hj)

      pub level_ready : ValueLevel s l levels work
      level_ready = record {
        deep = deep;
        worked = omega (arith, g.long, ap length r.is ∙ length_topped s (values s levels) w g.long (start s l) (omega (arith, level_inside s l deep)));
        filled = g.filled;
        above = record { small = λ h i j hi hj. rw (read_above h i j hi hj) (g.ranges.rebuilt_values (suc l) h i j hi hj) };
        values = g.ranges.values l deep;
      }

      pub level_done : {work' : List ℤ} → work' ≡ splice (start s l) (level_raster s (value_at s (read_levels s levels) (read_levels s work)) l) work
          → Rebuilding s levels w work' (start s l + nodes_at s l)
      unfolding value_at
      level_done e = record {
        is = topped_done s (values s levels) w g.long l deep (value_at s (read_levels s levels) (read_levels s work))
            (λ i j hi hj. rw (predicted-same s g.law l deep (read_levels s work) (values s levels) read_above i j hi hj) (rebuilt_from_lem s (read_levels s levels) (s.depth - l) l (omega arith) i j))
            r.is e;
      }

    -- with it
    module _ (r : Rebuilding s levels w work (start s l + nodes_at s l)) where
      pub rebuilding-next : 0 < l → Rebuilding s levels w work (start s (l - 1))
      rebuilding-next h = subst (Rebuilding s levels w work) (start-next s l h deep) r

      pub rebuilding-last : l ≤ 0 → work ≡ splice 0 (all_levels s (values s levels)) w
      rebuilding-last h = r.is ∙ topped_last s (values s levels) w g.long l h

-- REDUCE and EXPAND from one level of a buffer to another. Assumes nothing.
use mathlib.Core.Path.{◌≡◌, sym, subst, ◌∙◌}
use mathlib.Core.List.{List}
use Prim.Native.Nat.{ℕ, suc, ◌+◌, ◌-◌, ◌*◌, ◌/◌, ◌≤◌, ◌<◌}
use native.Mathlib.Omega.{arith}
use lib.IntN.{ℤ, pos}
use lib.ListN.{length}
use Rattle.mathematics.specs.Inner.Splices.{part}
use Rattle.mathematics.proofs.Distance.{Near, near_same, same_near}
use Rattle.pyramid.specs.declared.Settings.{Settings}
use Rattle.pyramid.specs.Inner.Lawful.{Kernel, Lawful}
use Rattle.pyramid.specs.Definitions.Sizes.{Level, last, columns_at, rows_at, nodes_at}
use Rattle.pyramid.specs.Definitions.Steps.{reduce, expand}
use Rattle.pyramid.specs.Definitions.Pyramid.{reduced, expanded}
use Rattle.pyramid.specs.Definitions.Bound.{magnified}
use Rattle.pyramid.specs.Definitions.Buffers.{raster, level_raster, start, read_levels}
use Rattle.pyramid.specs.Definitions.Refusals.{limit}
use Rattle.pyramid.specs.Inner.Rows.{as_level, Small, halved_nodes, Reducible}
use Rattle.pyramid.specs.Inner.Ranges.{EachNode}
use Rattle.pyramid.specs.Inner.Layers.{LevelSmall}
use Rattle.pyramid.proofs.Sizes.{last-suc, last_most, last_least, last_even}
use Rattle.pyramid.proofs.Steps.{near_reduce, near_expand}
use Rattle.pyramid.proofs.Buffers.{raster_at, raster-same}
use Rattle.pyramid.proofs.SmallBuffers.{small-raster}
use Rattle.pyramid.proofs.LevelParts.{length_there, level_there}

-- ---- steps of levels that agree where the steps read

abbrev Same : (zc zr : ℕ) → Level → Level → Type 0
Same zc zr u v = (i j : ℕ) → i ≤ zc → j ≤ zr → u i j ≡ v i j

pub reduce-same : {k : ℕ} → Kernel k → (zc zr : ℕ) (u v : Level) → Same zc zr u v → 2 ≤ zc → 2 ≤ zr → Same (zc / 2) (zr / 2) (reduce k zc zr u) (reduce k zc zr v)
reduce-same h zc zr u v same hc hr i j hi hj = near_same (near_reduce h zc zr 0 u v (λ i j hi hj. same_near (same i j hi hj)) hc hr i j hi hj)

none_magnified : (k : ℕ) → magnified k 0 ≡ 0
unfolding magnified
none_magnified k = omega arith

pub expand-same : {k : ℕ} → Kernel k → (zc zr : ℕ) (u v : Level) → Same zc zr u v → 1 ≤ zc → 1 ≤ zr → Same (2 * zc + 1) (2 * zr + 1) (expand k zc zr u) (expand k zc zr v)
expand-same {k} h zc zr u v same hc hr i j hi hj =
    near_same (subst (λ (e : ℕ). Near e (expand k zc zr u i j) (expand k zc zr v i j)) (none_magnified k)
    (near_expand h zc zr 0 u v (λ i j hi hj. same_near (same i j hi hj)) hc hr i j hi hj))

-- a level that has one above it has at least three columns and rows
module _ (s : Settings) (law : Lawful s) (l : ℕ) (h : l < s.depth) where
  pub level_wide : 2 ≤ last s.columns l
  level_wide = omega (arith, last-suc s.columns l, last_least law.shaped.across (suc l) h)

  pub level_high : 2 ≤ last s.rows l
  level_high = omega (arith, last-suc s.rows l, last_least law.shaped.along (suc l) h)

  -- steps of levels that agree at the nodes
  module _ (u v : Level) where
    pub reduced-same : EachNode s l (λ i j. u i j ≡ v i j) → EachNode s (suc l) (λ i j. reduced s l u i j ≡ reduced s l v i j)
    reduced-same same i j hi hj =
        reduce-same law.shaped.kernel (last s.columns l) (last s.rows l) u v (λ i j hi hj. same i j (omega arith) (omega arith)) level_wide level_high i j
        (omega (arith, last-suc s.columns l)) (omega (arith, last-suc s.rows l))

    pub expanded-same : EachNode s (suc l) (λ i j. u i j ≡ v i j) → EachNode s l (λ i j. expanded s l u i j ≡ expanded s l v i j)
    expanded-same same i j hi hj =
        expand-same law.shaped.kernel (last s.columns (suc l)) (last s.rows (suc l)) u v (λ i j hi hj. same i j (omega arith) (omega arith))
        (last_least law.shaped.across (suc l) h) (last_least law.shaped.along (suc l) h) i j (omega (arith, last-suc s.columns l)) (omega (arith, last-suc s.rows l))

-- ---- a level of a buffer

-- a buffer that holds a level of so many columns and rows, whose values lie within e of 0
pub record Source (e columns rows : ℕ) (buffer : List ℤ) : Type 0 where
  pub wide : (2 ≤ columns) × (columns ≤ 129)
  pub high : (2 ≤ rows) × (rows ≤ 129)
  pub filled : length buffer ≡ rows * columns
  pub small : Small e buffer

module _ (s : Settings) (law : Lawful s) (buffer : List ℤ) where
  -- a part of the buffer, read as a level
  part-is : (l i j : ℕ) → start s l + nodes_at s l ≤ length buffer → i < columns_at s l → j < rows_at s l
      → as_level (columns_at s l) (part (start s l) (start s l + nodes_at s l) buffer) i j ≡ read_levels s buffer l i j
  unfolding as_level
  part-is l i j h hi hj = rw (level_there s buffer l h) (raster_at (columns_at s l) (rows_at s l) (read_levels s buffer l) (pos 0) i j hi hj)

  part_small : (l e : ℕ) → l ≤ s.depth → start s l + nodes_at s l ≤ length buffer → LevelSmall s l e buffer → Small e (part (start s l) (start s l + nodes_at s l) buffer)
  part_small l e h room f =
      subst (Small e) (sym (level_there s buffer l room))
      (small-raster (columns_at s l) (rows_at s l) (read_levels s buffer l) (omega arith) (λ i j hi hj. record { small = f.small h i j hi hj }))

  -- ---- REDUCE of level l

  module _ (l : ℕ) (h : l < s.depth) (room : start s l + nodes_at s l ≤ length buffer) where
    -- the size of the next level, as the code halves it
    half_wide : (columns_at s l - 1) / 2 + 1 ≡ columns_at s (suc l)
    half_wide = omega (arith, last-suc s.columns l)

    half_high : (rows_at s l - 1) / 2 + 1 ≡ rows_at s (suc l)
    half_high = omega (arith, last-suc s.rows l)

    next_nodes : halved_nodes (columns_at s l) (rows_at s l) ≡ nodes_at s (suc l)
    next_nodes = rw (half_wide, half_high)

    pub reducible : LevelSmall s l limit buffer → {nodes : ℕ} → nodes ≡ nodes_at s (suc l)
        → Reducible (columns_at s l) (rows_at s l) (part (start s l) (start s l + nodes_at s l) buffer) nodes
    reducible f e = record {
      wide = omega (arith, level_wide s law l h);
      high = omega (arith, level_high s law l h);
      wide_even = omega (arith, last_even law.shaped.across l h);
      high_even = omega (arith, last_even law.shaped.along l h);
      above = e ∙ sym next_nodes;
      small = part_small l limit (omega arith) room f;
    }

    abbrev read : Level
    read = as_level (columns_at s l) (part (start s l) (start s l + nodes_at s l) buffer)

    pub reduced_is : raster ((columns_at s l - 1) / 2 + 1) ((rows_at s l - 1) / 2 + 1) (reduce s.kernel (columns_at s l - 1) (rows_at s l - 1) read)
        ≡ level_raster s (λ _. reduced s l (read_levels s buffer l)) (suc l)
    reduced_is =
        let n : (columns_at s l - 1) / 2 + 1 ≡ columns_at s (suc l) = half_wide in
        let m : (rows_at s l - 1) / 2 + 1 ≡ rows_at s (suc l) = half_high in
        let zc : columns_at s l - 1 ≡ last s.columns l = omega arith in
        let zr : rows_at s l - 1 ≡ last s.rows l = omega arith in
        let e : raster (columns_at s (suc l)) (rows_at s (suc l)) (reduced s l read) ≡ level_raster s (λ _. reduced s l (read_levels s buffer l)) (suc l) =
        raster-same (columns_at s (suc l)) (rows_at s (suc l)) (reduced s l read) (reduced s l (read_levels s buffer l))
        (reduced-same s law l h read (read_levels s buffer l) (λ i j. part-is l i j room)) in
        cc

  -- ---- EXPAND of the level above l

  module _ (l : ℕ) (h : suc l ≤ s.depth) (room : start s (suc l) + nodes_at s (suc l) ≤ length buffer) where
    pub expandable : (e : ℕ) → LevelSmall s (suc l) e buffer → Source e (columns_at s (suc l)) (rows_at s (suc l)) (part (start s (suc l)) (start s (suc l) + nodes_at s (suc l)) buffer)
    expandable e f = record {
      wide = (omega (arith, last_least law.shaped.across (suc l) h), omega (arith, last_most s.columns (suc l), law.shaped.across.most));
      high = (omega (arith, last_least law.shaped.along (suc l) h), omega (arith, last_most s.rows (suc l), law.shaped.along.most));
      filled = length_there s buffer (suc l) room;
      small = part_small (suc l) e h room f;
    }

    abbrev read_above : Level
    read_above = as_level (columns_at s (suc l)) (part (start s (suc l)) (start s (suc l) + nodes_at s (suc l)) buffer)

    -- below the top a level has twice the columns, less one
    pub twice_wide : 2 * (columns_at s (suc l) - 1) + 1 ≡ columns_at s l
    twice_wide = omega (arith, last-suc s.columns l, last_even law.shaped.across l h)

    pub twice_high : 2 * (rows_at s (suc l) - 1) + 1 ≡ rows_at s l
    twice_high = omega (arith, last-suc s.rows l, last_even law.shaped.along l h)

    pub expand_read : (i j : ℕ) → i < columns_at s l → j < rows_at s l
        → expand s.kernel (columns_at s (suc l) - 1) (rows_at s (suc l) - 1) read_above i j ≡ expanded s l (read_levels s buffer (suc l)) i j
    expand_read i j hi hj =
        let zc : columns_at s (suc l) - 1 ≡ last s.columns (suc l) = omega arith in
        let zr : rows_at s (suc l) - 1 ≡ last s.rows (suc l) = omega arith in
        let e : expanded s l read_above i j ≡ expanded s l (read_levels s buffer (suc l)) i j =
        expanded-same s law l h read_above (read_levels s buffer (suc l)) (λ i j. part-is (suc l) i j room) i j hi hj in
        cc

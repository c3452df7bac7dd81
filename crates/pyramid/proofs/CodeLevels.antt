-- Levels coded row by row and one after the other, from the top down. Assumes nothing.
use mathlib.Core.Path.{◌≡◌, refl, sym, ap, ◌∙◌, subst}
use mathlib.Core.List.{List}
use Prim.Native.Nat.{ℕ, zero, suc, ◌+◌, ◌-◌, ◌*◌, ◌≤◌, ◌<◌}
use native.Mathlib.Omega.{arith}
use lib.IntN.{ℤ, pos, ◌+ℤ◌, ◌-ℤ◌, +ℤ_idr}
use lib.ListN.{length, get_or, drop}
use lib.Seq.{drop-drop}
use Rattle.mathematics.specs.Inner.Splices.{splice, part}
use Rattle.mathematics.specs.Definitions.Tables.{tabulate}
use Rattle.mathematics.proofs.Tables.{get_or-tabulate}
use Rattle.mathematics.proofs.Splices.{splice_whole}
use Rattle.quantizer.specs.Definitions.Bins.{bin_index}
use Rattle.pyramid.specs.declared.Settings.{Settings}
use Rattle.pyramid.specs.declared.Manner.{Manner}
use Rattle.pyramid.specs.declared.Manner.TheVariants.{OpenLoop, ClosedLoop}
use Rattle.pyramid.specs.Inner.Lawful.{Lawful}
use Rattle.pyramid.specs.Definitions.Settings.{bin}
use Rattle.pyramid.specs.Definitions.Sizes.{Level, columns_at, rows_at, nodes_at, total}
use Rattle.pyramid.specs.Definitions.Pyramid.{index_of}
use Rattle.pyramid.specs.Definitions.Rebuilding.{value_of}
use Rattle.pyramid.specs.Definitions.Manners.{quantized, closed_rebuilt, reference, difference, index}
use Rattle.pyramid.specs.Definitions.Buffers.{level_raster, all_levels, start, read_levels}
use Rattle.pyramid.specs.Definitions.Refusals.{limit}
use Rattle.pyramid.specs.Inner.Ranges.{EachNode, CodingRanges}
use Rattle.pyramid.specs.Inner.Rows.{Small, kept, IndicesWithin}
use Rattle.pyramid.specs.Inner.Layers.{predicted, index_at, kept_at, CodeLevel}
use Rattle.pyramid.proofs.Rendering.{rendering_rest}
use Rattle.pyramid.proofs.Buffers.{length-all}
use Rattle.pyramid.proofs.LevelParts.{start-next, level_inside}
use Rattle.pyramid.proofs.LevelPlaces.{topped, length_topped, topped_first, topped_done, read_topped, read_under, topped_last}
use Rattle.pyramid.proofs.TapSums.{within_more}
use Rattle.pyramid.proofs.SmallBuffers.{by_length}
use Rattle.pyramid.proofs.Differences.{difference_top, difference_below}
use Rattle.pyramid.proofs.PredictedRows.{predicted-same, row_of, length_row, row_node}
use Rattle.pyramid.proofs.MadeRows.{Made}

-- ---- row by row

-- j rows of level l are there: of its indices, and of what is kept
abbrev pub Indices : Settings → ℕ → (work buffer levels : List ℤ) → ℕ → Type 0
Indices s l work buffer levels j = Made s l (λ a e. index_of s l (a -ℤ e)) (read_levels s work l) (read_levels s work) (start s l) buffer levels j

abbrev pub Kept : Settings → ℕ → Manner → (work buffer here : List ℤ) → ℕ → Type 0
Kept s l manner work buffer here j = Made s l (λ a e. kept manner a e (bin s l)) (read_levels s work l) (read_levels s work) 0 buffer here j

module _ {s : Settings} {l : ℕ} {work levels : List ℤ} (v : CodeLevel s l work levels) where
  pub code_room : start s l + nodes_at s l ≤ length work
  code_room = omega (arith, v.worked, level_inside s l v.deep)

  -- row j: its averages and its prediction
  module _ {j : ℕ} (turn : j < rows_at s l) where
    pub length_averages : length (row_of s l j work) ≡ columns_at s l
    length_averages = length_row s l j v.deep turn work v.worked

    pub average_node : (i : ℕ) → i < columns_at s l → get_or (row_of s l j work) i (pos 0) ≡ read_levels s work l i j
    average_node = row_node s l j v.deep turn work v.worked

    -- they stand in what follows the levels above until their turn
    pub averages_here : (manner : Manner) {buffer here : List ℤ} → buffer ≡ drop (start s l) work → Kept s l manner work buffer here j → nodes_at s l ≤ length buffer
        → part (j * columns_at s l) (j * columns_at s l + columns_at s l) here ≡ row_of s l j work
    averages_here manner back r room =
        let from : start s l + j * columns_at s l + columns_at s l - (start s l + j * columns_at s l) ≡ j * columns_at s l + columns_at s l - j * columns_at s l = omega arith in
        rendering_rest r (omega arith) (j * columns_at s l) (j * columns_at s l + columns_at s l) (omega arith)
        ∙ rw (back, drop-drop (j * columns_at s l) (start s l) work, from)

    pub averages_small : Small 8388608 (row_of s l j work)
    averages_small =
        by_length (row_of s l j work) (λ i h. let hi : i < columns_at s l = omega (arith, length_averages) in
        rw (average_node i hi) (within_more {e = limit} (omega arith) (record { small = v.own.small v.deep i j hi turn })))

    module _ (law : Lawful s) (before : List ℤ) {made : List ℤ} (above : suc l ≤ s.depth → EachNode s (suc l) (λ i j. read_levels s before (suc l) i j ≡ read_levels s work (suc l) i j))
        (is : made ≡ tabulate (columns_at s l) (λ i. predicted s (s.depth - l) l (read_levels s before) i j)) where
      index_node : (i : ℕ) → i < columns_at s l → bin_index (get_or (row_of s l j work) i (pos 0) -ℤ get_or made i (pos 0)) (bin s l) ≡ index_at s (read_levels s work) l i j
      unfolding index_at index_of
      index_node i hi = rw (
        average_node i hi,
        is,
        get_or-tabulate (columns_at s l) (λ i. predicted s (s.depth - l) l (read_levels s before) i j) (pos 0) i hi,
        predicted-same s law l v.deep (read_levels s before) (read_levels s work) above i j hi turn,
      )

      pub indices_within : IndicesWithin (row_of s l j work) made (bin s l)
      unfolding value_of
      indices_within = record {
        at = λ i h. let hi : i < columns_at s l = omega (arith, length_averages) in rw (index_node i hi) (record { small = v.indices i j hi turn });
        values = λ i h. let hi : i < columns_at s l = omega (arith, length_averages) in rw (index_node i hi) (record { small = v.values i j hi turn });
      }

-- ---- level by level, from the top down

-- of levels h that hold the averages g of level l and, above it, what is predicted from
module _ (s : Settings) (law : Lawful s) (manner : Manner) (g : ℕ → Level) (l : ℕ) (deep : l ≤ s.depth) (h : ℕ → Level)
    (own : EachNode s l (λ i j. h l i j ≡ g l i j)) (above : suc l ≤ s.depth → EachNode s (suc l) (λ i j. h (suc l) i j ≡ reference s manner g (suc l) i j)) where
  prediction_held : EachNode s l (λ i j. predicted s (s.depth - l) l h i j ≡ predicted s (s.depth - l) l (reference s manner g) i j)
  prediction_held = predicted-same s law l deep h (reference s manner g) above

  difference_held : (d : ℕ) → l + d ≡ s.depth → (i j : ℕ) → g l i j -ℤ predicted s d l (reference s manner g) i j ≡ difference s manner g l i j
  unfolding predicted
  difference_held zero e i j = +ℤ_idr (g l i j) ∙ sym (difference_top s manner g l (omega arith) i j)
  difference_held (suc d) e i j = sym (difference_below s manner g l (omega arith) i j)

  index_held : EachNode s l (λ i j. index_at s h l i j ≡ index s manner g l i j)
  unfolding index_at index
  index_held i j hi hj = ap (index_of s l) (rw (own i j hi hj, prediction_held i j hi hj) (difference_held (s.depth - l) (omega arith) i j))

closed_held : (s : Settings) (g : ℕ → Level) (d l : ℕ) → l + d ≡ s.depth → (i j : ℕ)
    → quantized s l (g l i j -ℤ predicted s d l (reference s ClosedLoop g) i j) +ℤ predicted s d l (reference s ClosedLoop g) i j ≡ closed_rebuilt s g d l i j
unfolding predicted closed_rebuilt reference
closed_held s g zero l e i j = +ℤ_idr _ ∙ ap (quantized s l) (+ℤ_idr (g l i j))
closed_held s g (suc d) l e i j = let k : s.depth - suc l ≡ d = omega arith in rw k refl

kept_held : (s : Settings) (law : Lawful s) (manner : Manner) (g : ℕ → Level) (l : ℕ) → l ≤ s.depth → (h : ℕ → Level) → EachNode s l (λ i j. h l i j ≡ g l i j)
    → (suc l ≤ s.depth → EachNode s (suc l) (λ i j. h (suc l) i j ≡ reference s manner g (suc l) i j))
    → EachNode s l (λ i j. kept_at s manner h l i j ≡ reference s manner g l i j)
unfolding kept_at kept reference quantized value_of index_of
kept_held s law OpenLoop g l deep h own above i j hi hj = own i j hi hj
kept_held s law ClosedLoop g l deep h own above i j hi hj =
    rw (own i j hi hj, prediction_held s law ClosedLoop g l deep h own above i j hi hj) (closed_held s g (s.depth - l) l (omega arith) i j)

-- what coding asks of its buffers
pub record Codable (s : Settings) (manner : Manner) (levels w : List ℤ) : Type 0 where
  pub law : Lawful s
  pub filled : length levels ≡ total s
  pub long : total s ≤ length w
  pub ranges : CodingRanges s manner (read_levels s w)

-- w became `work`, and `lent` became `levels`, with those of the levels in the first e places
pub record Coding (s : Settings) (manner : Manner) (lent w levels work : List ℤ) (e : ℕ) : Type 0 where
  pub work_is : work ≡ topped s (reference s manner (read_levels s w)) w e
  pub levels_is : levels ≡ topped s (index s manner (read_levels s w)) lent e

module _ {s : Settings} {manner : Manner} {lent w : List ℤ} (c : Codable s manner lent w) where
  abbrev g : ℕ → Level
  g = read_levels s w

  lent_long : total s ≤ length lent
  lent_long = omega (arith, c.filled)

  pub coding-first : Coding s manner lent w lent w (start s s.depth)
  coding-first = record { work_is = topped_first s (reference s manner g) w c.long; levels_is = topped_first s (index s manner g) lent lent_long }

  module _ (l : ℕ) (deep : l ≤ s.depth) {levels work : List ℤ} where
    -- level l is coded below those above it
    module _ (r : Coding s manner lent w levels work (start s l)) where
      own : EachNode s l (λ i j. read_levels s work l i j ≡ g l i j)
      own i j hi hj = rw r.work_is (read_under s (reference s manner g) w c.long l i j deep hi hj)

      above : suc l ≤ s.depth → EachNode s (suc l) (λ i j. read_levels s work (suc l) i j ≡ reference s manner g (suc l) i j)
      above h i j hi hj = rw r.work_is (read_topped s (reference s manner g) w c.long l i j h hi hj)

      indices : EachNode s l (λ i j. index_at s (read_levels s work) l i j ≡ index s manner g l i j)
      indices = index_held s c.law manner g l deep (read_levels s work) own above

      room : start s l ≤ total s
      room = omega (arith, level_inside s l deep)

      pub level_ready : CodeLevel s l work levels
      level_ready = record {
        deep = deep;
        worked = omega (arith, c.long, ap length r.work_is ∙ length_topped s (reference s manner g) w c.long (start s l) room);
        filled = ap length r.levels_is ∙ length_topped s (index s manner g) lent lent_long (start s l) room ∙ c.filled;
        own = record { small = λ h i j hi hj. rw (own i j hi hj) (c.ranges.averages l h i j hi hj) };
        above = record { small = λ h i j hi hj. rw (above h i j hi hj) (c.ranges.references (suc l) h i j hi hj) };
        indices = λ i j hi hj. rw (indices i j hi hj) (c.ranges.indices l deep i j hi hj);
        values = λ i j hi hj. rw (indices i j hi hj) (c.ranges.values l deep i j hi hj);
      }

      pub level_done : {levels' work' : List ℤ} → levels' ≡ splice (start s l) (level_raster s (index_at s (read_levels s work)) l) levels
          → work' ≡ splice (start s l) (level_raster s (kept_at s manner (read_levels s work)) l) work
          → Coding s manner lent w levels' work' (start s l + nodes_at s l)
      level_done e f = record {
        work_is = topped_done s (reference s manner g) w c.long l deep (kept_at s manner (read_levels s work))
            (kept_held s c.law manner g l deep (read_levels s work) own above) r.work_is f;
        levels_is = topped_done s (index s manner g) lent lent_long l deep (index_at s (read_levels s work)) indices r.levels_is e;
      }

    -- with it
    module _ (r : Coding s manner lent w levels work (start s l + nodes_at s l)) where
      pub coding-next : 0 < l → Coding s manner lent w levels work (start s (l - 1))
      coding-next h = subst (Coding s manner lent w levels work) (start-next s l h deep) r

      pub coding-last : l ≤ 0 → (levels ≡ all_levels s (index s manner g)) × (work ≡ splice 0 (all_levels s (reference s manner g)) w)
      coding-last h = (
        r.levels_is ∙ topped_last s (index s manner g) lent lent_long l h ∙ splice_whole (all_levels s (index s manner g)) lent (length-all s (index s manner g) ∙ sym c.filled),
        r.work_is ∙ topped_last s (reference s manner g) w c.long l h,
      )

-- Levels put into a buffer one after the other: upward, each right before the one below it, and from the top down. Assumes nothing.
use mathlib.Core.Path.{◌≡◌, sym, ap, ◌∙◌}
use mathlib.Core.List.{List, [], ◌++◌, append-nil}
use Prim.Native.Nat.{ℕ, suc, ◌+◌, ◌-◌, ◌*◌, ◌≤◌, ◌<◌}
use native.Mathlib.Nat.{zero-add}
use native.Mathlib.Omega.{arith}
use lib.IntN.{ℤ, pos}
use lib.ListN.{length, get_or, take, drop}
use lib.Seq.{length-take-le, take_all, take-add, get_or-take}
use Rattle.mathematics.specs.Inner.Splices.{splice, part}
use Rattle.mathematics.proofs.Splices.{length-splice, get_or-splice, get_or-part, part_after, splice_nil, splice_append, splice-part, splice_prepend, splice_front}
use Rattle.pyramid.specs.declared.Settings.{Settings}
use Rattle.pyramid.specs.Definitions.Sizes.{Level, columns_at, rows_at, nodes_at, nodes_to, total}
use Rattle.pyramid.specs.Definitions.Buffers.{level_raster, stack, all_levels, start, read_levels}
use Rattle.pyramid.specs.Definitions.Calls.{in_work}
use Rattle.pyramid.proofs.Sizes.{nodes_to_mono}
use Rattle.pyramid.proofs.LevelParts.{start_room, start_top, start-below, start_bottom, least_nodes, level_inside, level_part}
use Rattle.pyramid.proofs.Buffers.{inside, length-raster, raster-same, length-stack, length-all, stack_node, read_stack}

module _ (s : Settings) where
  -- a node of level m lies inside levels l to 0
  node_below : (l m i j : ℕ) → m ≤ l → i < columns_at s m → j < rows_at s m → nodes_to s l - nodes_to s m + (j * columns_at s m + i) < nodes_to s l
  node_below l m i j hm hi hj = omega (arith, inside {columns = columns_at s m} {rows = rows_at s m} hi hj, least_nodes s m, nodes_to_mono s m l hm)

  -- ---- levels l to 0 in their place

  unfoldable pub placed : (ℕ → Level) → List ℤ → ℕ → List ℤ
  placed f w l = splice (start s l) (stack s f l) w

  module _ (f : ℕ → Level) (w : List ℤ) (k : total s ≤ length w) where
    pub length_placed : (l : ℕ) → l ≤ s.depth → length (placed f w l) ≡ length w
    unfolding placed
    length_placed l h = length-splice (start s l) (stack s f l) w (omega (arith, length-stack s f l, start_room s l h))

    -- level 0 as it is there
    pub placed_first : ((i j : ℕ) → i < columns_at s 0 → j < rows_at s 0 → f 0 i j ≡ read_levels s w 0 i j) → w ≡ placed f w 0
    unfolding placed stack
    placed_first same =
        sym (ap (λ (xs : List ℤ). splice (start s 0) xs w)
        (raster-same (columns_at s 0) (rows_at s 0) (f 0) (read_levels s w 0) same ∙ sym (level_part s w 0 (omega arith) k))
        ∙ splice-part (start s 0) (start s 0 + nodes_at s 0) w (omega arith) (omega (arith, start_bottom s)))

    -- the level above them
    pub placed_next : (l : ℕ) → suc l ≤ s.depth → splice (start s (suc l)) (level_raster s f (suc l)) (placed f w l) ≡ placed f w (suc l)
    unfolding placed stack
    placed_next l h =
        let r : length (level_raster s f (suc l)) ≡ nodes_at s (suc l) = length-raster (columns_at s (suc l)) (rows_at s (suc l)) (f (suc l)) in
        let e : start s (suc l) + length (level_raster s f (suc l)) ≡ start s l = omega (arith, start-below s l h) in
        rw (← e) (splice_prepend (start s (suc l)) (level_raster s f (suc l)) (stack s f l) w (omega (arith, length-stack s f l, start_room s l (omega arith))))

    -- what is read is what was put there
    pub read_placed : (l m i j : ℕ) → l ≤ s.depth → m ≤ l → i < columns_at s m → j < rows_at s m → read_levels s (placed f w l) m i j ≡ f m i j
    unfolding placed read_levels
    read_placed l m i j hl hm hi hj =
        let q : ℕ = nodes_to s l - nodes_to s m + (j * columns_at s m + i) in
        let e : start s m + (j * columns_at s m + i) ≡ start s l + q = omega (arith, start_room s l hl, start_room s m (omega arith), nodes_to_mono s m l hm) in
        rw e (get_or-splice (start s l) (stack s f l) w (pos 0) q (omega (arith, start_room s l hl)) (omega (arith, length-stack s f l, node_below l m i j hm hi hj))
        ∙ rw append-nil at (stack_node s f l m i j [] hm hi hj))

    -- all of them
    pub placed_all : placed f w s.depth ≡ splice 0 (all_levels s f) w
    unfolding placed
    placed_all = rw (start_top s)

  -- ---- from the top down: the first e places are those of all levels

  module _ (f : ℕ → Level) where
    read_all : (l i j : ℕ) → l ≤ s.depth → i < columns_at s l → j < rows_at s l → read_levels s (all_levels s f) l i j ≡ f l i j
    read_all l i j h hi hj = rw append-nil at (read_stack s f l i j [] h hi hj)

    all-part : (l : ℕ) → l ≤ s.depth → part (start s l) (start s l + nodes_at s l) (all_levels s f) ≡ level_raster s f l
    all-part l h =
        level_part s (all_levels s f) l h (omega (arith, length-all s f))
        ∙ raster-same (columns_at s l) (rows_at s l) (read_levels s (all_levels s f) l) (f l) (λ i j. read_all l i j h)

    unfoldable pub topped : List ℤ → ℕ → List ℤ
    topped w e = splice 0 (take e (all_levels s f)) w

    module _ (w : List ℤ) (k : total s ≤ length w) where
      front_length : (e : ℕ) → e ≤ total s → length (take e (all_levels s f)) ≡ e
      front_length e h = length-take-le e (all_levels s f) (omega (arith, length-all s f))

      pub length_topped : (e : ℕ) → e ≤ total s → length (topped w e) ≡ length w
      unfolding topped
      length_topped e h = length-splice 0 (take e (all_levels s f)) w (omega (arith, front_length e h))

      -- none of them
      pub topped_first : w ≡ topped w (start s s.depth)
      unfolding topped
      topped_first = rw (start_top s) (sym (splice_nil 0 w))

      -- the level below them
      pub topped_next : (l : ℕ) → l ≤ s.depth → splice (start s l) (level_raster s f l) (topped w (start s l)) ≡ topped w (start s l + nodes_at s l)
      unfolding topped
      topped_next l h =
          let n : length (take (start s l) (all_levels s f)) ≡ start s l = front_length (start s l) (omega (arith, level_inside s l h)) in
          let e : start s l + nodes_at s l - start s l ≡ nodes_at s l = omega arith in
          (rw (n, zero-add) at (splice_append 0 (take (start s l) (all_levels s f)) w (omega (arith, level_inside s l h)) (level_raster s f l)))
          ∙ ap (λ (xs : List ℤ). splice 0 xs w)
          (ap (λ (xs : List ℤ). take (start s l) (all_levels s f) ++ xs) (sym (rw e at (all-part l h))) ∙ sym (take-add (start s l) (nodes_at s l) (all_levels s f)))

      -- one more level, whose nodes are those of f
      pub topped_done : (l : ℕ) → l ≤ s.depth → (h : ℕ → Level) → ((i j : ℕ) → i < columns_at s l → j < rows_at s l → h l i j ≡ f l i j) → {b b' : List ℤ}
          → b ≡ topped w (start s l) → b' ≡ splice (start s l) (level_raster s h l) b → b' ≡ topped w (start s l + nodes_at s l)
      topped_done l deep h same {b} is e =
          e
          ∙ ap (λ (xs : List ℤ). splice (start s l) xs b) (raster-same (columns_at s l) (rows_at s l) (h l) (f l) same)
          ∙ ap (splice (start s l) (level_raster s f l)) is
          ∙ topped_next l deep

      -- what is read above level l
      pub read_topped : (l i j : ℕ) → suc l ≤ s.depth → i < columns_at s (suc l) → j < rows_at s (suc l) → read_levels s (topped w (start s l)) (suc l) i j ≡ f (suc l) i j
      unfolding topped read_levels
      read_topped l i j h hi hj =
          let p : ℕ = start s (suc l) + (j * columns_at s (suc l) + i) in
          let b : p < start s l = omega (arith, start-below s l h, inside {rows = rows_at s (suc l)} hi hj) in
          (rw zero-add at (get_or-splice 0 (take (start s l) (all_levels s f)) w (pos 0) p (omega arith) (omega (arith, front_length (start s l) (omega (arith, level_inside s l (omega arith)))))))
          ∙ get_or-take (start s l) (all_levels s f) p (pos 0) b ∙ read_all (suc l) i j h hi hj

      -- what is read at level l is what was there
      pub read_under : (l i j : ℕ) → l ≤ s.depth → i < columns_at s l → j < rows_at s l → read_levels s (topped w (start s l)) l i j ≡ read_levels s w l i j
      unfolding topped read_levels
      read_under l i j h hi hj =
          let from : ℕ = start s l in
          let q : ℕ = j * columns_at s l + i in
          let fits : length (take from (all_levels s f)) ≡ from = front_length from (omega (arith, level_inside s l h)) in
          sym (get_or-part from (from + suc q) (splice 0 (take from (all_levels s f)) w) (pos 0) q (omega arith))
          ∙ ap (λ (xs : List ℤ). get_or xs q (pos 0)) (part_after 0 (take from (all_levels s f)) w (omega (arith, fits, level_inside s l h)) from (from + suc q) (omega (arith, fits)))
          ∙ get_or-part from (from + suc q) w (pos 0) q (omega arith)

      -- all of them
      pub topped_last : (l : ℕ) → l ≤ 0 → topped w (start s l + nodes_at s l) ≡ splice 0 (all_levels s f) w
      unfolding topped
      topped_last l h =
          let e : l ≡ 0 = omega arith in
          rw e (ap (λ (xs : List ℤ). splice 0 xs w) (take_all (start s 0 + nodes_at s 0) (all_levels s f) (omega (arith, length-all s f, start_bottom s))))

  pub front_all : (f : ℕ → Level) (w : List ℤ) → splice 0 (all_levels s f) w ≡ in_work s f w
  front_all f w = splice_front (all_levels s f) w ∙ rw (length-all s f)

  pub read_front : (f : ℕ → Level) (w : List ℤ) (l i j : ℕ) → l ≤ s.depth → i < columns_at s l → j < rows_at s l → read_levels s (in_work s f w) l i j ≡ f l i j
  read_front f w l i j hl hi hj = read_stack s f l i j (drop (total s) w) hl hi hj

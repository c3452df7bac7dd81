-- The averages of all levels, one level after the other. Assumes nothing.
use mathlib.Core.Path.{◌≡◌, refl, sym, ap, ◌∙◌, subst}
use mathlib.Core.List.{List, ◌++◌}
use Prim.Native.Nat.{ℕ, suc, ◌+◌, ◌-◌, ◌/◌, ◌≤◌, ◌<◌}
use native.Mathlib.Numerals.{add-one}
use native.Mathlib.Omega.{arith}
use lib.IntN.{ℤ}
use lib.ListN.{length, take, drop}
use Rattle.std.proofs.lemmas.List.{length-take-le, length-drop}
use Rattle.mathematics.specs.Inner.Splices.{splice, part}
use Rattle.pyramid.specs.declared.Settings.{Settings}
use Rattle.pyramid.specs.declared.Manner.TheVariants.{OpenLoop}
use Rattle.pyramid.specs.Inner.Lawful.{Lawful}
use Rattle.pyramid.specs.Definitions.Sizes.{Level, columns_at, rows_at, nodes_at, total}
use Rattle.pyramid.specs.Definitions.Pyramid.{reduced, average}
use Rattle.pyramid.specs.Definitions.Buffers.{raster, level_raster, all_levels, start, read_levels}
use Rattle.pyramid.specs.Definitions.Refusals.{limit}
use Rattle.pyramid.specs.Inner.Ranges.{CodingRanges}
use Rattle.pyramid.specs.Definitions.Steps.{reduce}
use Rattle.pyramid.specs.Inner.Rows.{as_level, Reducible}
use Rattle.pyramid.specs.Inner.Layers.{LevelSmall}
use Rattle.pyramid.proofs.Buffers.{raster-same, length-raster}
use Rattle.pyramid.proofs.LentParts.{lent_before}
use Rattle.pyramid.proofs.LevelParts.{start-below, level_room}
use Rattle.pyramid.proofs.LevelPlaces.{placed, length_placed, placed_first, placed_next, read_placed, placed_all}
use Rattle.pyramid.proofs.LevelSteps.{reduced-same, reducible, reduced_is}

module _ (s : Settings) (law : Lawful s) (w : List ℤ) (long : total s ≤ length w) where
  abbrev pub averages : ℕ → Level
  averages = average s (read_levels s w 0)

  -- averages of levels l to 0 are in their place
  pub record Averaged (work : List ℤ) (l : ℕ) : Type 0 where
    pub deep : l ≤ s.depth
    pub is : work ≡ placed s averages w l

  pub averaged_first : Averaged w 0
  unfolding average
  averaged_first = record { deep = omega arith; is = placed_first s averages w long (λ i j hi hj. refl) }

  module _ {work : List ℤ} {l : ℕ} (a : Averaged work l) where
    pub averaged_long : length work ≡ length w
    averaged_long = ap length a.is ∙ length_placed s averages w long l a.deep

    averaged_read : (i j : ℕ) → i < columns_at s l → j < rows_at s l → read_levels s work l i j ≡ averages l i j
    averaged_read i j hi hj = rw a.is (read_placed s averages w long l l i j a.deep (omega arith) hi hj)

    pub averaged_small : CodingRanges s OpenLoop averages → LevelSmall s l limit work
    averaged_small r = record { small = λ h i j hi hj. rw (averaged_read i j hi hj) (r.averages l h i j hi hj) }

    pub averaged_next : l < s.depth → Averaged (splice (start s (suc l)) (level_raster s (λ _. reduced s l (read_levels s work l)) (suc l)) work) (suc l)
    unfolding average
    averaged_next h =
        record {
          deep = h;
          is =
              ap (λ (xs : List ℤ). splice (start s (suc l)) xs work)
              (raster-same (columns_at s (suc l)) (rows_at s (suc l)) (reduced s l (read_levels s work l)) (averages (suc l))
              (reduced-same s law l h (read_levels s work l) (averages l) averaged_read))
              ∙ ap (λ (b : List ℤ). splice (start s (suc l)) (level_raster s averages (suc l)) b) a.is
              ∙ placed_next s averages w long l h;
        }

    -- the turn of level l, which starts at `mid`: the level above it starts at `up`
    module _ (h : l < s.depth) {mid up : ℕ} (mid_is : mid ≡ start s l) (up_is : up ≡ start s (suc l))
        {before after : List ℤ} (front : before ≡ take mid work) (back : after ≡ drop mid work) where
      room : start s l + nodes_at s l ≤ length work
      room = level_room s work l a.deep (omega (arith, averaged_long, long))

      above : start s (suc l) + nodes_at s (suc l) ≡ start s l
      above = start-below s l h

      pub turn_cut : mid ≤ length work
      turn_cut = omega (arith, room, mid_is)

      long_before : length before ≡ mid
      long_before = ap length front ∙ length-take-le mid work turn_cut

      pub turn_after : nodes_at s l ≤ length after
      turn_after = rw (ap length back ∙ length-drop mid work) (omega (arith, room, mid_is))

      pub turn_up : up ≤ length before
      turn_up = omega (arith, long_before, mid_is, up_is, above)

      long_lent : length (take (length before - up) (drop up before)) ≡ nodes_at s (suc l)
      long_lent =
          length-take-le (length before - up) (drop up before) (omega (arith, length-drop up before)) ∙ omega (arith, long_before, mid_is, up_is, above)

      values_is : take (nodes_at s l) after ≡ part (start s l) (start s l + nodes_at s l) work
      values_is = let e : start s l + nodes_at s l - start s l ≡ nodes_at s l = omega arith in rw (back, mid_is, e)

      -- what the code was given of level l
      module _ {columns rows : ℕ} {values : List ℤ} (across : columns ≡ columns_at s l) (along : rows ≡ rows_at s l) (held : values ≡ take (nodes_at s l) after) where
        pub turn_reducible : CodingRanges s OpenLoop averages → Reducible columns rows values (length (take (length before - up) (drop up before)))
        turn_reducible r = rw (across, along, held ∙ values_is) (reducible s law work l h room (averaged_small r) long_lent)

        -- what it leaves
        pub turn_next : {k : ℕ} {xs : List ℤ} → k ≡ s.kernel → xs ≡ raster ((columns - 1) / 2 + 1) ((rows - 1) / 2 + 1) (reduce k (columns - 1) (rows - 1) (as_level columns values))
            → Averaged (take up before ++ (xs ++ drop (length before - up) (drop up before)) ++ after) (l + 1)
        turn_next {xs = xs} kernel e =
            let is : xs ≡ level_raster s (λ _. reduced s l (read_levels s work l)) (suc l) = e ∙ rw (kernel, across, along, held ∙ values_is) (reduced_is s law work l h room) in
            let n : length xs ≡ nodes_at s (suc l) = ap length is ∙ length-raster _ _ _ in
            let whole : take up before ++ (xs ++ drop (length before - up) (drop up before)) ++ after ≡ splice (start s (suc l)) (level_raster s (λ _. reduced s l (read_levels s work l)) (suc l)) work =
            ap (λ (a : List ℤ). take up before ++ (xs ++ drop (length before - up) (drop up before)) ++ a) back
            ∙ lent_before up mid work xs front (omega (arith, n, mid_is, up_is, above)) turn_cut
            ∙ ap (λ (u : ℕ). splice u xs work) up_is
            ∙ ap (λ (v : List ℤ). splice (start s (suc l)) v work) is in
            subst (λ (v : List ℤ). Averaged v (l + 1)) (sym whole) (subst (Averaged (splice (start s (suc l)) (level_raster s (λ _. reduced s l (read_levels s work l)) (suc l)) work)) (sym (add-one l)) (averaged_next h))

    pub averaged_last : s.depth ≤ l → work ≡ splice 0 (all_levels s averages) w
    averaged_last h = let e : l ≡ s.depth = omega (arith, a.deep) in a.is ∙ ap (placed s averages w) e ∙ placed_all s averages w long

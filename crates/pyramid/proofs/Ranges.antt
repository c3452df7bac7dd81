-- Averages and differences of a legal picture stay within ±4,096, and so do the values of their indices; what rebuilding makes of any accepted
-- level buffer stays below 2^19; and every sum of the steps fits 32 bits. Assumes nothing.
-- A bound on the averages alone would be too weak for kernel 6: they are compared with the level that is 127 everywhere, which both steps
-- leave as it is.
use mathlib.Core.Path.{◌≡◌, subst}
use mathlib.Core.List.{List}
use Prim.Native.Nat.{ℕ, zero, suc, ◌+◌, ◌-◌, ◌*◌, ◌/◌, ◌^◌, ◌≤◌, ◌<◌}
use native.Mathlib.Omega.{arith}
use native.Mathlib.Nat.{le_trans, mul-le-mul_left, mul-le-mul_right}
use lib.Dec.{T, leb, leb→le, lit<}
use lib.IntN.{ℤ, pos, nat_abs}
use Rattle.mathematics.specs.Definitions.Tests.{all_below}
use Rattle.mathematics.proofs.Tests.{below_at}
use Rattle.mathematics.proofs.Distance.{Near, near_refl, near_more, near_trans, near_add, near_sub, near_zero, abs_near, pos_near}
use Rattle.mathematics.proofs.IntegerLaws.{abs-*ℤ}
use Rattle.pyramid.specs.declared.Settings.{Settings}
use Rattle.pyramid.specs.declared.Manner.{Manner}
use Rattle.pyramid.specs.declared.Manner.TheVariants.{OpenLoop, ClosedLoop}
use Rattle.pyramid.specs.Definitions.Settings.{bin}
use Rattle.pyramid.specs.Definitions.Sizes.{Level, last}
use Rattle.pyramid.specs.Definitions.Pyramid.{reduced, expanded, average}
use Rattle.pyramid.specs.Definitions.Weights.{weight}
use Rattle.pyramid.specs.Definitions.Edge.{reflect}
use Rattle.pyramid.specs.Definitions.Steps.{even_weight, halved}
use Rattle.pyramid.specs.Definitions.Rebuilding.{value_of, rebuild, rebuilt}
use Rattle.pyramid.specs.Definitions.Manners.{reference, difference, index}
use Rattle.pyramid.specs.Definitions.Buffers.{Bytes, pixels, read_levels}
use Rattle.pyramid.specs.Definitions.Bound.{magnified, tolerance}
use Rattle.pyramid.specs.Definitions.Refusals.{limit, values_ok}
use Rattle.pyramid.specs.Inner.Ranges.{EachNode, ReduceSums, ExpandSums, CodingRanges, RebuildingRanges, height, Fits32}
use Rattle.pyramid.specs.Inner.Lawful.{Kernel, LawfulBin, Lawful}
use Rattle.pyramid.proofs.Sizes.{last-suc, last_least}
use Rattle.pyramid.proofs.Weights.{weight-size, even_size, gain_most, hundredths_most}
use Rattle.pyramid.proofs.WeightedSums.{partial_sums}
use Rattle.pyramid.proofs.Edge.{reduce_inside, expand_inside}
use Rattle.pyramid.proofs.Buffers.{stack-all}
use Rattle.pyramid.proofs.Steps.{spread, near_reduce, reduce_constant, expand_constant}
use Rattle.pyramid.proofs.Differences.{difference_top, difference_below}
use Rattle.pyramid.proofs.Within.{NearAt, near_index, near_expanded, near_closed}
use Rattle.pyramid.proofs.LevelSteps.{level_wide, level_high}

-- ---- how far averages of level l lie from 127, and what EXPAND of a level can make of a distance

unfoldable pub spread_to : ℕ → ℕ
spread_to zero = 128
spread_to (suc l) = spread (spread_to l)

pub most_magnified : {k : ℕ} → Kernel k → (e : ℕ) → magnified k e ≤ (196 * e + 99) / 100
unfolding magnified
most_magnified h e = let m = mul-le-mul_right e (hundredths_most h) in omega arith

average_room : (l : ℕ) → l ≤ 6 → 127 + spread_to l ≤ 3968
average_room l h = leb→le (127 + spread_to l) 3968 (below_at 7 (λ l. leb (127 + spread_to l) 3968) (unfold all_below spread_to in tt) l (omega arith))

-- a level that is predicted from may lie half a bin farther, 127 at most
difference_room : (l : ℕ) → l < 6 → spread_to l + (196 * (127 + spread_to (suc l)) + 99) / 100 ≤ 3968
difference_room l h =
    leb→le _ 3968 (below_at 6 (λ l. leb (spread_to l + (196 * (127 + spread_to (suc l)) + 99) / 100) 3968) (unfold all_below spread_to in tt) l h)

pub height_room : (d : ℕ) → d ≤ 6 → height d ≤ 2 ^ 19
height_room d h = leb→le (height d) (2 ^ 19) (below_at 7 (λ d. leb (height d) (2 ^ 19)) (unfold all_below height in tt) d (omega arith))

module _ (s : Settings) (law : Lawful s) where
  -- EXPAND of a level that is near a constant
  pub near_constant : (l : ℕ) → suc l ≤ s.depth → (e : ℕ) (u : Level) (c : ℤ) → NearAt s law (suc l) e u (λ i j. c)
      → NearAt s law l ((196 * e + 99) / 100) (expanded s l u) (λ i j. c)
  near_constant l hl e u c close i j hi hj =
      near_more (most_magnified law.shaped.kernel e)
      (subst (Near (magnified s.kernel e) (expanded s l u i j)) (expand_constant law.shaped.kernel (last s.columns (suc l)) (last s.rows (suc l)) c i j)
      (near_expanded s law l hl e u (λ i j. c) close i j hi hj))

  -- ---- averages, differences and values of a legal picture

  abbrev pub Legal : Level → Type 0
  Legal p = NearAt s law 0 128 p (λ i j. pos 127)

  near_average : (p : Level) → Legal p → (l : ℕ) → l ≤ s.depth → NearAt s law l (spread_to l) (average s p l) (λ i j. pos 127)
  unfolding average spread_to
  near_average p legal zero hl i j hi hj = legal i j hi hj
  near_average p legal (suc l) hl i j hi hj =
      subst (Near (spread (spread_to l)) (reduced s l (average s p l) i j)) (reduce_constant law.shaped.kernel (last s.columns l) (last s.rows l) (pos 127) i j)
      (near_reduce law.shaped.kernel (last s.columns l) (last s.rows l) (spread_to l) (average s p l) (λ i j. pos 127) (near_average p legal l (omega arith))
      (level_wide s law l hl) (level_high s law l hl)
      i j (omega (arith, last-suc s.columns l)) (omega (arith, last-suc s.rows l)))

  -- levels as far from 127 as averages of a legal picture
  abbrev pub Averaged : (ℕ → Level) → Type 0
  Averaged g = (l : ℕ) → l ≤ s.depth → NearAt s law l (spread_to l) (g l) (λ i j. pos 127)

  module _ (manner : Manner) (g : ℕ → Level) (averaged : Averaged g) where
    small-average : (l : ℕ) → l ≤ s.depth → NearAt s law l 3968 (g l) (λ i j. pos 0)
    small-average l hl i j hi hj =
        near_more (omega (arith, average_room l (omega (arith, law.shaped.deep)))) (near_trans (averaged l hl i j hi hj) (near_zero {e = 127} (pos 127) (omega arith)))

    -- what is predicted from lies within half a bin of the average
    near_reference : (l : ℕ) → l ≤ s.depth → NearAt s law l 127 (reference s manner g l) (g l)
    unfolding reference tolerance
    near_reference = in_manner manner
      where
        in_manner : (manner : Manner) (l : ℕ) → l ≤ s.depth → NearAt s law l 127 (reference s manner g l) (g l)
        in_manner OpenLoop l hl i j hi hj = near_more (omega arith) (near_refl (g l i j))
        in_manner ClosedLoop l hl i j hi hj = near_more (omega (arith, (law.binned l hl).most)) (near_closed s law g (s.depth - l) l (omega arith) i j hi hj)

    small-reference : (l : ℕ) → l ≤ s.depth → NearAt s law l limit (reference s manner g l) (λ i j. pos 0)
    small-reference l hl i j hi hj = near_more (omega arith) (near_trans (near_reference l hl i j hi hj) (small-average l hl i j hi hj))

    small-difference : (d l : ℕ) → l + d ≡ s.depth → NearAt s law l 3968 (difference s manner g l) (λ i j. pos 0)
    small-difference zero l e i j hi hj = rw (difference_top s manner g l (omega arith) i j) (small-average l (omega arith) i j hi hj)
    small-difference (suc d) l e i j hi hj =
        rw (difference_below s manner g l (omega arith) i j)
        (near_more (difference_room l (omega (arith, law.shaped.deep)))
        (near_sub (averaged l (omega arith) i j hi hj)
        (near_constant l (omega arith) (127 + spread_to (suc l)) (reference s manner g (suc l)) (pos 127)
        (λ i j hi hj. near_trans (near_reference (suc l) (omega arith) i j hi hj) (averaged (suc l) (omega arith) i j hi hj)) i j hi hj)))

    small-value : (l : ℕ) → l ≤ s.depth → NearAt s law l limit (λ i j. value_of s l (index s manner g l i j)) (λ i j. pos 0)
    unfolding index tolerance
    small-value l hl i j hi hj =
        near_more (omega (arith, (law.binned l hl).most))
        (near_trans (near_index s l (difference s manner g l i j) (law.binned l hl)) (small-difference (s.depth - l) l (omega arith) i j hi hj))

  -- ---- rebuilt values

  module _ (m : ℕ → Level) (accepted : (l : ℕ) → l ≤ s.depth → NearAt s law l limit (λ i j. value_of s l (m l i j)) (λ i j. pos 0)) where
    near_rebuilt : (d l : ℕ) → l + d ≡ s.depth → NearAt s law l (height d) (rebuild s m d l) (λ i j. pos 0)
    unfolding height rebuild
    near_rebuilt zero l e i j hi hj = accepted l (omega arith) i j hi hj
    near_rebuilt (suc d) l e i j hi hj =
        near_add (accepted l (omega arith) i j hi hj) (near_constant l (omega arith) (height d) (rebuild s m d (suc l)) (pos 0) (near_rebuilt d (suc l) (omega arith)) i j hi hj)

  -- ---- every sum

  reduce_sums_lem : (l : ℕ) → l < s.depth → (g : Level) (e : ℕ) → NearAt s law l e g (λ i j. pos 0) → ReduceSums s l g e
  reduce_sums_lem l hl g e small i j hi hj =
      partial_sums (weight s.kernel) (weight s.kernel) (λ t. reflect (last s.columns l) (2 * i + t)) (λ t. reflect (last s.rows l) (2 * j + t)) g e
      (λ m n hm hn. abs_near (small _ _
      (reduce_inside (last s.columns l) i m (level_wide s law l hl) (omega (arith, last-suc s.columns l)) hm)
      (reduce_inside (last s.rows l) j n (level_high s law l hl) (omega (arith, last-suc s.rows l)) hn)))
      24 (weight-size law.shaped.kernel) (weight-size law.shaped.kernel)

  expand_sums_lem : (l : ℕ) → l < s.depth → (g : Level) (e : ℕ) → NearAt s law (suc l) e g (λ i j. pos 0) → ExpandSums s l g e
  expand_sums_lem l hl g e small i j hi hj =
      partial_sums (even_weight s.kernel i) (even_weight s.kernel j) (λ t. reflect (last s.columns (suc l)) (halved i t)) (λ t. reflect (last s.rows (suc l)) (halved j t)) g e
      (λ m n hm hn. abs_near (small _ _
      (expand_inside (last s.columns (suc l)) i m (last_least law.shaped.across (suc l) hl) (omega (arith, last-suc s.columns l)) hm)
      (expand_inside (last s.rows (suc l)) j n (last_least law.shaped.along (suc l) hl) (omega (arith, last-suc s.rows l)) hn)))
      14 (le_trans (even_size law.shaped.kernel i) (gain_most law.shaped.kernel)) (le_trans (even_size law.shaped.kernel j) (gain_most law.shaped.kernel))

  -- ---- of all nodes

  wider : (l : ℕ) {e : ℕ} {u : Level} → NearAt s law l e u (λ i j. pos 0) → (f : ℕ) → e ≤ f → NearAt s law l f u (λ i j. pos 0)
  wider l close f h i j hi hj = near_more h (close i j hi hj)

  each : (l : ℕ) {e : ℕ} {u : Level} → NearAt s law l e u (λ i j. pos 0) → (f : ℕ) → e ≤ f → EachNode s l (λ i j. nat_abs (u i j) ≤ f)
  each l close f h i j hi hj = le_trans (abs_near (close i j (omega arith) (omega arith))) h

  least_value : (l : ℕ) (m : ℤ) → LawfulBin (bin s l) → nat_abs m ≤ nat_abs (value_of s l m)
  unfolding value_of
  least_value l m b = rw (abs-*ℤ m (pos (bin s l))) (omega (arith, mul-le-mul_left (nat_abs m) b.least))

  -- of any levels that are as near 127 as averages are
  ranges_of : (manner : Manner) (g : ℕ → Level) → Averaged g → CodingRanges s manner g
  ranges_of manner g averaged = record {
    averages = λ l hl. each l (small-average manner g averaged l hl) limit (omega arith);
    references = λ l hl. each l (small-reference manner g averaged l hl) limit (omega arith);
    differences = λ l hl. each l (small-difference manner g averaged (s.depth - l) l (omega arith)) limit (omega arith);
    values = λ l hl. each l (small-value manner g averaged l hl) limit (omega arith);
    indices = λ l hl i j hi hj. le_trans (least_value l (index s manner g l i j) (law.binned l hl)) (each l (small-value manner g averaged l hl) limit (omega arith) i j hi hj);
    reduce_sums = λ l hl. reduce_sums_lem l hl (g l) limit (wider l (small-average manner g averaged l (omega arith)) limit (omega arith));
    expand_sums = λ l hl. expand_sums_lem l hl (reference s manner g (suc l)) limit (small-reference manner g averaged (suc l) hl);
  }

  module _ (picture : List ℕ) (bytes : Bytes picture) where
    pixels_legal : Legal (pixels s.columns picture)
    unfolding pixels
    pixels_legal i j hi hj = let h = bytes (j * s.columns + i) in pos_near (omega arith) (omega arith)

    picture_averaged : Averaged (average s (pixels s.columns picture))
    picture_averaged = near_average (pixels s.columns picture) pixels_legal

    pub coding_ranges : (manner : Manner) → CodingRanges s manner (average s (pixels s.columns picture))
    coding_ranges manner = ranges_of manner (average s (pixels s.columns picture)) picture_averaged

    -- of levels that hold its averages
    pub ranges_like : (manner : Manner) (g : ℕ → Level) → ((l : ℕ) → l ≤ s.depth → EachNode s l (λ i j. g l i j ≡ average s (pixels s.columns picture) l i j))
        → CodingRanges s manner g
    ranges_like manner g same = ranges_of manner g (λ l hl i j hi hj. rw (same l hl i j (omega arith) (omega arith)) (picture_averaged l hl i j hi hj))

  pub rebuilding_ranges : (levels : List ℤ) → T (values_ok s levels) → RebuildingRanges s (read_levels s levels)
  unfolding values_ok
  rebuilding_ranges levels t = record {
    values = λ l hl i j hi hj. leb→le _ limit (stack-all s (λ v. leb (nat_abs v) limit) v s.depth t l i j hl hi hj);
    rebuilt_values = λ l hl. each l (near_rebuilt m accepted (s.depth - l) l (omega arith)) (2 ^ 19) (height_room (s.depth - l) (omega (arith, law.shaped.deep)));
    expand_sums = λ l hl. expand_sums_lem l hl (rebuilt s m (suc l)) (2 ^ 19)
        (wider (suc l) (near_rebuilt m accepted (s.depth - suc l) (suc l) (omega arith)) (2 ^ 19) (height_room (s.depth - suc l) (omega (arith, law.shaped.deep))));
  }
    where
      m : ℕ → Level
      m = read_levels s levels

      v : ℕ → Level
      v l i j = value_of s l (m l i j)

      accepted : (l : ℕ) → l ≤ s.depth → NearAt s law l limit (v l) (λ i j. pos 0)
      accepted l hl i j hi hj = near_zero (v l i j) (leb→le _ limit (stack-all s (λ v. leb (nat_abs v) limit) v s.depth t l i j hl (omega arith) (omega arith)))

pub fits32 : Fits32
fits32 = lit< tt

-- Level 0 determines the averages of all levels at their nodes, and these their indices and what is predicted from: what a level is elsewhere
-- does not matter. Assumes nothing.
use mathlib.Core.Path.{◌≡◌, refl, ap}
use Prim.Native.Nat.{ℕ, zero, suc, ◌+◌, ◌-◌, ◌≤◌}
use native.Mathlib.Omega.{arith}
use Rattle.pyramid.specs.declared.Settings.{Settings}
use Rattle.pyramid.specs.declared.Manner.{Manner}
use Rattle.pyramid.specs.declared.Manner.TheVariants.{OpenLoop, ClosedLoop}
use Rattle.pyramid.specs.Inner.Lawful.{Lawful}
use Rattle.pyramid.specs.Definitions.Sizes.{Level}
use Rattle.pyramid.specs.Definitions.Pyramid.{index_of, average}
use Rattle.pyramid.specs.Definitions.Manners.{closed_rebuilt, reference, difference, index}
use Rattle.pyramid.specs.Inner.Ranges.{EachNode}
use Rattle.pyramid.proofs.Differences.{difference_top, difference_below}
use Rattle.pyramid.proofs.LevelSteps.{reduced-same, expanded-same}

module _ (s : Settings) (law : Lawful s) where
  pub average-same : (p q : Level) → EachNode s 0 (λ i j. p i j ≡ q i j) → (l : ℕ) → l ≤ s.depth → EachNode s l (λ i j. average s p l i j ≡ average s q l i j)
  unfolding average
  average-same p q same zero h i j hi hj = same i j hi hj
  average-same p q same (suc l) h i j hi hj =
      reduced-same s law l h (average s p l) (average s q l) (average-same p q same l (omega arith)) i j hi hj

  -- levels that agree at their nodes
  module _ (g h : ℕ → Level) (same : (l : ℕ) → l ≤ s.depth → EachNode s l (λ i j. g l i j ≡ h l i j)) where
    closed-same : (d l : ℕ) → l + d ≡ s.depth → EachNode s l (λ i j. closed_rebuilt s g d l i j ≡ closed_rebuilt s h d l i j)
    unfolding closed_rebuilt
    closed-same zero l e i j hi hj = rw (same l (omega arith) i j hi hj) refl
    closed-same (suc d) l e i j hi hj =
        let above = expanded-same s law l (omega arith) (closed_rebuilt s g d (suc l)) (closed_rebuilt s h d (suc l)) (closed-same d (suc l) (omega arith)) i j hi hj in
        rw (same l (omega arith) i j hi hj, above) refl

    pub reference-same : (manner : Manner) (l : ℕ) → l ≤ s.depth → EachNode s l (λ i j. reference s manner g l i j ≡ reference s manner h l i j)
    unfolding reference
    reference-same OpenLoop l deep = same l deep
    reference-same ClosedLoop l deep = closed-same (s.depth - l) l (omega arith)

    difference-same : (manner : Manner) (d l : ℕ) → l + d ≡ s.depth → EachNode s l (λ i j. difference s manner g l i j ≡ difference s manner h l i j)
    difference-same manner zero l e i j hi hj =
        rw (difference_top s manner g l (omega arith) i j, difference_top s manner h l (omega arith) i j) (same l (omega arith) i j hi hj)
    difference-same manner (suc d) l e i j hi hj =
        let above = expanded-same s law l (omega arith) (reference s manner g (suc l)) (reference s manner h (suc l)) (reference-same manner (suc l) (omega arith)) i j hi hj in
        rw (difference_below s manner g l (omega arith) i j, difference_below s manner h l (omega arith) i j, same l (omega arith) i j hi hj, above) refl

    pub index-same : (manner : Manner) (l : ℕ) → l ≤ s.depth → EachNode s l (λ i j. index s manner g l i j ≡ index s manner h l i j)
    unfolding index
    index-same manner l deep i j hi hj = ap (index_of s l) (difference-same manner (s.depth - l) l (omega arith) i j hi hj)

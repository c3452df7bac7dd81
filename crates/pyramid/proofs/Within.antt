-- Rebuilt values lie within each level's bound of the averages, open-loop; what the closed loop rebuilds, within half its own bin.
-- Assumes nothing.
use mathlib.Core.Path.{◌≡◌, subst}
use Prim.Native.Nat.{ℕ, zero, suc, ◌+◌, ◌≤◌}
use native.Mathlib.Omega.{arith}
use lib.IntN.{ℤ, ◌+ℤ◌, ◌-ℤ◌, -ℤ-+ℤ_cancel}
use Rattle.mathematics.proofs.Distance.{Near, near_refl, near_more, near_add}
use Rattle.quantizer.proofs.Bins.{bin_near}
use Rattle.pyramid.specs.declared.Settings.{Settings}
use Rattle.pyramid.specs.declared.Manner.TheVariants.{OpenLoop}
use Rattle.pyramid.specs.Definitions.Settings.{bin}
use Rattle.pyramid.specs.Definitions.Sizes.{Level, last}
use Rattle.pyramid.specs.Definitions.Pyramid.{expanded, index_of}
use Rattle.pyramid.specs.Definitions.Rebuilding.{value_of, rebuild}
use Rattle.pyramid.specs.Definitions.Manners.{quantized, closed_rebuilt, reference, difference, index}
use Rattle.pyramid.specs.Definitions.Bound.{magnified, tolerance, bound}
use Rattle.pyramid.specs.Inner.Lawful.{LawfulBin, Lawful}
use Rattle.pyramid.proofs.Sizes.{last-suc, last_least}
use Rattle.pyramid.proofs.Steps.{NearLevel, near_expand}
use Rattle.pyramid.proofs.Differences.{difference_top, difference_below}

-- a value of a level lies within the level's tolerance of its index's value
pub near_index : (s : Settings) (l : ℕ) (x : ℤ) → LawfulBin (bin s l) → Near (tolerance s l) (value_of s l (index_of s l x)) x
unfolding tolerance value_of index_of
near_index s l x b = bin_near x (bin s l) b.least

module _ (s : Settings) (law : Lawful s) where
  -- at the nodes of level l
  abbrev pub NearAt : ℕ → ℕ → Level → Level → Type 0
  NearAt l e u v = NearLevel e (last s.columns l) (last s.rows l) u v

  -- EXPAND of two levels that have a level below them
  pub near_expanded : (l : ℕ) → suc l ≤ s.depth → (e : ℕ) (u v : Level) → NearAt (suc l) e u v → NearAt l (magnified s.kernel e) (expanded s l u) (expanded s l v)
  near_expanded l hl e u v close i j hi hj =
      near_expand law.shaped.kernel (last s.columns (suc l)) (last s.rows (suc l)) e u v close (last_least law.shaped.across (suc l) hl) (last_least law.shaped.along (suc l) hl)
      i j (omega (arith, last-suc s.columns l)) (omega (arith, last-suc s.rows l))

  -- whatever is taken off before and added after
  near_quantized : (l : ℕ) → l ≤ s.depth → (x e : ℤ) → Near (tolerance s l) (quantized s l (x -ℤ e) +ℤ e) x
  unfolding quantized
  near_quantized l h x e =
      near_more (omega arith)
      (subst (Near (tolerance s l + 0) (quantized s l (x -ℤ e) +ℤ e)) (-ℤ-+ℤ_cancel x e) (near_add (near_index s l (x -ℤ e) (law.binned l h)) (near_refl e)))

  -- what the closed loop rebuilds while it codes
  pub near_closed : (g : ℕ → Level) (d l : ℕ) → l + d ≡ s.depth → NearAt l (tolerance s l) (closed_rebuilt s g d l) (g l)
  unfolding closed_rebuilt quantized
  near_closed g zero l e i j hi hj = near_index s l (g l i j) (law.binned l (omega arith))
  near_closed g (suc d) l e i j hi hj = near_quantized l (omega arith) (g l i j) _

  module _ (g : ℕ → Level) (m : ℕ → Level) (indices : (l : ℕ) → l ≤ s.depth → (i j : ℕ) → i ≤ last s.columns l → j ≤ last s.rows l → m l i j ≡ index s OpenLoop g l i j) where
    near_values : (l : ℕ) → l ≤ s.depth → NearAt l (tolerance s l) (λ i j. value_of s l (m l i j)) (difference s OpenLoop g l)
    unfolding index
    near_values l h i j hi hj = rw (indices l h i j hi hj) (near_index s l (difference s OpenLoop g l i j) (law.binned l h))

    pub within : (d l : ℕ) → l + d ≡ s.depth → NearAt l (bound s d l) (rebuild s m d l) (g l)
    unfolding bound rebuild reference
    within zero l e i j hi hj = subst (Near (tolerance s l) (value_of s l (m l i j))) (difference_top s OpenLoop g l (omega arith) i j) (near_values l (omega arith) i j hi hj)
    within (suc d) l e i j hi hj =
        let own : Near (tolerance s l) (value_of s l (m l i j)) (g l i j -ℤ expanded s l (g (suc l)) i j) =
        subst (Near (tolerance s l) (value_of s l (m l i j))) (difference_below s OpenLoop g l (omega arith) i j) (near_values l (omega arith) i j hi hj) in
        near_more (omega arith)
        (subst (Near (tolerance s l + magnified s.kernel (bound s d (suc l))) (rebuild s m (suc d) l i j))
        (-ℤ-+ℤ_cancel (g l i j) (expanded s l (g (suc l)) i j))
        (near_add own
        (near_expanded l (omega arith) (bound s d (suc l)) (rebuild s m d (suc l)) (g (suc l)) (within d (suc l) (omega arith)) i j hi hj)))

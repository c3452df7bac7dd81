-- Levels in buffers, for the contracts of functions inside this crate: what a level is predicted to be from the one above it, and what its
-- indices and rebuilt values are then. Assumes nothing.
use Rattle.std.specs.Prelude.{◌≡◌, List, ℕ, zero, suc, ◌-◌, ◌≤◌, ℤ, pos, nat_abs, ◌+ℤ◌, ◌-ℤ◌, length}
use Rattle.pyramid.specs.declared.Settings.{Settings}
use Rattle.pyramid.specs.declared.Manner.{Manner}
use Rattle.pyramid.specs.Definitions.Settings.{bin}
use Rattle.pyramid.specs.Definitions.Sizes.{Level, total}
use Rattle.pyramid.specs.Definitions.Pyramid.{expanded, index_of}
use Rattle.pyramid.specs.Definitions.Rebuilding.{value_of}
use Rattle.pyramid.specs.Definitions.Buffers.{read_levels}
use Rattle.pyramid.specs.Definitions.Refusals.{limit}
use Rattle.pyramid.specs.Inner.Ranges.{EachNode}
use Rattle.pyramid.specs.Inner.Rows.{kept}

module _ (s : Settings) where
  -- level l, which has d levels above it, as EXPAND of the level above it predicts it; 0 at the top
  unfoldable pub predicted : ℕ → ℕ → (ℕ → Level) → Level
  predicted zero l g i j = pos 0
  predicted (suc d) l g i j = expanded s l (g (suc l)) i j

  -- the indices of a level's averages less the prediction, and what stands in the place of the averages once they are coded
  unfoldable pub index_at : (ℕ → Level) → ℕ → Level
  index_at g l i j = index_of s l (g l i j -ℤ predicted (s.depth - l) l g i j)

  unfoldable pub kept_at : Manner → (ℕ → Level) → ℕ → Level
  kept_at manner g l i j = kept manner (g l i j) (predicted (s.depth - l) l g i j) (bin s l)

  -- an index's value with the prediction
  unfoldable pub value_at : (ℕ → Level) → (ℕ → Level) → ℕ → Level
  value_at m r l i j = value_of s l (m l i j) +ℤ predicted (s.depth - l) l r i j

  -- where level l is one of the levels, its values in a buffer lie within e of 0
  pub record LevelSmall (l e : ℕ) (buffer : List ℤ) : Type 0 where
    pub small : l ≤ s.depth → EachNode s l (λ i j. nat_abs (read_levels s buffer l i j) ≤ e)

  -- what coding level l asks of the buffers
  pub record CodeLevel (l : ℕ) (work levels : List ℤ) : Type 0 where
    pub deep : l ≤ s.depth
    pub worked : total s ≤ length work
    pub filled : length levels ≡ total s
    pub own : LevelSmall l limit work
    pub above : LevelSmall (suc l) limit work
    pub indices : EachNode s l (λ i j. nat_abs (index_at (read_levels s work) l i j) ≤ limit)
    pub values : EachNode s l (λ i j. nat_abs (value_of s l (index_at (read_levels s work) l i j)) ≤ limit)

  -- what rebuilding level l asks of the buffers
  pub record ValueLevel (l : ℕ) (levels work : List ℤ) : Type 0 where
    pub deep : l ≤ s.depth
    pub worked : total s ≤ length work
    pub filled : length levels ≡ total s
    pub above : LevelSmall (suc l) 524288 work
    pub values : EachNode s l (λ i j. nat_abs (value_of s l (read_levels s levels l i j)) ≤ limit)

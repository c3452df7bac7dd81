-- The ranges of the numbers that coding and rebuilding make, and of every sum on the way to them: 32 bits hold them all. What functions
-- inside this crate ask of their caller. Assumes nothing.
use Rattle.std.specs.Prelude.{ℕ, zero, suc, ◌*◌, ◌+◌, ◌/◌, ◌^◌, ◌≤◌, ◌<◌, ℤ, nat_abs, ◌*ℤ◌}
use Rattle.mathematics.specs.Definitions.Sums.{sum}
use Rattle.pyramid.specs.declared.Settings.{Settings}
use Rattle.pyramid.specs.declared.Manner.{Manner}
use Rattle.pyramid.specs.Definitions.Sizes.{Level, last, columns_at, rows_at}
use Rattle.pyramid.specs.Definitions.Weights.{weight}
use Rattle.pyramid.specs.Definitions.Edge.{reflect}
use Rattle.pyramid.specs.Definitions.Steps.{even_weight, halved}
use Rattle.pyramid.specs.Definitions.Rebuilding.{value_of, rebuilt}
use Rattle.pyramid.specs.Definitions.Manners.{reference, difference, index}
use Rattle.pyramid.specs.Definitions.Refusals.{limit}

-- the part of a weighted sum that lies in one row, without that row's weight: the whole is the sum of these, each times its row's weight
abbrev pub row_sum : (ℕ → ℤ) → (ℕ → ℕ) → (ℕ → ℕ) → Level → ℕ → ℤ
row_sum a x y g n = sum 5 (λ m. a m *ℤ g (x m) (y n))

-- every partial sum of a weighted sum: along each row, and of the rows
pub record PartialSums (a b : ℕ → ℤ) (x y : ℕ → ℕ) (g : Level) (row column : ℕ) : Type 0 where
  pub rows : (m n : ℕ) → m ≤ 5 → n < 5 → nat_abs (sum m (λ t. a t *ℤ g (x t) (y n))) ≤ row
  pub columns : (n : ℕ) → n ≤ 5 → nat_abs (sum n (λ t. b t *ℤ row_sum a x y g t)) ≤ column

module _ (s : Settings) where
  -- what holds of each node of level l
  abbrev pub EachNode : ℕ → (ℕ → ℕ → Type 0) → Type 0
  EachNode l P = (i j : ℕ) → i < columns_at s l → j < rows_at s l → P i j

  -- the sums of REDUCE of level l, whose values lie within e of 0, and of EXPAND of the level above l
  abbrev pub ReduceSums : ℕ → Level → ℕ → Type 0
  ReduceSums l g e =
      EachNode (suc l) (λ i j. PartialSums (weight s.kernel) (weight s.kernel)
      (λ t. reflect (last s.columns l) (2 * i + t)) (λ t. reflect (last s.rows l) (2 * j + t)) g (24 * e) (24 * (24 * e)))

  abbrev pub ExpandSums : ℕ → Level → ℕ → Type 0
  ExpandSums l g e =
      EachNode l (λ i j. PartialSums (even_weight s.kernel i) (even_weight s.kernel j)
      (λ t. reflect (last s.columns (suc l)) (halved i t)) (λ t. reflect (last s.rows (suc l)) (halved j t)) g (14 * e) (14 * (14 * e)))

  -- of coding averages g in a manner
  pub record CodingRanges (manner : Manner) (g : ℕ → Level) : Type 0 where
    pub averages : (l : ℕ) → l ≤ s.depth → EachNode l (λ i j. nat_abs (g l i j) ≤ limit)
    pub references : (l : ℕ) → l ≤ s.depth → EachNode l (λ i j. nat_abs (reference s manner g l i j) ≤ limit)
    pub differences : (l : ℕ) → l ≤ s.depth → EachNode l (λ i j. nat_abs (difference s manner g l i j) ≤ limit)
    pub values : (l : ℕ) → l ≤ s.depth → EachNode l (λ i j. nat_abs (value_of s l (index s manner g l i j)) ≤ limit)
    pub indices : (l : ℕ) → l ≤ s.depth → EachNode l (λ i j. nat_abs (index s manner g l i j) ≤ limit)
    pub reduce_sums : (l : ℕ) → l < s.depth → ReduceSums l (g l) limit
    pub expand_sums : (l : ℕ) → l < s.depth → ExpandSums l (reference s manner g (suc l)) limit

  -- of rebuilding from indices
  pub record RebuildingRanges (m : ℕ → Level) : Type 0 where
    pub values : (l : ℕ) → l ≤ s.depth → EachNode l (λ i j. nat_abs (value_of s l (m l i j)) ≤ limit)
    pub rebuilt_values : (l : ℕ) → l ≤ s.depth → EachNode l (λ i j. nat_abs (rebuilt s m l i j) ≤ 2 ^ 19)
    pub expand_sums : (l : ℕ) → l < s.depth → ExpandSums l (rebuilt s m (suc l)) (2 ^ 19)

-- how far from 0 rebuilt values can lie, with d levels above: the limit, and what EXPAND makes of the distance above
unfoldable pub height : ℕ → ℕ
height zero = limit
height (suc d) = limit + (196 * height d + 99) / 100

-- the largest of all these, four times a weighted sum of EXPAND, fits 32 bits
abbrev pub Fits32 : Type 0
Fits32 = 4 * (14 * (14 * 2 ^ 19)) < 2 ^ 31

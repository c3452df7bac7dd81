-- The steps row by row, for the contracts of functions inside this crate: a level read from a buffer, the part of a weighted sum that lies in one
-- column, and what is put in the place of a part of a buffer. Assumes nothing.
use Rattle.std.specs.Prelude.{◌≡◌, List, ℕ, ◌+◌, ◌-◌, ◌*◌, ◌/◌, ◌%◌, ◌≤◌, ◌<◌, ℤ, pos, nat_abs, ◌+ℤ◌, ◌-ℤ◌, ◌*ℤ◌, length, get_or}
use Rattle.mathematics.specs.Definitions.Sums.{sum}
use Rattle.mathematics.specs.Inner.Splices.{part}
use Rattle.quantizer.specs.Definitions.Bins.{bin_index}
use Rattle.pyramid.specs.declared.Manner.{Manner}
use Rattle.pyramid.specs.declared.Manner.TheVariants.{OpenLoop, ClosedLoop}
use Rattle.pyramid.specs.Definitions.Edge.{reflect}
use Rattle.pyramid.specs.Definitions.Sizes.{Level}
use Rattle.pyramid.specs.Definitions.Refusals.{limit}

-- a buffer of rows of so many columns, read as a level
unfoldable pub as_level : ℕ → List ℤ → Level
as_level columns buffer i j = get_or buffer (j * columns + i) (pos 0)

-- the row that place p stands for, of a buffer of so many columns and rows
abbrev pub row_at : (columns rows p : ℕ) → List ℤ → List ℤ
row_at columns rows p buffer = part (reflect (rows - 1) p * columns) (reflect (rows - 1) p * columns + columns) buffer

-- the part of a weighted sum that lies in one column, without that column's weight
unfoldable pub column_sum : (ℕ → ℤ) → (ℕ → ℕ) → Level → ℕ → ℤ
column_sum b y g x = sum 5 (λ n. b n *ℤ g x (y n))

-- x lies within e of 0
pub record Within (e : ℕ) (x : ℤ) : Type 0 where
  pub small : nat_abs x ≤ e

-- so does every value of a buffer
abbrev pub Small : ℕ → List ℤ → Type 0
Small e buffer = (p : ℕ) → Within e (get_or buffer p (pos 0))

-- what stands in the place of an average that was coded with this bin, and predicted to be e: open-loop the average, closed-loop the value of
-- its index and e
unfoldable pub kept : Manner → (average e : ℤ) → ℕ → ℤ
kept OpenLoop average e n = average
kept ClosedLoop average e n = bin_index (average -ℤ e) n *ℤ pos n +ℤ e

-- the indices of the differences of two rows, and the values of a row's indices, lie within 4,096 of 0
pub record IndicesWithin (averages predicted : List ℤ) (bin : ℕ) : Type 0 where
  pub at : (i : ℕ) → i < length averages → Within limit (bin_index (get_or averages i (pos 0) -ℤ get_or predicted i (pos 0)) bin)
  pub values : (i : ℕ) → i < length averages → Within limit (bin_index (get_or averages i (pos 0) -ℤ get_or predicted i (pos 0)) bin *ℤ pos bin)

pub record ValuesWithin (indices : List ℤ) (bin : ℕ) : Type 0 where
  pub at : (i : ℕ) → i < length indices → Within limit (get_or indices i (pos 0) *ℤ pos bin)

-- the number of nodes of the level after one of so many columns and rows
abbrev pub halved_nodes : ℕ → ℕ → ℕ
halved_nodes columns rows = ((rows - 1) / 2 + 1) * ((columns - 1) / 2 + 1)

-- a level of so many columns and rows that is reduced to so many nodes
pub record Reducible (columns rows : ℕ) (level : List ℤ) (nodes : ℕ) : Type 0 where
  pub wide : 3 ≤ columns
  pub high : 3 ≤ rows
  pub wide_even : (columns - 1) % 2 ≡ 0
  pub high_even : (rows - 1) % 2 ≡ 0
  pub above : nodes ≡ halved_nodes columns rows
  pub small : Small limit level

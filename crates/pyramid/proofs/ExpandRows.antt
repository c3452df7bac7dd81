-- The row of sums that EXPAND forms first: its values and their sizes, and that a sum along it, over 100, is a node of EXPAND. Assumes nothing.
use mathlib.Core.Path.{◌≡◌, sym, ap, ◌∙◌}
use mathlib.Core.List.{List, map}
use Prim.Native.Nat.{ℕ, ◌+◌, ◌-◌, ◌*◌, ◌≤◌, ◌<◌}
use native.Mathlib.Nat.{le_trans}
use native.Mathlib.Omega.{arith}
use lib.IntN.{ℤ, pos, ◌*ℤ◌}
use lib.ListN.{length, get_or}
use Rattle.mathematics.specs.Definitions.Tables.{tabulate}
use Rattle.mathematics.proofs.Sums.{sum_same}
use Rattle.mathematics.proofs.Tables.{length-tabulate, get_or-tabulate, tabulate-same, map-tabulate}
use Rattle.quantizer.specs.Definitions.Rounding.{round_div}
use Rattle.quantizer.proofs.Rounding.{round_four}
use Rattle.pyramid.specs.Inner.Lawful.{Kernel}
use Rattle.pyramid.specs.Definitions.Edge.{reflect}
use Rattle.pyramid.specs.Definitions.Steps.{even_weight, halved, expand}
use Rattle.pyramid.specs.Inner.Rows.{as_level, column_sum, Small}
use Rattle.pyramid.proofs.Weights.{even_size, gain_most}
use Rattle.pyramid.proofs.WeightedSums.{weighted_columns}
use Rattle.pyramid.proofs.Edge.{expand_inside}
use Rattle.pyramid.proofs.TapSums.{within_more}
use Rattle.pyramid.proofs.SmallBuffers.{small-tabulate}
use Rattle.pyramid.proofs.ColumnSums.{column_within}
use Rattle.pyramid.proofs.ExpandTaps.{along}

-- the sums of the columns for row j of the level below
module _ (k columns rows j : ℕ) (src : List ℤ) where
  abbrev column : ℕ → ℤ
  column = column_sum (even_weight k j) (λ t. reflect (rows - 1) (halved j t)) (as_level columns src)

module _ (k columns rows j : ℕ) (src : List ℤ) {sums : List ℤ} (is : sums ≡ tabulate columns (column k columns rows j src)) where
  sums_long : length sums ≡ columns
  sums_long = ap length is ∙ length-tabulate columns (column k columns rows j src)

  pub sums_small : Kernel k → Small 524288 src → Small 8388608 sums
  sums_small h small =
      rw is
      (small-tabulate columns (column k columns rows j src) (λ x l. within_more (omega arith)
      (column_within (even_weight k j) (λ t. reflect (rows - 1) (halved j t)) columns x 14 524288 src (le_trans (even_size h j) (gain_most h)) small)))

  along_expanded : 2 ≤ columns → (i : ℕ) → i < 2 * (columns - 1) + 1 → round_div (along k (columns - 1) sums i) 100 ≡ expand k (columns - 1) (rows - 1) (as_level columns src) i j
  unfolding expand
  along_expanded wide i l =
      sym (round_four (along k (columns - 1) sums i) 100 (omega arith))
      ∙ ap (λ (z : ℤ). round_div (pos 4 *ℤ z) 400)
      (sum_same 5 _ _ (λ t ht. ap (λ (z : ℤ). even_weight k i t *ℤ z)
      (ap (λ (m : List ℤ). get_or m (reflect (columns - 1) (halved i t)) (pos 0)) is
      ∙ get_or-tabulate columns (column k columns rows j src) (pos 0) (reflect (columns - 1) (halved i t)) (omega (arith, expand_inside (columns - 1) i t (omega arith) (omega arith) ht))))
      ∙ sym (weighted_columns (even_weight k i) (even_weight k j) (λ t. reflect (columns - 1) (halved i t)) (λ t. reflect (rows - 1) (halved j t)) (as_level columns src)))

  -- the row that is made along them, with each sum rounded
  pub row_expanded : 2 ≤ columns → {row : List ℤ} → row ≡ tabulate (2 * (length sums - 1) + 1) (along k (length sums - 1) sums)
      → map (λ S. round_div S 100) row ≡ tabulate (2 * (columns - 1) + 1) (λ i. expand k (columns - 1) (rows - 1) (as_level columns src) i j)
  row_expanded wide e =
      rw (e, sums_long)
      (map-tabulate (λ S. round_div S 100) (2 * (columns - 1) + 1) (along k (columns - 1) sums) ∙ tabulate-same (2 * (columns - 1) + 1) _ _ (along_expanded wide))

-- The sums that the code forms are those of the definitions: five taps of symmetric weights, and their sizes. Assumes nothing.
use mathlib.Core.Path.{◌≡◌, sym}
use mathlib.Core.List.{List}
use Prim.Native.Nat.{ℕ, ◌+◌, ◌-◌, ◌*◌, ◌≤◌, ◌<◌}
use native.Mathlib.Nat.{le_trans, le_refl, mul-le-mul_right}
use native.Mathlib.Omega.{arith}
use lib.IntN.{ℤ, pos, ◌+ℤ◌, ◌*ℤ◌}
use lib.ListN.{get_or}
use Rattle.mathematics.specs.Definitions.Sums.{sum}
use Rattle.mathematics.proofs.Integers.{ints, all₅}
use Rattle.mathematics.proofs.IntegerLaws.{*ℤ-+ℤ}
use Rattle.mathematics.proofs.Held.{held, held_is}
use Rattle.mathematics.proofs.Splices.{get_or-part}
use Rattle.pyramid.specs.Definitions.Weights.{weight}
use Rattle.pyramid.specs.Definitions.Edge.{reflect}
use Rattle.pyramid.specs.Inner.Rows.{as_level, row_at, column_sum, Within, Small}
use Rattle.pyramid.proofs.Weights.{weight_symmetric, size}
use Rattle.pyramid.proofs.WeightedSums.{taps_small}
use Rattle.pyramid.proofs.TapSums.{within_fits}

-- ---- five taps

regroup : (a b c d e : ℤ) → pos 0 +ℤ a +ℤ b +ℤ c +ℤ d +ℤ e ≡ (a +ℤ e) +ℤ (b +ℤ d) +ℤ c
regroup = all₅ _ (λ p n q m r s t u v w. simp ints (omega arith))

-- with weights that are the same on both sides of the centre
pub five_taps : (k : ℕ) (v : ℕ → ℤ) → sum 5 (λ t. weight k t *ℤ v t) ≡ weight k 4 *ℤ (v 0 +ℤ v 4) +ℤ weight k 3 *ℤ (v 1 +ℤ v 3) +ℤ weight k 2 *ℤ v 2
unfolding sum
five_taps k v =
    rw (sym (weight_symmetric k 0 (omega arith)), sym (weight_symmetric k 1 (omega arith)), *ℤ-+ℤ (weight k 4) (v 0) (v 4), *ℤ-+ℤ (weight k 3) (v 1) (v 3))
    (regroup (weight k 4 *ℤ v 0) (weight k 3 *ℤ v 1) (weight k 2 *ℤ v 2) (weight k 3 *ℤ v 3) (weight k 4 *ℤ v 4))

-- ---- five values, as they are passed on

pub five_unheld : {a b c d e : ℤ} (k : ℕ) → Within 8388608 a → Within 8388608 b → Within 8388608 c → Within 8388608 d → Within 8388608 e
    → weight k 4 *ℤ (held a +ℤ held e) +ℤ weight k 3 *ℤ (held b +ℤ held d) +ℤ weight k 2 *ℤ held c ≡ weight k 4 *ℤ (a +ℤ e) +ℤ weight k 3 *ℤ (b +ℤ d) +ℤ weight k 2 *ℤ c
five_unheld k ha hb hc hd he =
    rw (held_is (within_fits tt ha), held_is (within_fits tt hb), held_is (within_fits tt hc), held_is (within_fits tt hd), held_is (within_fits tt he))

-- ---- a value of a row that is read

module _ (columns rows p x : ℕ) (src : List ℤ) {row : List ℤ} (is : row ≡ row_at columns rows p src) (inside : x < columns) where
  pub row_read : get_or row x (pos 0) ≡ as_level columns src x (reflect (rows - 1) p)
  unfolding as_level
  row_read = rw is (get_or-part (reflect (rows - 1) p * columns) (reflect (rows - 1) p * columns + columns) src (pos 0) x (omega arith))

-- ---- a column's sum, with weights whose sizes together are at most c
pub column_within : (b : ℕ → ℤ) (y : ℕ → ℕ) (columns x c e : ℕ) (src : List ℤ) → size b ≤ c → Small e src → Within (c * e) (column_sum b y (as_level columns src) x)
unfolding column_sum as_level
column_within b y columns x c e src h f = record {
  small =
      le_trans (taps_small b (λ n. as_level columns src x (y n)) 5 e (le_refl 5) (λ n hn. (f (y n * columns + x)).small)) (mul-le-mul_right e h);
}

-- ---- a node of five sums

module _ (k : ℕ) (sums : List ℤ) where
  abbrev sum_at : ℕ → ℤ
  sum_at p = get_or sums p (pos 0)

  pub node_formed : (y : ℕ → ℕ) {a b c d e : ℕ} → a ≡ y 0 → b ≡ y 1 → c ≡ y 2 → d ≡ y 3 → e ≡ y 4
      → weight k 4 *ℤ (sum_at a +ℤ sum_at e) +ℤ weight k 3 *ℤ (sum_at b +ℤ sum_at d) +ℤ weight k 2 *ℤ sum_at c ≡ sum 5 (λ t. weight k t *ℤ sum_at (y t))
  node_formed y ea eb ec ed ee = rw (ea, eb, ec, ed, ee) (sym (five_taps k (λ t. sum_at (y t))))

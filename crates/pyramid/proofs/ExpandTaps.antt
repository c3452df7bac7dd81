-- The taps of EXPAND as the code forms them: two or three of the five, at an even and at an odd column or row. Assumes nothing.
use mathlib.Core.Path.{◌≡◌, refl, sym, ◌∙◌}
use mathlib.Core.List.{List}
use Prim.Native.Nat.{ℕ, ◌+◌, ◌-◌, ◌/◌, ◌%◌}
use native.Mathlib.Omega.{arith}
use lib.IntN.{ℤ, pos, ◌+ℤ◌, ◌*ℤ◌}
use lib.ListN.{get_or}
use mir.Syntax.{w32}
use mir.Val.{SFits}
use Rattle.mathematics.specs.Definitions.Sums.{sum}
use Rattle.mathematics.specs.Definitions.Tables.{tabulate}
use Rattle.mathematics.proofs.Tables.{tabulate-same}
use Rattle.mathematics.proofs.Integers.{ints, all₅}
use Rattle.mathematics.proofs.IntegerLaws.{*ℤ-+ℤ}
use Rattle.mathematics.proofs.Held.{held, held_is}
use Rattle.pyramid.specs.Definitions.Weights.{weight}
use Rattle.pyramid.specs.Definitions.Edge.{reflect}
use Rattle.pyramid.specs.Definitions.Steps.{even_weight, halved}
use Rattle.pyramid.specs.Inner.Rows.{as_level, row_at, column_sum, Small}
use Rattle.pyramid.proofs.ColumnSums.{row_read}
use Rattle.pyramid.proofs.Weights.{weight_symmetric, even_parity}
use Rattle.pyramid.proofs.TapSums.{within_fits, Value}

-- ---- what `even` and `odd` make of three and of two values, and of these as they are passed

module _ (k : ℕ) where
  abbrev pub three : ℤ → ℤ → ℤ → ℤ
  three a b c = weight k 4 *ℤ (a +ℤ c) +ℤ weight k 2 *ℤ b

  abbrev pub two : ℤ → ℤ → ℤ
  two a b = weight k 3 *ℤ (a +ℤ b)

  pub three_passed : {a b c : ℤ} → Value a → Value b → Value c → three (held a) (held b) (held c) ≡ three a b c
  three_passed ha hb hc = rw (held_is (within_fits tt ha), held_is (within_fits tt hb), held_is (within_fits tt hc))

  pub two_passed : {a b : ℤ} → Value a → Value b → two (held a) (held b) ≡ two a b
  two_passed ha hb = rw (held_is (within_fits tt ha), held_is (within_fits tt hb))

-- ---- the taps that an even column takes, and those of an odd one

even_regroup : (a b c d e : ℤ) → pos 0 +ℤ a +ℤ pos 0 *ℤ b +ℤ c +ℤ pos 0 *ℤ d +ℤ e ≡ (e +ℤ a) +ℤ c
even_regroup = all₅ _ (λ p n q m r s t u v w. simp ints (omega arith))

odd_regroup : (a b c d e : ℤ) → pos 0 +ℤ pos 0 *ℤ a +ℤ b +ℤ pos 0 *ℤ c +ℤ d +ℤ pos 0 *ℤ e ≡ d +ℤ b
odd_regroup = all₅ _ (λ p n q m r s t u v w. simp ints (omega arith))

pub even_taps : (k : ℕ) (v : ℕ → ℤ) → sum 5 (λ t. even_weight k 0 t *ℤ v t) ≡ three k (v 4) (v 2) (v 0)
unfolding sum even_weight
even_taps k v =
    rw (sym (weight_symmetric k 0 (omega arith)), *ℤ-+ℤ (weight k 4) (v 4) (v 0))
    (even_regroup (weight k 4 *ℤ v 0) (v 1) (weight k 2 *ℤ v 2) (v 3) (weight k 4 *ℤ v 4))

pub odd_taps : (k : ℕ) (v : ℕ → ℤ) → sum 5 (λ t. even_weight k 1 t *ℤ v t) ≡ two k (v 3) (v 1)
unfolding sum even_weight
odd_taps k v =
    rw (sym (weight_symmetric k 1 (omega arith)), *ℤ-+ℤ (weight k 3) (v 3) (v 1))
    (odd_regroup (v 0) (weight k 3 *ℤ v 1) (v 2) (weight k 3 *ℤ v 3) (v 4))

-- at column i, of a level whose last column is z
module _ (k z i : ℕ) (v : ℕ → ℤ) where
  abbrev taken : ℤ
  taken = sum 5 (λ t. even_weight k i t *ℤ v (reflect z (halved i t)))

  pub even_formed : {p q r : ℕ} → i % 2 ≡ 0 → p ≡ reflect z (i / 2 + 1) → q ≡ reflect z (i / 2 + 2) → r ≡ reflect z (i / 2 + 3) → three k (v p) (v q) (v r) ≡ taken
  even_formed h ep eq er =
      let before : i / 2 + 1 ≡ halved i 4 = omega arith in
      let here : i / 2 + 2 ≡ halved i 2 = omega arith in
      let after : i / 2 + 3 ≡ halved i 0 = omega arith in
      rw (ep, eq, er, before, here, after, even_parity k i, h) (sym (even_taps k (λ t. v (reflect z (halved i t)))))

  pub odd_formed : {p r : ℕ} → i % 2 ≡ 1 → p ≡ reflect z (i / 2 + 2) → r ≡ reflect z (i / 2 + 3) → two k (v p) (v r) ≡ taken
  odd_formed h ep er =
      let here : i / 2 + 2 ≡ halved i 3 = omega arith in
      let after : i / 2 + 3 ≡ halved i 1 = omega arith in
      rw (ep, er, here, after, even_parity k i, h) (sym (odd_taps k (λ t. v (reflect z (halved i t)))))

-- ---- columns of three or two rows: the sums for row j

module _ (k columns rows j : ℕ) (src : List ℤ) where
  abbrev columns_made : List ℤ
  columns_made = tabulate columns (column_sum (even_weight k j) (λ t. reflect (rows - 1) (halved j t)) (as_level columns src))

  pub even_columns : j % 2 ≡ 0 → {a b c : List ℤ}
      → a ≡ row_at columns rows (j / 2 + 1) src → b ≡ row_at columns rows (j / 2 + 2) src → c ≡ row_at columns rows (j / 2 + 3) src → (n : ℕ) → n ≡ columns
      → tabulate n (λ x. three k (get_or a x (pos 0)) (get_or b x (pos 0)) (get_or c x (pos 0))) ≡ columns_made
  unfolding column_sum
  even_columns h ea eb ec n width =
      rw width
      (tabulate-same columns _ _ (λ x hx.
      rw (row_read columns rows (j / 2 + 1) x src ea hx, row_read columns rows (j / 2 + 2) x src eb hx, row_read columns rows (j / 2 + 3) x src ec hx)
      (even_formed k (rows - 1) j (as_level columns src x) h refl refl refl)))

  pub odd_columns : j % 2 ≡ 1 → {b c : List ℤ}
      → b ≡ row_at columns rows (j / 2 + 2) src → c ≡ row_at columns rows (j / 2 + 3) src → (n : ℕ) → n ≡ columns
      → tabulate n (λ x. two k (get_or b x (pos 0)) (get_or c x (pos 0))) ≡ columns_made
  unfolding column_sum
  odd_columns h eb ec n width =
      rw width
      (tabulate-same columns _ _ (λ x hx.
      rw (row_read columns rows (j / 2 + 2) x src eb hx, row_read columns rows (j / 2 + 3) x src ec hx)
      (odd_formed k (rows - 1) j (as_level columns src x) h refl refl)))

-- ---- a sum along the sums s of a level whose last column is z

module _ (k z : ℕ) (s : List ℤ) where
  abbrev pub along : ℕ → ℤ
  along i = sum 5 (λ t. even_weight k i t *ℤ get_or s (reflect z (halved i t)) (pos 0))

  abbrev value : ℕ → ℤ
  value p = get_or s p (pos 0)

  -- what `even` and `odd` return, stored
  module _ (small : Small 8388608 s) (i : ℕ) {n : ℤ} (fits : SFits w32 n) where
    pub even_sum : {p q r : ℕ} → n ≡ three k (held (value p)) (held (value q)) (held (value r)) → i % 2 ≡ 0
        → p ≡ reflect z (i / 2 + 1) → q ≡ reflect z (i / 2 + 2) → r ≡ reflect z (i / 2 + 3) → held n ≡ along i
    even_sum {p} {q} {r} e h ep eq er =
        held_is fits ∙ e ∙ three_passed k (small p) (small q) (small r) ∙ even_formed k z i value h ep eq er

    pub odd_sum : {p r : ℕ} → n ≡ two k (held (value p)) (held (value r)) → i % 2 ≡ 1 → p ≡ reflect z (i / 2 + 2) → r ≡ reflect z (i / 2 + 3) → held n ≡ along i
    odd_sum {p} {r} e h ep er = held_is fits ∙ e ∙ two_passed k (small p) (small r) ∙ odd_formed k z i value h ep er

-- What EXPAND reads: only the nodes whose column and row it takes, edges reflected. Levels that agree there are expanded to the same.
-- Assumes nothing.
use mathlib.Core.Path.{◌≡◌, ap, ◌∙◌}
use Prim.Native.Nat.{ℕ, ◌+◌, ◌%◌, ◌<◌}
use native.Mathlib.Decide.{ℕ_discrete}
use native.Mathlib.Omega.{arith}
use borrow.Author.Tests.{ne_eqb}
use lib.Dec.{lit<}
use lib.IntN.{ℤ, pos, ◌*ℤ◌}
use Rattle.mathematics.proofs.Integers.{ints, all₂, all₃}
use Rattle.mathematics.specs.Definitions.Sums.{sum}
use Rattle.mathematics.proofs.Sums.{sum_same}
use Rattle.quantizer.specs.Definitions.Rounding.{round_div}
use Rattle.quantizer.proofs.Rounding.{round_four}
use Rattle.pyramid.specs.Definitions.Sizes.{Level}
use Rattle.pyramid.proofs.WeightedSums.{weighted_rows}
use Rattle.pyramid.specs.Definitions.Edge.{reflect}
use Rattle.pyramid.specs.Definitions.Steps.{weighted_sum, even_weight, halved, expand}

-- a tap that is not taken
no_weight : (k i t : ℕ) → ((i + t) % 2 ≡ 0 → ⊥) → even_weight k i t ≡ pos 0
unfolding even_weight
no_weight k i t odd = rw (ne_eqb _ _ odd)

-- sums that agree in the taps that are taken
pub taps_same : (k i : ℕ) (u v : ℕ → ℤ) → ((t : ℕ) → t < 5 → (i + t) % 2 ≡ 0 → u t ≡ v t) → sum 5 (λ t. even_weight k i t *ℤ u t) ≡ sum 5 (λ t. even_weight k i t *ℤ v t)
taps_same k i u v same = sum_same 5 _ _ (λ t ht. each t (same t ht) (ℕ_discrete ((i + t) % 2) 0))
  where
    none : (x y : ℤ) → pos 0 *ℤ x ≡ pos 0 *ℤ y
    none = all₂ _ (λ p n q m. simp ints (omega arith))

    each : (t : ℕ) → ((i + t) % 2 ≡ 0 → u t ≡ v t) → Dec ((i + t) % 2 ≡ 0) → even_weight k i t *ℤ u t ≡ even_weight k i t *ℤ v t
    each t same (yes e) = ap (λ (z : ℤ). even_weight k i t *ℤ z) (same e)
    each t same (no odd) = rw (no_weight k i t odd) (none (u t) (v t))

no_column : (b u v : ℤ) → pos 0 *ℤ b *ℤ u ≡ pos 0 *ℤ b *ℤ v
no_column = all₃ _ (λ p n q m r s. simp ints (omega arith))

no_row : (a u v : ℤ) → a *ℤ pos 0 *ℤ u ≡ a *ℤ pos 0 *ℤ v
no_row = all₃ _ (λ p n q m r s. simp ints (omega arith))

module _ (k zc zr : ℕ) (g h : Level) (i j : ℕ) where
  -- they agree at the node of taps m and n, where both are taken
  abbrev pub Agree : ℕ → ℕ → Type 0
  Agree m n = (i + m) % 2 ≡ 0 → (j + n) % 2 ≡ 0 → g (reflect zc (halved i m)) (reflect zr (halved j n)) ≡ h (reflect zc (halved i m)) (reflect zr (halved j n))

  abbrev node : Level → ℕ → ℕ → ℤ
  node f m n = f (reflect zc (halved i m)) (reflect zr (halved j n))

  term_same : (m n : ℕ) → Agree m n → Dec ((i + m) % 2 ≡ 0) → Dec ((j + n) % 2 ≡ 0)
      → even_weight k i m *ℤ even_weight k j n *ℤ node g m n ≡ even_weight k i m *ℤ even_weight k j n *ℤ node h m n
  term_same m n same (yes a) (yes b) = ap (λ (v : ℤ). even_weight k i m *ℤ even_weight k j n *ℤ v) (same a b)
  term_same m n same (no odd) d = rw (no_weight k i m odd) (no_column (even_weight k j n) (node g m n) (node h m n))
  term_same m n same (yes a) (no odd) = rw (no_weight k j n odd) (no_row (even_weight k i m) (node g m n) (node h m n))

  pub expand_only : ((m n : ℕ) → m < 5 → n < 5 → Agree m n) → expand k zc zr g i j ≡ expand k zc zr h i j
  unfolding expand weighted_sum
  expand_only same =
      ap (λ (S : ℤ). round_div (pos 4 *ℤ S) 400)
      (sum_same 5 _ _ (λ n hn. sum_same 5 _ _ (λ m hm. term_same m n (same m n hm hn) (ℕ_discrete ((i + m) % 2) 0) (ℕ_discrete ((j + n) % 2) 0))))

-- EXPAND along the rows, and then down the columns, over 100
pub expand_rows : (k zc zr : ℕ) (g : Level) (i j : ℕ)
    → expand k zc zr g i j ≡ round_div (sum 5 (λ n. even_weight k j n *ℤ sum 5 (λ m. even_weight k i m *ℤ g (reflect zc (halved i m)) (reflect zr (halved j n))))) 100
unfolding expand
expand_rows k zc zr g i j =
    round_four _ 100 (lit< tt)
    ∙ ap (λ (S : ℤ). round_div S 100) (weighted_rows (even_weight k i) (even_weight k j) (λ t. reflect zc (halved i t)) (λ t. reflect zr (halved j t)) g)

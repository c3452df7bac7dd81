-- A line of four values: what an edge reflects to the places beyond it, and what EXPAND takes of them at the four places of the level below.
-- Assumes nothing.
use mathlib.Core.Path.{◌≡◌, refl, ap}
use mathlib.Core.Bool.{Bool, true, false, cond, ◌&&◌}
use mathlib.Core.List.{List, [], ◌∷◌}
use Prim.Native.Nat.{ℕ, ◌+◌, ◌-◌, ◌*◌, ◌/◌, ◌%◌, ◌≤◌, ◌<◌}
use native.Mathlib.Nat.{le_trans, mul-le-mul_right, le_refl}
use native.Mathlib.Omega.{arith}
use borrow.Author.Tests.{ne_eqb}
use lib.Dec.{eqb}
use lib.IntN.{ℤ, pos, ◌*ℤ◌}
use lib.ListN.{get_or}
use mir.Syntax.{w32}
use mir.Val.{SFits}
use Rattle.mathematics.specs.Definitions.Sums.{sum}
use Rattle.mathematics.specs.Definitions.Tables.{tabulate}
use Rattle.mathematics.proofs.Sums.{sum_same}
use Rattle.mathematics.proofs.Held.{held, held_is}
use Rattle.pyramid.specs.Definitions.Steps.{even_weight}
use Rattle.pyramid.specs.Inner.Rows.{Within, Small}
use Rattle.pyramid.specs.Inner.Lawful.{Kernel}
use Rattle.pyramid.proofs.Weights.{even_parity, even_size, gain_most}
use Rattle.pyramid.proofs.WeightedSums.{taps_small}
use Rattle.pyramid.proofs.TapSums.{within_fits}
use Rattle.pyramid.proofs.ExpandTaps.{three, two, three_passed, two_passed, even_taps, odd_taps}
use Rattle.pixel.specs.declared.axes.Axis.{Axis}
use Rattle.pixel.specs.Inner.Blocks.{extended, line_sum}

-- ---- with what an edge reflects

module _ (a : Axis) (wide : 2 ≤ a.end) (v : List ℤ) (small : Small 8388608 v) where
  abbrev value : ℕ → ℤ
  value n = get_or v n (pos 0)

  whole : (n : ℕ) → held (value n) ≡ value n
  whole n = held_is (within_fits tt (small n))

  pub extended_made : {x y z : ℤ} → SFits w32 x → SFits w32 y → SFits w32 z
      → x ≡ cond (eqb a.next 0) (held (value 2)) (held (value 0))
      → y ≡ cond (eqb a.end 2) (held (value 0)) (held (value 2))
      → z ≡ cond (eqb a.end 3) (held (value 1)) (held (value 3))
      → held x ∷ held (value 1) ∷ held y ∷ held z ∷ [] ≡ tabulate 4 (extended a value)
  unfolding tabulate extended
  extended_made f g h ex ey ez =
      rw (held_is f, held_is g, held_is h, ex, ey, ez, whole 0, whole 1, whole 2, whole 3, ne_eqb a.end 0 (λ e. omega arith), ne_eqb a.end 1 (λ e. omega arith)) refl

-- no farther from 0 than the values are
module _ {e : ℕ} where
  either : (b : Bool) {x y : ℤ} → Within e x → Within e y → Within e (cond b x y)
  either true h k = h
  either false h k = k

  pub extended_within : (a : Axis) (f : ℕ → ℤ) → ((n : ℕ) → Within e (f n)) → (n : ℕ) → Within e (extended a f n)
  unfolding extended
  extended_within a f small n = either (eqb a.end n) (small (n - 2)) (either (eqb n 0 && eqb a.next 0) (small 2) (small n))

-- ---- what EXPAND takes

at_even : (k i : ℕ) (v : ℕ → ℤ) → i % 2 ≡ 0 → sum 5 (λ t. even_weight k i t *ℤ v t) ≡ three k (v 4) (v 2) (v 0)
at_even k i v h = rw (even_parity k i, h) (even_taps k v)

at_odd : (k i : ℕ) (v : ℕ → ℤ) → i % 2 ≡ 1 → sum 5 (λ t. even_weight k i t *ℤ v t) ≡ two k (v 3) (v 1)
at_odd k i v h = rw (even_parity k i, h) (odd_taps k v)

module _ (k next : ℕ) (X : ℕ → ℤ) where
  module _ (e : next % 2 ≡ 1) where
    even_0 : line_sum k next X 0 ≡ three k (X 0) (X 1) (X 2)
    unfolding line_sum
    even_0 = rw e (at_even k 2 (λ t. X ((4 - t) / 2)) refl)

    odd_1 : line_sum k next X 1 ≡ two k (X 1) (X 2)
    unfolding line_sum
    odd_1 = rw e (at_odd k 3 (λ t. X ((5 - t) / 2)) refl)

    even_2 : line_sum k next X 2 ≡ three k (X 1) (X 2) (X 3)
    unfolding line_sum
    even_2 = rw e (at_even k 4 (λ t. X ((6 - t) / 2)) refl)

    odd_3 : line_sum k next X 3 ≡ two k (X 2) (X 3)
    unfolding line_sum
    odd_3 = rw e (at_odd k 5 (λ t. X ((7 - t) / 2)) refl)

  module _ (e : next % 2 ≡ 0) where
    odd_0 : line_sum k next X 0 ≡ two k (X 0) (X 1)
    unfolding line_sum
    odd_0 = rw e (at_odd k 1 (λ t. X ((3 - t) / 2)) refl)

    even_1 : line_sum k next X 1 ≡ three k (X 0) (X 1) (X 2)
    unfolding line_sum
    even_1 = rw e (at_even k 2 (λ t. X ((4 - t) / 2)) refl)

    odd_2 : line_sum k next X 2 ≡ two k (X 1) (X 2)
    unfolding line_sum
    odd_2 = rw e (at_odd k 3 (λ t. X ((5 - t) / 2)) refl)

    even_3 : line_sum k next X 3 ≡ three k (X 1) (X 2) (X 3)
    unfolding line_sum
    even_3 = rw e (at_even k 4 (λ t. X ((6 - t) / 2)) refl)

  -- of four values as they are passed on, with what `even` and `odd` return, stored
  module _ (small : (n : ℕ) → Within 8388608 (X n)) where
    abbrev given : ℕ → ℤ
    given n = held (X n)

    three_read : (m n o : ℕ) → three k (given m) (given n) (given o) ≡ three k (X m) (X n) (X o)
    three_read m n o = three_passed k (small m) (small n) (small o)

    two_read : (m n : ℕ) → two k (given m) (given n) ≡ two k (X m) (X n)
    two_read m n = two_passed k (small m) (small n)

    module _ {p q r s : ℤ} (fp : SFits w32 p) (fq : SFits w32 q) (fr : SFits w32 r) (fs : SFits w32 s) where
      pub odd_line : next % 2 ≡ 1 → p ≡ three k (given 0) (given 1) (given 2) → q ≡ two k (given 1) (given 2) → r ≡ three k (given 1) (given 2) (given 3)
          → s ≡ two k (given 2) (given 3) → held p ∷ held q ∷ held r ∷ held s ∷ [] ≡ tabulate 4 (line_sum k next X)
      unfolding tabulate
      odd_line e ep eq er es =
          rw (
            held_is fp,
            held_is fq,
            held_is fr,
            held_is fs,
            ep,
            eq,
            er,
            es,
            even_0 e,
            odd_1 e,
            even_2 e,
            odd_3 e,
            three_read 0 1 2,
            two_read 1 2,
            three_read 1 2 3,
            two_read 2 3,
          ) refl

      pub even_line : next % 2 ≡ 0 → p ≡ two k (given 0) (given 1) → q ≡ three k (given 0) (given 1) (given 2) → r ≡ two k (given 1) (given 2)
          → s ≡ three k (given 1) (given 2) (given 3) → held p ∷ held q ∷ held r ∷ held s ∷ [] ≡ tabulate 4 (line_sum k next X)
      unfolding tabulate
      even_line e ep eq er es =
          rw (
            held_is fp,
            held_is fq,
            held_is fr,
            held_is fs,
            ep,
            eq,
            er,
            es,
            odd_0 e,
            even_1 e,
            odd_2 e,
            even_3 e,
            two_read 0 1,
            three_read 0 1 2,
            two_read 1 2,
            three_read 1 2 3,
          ) refl

-- ---- only the four values of a line are taken

module _ (f g : ℕ → ℤ) (same : (n : ℕ) → n < 4 → f n ≡ g n) where
  pub extended-same : (a : Axis) (n : ℕ) → n < 4 → extended a f n ≡ extended a g n
  unfolding extended
  extended-same a n h = rw (same (n - 2) (omega arith), same 2 (omega arith), same n h) refl

  pub line-same : (k next m : ℕ) → m < 4 → line_sum k next f m ≡ line_sum k next g m
  unfolding line_sum
  line-same k next m h = sum_same 5 _ _ (λ t ht. ap (λ (x : ℤ). even_weight k (next % 2 + m + 1) t *ℤ x) (same ((next % 2 + m + 3 - t) / 2) (omega arith)))

-- ---- no farther from 0 than 14 times what is summed, for a lawful kernel

pub line_within : {k : ℕ} → Kernel k → (next e : ℕ) (X : ℕ → ℤ) → ((n : ℕ) → Within e (X n)) → (m : ℕ) → Within (14 * e) (line_sum k next X m)
unfolding line_sum
line_within {k} lawful next e X small m = record {
  small =
      le_trans (taps_small (even_weight k (next % 2 + m + 1)) (λ t. X ((next % 2 + m + 3 - t) / 2)) 5 e (le_refl 5) (λ t ht. (small ((next % 2 + m + 3 - t) / 2)).small))
      (mul-le-mul_right e (le_trans (even_size lawful (next % 2 + m + 1)) (gain_most lawful)));
}

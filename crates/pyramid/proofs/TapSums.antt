-- The sum of products in `five`, as the machine forms it: each step fits 32 bits, and the last is the sum. Assumes nothing.
use mathlib.Core.Path.{◌≡◌, refl, ◌∙◌}
use Prim.Native.Nat.{ℕ, ◌*◌, ◌^◌, ◌≤◌}
use native.Mathlib.Nat.{le_trans}
use native.Mathlib.Omega.{arith}
use lib.Dec.{T, ltb}
use lib.IntN.{ℤ, pos, nat_abs, ◌+ℤ◌, ◌-ℤ◌, ◌*ℤ◌}
use mir.Syntax.{w32}
use mir.Val.{SFits}
use Rattle.mathematics.proofs.Integers.{ints, all₁, all₅}
use Rattle.mathematics.proofs.Held.{held, held_is}
use Rattle.mathematics.proofs.IntegerLaws.{fits_by, abs_sum, abs_minus, abs_product}
use Rattle.pyramid.specs.Definitions.Weights.{weight}
use Rattle.pyramid.specs.Inner.Rows.{Within}

pub within_more : {e f : ℕ} {x : ℤ} → e ≤ f → Within e x → Within f x
within_more h w = record { small = le_trans w.small h }

-- numbers that 32 bits hold
pub within_fits : {e : ℕ} {x : ℤ} → T (ltb e (2 ^ 31)) → Within e x → SFits w32 x
within_fits {e} t w = fits_by w32 e t w.small

pub within_held : {e : ℕ} {x : ℤ} → T (ltb e (2 ^ 31)) → Within e x → Within e (held x)
within_held t w = rw (held_is (within_fits t w)) w

-- ---- five values, weighed: half the centre's weight times what the middle one has more than the outer two, and 5 times the other four

abbrev pub Value : ℤ → Type 0
Value x = Within 8388608 x

apart : (h a b c d e : ℤ) → h *ℤ (pos 2 *ℤ c -ℤ (a +ℤ e)) +ℤ pos 5 *ℤ (b +ℤ d +ℤ (a +ℤ e))
    ≡ (pos 5 -ℤ h) *ℤ (a +ℤ e) +ℤ pos 5 *ℤ (b +ℤ d) +ℤ pos 2 *ℤ h *ℤ c
apart = all₁ _ (λ x y. all₅ _ (λ p n q m r s t u v w. simp ints (omega arith)))

-- the weights are 2k, 5 and 5 - k
weights_apart : (k : ℕ) (a b c d e : ℤ) → pos k *ℤ (pos 2 *ℤ c -ℤ (a +ℤ e)) +ℤ pos 5 *ℤ (b +ℤ d +ℤ (a +ℤ e))
    ≡ (pos 5 -ℤ pos k) *ℤ (a +ℤ e) +ℤ pos 5 *ℤ (b +ℤ d) +ℤ pos (2 * k) *ℤ c
weights_apart k = apart (pos k)

-- two of them
module _ {a e : ℤ} (ha : Value a) (he : Value e) where
  pub pair_small : nat_abs (a +ℤ e) ≤ 16777216
  pair_small = abs_sum 8388608 8388608 a e ha.small he.small

  pub pair_fits : SFits w32 (held a +ℤ held e)
  pair_fits = rw (held_is (within_fits tt ha), held_is (within_fits tt he)) (fits_by w32 16777216 tt pair_small)

  pair_is : held (held a +ℤ held e) ≡ a +ℤ e
  pair_is = held_is pair_fits ∙ rw (held_is (within_fits tt ha), held_is (within_fits tt he)) refl

module _ {a b c d e : ℤ} (ha : Value a) (hb : Value b) (hc : Value c) (hd : Value d) (he : Value e) where
  twice_small : nat_abs (pos 2 *ℤ c) ≤ 16777216
  twice_small = abs_product 2 8388608 (pos 2) c (omega arith) hc.small

  pub twice_fits : SFits w32 (pos 2 *ℤ held c)
  twice_fits = rw (held_is (within_fits tt hc)) (fits_by w32 16777216 tt twice_small)

  twice_is : held (pos 2 *ℤ held c) ≡ pos 2 *ℤ c
  twice_is = held_is twice_fits ∙ rw (held_is (within_fits tt hc)) refl

  abbrev less : ℤ
  less = held (pos 2 *ℤ held c) -ℤ held (held a +ℤ held e)

  difference_small : nat_abs (pos 2 *ℤ c -ℤ (a +ℤ e)) ≤ 33554432
  difference_small = abs_minus 16777216 16777216 (pos 2 *ℤ c) (a +ℤ e) twice_small (pair_small ha he)

  pub difference_fits : SFits w32 less
  difference_fits = rw (twice_is, pair_is ha he) (fits_by w32 33554432 tt difference_small)

  difference_is : held less ≡ pos 2 *ℤ c -ℤ (a +ℤ e)
  difference_is = held_is difference_fits ∙ rw (twice_is, pair_is ha he) refl

  abbrev four : ℤ
  four = held (held b +ℤ held d) +ℤ held (held a +ℤ held e)

  four_small : nat_abs (b +ℤ d +ℤ (a +ℤ e)) ≤ 33554432
  four_small = abs_sum 16777216 16777216 (b +ℤ d) (a +ℤ e) (pair_small hb hd) (pair_small ha he)

  pub four_fits : SFits w32 four
  four_fits = rw (pair_is hb hd, pair_is ha he) (fits_by w32 33554432 tt four_small)

  four_is : held four ≡ b +ℤ d +ℤ (a +ℤ e)
  four_is = held_is four_fits ∙ rw (pair_is hb hd, pair_is ha he) refl

  rest_small : nat_abs (pos 5 *ℤ (b +ℤ d +ℤ (a +ℤ e))) ≤ 167772160
  rest_small = abs_product 5 33554432 (pos 5) (b +ℤ d +ℤ (a +ℤ e)) (omega arith) four_small

  pub rest_fits : SFits w32 (pos 5 *ℤ held four)
  rest_fits = rw four_is (fits_by w32 167772160 tt rest_small)

  rest_is : held (pos 5 *ℤ held four) ≡ pos 5 *ℤ (b +ℤ d +ℤ (a +ℤ e))
  rest_is = held_is rest_fits ∙ rw four_is refl

  module _ {k : ℕ} {h : ℤ} (is : h ≡ pos k) (most : k ≤ 6) where
    half_is : held h ≡ pos k
    half_is = rw is (held_is (fits_by w32 6 tt most))

    pub product_small : nat_abs (pos k *ℤ (pos 2 *ℤ c -ℤ (a +ℤ e))) ≤ 201326592
    product_small = abs_product 6 33554432 (pos k) (pos 2 *ℤ c -ℤ (a +ℤ e)) most difference_small

    pub product_fits : SFits w32 (held h *ℤ held less)
    product_fits = rw (half_is, difference_is) (fits_by w32 201326592 tt product_small)

    pub product_is : held (held h *ℤ held less) ≡ pos k *ℤ (pos 2 *ℤ c -ℤ (a +ℤ e))
    product_is = held_is product_fits ∙ rw (half_is, difference_is) refl

    abbrev formed : ℤ
    formed = held (held h *ℤ held less) +ℤ held (pos 5 *ℤ held four)

    pub five_fits : SFits w32 formed
    five_fits = rw (product_is, rest_is) (fits_by w32 369098752 tt (abs_sum 201326592 167772160 (pos k *ℤ (pos 2 *ℤ c -ℤ (a +ℤ e))) (pos 5 *ℤ (b +ℤ d +ℤ (a +ℤ e))) product_small rest_small))

    pub five_held : held formed ≡ (pos 5 -ℤ pos k) *ℤ (a +ℤ e) +ℤ pos 5 *ℤ (b +ℤ d) +ℤ pos (2 * k) *ℤ c
    five_held = held_is five_fits ∙ rw (product_is, rest_is) (weights_apart k a b c d e)

-- ---- two values, and three

module _ {a b : ℤ} (ha : Value a) (hb : Value b) where
  pub odd_fits : SFits w32 (pos 5 *ℤ held (held a +ℤ held b))
  odd_fits = rw (pair_is ha hb) (fits_by w32 83886080 tt (abs_product 5 16777216 (pos 5) (a +ℤ b) (omega arith) (pair_small ha hb)))

  pub odd_held : held (pos 5 *ℤ held (held a +ℤ held b)) ≡ pos 5 *ℤ (a +ℤ b)
  odd_held = held_is odd_fits ∙ rw (pair_is ha hb) refl

no_neighbours : (w v u a b c : ℤ) → w *ℤ (a +ℤ c) +ℤ v *ℤ (pos 0 +ℤ pos 0) +ℤ u *ℤ b ≡ w *ℤ (a +ℤ c) +ℤ u *ℤ b
no_neighbours = all₁ _ (λ x y. all₅ _ (λ p n q m r s t u v w. simp ints (omega arith)))

-- with 0 in the place of the two beside the middle one, as `five` is passed them
pub even_passed : {a b c : ℤ} (k : ℕ) → Value a → Value b → Value c
    → weight k 4 *ℤ (held a +ℤ held c) +ℤ weight k 3 *ℤ (held (pos 0) +ℤ held (pos 0)) +ℤ weight k 2 *ℤ held b ≡ weight k 4 *ℤ (a +ℤ c) +ℤ weight k 2 *ℤ b
even_passed {a} {b} {c} k ha hb hc =
    rw (held_is (within_fits tt ha), held_is (within_fits tt hb), held_is (within_fits tt hc)) (no_neighbours (weight k 4) (weight k 3) (weight k 2) a b c)

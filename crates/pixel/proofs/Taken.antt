-- What EXPAND takes of three and of two values, as the machine forms it; and of a line of four, at an even and at an odd column. Assumes nothing.
use mathlib.Core.Path.{◌≡◌, ◌∙◌}
use Prim.Native.Nat.{ℕ, ◌≤◌}
use native.Mathlib.Omega.{arith}
use lib.IntN.{ℤ, pos, nat_abs, ◌+ℤ◌, ◌-ℤ◌, ◌*ℤ◌}
use mir.Syntax.{w32}
use mir.Val.{SFits}
use Rattle.mathematics.proofs.Integers.{ints, all₄}
use Rattle.mathematics.proofs.Held.{held, held_is}
use Rattle.mathematics.proofs.IntegerLaws.{fits_by, abs_sum, abs_product}
use Rattle.pyramid.specs.Definitions.Weights.{weight}
use Rattle.pyramid.specs.Inner.Lawful.{Kernel}
use Rattle.pyramid.proofs.Weights.{weight_rule}
use Rattle.pyramid.proofs.TapSums.{Value, pair_small, product_small, product_is, odd_held}

-- ---- three values, of weights 5 - k, 2k and 5 - k

apart : (h a b c : ℤ) → h *ℤ (pos 2 *ℤ b -ℤ (a +ℤ c)) +ℤ pos 5 *ℤ (a +ℤ c) ≡ (pos 5 -ℤ h) *ℤ (a +ℤ c) +ℤ pos 2 *ℤ h *ℤ b
apart = all₄ _ (λ p n q m r s t u. simp ints (omega arith))

module _ {a b c : ℤ} (ha : Value a) (hb : Value b) (hc : Value c) {k : ℕ} {h : ℤ} (is : h ≡ pos k) (lawful : Kernel k) where
  abbrev formed : ℤ
  formed = held (held h *ℤ held (held (pos 2 *ℤ held b) -ℤ held (held a +ℤ held c))) +ℤ held (pos 5 *ℤ held (held a +ℤ held c))

  small : nat_abs (pos k *ℤ (pos 2 *ℤ b -ℤ (a +ℤ c)) +ℤ pos 5 *ℤ (a +ℤ c)) ≤ 285212672
  small =
      abs_sum 201326592 83886080 (pos k *ℤ (pos 2 *ℤ b -ℤ (a +ℤ c))) (pos 5 *ℤ (a +ℤ c)) (product_small ha hb hb hb hc is lawful.most)
      (abs_product 5 16777216 (pos 5) (a +ℤ c) (omega arith) (pair_small ha hc))

  pub even_fits : SFits w32 formed
  even_fits = rw (product_is ha hb hb hb hc is lawful.most, odd_held ha hc) (fits_by w32 285212672 tt small)

  pub even_held : held formed ≡ weight k 4 *ℤ (a +ℤ c) +ℤ weight k 2 *ℤ b
  even_held =
      let rule = weight_rule lawful in
      held_is even_fits ∙ rw (product_is ha hb hb hb hc is lawful.most, odd_held ha hc, rule.outer.1, rule.centre) (apart (pos k) a b c)

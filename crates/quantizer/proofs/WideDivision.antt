-- Division that rounds down, as the machine forms it in 64 bits: the sum is what it is in whole numbers, and 32 bits hold the quotient.
-- Assumes nothing.
use mathlib.Core.Path.{◌≡◌, refl, ◌∙◌}
use Prim.Native.Nat.{ℕ, ◌<◌}
use native.Mathlib.Omega.{arith}
use lib.IntN.{ℤ, pos, ◌+ℤ◌}
use mir.Facts.{Fits-widen, sfits_widen, to_z-of_z, of_z-to_z, to_z_pos}
use mir.Syntax.{w16, w32, w64}
use mir.Val.{Fits, SFits, to_z, of_z}
use Rattle.std.proofs.lemmas.Int.{ints}
use Rattle.std.specs.Int.{int_div_euclid}
use Rattle.mathematics.proofs.Held.{held, held_is, natural_fits}
use Rattle.quantizer.specs.Inner.Division.{Floor}
use Rattle.quantizer.proofs.Division.{euclid_floor, floor_fits}

natural_is : {n : ℕ} → Fits w16 n → to_z w64 n ≡ pos n
natural_is f = to_z_pos w64 (omega arith)

pub natural_wide : {n : ℕ} → Fits w16 n → SFits w64 (pos n)
natural_wide f = sfits_widen tt (natural_fits f)

module _ {x : ℤ} (fx : SFits w32 x) {h d : ℕ} (fh : Fits w16 h) (fd : Fits w16 d) where
  pub value_fits : SFits w64 (held x)
  value_fits = rw (held_is fx) (sfits_widen tt fx)

  value_is : to_z w64 (of_z w64 (held x)) ≡ x
  value_is = to_z-of_z value_fits ∙ held_is fx

  abbrev formed : ℤ
  formed = to_z w64 (of_z w64 (held x)) +ℤ to_z w64 h

  formed_is : formed ≡ x +ℤ pos h
  formed_is = rw (value_is, natural_is fh) refl

  pub sum_fits : SFits w64 formed
  sum_fits = rw formed_is (omega (arith, ints))

  -- the divisor is not -1
  pub no_overflow : of_z w64 (to_z w64 d) ≡ 18446744073709551615 → ⊥
  no_overflow e = let same : d ≡ 18446744073709551615 = rw (of_z-to_z (Fits-widen tt fd)) at e in omega (arith, same)

  module _ {q : ℤ} (few : h < d) (fq : SFits w64 q) (is : q ≡ int_div_euclid (to_z w64 (of_z w64 formed)) (to_z w64 d)) where
    floor : Floor (x +ℤ pos h) (pos d) q
    floor = rw (is, to_z-of_z sum_fits, formed_is, natural_is fd) (euclid_floor _ d (omega arith))

    pub quotient_fits : SFits w32 (to_z w64 (of_z w64 q))
    quotient_fits = rw (to_z-of_z fq) (floor_fits w32 x h d q few fx floor)

    pub result_floor : Floor (x +ℤ pos h) (pos d) (held (to_z w64 (of_z w64 q)))
    result_floor = rw (held_is quotient_fits, to_z-of_z fq) floor

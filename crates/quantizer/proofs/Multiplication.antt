-- Division that rounds down, by a multiplication with the reciprocal. Assumes nothing.
use mathlib.Core.Path.{◌≡◌, ◌∙◌}
use Prim.Native.Nat.{ℕ, suc, ◌+◌, ◌*◌, ◌/◌, ◌%◌, ◌<◌, ◌≤◌}
use native.Mathlib.Nat.{div-add-mod', mod-lt, div-le_self, le-div_iff_mul-le, div-lt_iff_lt-mul, mul-le-mul_right, mul-le-mul_left, lt_of_mul-lt-mul_right}
use native.Mathlib.Omega.{arith}
use mathlib.Core.Bool.{true}
use lib.Dec.{T}
use lib.IntN.{ℤ, pos, neg_ℤ, nat_abs, ◌+ℤ◌, ◌-ℤ◌, ◌*ℤ◌}
use lib.Signed.{◌≤ℤ◌, ◌<ℤ◌, non_neg, yes_non_neg}
use mir.Facts.{Fits-widen}
use mir.Syntax.{w32, w64}
use mir.Val.{Fits, SFits, to_z}
use Rattle.std.proofs.lemmas.Int.{ints}
use Rattle.mathematics.proofs.Held.{held, held_is}
use Rattle.quantizer.specs.Inner.Division.{Floor}
use Rattle.quantizer.specs.Inner.Reciprocals.{Reciprocal, near}
use Rattle.quantizer.proofs.Division.{raised_floor}
use Rattle.quantizer.proofs.Nearness.{near_range}

module _ (d f y q r M : ℕ) (e : q * d + r ≡ y) (l : r < d) where
  product_from : M ≤ f * d → q * M ≤ y * f
  product_from a = let b : q * d ≤ y = omega arith in omega (arith, mul-le-mul_left q a, mul-le-mul_right f b)

  product_upto : f * d ≤ M + d → y * d < M → y * f < suc q * M
  product_upto a s =
      let b : suc y ≤ suc q * d = omega arith in
      lt_of_mul-lt-mul_right d {m = y * f} {n = suc q * M} (omega (arith, mul-le-mul_left y a, mul-le-mul_right M b))

-- 2^31 over d, rounded down, and 1 more
pub one_more : {d : ℕ} → 0 < d → Reciprocal d (2147483648 / d + 1)
one_more {d} h =
    let e = div-add-mod' 2147483648 d in
    let l = mod-lt 2147483648 h in
    record { above = omega (arith, e, l); next = omega (arith, e) }

-- a number short enough, doubled, times the reciprocal, over 2^32, is the number over d
multiplied : (d f y : ℕ) → Reciprocal d f → 0 < d → y * d < 2147483648 → y * 2 * f / 4294967296 ≡ y / d
multiplied d f y v h s =
    let e = div-add-mod' y d in
    let l = mod-lt y h in
    let from = product_from d f y (y / d) (y % d) 2147483648 e l (omega (arith, v.above)) in
    let upto = product_upto d f y (y / d) (y % d) 2147483648 e l v.next s in
    let a : y / d ≤ y * 2 * f / 4294967296 = (le-div_iff_mul-le {k = 4294967296} (omega arith)).1 (omega (arith, from)) in
    let b : y * 2 * f / 4294967296 < suc (y / d) = (div-lt_iff_lt-mul {k = 4294967296} (omega arith)).1 (omega (arith, upto)) in
    omega (arith, a, b)

-- ---- what `multiply` computes

-- x with h and 8,192 divisors added, as 32 bits form it
abbrev raised : ℤ → ℕ → ℕ → ℤ
raised x h d = held x +ℤ held (to_z w32 h +ℤ held (to_z w32 d *ℤ pos 8192))

module _ (x : ℤ) {h d : ℕ} (few : (h < d) × (d < 256)) (e : near x ≡ true) where
  low : neg_ℤ (pos 8192) ≤ℤ x
  low = (near_range x e).0

  high : x <ℤ pos 8192
  high = (near_range x e).1

  -- as a number
  abbrev y : ℕ
  y = nat_abs (x +ℤ pos h +ℤ pos d *ℤ pos 8192)

  pub divisors_fit : SFits w32 (to_z w32 d *ℤ pos 8192)
  divisors_fit = omega (arith, ints)

  pub added_fits : SFits w32 (to_z w32 h +ℤ held (to_z w32 d *ℤ pos 8192))
  added_fits = omega (arith, ints)

  raised_is : raised x h d ≡ x +ℤ pos h +ℤ pos d *ℤ pos 8192
  raised_is = omega (arith, ints, low, high)

  pub raised_fits : SFits w32 (raised x h d)
  raised_fits = rw raised_is (omega (arith, ints, low, high))

  stored : held (raised x h d) ≡ x +ℤ pos h +ℤ pos d *ℤ pos 8192
  stored = held_is raised_fits ∙ raised_is

  natural : pos y ≡ x +ℤ pos h +ℤ pos d *ℤ pos 8192
  natural = omega (arith, ints, low)

  upto : y ≤ 2097406
  upto = omega (arith, ints, natural, high)

  pub raised-natural : T (non_neg (held (raised x h d))) × Fits w32 (nat_abs (held (raised x h d)))
  raised-natural = rw stored (yes_non_neg (omega (arith, ints, low)), record { fits = omega (arith, upto) })

  pub doubled_fits : Fits w32 (nat_abs (held (raised x h d)) * 2)
  doubled_fits = rw stored (record { fits = omega (arith, upto) })

  pub factor_fits : Fits w64 (nat_abs (held (raised x h d)) * 2)
  factor_fits = Fits-widen tt doubled_fits

  pub product_fits : {f : ℕ} → Fits w32 f → Fits w64 (nat_abs (held (raised x h d)) * 2 * f)
  product_fits {f} v = rw stored (record { fits = omega (arith, v.fits, mul-le-mul_right f upto) })

  quotient_upto : y / d ≤ 2097406
  quotient_upto = omega (arith, div-le_self y d, upto)

  result_is : to_z w32 (y / d) -ℤ pos 8192 ≡ pos (y / d) -ℤ pos 8192
  result_is = omega (arith, ints, quotient_upto)

  module _ {f : ℕ} (r : Reciprocal d f) where
    quotient_is : nat_abs (held (raised x h d)) * 2 * f / 4294967296 ≡ y / d
    quotient_is = rw stored (multiplied d f y r (omega arith) (omega (arith, mul-le-mul_right d upto)))

    pub quotient_fits : SFits w32 (pos (nat_abs (held (raised x h d)) * 2 * f / 4294967296))
    quotient_fits = rw quotient_is (omega (arith, ints, quotient_upto))

    pub result_fits : SFits w32 (to_z w32 (nat_abs (held (raised x h d)) * 2 * f / 4294967296) -ℤ pos 8192)
    result_fits = rw (quotient_is, result_is) (omega (arith, ints, quotient_upto))

    pub result_floor : Floor (x +ℤ pos h) (pos d) (held (to_z w32 (nat_abs (held (raised x h d)) * 2 * f / 4294967296) -ℤ pos 8192))
    result_floor = rw (held_is result_fits, quotient_is, result_is) (raised_floor d y (x +ℤ pos h) (pos 8192) (omega arith) natural)

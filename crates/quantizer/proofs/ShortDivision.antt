-- Division that rounds down, in 32 bits: so many divisors are added that what is divided is not below 0. Assumes nothing.
use mathlib.Core.Path.{◌≡◌}
use Prim.Native.Nat.{ℕ, ◌+◌, ◌*◌, ◌/◌, ◌<◌, ◌≤◌}
use native.Mathlib.Nat.{div-add-mod', mod-lt, div-lt_iff_lt-mul}
use native.Mathlib.Omega.{arith}
use lib.IntN.{ℤ, pos, nat_abs, ◌+ℤ◌, ◌-ℤ◌, ◌*ℤ◌}
use mir.Syntax.{w32, w64}
use mir.Val.{SFits, to_z, of_z}
use Rattle.std.proofs.lemmas.Int.{ints}
use Rattle.mathematics.proofs.Held.{held, held_is}
use Rattle.mathematics.proofs.IntegerLaws.{fits_by}
use Rattle.quantizer.specs.Inner.Division.{Floor}
use Rattle.quantizer.proofs.Division.{raised_floor, floor_fits}

-- how many divisors are added
abbrev count : ℕ → ℕ
count d = 1073741824 / d + 1

-- ---- what `divide_short` computes

-- x with h and those divisors added, as 64 bits form it
abbrev raised : ℤ → ℕ → ℕ → ℤ
raised x h d = to_z w64 (of_z w64 (to_z w64 (of_z w64 (held x)) +ℤ to_z w64 (count d * d + h)))

module _ (x : ℤ) {h d : ℕ} (divisor : (h < d) × (1 < d)) (short : nat_abs x ≤ 1073741824) where
  -- the divisors reach 2^30, by one of them at most
  from : 1073741824 ≤ count d * d
  from = omega (arith, div-add-mod' 1073741824 d, mod-lt 1073741824 {m = d} (omega arith))

  upto : count d * d ≤ 1073741824 + d
  upto = omega (arith, div-add-mod' 1073741824 d)

  few : 1073741824 / d < 536870913
  few = (div-lt_iff_lt-mul {k = d} (omega arith)).1 (omega arith)

  -- as a number
  abbrev y : ℕ
  y = nat_abs (x +ℤ pos (count d * d + h))

  module _ (small : d < 65536) where
    raised_is : raised x h d ≡ x +ℤ pos (count d * d + h)
    raised_is = omega (arith, ints, short, upto)

    natural : pos y ≡ x +ℤ pos h +ℤ pos d *ℤ pos (count d)
    natural = omega (arith, ints, short, from)

    quotient-below : y / d < 2147483648
    quotient-below = (div-lt_iff_lt-mul {k = d} (omega arith)).1 (omega (arith, ints, short, upto))

    floor : Floor (x +ℤ pos h) (pos d) (pos (y / d) -ℤ pos (count d))
    floor = raised_floor d y (x +ℤ pos h) (pos (count d)) (omega arith) natural

    result_is : to_z w32 (y / d) -ℤ to_z w32 (count d) ≡ pos (y / d) -ℤ pos (count d)
    result_is = omega (arith, ints, quotient-below, few)

    pub quotient_fits : SFits w32 (pos (nat_abs (raised x h d) / d))
    quotient_fits = rw raised_is (record { sfits = quotient-below })

    pub result_fits : SFits w32 (to_z w32 (nat_abs (raised x h d) / d) -ℤ to_z w32 (count d))
    result_fits = rw (raised_is, result_is) (floor_fits w32 x h d (pos (y / d) -ℤ pos (count d)) divisor.0 (fits_by w32 1073741824 tt short) floor)

    pub result_floor : Floor (x +ℤ pos h) (pos d) (held (to_z w32 (nat_abs (raised x h d) / d) -ℤ to_z w32 (count d)))
    result_floor = rw (held_is result_fits, raised_is, result_is) floor

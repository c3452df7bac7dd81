-- A whole number that 32 bits hold is read back as itself, and so is one that 16 bits hold. Assumes nothing.
use mathlib.Core.Path.{◌≡◌, ◌∙◌}
use Prim.Native.Nat.{ℕ}
use native.Mathlib.Omega.{arith}
use lib.IntN.{ℤ, pos}
use mir.Facts.{to_z-of_z, sfits_widen}
use mir.Syntax.{w16, w32}
use mir.Val.{Fits, SFits, to_z, of_z}

-- z, stored in 32 bits and read again
abbrev pub held : ℤ → ℤ
held z = to_z w32 (of_z w32 z)

pub held_is : {z : ℤ} → SFits w32 z → held z ≡ z
held_is f = to_z-of_z f

-- a number of 16 bits without a sign
pub natural_fits : {n : ℕ} → Fits w16 n → SFits w32 (pos n)
natural_fits f = record { sfits = omega arith }

-- z, stored in 16 bits and read again
abbrev pub short : ℤ → ℤ
short z = to_z w16 (of_z w16 z)

module _ {z : ℤ} (f : SFits w16 z) where
  pub short_is : short z ≡ z
  short_is = to_z-of_z f

  -- and then in 32 bits
  pub short_fits : SFits w32 (short z)
  short_fits = rw short_is (sfits_widen tt f)

  pub widened : held (short z) ≡ z
  widened = held_is short_fits ∙ short_is

-- The value of an index, as the machine forms it: the product fits 32 bits; and the index of a pair of bytes. Assumes nothing.
use mathlib.Core.Path.{◌≡◌, refl, ◌∙◌}
use mathlib.Core.List.{List}
use Prim.Native.Nat.{ℕ, ◌+◌, ◌*◌}
use native.Mathlib.Omega.{arith}
use lib.IntN.{ℤ, pos, ◌*ℤ◌}
use lib.ListN.{get_or}
use mir.Syntax.{w16, w32}
use mir.Val.{Fits, SFits, to_z}
use Rattle.mathematics.proofs.Held.{held, held_is, natural_fits, short, widened}
use Rattle.mathematics.proofs.IntegerLaws.{fits_by, abs_of_fits, abs_product}
use Rattle.quantizer.specs.Definitions.Values.{pair_index}

module _ {m : ℤ} (hm : SFits w16 m) {n : ℕ} (hn : Fits w16 n) where
  -- as it is stored
  abbrev pub value : ℤ
  value = held (held (short m) *ℤ held (pos n))

  value_formed : held (short m) *ℤ held (pos n) ≡ m *ℤ pos n
  value_formed = rw (widened hm, held_is (natural_fits hn))

  pub value-fits : SFits w32 (held (short m) *ℤ held (pos n))
  value-fits = rw value_formed (fits_by w32 2147450880 tt (abs_product 32768 65535 m (pos n) (abs_of_fits w16 m hm) (omega arith)))

  pub value-is : value ≡ m *ℤ pos n
  value-is = held_is value-fits ∙ value_formed

-- low byte first
pub pair_is : (pair : List ℕ) → pair_index pair ≡ to_z w16 (get_or pair 0 0 + get_or pair 1 0 * 256)
unfolding pair_index
pair_is pair = refl

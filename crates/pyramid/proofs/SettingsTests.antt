-- The tests of the settings as the code makes them: what a size that passes says, the bins slot by slot. Assumes nothing.
use mathlib.Core.Path.{◌≡◌}
use mathlib.Core.Bool.{Bool, true}
use Prim.Native.Nat.{ℕ, ◌≤◌}
use native.Mathlib.Omega.{arith}
use lib.Dec.{T, leb, leb→le}
use Rattle.mathematics.proofs.Tests.{both}
use Rattle.pyramid.specs.declared.Settings.{Settings}
use Rattle.pyramid.specs.Definitions.Settings.{side_ok, size_ok, bin, slot_ok}

side_positive : (side : ℕ) → T (side_ok side) → 1 ≤ side
unfolding side_ok
side_positive side t = omega (arith, leb→le 2 side (both (leb 2 side) (leb side 129) t).0)

pub size_positive : (c r : ℕ) → size_ok c r ≡ true → (1 ≤ c) × (1 ≤ r)
unfolding size_ok
size_positive c r e = let (a, b) = both (side_ok c) (side_ok r) (rw e tt) in (side_positive c a, side_positive r b)

module _ (s : Settings) where
  -- slot l of the bins holds what it may
  abbrev pub slot : ℕ → Bool
  slot l = slot_ok s.depth l (bin s l)

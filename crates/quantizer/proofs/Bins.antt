-- Laws of the bin rule: one answer, a computed answer, and the distance of a value from its index's value. Assumes nothing.
use mathlib.Core.Path.{◌≡◌, sym}
use Prim.Native.Nat.{ℕ, suc, ◌+◌, ◌-◌, ◌/◌, ◌<◌, ◌≤◌}
use native.Mathlib.Nat.{lt_of_mul-lt-mul_right, le_of_suc-le-suc}
use native.Mathlib.Omega.{arith}
use mathlib.Core.Bool.{Bool, ◌&&◌}
use lib.Dec.{T, ltb, ltb→lt}
use lib.IntN.{ℤ, pos, nat_abs, ◌+ℤ◌, ◌-ℤ◌, ◌*ℤ◌}
use lib.Signed.{◌≤ℤ◌, ◌<ℤ◌, le_z, lt_z}
use Rattle.mathematics.proofs.Integers.{ints, all₂, all₃}
use Rattle.mathematics.proofs.IntegerLaws.{≤ℤ-antisym}
use Rattle.mathematics.proofs.Distance.{Near}
use Rattle.mathematics.proofs.Tests.{both}
use Rattle.quantizer.specs.Definitions.Bins.{bin_index, InBin}
use Rattle.quantizer.specs.Inner.Division.{Floor}
use Rattle.quantizer.specs.Definitions.Bins.Law.{bin_rule}

-- ---- one answer

-- of two bins that hold L, neither is below the other
ordered : (n : ℕ) (L j m : ℤ) → ((pos 2 *ℤ j -ℤ pos 1) *ℤ pos n) <ℤ (pos 2 *ℤ L) → (pos 2 *ℤ L) ≤ℤ ((pos 2 *ℤ m +ℤ pos 1) *ℤ pos n) → j ≤ℤ m
ordered n = all₃ _ (λ p o q m r s. simp ints (λ a u. le_of_suc-le-suc (lt_of_mul-lt-mul_right n {m = q + s} {n = suc (r + m)} (omega arith))))

pub bin_unique : {L : ℤ} {n : ℕ} {j m : ℤ} → InBin L n j → InBin L n m → j ≡ m
bin_unique {L} {n} {j} {m} a b = ≤ℤ-antisym j m (ordered n L j m a.above b.upto) (ordered n L m j b.above a.upto)

pub bin-is : {L : ℤ} {n : ℕ} {m : ℤ} → 0 < n → InBin L n m → bin_index L n ≡ m
bin-is {L} {n} h b = bin_unique (bin_rule L n h) b

-- a test that the index is m, which computes at numerals: `bin_at L n m tt`
abbrev pub index_is : ℤ → ℕ → ℤ → Bool
index_is L n m = ltb 0 n && (lt_z ((pos 2 *ℤ m -ℤ pos 1) *ℤ pos n) (pos 2 *ℤ L) && le_z (pos 2 *ℤ L) ((pos 2 *ℤ m +ℤ pos 1) *ℤ pos n))

pub bin_at : (L : ℤ) (n : ℕ) (m : ℤ) → T (index_is L n m) → bin_index L n ≡ m
bin_at L n m t =
    let (d, u) = both (ltb 0 n) _ t in
    let (a, h) = both (lt_z ((pos 2 *ℤ m -ℤ pos 1) *ℤ pos n) (pos 2 *ℤ L)) _ u in
    bin-is (ltb→lt 0 n d) (record { above = record { lt = a }; upto = record { le = h } })

-- ---- distance

half : (n : ℕ) (L m : ℤ) → ((pos 2 *ℤ m -ℤ pos 1) *ℤ pos n) <ℤ (pos 2 *ℤ L) → (pos 2 *ℤ L) ≤ℤ ((pos 2 *ℤ m +ℤ pos 1) *ℤ pos n) → nat_abs (m *ℤ pos n -ℤ L) ≤ n / 2
half n = all₂ _ (λ p o q m. simp ints (omega arith))

-- a value is at most half a bin, rounded down, from its index's value
pub bin_near : (L : ℤ) (n : ℕ) → 0 < n → Near (n / 2) (bin_index L n *ℤ pos n) L
bin_near L n h = let b : InBin L n (bin_index L n) = bin_rule L n h in record { apart = half n L (bin_index L n) b.above b.upto }

-- ---- by division that rounds down, with half of one less than the bin added

floor_above : (n : ℕ) → 0 < n → (L m : ℤ) → (m *ℤ pos n) ≤ℤ (L +ℤ pos ((n - 1) / 2)) → ((pos 2 *ℤ m -ℤ pos 1) *ℤ pos n) <ℤ (pos 2 *ℤ L)
floor_above n h = all₂ _ (λ p o q m. simp ints (omega arith))

floor_upto : (n : ℕ) → 0 < n → (L m : ℤ) → (L +ℤ pos ((n - 1) / 2)) <ℤ ((m +ℤ pos 1) *ℤ pos n) → (pos 2 *ℤ L) ≤ℤ ((pos 2 *ℤ m +ℤ pos 1) *ℤ pos n)
floor_upto n h = all₂ _ (λ p o q m. simp ints (omega arith))

pub floor_bin : (L : ℤ) (n : ℕ) (m : ℤ) → 0 < n → Floor (L +ℤ pos ((n - 1) / 2)) (pos n) m → m ≡ bin_index L n
floor_bin L n m h f = sym (bin-is h (record { above = floor_above n h L m f.low; upto = floor_upto n h L m f.high }))

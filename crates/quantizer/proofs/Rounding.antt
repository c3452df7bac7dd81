-- Laws of rounding, from document 01's rule: one answer, a computed answer, whole steps, and how far apart rounded sums are.
-- Assumes nothing.
use mathlib.Core.Path.{◌≡◌, sym}
use Prim.Native.Nat.{ℕ, suc, ◌+◌, ◌*◌, ◌/◌, ◌<◌, ◌≤◌}
use native.Mathlib.Nat.{lt_of_mul-lt-mul_right, le_of_suc-le-suc}
use native.Mathlib.Omega.{arith}
use mathlib.Core.Bool.{Bool, ◌&&◌}
use lib.Dec.{T, ltb, ltb→lt}
use lib.IntN.{ℤ, pos, nat_abs, ◌+ℤ◌, ◌-ℤ◌, ◌*ℤ◌}
use lib.Signed.{◌≤ℤ◌, ◌<ℤ◌, le_z, lt_z}
use Rattle.mathematics.proofs.Integers.{ints, all₁, all₂, all₃, all₄}
use Rattle.mathematics.proofs.IntegerLaws.{≤ℤ-antisym}
use Rattle.mathematics.proofs.Distance.{Near}
use Rattle.mathematics.proofs.Tests.{both}
use Rattle.quantizer.specs.Definitions.Rounding.{round_div, Rounded}
use Rattle.quantizer.specs.Inner.Division.{Floor}
use Rattle.quantizer.specs.Definitions.Rounding.Law.{Between, round_between, rounded_of, round_rule}

-- ---- one answer

pub rounded_unique : {S : ℤ} {D : ℕ} {q k : ℤ} → Rounded S D q → Rounded S D k → q ≡ k
rounded_unique {q = q} {k = k} r t = ≤ℤ-antisym q k (t.largest q r.not_above) (r.largest k t.not_above)

pub round_is : {S : ℤ} {D : ℕ} {q : ℤ} → 0 < D → Between S D q → round_div S D ≡ q
round_is {S} {D} h b = rounded_unique (round_rule S D h) (rounded_of b)

-- a test that the answer is q, which computes at numerals: `round_at S D q tt`
abbrev pub rounds_to : ℤ → ℕ → ℤ → Bool
rounds_to S D q = ltb 0 D && (le_z (pos 2 *ℤ q *ℤ pos D) (pos 2 *ℤ S +ℤ pos D) && lt_z (pos 2 *ℤ S +ℤ pos D) (pos 2 *ℤ (q +ℤ pos 1) *ℤ pos D))

pub round_at : (S : ℤ) (D : ℕ) (q : ℤ) → T (rounds_to S D q) → round_div S D ≡ q
round_at S D q t =
    let (d, u) = both (ltb 0 D) _ t in
    let (l, h) = both (le_z (pos 2 *ℤ q *ℤ pos D) (pos 2 *ℤ S +ℤ pos D)) _ u in
    round_is (ltb→lt 0 D d) (record { low = record { le = l }; high = record { lt = h } })

-- ---- whole steps

shift_low : (D : ℕ) (S x q : ℤ) → (pos 2 *ℤ q *ℤ pos D) ≤ℤ (pos 2 *ℤ S +ℤ pos D) → (pos 2 *ℤ (q +ℤ x) *ℤ pos D) ≤ℤ (pos 2 *ℤ (S +ℤ x *ℤ pos D) +ℤ pos D)
shift_low D = all₃ _ (λ p n q m r s. simp ints (omega arith))

shift_high : (D : ℕ) (S x q : ℤ) → (pos 2 *ℤ S +ℤ pos D) <ℤ (pos 2 *ℤ (q +ℤ pos 1) *ℤ pos D)
    → (pos 2 *ℤ (S +ℤ x *ℤ pos D) +ℤ pos D) <ℤ (pos 2 *ℤ (q +ℤ x +ℤ pos 1) *ℤ pos D)
shift_high D = all₃ _ (λ p n q m r s. simp ints (omega arith))

-- D more in the sum for each one more in the answer
pub round_shift : (S x : ℤ) (D : ℕ) → 0 < D → round_div (S +ℤ x *ℤ pos D) D ≡ round_div S D +ℤ x
round_shift S x D h =
    let b : Between S D (round_div S D) = round_between S D h in
    round_is h (record { low = shift_low D S x (round_div S D) b.low; high = shift_high D S x (round_div S D) b.high })

-- ---- four times the sum over four times the divisor

four_low : (D : ℕ) (S q : ℤ) → (pos 2 *ℤ q *ℤ pos D) ≤ℤ (pos 2 *ℤ S +ℤ pos D) → (pos 2 *ℤ q *ℤ pos (4 * D)) ≤ℤ (pos 2 *ℤ (pos 4 *ℤ S) +ℤ pos (4 * D))
four_low D = all₂ _ (λ p n q m. simp ints (omega arith))

four_high : (D : ℕ) (S q : ℤ) → (pos 2 *ℤ S +ℤ pos D) <ℤ (pos 2 *ℤ (q +ℤ pos 1) *ℤ pos D)
    → (pos 2 *ℤ (pos 4 *ℤ S) +ℤ pos (4 * D)) <ℤ (pos 2 *ℤ (q +ℤ pos 1) *ℤ pos (4 * D))
four_high D = all₂ _ (λ p n q m. simp ints (omega arith))

pub round_four : (S : ℤ) (D : ℕ) → 0 < D → round_div (pos 4 *ℤ S) (4 * D) ≡ round_div S D
round_four S D h =
    let b : Between S D (round_div S D) = round_between S D h in
    round_is (omega arith) (record { low = four_low D S (round_div S D) b.low; high = four_high D S (round_div S D) b.high })

whole_low : (D : ℕ) (x : ℤ) → (pos 2 *ℤ x *ℤ pos D) ≤ℤ (pos 2 *ℤ (x *ℤ pos D) +ℤ pos D)
whole_low D = all₁ _ (λ p n. simp ints (omega arith))

whole_high : (D : ℕ) → 0 < D → (x : ℤ) → (pos 2 *ℤ (x *ℤ pos D) +ℤ pos D) <ℤ (pos 2 *ℤ (x +ℤ pos 1) *ℤ pos D)
whole_high D h = all₁ _ (λ p n. simp ints (omega arith))

-- a sum that D divides
pub round_whole : (x : ℤ) (D : ℕ) → 0 < D → round_div (x *ℤ pos D) D ≡ x
round_whole x D h = round_is h (record { low = whole_low D x; high = whole_high D h x })

-- ---- distance

gap : (D e : ℕ) (a b x y : ℤ) → nat_abs (a -ℤ b) ≤ e * D
    → (pos 2 *ℤ x *ℤ pos D) ≤ℤ (pos 2 *ℤ a +ℤ pos D) → (pos 2 *ℤ a +ℤ pos D) <ℤ (pos 2 *ℤ (x +ℤ pos 1) *ℤ pos D)
    → (pos 2 *ℤ y *ℤ pos D) ≤ℤ (pos 2 *ℤ b +ℤ pos D) → (pos 2 *ℤ b +ℤ pos D) <ℤ (pos 2 *ℤ (y +ℤ pos 1) *ℤ pos D)
    → nat_abs (x -ℤ y) ≤ e
gap D e =
    all₄ _ (λ p n q m r s t u. simp ints (λ h l₁ h₁ l₂ h₂. (
      le_of_suc-le-suc (lt_of_mul-lt-mul_right D {m = r + u} {n = suc (s + t + e)} (omega arith)),
      le_of_suc-le-suc (lt_of_mul-lt-mul_right D {m = s + t} {n = suc (r + u + e)} (omega arith)),
    )))

-- sums at most e times D apart are rounded to numbers at most e apart
pub round_near : {a b : ℤ} (D e : ℕ) → 0 < D → Near (e * D) a b → Near e (round_div a D) (round_div b D)
round_near {a} {b} D e h n =
    let x : Between a D (round_div a D) = round_between a D h in
    let y : Between b D (round_div b D) = round_between b D h in
    record { apart = gap D e a b (round_div a D) (round_div b D) n.apart x.low x.high y.low y.high }

-- ---- by division that rounds down, with half the divisor added

floor_low : (D : ℕ) (S q : ℤ) → (q *ℤ pos D) ≤ℤ (S +ℤ pos (D / 2)) → (pos 2 *ℤ q *ℤ pos D) ≤ℤ (pos 2 *ℤ S +ℤ pos D)
floor_low D = all₂ _ (λ p n q m. simp ints (omega arith))

floor_high : (D : ℕ) (S q : ℤ) → (S +ℤ pos (D / 2)) <ℤ ((q +ℤ pos 1) *ℤ pos D) → (pos 2 *ℤ S +ℤ pos D) <ℤ (pos 2 *ℤ (q +ℤ pos 1) *ℤ pos D)
floor_high D = all₂ _ (λ p n q m. simp ints (omega arith))

pub floor_round : (S : ℤ) (D : ℕ) (q : ℤ) → 0 < D → Floor (S +ℤ pos (D / 2)) (pos D) q → q ≡ round_div S D
floor_round S D q h f = sym (round_is h (record { low = floor_low D S q f.low; high = floor_high D S q f.high }))

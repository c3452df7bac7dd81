-- The rules of the table of weights, each by one test over the whole table: the paper's formula, which nothing else meets, symmetry, sums,
-- sums of sizes, the same for the taps that EXPAND takes at even and at odd columns, and half of the centre's weight. Assumes nothing.
use mathlib.Core.Path.{◌≡◌, sym, ap, ◌∙◌, fun_ext}
use mathlib.Core.Bool.{Bool, false, cond}
use Prim.Native.Nat.{ℕ, zero, suc, ◌+◌, ◌-◌, ◌*◌, ◌%◌, ◌≤◌, ◌<◌}
use native.Mathlib.Nat.{mod-add-mod}
use native.Mathlib.Omega.{arith}
use lib.Dec.{T, leb, eqb, leb→le, eqb→eq}
use lib.IntN.{ℤ, pos, negsuc, nat_abs, ◌-ℤ◌}
use lib.ListN.{get_or}
use lib.Signed.{quot_z}
use mir.Syntax.{w32}
use mir.Val.{SFits}
use Rattle.std.proofs.lemmas.Int.{ints}
use mathlib.Core.List.{[], ◌∷◌}
use Rattle.mathematics.specs.Definitions.Tests.{all_below}
use Rattle.mathematics.specs.Definitions.Sums.{sum}
use Rattle.mathematics.proofs.Tests.{below_at, between_at}
use Rattle.mathematics.proofs.Sums.{total}
use Rattle.mathematics.proofs.Held.{held, held_is, natural_fits}
use Rattle.mathematics.specs.Definitions.Distances.{distance}
use Rattle.pyramid.specs.Definitions.Weights.{weights, weight, WeightRule}
use Rattle.pyramid.specs.Definitions.Steps.{even_weight}
use Rattle.pyramid.specs.Definitions.Bound.{hundredths}
use Rattle.pyramid.specs.Checks.Multiplier.{gain, Multipliers}
use Rattle.pyramid.specs.Inner.Lawful.{Kernel}

-- a test of the four kernels holds at each lawful one
at_kernel : (test : ℕ → Bool) → T (all_below 4 (λ n. test (3 + n))) → {k : ℕ} → Kernel k → T (test k)
at_kernel test t {k} h = between_at 3 4 test t k h.least (omega (arith, h.most))

-- x is y
is : ℤ → ℤ → Bool
is (pos m) (pos n) = eqb m n
is (pos m) (negsuc n) = false
is (negsuc m) (pos n) = false
is (negsuc m) (negsuc n) = eqb m n

is_eq : (x y : ℤ) → T (is x y) → x ≡ y
unfolding is
is_eq (pos m) (pos n) t = ap pos (eqb→eq m n t)
is_eq (pos m) (negsuc n) t = absurd t
is_eq (negsuc m) (pos n) t = absurd t
is_eq (negsuc m) (negsuc n) t = ap negsuc (eqb→eq m n t)

-- the sizes of five weights together
abbrev pub size : (ℕ → ℤ) → ℕ
size a = total 5 (λ t. nat_abs (a t))

-- ---- the paper's formula

-- by the tap
abbrev formula : ℕ → ℕ → ℤ
formula k t = get_or ((pos 5 -ℤ pos k) ∷ pos 5 ∷ pos (2 * k) ∷ pos 5 ∷ (pos 5 -ℤ pos k) ∷ []) t (pos 0)

weight_formula : {k : ℕ} → Kernel k → (t : ℕ) → t < 5 → weight k t ≡ formula k t
weight_formula {k} h t l =
    is_eq (weight k t) (formula k t)
    (below_at 5 (λ t. is (weight k t) (formula k t)) (at_kernel (λ k. all_below 5 (λ t. is (weight k t) (formula k t))) (unfold all_below is weight weights in tt) h) t l)

pub weight_rule : {k : ℕ} → Kernel k → WeightRule k (weight k)
weight_rule h = record {
  centre = weight_formula h 2 (omega arith);
  beside = (weight_formula h 1 (omega arith), weight_formula h 3 (omega arith));
  outer = (weight_formula h 0 (omega arith), weight_formula h 4 (omega arith));
}

-- nothing else meets it
pub weight_only : {k : ℕ} {v w : ℕ → ℤ} → WeightRule k v → WeightRule k w → (t : ℕ) → t < 5 → v t ≡ w t
weight_only a b zero l = a.outer.0 ∙ sym b.outer.0
weight_only a b (suc zero) l = a.beside.0 ∙ sym b.beside.0
weight_only a b (suc (suc zero)) l = a.centre ∙ sym b.centre
weight_only a b (suc (suc (suc zero))) l = a.beside.1 ∙ sym b.beside.1
weight_only a b (suc (suc (suc (suc zero)))) l = a.outer.1 ∙ sym b.outer.1
weight_only a b (suc (suc (suc (suc (suc t))))) l = absurd (omega arith)

-- ---- all taps

pub weight_symmetric : (k t : ℕ) → t ≤ 4 → weight k (4 - t) ≡ weight k t
unfolding weight
weight_symmetric k t h = let e : distance (4 - t) 2 ≡ distance t 2 = omega arith in rw e

pub weight-sum : {k : ℕ} → Kernel k → sum 5 (weight k) ≡ pos 20
weight-sum {k} h = is_eq (sum 5 (weight k)) (pos 20) (at_kernel (λ k. is (sum 5 (weight k)) (pos 20)) (unfold all_below is sum weight weights in tt) h)

pub weight-size : {k : ℕ} → Kernel k → size (weight k) ≤ 24
weight-size {k} h = leb→le (size (weight k)) 24 (at_kernel (λ k. leb (size (weight k)) 24) (unfold all_below total weight weights in tt) h)

-- ---- the taps of EXPAND

-- they depend on the column's parity alone
pub even_parity : (k i : ℕ) → even_weight k i ≡ even_weight k (i % 2)
unfolding even_weight
even_parity k i = fun_ext (λ t. ap (λ (m : ℕ). cond (eqb m 0) (weight k t) (pos 0)) (sym (mod-add-mod i 2 t)))

-- so that a test of the four kernels and both parities holds at each lawful kernel and each column
at_column : (test : ℕ → (ℕ → ℤ) → Bool) → T (all_below 4 (λ n. all_below 2 (λ i. test (3 + n) (even_weight (3 + n) i)))) → {k : ℕ} → Kernel k → (i : ℕ)
    → T (test k (even_weight k i))
at_column test t {k} h i =
    rw (even_parity k i) (below_at 2 (λ i. test k (even_weight k i)) (at_kernel (λ k. all_below 2 (λ i. test k (even_weight k i))) t h) (i % 2) (omega arith))

pub even_sum : {k : ℕ} → Kernel k → (i : ℕ) → sum 5 (even_weight k i) ≡ pos 10
even_sum {k} h i = is_eq (sum 5 (even_weight k i)) (pos 10) (at_column (λ k a. is (sum 5 a) (pos 10)) (unfold all_below is sum even_weight weight weights in tt) h i)

-- ---- EXPAND's gain, whose square is the bound's multiplier in hundredths

pub even_size : {k : ℕ} → Kernel k → (i : ℕ) → size (even_weight k i) ≤ gain k
even_size {k} h i =
    leb→le (size (even_weight k i)) (gain k) (at_column (λ k a. leb (size a) (gain k)) (unfold all_below total gain even_weight weight weights in tt) h i)

pub gain_square : {k : ℕ} → Kernel k → hundredths k ≡ gain k * gain k
gain_square {k} h =
    eqb→eq (hundredths k) (gain k * gain k)
    (at_kernel (λ k. eqb (hundredths k) (gain k * gain k)) (unfold all_below hundredths gain even_weight weight weights in tt) h)

pub gain_most : {k : ℕ} → Kernel k → gain k ≤ 14
gain_most {k} h = leb→le (gain k) 14 (at_kernel (λ k. leb (gain k) 14) (unfold all_below gain even_weight weight weights in tt) h)

pub multipliers : Multipliers
unfolding total
multipliers k least most = let h : Kernel k = record { least = least; most = most } in record { most = λ i. omega (arith, even_size h i); square = gain_square h }

pub hundredths_most : {k : ℕ} → Kernel k → hundredths k ≤ 196
hundredths_most {k} h = leb→le (hundredths k) 196 (at_kernel (λ k. leb (hundredths k) 196) (unfold all_below hundredths in tt) h)

-- ---- half of the centre's weight, as `Weights::new` forms it

abbrev half : ℕ → ℤ
half n = quot_z (held (get_or (get_or weights n []) 0 (pos 0))) (pos 2)

module _ {k n : ℕ} (h : Kernel k) (e : n ≡ k - 3) where
  half_row : half n ≡ pos (3 + n)
  half_row = is_eq (half n) (pos (3 + n)) (below_at 4 (λ n. is (half n) (pos (3 + n))) (unfold all_below is weights in tt) n (omega (arith, h.least, h.most, e)))

  half_is : half n ≡ pos k
  half_is = half_row ∙ ap pos (omega (arith, h.least, e))

  pub half_fits : SFits w32 (half n)
  half_fits = rw half_is (natural_fits (record { fits = omega (arith, h.most) }))

  pub half_held : held (half n) ≡ pos k
  half_held = held_is half_fits ∙ half_is

  pub outer_fits : SFits w32 (pos 5 -ℤ held (half n))
  outer_fits = rw half_held (omega (arith, ints, h.most))

-- Laws of the weighted sum: rows before columns, columns before rows, a constant level, how far apart those of two levels are, and the size of every partial sum.
-- Assumes nothing.
use mathlib.Core.Path.{◌≡◌, ap, ◌∙◌, subst, fun_ext}
use Prim.Native.Nat.{ℕ, ◌*◌, ◌≤◌, ◌<◌}
use native.Mathlib.Nat.{mul_assoc, mul-le-mul, mul-le-mul_right, le_trans, le_refl}
use native.Mathlib.Omega.{arith}
use lib.IntN.{ℤ, nat_abs, ◌*ℤ◌, *ℤ_comm}
use Rattle.mathematics.specs.Definitions.Sums.{sum}
use Rattle.mathematics.proofs.Integers.{ints, all₃}
use Rattle.mathematics.proofs.IntegerLaws.{*ℤ-assoc, abs-*ℤ, abs_product}
use Rattle.mathematics.proofs.Distance.{Near, near_mul}
use Rattle.mathematics.proofs.Sums.{total, mul_total, total_mul, total_mono, near_sum, abs_of_sum, sum_scale, sum_swap}
use Rattle.pyramid.specs.Definitions.Sizes.{Level}
use Rattle.pyramid.specs.Definitions.Steps.{weighted_sum}
use Rattle.pyramid.specs.Inner.Ranges.{row_sum}
use Rattle.pyramid.specs.Inner.Rows.{column_sum}
use Rattle.pyramid.specs.Inner.Ranges.{PartialSums}
use Rattle.pyramid.proofs.Weights.{size}

factor : (a b v : ℤ) → a *ℤ b *ℤ v ≡ b *ℤ (a *ℤ v)
factor = all₃ _ (λ p n q m r s. simp ints (omega arith))

turn : (a b c : ℤ) → (c *ℤ a) *ℤ b ≡ (a *ℤ b) *ℤ c
turn = all₃ _ (λ p n q m r s. simp ints (omega arith))

-- the first of five taps, of values within e of 0
pub taps_small : (w v : ℕ → ℤ) (m e : ℕ) → m ≤ 5 → ((t : ℕ) → t < m → nat_abs (v t) ≤ e) → nat_abs (sum m (λ t. w t *ℤ v t)) ≤ size w * e
taps_small w v m e h small =
    le_trans (abs_of_sum m (λ t. w t *ℤ v t) (λ t. nat_abs (w t) * e) (λ t ht. abs_product (nat_abs (w t)) e (w t) (v t) (le_refl (nat_abs (w t))) (small t ht)))
    (rw (total_mul e m (λ t. nat_abs (w t))) (mul-le-mul_right e (total_mono m 5 (λ t. nat_abs (w t)) h)))

module _ (a b : ℕ → ℤ) (x y : ℕ → ℕ) where
  -- along the rows first, then down the columns
  pub weighted_rows : (g : Level) → weighted_sum a b x y g ≡ sum 5 (λ n. b n *ℤ row_sum a x y g n)
  unfolding weighted_sum
  weighted_rows g =
      ap (sum 5) (fun_ext (λ n. ap (sum 5) (fun_ext (λ m. factor (a m) (b n) (g (x m) (y n)))) ∙ sum_scale (b n) 5 (λ m. a m *ℤ g (x m) (y n))))

  -- down the columns first, then along the rows
  pub weighted_columns : (g : Level) → weighted_sum a b x y g ≡ sum 5 (λ m. a m *ℤ column_sum b y g (x m))
  unfolding weighted_sum column_sum
  weighted_columns g =
      sum_swap 5 5 (λ n m. a m *ℤ b n *ℤ g (x m) (y n))
      ∙ ap (sum 5) (fun_ext (λ m. ap (sum 5) (fun_ext (λ n. *ℤ-assoc (a m) (b n) (g (x m) (y n)))) ∙ sum_scale (a m) 5 (λ n. b n *ℤ g (x m) (y n))))

  -- a level that is c everywhere
  pub weighted_constant : (c : ℤ) → weighted_sum a b x y (λ i j. c) ≡ (sum 5 a *ℤ sum 5 b) *ℤ c
  weighted_constant c =
      weighted_rows (λ i j. c)
      ∙ ap (sum 5) (fun_ext (λ n. ap (λ (z : ℤ). b n *ℤ z) row ∙ *ℤ_comm (b n) (c *ℤ sum 5 a)))
      ∙ sum_scale (c *ℤ sum 5 a) 5 b
      ∙ turn (sum 5 a) (sum 5 b) c
    where
      row : sum 5 (λ m. a m *ℤ c) ≡ c *ℤ sum 5 a
      row = ap (sum 5) (fun_ext (λ m. *ℤ_comm (a m) c)) ∙ sum_scale c 5 a

  module _ (u v : Level) (e : ℕ) (close : (m n : ℕ) → m < 5 → n < 5 → Near e (u (x m) (y n)) (v (x m) (y n))) where
    abbrev far : ℕ → ℕ → ℕ
    far n m = nat_abs (a m) * (nat_abs (b n) * e)

    each : (n m : ℕ) → nat_abs (a m *ℤ b n) * e ≡ far n m
    each n m = rw (abs-*ℤ, mul_assoc)

    whole : total 5 (λ n. total 5 (λ m. far n m)) ≡ size a * (size b * e)
    whole =
        ap (total 5) (fun_ext (λ n. total_mul (nat_abs (b n) * e) 5 (λ m. nat_abs (a m))))
        ∙ mul_total (size a) 5 (λ n. nat_abs (b n) * e)
        ∙ ap (λ (k : ℕ). size a * k) (total_mul e 5 (λ n. nat_abs (b n)))

    pub near_weighted : Near (size a * (size b * e)) (weighted_sum a b x y u) (weighted_sum a b x y v)
    unfolding weighted_sum
    near_weighted =
        subst (λ (n : ℕ). Near n (weighted_sum a b x y u) (weighted_sum a b x y v)) whole
        (near_sum 5 _ _ (λ n. total 5 (λ m. far n m)) (λ n hn. near_sum 5 _ _ (λ m. far n m) (λ m hm.
        subst (λ (d : ℕ). Near d (a m *ℤ b n *ℤ u (x m) (y n)) (a m *ℤ b n *ℤ v (x m) (y n))) (each n m)
        (near_mul (a m *ℤ b n) (close m n hm hn)))))

  module _ (g : Level) (e : ℕ) (small : (m n : ℕ) → m < 5 → n < 5 → nat_abs (g (x m) (y n)) ≤ e) where
    row : (m n : ℕ) → m ≤ 5 → n < 5 → nat_abs (sum m (λ t. a t *ℤ g (x t) (y n))) ≤ size a * e
    row m n hm hn = taps_small a (λ t. g (x t) (y n)) m e hm (λ t ht. small t n (omega arith) hn)

    column : (n : ℕ) → n ≤ 5 → nat_abs (sum n (λ t. b t *ℤ row_sum a x y g t)) ≤ size b * (size a * e)
    column n hn = taps_small b (row_sum a x y g) n (size a * e) hn (λ t ht. row 5 t (le_refl 5) (omega arith))

    -- every partial sum, for weights whose sizes together are at most c
    pub partial_sums : (c : ℕ) → size a ≤ c → size b ≤ c → PartialSums a b x y g (c * e) (c * (c * e))
    partial_sums c ha hb =
        record {
          rows = λ m n hm hn. le_trans (row m n hm hn) (mul-le-mul_right e ha);
          columns = λ n hn. le_trans (column n hn) (mul-le-mul hb (mul-le-mul_right e ha));
        }

-- Each test of the definitions decides its rule in document 01's words. Assumes nothing.
use mathlib.Core.Path.{◌≡◌}
use mathlib.Core.Logic.{◌↔◌}
use mathlib.Core.Bool.{Bool, ◌&&◌}
use mathlib.Core.List.{List}
use Prim.Native.Nat.{ℕ, zero, suc, ◌-◌, ◌*◌, ◌%◌, ◌^◌, ◌≤◌, ◌<◌}
use native.Mathlib.Nat.{mul_comm}
use native.Mathlib.Omega.{arith}
use borrow.Author.Tests.{lt-leb}
use lib.Dec.{T, leb, ltb, eqb, leb→le, le→leb, ltb→lt, lt→ltb, nleb→lt, eqb→eq, eqb_refl}
use lib.IntN.{ℤ, nat_abs}
use lib.ListN.{get_or}
use Rattle.mathematics.specs.Definitions.Tests.{all_below}
use Rattle.mathematics.proofs.Tests.{both_of, then, cond_elim, below_at, all_inside, inside_all}
use Rattle.pyramid.specs.declared.Settings.{Settings}
use Rattle.pyramid.specs.Definitions.Settings.{side_ok, depth_ok, divides, kernel_ok, black_white_ok, bin, slot_ok, size_ok, bins_ok}
use Rattle.pyramid.specs.Definitions.Sizes.{columns_at, rows_at}
use Rattle.pyramid.specs.Definitions.Rebuilding.{value_of}
use Rattle.pyramid.specs.Definitions.Buffers.{read_levels}
use Rattle.pyramid.specs.Definitions.Refusals.{limit, values_ok, pixels_ok}
use Rattle.pyramid.specs.Checks.Conditions.{SideRule, DividesRule, SlotRule, size_rule, pixels_rule, values_rule}
use Rattle.pyramid.proofs.Buffers.{stack-all, all-stack}
use Rattle.pyramid.proofs.Rules.{both_say}

-- ---- tests that decide

pub le_decides : (m n : ℕ) → T (leb m n) ↔ (m ≤ n)
le_decides m n = (leb→le m n, le→leb m n)

pub lt_decides : (m n : ℕ) → T (ltb m n) ↔ (m < n)
lt_decides m n = (ltb→lt m n, lt→ltb m n)

pub eq_decides : (m n : ℕ) → T (eqb m n) ↔ (m ≡ n)
eq_decides m n = (eqb→eq m n, λ e. rw e (eqb_refl n))

below_all : (n : ℕ) (test : ℕ → Bool) → ((l : ℕ) → l < n → T (test l)) → T (all_below n test)
unfolding all_below
below_all zero test h = tt
below_all (suc n) test h = both_of (all_below n test) (test n) (below_all n test (λ l k. h l (omega arith))) (h n (omega arith))

-- ---- the settings' rules

pub side_decides : (side : ℕ) → T (side_ok side) ↔ SideRule side
unfolding side_ok
side_decides side = both_say (leb 2 side) (leb side 129) (le_decides 2 side) (le_decides side 129)

pub size_decides : (columns rows : ℕ) → T (size_ok columns rows) ↔ (size_rule columns rows).says
unfolding size_ok
size_decides columns rows = both_say (side_ok columns) (side_ok rows) (side_decides columns) (side_decides rows)

pub depth_decides : (depth : ℕ) → T (depth_ok depth) ↔ (depth ≤ 6)
unfolding depth_ok
depth_decides depth = le_decides depth 6

pub divides_decides : (depth side : ℕ) → T (divides depth side) ↔ DividesRule depth side
unfolding divides
divides_decides depth side = eq_decides ((side - 1) % 2 ^ depth) 0

module _ (depth l n : ℕ) where
  filled_decides : T (leb 1 n && leb n 255) ↔ ((1 ≤ n) × (n ≤ 255))
  filled_decides = both_say (leb 1 n) (leb n 255) (le_decides 1 n) (le_decides n 255)

  slot_decides : T (slot_ok depth l n) ↔ SlotRule depth l n
  unfolding slot_ok
  slot_decides = (
    λ t. record {
      upto = λ h. filled_decides.0 (then (leb l depth) (leb 1 n && leb n 255) (eqb n 0) (le→leb l depth h) t);
      above = λ h. eqb→eq n 0 (rw (lt-leb l depth h) at t);
    },
    λ r. cond_elim (leb l depth) (leb 1 n && leb n 255) (eqb n 0) T (λ t. filled_decides.1 (r.upto (leb→le l depth t))) (λ t. (eq_decides n 0).1 (r.above (nleb→lt l depth t))),
  )

module _ (s : Settings) where
  pub kernel_decides : T (kernel_ok s.kernel) ↔ ((3 ≤ s.kernel) × (s.kernel ≤ 6))
  unfolding kernel_ok
  kernel_decides = both_say (leb 3 s.kernel) (leb s.kernel 6) (le_decides 3 s.kernel) (le_decides s.kernel 6)

  pub black_white_decides : T (black_white_ok s.black s.white) ↔ ((s.black < s.white) × (s.white ≤ 255))
  unfolding black_white_ok
  black_white_decides = both_say (ltb s.black s.white) (leb s.white 255) (lt_decides s.black s.white) (le_decides s.white 255)

  pub bins_decide : T (bins_ok s) ↔ ((l : ℕ) → l < 7 → SlotRule s.depth l (bin s l))
  unfolding bins_ok
  bins_decide = (
    λ t l h. (slot_decides s.depth l (bin s l)).0 (below_at 7 (λ l. slot_ok s.depth l (bin s l)) t l h),
    λ r. below_all 7 (λ l. slot_ok s.depth l (bin s l)) (λ l h. (slot_decides s.depth l (bin s l)).1 (r l h)),
  )

  pub values_within : (levels : List ℤ)
      → T (values_ok s levels) ↔ ((l i j : ℕ) → l ≤ s.depth → i < columns_at s l → j < rows_at s l → nat_abs (value_of s l (read_levels s levels l i j)) ≤ limit)
  unfolding values_ok
  values_within levels = (
    λ t l i j hl hi hj. leb→le _ limit (stack-all s (λ v. leb (nat_abs v) limit) (λ l i j. value_of s l (read_levels s levels l i j)) s.depth t l i j hl hi hj),
    λ r. all-stack s (λ v. leb (nat_abs v) limit) (λ l i j. value_of s l (read_levels s levels l i j)) s.depth (λ l i j hl hi hj. le→leb _ limit (r l i j hl hi hj)),
  )

  pub values_decide : (levels : List ℤ) → T (values_ok s levels) ↔ (values_rule s levels).says
  unfolding value_of
  values_decide levels = values_within levels

  pub picture_decides : (picture : ℕ) → T (eqb picture (s.rows * s.columns)) ↔ (picture ≡ s.columns * s.rows)
  picture_decides picture = rw (mul_comm s.rows s.columns) (eq_decides picture (s.columns * s.rows))

  pub pixel_decides : (pixel : ℕ) → T (leb s.black pixel && leb pixel s.white) ↔ ((s.black ≤ pixel) × (pixel ≤ s.white))
  pixel_decides pixel = both_say (leb s.black pixel) (leb pixel s.white) (le_decides s.black pixel) (le_decides pixel s.white)

  pub pixels_decide : (picture : List ℕ) → T (pixels_ok s picture) ↔ (pixels_rule s picture).says
  unfolding pixels_ok
  pixels_decide picture = (
    λ t p h. (pixel_decides (get_or picture p 0)).0 (all_inside (λ p. leb s.black p && leb p s.white) 0 picture t p h),
    λ r. inside_all (λ p. leb s.black p && leb p s.white) 0 picture (λ p h. (pixel_decides (get_or picture p 0)).1 (r p h)),
  )

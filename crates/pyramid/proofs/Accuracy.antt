-- Demand 3: after any list of generations no pixel has moved by more than the accepted generations' level 0 bounds together, and in each
-- accepted generation every level's rebuilt values lie within that level's bound of its averages. Assumes nothing.
use mathlib.Core.Path.{◌≡◌, refl, sym, ap, ◌∙◌, subst}
use mathlib.Core.List.{List, [], ◌∷◌, append-nil}
use Prim.Native.Nat.{ℕ, zero, suc, ◌+◌, ◌*◌, ◌≤◌, ◌<◌}
use native.Mathlib.Omega.{arith}
use native.Mathlib.Decide.{dec_lt}
use lib.IntN.{ℤ}
use lib.ListN.{length, get_or, get_or-eq_default}
use Rattle.mathematics.proofs.Distance.{Near}
use Rattle.mathematics.specs.Definitions.Distances.{distance}
use Rattle.pyramid.specs.declared.Settings.{Settings}
use Rattle.pyramid.specs.declared.Manner.{Manner}
use Rattle.pyramid.specs.Definitions.Sizes.{Level, last}
use Rattle.pyramid.specs.Definitions.Pyramid.{average}
use Rattle.pyramid.specs.Definitions.Rebuilding.{rebuilt, clamp}
use Rattle.pyramid.specs.Definitions.Manners.{index}
use Rattle.pyramid.specs.Definitions.Bound.{bound_at}
use Rattle.pyramid.specs.Definitions.Buffers.{raster, pixels, read_levels}
use Rattle.pyramid.specs.Definitions.Calls.{leaves, coding, rebuilding}
use Rattle.pyramid.specs.Definitions.Generations.{Generation, coded, rebuilt_from, outcome, left_by, counted_bound, at_hand, bound_sum}
use Rattle.pyramid.specs.Theorems.Accuracy.{LevelsWithin, Accuracy}
use Rattle.pyramid.proofs.Sizes.{last-zero}
use Rattle.pyramid.proofs.Within.{NearAt}
use Rattle.pyramid.proofs.ClosedLoop.{rebuilt-near}
use Rattle.pyramid.proofs.Clamps.{clamp_near, coded_pixel}
use Rattle.pyramid.specs.Inner.Accepted.{Accepted}
use Rattle.pyramid.proofs.Refusals.{first_nil, first_none, first_pass, accepted_coding, leaves_new}
use Rattle.pyramid.proofs.Buffers.{inside, length-raster, raster_at, by_place, read_stack}

-- ---- one accepted generation

module _ (picture : List ℕ) (g : Generation) where
  abbrev s : Settings
  s = g.settings

  abbrev p : Level
  p = pixels s.columns picture

  abbrev m : ℕ → Level
  m = read_levels s (coded picture g).levels

  module _ (ok : outcome picture g ≡ 0) where
    coded_ok : (coded picture g).answer ≡ 0
    unfolding outcome
    coded_ok = (first_none _ _ ok).0

    rebuilt_ok : (rebuilt_from picture g).answer ≡ 0
    unfolding outcome
    rebuilt_ok = (first_none _ _ (first_none _ _ ok).1).0

    call : Accepted s picture g.levels g.work
    unfolding coding
    call = accepted_coding s picture g.levels g.work coded_ok

    indices : (l : ℕ) → l ≤ s.depth → (i j : ℕ) → i ≤ last s.columns l → j ≤ last s.rows l → m l i j ≡ index s g.manner (average s p) l i j
    unfolding coding
    indices l hl i j hi hj =
        ap (λ (b : List ℤ). read_levels s b l i j) (leaves_new _ _ _ coded_ok ∙ sym (append-nil _))
        ∙ read_stack s (index s g.manner (average s p)) l i j [] hl (omega arith) (omega arith)

    near : (l : ℕ) → l ≤ s.depth → NearAt s call.law l (bound_at s g.manner l) (rebuilt s m l) (average s p l)
    near = rebuilt-near s call.law g.manner (average s p) m indices

    levels_within : LevelsWithin picture g
    unfolding rebuilding
    levels_within l i j hl hi hj =
        (subst (λ (z : ℤ). Near (bound_at s g.manner l) z (average s p l i j))
        (sym (ap (λ (b : List ℤ). read_levels s b l i j) (leaves_new _ _ _ rebuilt_ok) ∙ read_stack s (rebuilt s m) l i j _ hl hi hj))
        (near l hl i j (omega arith) (omega arith))).apart

    pixel : ℕ → ℕ → ℕ
    pixel i j = clamp s (rebuilt s m 0 i j)

    picture_is : (rebuilt_from picture g).picture ≡ raster s.columns s.rows pixel
    unfolding rebuilding pixel
    picture_is = leaves_new _ _ _ rebuilt_ok

    size : length (rebuilt_from picture g).picture ≡ length picture
    size = ap length picture_is ∙ length-raster s.columns s.rows pixel ∙ sym call.sized.picture_is

    -- what holds of each pixel of the rebuilt picture, and past its end, holds at each place
    each_pixel : (P : ℕ → ℕ → Type 0) → ((i j : ℕ) → i < s.columns → j < s.rows → P (j * s.columns + i) (pixel i j))
        → ((q : ℕ) → length picture ≤ q → P q 0) → (q : ℕ) → P q (get_or (rebuilt_from picture g).picture q 0)
    each_pixel P at past q = cases (dec_lt q (s.rows * s.columns))
      where
        at_node : (i j : ℕ) → i < s.columns → j < s.rows → P (j * s.columns + i) (get_or (raster s.columns s.rows pixel) (j * s.columns + i) 0)
        at_node i j hi hj = rw (raster_at s.columns s.rows pixel 0 i j hi hj) (at i j hi hj)

        cases : Dec (q < s.rows * s.columns) → P q (get_or (rebuilt_from picture g).picture q 0)
        cases (yes h) =
            rw picture_is (by_place s.columns s.rows (λ q. P q (get_or (raster s.columns s.rows pixel) q 0)) (omega (arith, call.law.shaped.across.least)) at_node q h)
        cases (no h) =
            rw (get_or-eq_default (rebuilt_from picture g).picture 0 {n = q} (omega (arith, size, call.sized.picture_is)))
            (past q (omega (arith, call.sized.picture_is)))

    moved : (q : ℕ) → distance (get_or (rebuilt_from picture g).picture q 0) (get_or picture q 0) ≤ bound_at s g.manner 0
    unfolding pixel average pixels coding
    moved = each_pixel (λ q b. distance b (get_or picture q 0) ≤ bound_at s g.manner 0)
        (λ i j hi hj.
        let (black, white) = coded_pixel s picture g.levels g.work coded_ok (j * s.columns + i) (omega (arith, inside {columns = s.columns} {rows = s.rows} hi hj, call.sized.picture_is)) in
        clamp_near s (rebuilt s m 0 i j) (near 0 (omega arith) i j (omega (arith, last-zero s.columns)) (omega (arith, last-zero s.rows))) black white)
        (λ q h. omega (arith, get_or-eq_default picture 0 {n = q} h))

  -- ---- any generation

  record Step : Type 0 where
    same : length (left_by picture g) ≡ length picture
    near' : (q : ℕ) → distance (get_or (left_by picture g) q 0) (get_or picture q 0) ≤ counted_bound picture g

  step : Step
  unfolding left_by counted_bound leaves
  step = go (outcome picture g) refl
    where
      go : (a : ℕ) → outcome picture g ≡ a → Step
      go zero e = record { same = rw e (size e); near' = rw e (moved e) }
      go (suc n) e = record { same = rw e refl; near' = rw e (λ q. omega arith) }

-- ---- a rebuilding from the levels of a coding, both accepted

module _ (s : Settings) (manner : Manner) (picture : List ℕ) (levels work : List ℤ) (target : List ℕ) (target_work : List ℤ)
    (coded : (coding s manner picture levels work).answer ≡ 0) (rebuilt : (rebuilding s (coding s manner picture levels work).levels target target_work).answer ≡ 0) where
  abbrev generation : Generation
  generation = record { settings = s; manner = manner; levels = levels; work = work; target = target; target_work = target_work }

  accepted : outcome picture generation ≡ 0
  unfolding outcome
  accepted = first_pass _ coded (first_pass _ rebuilt first_nil)

  pub rebuilt_near : (q : ℕ) → distance (get_or (rebuilding s (coding s manner picture levels work).levels target target_work).picture q 0) (get_or picture q 0) ≤ bound_at s manner 0
  rebuilt_near = moved picture generation accepted

  pub rebuilt-size : length (rebuilding s (coding s manner picture levels work).levels target target_work).picture ≡ length picture
  rebuilt-size = size picture generation accepted

-- ---- the list

pub accuracy : (picture : List ℕ) (list : List Generation) → Accuracy picture list
unfolding at_hand bound_sum
accuracy picture [] = record { size = refl; moved = λ q. omega arith; levels = tt }
accuracy picture (g ∷ later) =
    let one : Step picture g = step picture g in
    let rest : Accuracy (left_by picture g) later = accuracy (left_by picture g) later in
    record { size = rest.size ∙ one.same; moved = λ q. omega (arith, one.near' q, rest.moved q); levels = (levels_within picture g, rest.levels) }

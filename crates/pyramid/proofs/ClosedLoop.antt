-- The closed loop: what it rebuilds while it codes is what rebuilding from its indices makes; rebuilt values lie within each level's bound of
-- the averages, in either manner. Assumes nothing.
use mathlib.Core.Path.{◌≡◌, refl, sym, ap, ◌∙◌}
use mathlib.Core.List.{List, [], ◌++◌, append-nil}
use Prim.Native.Nat.{ℕ, zero, suc, ◌+◌, ◌-◌, ◌/◌, ◌≤◌, ◌<◌}
use native.Mathlib.Nat.{le_refl}
use native.Mathlib.Omega.{arith}
use lib.IntN.{ℤ, nat_abs, ◌+ℤ◌, ◌-ℤ◌}
use lib.ListN.{take, drop}
use lib.Seq.{take_at}
use Rattle.pyramid.specs.declared.Settings.{Settings}
use Rattle.pyramid.specs.declared.Manner.{Manner}
use Rattle.pyramid.specs.declared.Manner.TheVariants.{OpenLoop, ClosedLoop}
use Rattle.pyramid.specs.Definitions.Settings.{bin}
use Rattle.pyramid.specs.Definitions.Sizes.{Level, last, columns_at, rows_at, total}
use Rattle.pyramid.specs.Definitions.Pyramid.{expanded, average}
use Rattle.pyramid.specs.Definitions.Rebuilding.{value_of, rebuild, rebuilt}
use Rattle.pyramid.specs.Definitions.Manners.{quantized, closed_rebuilt, reference, index}
use Rattle.pyramid.specs.Definitions.Bound.{tolerance, bound, bound_at}
use Rattle.pyramid.specs.Definitions.Buffers.{pixels, all_levels, read_levels}
use Rattle.pyramid.specs.Definitions.Calls.{coding, rebuilding}
use Rattle.pyramid.specs.Theorems.ClosedLoop.{ReaderHas, ClosedLoops, NeverAbove}
use Rattle.pyramid.specs.Inner.Accepted.{Accepted}
use Rattle.pyramid.specs.Inner.Lawful.{Lawful}
use Rattle.pyramid.specs.Inner.Ranges.{EachNode}
use Rattle.pyramid.proofs.Within.{NearAt, near_closed, within}
use Rattle.pyramid.proofs.Differences.{difference_top, difference_below}
use Rattle.pyramid.proofs.LevelSteps.{expanded-same}
use Rattle.pyramid.proofs.Refusals.{accepted_coding, leaves_new}
use Rattle.pyramid.proofs.Buffers.{length-all, read_stack, stack_same}
use Rattle.pyramid.proofs.CodedLevels.{never_eleven}

module _ (s : Settings) (law : Lawful s) where
  -- ---- rebuilt from closed-loop indices

  module _ (g : ℕ → Level) (m : ℕ → Level) (indices : (l : ℕ) → l ≤ s.depth → EachNode s l (λ i j. m l i j ≡ index s ClosedLoop g l i j)) where
    pub rebuilt_closed : (d l : ℕ) → l + d ≡ s.depth → EachNode s l (λ i j. rebuild s m d l i j ≡ closed_rebuilt s g d l i j)
    unfolding rebuild closed_rebuilt quantized index reference
    rebuilt_closed zero l e i j hi hj = ap (value_of s l) (indices l (omega arith) i j hi hj) ∙ ap (quantized s l) (difference_top s ClosedLoop g l (omega arith) i j)
    rebuilt_closed (suc d) l e i j hi hj =
        let above : expanded s l (rebuild s m d (suc l)) i j ≡ expanded s l (closed_rebuilt s g d (suc l)) i j =
        expanded-same s law l (omega arith) (rebuild s m d (suc l)) (closed_rebuilt s g d (suc l)) (rebuilt_closed d (suc l) (omega arith)) i j hi hj in
        let k : s.depth - suc l ≡ d = omega arith in
        let own = ap (quantized s l) (difference_below s ClosedLoop g l (omega arith) i j) in
        rw (indices l (omega arith) i j hi hj, above) (ap (λ (v : ℤ). v +ℤ expanded s l (closed_rebuilt s g d (suc l)) i j) (own ∙ rw k refl))

  -- ---- in either manner, within the bound

  module _ (g : ℕ → Level) (m : ℕ → Level) where
    rebuilt-near_lem : (manner : Manner) → ((l : ℕ) → l ≤ s.depth → (i j : ℕ) → i ≤ last s.columns l → j ≤ last s.rows l → m l i j ≡ index s manner g l i j)
        → (l : ℕ) → l ≤ s.depth → NearAt s law l (bound_at s manner l) (rebuilt s m l) (g l)
    unfolding bound_at
    rebuilt-near_lem OpenLoop indices l hl i j hi hj = within s law g m indices (s.depth - l) l (omega arith) i j hi hj
    rebuilt-near_lem ClosedLoop indices l hl i j hi hj =
        rw (rebuilt_closed g m (λ l hl i j hi hj. indices l hl i j (omega arith) (omega arith)) (s.depth - l) l (omega arith) i j (omega arith) (omega arith))
        (near_closed s law g (s.depth - l) l (omega arith) i j hi hj)

  pub rebuilt-near : (manner : Manner) (g m : ℕ → Level)
      → ((l : ℕ) → l ≤ s.depth → (i j : ℕ) → i ≤ last s.columns l → j ≤ last s.rows l → m l i j ≡ index s manner g l i j)
      → (l : ℕ) → l ≤ s.depth → NearAt s law l (bound_at s manner l) (rebuilt s m l) (g l)
  rebuilt-near manner g m = rebuilt-near_lem g m manner

-- ---- what the reader will have

module _ (s : Settings) (picture : List ℕ) (levels work : List ℤ) (target : List ℕ) (target_work : List ℤ)
    (ok : (coding s ClosedLoop picture levels work).answer ≡ 0) where
  call : Accepted s picture levels work
  unfolding coding
  call = accepted_coding s picture levels work ok

  abbrev g : ℕ → Level
  g = average s (pixels s.columns picture)

  abbrev m : ℕ → Level
  m = read_levels s (coding s ClosedLoop picture levels work).levels

  indices : (l : ℕ) → l ≤ s.depth → EachNode s l (λ i j. m l i j ≡ index s ClosedLoop g l i j)
  unfolding coding
  indices l hl i j hi hj =
      ap (λ (b : List ℤ). read_levels s b l i j) (leaves_new _ _ _ ok ∙ sym (append-nil _)) ∙ read_stack s (index s ClosedLoop g) l i j [] hl hi hj

  rebuilt_is : (l : ℕ) → l ≤ s.depth → EachNode s l (λ i j. rebuilt s m l i j ≡ reference s ClosedLoop g l i j)
  unfolding reference
  rebuilt_is l hl = rebuilt_closed s call.law g m indices (s.depth - l) l (omega arith)

  front : (f : ℕ → Level) (w : List ℤ) → take (total s) (all_levels s f ++ drop (total s) w) ≡ all_levels s f
  front f w = take_at (all_levels s f) (drop (total s) w) (total s) (length-all s f)

  same : (rebuilding s (coding s ClosedLoop picture levels work).levels target target_work).answer ≡ 0
      → take (total s) (rebuilding s (coding s ClosedLoop picture levels work).levels target target_work).work ≡ take (total s) (coding s ClosedLoop picture levels work).work
  unfolding coding rebuilding
  same back =
      ap (take (total s)) (leaves_new _ _ _ back) ∙ front (rebuilt s m) target_work
      ∙ stack_same s (rebuilt s m) (reference s ClosedLoop g) s.depth (λ l i j h. rebuilt_is l h i j)
      ∙ sym (ap (take (total s)) (leaves_new _ _ _ ok) ∙ front (reference s ClosedLoop g) work)

  left : (l i j : ℕ) → l ≤ s.depth → i < columns_at s l → j < rows_at s l
      → read_levels s (coding s ClosedLoop picture levels work).work l i j ≡ reference s ClosedLoop g l i j
  unfolding coding
  left l i j hl hi hj =
      ap (λ (b : List ℤ). read_levels s b l i j) (leaves_new _ _ _ ok) ∙ read_stack s (reference s ClosedLoop g) l i j (drop (total s) work) hl hi hj

  near : (l i j : ℕ) → l ≤ s.depth → i < columns_at s l → j < rows_at s l
      → nat_abs (read_levels s (coding s ClosedLoop picture levels work).work l i j -ℤ g l i j) ≤ bin s l / 2
  unfolding reference tolerance
  near l i j hl hi hj =
      rw (left l i j hl hi hj)
      (near_closed s call.law g (s.depth - l) l (omega arith) i j (omega arith) (omega arith)).apart

  has : ReaderHas s picture levels work target target_work
  has = record { same = same; near = near; lawful = never_eleven s ClosedLoop picture levels work ok target target_work }

pub closed_loops : ClosedLoops
closed_loops s picture levels work target target_work ok = has s picture levels work target target_work ok

pub never_above : NeverAbove
unfolding bound bound_at
never_above s manner l = in_manner manner
  where
    open_loop : (d : ℕ) → tolerance s l ≤ bound s d l
    open_loop zero = le_refl (tolerance s l)
    open_loop (suc d) = omega arith

    in_manner : (manner : Manner) → bound_at s manner l ≤ bound_at s OpenLoop l
    in_manner OpenLoop = le_refl (bound s (s.depth - l) l)
    in_manner ClosedLoop = open_loop (s.depth - l)

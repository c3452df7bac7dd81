-- The bounds of the levels, from level N down: each from the one above it, small enough for 16 bits, and in its slot. Assumes nothing.
use mathlib.Core.Path.{◌≡◌, refl, sym, ◌∙◌, ap}
use mathlib.Core.Bool.{cond}
use mathlib.Core.List.{List}
use Prim.Native.Nat.{ℕ, zero, suc, ◌+◌, ◌-◌, ◌*◌, ◌/◌, ◌≤◌, ◌<◌}
use native.Mathlib.Nat.{le_refl}
use native.Mathlib.Omega.{arith}
use borrow.Author.Tests.{le-leb, lt-leb}
use lib.Dec.{leb, leb→le, le→leb, leb-zero}
use lib.ListN.{replicate, set}
use Rattle.mathematics.specs.Definitions.Tests.{all_below}
use Rattle.mathematics.specs.Definitions.Tables.{tabulate}
use Rattle.mathematics.proofs.Tests.{below_at, cond_elim, same_test}
use Rattle.mathematics.proofs.Tables.{tabulate-same, tabulate_constant, set-tabulate}
use Rattle.pyramid.specs.declared.Settings.{Settings}
use Rattle.pyramid.specs.declared.Manner.{Manner}
use Rattle.pyramid.specs.declared.Manner.TheVariants.{OpenLoop, ClosedLoop}
use Rattle.pyramid.specs.Definitions.Settings.{bin}
use Rattle.pyramid.specs.Definitions.Bound.{tolerance, bound, bound_at}
use Rattle.pyramid.specs.Inner.Lawful.{Lawful}
use Rattle.pyramid.specs.Definitions.Answers.{bound_slots}
use Rattle.pyramid.specs.Inner.Bounds.{carried}
use Rattle.pyramid.proofs.Ranges.{most_magnified}
use Rattle.pyramid.proofs.ClosedLoop.{never_above}

-- ---- the highest bounds

-- with d levels above
highest : ℕ → ℕ
highest zero = 127
highest (suc d) = (196 * highest d + 99) / 100 + 127

highest_room : (d : ℕ) → d ≤ 6 → highest d ≤ 14581
highest_room d h = leb→le (highest d) 14581 (below_at 7 (λ d. leb (highest d) 14581) (unfold all_below highest in tt) d (omega arith))

module _ (s : Settings) (law : Lawful s) where
  bound-highest : (d l : ℕ) → l + d ≡ s.depth → bound s d l ≤ highest d
  unfolding bound tolerance highest
  bound-highest zero l e = omega (arith, (law.binned l (omega arith)).most)
  bound-highest (suc d) l e =
      omega (arith, bound-highest d (suc l) (omega arith), most_magnified law.shaped.kernel (bound s d (suc l)), (law.binned l (omega arith)).most)

  open_at : (l : ℕ) → l ≤ s.depth → bound_at s OpenLoop l ≤ 14581
  unfolding bound_at
  open_at l h = omega (arith, bound-highest (s.depth - l) l (omega arith), highest_room (s.depth - l) (omega (arith, law.shaped.deep)))

  pub bound_at_most : (manner : Manner) (l : ℕ) → l ≤ s.depth → bound_at s manner l ≤ 14581
  bound_at_most manner l h = omega (arith, never_above s manner l, open_at l h)

-- ---- from the top down

-- from l + 1 on and from l on are the same but at l
other_level : (l k : ℕ) → (k ≡ l → ⊥) → leb (suc l) k ≡ leb l k
other_level l k other =
    same_test (leb (suc l) k) (leb l k) (λ t. le→leb l k (omega (arith, leb→le (suc l) k t))) (λ t. le→leb (suc l) k (omega (arith, leb→le l k t)))

bound_top : (s : Settings) (manner : Manner) → bin s s.depth / 2 ≡ bound_at s manner s.depth
unfolding bound_at bound tolerance
bound_top s OpenLoop = let none : s.depth - s.depth ≡ 0 = omega arith in rw none
bound_top s ClosedLoop = refl

bound-below : (s : Settings) (manner : Manner) (l : ℕ) → l < s.depth → carried manner s.kernel (bound_at s manner (suc l)) + bin s l / 2 ≡ bound_at s manner l
unfolding bound_at bound tolerance carried
bound-below s OpenLoop l h = let above : s.depth - l ≡ suc (s.depth - suc l) = omega arith in rw above
bound-below s ClosedLoop l h = omega arith

module _ (s : Settings) (manner : Manner) where
  -- the bounds of level l and the levels above it in their slots, 0 in the others
  in_slot : ℕ → ℕ → ℕ
  in_slot l k = cond (leb l k) (cond (leb k s.depth) (bound_at s manner k) 0) 0

  pub bounds_from : ℕ → List ℕ
  bounds_from l = tabulate 7 (in_slot l)

  no_bounds : replicate 7 0 ≡ bounds_from (suc s.depth)
  unfolding bounds_from in_slot
  no_bounds =
      sym (tabulate_constant 7 0) ∙ tabulate-same 7 (λ k. 0) (in_slot (suc s.depth)) (λ k h.
      cond_elim (leb (suc s.depth) k) _ 0 (λ n. 0 ≡ n) (λ t. rw (lt-leb k s.depth (leb→le (suc s.depth) k t))) (λ t. refl))

  one_bound : (l : ℕ) → l ≤ s.depth → l < 7 → set (bounds_from (suc l)) l (bound_at s manner l) ≡ bounds_from l
  unfolding bounds_from in_slot
  one_bound l h k =
      let here : bound_at s manner l ≡ in_slot l l = rw (le-leb l l (le_refl l), le-leb l s.depth h) in
      rw here (set-tabulate 7 (in_slot (suc l)) (in_slot l) l k (λ k other. rw (other_level l k other)))

  all_bounds : bounds_from 0 ≡ bound_slots s manner
  unfolding bounds_from in_slot bound_slots
  all_bounds = tabulate-same 7 _ _ (λ k h. rw leb-zero)

-- ---- what the loop over the levels keeps: b is the bound of level l, and the slots from l on are filled

pub record Filled (s : Settings) (manner : Manner) (out : List ℕ) (l b : ℕ) : Type 0 where
  pub law : Lawful s
  pub deep : l ≤ s.depth
  pub here : b ≡ bound_at s manner l
  pub small : b ≤ 14581
  pub slots : out ≡ bounds_from s manner l

module _ {s : Settings} {manner : Manner} where
  filled : {out : List ℕ} {l b : ℕ} → Lawful s → l ≤ s.depth → out ≡ bounds_from s manner (suc l) → b ≡ bound_at s manner l → Filled s manner (set out l b) l b
  filled {out} {l} {b} law h e here =
      record {
        law = law;
        deep = h;
        here = here;
        small = omega (arith, bound_at_most s law manner l h);
        slots = rw (e, here) (one_bound s manner l h (omega (arith, law.shaped.deep)));
      }

  pub filled_start : Lawful s → Filled s manner (set (replicate 7 0) s.depth (bin s s.depth / 2)) s.depth (bin s s.depth / 2)
  filled_start law = filled law (le_refl s.depth) (no_bounds s manner) (bound_top s manner)

  pub filled_next : {out : List ℕ} {l b : ℕ} → Filled s manner out l b → 0 < l
      → Filled s manner (set out (l - 1) (carried manner s.kernel b + bin s (l - 1) / 2)) (l - 1) (carried manner s.kernel b + bin s (l - 1) / 2)
  filled_next {out} {l} {b} f h =
      let e : suc (l - 1) ≡ l = omega arith in
      filled {out = out} f.law (omega arith) (rw e f.slots) (rw f.here (rw e at (bound-below s manner (l - 1) (omega arith))))

  pub filled_end : {out : List ℕ} {l b : ℕ} → Filled s manner out l b → l ≡ 0 → out ≡ bound_slots s manner
  filled_end f e = f.slots ∙ ap (bounds_from s manner) e ∙ all_bounds s manner

-- Levels from an accepted coding are never turned down with 11: rebuilding them answers what the lengths of its own buffers say. Each of
-- their indices lies within 4,096. Assumes nothing.
use mathlib.Core.Path.{◌≡◌, sym, ap, ◌∙◌}
use mathlib.Core.Bool.{Bool, true, false}
use mathlib.Core.List.{List, [], ◌∷◌, append-nil}
use Prim.Native.Nat.{ℕ, ◌*◌, ◌≤◌, ◌<◌}
use native.Mathlib.Omega.{arith}
use lib.Dec.{T, leb, leb→le, le→leb}
use lib.IntN.{ℤ, pos, nat_abs}
use lib.ListN.{length, get_or}
use Rattle.pyramid.specs.declared.Settings.{Settings}
use Rattle.pyramid.specs.declared.Manner.{Manner}
use Rattle.pyramid.specs.Definitions.Sizes.{Level, columns_at, rows_at, total}
use Rattle.pyramid.specs.Definitions.Pyramid.{average}
use Rattle.pyramid.specs.Definitions.Rebuilding.{value_of}
use Rattle.pyramid.specs.Definitions.Manners.{index}
use Rattle.pyramid.specs.Definitions.Buffers.{pixels, all_levels, read_levels}
use Rattle.pyramid.specs.Definitions.Refusals.{unless, first, limit, settings_refusal, buffers_refusal, values_ok, lent_refusal, pixels_ok, coding_refusal}
use Rattle.pyramid.specs.Definitions.Calls.{coding, rebuilding}
use Rattle.pyramid.specs.Inner.Ranges.{CodingRanges}
use Rattle.pyramid.specs.Inner.Accepted.{Sized, Accepted}
use Rattle.pyramid.proofs.Refusals.{first_nil, first_none, first_pass, unless_holds, accepted_coding, buffers_accepted, rebuilding_lengths, leaves_new}
use Rattle.pyramid.proofs.Buffers.{all_at, length-all, read_stack, all-stack}
use Rattle.pyramid.proofs.Ranges.{coding_ranges}
use Rattle.pyramid.proofs.Clamps.{coded_bytes}

-- the numbers that the lengths of buffers can give
not_eleven : (a b c : Bool) → first (unless a 5 ∷ unless b 6 ∷ unless c 7 ∷ []) ≡ 11 → ⊥
unfolding first unless
not_eleven true true true e = omega arith
not_eleven true true false e = omega arith
not_eleven true false c e = omega arith
not_eleven false b c e = omega arith

-- lawful settings, buffers of right lengths and pixels between black and white are accepted
pub coding_accepts : (s : Settings) (manner : Manner) (picture : List ℕ) (levels work : List ℤ) → settings_refusal s ≡ 0
    → Sized s (length picture) (length levels) (length work) → T (pixels_ok s picture) → (coding s manner picture levels work).answer ≡ 0
unfolding coding coding_refusal lent_refusal
coding_accepts s manner picture levels work e z t =
    first_pass _ (first_pass _ e (first_pass _ (buffers_accepted s z) first_nil)) (first_pass _ (unless_holds (pixels_ok s picture) 20 t) first_nil)

module _ (s : Settings) (manner : Manner) (picture : List ℕ) (levels work : List ℤ) (ok : (coding s manner picture levels work).answer ≡ 0) where
  abbrev left : List ℤ
  left = (coding s manner picture levels work).levels

  abbrev g : ℕ → Level
  g = average s (pixels s.columns picture)

  call : Accepted s picture levels work
  unfolding coding
  call = accepted_coding s picture levels work ok

  pub coded-pixels : length picture ≡ s.rows * s.columns
  coded-pixels = call.sized.picture_is

  pub coded-settings : settings_refusal s ≡ 0
  unfolding coding coding_refusal lent_refusal
  coded-settings = (first_none _ _ (first_none _ _ ok).0).0

  left_is : left ≡ all_levels s (index s manner g)
  unfolding coding
  left_is = leaves_new _ _ _ ok

  ranges : CodingRanges s manner g
  unfolding coding
  ranges = coding_ranges s call.law picture (coded_bytes s picture levels work ok) manner

  read_left : (l i j : ℕ) → l ≤ s.depth → i < columns_at s l → j < rows_at s l → read_levels s left l i j ≡ index s manner g l i j
  read_left l i j hl hi hj =
      ap (λ (b : List ℤ). read_levels s b l i j) (left_is ∙ sym (append-nil _)) ∙ read_stack s (index s manner g) l i j [] hl hi hj

  pub coded_values : T (values_ok s left)
  unfolding values_ok
  coded_values =
      all-stack s (λ v. leb (nat_abs v) limit) (λ l i j. value_of s l (read_levels s left l i j)) s.depth
      (λ l i j hl hi hj. rw (read_left l i j hl hi hj) (le→leb _ limit (ranges.values l hl i j hi hj)))

  -- by its place in the buffer; past the end 0 is read
  pub coded-small : (p : ℕ) → nat_abs (get_or left p (pos 0)) ≤ limit
  coded-small p =
      rw left_is
      (leb→le _ limit
      (all_at (λ v. leb (nat_abs v) limit) (pos 0) tt (all_levels s (index s manner g))
      (all-stack s (λ v. leb (nat_abs v) limit) (index s manner g) s.depth (λ l i j hl hi hj. le→leb _ limit (ranges.indices l hl i j hi hj)))
      p))

  pub coded-total : length left ≡ total s
  coded-total = ap length left_is ∙ length-all s (index s manner g)

  coded-length : length left ≡ length levels
  coded-length = coded-total ∙ sym call.sized.levels_is

  module _ (target : List ℕ) (target_work : List ℤ) where
    pub rebuilding-coded : (rebuilding s left target target_work).answer ≡ buffers_refusal s (length target) (length levels) (length target_work)
    unfolding rebuilding
    rebuilding-coded = rebuilding_lengths s left target target_work coded-settings coded_values ∙ ap (λ (n : ℕ). buffers_refusal s (length target) n (length target_work)) coded-length

    -- with a picture and a work buffer of right lengths it is accepted
    pub rebuilding_accepts : length target ≡ s.rows * s.columns → total s ≤ length target_work → (rebuilding s left target target_work).answer ≡ 0
    rebuilding_accepts long room = rebuilding-coded ∙ buffers_accepted s (record { picture_is = long; levels_is = call.sized.levels_is; work_least = room })

    pub never_eleven : (rebuilding s left target target_work).answer ≡ 11 → ⊥
    unfolding buffers_refusal
    never_eleven e = not_eleven _ _ _ (sym rebuilding-coded ∙ e)

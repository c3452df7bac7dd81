-- The lowest and the highest index pass the test where all do: what lies between two that pass, passes. Assumes nothing.
use mathlib.Core.Path.{◌≡◌, sym, ◌∙◌}
use mathlib.Core.Bool.{true, ◌&&◌, and_assoc, and-true}
use mathlib.Core.List.{List}
use Prim.Native.Nat.{ℕ, ◌+◌, ◌*◌, ◌≤◌, ◌<◌}
use native.Mathlib.Omega.{arith}
use borrow.Author.Tests.{le-leb}
use lib.Dec.{T, leb→le, le→leb}
use lib.IntN.{ℤ, pos, ◌*ℤ◌}
use lib.ListN.{length, get_or, drop}
use lib.Signed.{◌≤ℤ◌, lt_z, ≤ℤ_refl}
use Rattle.std.specs.Int.{int_min, int_max}
use Rattle.std.proofs.lemmas.Int.{ints, clamps}
use Rattle.mathematics.specs.Definitions.Tests.{all}
use Rattle.mathematics.proofs.IntegerLaws.{≤ℤ-trans, *ℤ-mono, abs_between}
use Rattle.mathematics.proofs.Tests.{both, both_of, same_test, cond_elim, all-next, all_past}
use Rattle.quantizer.specs.declared.testing.Range.{Range}
use Rattle.quantizer.specs.Definitions.Values.{value_ok}
use Rattle.quantizer.specs.Inner.Ranges.{widened, range_ok}

-- ---- the order of the lesser and the greater

module _ (a b : ℤ) where
  lesser-first : int_min a b ≤ℤ a
  lesser-first = omega (arith, ints, clamps)

  lesser_second : int_min a b ≤ℤ b
  lesser_second = omega (arith, ints, clamps)

  greater-first : a ≤ℤ int_max a b
  greater-first = omega (arith, ints, clamps)

  greater_second : b ≤ℤ int_max a b
  greater_second = omega (arith, ints, clamps)

-- ---- what lies between two that pass, passes

module _ (limit n : ℕ) where
  between_ok : (x y z : ℤ) → x ≤ℤ y → y ≤ℤ z → T (value_ok limit n x) → T (value_ok limit n z) → T (value_ok limit n y)
  unfolding value_ok
  between_ok x y z g h s t =
      le→leb _ limit (abs_between limit (x *ℤ pos n) (y *ℤ pos n) (z *ℤ pos n) (*ℤ-mono n x y g) (*ℤ-mono n y z h) (leb→le _ limit s) (leb→le _ limit t))

  lesser_ok : (a b : ℤ) → T (value_ok limit n a) → T (value_ok limit n b) → T (value_ok limit n (int_min a b))
  lesser_ok a b s t = cond_elim (lt_z b a) b a (λ z. T (value_ok limit n z)) (λ _. t) (λ _. s)

  greater_ok : (a b : ℤ) → T (value_ok limit n a) → T (value_ok limit n b) → T (value_ok limit n (int_max a b))
  greater_ok a b s t = cond_elim (lt_z b a) a b (λ z. T (value_ok limit n z)) (λ _. s) (λ _. t)

  module _ (range : Range) (x : ℤ) (order : range.low ≤ℤ range.high) where
    widened_ordered : (widened range x).low ≤ℤ (widened range x).high
    unfolding widened
    widened_ordered = ≤ℤ-trans (lesser-first range.low x) (≤ℤ-trans order (greater-first range.high x))

    all_pass : T (range_ok limit n range && value_ok limit n x) → T (range_ok limit n (widened range x))
    unfolding widened range_ok
    all_pass t =
        let (ends, here) = both (range_ok limit n range) (value_ok limit n x) t in
        let (low, high) = both (value_ok limit n range.low) (value_ok limit n range.high) ends in
        both_of (value_ok limit n (int_min range.low x)) (value_ok limit n (int_max range.high x)) (lesser_ok range.low x low here) (greater_ok range.high x high here)

    ends_pass : T (range_ok limit n (widened range x)) → T (range_ok limit n range && value_ok limit n x)
    unfolding widened range_ok
    ends_pass t =
        let a = int_min range.low x in
        let b = int_max range.high x in
        let (low, high) = both (value_ok limit n a) (value_ok limit n b) t in
        let below = lesser-first range.low x in
        let above = greater-first range.high x in
        both_of (range_ok limit n range) (value_ok limit n x)
        (both_of (value_ok limit n range.low) (value_ok limit n range.high)
        (between_ok a range.low b below (≤ℤ-trans order above) low high)
        (between_ok a range.high b (≤ℤ-trans below order) above low high))
        (between_ok a x b (lesser_second range.low x) (greater_second range.high x) low high)

    widened_ok : (range_ok limit n range && value_ok limit n x) ≡ range_ok limit n (widened range x)
    widened_ok = same_test (range_ok limit n range && value_ok limit n x) (range_ok limit n (widened range x)) all_pass ends_pass

-- ---- a loop that widens the range by one index a turn: those before i pass where the range does

pub record Ranged (limit n : ℕ) (xs : List ℤ) (i : ℕ) (range : Range) : Type 0 where
  pub bound : i ≤ length xs
  pub order : range.low ≤ℤ range.high
  pub rest : all (value_ok limit n) xs ≡ (range_ok limit n range && all (value_ok limit n) (drop i xs))

module _ (limit n : ℕ) where
  zero_ok : value_ok limit n (pos 0) ≡ true
  unfolding value_ok
  zero_ok = le-leb (0 * n) limit (omega arith)

  pub ranged_start : (xs : List ℤ) (range : Range) → (range.low ≡ pos 0) × (range.high ≡ pos 0) → Ranged limit n xs 0 range
  unfolding range_ok
  ranged_start xs range (low, high) = record { bound = omega arith; order = rw (low, high) (≤ℤ_refl (pos 0)); rest = rw (low, high, zero_ok) }

  -- a turn, with the index and the range that it stored
  module _ {xs : List ℤ} {i : ℕ} {range next : Range} {x : ℤ} (r : Ranged limit n xs i range) (h : i < length xs) where
    pub ranged_next : (d : ℤ) → x ≡ get_or xs i d → next ≡ widened range x → Ranged limit n xs (i + 1) next
    ranged_next d read stored =
        let later = all (value_ok limit n) (drop (i + 1) xs) in
        rw stored
        (record {
          bound = omega arith;
          order = widened_ordered limit n range x r.order;
          rest = r.rest ∙ rw (all-next (value_ok limit n) xs i d h, ← read, ← and_assoc (range_ok limit n range) (value_ok limit n x) later, widened_ok limit n range x r.order);
        })

  pub ranged_end : {xs : List ℤ} {i : ℕ} {range : Range} → Ranged limit n xs i range → length xs ≤ i → range_ok limit n range ≡ all (value_ok limit n) xs
  ranged_end {xs} {i} {range} r h = sym (rw (all_past (value_ok limit n) xs i h, and-true (range_ok limit n range)) at r.rest)

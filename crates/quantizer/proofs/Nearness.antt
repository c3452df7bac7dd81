-- The test whether the values of a row are near 0: one bit pattern of all of them. Assumes nothing.
use mathlib.Core.Path.{◌≡◌, refl, sym, ◌∙◌}
use mathlib.Core.Bool.{true, ◌&&◌, and_assoc, and-true}
use mathlib.Core.List.{List}
use Prim.Native.Nat.{ℕ, ◌+◌, ◌%◌, ◌≤◌, ◌<◌}
use native.Mathlib.Nat.{mod-lt}
use native.Mathlib.Omega.{arith}
use lib.Dec.{T, ltb, ltb→lt, lt→ltb}
use lib.IntN.{ℤ, pos, neg_ℤ}
use lib.ListN.{length, get_or, drop}
use lib.Signed.{◌≤ℤ◌, ◌<ℤ◌, le_z, lt_z, le_z_yes, lt_z_yes}
use mir.Syntax.{w32}
use mir.Val.{SFits, to_z, of_z}
use Rattle.std.proofs.Common.{bit_or}
use Rattle.std.proofs.lemmas.Int.{ints, of_z-to_z}
use Rattle.std.proofs.lemmas.Nat.{le_or_l, le_or_r, or_lt}
use Rattle.mathematics.specs.Definitions.Tests.{all}
use Rattle.mathematics.proofs.Tests.{both, both_of, same_test, all-next, all_past, all_inside}
use Rattle.quantizer.specs.Inner.Reciprocals.{near}

pub near_range : (x : ℤ) → near x ≡ true → (neg_ℤ (pos 8192) ≤ℤ x) × (x <ℤ pos 8192)
unfolding near
near_range x e =
    let t : T (le_z (neg_ℤ (pos 8192)) x && lt_z x (pos 8192)) = rw e tt in
    let (a, b) = both (le_z (neg_ℤ (pos 8192)) x) (lt_z x (pos 8192)) t in
    (le_z_yes a, lt_z_yes b)

-- ---- a value with 8,192 added, as bits

module _ (x : ℤ) (f : SFits w32 x) where
  abbrev raised : ℕ
  raised = of_z w32 (to_z w32 ((of_z w32 x + 8192) % 4294967296))

  raised_is : raised ≡ (of_z w32 x + 8192) % 4294967296
  raised_is = of_z-to_z w32 _ (mod-lt (of_z w32 x + 8192) (omega arith))

  near_of : T (ltb raised 16384) → T (near x)
  unfolding near
  near_of t =
      let h = ltb→lt raised 16384 t in
      let low : neg_ℤ (pos 8192) ≤ℤ x = omega (arith, ints, raised_is, h) in
      let high : x <ℤ pos 8192 = omega (arith, ints, raised_is, h) in
      both_of (le_z (neg_ℤ (pos 8192)) x) (lt_z x (pos 8192)) low.le high.lt

  of_near : T (near x) → T (ltb raised 16384)
  of_near t = let (low, high) = near_range x (same_test (near x) true (λ _. tt) (λ _. t)) in lt→ltb raised 16384 (omega (arith, ints, low, high))

  pub raised_near : ltb raised 16384 ≡ near x
  raised_near = same_test (ltb raised 16384) (near x) near_of of_near

-- ---- a loop that joins the bits: those before i are near where the bits are below 16,384

joined : (a b : ℕ) → ltb (bit_or a b) 16384 ≡ (ltb a 16384 && ltb b 16384)
joined a b =
    same_test (ltb (bit_or a b) 16384) (ltb a 16384 && ltb b 16384)
    (λ t. let h = ltb→lt (bit_or a b) 16384 t in both_of (ltb a 16384) (ltb b 16384) (lt→ltb a 16384 (omega (arith, h, le_or_l a b))) (lt→ltb b 16384 (omega (arith, h, le_or_r a b))))
    (λ t. let (s, u) = both (ltb a 16384) (ltb b 16384) t in lt→ltb (bit_or a b) 16384 (or_lt 14 a b (ltb→lt a 16384 s) (ltb→lt b 16384 u)))

pub record Joined (xs : List ℤ) (i bits : ℕ) : Type 0 where
  pub rest : all near xs ≡ (ltb bits 16384 && all near (drop i xs))

pub joined_start : (xs : List ℤ) → Joined xs 0 0
joined_start xs = record { rest = refl }

pub joined_next : {xs : List ℤ} {i bits : ℕ} (v : ℕ) → Joined xs i bits → i < length xs → ltb v 16384 ≡ near (get_or xs i (pos 0)) → Joined xs (i + 1) (bit_or bits v)
joined_next {xs} {i} {bits} v r h e =
    let later = all near (drop (i + 1) xs) in
    record { rest = r.rest ∙ rw (all-next near xs i (pos 0) h, ← e, ← and_assoc (ltb bits 16384) (ltb v 16384) later, joined bits v) }

pub joined_end : {xs : List ℤ} {i bits : ℕ} → Joined xs i bits → length xs ≤ i → ltb bits 16384 ≡ all near xs
joined_end {xs} {i} {bits} r h = sym (rw (all_past near xs i h, and-true (ltb bits 16384)) at r.rest)

-- ---- an element of a row whose values are all near

pub near_at : (xs : List ℤ) (i : ℕ) → all near xs ≡ true → i < length xs → near (get_or xs i (pos 0)) ≡ true
near_at xs i e h = same_test (near (get_or xs i (pos 0))) true (λ _. tt) (λ _. all_inside near (pos 0) xs (rw e tt) i h)

-- White space and comments passed byte by byte, and how far a number of the header can reach. Assumes nothing.
use mathlib.Core.Path.{◌≡◌, refl, sym, ap, ◌∙◌}
use mathlib.Core.Bool.{Bool, true, false, not, true≢false, ◌||◌}
use mathlib.Core.List.{List, [], ◌∷◌}
use Prim.Native.Nat.{ℕ, suc, ◌+◌, ◌-◌, ◌≤◌, ◌<◌}
use native.Mathlib.Omega.{arith}
use lib.Dec.{eqb}
use lib.ListN.{length, get_or, take, drop, length-drop, drop_of_length-le}
use Rattle.std.proofs.lemmas.List.{take_all}
use lib.Seq.{drop-cons}
use Rattle.mathematics.proofs.Tests.{cond_elim}
use Rattle.decimals.proofs.Reading.{number_within}
use Rattle.pgm.specs.Definitions.Header.{is_space, spaces, digits_place, number_end}
use Rattle.pgm.specs.Inner.Found.{passed, inside_after}

-- ---- one byte

spaces-more : (inside : Bool) (b : ℕ) (bytes : List ℕ) → passed inside b ≡ true → spaces inside (b ∷ bytes) ≡ suc (spaces (inside_after inside b) bytes)
unfolding passed inside_after spaces
spaces-more true b bytes e = refl
spaces-more false b bytes e = rw e

spaces_none : (inside : Bool) (b : ℕ) (bytes : List ℕ) → passed inside b ≡ false → spaces inside (b ∷ bytes) ≡ 0
unfolding passed spaces
spaces_none true b bytes e = absurd (true≢false e)
spaces_none false b bytes e = rw e

-- ---- the loop: of the bytes from a place on, all up to i are passed

pub record Passing (rest : List ℕ) (inside : Bool) (i : ℕ) : Type 0 where
  pub is : spaces false rest ≡ i + spaces inside (drop i rest)

pub passing_start : (rest : List ℕ) → Passing rest false 0
passing_start rest = record { is = omega arith }

module _ {rest : List ℕ} {inside : Bool} {i : ℕ} (p : Passing rest inside i) where
  pub passing_next : {t next : Bool} → i < length rest → t ≡ passed inside (get_or rest i 0) → t ≡ true → next ≡ inside_after inside (get_or rest i 0) → Passing rest next (i + 1)
  passing_next h e t n =
      record {
        is = p.is ∙ rw (drop-cons rest i 0 h, spaces-more inside (get_or rest i 0) (drop (suc i) rest) (sym e ∙ t), ← n) (let f : suc i ≡ i + 1 = omega arith in rw f (omega arith));
      }

  module _ (bytes : List ℕ) (at : ℕ) (inside-is : at ≤ length bytes) (from : rest ≡ take (length bytes - at) (drop at bytes)) where
    rest-is : rest ≡ drop at bytes
    rest-is = from ∙ take_all (length bytes - at) (drop at bytes) (omega (arith, length-drop at bytes))

    pub passing_stop : {t : Bool} → i < length rest → t ≡ passed inside (get_or rest i 0) → t ≡ false → at + i ≡ digits_place bytes at
    unfolding digits_place
    passing_stop h e t =
        let here : spaces false rest ≡ i = p.is ∙ rw (drop-cons rest i 0 h, spaces_none inside (get_or rest i 0) (drop (suc i) rest) (sym e ∙ t)) (omega arith) in
        omega (arith, rw rest-is at here)

    pub passing_past : length rest ≤ i → i ≤ length rest → length bytes ≡ digits_place bytes at
    unfolding digits_place spaces
    passing_past h k =
        let here : spaces false rest ≡ i = p.is ∙ rw (drop_of_length-le rest {i = i} h) (omega arith) in
        omega (arith, rw rest-is at here, ap length rest-is, length-drop at bytes)

-- ---- nothing reaches past the end

spaces_most : (inside : Bool) (bytes : List ℕ) → spaces inside bytes ≤ length bytes
unfolding spaces
spaces_most inside [] = omega arith
spaces_most true (b ∷ bytes) = omega (arith, spaces_most (not (eqb b 10)) bytes)
spaces_most false (b ∷ bytes) =
    cond_elim (is_space b || eqb b 35) (suc (spaces (eqb b 35) bytes)) 0 (λ n. n ≤ suc (length bytes)) (λ t. omega (arith, spaces_most (eqb b 35) bytes)) (λ t. omega arith)

module _ (bytes : List ℕ) (most at : ℕ) (long : length bytes ≤ most) (h : at ≤ most) where
  pub place_within : digits_place bytes at ≤ most
  unfolding digits_place
  place_within = let s = spaces_most false (drop at bytes) in let d = length-drop at bytes in omega arith

  pub end_within : number_end bytes at ≤ most
  unfolding number_end
  end_within = number_within bytes (digits_place bytes at) 5 most long place_within

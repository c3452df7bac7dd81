-- A loop that has written a table into the whole of a buffer, a list whose elements are a table's, and numbers of such bytes. Assumes nothing.
use Rattle.std.proofs.Common.{◌≡◌, ℕ, zero, suc, ◌+◌, ◌<◌, ◌≤◌, ◌*◌, List, ◌++◌, length, get_or, drop, refl, sym, ◌∙◌, zero-add, add-zero, arith}
use denote.Param.Members.{Mut}
use native.Mathlib.Decide.{ℕ_discrete}
use lib.Seq.{ext_get_or, get_or-drop}
use Rattle.std.specs.Array.{IsFromFnResult, IsFromFnResultFrom}
use Rattle.std.specs.Fn.{Called}
use Rattle.mathematics.specs.Inner.Splices.{splice}
use Rattle.mathematics.specs.Definitions.Tables.{tabulate}
use Rattle.mathematics.proofs.Tables.{length-tabulate, get_or-tabulate}
use Rattle.mathematics.proofs.Splices.{splice_whole}
use Rattle.mathematics.proofs.Filling.{Filling, filling_end}
use Rattle.test_support.specs.Definitions.Numbers.{unsigned16, unsigned32}

pub filled : {A : Type 0} {f : ℕ → A} {l w : List A} {i : ℕ} → Filling 0 (length l) f l w i → length w ≤ i → w ≡ tabulate (length l) f
filled {f = f} {l = l} {w = w} {i = i} r h =
    let k : length l ≤ i = omega (arith, r.long) in
    filling_end r k ∙ splice_whole (tabulate (length l) f) l (length-tabulate (length l) f)

pub table_of : {A : Type 0} {n : ℕ} {f : ℕ → A} {l : List A} (d : A) → length l ≡ n → ((k : ℕ) → k < n → get_or l k d ≡ f k) → l ≡ tabulate n f
table_of {n = n} {f = f} {l = l} d long at =
    ext_get_or d l (tabulate n f) (long ∙ sym (length-tabulate n f)) (λ k h. at k (omega arith) ∙ sym (get_or-tabulate n f d k (omega arith)))

-- an array that a closure makes, which no call of it changes
module _ {F : Type 0} {g : Mut F (ℕ × Unit {0}) ℕ} (f : F) (h : ℕ → ℕ) (called : (k y : ℕ) (q : F) → Called g f (k, tt) y q → (q ≡ f) × (y ≡ h k)) (ys : List ℕ) where
  made_from : (i n : ℕ) → IsFromFnResultFrom g f ys i n → (k : ℕ) → i ≤ k → k < i + n → get_or ys k 0 ≡ h k
  made_from i zero all k l m = absurd (omega arith)
  made_from i (suc n) (q, y, at, call, others) k l m =
      let (same, is) = called i y q call in
      elim (ℕ_discrete k i) [
        | yes e ↦ rw e (at.1 0 ∙ is)
        | no e ↦ made_from (i + 1) n (rw same at others) k (omega (arith, e)) (omega arith)
      ]

  pub made_by : {n : ℕ} → IsFromFnResult g f ys n → ys ≡ tabulate n h
  made_by {n} made = table_of 0 made.long (λ k l. made_from 0 n made.each k (omega arith) (omega (arith, made.long)))

-- a table before what follows it in a list
pub splice_front : {A : Type 0} (n : ℕ) (f : ℕ → A) (l : List A) → tabulate n f ++ drop n l ≡ splice 0 (tabulate n f) l
unfolding splice
splice_front n f l = rw (length-tabulate n f, zero-add n)

-- the number of bytes at a place
module _ (bytes : List ℕ) (at : ℕ) where
  pub number16 : {two : List ℕ} → two ≡ tabulate 2 (λ i. get_or bytes (at + i) 0) → get_or two 0 0 + get_or two 1 0 * 256 ≡ unsigned16 bytes at
  unfolding tabulate
  number16 e = rw (e, add-zero) (omega arith)

  pub number32 : {four : List ℕ} → four ≡ tabulate 4 (λ i. get_or bytes (at + i) 0)
      → get_or four 0 0 + get_or four 1 0 * 256 + get_or four 2 0 * 65536 + get_or four 3 0 * 16777216 ≡ unsigned32 bytes at
  unfolding tabulate
  number32 e =
      let third : at + 2 + 1 ≡ at + 3 = omega arith in
      rw (e, add-zero, third) (omega arith)

  -- a number in the bytes from there on
  pub number_after : (i : ℕ) → unsigned16 (drop at bytes) i ≡ unsigned16 bytes (at + i)
  number_after i =
      let second : at + (i + 1) ≡ at + i + 1 = omega arith in
      rw (get_or-drop at bytes i 0, get_or-drop at bytes (i + 1) 0, second) refl

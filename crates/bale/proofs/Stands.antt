-- A piece stands in a list of bytes at a place: pieces of a file, taken apart and put together. Assumes nothing.
use mathlib.Core.Path.{◌≡◌, sym, ap, ◌∙◌}
use mathlib.Core.List.{List, ◌++◌}
use Prim.Native.Nat.{ℕ, ◌+◌, ◌-◌, ◌≤◌, ◌<◌}
use native.Mathlib.Nat.{zero-add}
use native.Mathlib.Decide.{dec_lt}
use native.Mathlib.Omega.{arith}
use lib.ListN.{length, get_or, length-append, get_or-append}
use lib.Seq.{get_or-append-add, ext_get_or}

pub record Stands (piece bytes : List ℕ) (at : ℕ) : Type 0 where
  pub room : at + length piece ≤ length bytes
  pub each : (i : ℕ) → i < length piece → get_or bytes (at + i) 0 ≡ get_or piece i 0

pub stands_all : (bytes : List ℕ) → Stands bytes bytes 0
stands_all bytes = record { room = omega arith; each = λ i h. ap (λ (k : ℕ). get_or bytes k 0) (zero-add i) }

-- what stands at the front with the length of all is all
pub stands_whole : {piece bytes : List ℕ} → Stands piece bytes 0 → length piece ≡ length bytes → piece ≡ bytes
stands_whole {piece} {bytes} s e =
    ext_get_or 0 piece bytes e (λ i h. sym (s.each i h) ∙ ap (λ (k : ℕ). get_or bytes k 0) (zero-add i))

module _ (xs ys : List ℕ) {bytes : List ℕ} {at : ℕ} where
  pub stands_front : Stands (xs ++ ys) bytes at → Stands xs bytes at
  stands_front s =
      let n = length-append xs ys in
      record {
        room = omega (arith, s.room);
        each = λ i h. s.each i (omega arith) ∙ get_or-append xs ys 0 i h;
      }

  pub stands_back : Stands (xs ++ ys) bytes at → Stands ys bytes (at + length xs)
  stands_back s =
      let n = length-append xs ys in
      record {
        room = omega (arith, s.room);
        each = λ i h.
            let e : at + length xs + i ≡ at + (length xs + i) = omega arith in
            ap (λ (k : ℕ). get_or bytes k 0) e ∙ s.each (length xs + i) (omega arith) ∙ get_or-append-add xs ys i 0;
      }

  pub stands_join : Stands xs bytes at → Stands ys bytes (at + length xs) → Stands (xs ++ ys) bytes at
  stands_join s t =
      let n = length-append xs ys in
      record { room = omega (arith, t.room); each = λ i h. cases i (dec_lt i (length xs)) (omega arith) }
    where
      cases : (i : ℕ) → Dec (i < length xs) → i < length xs + length ys → get_or bytes (at + i) 0 ≡ get_or (xs ++ ys) i 0
      cases i (yes k) h = s.each i k ∙ sym (get_or-append xs ys 0 i k)
      cases i (no k) h =
          let e : at + i ≡ at + length xs + (i - length xs) = omega arith in
          let f : length xs + (i - length xs) ≡ i = omega arith in
          ap (λ (m : ℕ). get_or bytes m 0) e ∙ t.each (i - length xs) (omega arith) ∙ sym (get_or-append-add xs ys (i - length xs) 0)
          ∙ ap (λ (m : ℕ). get_or (xs ++ ys) m 0) f

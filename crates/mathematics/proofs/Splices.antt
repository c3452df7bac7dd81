-- Laws of parts and splices: lengths, elements, parts before, at and after a splice, and splices next to and over one another.
-- Assumes nothing.
use mathlib.Core.Path.{◌≡◌, sym, ap, ◌∙◌, subst}
use mathlib.Core.List.{List, [], ◌∷◌, ◌++◌, append_assoc, append-nil}
use Prim.Native.Nat.{ℕ, zero, suc, ◌+◌, ◌-◌, ◌≤◌, ◌<◌}
use native.Mathlib.Nat.{add-zero, zero-add, suc-add, add_assoc}
use native.Mathlib.Numerals.{add-one}
use native.Mathlib.Omega.{arith}
use lib.ListN.{length, get_or, take, drop, set, length-append, length-drop, take-append-drop, get_or-append, drop_of_length-le}
use lib.Seq.{length-take-le, take-append-le, take-take, take-nil, drop-drop, take_at, drop_at, set_split, get_or-append-add, get_or-take, get_or-drop}
use Rattle.mathematics.specs.Inner.Splices.{splice, part}

module _ {ℓ} {A : Type ℓ} where
  pub length-splice : (at : ℕ) (xs l : List A) → at + length xs ≤ length l → length (splice at xs l) ≡ length l
  unfolding splice
  length-splice at xs l h = let t : length (take at l) ≡ at = length-take-le at l (omega arith) in simp (length-append, length-drop, t) (omega arith)

  pub length_part : (f t : ℕ) (l : List A) → f ≤ t → t ≤ length l → length (part f t l) ≡ t - f
  length_part f t l h k = length-take-le (t - f) (drop f l) (simp length-drop (omega arith))

  -- n elements from f on
  pub part_long : (f n : ℕ) (l : List A) → f + n ≤ length l → length (part f (f + n) l) ≡ n
  part_long f n l h = length_part f (f + n) l (omega arith) h ∙ omega arith

  -- ---- a splice, and what stands before, at and after it

  pub splice_nil : (at : ℕ) (l : List A) → splice at [] l ≡ l
  unfolding splice
  splice_nil at l = simp (add-zero, take-append-drop)

  set-splice_one : (l : List A) (n : ℕ) (v : A) → n < length l → set l n v ≡ splice n (v ∷ []) l
  unfolding splice
  set-splice_one l n v h = simp (set_split l n v h, add-one)

  part_cut : (f k : ℕ) (l : List A) → take k (drop f l) ≡ drop f (take (f + k) l)
  part_cut zero k l = rw zero-add
  part_cut (suc f) k [] = rw (take-nil, take-nil)
  part_cut (suc f) k (x ∷ xs) = rw suc-add (part_cut f k xs)

  module _ (at : ℕ) (xs l : List A) (fits : at + length xs ≤ length l) where
    take-splice : (n : ℕ) → n ≤ at → take n (splice at xs l) ≡ take n l
    unfolding splice
    take-splice n h =
        let t : length (take at l) ≡ at = length-take-le at l (omega arith) in
        take-append-le n (take at l) (xs ++ drop (at + length xs) l) (omega arith) ∙ take-take n at l h

    front_length : length (take at l ++ xs) ≡ at + length xs
    front_length = let t : length (take at l) ≡ at = length-take-le at l (omega arith) in simp (length-append, t)

    front_splice : take (at + length xs) (splice at xs l) ≡ take at l ++ xs
    unfolding splice
    front_splice = rw (← append_assoc) (take_at (take at l ++ xs) (drop (at + length xs) l) (at + length xs) front_length)

    drop-splice : (k : ℕ) → drop (at + length xs + k) (splice at xs l) ≡ drop (at + length xs + k) l
    unfolding splice
    drop-splice k =
        sym (drop-drop k (at + length xs) (splice at xs l))
        ∙ ap (drop k) (rw (← append_assoc) (drop_at (take at l ++ xs) (drop (at + length xs) l) (at + length xs) front_length))
        ∙ drop-drop k (at + length xs) l

    -- a further piece right after the first
    pub splice_append : (ys : List A) → splice (at + length xs) ys (splice at xs l) ≡ splice at (xs ++ ys) l
    unfolding splice
    splice_append ys = rw (front_splice, drop-splice (length ys), length-append) (simp (append_assoc, add_assoc))

    pub splice-set : (v : A) → at + length xs < length l → set (splice at xs l) (at + length xs) v ≡ splice at (xs ++ (v ∷ [])) l
    splice-set v h = set-splice_one (splice at xs l) (at + length xs) v (omega (arith, length-splice at xs l fits)) ∙ splice_append (v ∷ [])

    -- a part before the piece, and one after it
    pub part-before : (f t : ℕ) → f ≤ t → t ≤ at → part f t (splice at xs l) ≡ part f t l
    part-before f t h k =
        let e : f + (t - f) ≡ t = omega arith in
        part_cut f (t - f) (splice at xs l) ∙ ap (drop f) (rw e (take-splice t k)) ∙ sym (part_cut f (t - f) l)

    pub part_after : (f t : ℕ) → at + length xs ≤ f → part f t (splice at xs l) ≡ part f t l
    part_after f t h =
        let e : at + length xs + (f - (at + length xs)) ≡ f = omega arith in
        ap (take (t - f)) (rw (← e) (drop-splice (f - (at + length xs))))

  -- a piece over all of another
  pub splice_over : (a : ℕ) (ys : List A) (at : ℕ) (xs l : List A) → at + length xs ≤ length l → a ≤ at → at + length xs ≤ a + length ys → splice a ys (splice at xs l) ≡ splice a ys l
  unfolding splice
  splice_over a ys at xs l h k m =
      let e : at + length xs + (a + length ys - (at + length xs)) ≡ a + length ys = omega arith in
      rw (take-splice at xs l h a k, rw e at (drop-splice at xs l h (a + length ys - (at + length xs))))

  -- a further piece right before the first
  pub splice_prepend : (at : ℕ) (xs ys l : List A) → at + length xs + length ys ≤ length l → splice at xs (splice (at + length xs) ys l) ≡ splice at (xs ++ ys) l
  unfolding splice
  splice_prepend at xs ys l h =
      let t : length (take (at + length xs) l) ≡ at + length xs = length-take-le (at + length xs) l (omega arith) in
      rw (take-splice (at + length xs) ys l h at (omega arith), drop_at (take (at + length xs) l) (ys ++ drop (at + length xs + length ys) l) (at + length xs) t) (simp (length-append, append_assoc, add_assoc))

  -- what is there, put where it is
  pub splice-part : (f t : ℕ) (l : List A) → f ≤ t → t ≤ length l → splice f (part f t l) l ≡ l
  unfolding splice
  splice-part f t l h k = rw (length_part f t l h k, ← drop-drop, take-append-drop) (take-append-drop f l)

  pub splice_front : (xs l : List A) → splice 0 xs l ≡ xs ++ drop (length xs) l
  unfolding splice
  splice_front xs l = rw zero-add

  pub splice_whole : (xs l : List A) → length xs ≡ length l → splice 0 xs l ≡ xs
  unfolding splice
  splice_whole xs l e =
      let d : drop (0 + length xs) l ≡ [] = drop_of_length-le l {i = 0 + length xs} (omega arith) in
      rw d (append-nil xs)

  -- an element of the piece, and of a part
  pub get_or-splice : (at : ℕ) (xs l : List A) (d : A) (i : ℕ) → at ≤ length l → i < length xs → get_or (splice at xs l) (at + i) d ≡ get_or xs i d
  unfolding splice
  get_or-splice at xs l d i h k =
      let t : length (take at l) ≡ at = length-take-le at l h in
      subst (λ (n : ℕ). get_or (take at l ++ (xs ++ drop (at + length xs) l)) (n + i) d ≡ get_or xs i d) t
      (get_or-append-add (take at l) (xs ++ drop (at + length xs) l) i d ∙ get_or-append xs (drop (at + length xs) l) d i k)

  pub get_or-part : (f t : ℕ) (l : List A) (d : A) (i : ℕ) → i < t - f → get_or (part f t l) i d ≡ get_or l (f + i) d
  get_or-part f t l d i h = get_or-take (t - f) (drop f l) i d h ∙ get_or-drop f l i d

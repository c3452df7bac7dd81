-- The level sections: written and read, the indices are the same; read and written, the bytes are. Assumes nothing.
use mathlib.Core.Path.{◌≡◌, refl, sym, ap, ap₂, ◌∙◌, subst}
use mathlib.Core.List.{List, [], ◌∷◌, ◌++◌, map}
use Prim.Native.Nat.{ℕ, zero, suc, ◌+◌, ◌-◌, ◌*◌, ◌<◌}
use native.Mathlib.Omega.{arith}
use lib.Dec.{T, eqb}
use lib.IntN.{ℤ, pos}
use lib.ListN.{length, get_or, take, drop, length-append, length-map, length-drop, take-append-drop}
use lib.Seq.{length-take-le, take_all, take_at, drop_at}
use mir.Syntax.{w16}
use mir.Val.{SFits}
use Rattle.mathematics.specs.Definitions.Tests.{all}
use Rattle.mathematics.proofs.Tests.{both, both_of}
use Rattle.pyramid.specs.declared.Settings.{Settings}
use Rattle.pyramid.specs.Definitions.Settings.{bin}
use Rattle.pyramid.specs.Definitions.Sizes.{nodes_at, nodes_to}
use Rattle.pyramid.specs.Definitions.Buffers.{Bytes}
use Rattle.pyramid.specs.Definitions.Refusals.{index_ok}
use Rattle.pyramid.proofs.Refusals.{first_nil, first_none, first_pass, unless_holds, unless_none}
use Rattle.pyramid.proofs.Sizes.{nodes_to-zero, nodes_to-suc}
use Rattle.pyramid.proofs.CheckedLevels.{checked, checked_zero, checked_suc}
use Rattle.bale.specs.Definitions.Words.{words_at, index_word, word_index, indices_at}
use Rattle.bale.specs.Definitions.Sections.{numbers_section}
use Rattle.bale.specs.Definitions.Files.{level_section, level_sections}
use Rattle.bale.specs.Definitions.Reader.{levels_from, level_section_refusal, level_sections_refusal}
use Rattle.bale.proofs.Stands.{Stands, stands_front, stands_back, stands_join}
use Rattle.bale.proofs.WordLaws.{word_back, index_back, word_small}
use Rattle.bale.proofs.WordLists.{Short, length-words_at, words_short}
use Rattle.bale.proofs.Sections.{eqb_of, Section, section_accepted, section_whole, length_numbers, numbers_read, numbers_stand}

-- ---- indices that 16 bits hold

abbrev pub Shorts : List ℤ → Type 0
Shorts [] = Unit {0}
Shorts (m ∷ ms) = SFits w16 m × Shorts ms

pub shorts : (ms : List ℤ) → ((p : ℕ) → SFits w16 (get_or ms p (pos 0))) → Shorts ms
shorts [] h = tt
shorts (m ∷ ms) h = (h 0, shorts ms (λ p. h (suc p)))

shorts_take : (n : ℕ) (ms : List ℤ) → Shorts ms → Shorts (take n ms)
shorts_take zero ms h = tt
shorts_take (suc n) [] h = tt
shorts_take (suc n) (m ∷ ms) h = (h.0, shorts_take n ms h.1)

shorts_drop : (n : ℕ) (ms : List ℤ) → Shorts ms → Shorts (drop n ms)
shorts_drop zero ms h = h
shorts_drop (suc n) [] h = tt
shorts_drop (suc n) (m ∷ ms) h = shorts_drop n ms h.1

indices_back : (ms : List ℤ) → Shorts ms → map word_index (map index_word ms) ≡ ms
indices_back [] h = refl
indices_back (m ∷ ms) h = ap₂ ◌∷◌ (word_back m h.0) (indices_back ms h.1)

words_back : (ns : List ℕ) → Short ns → map index_word (map word_index ns) ≡ ns
words_back [] h = refl
words_back (n ∷ ns) h = ap₂ ◌∷◌ (index_back n (h 0)) (words_back ns (λ i. h (suc i)))

indices_short : (ms : List ℤ) → Shorts ms → Short (map index_word ms)
indices_short [] h zero = omega arith
indices_short [] h (suc i) = omega arith
indices_short (m ∷ ms) h zero = word_small m h.0
indices_short (m ∷ ms) h (suc i) = indices_short ms h.1 i

read_short : (bytes : List ℕ) → Bytes bytes → (at n : ℕ) → Short (words_at bytes at n)
unfolding words_at
read_short bytes all at zero i = omega arith
read_short bytes all at (suc n) zero = words_short bytes all at
read_short bytes all at (suc n) (suc i) = read_short bytes all (at + 2) n i

-- ---- one level

pub length_level : (ms : List ℤ) → length (level_section ms) ≡ 2 + 2 * length ms
unfolding level_section
length_level ms = length_numbers (map index_word ms) ∙ rw (length-map ms index_word)

pub length_indices : (bytes : List ℕ) (at n : ℕ) → length (indices_at bytes at n) ≡ n
length_indices bytes at n = length-map (words_at bytes at n) word_index ∙ length-words_at bytes at n

module _ {bytes : List ℕ} {at : ℕ} where
  pub level_read : (n : ℕ) (ms : List ℤ) → length ms ≡ n → n < 65536 → Shorts ms → Stands (level_section ms) bytes at
      → Section bytes at n 2 × (indices_at bytes (at + 2) n ≡ ms)
  unfolding level_section
  level_read n ms e h short s =
      let m : length (map index_word ms) ≡ n = length-map ms index_word ∙ e in
      let (whole, is) = numbers_read (map index_word ms) (rw m h) (indices_short ms short) s in
      (rw m at whole, ap (map word_index) (rw m at is) ∙ indices_back ms short)

  pub level_stands : Bytes bytes → {n : ℕ} → Section bytes at n 2 → Stands (level_section (indices_at bytes (at + 2) n)) bytes at
  unfolding level_section numbers_section
  level_stands all {n} w =
      rw (words_back (words_at bytes (at + 2) n) (read_short bytes all (at + 2) n), length-words_at bytes (at + 2) n) (numbers_stand all w)

-- ---- a level and those below it

module _ (s : Settings) where
  pub length_levels : (l : ℕ) (ms : List ℤ) → length ms ≡ nodes_to s l → length (level_sections s l ms) ≡ 2 * (l + 1) + 2 * nodes_to s l
  unfolding level_sections
  length_levels zero ms e =
      let here = nodes_to-zero s in
      let n : length (take (nodes_at s 0) ms) ≡ nodes_at s 0 = length-take-le (nodes_at s 0) ms (omega arith) in
      omega (arith, length_level (take (nodes_at s 0) ms))
  length_levels (suc l) ms e =
      let k : ℕ = nodes_at s (suc l) in
      let here = nodes_to-suc s l in
      let n : length (take k ms) ≡ k = length-take-le k ms (omega arith) in
      let d : length (drop k ms) ≡ length ms - k = length-drop k ms in
      length-append (level_section (take k ms)) (level_sections s l (drop k ms))
      ∙ omega (arith, length_level (take k ms), length_levels l (drop k ms) (omega arith))

module _ (s : Settings) (bytes : List ℕ) where
  one_accepted : (l at : ℕ) (ms : List ℤ) → Section bytes at (nodes_at s l) 2 → indices_at bytes (at + 2) (nodes_at s l) ≡ ms → T (all (index_ok (bin s l)) ms)
      → level_section_refusal bytes s l at ≡ 0
  unfolding level_section_refusal
  one_accepted l at ms w e t =
      first_pass _ (section_accepted w) (first_pass _ (rw e (unless_holds (all (index_ok (bin s l)) ms) 11 t)) first_nil)

  pub levels_read : (l at : ℕ) (ms : List ℤ) → nodes_to s l < 65536 → length ms ≡ nodes_to s l → Shorts ms → T (checked s l ms)
      → Stands (level_sections s l ms) bytes at → at + length (level_sections s l ms) ≡ length bytes
      → (level_sections_refusal bytes s l at ≡ 0) × (levels_from bytes s l at ≡ ms)
  unfolding level_sections level_sections_refusal levels_from
  levels_read zero at ms small long short t st end =
      let k : ℕ = nodes_at s 0 in
      let here = nodes_to-zero s in
      let n : length (take k ms) ≡ k = length-take-le k ms (omega arith) in
      let (w, e) = level_read k (take k ms) n (omega arith) (shorts_take k ms short) st in
      let all_of : take k ms ≡ ms = take_all k ms (omega arith) in
      let last : length bytes ≡ at + 2 + 2 * k = omega (arith, length_level (take k ms)) in
      let one = one_accepted 0 at (take k ms) w e (subst T (checked_zero s ms) t) in
      (first_pass _ one (first_pass _ (unless_holds (eqb (length bytes) (at + 2 + 2 * k)) 12 (eqb_of last)) first_nil), e ∙ all_of)
  levels_read (suc l) at ms small long short t st end =
      let k : ℕ = nodes_at s (suc l) in
      let here = nodes_to-suc s l in
      let n : length (take k ms) ≡ k = length-take-le k ms (omega arith) in
      let d : length (drop k ms) ≡ length ms - k = length-drop k ms in
      let (t₁, t₂) = both (all (index_ok (bin s (suc l))) (take k ms)) (checked s l (drop k ms)) (subst T (checked_suc s ms l) t) in
      let one = level_section (take k ms) in
      let rest = level_sections s l (drop k ms) in
      let (w, e) = level_read k (take k ms) n (omega arith) (shorts_take k ms short) (stands_front one rest st) in
      let place : at + length one ≡ at + 2 + 2 * k = omega (arith, length_level (take k ms)) in
      let back : Stands rest bytes (at + 2 + 2 * k) = rw place at (stands_back one rest st) in
      let (z, f) =
      levels_read l (at + 2 + 2 * k) (drop k ms) (omega arith) (omega arith) (shorts_drop k ms short) t₂ back
      (omega (arith, length-append one rest))
      in
      (first_pass _ (one_accepted (suc l) at (take k ms) w e t₁) (first_pass _ z first_nil), rw (e, f) (take-append-drop k ms))

  -- ---- read, then written

  one_whole : (l at : ℕ) → level_section_refusal bytes s l at ≡ 0
      → Section bytes at (nodes_at s l) 2 × T (all (index_ok (bin s l)) (indices_at bytes (at + 2) (nodes_at s l)))
  unfolding level_section_refusal
  one_whole l at e =
      let (section, e₁₁) = first_none _ _ e in
      (section_whole section, unless_none (all (index_ok (bin s l)) (indices_at bytes (at + 2) (nodes_at s l))) 10 (first_none _ _ e₁₁).0)

  pub length_from : (l at : ℕ) → length (levels_from bytes s l at) ≡ nodes_to s l
  unfolding levels_from
  length_from zero at = length_indices bytes (at + 2) (nodes_at s 0) ∙ sym (nodes_to-zero s)
  length_from (suc l) at =
      length-append (indices_at bytes (at + 2) (nodes_at s (suc l))) (levels_from bytes s l (at + 2 + 2 * nodes_at s (suc l)))
      ∙ rw (length_indices bytes (at + 2) (nodes_at s (suc l)), length_from l (at + 2 + 2 * nodes_at s (suc l))) (sym (nodes_to-suc s l))

  pub record Written (l at : ℕ) : Type 0 where
    pub stands : Stands (level_sections s l (levels_from bytes s l at)) bytes at
    pub lawful : T (checked s l (levels_from bytes s l at))

  pub levels_stand : Bytes bytes → (l at : ℕ) → level_sections_refusal bytes s l at ≡ 0 → Written l at
  unfolding level_sections level_sections_refusal levels_from
  levels_stand bytes-are zero at e =
      let k : ℕ = nodes_at s 0 in
      let (level, _) = first_none _ _ e in
      let (w, t) = one_whole 0 at level in
      let all_of : take k (indices_at bytes (at + 2) k) ≡ indices_at bytes (at + 2) k = take_all k _ (omega (arith, length_indices bytes (at + 2) k)) in
      record { stands = rw all_of (level_stands bytes-are w); lawful = rw (checked_zero s (indices_at bytes (at + 2) k), all_of) t }
  levels_stand bytes-are (suc l) at e =
      let k : ℕ = nodes_at s (suc l) in
      let here = indices_at bytes (at + 2) k in
      let below = levels_from bytes s l (at + 2 + 2 * k) in
      let (level, e₂) = first_none _ _ e in
      let (w, t) = one_whole (suc l) at level in
      let r = levels_stand bytes-are l (at + 2 + 2 * k) (first_none _ _ e₂).0 in
      let front : take k (here ++ below) ≡ here = take_at here below k (length_indices bytes (at + 2) k) in
      let back : drop k (here ++ below) ≡ below = drop_at here below k (length_indices bytes (at + 2) k) in
      let place : at + 2 + 2 * k ≡ at + length (level_section here) = omega (arith, length_level here, length_indices bytes (at + 2) k) in
      let next = subst (λ (p : ℕ). Stands (level_sections s l below) bytes p) place r.stands in
      record {
        stands = rw (front, back) (stands_join (level_section here) (level_sections s l below) (level_stands bytes-are w) next);
        lawful = rw (checked_suc s (here ++ below) l, front, back) (both_of (all (index_ok (bin s (suc l))) here) (checked s l below) t r.lawful);
      }

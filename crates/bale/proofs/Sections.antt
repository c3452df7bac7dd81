-- Sections: what a count and its items are, which refusal they give, and a section of numbers written and read. Assumes nothing.
use mathlib.Core.Path.{◌≡◌, subst}
use mathlib.Core.List.{List, ◌++◌}
use Prim.Native.Nat.{ℕ, ◌+◌, ◌*◌, ◌≤◌, ◌<◌}
use native.Mathlib.Omega.{arith}
use lib.Dec.{T, leb, eqb, leb→le, le→leb, eqb→eq, eqb_refl}
use lib.ListN.{length}
use Rattle.pyramid.specs.Definitions.Buffers.{Bytes}
use Rattle.pyramid.proofs.Refusals.{first_nil, first_none, first_pass, unless_holds, unless_none}
use Rattle.bale.specs.Definitions.Words.{le16, words, u16_at, words_at}
use Rattle.bale.specs.Definitions.Sections.{numbers_section, section_refusal}
use Rattle.bale.proofs.Stands.{Stands, stands_front, stands_back, stands_join}
use Rattle.bale.proofs.WordLists.{Short, length-words, word_read, word_stands, words_read, words_stand}

pub eqb_of : {m n : ℕ} → m ≡ n → T (eqb m n)
eqb_of {m} {n} e = subst (λ (k : ℕ). T (eqb m k)) e (eqb_refl m)

-- a section of so many items of so many bytes is whole at a place
pub record Section (bytes : List ℕ) (at count size : ℕ) : Type 0 where
  pub present : at + 2 + size * count ≤ length bytes
  pub counted : u16_at bytes at ≡ count

module _ {bytes : List ℕ} {at count size : ℕ} where
  pub section_accepted : Section bytes at count size → section_refusal bytes at count size ≡ 0
  unfolding section_refusal
  section_accepted w =
      first_pass _ (unless_holds (leb (at + 2) (length bytes)) 9 (le→leb (at + 2) (length bytes) (omega (arith, w.present))))
      (first_pass _ (unless_holds (eqb (u16_at bytes at) count) 10 (eqb_of w.counted))
      (first_pass _ (unless_holds (leb (at + 2 + size * count) (length bytes)) 9 (le→leb _ _ w.present)) first_nil))

  pub section_whole : section_refusal bytes at count size ≡ 0 → Section bytes at count size
  unfolding section_refusal
  section_whole e =
      let (_, e₂) = first_none _ _ e in
      let (counted, e₃) = first_none _ _ e₂ in
      record {
        present = leb→le _ _ (unless_none (leb (at + 2 + size * count) (length bytes)) 8 (first_none _ _ e₃).0);
        counted = eqb→eq _ _ (unless_none (eqb (u16_at bytes at) count) 9 counted);
      }

-- ---- of 16-bit numbers

pub length_numbers : (ns : List ℕ) → length (numbers_section ns) ≡ 2 + 2 * length ns
unfolding numbers_section le16
length_numbers ns = let e = length-words ns in omega arith

module _ {bytes : List ℕ} {at : ℕ} where
  pub numbers_read : (ns : List ℕ) → length ns < 65536 → Short ns → Stands (numbers_section ns) bytes at
      → Section bytes at (length ns) 2 × (words_at bytes (at + 2) (length ns) ≡ ns)
  unfolding numbers_section le16
  numbers_read ns h short s =
      let n = length-words ns in (
        record {
          present = omega (arith, s.room);
          counted = word_read h (stands_front (le16 (length ns)) (words ns) s);
        },
        words_read ns short (stands_back (le16 (length ns)) (words ns) s),
      )

  pub numbers_stand : Bytes bytes → {n : ℕ} → Section bytes at n 2 → Stands (le16 n ++ words (words_at bytes (at + 2) n)) bytes at
  unfolding le16
  numbers_stand all {n} w =
      let room : at + 2 ≤ length bytes = omega (arith, w.present) in
      let front : Stands (le16 n) bytes at = subst (λ (k : ℕ). Stands (le16 k) bytes at) w.counted (word_stands all room) in
      stands_join (le16 n) (words (words_at bytes (at + 2) n)) front (words_stand (at + 2) n all (omega (arith, w.present)))

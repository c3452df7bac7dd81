-- What stands after a place is what is read of the bytes from that place on: a number, a section, a reading, and the levels.
-- Assumes nothing.
use mathlib.Core.Path.{◌≡◌, refl, sym, ap, ap₂, ◌∙◌}
use mathlib.Core.List.{List, ◌∷◌, map}
use Prim.Native.Nat.{ℕ, zero, suc, ◌+◌, ◌-◌, ◌*◌, ◌<◌}
use native.Mathlib.Decide.{dec_lt, ℕ_discrete}
use native.Mathlib.Nat.{add-zero}
use native.Mathlib.Omega.{arith}
use borrow.Author.Tests.{le-leb, lt-leb, eq-eqb, ne_eqb}
use lib.Dec.{leb, eqb}
use lib.ListN.{length, take, drop, length-drop}
use Rattle.std.proofs.lemmas.List.{get_or-drop, drop-take, take_rest}
use Rattle.mathematics.specs.Inner.Splices.{part}
use Rattle.pyramid.specs.declared.Settings.{Settings}
use Rattle.pyramid.specs.Definitions.Sizes.{nodes_at}
use Rattle.bale.specs.Definitions.Words.{word_index, u16_at, u32_at, words_at, indices_at}
use Rattle.bale.specs.Definitions.Sections.{section_refusal}
use Rattle.bale.specs.Definitions.Reader.{probe_at, levels_from, level_section_refusal, level_sections_refusal}

-- ---- two tests of a length

leb_after : (a at n : ℕ) → 0 < a → leb a (n - at) ≡ leb (at + a) n
leb_after a at n h =
    elim (dec_lt n (at + a)) [
      | yes l ↦ lt-leb _ _ (omega arith) ∙ sym (lt-leb _ _ l)
      | no g ↦ le-leb _ _ (omega (arith, g)) ∙ sym (le-leb _ _ (omega (arith, g)))
    ]

eqb_after : (a at n : ℕ) → 0 < a → eqb (n - at) a ≡ eqb n (at + a)
eqb_after a at n h =
    elim (ℕ_discrete n (at + a)) [
      | yes e ↦ eq-eqb _ _ (omega (arith, e)) ∙ sym (eq-eqb _ _ e)
      | no w ↦ ne_eqb _ _ (λ e. w (omega (arith, e))) ∙ sym (ne_eqb _ _ w)
    ]

module _ (bytes : List ℕ) (at : ℕ) where
  abbrev after : List ℕ
  after = drop at bytes

  -- ---- numbers

  u16_after : (k : ℕ) → u16_at after k ≡ u16_at bytes (at + k)
  unfolding u16_at
  u16_after k = let e : at + (k + 1) ≡ at + k + 1 = omega arith in rw (get_or-drop at bytes k 0, get_or-drop at bytes (k + 1) 0, e)

  words_after : (k n : ℕ) → words_at after k n ≡ words_at bytes (at + k) n
  unfolding words_at
  words_after k zero = refl
  words_after k (suc n) = let e : at + (k + 2) ≡ at + k + 2 = omega arith in ap₂ ◌∷◌ (u16_after k) (words_after (k + 2) n ∙ rw e)

  indices_after : (k n : ℕ) → indices_at after k n ≡ indices_at bytes (at + k) n
  indices_after k n = ap (map word_index) (words_after k n)

  pub reading_after : probe_at after 0 ≡ probe_at bytes at
  unfolding probe_at u32_at
  reading_after =
      let e : at + 2 ≡ at + 1 + 1 = omega arith in
      let f : at + 3 ≡ at + 1 + 2 = omega arith in
      let g : at + 4 ≡ at + 1 + 3 = omega arith in
      rw (get_or-drop at bytes 0 0, get_or-drop at bytes 1 0, get_or-drop at bytes 2 0, get_or-drop at bytes 3 0, get_or-drop at bytes 4 0, add-zero, e, f, g)

  -- ---- sections

  section_place : (k count size : ℕ) → section_refusal after k count size ≡ section_refusal bytes (at + k) count size
  unfolding section_refusal
  section_place k count size =
      let n = length-drop at bytes in
      let e : at + (k + 2) ≡ at + k + 2 = omega arith in
      let f : at + (k + 2 + size * count) ≡ at + k + 2 + size * count = omega arith in
      rw (n, leb_after (k + 2) at (length bytes) (omega arith), leb_after (k + 2 + size * count) at (length bytes) (omega arith), u16_after k, e, f)

  pub section_after : (count size : ℕ) → section_refusal after 0 count size ≡ section_refusal bytes at count size
  section_after count size = section_place 0 count size ∙ rw add-zero

  -- ---- levels

  level_place : (s : Settings) (l k : ℕ) → level_section_refusal after s l k ≡ level_section_refusal bytes s l (at + k)
  unfolding level_section_refusal
  level_place s l k =
      let e : at + (k + 2) ≡ at + k + 2 = omega arith in
      rw (section_place k (nodes_at s l) 2, indices_after (k + 2) (nodes_at s l), e)

  sections_place : (s : Settings) (l k : ℕ) → level_sections_refusal after s l k ≡ level_sections_refusal bytes s l (at + k)
  unfolding level_sections_refusal
  sections_place s zero k =
      let e : at + (k + 2 + 2 * nodes_at s 0) ≡ at + k + 2 + 2 * nodes_at s 0 = omega arith in
      rw (level_place s 0 k, length-drop at bytes, eqb_after (k + 2 + 2 * nodes_at s 0) at (length bytes) (omega arith), e)
  sections_place s (suc l) k =
      let e : at + (k + 2 + 2 * nodes_at s (suc l)) ≡ at + k + 2 + 2 * nodes_at s (suc l) = omega arith in
      rw (level_place s (suc l) k, sections_place s l (k + 2 + 2 * nodes_at s (suc l)), e)

  pub sections_after : (s : Settings) (l : ℕ) → level_sections_refusal after s l 0 ≡ level_sections_refusal bytes s l at
  sections_after s l = sections_place s l 0 ∙ rw add-zero

  from_place : (s : Settings) (l k : ℕ) → levels_from after s l k ≡ levels_from bytes s l (at + k)
  unfolding levels_from
  from_place s zero k = let e : at + (k + 2) ≡ at + k + 2 = omega arith in rw (indices_after (k + 2) (nodes_at s 0), e)
  from_place s (suc l) k =
      let n = nodes_at s (suc l) in
      let e : at + (k + 2) ≡ at + k + 2 = omega arith in
      let f : at + (k + 2 + 2 * n) ≡ at + k + 2 + 2 * n = omega arith in
      rw (indices_after (k + 2) n, from_place s l (k + 2 + 2 * n), e, f)

  pub levels_after : (s : Settings) (l : ℕ) → levels_from after s l 0 ≡ levels_from bytes s l at
  levels_after s l = from_place s l 0 ∙ rw add-zero

-- the items of a section that is cut off: so many numbers of two bytes
pub section_items : (bytes : List ℕ) (n : ℕ) {section : List ℕ} → section ≡ take (2 + 2 * n) bytes → part 2 (length section) section ≡ part 2 (2 + 2 * n) bytes
section_items bytes n {section} e =
    let m : 2 + 2 * n - 2 ≡ 2 * n = omega arith in
    let cut : drop 2 section ≡ part 2 (2 + 2 * n) bytes = rw (e, m) (drop-take 2 (2 * n) bytes) in take_rest section 2 ∙ cut

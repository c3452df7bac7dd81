-- The shape and bins sections: written and read, the settings are the same; read and written, the bytes are. Assumes nothing.
use mathlib.Core.Path.{◌≡◌, refl, sym, ap, ap₂, ◌∙◌, subst}
use mathlib.Core.List.{List, [], ◌∷◌, ◌++◌}
use Prim.Native.Nat.{ℕ, zero, suc, ◌+◌, ◌-◌, ◌*◌, ◌≤◌, ◌<◌}
use native.Mathlib.Decide.{dec_le}
use native.Mathlib.Numerals.{add-one}
use native.Mathlib.Omega.{arith}
use borrow.Author.Tests.{le-leb, lt-leb}
use lib.Dec.{T}
use lib.ListN.{length, get_or}
use lib.Seq.{ext_get_or}
use Rattle.mathematics.specs.Definitions.Tables.{tabulate}
use Rattle.mathematics.proofs.Tables.{length-tabulate, get_or-tabulate}
use Rattle.pyramid.specs.declared.Settings.{Settings}
use Rattle.pyramid.specs.Definitions.Settings.{bin, bins_ok}
use Rattle.pyramid.specs.Definitions.Buffers.{Bytes}
use Rattle.pyramid.specs.Inner.Lawful.{Lawful}
use Rattle.pyramid.proofs.Lawful.{slot_empty}
use Rattle.bale.specs.Definitions.Words.{le16, words, u16_at, words_at}
use Rattle.bale.specs.Definitions.Sections.{numbers_section}
use Rattle.bale.specs.Definitions.Files.{shape_section, shape_count, bins_from, bins_section}
use Rattle.bale.specs.Definitions.Reader.{after_shape, bins_place, count_in, depth_in, slot_in, settings_in}
use Rattle.bale.proofs.Stands.{Stands}
use Rattle.bale.proofs.WordLists.{Short, length-words_at, get_or-words_at}
use Rattle.bale.proofs.Sections.{Section, numbers_read, numbers_stand}
use Rattle.bale.proofs.FileLengths.{length-bins_from}
use Rattle.bale.proofs.Forms.{ReadShape, shape_read}

-- ---- the bins, level N first

module _ (s : Settings) where
  get_or_bins : (n l : ℕ) → l ≤ n → get_or (bins_from s n) (n - l) 0 ≡ bin s l
  unfolding bins_from
  get_or_bins zero l h = let e : l ≡ 0 = omega arith in rw e
  get_or_bins (suc n) l h = cases (get_or_bins n l) (dec_le l n)
    where
      cases : (l ≤ n → get_or (bins_from s n) (n - l) 0 ≡ bin s l) → Dec (l ≤ n) → get_or (bin s (suc n) ∷ bins_from s n) (suc n - l) 0 ≡ bin s l
      cases below (yes k) = let e : suc n - l ≡ suc (n - l) = omega arith in rw e (below k)
      cases below (no k) = let e : l ≡ suc n = omega arith in let z : suc n - suc n ≡ 0 = omega arith in rw (e, z)

  short_bins : ((l : ℕ) → l ≤ s.depth → bin s l < 65536) → (n : ℕ) → n ≤ s.depth → Short (bins_from s n)
  unfolding bins_from
  short_bins small zero h zero = small 0 (omega arith)
  short_bins small zero h (suc i) = omega arith
  short_bins small (suc n) h zero = small (suc n) h
  short_bins small (suc n) h (suc i) = short_bins small n (omega arith) i

  bins_written : {ns : List ℕ} {n : ℕ} → bins_from s s.depth ≡ ns → length ns ≡ n → bins_section s ≡ le16 n ++ words ns
  unfolding bins_section numbers_section
  bins_written e long = rw (e, long) refl

-- ---- the slots

module _ (bytes : List ℕ) (depth : ℕ) where
  slot_below : (l : ℕ) → l ≤ depth → slot_in bytes depth l ≡ u16_at bytes (after_shape (count_in bytes) + 2 + 2 * (depth - l))
  unfolding slot_in
  slot_below l h = rw (le-leb l depth h)

  slot_above : (l : ℕ) → depth < l → slot_in bytes depth l ≡ 0
  unfolding slot_in
  slot_above l h = rw (lt-leb l depth h)

-- ---- written, then read

pub record ReadSettings (s : Settings) (bytes : List ℕ) : Type 0 where
  pub is : settings_in bytes ≡ s
  pub shape : ReadShape bytes s
  pub bins : Section bytes (bins_place s) (s.depth + 1) 2

module _ {s : Settings} (bytes : List ℕ) (law : Lawful s) where
  bins_read : Stands (bins_section s) bytes (bins_place s)
      → Section bytes (bins_place s) (s.depth + 1) 2 × (words_at bytes (bins_place s + 2) (s.depth + 1) ≡ bins_from s s.depth)
  unfolding bins_section
  bins_read st =
      let n = length-bins_from s s.depth in
      let (w, e) =
      numbers_read (bins_from s s.depth) (rw n (omega (arith, law.shaped.deep)))
      (short_bins s (λ l h. omega (arith, (law.binned l h).most)) s.depth (omega arith)) st
      in
      (rw n at w, rw n at e)

  slots_read : T (bins_ok s) → length s.bins ≡ 7 → count_in bytes ≡ shape_count s → words_at bytes (bins_place s + 2) (s.depth + 1) ≡ bins_from s s.depth
      → tabulate 7 (slot_in bytes s.depth) ≡ s.bins
  slots_read ok seven count e =
      let n = length-tabulate 7 (slot_in bytes s.depth) in
      ext_get_or 0 _ _ (n ∙ sym seven) (λ l h. get_or-tabulate 7 (slot_in bytes s.depth) 0 l (omega arith) ∙ slot l (omega arith) (dec_le l s.depth))
    where
      slot : (l : ℕ) → l < 7 → Dec (l ≤ s.depth) → slot_in bytes s.depth l ≡ bin s l
      slot l h (yes k) =
          slot_below bytes s.depth l k
          ∙ rw count (sym (get_or-words_at bytes (bins_place s + 2) (s.depth + 1) (s.depth - l) (omega arith)))
          ∙ ap (λ (ns : List ℕ). get_or ns (s.depth - l) 0) e
          ∙ get_or_bins s s.depth l k
      slot l h (no k) = slot_above bytes s.depth l (omega arith) ∙ sym (slot_empty s ok l h (omega arith))

  pub settings_read : T (bins_ok s) → length s.bins ≡ 7 → Stands (shape_section s) bytes 0 → Stands (bins_section s) bytes (bins_place s) → ReadSettings s bytes
  unfolding settings_in
  settings_read ok seven st₁ st₂ =
      let shape = shape_read bytes s law.shaped st₁ in
      let (bins, down) = bins_read st₂ in
      record {
        is = rw (shape.columns, shape.rows, shape.depth, shape.kernel, shape.black, shape.white, slots_read ok seven shape.count down);
        shape = shape;
        bins = bins;
      }

-- ---- read, then written

module _ (bytes : List ℕ) (all : Bytes bytes) (deep : depth_in bytes ≤ 6) (counted : count_in bytes ≡ shape_count (settings_in bytes)) where
  abbrev at : ℕ
  at = bins_place (settings_in bytes) + 2

  bins_in : (settings_in bytes).bins ≡ tabulate 7 (slot_in bytes (depth_in bytes))
  unfolding settings_in
  bins_in = refl

  bin-is : (l : ℕ) → l ≤ depth_in bytes → bin (settings_in bytes) l ≡ u16_at bytes (at + 2 * (depth_in bytes - l))
  bin-is l h =
      ap (λ (bins : List ℕ). get_or bins l 0) bins_in ∙ get_or-tabulate 7 (slot_in bytes (depth_in bytes)) 0 l (omega arith) ∙ slot_below bytes (depth_in bytes) l h
      ∙ ap (λ (n : ℕ). u16_at bytes (after_shape n + 2 + 2 * (depth_in bytes - l))) counted

  bins_are : (l : ℕ) → l ≤ depth_in bytes → bins_from (settings_in bytes) l ≡ words_at bytes (at + 2 * (depth_in bytes - l)) (suc l)
  unfolding bins_from words_at
  bins_are zero h = ap (λ (n : ℕ). n ∷ []) (bin-is 0 h)
  bins_are (suc l) h =
      let e : at + 2 * (depth_in bytes - l) ≡ at + 2 * (depth_in bytes - suc l) + 2 = omega arith in
      ap₂ ◌∷◌ (bin-is (suc l) h) (bins_are l (omega arith) ∙ ap (λ (p : ℕ). words_at bytes p (suc l)) e)

  pub bins_stand : Section bytes (bins_place (settings_in bytes)) (depth_in bytes + 1) 2 → Stands (bins_section (settings_in bytes)) bytes (bins_place (settings_in bytes))
  bins_stand w =
      let s = settings_in bytes in
      let depth : s.depth ≡ depth_in bytes = (unfold settings_in in refl) in
      let z : at + 2 * (depth_in bytes - depth_in bytes) ≡ at = omega arith in
      let down : bins_from s s.depth ≡ words_at bytes at (depth_in bytes + 1) = ap (bins_from s) depth ∙ bins_are (depth_in bytes) (omega arith) ∙ rw (z, add-one) in
      subst (λ (piece : List ℕ). Stands piece bytes (bins_place s)) (sym (bins_written s down (length-words_at bytes at (depth_in bytes + 1)))) (numbers_stand all w)

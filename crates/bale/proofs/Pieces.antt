-- Pieces that are put one after the other, each where the one before it ends: the sections, the file, and the levels that are read.
-- Assumes nothing.
use mathlib.Core.Path.{◌≡◌, refl, sym, ap, ◌∙◌}
use mathlib.Core.Bool.{Bool, true, false, cond}
use mathlib.Core.List.{List, [], ◌∷◌, ◌++◌, map, append_assoc, append-nil}
use Prim.Native.Nat.{ℕ, zero, suc, ◌+◌, ◌-◌, ◌*◌, ◌≤◌, ◌<◌}
use native.Mathlib.Numerals.{add-one}
use native.Mathlib.Omega.{arith}
use borrow.Rule.Slice.PartMut.{put_mid}
use lib.IntN.{ℤ, pos}
use lib.ListN.{length, get_or, take, drop, length-map, get_or-map}
use lib.Seq.{length-take-le, take_all, take-suc}
use Rattle.mathematics.specs.Inner.Splices.{splice, part}
use Rattle.mathematics.specs.Definitions.Tables.{tabulate}
use Rattle.mathematics.proofs.Tables.{tabulate-same, tabulate-map}
use Rattle.mathematics.proofs.Splices.{length-splice, part_long, splice_nil, splice_append, splice_prepend, splice_whole}
use Rattle.pyramid.specs.declared.Settings.{Settings}
use Rattle.pyramid.specs.Definitions.Settings.{bin}
use Rattle.pyramid.specs.Definitions.Sizes.{nodes_at, total}
use Rattle.pyramid.proofs.Sizes.{total-is}
use Rattle.bale.specs.declared.Note.{Note}
use Rattle.bale.specs.Definitions.Words.{le16, words, index_word, word_index, u16_at, words_at, indices_at}
use Rattle.bale.specs.Definitions.Readings.{reading_bytes}
use Rattle.bale.specs.Definitions.Sections.{numbers_section}
use Rattle.bale.specs.Definitions.Files.{every_grey, shape_section, shape_count, bins_from, bins_section, readings_section, level_section, level_sections, file_of, file_length}
use Rattle.bale.specs.Definitions.Reader.{levels_place, levels_from}
use Rattle.bale.proofs.WordLaws.{put_splice}
use Rattle.bale.proofs.WordLists.{indices_part, length-words, words_append, length-words_at, get_or-words_at}
use Rattle.bale.proofs.After.{levels_after}
use Rattle.bale.proofs.LevelTrips.{length_level, length_levels, length_indices}
use Rattle.bale.proofs.FileLengths.{length-bins_from}

-- ---- a piece right after a piece

piece_next : {A : Type 0} (at : ℕ) (xs ys l : List A) {m n : List A} {k : ℕ} → m ≡ splice at xs l → n ≡ splice k ys m → k ≡ at + length xs → k ≤ length l
    → n ≡ splice at (xs ++ ys) l
piece_next at xs ys l p q e h = q ∙ rw (p, e) (splice_append at xs l (omega arith) ys)

-- a piece that is all of what it is put in
whole_part : (xs l : List ℕ) {w : List ℕ} → w ≡ splice 0 xs l → length xs ≡ length l → w ≡ xs
whole_part xs l p e = p ∙ splice_whole xs l e

-- ---- numbers, one after the other: l became w, with i of them written

pub record Written (ns l w : List ℕ) (i : ℕ) : Type 0 where
  pub bound : i ≤ length ns
  pub is : w ≡ splice 0 (words (take i ns)) l

module _ (ns l : List ℕ) where
  pub written_start : Written ns l l 0
  unfolding words
  written_start = record { bound = omega arith; is = sym (splice_nil 0 l) }

  written_long : (i : ℕ) → i ≤ length ns → length (words (take i ns)) ≡ 2 * i
  written_long i h = length-words (take i ns) ∙ simp (length-take-le i ns h)

  module _ (long : length l ≡ 2 * length ns) where
    pub written_next : {w v : List ℕ} {i n : ℕ} → Written ns l w i → i < length ns → n ≡ get_or ns i 0 → v ≡ splice (2 * i) (le16 n) w → Written ns l v (i + 1)
    unfolding words le16
    written_next {w} {v} {i} {n} r h e q =
        let more : words (take i ns) ++ le16 n ≡ words (take (i + 1) ns) = rw (e, add-one, take-suc ns i 0, words_append) (simp append-nil) in
        let place = written_long i r.bound in
        record { bound = omega arith; is = rw more at (piece_next 0 (words (take i ns)) (le16 n) l r.is q (omega (arith, place)) (omega arith)) }

    pub written_end : {w : List ℕ} {i : ℕ} → Written ns l w i → length ns ≤ i → w ≡ words ns
    written_end {w} {i} r h = whole_part (words ns) l (rw (take_all i ns h) at r.is) (length-words ns ∙ sym long)

-- ---- the sections of numbers: a count, and then these

-- the shape's count and its first four numbers, and then black and white where the count is 6
pub shape_whole : (s : Settings) {n : ℕ} {start greys : List ℕ} → n ≡ shape_count s → start ≡ words (n ∷ s.columns ∷ s.rows ∷ s.depth ∷ s.kernel ∷ [])
    → (n ≡ 6 → greys ≡ words (s.black ∷ s.white ∷ [])) → ((n ≡ 6 → ⊥) → greys ≡ []) → start ++ greys ≡ shape_section s
unfolding shape_section numbers_section words le16 shape_count
shape_whole s {n} {start} {greys} e p six four = by (every_grey s) e
  where
    by : (every : Bool) → n ≡ cond every 4 6
        → start ++ greys ≡ numbers_section (s.columns ∷ s.rows ∷ s.depth ∷ s.kernel ∷ cond every [] (s.black ∷ s.white ∷ []))
    by true e = rw (p, four (λ f. omega (arith, e, f)), e) refl
    by false e = rw (p, six e, e) refl

pub numbers_whole : (k : ℕ) (ns : List ℕ) {count w : List ℕ} → k ≡ length ns → count ≡ le16 k → w ≡ words ns → count ++ w ≡ numbers_section ns
unfolding numbers_section
numbers_whole k ns e p q = rw (p, q, e)

-- the bins of the levels below one
pub bins_below : Settings → ℕ → List ℕ
bins_below s zero = []
bins_below s (suc l) = bins_from s l

length_below : (s : Settings) (level : ℕ) → length (bins_below s level) ≡ level
unfolding bins_below
length_below s zero = refl
length_below s (suc l) = length-bins_from s l ∙ omega arith

-- a loop that writes the bins, level 0 first, each before the one written last
pub record Bins (s : Settings) (l w : List ℕ) (level : ℕ) : Type 0 where
  pub is : w ≡ splice (2 * (s.depth + 1 - level)) (words (bins_below s level)) l

module _ (s : Settings) (l : List ℕ) where
  pub bins_start : Bins s l l 0
  unfolding bins_below words
  bins_start = record { is = sym (splice_nil _ l) }

  module _ (long : length l ≡ 2 * (s.depth + 1)) where
    pub bins_more : {w v : List ℕ} {level : ℕ} → Bins s l w level → level < s.depth + 1 → v ≡ splice (2 * (s.depth - level)) (le16 (bin s level)) w
        → Bins s l v (level + 1)
    unfolding words le16 bins_below bins_from
    bins_more {w} {v} {level} r h q =
        let at = 2 * (s.depth - level) in
        let e : 2 * (s.depth + 1 - level) ≡ at + 2 = omega arith in
        let f : at ≡ 2 * (s.depth + 1 - (level + 1)) = omega arith in
        let n = length-words (bins_below s level) ∙ ap (λ (i : ℕ). 2 * i) (length_below s level) in
        let more : le16 (bin s level) ++ words (bins_below s level) ≡ words (bins_below s (level + 1)) = added level in
        let both : splice at (le16 (bin s level)) w ≡ splice at (le16 (bin s level) ++ words (bins_below s level)) l =
        rw (r.is, e) (splice_prepend at (le16 (bin s level)) (words (bins_below s level)) l (omega (arith, n)))
        in
        record { is = q ∙ both ∙ rw (more, f) }
      where
        added : (level : ℕ) → le16 (bin s level) ++ words (bins_below s level) ≡ words (bins_below s (level + 1))
        added zero = refl
        added (suc level) = rw add-one refl

    pub bins_end : {w : List ℕ} {level : ℕ} → Bins s l w level → s.depth + 1 ≤ level → level ≤ s.depth + 1 → w ≡ words (bins_from s s.depth)
    unfolding bins_below
    bins_end {w} {level} r h k =
        let e : level ≡ suc s.depth = omega arith in
        let f : 2 * (s.depth + 1 - level) ≡ 0 = omega arith in
        let n = length-words (bins_from s s.depth) ∙ ap (λ (i : ℕ). 2 * i) (length-bins_from s s.depth) in
        whole_part (words (bins_from s s.depth)) l (r.is ∙ rw (f, e)) (n ∙ sym long)

pub bins_whole : (s : Settings) {count w : List ℕ} → count ≡ le16 (s.depth + 1) → w ≡ words (bins_from s s.depth) → count ++ w ≡ bins_section s
unfolding bins_section
bins_whole s = numbers_whole (s.depth + 1) (bins_from s s.depth) (sym (length-bins_from s s.depth))

-- the indices of a level
module _ (ms : List ℤ) where
  pub index_at : (i : ℕ) → index_word (get_or ms i (pos 0)) ≡ get_or (map index_word ms) i 0
  unfolding index_word
  index_at i = sym (get_or-map index_word ms i (pos 0))

  pub level_whole : {count w : List ℕ} → count ≡ le16 (length ms) → w ≡ words (map index_word ms) → count ++ w ≡ level_section ms
  unfolding level_section
  level_whole = numbers_whole (length ms) (map index_word ms) (sym (length-map ms index_word))

-- the readings
pub readings_whole : (note : Note) {count drier press : List ℕ} → count ≡ le16 2 → drier ≡ reading_bytes note.before_drier → press ≡ reading_bytes note.at_press
    → count ++ (drier ++ press) ≡ readings_section note
unfolding readings_section
readings_whole note p q r = rw (p, q, r)

-- ---- the sections of a level and of those below it, whose indices stand from a place on

module _ (s : Settings) (ms : List ℤ) where
  sections_zero : (l : ℕ) → l ≡ 0 → level_section (take (nodes_at s l) ms) ≡ level_sections s l ms
  unfolding level_sections
  sections_zero zero z = refl
  sections_zero (suc l) z = absurd (omega arith)

  sections_suc : (l : ℕ) → (l ≡ 0 → ⊥) → level_section (take (nodes_at s l) ms) ++ level_sections s (l - 1) (drop (nodes_at s l) ms) ≡ level_sections s l ms
  unfolding level_sections
  sections_suc zero some = absurd (some refl)
  sections_suc (suc l) some = let e : suc l - 1 ≡ l = omega arith in rw e

module _ (s : Settings) (l at : ℕ) (ms : List ℤ) (file : List ℕ) {mid : List ℕ} (p : mid ≡ splice at (level_section (take (nodes_at s l) ms)) file) where
  pub sections_last : l ≡ 0 → mid ≡ splice at (level_sections s l ms) file
  sections_last z = p ∙ ap (λ (xs : List ℕ). splice at xs file) (sections_zero s ms l z)

  pub sections_more : {next : ℕ} → (l ≡ 0 → ⊥) → next ≡ at + 2 + 2 * length (take (nodes_at s l) ms) → next ≤ length file
      → splice next (level_sections s (l - 1) (drop (nodes_at s l) ms)) mid ≡ splice at (level_sections s l ms) file
  sections_more some e room =
      let here = take (nodes_at s l) ms in
      rw (sections_suc s ms l some) at
      (piece_next at (level_section here) (level_sections s (l - 1) (drop (nodes_at s l) ms)) file p refl (omega (arith, length_level here)) room)

-- a level's section, put in its part of the sections
pub level_put : (here ms : List ℤ) (at : ℕ) (l : List ℕ) {w : List ℕ} → w ≡ level_section here → here ≡ ms
    → put_mid at (at + 2 + 2 * length here - at) l w ≡ splice at (level_section ms) l
level_put here ms at l p e = rw (p, ← e) (put_splice at (at + 2 + 2 * length here - at) (level_section here) l (omega (arith, length_level here)))

pub level_put_long : (ms : List ℤ) (at : ℕ) (l : List ℕ) {w : List ℕ} → w ≡ splice at (level_section ms) l → at + 2 + 2 * length ms ≤ length l → length w ≡ length l
level_put_long ms at l p room = rw p (length-splice at (level_section ms) l (omega (arith, length_level ms)))

pub sections_whole : (s : Settings) (levels : List ℤ) (l : List ℕ) {w : List ℕ} → length levels ≡ total s → levels_place s + length l ≡ file_length s
    → w ≡ splice 0 (level_sections s s.depth levels) l → w ≡ level_sections s s.depth levels
unfolding file_length
sections_whole s levels l e long p =
    let t = total-is s in
    whole_part (level_sections s s.depth levels) l p (length_levels s s.depth levels (e ∙ t) ∙ omega (arith, long, t))

-- ---- the file

pub file_whole : (s : Settings) (note : Note) (levels : List ℤ) (e : List ℕ) {a b c d : List ℕ} → a ≡ shape_section s → b ≡ bins_section s → c ≡ readings_section note
    → d ≡ level_sections s s.depth levels → (((a ++ b) ++ c) ++ d) ++ e ≡ file_of s note levels ++ e
unfolding file_of
file_whole s note levels e p q r t = rw (p, q, r, t) (simp append_assoc)

-- ---- indices that are read

pub indices_table : (bytes : List ℕ) (at n : ℕ) → tabulate n (λ k. word_index (u16_at bytes (at + 2 * k))) ≡ indices_at bytes at n
indices_table bytes at n =
    let same : tabulate n (λ k. word_index (u16_at bytes (at + 2 * k))) ≡ tabulate n (λ k. word_index (get_or (words_at bytes at n) k 0)) =
    tabulate-same n _ _ (λ k h. ap word_index (sym (get_or-words_at bytes at n k h)))
    in
    same ∙ rw (length-words_at bytes at n) at (tabulate-map word_index 0 (words_at bytes at n))

pub indices_filled : (bytes : List ℕ) (at : ℕ) (levels : List ℤ)
    → splice 0 (tabulate (length levels) (λ k. word_index (u16_at bytes (at + 2 * k)))) levels ≡ indices_at bytes at (length levels)
indices_filled bytes at levels =
    rw (indices_table bytes at (length levels)) (splice_whole (indices_at bytes at (length levels)) levels (length_indices bytes at (length levels)))

-- of a level and of those below it

-- the part of a level buffer that they fill
pub part_filled : (s : Settings) (bytes : List ℕ) (l from : ℕ) (levels : List ℤ) {nodes : ℕ} {new : List ℤ} → nodes ≡ nodes_at s l → from + nodes ≤ length levels
    → new ≡ indices_at (part 2 (2 + 2 * nodes) bytes) 0 (length (part from (from + nodes) levels))
    → put_mid from (from + nodes - from) levels new ≡ splice from (indices_at bytes 2 (nodes_at s l)) levels
part_filled s bytes l from levels {nodes} {new} n room e =
    let all : new ≡ indices_at bytes 2 nodes = (rw (part_long from nodes levels room) at e) ∙ indices_part bytes 2 nodes in
    let long : length new ≡ nodes = ap length all ∙ length_indices bytes 2 nodes in
    put_splice from (from + nodes - from) new levels (omega arith) ∙ rw (all, n)

module _ (s : Settings) (bytes : List ℕ) (l from : ℕ) (levels : List ℤ) {mid : List ℤ} (p : mid ≡ splice from (indices_at bytes 2 (nodes_at s l)) levels) where
  levels_zero : (l : ℕ) → l ≡ 0 → indices_at bytes 2 (nodes_at s l) ≡ levels_from bytes s l 0
  unfolding levels_from
  levels_zero zero z = refl
  levels_zero (suc l) z = absurd (omega arith)

  levels_suc : (l : ℕ) → (l ≡ 0 → ⊥) → indices_at bytes 2 (nodes_at s l) ++ levels_from bytes s (l - 1) (2 + 2 * nodes_at s l) ≡ levels_from bytes s l 0
  unfolding levels_from
  levels_suc zero some = absurd (some refl)
  levels_suc (suc l) some = let e : suc l - 1 ≡ l = omega arith in rw e

  pub read_last : l ≡ 0 → mid ≡ splice from (levels_from bytes s l 0) levels
  read_last z = p ∙ ap (λ (xs : List ℤ). splice from xs levels) (levels_zero l z)

  pub read_more : {below : List ℕ} {to : ℕ} → (l ≡ 0 → ⊥) → below ≡ drop (2 + 2 * nodes_at s l) bytes → to ≡ from + nodes_at s l → to ≤ length levels
      → splice to (levels_from below s (l - 1) 0) mid ≡ splice from (levels_from bytes s l 0) levels
  read_more some b f room =
      let here = indices_at bytes 2 (nodes_at s l) in
      rw (b, levels_after, f, ← levels_suc l some)
      (piece_next from here (levels_from bytes s (l - 1) (2 + 2 * nodes_at s l)) levels p refl (omega (arith, length_indices bytes 2 (nodes_at s l))) (omega arith))

-- 16-bit numbers that stand in a list of bytes are read as themselves, and the numbers that are read stand there. Assumes nothing.
use mathlib.Core.Path.{◌≡◌, refl, sym, ap, ap₂, ◌∙◌}
use mathlib.Core.List.{List, [], ◌∷◌, ◌++◌, map, append_assoc}
use Prim.Native.Nat.{ℕ, zero, suc, ◌+◌, ◌-◌, ◌*◌, ◌/◌, ◌%◌, ◌≤◌, ◌<◌}
use native.Mathlib.Nat.{not-suc-le-zero, add-zero}
use native.Mathlib.Decide.{ℕ_discrete}
use native.Mathlib.Omega.{arith}
use lib.IntN.{ℤ}
use lib.ListN.{length, get_or, take, drop}
use denote.Param.Members.{Mut}
use lib.Seq.{ext_get_or, drop-drop}
use mir.Syntax.{w16}
use mir.Val.{of_z, to_z}
use Rattle.std.proofs.lemmas.List.{get_or-take, get_or-drop}
use Rattle.std.specs.Simd.{first_chunks}
use Rattle.std.specs.Array.{IsFromFnResult, IsFromFnResultFrom}
use Rattle.std.specs.Fn.{Called}
use Rattle.mathematics.specs.Definitions.Tables.{tabulate}
use Rattle.mathematics.specs.Inner.Splices.{part}
use Rattle.mathematics.proofs.Splices.{part_long, get_or-part}
use Rattle.mathematics.proofs.Tables.{length-tabulate, get_or-tabulate}
use Rattle.quantizer.specs.Definitions.Values.{pair_index}
use Rattle.quantizer.proofs.Values.{pair_is}
use Rattle.pyramid.specs.Definitions.Buffers.{Bytes}
use Rattle.bale.specs.Definitions.Words.{le16, words, word_index, u16_at, u32_at, words_at, indices_at}
use Rattle.bale.proofs.Stands.{Stands, stands_front, stands_back, stands_join}
use Rattle.bale.proofs.WordLaws.{digits16, bytes16, word_bits, index_read}

pub length-words : (ns : List ℕ) → length (words ns) ≡ 2 * length ns
unfolding words le16
length-words [] = refl
length-words (n ∷ ns) = let e = length-words ns in omega arith

pub words_append : (ns ms : List ℕ) → words (ns ++ ms) ≡ words ns ++ words ms
unfolding words
words_append [] ms = refl
words_append (n ∷ ns) ms = ap (λ (r : List ℕ). le16 n ++ r) (words_append ns ms) ∙ sym (append_assoc (le16 n) (words ns) (words ms))

module _ (bytes : List ℕ) where
  pub length-words_at : (at n : ℕ) → length (words_at bytes at n) ≡ n
  unfolding words_at
  length-words_at at zero = refl
  length-words_at at (suc n) = ap suc (length-words_at (at + 2) n)

  pub get_or-words_at : (at n i : ℕ) → i < n → get_or (words_at bytes at n) i 0 ≡ u16_at bytes (at + 2 * i)
  unfolding words_at
  get_or-words_at at zero i h = absurd (not-suc-le-zero h)
  get_or-words_at at (suc n) zero h = let e : at + 2 * 0 ≡ at = omega arith in rw e
  get_or-words_at at (suc n) (suc i) h =
      let e : at + 2 + 2 * i ≡ at + 2 * suc i = omega arith in
      get_or-words_at (at + 2) n i (omega arith) ∙ rw e

-- ---- one number

module _ {bytes : List ℕ} {at : ℕ} where
  pub word_read : {n : ℕ} → n < 65536 → Stands (le16 n) bytes at → u16_at bytes at ≡ n
  unfolding u16_at le16
  word_read {n} h s =
      let low : get_or bytes at 0 ≡ n % 256 = ap (λ (k : ℕ). get_or bytes k 0) (sym (add-zero at)) ∙ s.each 0 (omega arith) in
      let high : get_or bytes (at + 1) 0 ≡ n / 256 % 256 = s.each 1 (omega arith) in
      rw (low, high) (digits16 n h)

  pub word_stands : Bytes bytes → at + 2 ≤ length bytes → Stands (le16 (u16_at bytes at)) bytes at
  unfolding u16_at
  word_stands all h =
      rw (bytes16 (get_or bytes at 0) (get_or bytes (at + 1) 0) (all at) (all (at + 1)))
      (record { room = h; each = each })
    where
      each : (i : ℕ) → i < 2 → get_or bytes (at + i) 0 ≡ get_or (get_or bytes at 0 ∷ get_or bytes (at + 1) 0 ∷ []) i 0
      each zero k = rw add-zero
      each (suc zero) k = refl
      each (suc (suc i)) k = absurd (omega arith)

-- ---- an array that a closure makes, which no call of it changes

module _ {F : Type 0} {g : Mut F (ℕ × Unit {0}) ℕ} (f : F) (h : ℕ → ℕ) (called : (k y : ℕ) (q : F) → Called g f (k, tt) y q → (q ≡ f) × (y ≡ h k)) (ys : List ℕ) where
  made_from : (i n : ℕ) → IsFromFnResultFrom g f ys i n → (k : ℕ) → i ≤ k → k < i + n → get_or ys k 0 ≡ h k
  made_from i zero all k l m = absurd (omega arith)
  made_from i (suc n) (q, y, at, call, others) k l m =
      let (same, is) = called i y q call in
      elim (ℕ_discrete k i) [
        | yes e ↦ rw e (at.1 0 ∙ is)
        | no e ↦ made_from (i + 1) n (rw same at others) k (omega (arith, e)) (omega arith)
      ]

  pub made_by : {n : ℕ} → IsFromFnResult g f ys n → ys ≡ tabulate n h
  made_by {n} made =
      ext_get_or 0 _ _ (made.long ∙ sym (length-tabulate n h)) (λ k l. made_from 0 n made.each k (omega arith) (omega (arith, made.long)) ∙ sym (get_or-tabulate n h 0 k (omega (arith, made.long))))

-- ---- a number of bytes taken one by one

module _ (bytes : List ℕ) (at : ℕ) where
  pub number16 : {two : List ℕ} → two ≡ tabulate 2 (λ i. get_or bytes (at + i) 0) → get_or two 0 0 + get_or two 1 0 * 256 ≡ u16_at bytes at
  unfolding u16_at tabulate
  number16 e = rw (e, add-zero) (omega arith)

  pub number32 : {four : List ℕ} → four ≡ tabulate 4 (λ i. get_or bytes (at + i) 0)
      → get_or four 0 0 + get_or four 1 0 * 256 + get_or four 2 0 * 65536 + get_or four 3 0 * 16777216 ≡ u32_at bytes at
  unfolding u32_at tabulate
  number32 e = rw (e, add-zero) (omega arith)

-- ---- a list of them

abbrev pub Short : List ℕ → Type 0
Short ns = (i : ℕ) → get_or ns i 0 < 65536

pub words_read : {bytes : List ℕ} (ns : List ℕ) {at : ℕ} → Short ns → Stands (words ns) bytes at → words_at bytes at (length ns) ≡ ns
unfolding words words_at le16
words_read [] short s = refl
words_read {bytes} (n ∷ ns) {at} short s =
    ap₂ ◌∷◌ (word_read (short 0) (stands_front (le16 n) (words ns) s)) (words_read ns (λ i. short (suc i)) (stands_back (le16 n) (words ns) s))

pub words_stand : {bytes : List ℕ} (at n : ℕ) → Bytes bytes → at + 2 * n ≤ length bytes → Stands (words (words_at bytes at n)) bytes at
unfolding words words_at le16
words_stand at zero all h = record { room = omega arith; each = λ i k. absurd (not-suc-le-zero k) }
words_stand {bytes} at (suc n) all h =
    stands_join (le16 (u16_at bytes at)) (words (words_at bytes (at + 2) n)) (word_stands all (omega arith)) (words_stand (at + 2) n all (omega arith))

pub words_short : (bytes : List ℕ) → Bytes bytes → (at : ℕ) → u16_at bytes at < 65536
unfolding u16_at
words_short bytes all at = omega (arith, all at, all (at + 1))

-- ---- numbers of a part, and of the pairs of bytes that the library makes of one

module _ (bytes : List ℕ) (f t : ℕ) where
  words_part : (k n : ℕ) → k + 2 * n ≤ t - f → words_at (part f t bytes) k n ≡ words_at bytes (f + k) n
  unfolding words_at u16_at
  words_part k zero h = refl
  words_part k (suc n) h =
      let low = get_or-part f t bytes 0 k (omega arith) in
      let high = get_or-part f t bytes 0 (k + 1) (omega arith) in
      let e : f + (k + 1) ≡ f + k + 1 = omega arith in
      let e₂ : f + (k + 2) ≡ f + k + 2 = omega arith in
      ap₂ ◌∷◌ (rw (low, high, e)) (words_part (k + 2) n (omega arith) ∙ rw e₂)

pub indices_part : (bytes : List ℕ) (at n : ℕ) → indices_at (part at (at + 2 * n) bytes) 0 n ≡ indices_at bytes at n
indices_part bytes at n = ap (map word_index) (words_part bytes at (at + 2 * n) 0 n (omega arith) ∙ rw add-zero)

pub indices_whole : (bytes : List ℕ) (at n : ℕ) → at + 2 * n ≤ length bytes
    → indices_at (part at (at + 2 * n) bytes) 0 (length (part at (at + 2 * n) bytes) / 2) ≡ indices_at bytes at n
indices_whole bytes at n h =
    let e : length (part at (at + 2 * n) bytes) / 2 ≡ n = omega (arith, part_long at (2 * n) bytes h) in rw e (indices_part bytes at n)

chunk_at : (n i j : ℕ) (bytes d : List ℕ) → i < n → j < 2 → get_or (get_or (first_chunks 2 n bytes) i d) j 0 ≡ get_or bytes (2 * i + j) 0
chunk_at zero i j bytes d h k = absurd (not-suc-le-zero h)
chunk_at (suc n) zero j bytes d h k = let e : 2 * 0 + j ≡ j = omega arith in rw e (get_or-take 2 bytes j 0 k)
chunk_at (suc n) (suc i) j bytes d h k =
    let e : 2 + (2 * i + j) ≡ 2 * suc i + j = omega arith in
    rw (← e) (chunk_at n i j (drop 2 bytes) d (omega arith) k ∙ get_or-drop 2 bytes (2 * i + j) 0)

pub chunk_index : {m : ℤ} (bytes : List ℕ) (n i : ℕ) {chunks : List (List ℕ)} (d : List ℕ) → Bytes bytes → chunks ≡ first_chunks 2 n bytes → i < n
    → m ≡ to_z w16 (get_or (get_or chunks i d) 0 0 + get_or (get_or chunks i d) 1 0 * 256) → to_z w16 (of_z w16 m) ≡ word_index (u16_at bytes (0 + 2 * i))
unfolding u16_at
chunk_index {m} bytes n i {chunks} d all e h p =
    let low : get_or (get_or chunks i d) 0 0 ≡ get_or bytes (2 * i + 0) 0 =
    ap (λ (cs : List (List ℕ)). get_or (get_or cs i d) 0 0) e ∙ chunk_at n i 0 bytes d h (omega arith)
    in
    let high : get_or (get_or chunks i d) 1 0 ≡ get_or bytes (2 * i + 1) 0 =
    ap (λ (cs : List (List ℕ)). get_or (get_or cs i d) 1 0) e ∙ chunk_at n i 1 bytes d h (omega arith)
    in
    let e₀ : 2 * i + 0 ≡ 0 + 2 * i = omega arith in
    let e₁ : 2 * i + 1 ≡ 0 + 2 * i + 1 = omega arith in
    index_read _ _ (all (0 + 2 * i)) (all (0 + 2 * i + 1)) (rw (low, high, e₀, e₁) at p)

-- ---- the indices of all pairs of bytes

module _ (bytes : List ℕ) (all : Bytes bytes) where
  pair_read : (at : ℕ) → pair_index (take 2 (drop at bytes)) ≡ word_index (u16_at bytes at)
  unfolding u16_at
  pair_read at =
      let low : get_or (take 2 (drop at bytes)) 0 0 ≡ get_or bytes (at + 0) 0 = get_or-take 2 (drop at bytes) 0 0 (omega arith) ∙ get_or-drop at bytes 0 0 in
      let high : get_or (take 2 (drop at bytes)) 1 0 ≡ get_or bytes (at + 1) 0 = get_or-take 2 (drop at bytes) 1 0 (omega arith) ∙ get_or-drop at bytes 1 0 in
      let same : get_or bytes at 0 + get_or bytes (at + 1) 0 * 256 ≡ get_or bytes at 0 + 256 * get_or bytes (at + 1) 0 = omega arith in
      pair_is (take 2 (drop at bytes)) ∙ rw (low, high, add-zero, same) (sym (word_bits (get_or bytes at 0 + 256 * get_or bytes (at + 1) 0) (words_short bytes all at)))

  pairs_from : (at n : ℕ) → map pair_index (first_chunks 2 n (drop at bytes)) ≡ indices_at bytes at n
  unfolding words_at
  pairs_from at zero = refl
  pairs_from at (suc n) =
      ap₂ ◌∷◌ (pair_read at) (ap (λ (rest : List ℕ). map pair_index (first_chunks 2 n rest)) (drop-drop 2 at bytes) ∙ pairs_from (at + 2) n)

  pub pairs_read : (n : ℕ) {pairs : List (List ℕ)} → pairs ≡ first_chunks 2 n bytes → map pair_index pairs ≡ indices_at bytes 0 n
  pairs_read n e = ap (map pair_index) e ∙ pairs_from 0 n

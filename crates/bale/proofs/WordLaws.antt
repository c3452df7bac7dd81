-- Laws of bytes, low byte first, and of indices in two's complement. Assumes nothing.
use mathlib.Core.Path.{◌≡◌, refl, sym, ap, ◌∙◌}
use mathlib.Core.Bool.{Bool, true, false, cond}
use mathlib.Core.List.{List, [], ◌∷◌}
use Prim.Native.Nat.{ℕ, suc, ◌+◌, ◌-◌, ◌*◌, ◌/◌, ◌%◌, ◌<◌}
use native.Mathlib.Nat.{div-div-eq-div-mul, div-add-mod', mod-eq_of_lt}
use native.Mathlib.Omega.{arith}
use borrow.Rule.Slice.PartMut.{put_mid}
use lib.Dec.{ltb}
use lib.IntN.{ℤ, pos, negsuc, ◌-ℤ◌}
use lib.ListN.{length}
use lib.Seq.{drop-drop}
use mir.Facts.{to_z-of_z, of_z-to_z, Fits-of_z}
use mir.Syntax.{w16}
use mir.Val.{SFits, of_z, to_z, sel}
use Rattle.std.specs.Int.{to_le_bytes}
use Rattle.mathematics.specs.Inner.Splices.{splice}
use Rattle.mathematics.proofs.Integers.{ints}
use Rattle.bale.specs.Definitions.Words.{le16, le32, index_word, word_index}

-- ---- numbers and their digits, each a byte

-- the first digit and the number that the others make
record Digit (digit rest n : ℕ) : Type 0 where
  low : n % 256 ≡ digit
  high : n / 256 ≡ rest

digit_is : (a rest : ℕ) → a < 256 → Digit a rest (a + 256 * rest)
digit_is a rest h = record { low = omega arith; high = omega arith }

pub bytes16 : (a b : ℕ) → a < 256 → b < 256 → le16 (a + 256 * b) ≡ a ∷ b ∷ []
unfolding le16
bytes16 a b ha hb = let first = digit_is a b ha in rw (first.low, first.high, mod-eq_of_lt hb)

pub bytes32 : (a b c d : ℕ) → a < 256 → b < 256 → c < 256 → d < 256 → le32 (a + 256 * b + 65536 * c + 16777216 * d) ≡ a ∷ b ∷ c ∷ d ∷ []
unfolding le32
bytes32 a b c d ha hb hc hd =
    let n = a + 256 * b + 65536 * c + 16777216 * d in
    let e : n ≡ a + 256 * (b + 256 * (c + 256 * d)) = omega arith in
    let first = digit_is a (b + 256 * (c + 256 * d)) ha in
    let second = digit_is b (c + 256 * d) hb in
    let third = digit_is c d hc in
    let two : n / 65536 ≡ c + 256 * d = sym (div-div-eq-div-mul n 256 256) ∙ rw (e, first.high) second.high in
    let three : n / 16777216 ≡ d = sym (div-div-eq-div-mul n 65536 256) ∙ rw two third.high in
    rw (two, three, e, first.low, first.high, second.low, third.low, mod-eq_of_lt hd)

pub digits16 : (n : ℕ) → n < 65536 → n % 256 + 256 * (n / 256 % 256) ≡ n
digits16 n h = omega arith

pub digits32 : (n : ℕ) → n < 2 * 0x8000_0000
    → n % 256 + 256 * (n / 256 % 256) + 65536 * (n / 65536 % 256) + 16777216 * (n / 16777216 % 256) ≡ n
digits32 n h =
    let a = n / 256 in
    let b = n / 65536 in
    let c = n / 16777216 in
    let e0 : a * 256 + n % 256 ≡ n = div-add-mod' n 256 in
    let e1 : b * 256 + a % 256 ≡ a = ap (λ (x : ℕ). x * 256 + a % 256) (sym (div-div-eq-div-mul n 256 256)) ∙ div-add-mod' a 256 in
    let e2 : c * 256 + b % 256 ≡ b = ap (λ (x : ℕ). x * 256 + b % 256) (sym (div-div-eq-div-mul n 65536 256)) ∙ div-add-mod' b 256 in
    let e3 : c % 256 ≡ c = mod-eq_of_lt (omega arith) in
    linear (n % 256) (a % 256) (b % 256) (c % 256) a b c n e0 e1 e2 e3
  where
    linear : (r0 r1 r2 r3 a b c n : ℕ) → a * 256 + r0 ≡ n → b * 256 + r1 ≡ a → c * 256 + r2 ≡ b → r3 ≡ c
        → r0 + 256 * r1 + 65536 * r2 + 16777216 * r3 ≡ n
    linear r0 r1 r2 r3 a b c n p q r t = omega arith

-- ---- the library's bytes are these, and a part that is replaced is a splice

pub low_bytes16 : (n : ℕ) → to_le_bytes w16 n ≡ le16 n
unfolding le16
low_bytes16 n = refl

pub put_splice : {A : Type 0} (at k : ℕ) (xs l : List A) → k ≡ length xs → put_mid at k l xs ≡ splice at xs l
unfolding splice
put_splice at k xs l e = rw (drop-drop k at l, e)

-- a number that is copied to a place
pub put16 : (at n : ℕ) (l : List ℕ) {k : ℕ} {xs : List ℕ} → xs ≡ to_le_bytes w16 n → k ≡ 2 → put_mid at k l xs ≡ splice at (le16 n) l
unfolding le16
put16 at n l {k} p e = rw p (put_splice at k (le16 n) l e)

-- ---- two's complement

-- they are how the language holds a 16-bit signed number
pub index_bits : (m : ℤ) → index_word m ≡ of_z w16 m
unfolding index_word
index_bits (pos n) = refl
index_bits (negsuc n) = omega arith

below_65536 : (n : ℕ) → n < 65536 → pos n -ℤ pos 65536 ≡ negsuc (65536 - suc n)
below_65536 n h = simp ints (omega arith)

pub word_bits : (n : ℕ) → n < 65536 → word_index n ≡ to_z w16 n
unfolding word_index
word_bits n h = pick (ltb n 32768)
  where
    pick : (b : Bool) → cond b (pos n) (pos n -ℤ pos 65536) ≡ sel b (pos n) (negsuc (65536 - suc n))
    pick true = refl
    pick false = below_65536 n h

pub word_back : (m : ℤ) → SFits w16 m → word_index (index_word m) ≡ m
word_back m f = rw (index_bits m, word_bits (of_z w16 m) (Fits-of_z {w = w16} {z = m} f).fits) (to_z-of_z f)

pub index_back : (n : ℕ) → n < 65536 → index_word (word_index n) ≡ n
index_back n h = rw (word_bits n h, index_bits (to_z w16 n)) (of_z-to_z {w = w16} (record { fits = h }))

pub word_small : (m : ℤ) → SFits w16 m → index_word m < 65536
word_small m f = rw (index_bits m) (Fits-of_z {w = w16} {z = m} f).fits

-- an index that the library reads from a number's bits
pub index_read : {m : ℤ} (low high : ℕ) → low < 256 → high < 256 → m ≡ to_z w16 (low + high * 256) → to_z w16 (of_z w16 m) ≡ word_index (low + 256 * high)
index_read low high l h e =
    let n = low + 256 * high in
    let same : low + high * 256 ≡ n = omega arith in
    let fits : n < 65536 = omega arith in
    rw (e, same, of_z-to_z {w = w16} {n = n} (record { fits = fits })) (sym (word_bits n fits))

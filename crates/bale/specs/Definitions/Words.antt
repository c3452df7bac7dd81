-- Numbers as bytes, low byte first, and indices in two's complement (document 01, "Bale file"). Assumes nothing.
use Rattle.std.specs.Prelude.{cond, List, [], ◌∷◌, ◌++◌, map, ℕ, zero, suc, ◌+◌, ◌-◌, ◌*◌, ◌/◌, ◌%◌, ltb, ℤ, pos, negsuc, ◌-ℤ◌, get_or}

-- the two bytes of a 16-bit number, and the four of a 32-bit number
unfoldable pub le16 : ℕ → List ℕ
le16 n = n % 256 ∷ n / 256 % 256 ∷ []

unfoldable pub le32 : ℕ → List ℕ
le32 n = n % 256 ∷ n / 256 % 256 ∷ n / 65536 % 256 ∷ n / 16777216 % 256 ∷ []

-- 16-bit numbers, one after the other
unfoldable pub words : List ℕ → List ℕ
words [] = []
words (n ∷ ns) = le16 n ++ words ns

-- an index as a 16-bit number in two's complement: itself or, where it is negative, 65,536 more; `negsuc n` is -(n + 1)
unfoldable pub index_word : ℤ → ℕ
index_word (pos n) = n
index_word (negsuc n) = 65536 - (n + 1)

-- the index that such a number stands for: n, or n - 65,536 from 32,768 on
unfoldable pub word_index : ℕ → ℤ
word_index n = cond (ltb n 32768) (pos n) (pos n -ℤ pos 65536)

module _ (bytes : List ℕ) where
  -- the number whose bytes stand at a place
  unfoldable pub u16_at : ℕ → ℕ
  u16_at at = get_or bytes at 0 + 256 * get_or bytes (at + 1) 0

  unfoldable pub u32_at : ℕ → ℕ
  u32_at at = get_or bytes at 0 + 256 * get_or bytes (at + 1) 0 + 65536 * get_or bytes (at + 2) 0 + 16777216 * get_or bytes (at + 3) 0

  -- the n 16-bit numbers from a place on, and the indices that they stand for
  unfoldable pub words_at : ℕ → ℕ → List ℕ
  words_at at zero = []
  words_at at (suc n) = u16_at at ∷ words_at (at + 2) n

  abbrev pub indices_at : ℕ → ℕ → List ℤ
  indices_at at n = map word_index (words_at at n)

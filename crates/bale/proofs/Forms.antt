-- The two forms of the shape section, with four numbers and with six: written and read, the numbers are the same; read and written, the bytes
-- are. Assumes nothing.
use mathlib.Core.Path.{◌≡◌, refl, sym, ap, ◌∙◌}
use mathlib.Core.Bool.{Bool, true, false, cond}
use mathlib.Core.List.{List, [], ◌∷◌}
use Prim.Native.Nat.{ℕ, zero, suc, ◌+◌, ◌*◌, ◌≤◌, ◌<◌}
use native.Mathlib.Omega.{arith}
use borrow.Author.Tests.{eq-eqb}
use lib.Dec.{T, eqb, eqb→eq}
use lib.ListN.{length, get_or}
use Rattle.mathematics.proofs.Tests.{both}
use Rattle.pyramid.specs.declared.Settings.{Settings}
use Rattle.pyramid.specs.Definitions.Buffers.{Bytes}
use Rattle.pyramid.specs.Inner.Lawful.{Shaped}
use Rattle.bale.specs.Definitions.Words.{u16_at, words_at}
use Rattle.bale.specs.Definitions.Sections.{numbers_section}
use Rattle.bale.specs.Definitions.Files.{every_grey, shape_section, shape_count}
use Rattle.bale.specs.Definitions.Reader.{black_in, white_in, count_in, settings_in}
use Rattle.bale.proofs.Stands.{Stands}
use Rattle.bale.proofs.WordLists.{Short, get_or-words_at}
use Rattle.bale.proofs.Sections.{Section, numbers_read, numbers_stand}

-- ---- as it is written

-- the count where black is 0 and white is 255, and where not
abbrev count_by : Bool → ℕ
count_by every = cond every 4 6

module _ (s : Settings) where
  -- the shape's numbers, where black is 0 and white is 255, and where not
  unfoldable pub numbers_by : Bool → List ℕ
  numbers_by every = s.columns ∷ s.rows ∷ s.depth ∷ s.kernel ∷ cond every [] (s.black ∷ s.white ∷ [])

  abbrev pub shape_numbers : List ℕ
  shape_numbers = numbers_by (every_grey s)

  pub length_shape_numbers : length shape_numbers ≡ shape_count s
  unfolding shape_count numbers_by
  length_shape_numbers = by (every_grey s)
    where
      by : (every : Bool) → length (numbers_by every) ≡ count_by every
      by true = refl
      by false = refl

  pub count_most : (4 ≤ shape_count s) × (shape_count s ≤ 6)
  unfolding shape_count
  count_most = by (every_grey s)
    where
      by : (every : Bool) → (4 ≤ count_by every) × (count_by every ≤ 6)
      by true = (omega arith, omega arith)
      by false = (omega arith, omega arith)

  pub count_four : (shape_count s ≡ 6 → ⊥) → shape_count s ≡ 4
  unfolding shape_count
  count_four = by (every_grey s)
    where
      by : (every : Bool) → (count_by every ≡ 6 → ⊥) → count_by every ≡ 4
      by true other = refl
      by false other = absurd (other refl)

  pub every_of : s.black ≡ 0 → s.white ≡ 255 → every_grey s ≡ true
  every_of black white = rw (eq-eqb _ _ black, eq-eqb _ _ white) refl

  pub count_every : s.black ≡ 0 → s.white ≡ 255 → shape_count s ≡ 4
  unfolding shape_count
  count_every black white = ap count_by (every_of black white)

  pub every_is : T (every_grey s) → (s.black ≡ 0) × (s.white ≡ 255)
  every_is t = let (black, white) = both (eqb s.black 0) (eqb s.white 255) t in (eqb→eq s.black 0 black, eqb→eq s.white 255 white)

  short_numbers : Shaped s → Short shape_numbers
  unfolding numbers_by
  short_numbers f = by (every_grey s)
    where
      by : (every : Bool) → Short (numbers_by every)
      by every zero = omega (arith, f.across.most)
      by every (suc zero) = omega (arith, f.along.most)
      by every (suc (suc zero)) = omega (arith, f.deep)
      by every (suc (suc (suc zero))) = omega (arith, f.kernel.most)
      by true (suc (suc (suc (suc n)))) = omega arith
      by false (suc (suc (suc (suc zero)))) = omega (arith, f.greys.below, f.greys.most)
      by false (suc (suc (suc (suc (suc zero))))) = omega (arith, f.greys.most)
      by false (suc (suc (suc (suc (suc (suc n)))))) = omega arith

-- ---- the count as it is read

module _ (bytes : List ℕ) where
  -- the count that goes with some settings is taken as it is
  pub count_taken : (s : Settings) → u16_at bytes 0 ≡ shape_count s → count_in bytes ≡ shape_count s
  unfolding count_in shape_count
  count_taken s e = by (every_grey s) e
    where
      by : (every : Bool) → u16_at bytes 0 ≡ count_by every → cond {A = ℕ} (eqb (u16_at bytes 0) 6) 6 4 ≡ count_by every
      by true e = rw e
      by false e = rw e

  -- ---- written, then read

  pub record ReadShape (s : Settings) : Type 0 where
    pub section : Section bytes 0 (count_in bytes) 2
    pub count : count_in bytes ≡ shape_count s
    pub columns : u16_at bytes 2 ≡ s.columns
    pub rows : u16_at bytes 4 ≡ s.rows
    pub depth : u16_at bytes 6 ≡ s.depth
    pub kernel : u16_at bytes 8 ≡ s.kernel
    pub black : black_in bytes ≡ s.black
    pub white : white_in bytes ≡ s.white

  module _ (s : Settings) (f : Shaped s) (stands : Stands (shape_section s) bytes 0) where
    whole : Section bytes 0 (length (shape_numbers s)) 2 × (words_at bytes 2 (length (shape_numbers s)) ≡ shape_numbers s)
    unfolding shape_section numbers_by
    whole = numbers_read (shape_numbers s) (omega (arith, length_shape_numbers s, (count_most s).1)) (short_numbers s f) stands

    found : (i : ℕ) → i < shape_count s → u16_at bytes (2 + 2 * i) ≡ get_or (shape_numbers s) i 0
    found i h = sym (get_or-words_at bytes 2 (length (shape_numbers s)) i (omega (arith, length_shape_numbers s))) ∙ ap (λ (ns : List ℕ). get_or ns i 0) whole.1

    count : count_in bytes ≡ shape_count s
    count = count_taken s (whole.0.counted ∙ length_shape_numbers s)

    -- black and white, which are there or are 0 and 255
    greys : (black_in bytes ≡ s.black) × (white_in bytes ≡ s.white)
    unfolding shape_count numbers_by
    greys = by (every_grey s) (every_is s) count found
      where
        by : (every : Bool) → (T every → (s.black ≡ 0) × (s.white ≡ 255)) → count_in bytes ≡ count_by every
            → ((i : ℕ) → i < count_by every → u16_at bytes (2 + 2 * i) ≡ get_or (numbers_by s every) i 0) → (black_in bytes ≡ s.black) × (white_in bytes ≡ s.white)
        by true is e each = let (black, white) = is tt in (rw (e, black), rw (e, white))
        by false is e each = (rw e (each 4 (omega arith)), rw e (each 5 (omega arith)))

    pub shape_read : ReadShape s
    unfolding numbers_by
    shape_read =
        let (least, most) = count_most s in
        record {
          section = rw (count, ← length_shape_numbers s) whole.0;
          count = count;
          columns = found 0 (omega arith);
          rows = found 1 (omega arith);
          depth = found 2 (omega arith);
          kernel = found 3 (omega arith);
          black = greys.0;
          white = greys.1;
        }

  -- ---- read, then written

  module _ (all : Bytes bytes) (w : Section bytes 0 (count_in bytes) 2) (counted : count_in bytes ≡ shape_count (settings_in bytes)) where
    numbers_found : words_at bytes 2 (count_in bytes) ≡ shape_numbers (settings_in bytes)
    unfolding shape_count numbers_by settings_in words_at
    numbers_found = by (every_grey (settings_in bytes)) (count_in bytes) refl counted
      where
        by : (every : Bool) (n : ℕ) → count_in bytes ≡ n → n ≡ count_by every → words_at bytes 2 n ≡ numbers_by (settings_in bytes) every
        by true n is e = rw e
        by false n is e = rw (is, e)

    pub shape_stands : Stands (shape_section (settings_in bytes)) bytes 0
    unfolding shape_section numbers_section numbers_by
    shape_stands = rw (length_shape_numbers (settings_in bytes), ← counted, ← numbers_found) (numbers_stand all w)

-- Who is refused, and with which number (document 01, "Who can cause which refusal"; document 02, P1 and P5): the number of the first rule that
-- is broken, in the order of each call; 0 where none is. Assumes nothing.
use Rattle.std.specs.Prelude.{Bool, cond, ◌&&◌, List, [], ◌∷◌, ℕ, zero, suc, ◌*◌, leb, eqb, ℤ, nat_abs, length}
use Rattle.mathematics.specs.Definitions.Tests.{all}
use Rattle.quantizer.specs.Definitions.Values.{value_ok}
use Rattle.pyramid.specs.declared.Settings.{Settings}
use Rattle.pyramid.specs.Definitions.Settings.{size_ok, depth_ok, divides, kernel_ok, black_white_ok, bins_ok}
use Rattle.pyramid.specs.Definitions.Sizes.{total}
use Rattle.pyramid.specs.Definitions.Rebuilding.{value_of}
use Rattle.pyramid.specs.Definitions.Buffers.{all_levels, read_levels}

-- the number where the rule is broken, 0 where it holds
unfoldable pub unless : Bool → ℕ → ℕ
unless holds number = cond holds 0 number

-- the first that is not 0
unfoldable pub first : List ℕ → ℕ
first [] = 0
first (zero ∷ later) = first later
first (suc number ∷ later) = suc number

-- the values of a lawful index lie within this of 0
abbrev pub limit : ℕ
limit = 4096

-- an index times its bin lies within ±4,096
abbrev pub index_ok : ℕ → ℤ → Bool
index_ok = value_ok limit

module _ (s : Settings) where
  -- 1: C or R is outside 2 to 129; 13: the depth is above 6; 14: 2^N does not divide C - 1; 15: it does not divide R - 1; 2: the kernel; 19: black
  -- and white
  unfoldable pub shape_refusal : ℕ
  shape_refusal =
      first (unless (size_ok s.columns s.rows) 1
      ∷ unless (depth_ok s.depth) 13
      ∷ unless (divides s.depth s.columns) 14
      ∷ unless (divides s.depth s.rows) 15
      ∷ unless (kernel_ok s.kernel) 2
      ∷ unless (black_white_ok s.black s.white) 19
      ∷ [])

  -- these, then 3: a bin slot
  unfoldable pub settings_refusal : ℕ
  settings_refusal = first (shape_refusal ∷ unless (bins_ok s) 3 ∷ [])

  -- 5: picture length is not C × R; 6: level buffer length is not T; 7: work buffer shorter than T
  unfoldable pub buffers_refusal : (picture levels work : ℕ) → ℕ
  buffers_refusal picture levels work =
      first (unless (eqb picture (s.rows * s.columns)) 5 ∷ unless (eqb levels (total s)) 6 ∷ unless (leb (total s) work) 7 ∷ [])

  -- every index times its bin lies within ±4,096
  unfoldable pub values_ok : List ℤ → Bool
  values_ok levels = all (λ v. leb (nat_abs v) limit) (all_levels s (λ l i j. value_of s l (read_levels s levels l i j)))

  -- a level buffer alone: settings, then 6 and 11
  unfoldable pub levels_refusal : List ℤ → ℕ
  levels_refusal levels = first (settings_refusal ∷ unless (eqb (length levels) (total s)) 6 ∷ unless (values_ok levels) 11 ∷ [])

  -- coding and rebuilding look for the settings' numbers, then 5, 6, 7
  unfoldable pub lent_refusal : (picture levels work : ℕ) → ℕ
  lent_refusal picture levels work = first (settings_refusal ∷ buffers_refusal picture levels work ∷ [])

  -- every pixel lies between black and white, both ends allowed
  unfoldable pub pixels_ok : List ℕ → Bool
  pixels_ok picture = all (λ p. leb s.black p && leb p s.white) picture

  -- coding then looks for 20: a pixel is outside black and white
  unfoldable pub coding_refusal : List ℕ → List ℤ → List ℤ → ℕ
  coding_refusal picture levels work = first (lent_refusal (length picture) (length levels) (length work) ∷ unless (pixels_ok picture) 20 ∷ [])

  -- rebuilding then looks for 11: index times bin is outside ±4,096
  unfoldable pub rebuilding_refusal : List ℤ → List ℕ → List ℤ → ℕ
  rebuilding_refusal levels picture work = first (lent_refusal (length picture) (length levels) (length work) ∷ unless (values_ok levels) 11 ∷ [])

-- The weights (document 01, "Pyramid steps"): in twentieths, for distance 0, 1, 2 from the centre. Assumes nothing.
use Rattle.std.specs.Prelude.{◌≡◌, List, [], ◌∷◌, ℕ, ◌-◌, ◌*◌, ℤ, pos, negsuc, ◌-ℤ◌, get_or}
use Rattle.mathematics.specs.Definitions.Distances.{distance}

-- a row for each kernel from 3 to 6, a column for each distance; `negsuc 0` is -1
unfoldable pub weights : List (List ℤ)
weights =
    (pos 6 ∷ pos 5 ∷ pos 2 ∷ []) ∷
    (pos 8 ∷ pos 5 ∷ pos 1 ∷ []) ∷
    (pos 10 ∷ pos 5 ∷ pos 0 ∷ []) ∷
    (pos 12 ∷ pos 5 ∷ negsuc 0 ∷ []) ∷ []

-- the weight of tap t under kernel k; taps are 0 to 4, and tap t stands for the offset t - 2, so that tap 2 is the centre
unfoldable pub weight : ℕ → ℕ → ℤ
weight k t = get_or (get_or weights (k - 3) []) (distance t 2) (pos 0)

-- the paper's formula, of the weight w t of tap t: w(0) = a, w(±1) = 1/4 and w(±2) = 1/4 - a/2, where a = k/10. In twentieths these are
-- 2k, 5 and 5 - k
pub record WeightRule (k : ℕ) (w : ℕ → ℤ) : Type 0 where
  pub centre : w 2 ≡ pos (2 * k)
  pub beside : (w 1 ≡ pos 5) × (w 3 ≡ pos 5)
  pub outer : (w 0 ≡ pos 5 -ℤ pos k) × (w 4 ≡ pos 5 -ℤ pos k)

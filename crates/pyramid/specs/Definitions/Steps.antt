-- REDUCE and EXPAND (document 01, "Pyramid steps"). Assumes nothing.
use Rattle.std.specs.Prelude.{cond, ℕ, ◌+◌, ◌-◌, ◌*◌, ◌/◌, ◌%◌, eqb, ℤ, pos, ◌*ℤ◌}
use Rattle.mathematics.specs.Definitions.Sums.{sum}
use Rattle.quantizer.specs.Definitions.Rounding.{round_div}
use Rattle.pyramid.specs.Definitions.Sizes.{Level}
use Rattle.pyramid.specs.Definitions.Weights.{weight}
use Rattle.pyramid.specs.Definitions.Edge.{reflect}

-- the sum, over five taps for the columns and five for the rows, of two weights' product with the value at the columns x and the rows y
unfoldable pub weighted_sum : (ℕ → ℤ) → (ℕ → ℤ) → (ℕ → ℕ) → (ℕ → ℕ) → Level → ℤ
weighted_sum a b x y g = sum 5 (λ n. sum 5 (λ m. a m *ℤ b n *ℤ g (x m) (y n)))

-- Below, zc and zr are the last column and row of the level that is read.

-- REDUCE: node (i, j) is the sum of 25 products of two weights and the value at (2i + m, 2j + n), over 400. Tap t stands for m = t - 2,
-- and place p for column p - 2: column 2i + m = 2i + t - 2 is place 2i + t
unfoldable pub reduce : (k zc zr : ℕ) → Level → Level
reduce k zc zr g i j = round_div (weighted_sum (weight k) (weight k) (λ t. reflect zc (2 * i + t)) (λ t. reflect zr (2 * j + t)) g) 400

-- the weight of tap t in EXPAND of column i: none where i - m is odd and (i - m)/2 not whole; i - m = i + 2 - t is odd where i + t is
unfoldable pub even_weight : ℕ → ℕ → ℕ → ℤ
even_weight k i t = cond (eqb ((i + t) % 2) 0) (weight k t) (pos 0)

-- the place of column (i - m)/2, which is 2 more: with m = t - 2 it is (i - (t - 2))/2 + 2 = (i + 6 - t)/2
abbrev pub halved : ℕ → ℕ → ℕ
halved i t = (i + 6 - t) / 2

-- EXPAND: four times the sum of the products of weights at distances m, n and the value at ((i - m)/2, (j - n)/2), taken only where both
-- are whole, over 400
unfoldable pub expand : (k zc zr : ℕ) → Level → Level
expand k zc zr g i j =
    round_div (pos 4 *ℤ weighted_sum (even_weight k i) (even_weight k j) (λ t. reflect zc (halved i t)) (λ t. reflect zr (halved j t)) g) 400

-- The places of a block that are a window's, for the contracts of functions inside this crate. Assumes nothing.
use Rattle.std.specs.Prelude.{Bool, cond, ◌&&◌, ℕ, ◌+◌, ◌-◌, ltb, ℤ, pos}
use Rattle.pyramid.specs.Definitions.Sizes.{Level}
use Rattle.pixel.specs.declared.axes.Axis.{Axis}

-- place m is the window's: it is before the end, and no place before column 0
unfoldable pub holds : Axis → ℕ → Bool
holds a m = ltb m a.end && ltb 0 (a.next + m)

-- how many are
unfoldable pub places : Axis → ℕ
places a = a.end - (1 - a.next)

-- what f has for the column that stands at place m, and 0 where it is not the window's
unfoldable pub placed : Axis → (ℕ → ℤ) → ℕ → ℤ
placed a f m = cond (holds a m) (f (a.next + m - 1)) (pos 0)

-- the same of columns and rows
unfoldable pub block_of : (columns rows : Axis) → Level → Level
block_of columns rows f m n = placed rows (λ j. placed columns (λ i. f i j) m) n

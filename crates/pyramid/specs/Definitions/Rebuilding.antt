-- Rebuilding (document 01, "Pyramid steps"), level by level, and the clamp of the final picture (document 02, P5). Assumes nothing.
use Rattle.std.specs.Prelude.{ℕ, zero, suc, ◌-◌, min, max, ℤ, pos, negsuc, ◌+ℤ◌, ◌*ℤ◌}
use Rattle.pyramid.specs.declared.Settings.{Settings}
use Rattle.pyramid.specs.Definitions.Settings.{bin}
use Rattle.pyramid.specs.Definitions.Sizes.{Level}
use Rattle.pyramid.specs.Definitions.Pyramid.{expanded}

module _ (s : Settings) where
  -- the value of an index of level l: m × n
  unfoldable pub value_of : ℕ → ℤ → ℤ
  value_of l m = m *ℤ pos (bin s l)

  -- r of level l, which has d levels above it, from the indices of all levels: that of level N is the top's values; below it r is the
  -- level's values plus EXPAND of the next r up
  unfoldable pub rebuild : (ℕ → Level) → ℕ → ℕ → Level
  rebuild m zero l i j = value_of l (m l i j)
  rebuild m (suc d) l i j = value_of l (m l i j) +ℤ expanded s l (rebuild m d (suc l)) i j

  abbrev pub rebuilt : (ℕ → Level) → ℕ → Level
  rebuilt m l = rebuild m (s.depth - l) l

  -- a pixel of the final picture, which is clamped to black and white
  unfoldable pub clamp : ℤ → ℕ
  clamp (pos n) = max s.black (min n s.white)
  clamp (negsuc n) = s.black

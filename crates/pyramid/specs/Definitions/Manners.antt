-- The two manners of coding (document 02, P4; source documents 001 and 002 call them open-loop and closed-loop): what a level is predicted
-- from, and its differences and indices. Here g are the averages of all levels. Assumes nothing.
use Rattle.std.specs.Prelude.{cond, ℕ, zero, suc, ◌-◌, eqb, ℤ, ◌+ℤ◌, ◌-ℤ◌}
use Rattle.pyramid.specs.declared.Settings.{Settings}
use Rattle.pyramid.specs.declared.Manner.{Manner}
use Rattle.pyramid.specs.declared.Manner.TheVariants.{OpenLoop, ClosedLoop}
use Rattle.pyramid.specs.Definitions.Sizes.{Level}
use Rattle.pyramid.specs.Definitions.Pyramid.{expanded, index_of}
use Rattle.pyramid.specs.Definitions.Rebuilding.{value_of}

module _ (s : Settings) where
  -- the value of the index of x, at level l
  unfoldable pub quantized : ℕ → ℤ → ℤ
  quantized l x = value_of s l (index_of s l x)

  -- level l, which has d levels above it, as the closed loop rebuilds it while it codes: at level N the value of g's index; below it EXPAND of
  -- the already rebuilt level above, and the value of the index of g less that
  unfoldable pub closed_rebuilt : (ℕ → Level) → ℕ → ℕ → Level
  closed_rebuilt g zero l i j = quantized l (g l i j)
  closed_rebuilt g (suc d) l i j =
      let e = expanded s l (closed_rebuilt g d (suc l)) i j in
      quantized l (g l i j -ℤ e) +ℤ e

  -- the levels that the levels below them are predicted from, which coding leaves in the work buffer: open-loop the averages, closed-loop the
  -- rebuilt levels
  unfoldable pub reference : Manner → (ℕ → Level) → ℕ → Level
  reference OpenLoop g l = g l
  reference ClosedLoop g l = closed_rebuilt g (s.depth - l) l

  -- L of level l: at level N it is g, else g less EXPAND of the next level up, open-loop of the next g
  unfoldable pub difference : Manner → (ℕ → Level) → ℕ → Level
  difference manner g l i j = cond (eqb l s.depth) (g l i j) (g l i j -ℤ expanded s l (reference manner g (suc l)) i j)

  -- the indices of level l
  unfoldable pub index : Manner → (ℕ → Level) → ℕ → Level
  index manner g l i j = index_of s l (difference manner g l i j)

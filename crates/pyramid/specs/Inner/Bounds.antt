-- What the bound of a level takes from that of the level above it, for the contracts of functions inside this crate. Assumes nothing.
use Rattle.std.specs.Prelude.{ℕ}
use Rattle.pyramid.specs.declared.Manner.{Manner}
use Rattle.pyramid.specs.declared.Manner.TheVariants.{OpenLoop, ClosedLoop}
use Rattle.pyramid.specs.Definitions.Bound.{magnified}

-- under kernel k, of a bound e: open-loop what EXPAND makes of it, closed-loop nothing
unfoldable pub carried : Manner → (k e : ℕ) → ℕ
carried OpenLoop k e = magnified k e
carried ClosedLoop k e = 0

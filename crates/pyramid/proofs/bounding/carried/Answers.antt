-- `pyramid::bounding::carried` meets its contract: what the bound above is magnified to, or nothing. Assumes nothing.
use Rattle.std.proofs.Common.{refl}
use Rattle.pyramid.specs.Inner.Bounds.{carried}
use Rattle.pyramid.proofs.bounding.carried.Goals as goal

pub returns-in-OpenLoop : goal.returns-in-OpenLoop
unfolding carried
returns-in-OpenLoop c = rw c.in-OpenLoop.is c.magnify.ensures

pub returns-in-ClosedLoop : goal.returns-in-ClosedLoop
unfolding carried
returns-in-ClosedLoop c = rw c.in-ClosedLoop.is refl

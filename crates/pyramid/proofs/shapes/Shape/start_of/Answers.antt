-- `pyramid::shapes::Shape::start_of` meets its contract: what T is more than the nodes of the levels from 0 to the level. Assumes nothing.
use Rattle.std.proofs.Common.{arith}
use Rattle.pyramid.specs.Definitions.Buffers.{start}
use Rattle.pyramid.proofs.shapes.Shape.start_of.Goals as goal

pub returns : goal.returns
unfolding start
returns c = (rw (c.saturating_sub.ensures, c.total.ensures.0, c.nodes_to.ensures), omega (arith, c.saturating_sub.ensures))

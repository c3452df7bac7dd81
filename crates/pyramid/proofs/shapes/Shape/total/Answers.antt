-- `pyramid::shapes::Shape::total` meets its contract: T is the number of nodes of levels 0 to the depth, which is at most 6. Assumes nothing.
use Rattle.std.proofs.Common.{arith}
use Rattle.pyramid.specs.Definitions.Sizes.{total}
use Rattle.pyramid.proofs.Sizes.{total_most}
use Rattle.pyramid.proofs.Refusals.{accepted_shape}
use Rattle.pyramid.proofs.shapes.Shape.total.Goals as goal

-- a shape's depth is never above 6
pub returns-then-self-gt6 : goal.returns-then-self-gt6
returns-then-self-gt6 c = absurd (omega (arith, (accepted_shape _ c.args.self.shaped).deep))

pub returns : goal.returns
unfolding total
returns c = (c.nodes_to.ensures, rw c.nodes_to.ensures (total_most c.args.self.settings (accepted_shape _ c.args.self.shaped)))

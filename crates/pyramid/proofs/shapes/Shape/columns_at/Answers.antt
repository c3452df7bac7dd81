-- `pyramid::shapes::Shape::columns_at` meets its contract: a level has at most 129 columns. Assumes nothing.
use Rattle.std.proofs.Common.{arith}
use Rattle.pyramid.proofs.Sizes.{last_most}
use Rattle.pyramid.proofs.Refusals.{accepted_shape}
use Rattle.pyramid.proofs.shapes.Shape.columns_at.Goals as goal

pub returns : goal.returns
returns c = (rw c.last_at.ensures, omega (arith, c.last_at.ensures, last_most c.args.self.settings.columns c.args.level, (accepted_shape _ c.args.self.shaped).across.most))

pub overflow_add-result : goal.overflow_add-result
overflow_add-result c = omega (arith, c.last_at.ensures, last_most c.args.self.settings.columns c.args.level, (accepted_shape _ c.args.self.shaped).across.most)

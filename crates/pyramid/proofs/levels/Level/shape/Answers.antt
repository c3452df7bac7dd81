-- `pyramid::levels::Level::shape` meets its contract: the settings of a level are lawful. Assumes nothing.
use Rattle.pyramid.proofs.ShapeAnswers.{shape_accepted}
use Rattle.pyramid.proofs.levels.Level.shape.Goals as goal

pub invariant_of-result : goal.invariant_of-result
invariant_of-result c = record { shaped = shape_accepted _ c.args.self.lawful.shaped }

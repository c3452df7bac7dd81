-- `pyramid::shapes::Shape::level_size` meets its contract: a level that the shape has is counted, and any other is 0 by 0. Assumes nothing.
use borrow.Author.Tests.{le-leb, lt-leb}
use Rattle.pyramid.specs.Definitions.Calls.{leaves}
use Rattle.pyramid.specs.Definitions.Answers.{level_size_answer}
use Rattle.pyramid.proofs.shapes.Shape.level_size.Goals as goal

pub returns-then-self-level : goal.returns-then-self-level
unfolding level_size_answer leaves
returns-then-self-level c = rw (c.args.self.shaped, lt-leb _ _ c.if-self-level.true)

pub returns : goal.returns
unfolding level_size_answer leaves
returns c = rw (c.args.self.shaped, le-leb _ _ c.if-self-level.false, c.columns_at.ensures.0, c.rows_at.ensures.0)

-- `pixel::axes::Step::row` meets its contract: the line of four values that stand in a row. Assumes nothing.
use Rattle.std.proofs.Common.{refl}
use Rattle.pixel.proofs.Blocks.{row_summed}
use Rattle.pixel.proofs.axes.Step.row.Goals as goal

pub returns : goal.returns
returns c = row_summed c.args.values.now c.requires.small c.args.y refl refl refl refl c.args.weights.kernel c.args.self.below c.line.ensures

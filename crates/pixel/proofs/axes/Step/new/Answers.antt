-- `pixel::axes::Step::new` meets its contract: halving the column after the pixel's as often as there are levels. Assumes nothing.
use Rattle.std.proofs.Common.{refl}
use Rattle.pixel.proofs.axes.Step.new.Goals as goal

pub returns : goal.returns
returns c = (rw c.from.ensures, refl)

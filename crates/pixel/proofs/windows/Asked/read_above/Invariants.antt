-- What the loop of `pixel::windows::Asked::read_above` keeps: before turn n the top n levels were read.
use Rattle.std.proofs.Common.{suc, ◌-◌}
use Rattle.pixel.specs.Inner.Axes.{AxesOf}
use Rattle.pixel.specs.Inner.Reading.{Above}
use Rattle.pixel.proofs.windows.Asked.read_above.Given as goal

abbrev pub invariant-loop-n : goal.invariant-loop-n
invariant-loop-n l = Above l.self.settings l.self.column l.self.row l.levels (l.self.settings.depth - l.n) l.upper.block.read l.upper.place l.upper.block.values
    × AxesOf l.self.settings l.self.column l.self.row (suc (l.self.settings.depth - l.n)) l.upper.columns l.upper.rows

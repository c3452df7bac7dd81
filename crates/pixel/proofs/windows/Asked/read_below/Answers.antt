-- `pixel::windows::Asked::read_below` meets its contract: what is predicted is EXPAND of the block above. Assumes nothing.
use Rattle.std.proofs.Common.{suc, ◌-◌, arith}
use Rattle.pyramid.proofs.Ranges.{height_room}
use Rattle.pyramid.proofs.TapSums.{within_more}
use Rattle.pixel.proofs.windows.Asked.read_below.Goals as goal

pub predict-predicted-requires-clause-small : goal.predict-predicted-requires-clause-small
predict-predicted-requires-clause-small c = λ p.
    within_more (height_room (c.args.self.settings.depth - suc c.args.level) (omega (arith, c.args.self.lawful.shaped.deep))) (c.requires.above.small c.requires.deep.1 p)

pub read_level-requires-clause-prediction : goal.read_level-requires-clause-prediction
read_level-requires-clause-prediction c = c.predict-predicted.ensures c.args.levels.now c.requires.above

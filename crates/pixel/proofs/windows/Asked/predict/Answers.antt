-- `pixel::windows::Asked::predict` meets its contract: EXPAND of the block. Assumes nothing.
use Rattle.std.proofs.Common.{arith}
use Rattle.pixel.proofs.StepsDown.{axis_wide, step_of}
use Rattle.pixel.proofs.Predictions.{below_predicted}
use Rattle.pixel.proofs.windows.Asked.predict.Goals as goal

pub new-columns-requires : goal.new-columns-requires
new-columns-requires c =
    let a = c.args.self in
    let side = a.lawful.shaped.across in
    (omega (arith, a.inside.0, side.most), omega (arith, c.requires.deep, a.lawful.shaped.deep), axis_wide side a.inside.0 c.args.level c.requires.deep c.requires.axes.columns_are)

pub new-rows-requires : goal.new-rows-requires
new-rows-requires c =
    let a = c.args.self in
    let side = a.lawful.shaped.along in
    (omega (arith, a.inside.1, side.most), omega (arith, c.requires.deep, a.lawful.shaped.deep), axis_wide side a.inside.1 c.args.level c.requires.deep c.requires.axes.rows_are)

pub returns : goal.returns
returns c = λ levels above.
    let a = c.args.self in
    below_predicted a.settings a.column a.row a.lawful a.inside.0 a.inside.1 c.args.level c.requires.deep
    (step_of c.new-columns.result c.new-columns.ensures c.requires.axes.columns_are) (step_of c.new-rows.result c.new-rows.ensures c.requires.axes.rows_are)
    (rw (← c.weights.ensures) c.expand.ensures) levels above

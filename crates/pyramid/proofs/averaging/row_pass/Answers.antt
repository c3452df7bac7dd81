-- `pyramid::averaging::row_pass` meets its contract: row y of the level is what is summed. Assumes nothing.
use Rattle.std.proofs.Common.{◌∙◌}
use Rattle.pyramid.proofs.RowSums.{row_summed}
use Rattle.pyramid.proofs.averaging.row_pass.Goals as goal

pub returns : goal.returns
returns c =
    let level = c.args.level in
    c.sum_along.ensures
    ∙ row_summed level.weights.kernel level.columns level.rows c.args.y level.values.now c.row.ensures.is c.row.ensures.long c.requires.inside.2 c.requires.inside.0

-- `pyramid::expanding::expand_row` meets its contract: sums along the sums of columns, over 100, are nodes of EXPAND. Assumes nothing.
use Rattle.std.proofs.Common.{◌∙◌}
use Rattle.pyramid.proofs.ExpandRows.{sums_small, row_expanded}
use Rattle.pyramid.proofs.expanding.expand_row.Goals as goal

pub expand_along-requires-clause-small : goal.expand_along-requires-clause-small
expand_along-requires-clause-small c =
    let level = c.args.level in
    sums_small c.args.level.weights.kernel level.columns level.rows c.args.j level.values.now c.expand_sums.ensures c.args.level.weights.lawful c.requires.small

pub returns : goal.returns
returns c =
    let level = c.args.level in
    c.round_row.ensures
    ∙ row_expanded c.args.level.weights.kernel level.columns level.rows c.args.j level.values.now c.expand_sums.ensures level.wide.0 c.expand_along.ensures

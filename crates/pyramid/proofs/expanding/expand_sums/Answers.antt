-- `pyramid::expanding::expand_sums` meets its contract: the two or three rows that it weighs are the taps of an odd or an even row. Assumes nothing.
use Rattle.std.proofs.Common.{◌∙◌, arith}
use Rattle.pyramid.proofs.ExpandTaps.{even_columns, odd_columns}
use Rattle.pyramid.proofs.expanding.expand_sums.Goals as goal

pub returns-then-j-eq0 : goal.returns-then-j-eq0
returns-then-j-eq0 c =
    let level = c.args.level in
    c.weigh_three.ensures
    ∙ even_columns level.weights.kernel level.columns level.rows c.args.j level.values.now c.if-j-eq0.true
    c.row.ensures.is c.row-here.ensures.is c.row-next.ensures.is _ c.requires.j_bound.1

pub returns-else-j-eq0 : goal.returns-else-j-eq0
returns-else-j-eq0 c =
    let level = c.args.level in
    c.weigh_two.ensures
    ∙ odd_columns level.weights.kernel level.columns level.rows c.args.j level.values.now (omega (arith, c.if-j-eq0.false))
    c.row-here.ensures.is c.row-next.ensures.is _ c.requires.j_bound.1

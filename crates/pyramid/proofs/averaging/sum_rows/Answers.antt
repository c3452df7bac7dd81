-- `pyramid::averaging::sum_rows` meets its contract: each turn of its loop puts one row of sums in its place. Assumes nothing.
use Rattle.std.proofs.Common.{◌≡◌, ◌∙◌, ◌+◌, ◌-◌, ◌*◌, ◌/◌, ◌%◌, length, ap, arith}
use Rattle.mathematics.proofs.Tables.{length-tabulate}
use Rattle.pyramid.proofs.LentParts.{lent_back}
use Rattle.pyramid.proofs.RowSums.{row_pass_within, sums_next}
use Rattle.pyramid.proofs.averaging.sum_rows.Goals as goal

pub loop-y-preserved : goal.loop-y-preserved
loop-y-preserved c =
    let level = c.args.level in
    let n = (level.columns - 1) / 2 + 1 in
    let at = c.loop-y.y % 5 * n in
    let long : length c.row_pass.new.sums ≡ n = ap length c.row_pass.ensures ∙ length-tabulate _ _ in
    sums_next c.loop-y.invariant
    (λ i. row_pass_within level.weights.lawful (level.columns - 1) i c.loop-y.y level.columns level.values.now c.requires.small)
    (lent_back at (at + n - at) c.loop-y.sums _ (omega (arith, long)) ∙ rw c.row_pass.ensures)

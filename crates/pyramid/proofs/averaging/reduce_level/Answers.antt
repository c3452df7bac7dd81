-- `pyramid::averaging::reduce_level` meets its contract: each turn of its loop sums the rows about row 2j, and makes row j of the next level.
-- Assumes nothing.
use Rattle.std.proofs.Common.{◌≡◌, ◌∙◌, refl, sym, ◌+◌, ◌-◌, ◌*◌, ◌/◌, ◌≤◌, length, ap, arith}
use Rattle.mathematics.proofs.Splices.{part_long, splice_whole}
use Rattle.mathematics.proofs.Tables.{length-tabulate}
use Rattle.pyramid.specs.Inner.Rows.{halved_nodes}
use Rattle.pyramid.proofs.Buffers.{row_inside, length-raster}
use Rattle.pyramid.proofs.LentParts.{lent_back}
use Rattle.pyramid.proofs.Rendering.{rendering_start, rendering_row, rendering_end}
use Rattle.pyramid.proofs.RowSums.{sums_before, row_reduced}
use Rattle.pyramid.proofs.averaging.reduce_level.Goals as goal

pub loop-j-init : goal.loop-j-init
loop-j-init c = (rendering_start _ _ _ _ _, (sums_before _ 325 refl (omega arith), (omega arith, omega arith)))

pub loop-j-preserved : goal.loop-j-preserved
loop-j-preserved c =
    let level = c.args.level in
    let n = (level.columns - 1) / 2 + 1 in
    let j = c.loop-j.j in
    let nodes : 0 + halved_nodes level.columns level.rows ≤ length c.args.above.now = omega (arith, c.requires.above) in
    let room : j * n + n ≤ length c.loop-j.above = omega (arith, row_inside n c.loop-j-test.true, nodes, c.loop-j.invariant.0.long) in
    let row = row_reduced c.sum_rows.ensures (level.rows - 1) j (omega arith) (omega arith) (omega arith) (part_long (j * n) n c.loop-j.above room) c.column_pass.ensures in
    let long : length c.column_pass.new.row ≡ n = ap length row ∙ length-tabulate _ _ in (
      rendering_row c.loop-j.invariant.0 nodes refl
          (lent_back (j * n) (j * n + n - j * n) c.loop-j.above _ (omega (arith, long)) ∙ rw row)
          c.loop-j-test.true,
      (c.sum_rows.ensures, (omega arith, omega arith)),
    )

pub returns : goal.returns
returns c =
    rendering_end c.loop-j.invariant.0 c.loop-j-test.false
    ∙ splice_whole _ _ (length-raster _ _ _ ∙ sym c.requires.above)

-- `bale::putting::put_bins` meets its contract: its count, then bin by bin, level 0 first. Assumes nothing.
use mathlib.Core.Path.{◌≡◌, ◌∙◌}
use Prim.Native.Nat.{◌+◌, ◌*◌}
use native.Mathlib.Omega.{arith}
use lib.ListN.{length}
use Rattle.bale.proofs.WordLaws.{low_bytes16, put16}
use Rattle.bale.proofs.Pieces.{bins_start, bins_more, bins_end, bins_whole}
use Rattle.pyramid.proofs.Refusals.{accepted_shape}
use Rattle.bale.proofs.putting.put_bins.Goals as goal

pub overflow_add-depth : goal.overflow_add-depth
overflow_add-depth c = record { fits = omega (arith, (accepted_shape _ c.args.shape.shaped).deep) }

pub overflow_add-level-end : goal.overflow_add-level-end
overflow_add-level-end c = record { fits = omega (arith, (accepted_shape _ c.args.shape.shaped).deep) }

pub bounds-bins-level : goal.bounds-bins-level
bounds-bins-level c = omega (arith, c.loop-level-test.true, (accepted_shape _ c.args.shape.shaped).deep)

pub loop-level-init : goal.loop-level-init
loop-level-init c = bins_start _ _

pub loop-level-preserved : goal.loop-level-preserved
loop-level-preserved c =
    let words = c.split_at_mut-count.result.1.now in
    let room : length words ≡ 2 * (c.args.shape.settings.depth + 1) = omega (arith, c.requires, c.split_at_mut-count.ensures.back_len) in
    let put = put16 _ _ c.loop-level.words (c.copy_from_slice-in-loop-level.ensures.after ∙ c.to_le_bytes-in-loop-level.ensures) (omega arith) in
    bins_more c.args.shape.settings words room c.loop-level.invariant c.loop-level-test.true put

pub returns : goal.returns
returns c =
    bins_whole c.args.shape.settings (c.copy_from_slice.ensures.after ∙ c.to_le_bytes.ensures ∙ low_bytes16 _)
    (bins_end c.args.shape.settings c.split_at_mut-count.result.1.now (omega (arith, c.requires, c.split_at_mut-count.ensures.back_len)) c.loop-level.invariant (omega (arith, c.loop-level-test.false)) (omega arith))

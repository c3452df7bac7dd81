-- `bale::filling::fill_indices` meets its contract: each turn of its loop fills one place. Assumes nothing.
use mathlib.Core.Path.{◌∙◌}
use native.Mathlib.Omega.{arith}
use Rattle.mathematics.proofs.Filling.{filling_start, filling_next, filling_end}
use Rattle.bale.proofs.WordLists.{chunk_index}
use Rattle.bale.proofs.Pieces.{indices_filled}
use Rattle.bale.proofs.filling.fill_indices.Goals as goal

pub loop-i-init : goal.loop-i-init
loop-i-init c = filling_start _ _ _ _

pub loop-i-preserved : goal.loop-i-preserved
loop-i-preserved c = filling_next c.loop-i.invariant (omega arith) (omega arith)
    (chunk_index _ _ _ _ (λ i. (c.type_inv.indices i).fits) c.as_chunks.ensures.front (omega (arith, c.as_chunks.ensures.front_len)) c.from_le_bytes.ensures) (omega (arith, c.as_chunks.ensures.front_len))

pub returns : goal.returns
returns c = filling_end c.loop-i.invariant (omega (arith, c.as_chunks.ensures.front_len)) ∙ indices_filled c.args.indices.now 0 c.args.levels.now

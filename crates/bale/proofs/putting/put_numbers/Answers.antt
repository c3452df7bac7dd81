-- `bale::putting::put_numbers` meets its contract: number by number. Assumes nothing.
use mathlib.Core.Path.{refl, ◌∙◌}
use native.Mathlib.Omega.{arith}
use Rattle.bale.proofs.WordLaws.{put16}
use Rattle.bale.proofs.Pieces.{written_start, written_next, written_end}
use Rattle.bale.proofs.putting.put_numbers.Goals as goal

pub loop-i-init : goal.loop-i-init
loop-i-init c = written_start _ _

pub loop-i-preserved : goal.loop-i-preserved
loop-i-preserved c =
    let put = put16 _ _ c.loop-i.bytes (c.copy_from_slice.ensures.after ∙ c.to_le_bytes.ensures) (omega arith) in
    written_next _ _ c.requires c.loop-i.invariant c.loop-i-test.true refl put

pub returns : goal.returns
returns c = written_end _ _ c.requires c.loop-i.invariant c.loop-i-test.false

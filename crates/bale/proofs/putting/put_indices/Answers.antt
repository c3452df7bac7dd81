-- `bale::putting::put_indices` meets its contract: index by index. Assumes nothing.
use mathlib.Core.Path.{◌≡◌, ◌∙◌}
use mathlib.Core.List.{map}
use Prim.Native.Nat.{◌*◌, ◌<◌}
use native.Mathlib.Omega.{arith}
use borrow.Author.Rules.{rules}
use lib.IntN.{pos}
use lib.ListN.{length, get_or, length-map}
use mir.Facts.{to_z-of_z}
use mir.Syntax.{w16}
use mir.Val.{SFits}
use Rattle.bale.specs.Definitions.Words.{index_word}
use Rattle.bale.proofs.WordLaws.{index_bits, put16}
use Rattle.bale.proofs.Pieces.{written_start, written_next, written_end, index_at}
use Rattle.bale.proofs.putting.put_indices.Goals as goal

pub loop-i-init : goal.loop-i-init
loop-i-init c = written_start _ _

pub loop-i-preserved : goal.loop-i-preserved
loop-i-preserved c =
    let l = c.loop-i in
    let ns = map index_word c.args.indices.now in
    let n = length-map c.args.indices.now index_word in
    let room : length c.args.bytes.now ≡ 2 * length ns = omega (arith, n, c.requires) in
    let more : l.i < length ns = omega (arith, n, c.loop-i-test.true) in
    let fits : SFits w16 (get_or c.args.indices.now l.i (pos 0)) = search rules in
    let bytes = rw (to_z-of_z fits, ← index_bits) at c.to_le_bytes.ensures in
    let put = put16 _ _ l.bytes (c.copy_from_slice.ensures.after ∙ bytes) (omega arith) in
    written_next ns c.args.bytes.now room l.invariant more (index_at c.args.indices.now l.i) put

pub returns : goal.returns
returns c =
    let n = length-map c.args.indices.now index_word in
    written_end (map index_word c.args.indices.now) c.args.bytes.now (omega (arith, n, c.requires)) c.loop-i.invariant (omega (arith, n, c.loop-i-test.false))

-- `pyramid::copying::store_row` meets its contract: each turn of its loop stores one index. Assumes nothing.
use Rattle.std.proofs.Common.{◌∙◌, sym, pos, arith}
use Rattle.std.proofs.lemmas.List.{map-id}
use Rattle.mathematics.proofs.Tables.{tabulate-map}
use Rattle.mathematics.proofs.Filling.{filling_start, filling_next}
use Rattle.pyramid.proofs.LentParts.{filled_whole}
use Rattle.pyramid.proofs.Copies.{index_stored}
use Rattle.pyramid.proofs.copying.store_row.Goals as goal

pub loop-i-init : goal.loop-i-init
loop-i-init c = filling_start _ _ _ _

pub loop-i-preserved : goal.loop-i-preserved
loop-i-preserved c = filling_next c.loop-i.invariant (omega arith) (omega arith) (index_stored (c.requires.small c.loop-i.i) c.clamp.ensures.value) (omega arith)

pub returns : goal.returns
returns c =
    let numbers = c.args.numbers.now in
    filled_whole c.loop-i.invariant (omega arith) (sym c.requires.long) ∙ tabulate-map (λ m. m) (pos 0) numbers ∙ map-id numbers

-- `pyramid::copying::clamp_all` meets its contract: each turn of its loop clamps one value. Assumes nothing.
use Rattle.std.proofs.Common.{◌∙◌, ap, pos, arith, rules}
use Rattle.mathematics.proofs.Held.{held_is}
use Rattle.mathematics.proofs.Splices.{splice_whole}
use Rattle.mathematics.proofs.Tables.{length-tabulate, tabulate-map}
use Rattle.mathematics.proofs.Filling.{filling_start, filling_next, filling_end}
use Rattle.pyramid.specs.Definitions.Rebuilding.{clamp}
use Rattle.pyramid.proofs.copying.clamp_all.Goals as goal

pub loop-i-init : goal.loop-i-init
loop-i-init c = filling_start _ _ _ _

pub loop-i-preserved : goal.loop-i-preserved
loop-i-preserved c =
    filling_next c.loop-i.invariant (omega arith) (omega arith) (c.clamp.ensures ∙ ap (clamp c.args.lawful) (held_is (search rules))) (omega arith)

pub returns : goal.returns
returns c =
    filling_end c.loop-i.invariant c.loop-i-test.false ∙ splice_whole _ _ (length-tabulate _ _ ∙ c.requires)
    ∙ tabulate-map (clamp c.args.lawful) (pos 0) c.args.src.now

-- `test_support::reading::load_indices` meets its contract: its indices, and the places after them. Assumes nothing.
use Rattle.std.proofs.Common.{◌*◌, length-take-le, rules, arith}
use Rattle.test_support.specs.Definitions.Numbers.{signed16}
use Rattle.test_support.proofs.Filled.{splice_front}
use Rattle.test_support.proofs.reading.load_indices.Goals as goal

pub returns : goal.returns
returns c =
    let n = c.min-n.result in
    let levels = c.args.levels.now in
    let filled = c.fill.ensures (λ k. signed16 c.args.bytes.now (2 * k)) (λ k x h p. search rules) in
    rw (filled, length-take-le n levels (omega arith)) (rw c.min-n.ensures (splice_front _ _ levels))

-- `quantizer::quotients::round_quarters` meets its contract, by what `divide_short` promises and the law of halves. Assumes nothing.
use Rattle.std.proofs.Common.{◌∙◌, ◌≡◌, rules}
use borrow.Author.Rules.{sfits_of}
use lib.Signed.{shr_z}
use Rattle.mathematics.proofs.Held.{held, held_is}
use Rattle.quantizer.proofs.Halves.{half_round}
use Rattle.quantizer.proofs.quotients.round_quarters.Goals as goal

pub returns : goal.returns
returns c =
    let half : held (shr_z (held c.args.sum) 2) ≡ shr_z c.args.sum 2 = search rules in
    held_is (sfits_of c.divide_short.type_inv) ∙ half_round c.args.sum c.args.quarter c.divide_short.result c.requires.0 (rw half at c.divide_short.ensures)

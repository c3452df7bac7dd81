-- `bale::checking::indices_ok` meets its contract: the pairs of bytes that are tested are the indices. Assumes nothing.
use Rattle.std.proofs.Common.{◌∙◌, ap}
use Rattle.mathematics.specs.Definitions.Tests.{all}
use Rattle.pyramid.specs.Definitions.Refusals.{index_ok}
use Rattle.bale.proofs.WordLists.{pairs_read}
use Rattle.bale.proofs.checking.indices_ok.Goals as goal

pub returns : goal.returns
returns c =
    c.index_pairs_ok.ensures
    ∙ ap (all (index_ok c.args.bin)) (pairs_read c.args.indices.now (λ i. (c.type_inv.indices i).fits) _ c.as_chunks.ensures.front)

-- `pixel::sums::expand` meets its contract: the sums of the sums' rows, over 100. Assumes nothing.
use Rattle.std.proofs.Common.{◌∙◌, arith}
use Rattle.pyramid.proofs.SmallBuffers.{small-raster}
use Rattle.pyramid.proofs.TapSums.{within_more}
use Rattle.pixel.proofs.Blocks.{sums_within, block_made}
use Rattle.pixel.proofs.sums.expand.Goals as goal

pub rows-expanded-requires : goal.rows-expanded-requires
rows-expanded-requires c =
    rw c.rows-sums.ensures
    (small-raster 4 4 _ (omega arith) (λ y m hy hm. within_more (omega arith) (sums_within c.args.weights.lawful c.args.columns 524288 c.args.values.now c.requires y m)))

pub returns : goal.returns
returns c =
    c.round_row.ensures
    ∙ block_made c.args.weights.kernel c.args.columns c.args.rows c.args.values.now c.rows-sums.ensures c.rows-expanded.ensures

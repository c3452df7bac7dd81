-- `pixel::sums::Weights::odd` meets its contract: 5 is the weight beside the centre. Assumes nothing.
use Rattle.pyramid.proofs.TapSums.{odd_held}
use Rattle.pyramid.proofs.Weights.{weight_rule}
use Rattle.pixel.proofs.sums.Weights.odd.Goals as goal

pub returns : goal.returns
returns c = rw (weight_rule c.args.self.lawful).beside.1 (odd_held c.requires.0 c.requires.1)

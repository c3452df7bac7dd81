-- `pyramid::taps::Weights::odd` meets its contract: 5 is the weight beside the centre. Assumes nothing.
use Rattle.pyramid.proofs.TapSums.{pair_fits, odd_fits, odd_held}
use Rattle.pyramid.proofs.Weights.{weight_rule}
use Rattle.pyramid.proofs.taps.Weights.odd.Goals as goal

pub overflow_add-result : goal.overflow_add-result
overflow_add-result c = pair_fits c.requires.0 c.requires.1

pub overflow_mul-result : goal.overflow_mul-result
overflow_mul-result c = odd_fits c.requires.0 c.requires.1

pub returns : goal.returns
returns c = rw (weight_rule c.args.self.lawful).beside.1 (odd_held c.requires.0 c.requires.1)

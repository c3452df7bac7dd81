-- `pixel::sums::Weights::even` meets its contract: every step fits, and the weights are the paper's formula. Assumes nothing.
use Rattle.pyramid.proofs.TapSums.{difference_fits, product_fits}
use Rattle.pixel.proofs.Taken.{even_fits, even_held}
use Rattle.pixel.proofs.sums.Weights.even.Goals as goal

pub overflow_sub-result : goal.overflow_sub-result
overflow_sub-result c = let (a, b, d) = c.requires in difference_fits a b b b d

pub overflow_mul-result-2 : goal.overflow_mul-result-2
overflow_mul-result-2 c = let (a, b, d) = c.requires in product_fits a b b b d c.args.self.half_is c.args.self.lawful.most

pub overflow_add-result : goal.overflow_add-result
overflow_add-result c = let (a, b, d) = c.requires in even_fits a b d c.args.self.half_is c.args.self.lawful

pub returns : goal.returns
returns c = let (a, b, d) = c.requires in even_held a b d c.args.self.half_is c.args.self.lawful

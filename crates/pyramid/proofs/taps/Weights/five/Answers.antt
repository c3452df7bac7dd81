-- `pyramid::taps::Weights::five` meets its contract: every step fits, and the table's weights are the paper's formula. Assumes nothing.
use Rattle.pyramid.proofs.TapSums.{pair_fits, twice_fits, difference_fits, four_fits, rest_fits, product_fits, five_fits, five_held}
use Rattle.pyramid.proofs.Weights.{weight_rule}
use Rattle.pyramid.proofs.taps.Weights.five.Goals as goal

pub overflow_add-outer : goal.overflow_add-outer
overflow_add-outer c = let (a, b, m, d, e) = c.requires in pair_fits a e

pub overflow_mul-result : goal.overflow_mul-result
overflow_mul-result c = let (a, b, m, d, e) = c.requires in twice_fits a b m d e

pub overflow_sub-result : goal.overflow_sub-result
overflow_sub-result c = let (a, b, m, d, e) = c.requires in difference_fits a b m d e

pub overflow_mul-result-2 : goal.overflow_mul-result-2
overflow_mul-result-2 c =
    let (a, b, m, d, e) = c.requires in
    product_fits a b m d e c.args.self.half_is c.args.self.lawful.most

pub overflow_add-result : goal.overflow_add-result
overflow_add-result c = let (a, b, m, d, e) = c.requires in pair_fits b d

pub overflow_add-result-2 : goal.overflow_add-result-2
overflow_add-result-2 c = let (a, b, m, d, e) = c.requires in four_fits a b m d e

pub overflow_mul-result-3 : goal.overflow_mul-result-3
overflow_mul-result-3 c = let (a, b, m, d, e) = c.requires in rest_fits a b m d e

pub overflow_add-result-3 : goal.overflow_add-result-3
overflow_add-result-3 c =
    let (a, b, m, d, e) = c.requires in
    five_fits a b m d e c.args.self.half_is c.args.self.lawful.most

pub returns : goal.returns
returns c =
    let (a, b, m, d, e) = c.requires in
    let rule = weight_rule c.args.self.lawful in
    rw (rule.outer.1, rule.beside.1, rule.centre) (five_held a b m d e c.args.self.half_is c.args.self.lawful.most)

-- `pyramid::taps::Weights::even` meets its contract: what `five` makes of these with 0 beside the middle one. Assumes nothing.
use Rattle.std.proofs.Common.{◌∙◌, rules}
use Rattle.mathematics.proofs.Held.{held_is}
use Rattle.pyramid.proofs.TapSums.{even_passed}
use Rattle.pyramid.proofs.taps.Weights.even.Goals as goal

pub returns : goal.returns
returns c = let (a, b, e) = c.requires in held_is (search rules) ∙ c.five.ensures ∙ even_passed c.args.self.kernel a b e

-- `pixel::axes::Axis::value` meets its contract: a place of the window stands for a column of the level. Assumes nothing.
use Rattle.std.proofs.Common.{◌∙◌, sym, arith, rules}
use Rattle.pixel.proofs.PlacesHeld.{is_held, placed_there, placed_not, value_formed}
use Rattle.pixel.proofs.axes.Axis.value.Goals as goal

pub overflow_sub-self : goal.overflow_sub-self
overflow_sub-self c = let (_, some) = is_held c.args.self c.args.m (sym c.holds.ensures ∙ c.if-holds.true) in omega arith

pub bounds-row-self : goal.bounds-row-self
bounds-row-self c =
    let (before, some) = is_held c.args.self c.args.m (sym c.holds.ensures ∙ c.if-holds.true) in
    omega (arith, c.requires.1, c.args.self.fits.3)

pub returns-then-holds : goal.returns-then-holds
returns-then-holds c =
    value_formed (search rules) c.requires.2 c.from.ensures c.from-then-holds.ensures
    ∙ sym (placed_there c.args.self _ c.args.m (sym c.holds.ensures ∙ c.if-holds.true))

pub returns-else-holds : goal.returns-else-holds
returns-else-holds c = sym (placed_not c.args.self _ c.args.m (sym c.holds.ensures ∙ c.if-holds.false))

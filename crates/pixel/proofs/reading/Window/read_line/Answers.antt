-- `pixel::reading::Window::read_line` meets its contract: a row of the level, or zeros. Assumes nothing.
use Rattle.std.proofs.Common.{◌∙◌, sym, ap, ◌*ℤ◌, ℤ, pos, arith}
use Rattle.mathematics.proofs.Splices.{get_or-part}
use Rattle.pyramid.specs.Inner.Rows.{as_level}
use Rattle.pixel.proofs.PlacesHeld.{is_held, row_not, row_there, row_room}
use Rattle.pixel.proofs.reading.Window.read_line.Goals as goal
use Rattle.pixel.proofs.reading.Window.read_line.Goals.{After-read_row}

pub returns-then-not-holds-clause-values_after : goal.returns-then-not-holds-clause-values_after
returns-then-not-holds-clause-values_after c =
    c.fill.ensures.after (λ y h. h)
    ∙ rw c.requires.1 (row_not c.args.self.columns c.args.self.rows _ c.args.n (sym c.holds.ensures ∙ c.if-not-holds.true))

pub overflow_sub-at : goal.overflow_sub-at
overflow_sub-at c = let (_, some) = is_held c.args.self.rows c.args.n (sym c.holds.ensures ∙ c.if-not-holds.false) in omega arith

pub slice_bounds-read_row-end : goal.slice_bounds-read_row-end
slice_bounds-read_row-end c =
    let room = row_room c.args.self.columns c.args.self.rows (λ i j. pos 0) c.args.n (sym c.holds.ensures ∙ c.if-not-holds.false) in
    rw c.requires.3 room

pub returns-clause-values_after : goal.returns-clause-values_after
unfolding as_level
returns-clause-values_after c =
    c.read_row.ensures.values_after
    ∙ row_there c.args.self.columns c.args.self.rows _ c.args.n (sym c.holds.ensures ∙ c.if-not-holds.false) _
    (λ i h. ap (λ (v : ℤ). v *ℤ pos c.args.bin) (get_or-part _ _ c.args.level.now (pos 0) i (omega arith)))

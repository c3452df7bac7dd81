-- `pixel::windows::Asked::rebuild` meets its contract: the pixel's value, tested, with what is predicted for it. Assumes nothing.
use Rattle.std.proofs.Common.{◌≡◌, ◌∙◌, sym, ap, ◌+◌, ◌*◌, ◌≤◌, ◌<◌, ◌+ℤ◌, ◌-◌, ◌*ℤ◌, nat_abs, ℤ, pos, get_or, length, arith, rules}
use mir.Syntax.{w16}
use mir.Val.{SFits}
use Rattle.mathematics.proofs.Held.{held}
use Rattle.pyramid.specs.Definitions.Rebuilding.{value_of, clamp}
use Rattle.pyramid.specs.Definitions.Buffers.{read_levels}
use Rattle.pyramid.specs.Definitions.Refusals.{limit}
use Rattle.pyramid.specs.Inner.Rows.{Within}
use Rattle.pyramid.proofs.Sizes.{total_most}
use Rattle.pyramid.proofs.Ranges.{height_room}
use Rattle.pyramid.proofs.RebuiltValues.{value-is}
use Rattle.pyramid.proofs.TapSums.{within_more}
use Rattle.pixel.specs.Inner.Reading.{Above, PixelPredicted}
use Rattle.pixel.proofs.Ranges.{nodes_most}
use Rattle.pixel.proofs.PlacesHeld.{formed, value_formed, sum_fits, sum_held}
use Rattle.pixel.proofs.Predictions.{prediction_most, pixel_held}
use Rattle.pixel.proofs.Readings.{some_same}
use Rattle.pixel.proofs.PixelValues.{place_room, index_is, all_lawful, one_more}
use Rattle.pixel.proofs.windows.Asked.rebuild.Goals as goal
use Rattle.pixel.proofs.windows.Asked.rebuild.Goals.{After-from-2, After-unsigned_abs, After-predict_pixel}

module _ (n : After-from-2) where
  above : Above n.args.self.settings n.args.self.column n.args.self.row n.args.levels.now 0 n.in_ok-upper.upper.block.read n.in_ok-upper.upper.place n.in_ok-upper.upper.block.values
  above = n.read_above.ensures.read n.in_ok-upper.upper n.in_ok-upper.was

  room : n.in_ok-upper.upper.place + n.from.result * n.from-2.result + n.args.self.column < length n.args.levels.now
  room = let a = n.args.self in rw (n.from.ensures, n.from-2.ensures) (place_room a.settings a.column a.row a.inside.0 a.inside.1 n.args.levels.now above n.requires)

  short : length n.args.levels.now ≤ 22359
  short = omega (arith, n.requires, total_most n.args.self.settings n.args.self.lawful.shaped)

pub overflow_add-at : goal.overflow_add-at
overflow_add-at c = let n = (goal.at.overflow_add-at c).After-from-2 in record { fits = omega (arith, room n, short n) }

pub overflow_add-at-2 : goal.overflow_add-at-2
overflow_add-at-2 c = let n = (goal.at.overflow_add-at-2 c).After-from-2 in record { fits = omega (arith, room n, short n, c.from-3.ensures) }

pub offset_bounds-levels-at : goal.offset_bounds-levels-at
offset_bounds-levels-at c = let n = (goal.at.offset_bounds-levels-at c).After-from-2 in record { fits = omega (arith, room n, short n, c.from-3.ensures) }

pub bounds-levels-at : goal.bounds-levels-at
bounds-levels-at c = let n = (goal.at.bounds-levels-at c).After-from-2 in omega (arith, room n, c.from-3.ensures)

-- the pixel's index and its value
module _ (n : After-unsigned_abs) where
  upper : Above n.args.self.settings n.args.self.column n.args.self.row n.args.levels.now 0 n.in_ok-upper.upper.block.read n.in_ok-upper.upper.place n.in_ok-upper.upper.block.values
  upper = n.read_above.ensures.read n.in_ok-upper.upper n.in_ok-upper.was

  abbrev index : ℤ
  index = get_or n.args.levels.now (n.in_ok-upper.upper.place + n.from.result * n.from-2.result + n.from-3.result) (pos 0)

  fits : SFits w16 index
  fits = search rules

  few : get_or n.args.self.settings.bins 0 0 ≤ 255
  few = (n.args.self.lawful.binned 0 (omega arith)).most

  abbrev pixel : ℤ
  pixel = value_of n.args.self.settings 0 (read_levels n.args.self.settings n.args.levels.now 0 n.args.self.column n.args.self.row)

  index_of : index ≡ read_levels n.args.self.settings n.args.levels.now 0 n.args.self.column n.args.self.row
  index_of =
      let a = n.args.self in
      rw (n.from.ensures, n.from-2.ensures, n.from-3.ensures) (index_is a.settings a.column a.row a.inside.0 a.inside.1 n.args.levels.now upper)

  product : held n.from-4.result *ℤ held n.from-5.result ≡ pixel
  product =
      formed fits few n.from-4.ensures n.from-5.ensures
      ∙ ap (λ (x : ℤ). x *ℤ pos (get_or n.args.self.settings.bins 0 0)) index_of
      ∙ sym (value-is n.args.self.settings 0 (read_levels n.args.self.settings n.args.levels.now 0 n.args.self.column n.args.self.row))

  stored : held (held n.from-4.result *ℤ held n.from-5.result) ≡ pixel
  stored = value_formed fits few n.from-4.ensures n.from-5.ensures ∙ sym (formed fits few n.from-4.ensures n.from-5.ensures) ∙ product

  tested : n.unsigned_abs.result ≡ nat_abs pixel
  tested = n.unsigned_abs.ensures.value ∙ ap nat_abs stored

pub returns-then-unsigned_abs-gt4096-clause-refused : goal.returns-then-unsigned_abs-gt4096-clause-refused
returns-then-unsigned_abs-gt4096-clause-refused c = λ e lawful.
    let n = (goal.at.returns-then-unsigned_abs-gt4096-clause-refused c).After-unsigned_abs in
    let small = lawful 0 c.args.self.column c.args.self.row (omega arith) (omega arith) (pixel_held c.args.self.settings c.args.self.column c.args.self.row) in
    omega (arith, tested n, small, c.if-unsigned_abs-gt4096.true)

pub predict_pixel-requires : goal.predict_pixel-requires
predict_pixel-requires c =
    let n = (goal.at.predict_pixel-requires c).After-unsigned_abs in
    record {
      axes = n.read_above.ensures.axes n.in_ok-upper.upper n.in_ok-upper.was;
      small = λ h p. within_more (height_room (c.args.self.settings.depth - 1) (omega (arith, c.args.self.lawful.shaped.deep))) ((upper n).small h p);
    }

-- what is predicted for it
module _ (n : After-predict_pixel) where
  predicted : PixelPredicted n.args.self.settings n.args.self.column n.args.self.row n.args.levels.now n.predict_pixel.result
  predicted = n.predict_pixel.ensures n.args.levels.now (n.read_above.ensures.read n.in_ok-upper.upper n.in_ok-upper.was)

pub overflow_add-value : goal.overflow_add-value
overflow_add-value c =
    let u = (goal.at.overflow_add-value c).After-unsigned_abs in
    let n = (goal.at.overflow_add-value c).After-predict_pixel in
    let small : Within limit (held c.from-4.result *ℤ held c.from-5.result) = record { small = omega (arith, ap nat_abs (product u), tested u, c.if-unsigned_abs-gt4096.false) } in
    sum_fits small
    (within_more (prediction_most c.args.self.settings.depth c.args.self.lawful.shaped.deep) (predicted n).small)

pub overflow_add-result : goal.overflow_add-result
overflow_add-result c =
    let a = c.args.self in
    let u = (goal.at.overflow_add-result c).After-unsigned_abs in
    record { fits = omega (arith, one_more a.settings a.column a.row a.inside.0 a.inside.1 c.args.levels.now (upper u), nodes_most a.settings a.column a.row a.settings.depth a.lawful.shaped.deep) }

pub returns-clause-read : goal.returns-clause-read
returns-clause-read c = λ p e.
    let a = c.args.self in
    let u = (goal.at.returns-clause-read c).After-unsigned_abs in
    let n = (goal.at.returns-clause-read c).After-predict_pixel in
    let small : Within limit (held c.from-4.result *ℤ held c.from-5.result) = record { small = omega (arith, ap nat_abs (product u), tested u, c.if-unsigned_abs-gt4096.false) } in
    let most = within_more (prediction_most a.settings.depth a.lawful.shaped.deep) (predicted n).small in
    let whole = sum_held small most ∙ ap (λ (v : ℤ). v +ℤ c.predict_pixel.result) (product u) ∙ (predicted n).is in
    rw (← some_same e) (
      all_lawful a.settings a.column a.row a.inside.0 a.inside.1 c.args.levels.now (upper u) (omega (arith, tested u, c.if-unsigned_abs-gt4096.false)),
      c.clamp.ensures ∙ ap (clamp a.settings) whole,
      one_more a.settings a.column a.row a.inside.0 a.inside.1 c.args.levels.now (upper u),
    )

-- `pixel::windows::Asked::read_level` meets its contract: the window's values, tested, with what is predicted for them. Assumes nothing.
use Rattle.std.proofs.Common.{◌≡◌, ◌∙◌, sym, ◌+◌, ◌-◌, ◌*◌, ◌≤◌, length, refl, get_or, arith}
use Rattle.mathematics.specs.Inner.Splices.{part}
use Rattle.pyramid.specs.Definitions.Settings.{bin}
use Rattle.pyramid.specs.Definitions.Sizes.{nodes_at}
use Rattle.pyramid.specs.Definitions.Buffers.{start}
use Rattle.pyramid.proofs.Sizes.{total_most}
use Rattle.pyramid.proofs.TapSums.{within_more}
use Rattle.pixel.proofs.Ranges.{nodes_most}
use Rattle.pixel.proofs.Predictions.{prediction_most}
use Rattle.pixel.proofs.Readings.{nodes_are, level_room, fails, block-small, read_more, next_above, some_same}
use Rattle.pixel.proofs.windows.Asked.read_level.Goals as goal
use Rattle.pixel.proofs.windows.Asked.read_level.Goals.{After-new-rows, After-read-own}

-- the level's place in the buffer
module _ (n : After-new-rows) where
  end : n.args.upper.place + (n.new-rows.result.z + 1) * (n.new-columns.result.z + 1) ≤ length n.args.levels.now
  end =
      let s = n.args.self.settings in
      let nodes = nodes_are s n.args.self.column n.args.self.row n.args.self.inside.0 n.args.self.inside.1 n.args.levels.now n.requires.long n.args.level n.requires.deep.1
      n.new-columns.ensures n.new-rows.ensures in
      let room = level_room s n.args.self.column n.args.self.row n.args.self.inside.0 n.args.self.inside.1 n.args.levels.now n.requires.long n.args.level n.requires.deep.1
      n.new-columns.ensures n.new-rows.ensures in
      omega (arith, nodes, room, n.requires.above.place_is)

  short : length n.args.levels.now ≤ 22359
  short = omega (arith, n.requires.long, total_most n.args.self.settings n.args.self.lawful.shaped)

pub overflow_add-place-3 : goal.overflow_add-place-3
overflow_add-place-3 c = let n = (goal.at.overflow_add-place-3 c).After-new-rows in record { fits = omega (arith, end n, short n) }

pub offset_bounds-levels-upper : goal.offset_bounds-levels-upper
offset_bounds-levels-upper c = let n = (goal.at.offset_bounds-levels-upper c).After-new-rows in record { fits = omega (arith, end n, short n) }

pub slice_bounds-read-end : goal.slice_bounds-read-end
slice_bounds-read-end c = end (goal.at.slice_bounds-read-end c).After-new-rows

-- the block that was read
module _ (n : After-read-own) where
  here : part n.args.upper.place (n.args.upper.place + (n.new-rows.result.z + 1) * (n.new-columns.result.z + 1)) n.args.levels.now
      ≡ part (start n.args.self.settings n.args.level) (start n.args.self.settings n.args.level + nodes_at n.args.self.settings n.args.level) n.args.levels.now
  here =
      let a = n.args.self in
      rw (n.requires.above.place_is, nodes_are a.settings a.column a.row a.inside.0 a.inside.1 n.args.levels.now n.requires.long n.args.level n.requires.deep.1 n.new-columns.ensures n.new-rows.ensures)
      refl

  bin_here : get_or n.args.self.settings.bins n.from.result 0 ≡ bin n.args.self.settings n.args.level
  bin_here = rw n.from.ensures refl

pub returns-then-not-values_ok-clause-refused : goal.returns-then-not-values_ok-clause-refused
returns-then-not-values_ok-clause-refused c = λ e lawful.
    let n = (goal.at.returns-then-not-values_ok-clause-refused c).After-read-own in
    let a = c.args.self in
    fails a.settings a.column a.row a.inside.0 a.inside.1 c.args.levels.now c.requires.long c.args.level c.requires.deep.1 c.new-columns.ensures c.new-rows.ensures
    (here n) (bin_here n) c.read-own.ensures.values (sym c.values_ok.ensures ∙ c.if-not-values_ok.true) lawful

pub add-requires : goal.add-requires
add-requires c =
    let n = (goal.at.add-requires c).After-read-own in
    let a = c.args.self in (
      block-small a.settings a.column a.row a.inside.0 a.inside.1 c.args.levels.now c.requires.long c.args.level c.requires.deep.1 c.new-columns.ensures c.new-rows.ensures
          (here n) (bin_here n) c.read-own.ensures.values (sym c.values_ok.ensures ∙ c.if-not-values_ok.false),
      λ p. within_more (prediction_most (a.settings.depth - c.args.level) (omega (arith, a.lawful.shaped.deep))) (c.requires.prediction.small p),
    )

pub overflow_add-read : goal.overflow_add-read
overflow_add-read c =
    let n = (goal.at.overflow_add-read c).After-read-own in
    let a = c.args.self in
    let total = read_more a.settings a.column a.row a.inside.0 a.inside.1 c.args.levels.now c.requires.long c.args.level c.requires.deep.1 c.new-columns.ensures c.new-rows.ensures
    (here n) (bin_here n) c.read-own.ensures.values c.requires.above c.requires.prediction c.add.array_long c.add.ensures
    (sym c.values_ok.ensures ∙ c.if-not-values_ok.false) (c.args.level - 1) (omega (arith, c.requires.deep.0)) in
    record { fits = omega (arith, total, c.read-own.ensures.count, nodes_most a.settings a.column a.row a.settings.depth a.lawful.shaped.deep) }

pub returns-clause-read : goal.returns-clause-read
returns-clause-read c = λ lower e.
    let n = (goal.at.returns-clause-read c).After-read-own in
    let a = c.args.self in
    let next = next_above a.settings a.column a.row a.inside.0 a.inside.1 c.args.levels.now c.requires.long c.args.level c.requires.deep.1 c.new-columns.ensures c.new-rows.ensures
    (here n) (bin_here n) c.read-own.ensures.values c.requires.above c.requires.prediction c.add.array_long c.add.ensures
    (sym c.values_ok.ensures ∙ c.if-not-values_ok.false) (c.args.level - 1) (omega (arith, c.requires.deep.0)) in
    rw (← some_same e, c.read-own.ensures.count) next

pub returns-clause-axes : goal.returns-clause-axes
returns-clause-axes c = λ lower e. rw (← some_same e) (record { columns_are = c.new-columns.ensures; rows_are = c.new-rows.ensures })

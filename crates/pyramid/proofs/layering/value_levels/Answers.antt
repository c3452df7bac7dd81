-- `pyramid::layering::value_levels` meets its contract: each turn rebuilds one level more, downward. Assumes nothing.
use Rattle.std.proofs.Common.{◌≡◌, ap, arith}
use Rattle.pyramid.specs.declared.Settings.{Settings}
use Rattle.pyramid.proofs.Refusals.{accepted_seen}
use Rattle.pyramid.proofs.ValueLevels.{Rebuildable, rebuilding-first, level_ready, level_done, rebuilding-next, rebuilding-last}
use Rattle.pyramid.proofs.layering.value_levels.Goals as goal
use Rattle.pyramid.proofs.layering.value_levels.Goals.{After-lawful}

given : (t : After-lawful) → Rebuildable t.args.lawful t.args.levels.now t.args.work.now
given t = record { law = accepted_seen _ t.lawful.view_is t.lawful.invariant; filled = t.requires.lengths.0; long = t.requires.lengths.1; ranges = t.requires.rebuilding_ranges }

depth_is : (c : After-lawful) → c.lawful.inside.settings.depth ≡ c.args.lawful.depth
depth_is c = ap (λ (s : Settings). s.depth) c.lawful.view_is

pub loop-l-init : goal.loop-l-init
loop-l-init c g = rw (depth_is c) (rebuilding-first g)

pub value_level-requires : goal.value_level-requires
value_level-requires c =
    let t = (goal.at.value_level-requires c).After-lawful in
    let g = given t in
    rw (c.level.ensures.0, c.level.ensures.1) (level_ready g c.loop-l.l (omega (arith, depth_is t)) (c.loop-l.invariant g))

pub loop-l-preserved : goal.loop-l-preserved
loop-l-preserved c g =
    let t = (goal.at.loop-l-preserved c).After-lawful in
    let l = c.loop-l.l in
    rebuilding-next g l (omega (arith, depth_is t))
    (level_done g l (omega (arith, depth_is t)) (c.loop-l.invariant g) (rw (c.level.ensures.0, c.level.ensures.1) at c.value_level.ensures)) (omega arith)

pub returns-2 : goal.returns-2
returns-2 c =
    let t = (goal.at.returns-2 c).After-lawful in
    let g = given t in
    let l = c.loop-l.l in
    rebuilding-last g l (omega (arith, depth_is t))
    (level_done g l (omega (arith, depth_is t)) (c.loop-l.invariant g) (rw (c.level.ensures.0, c.level.ensures.1) at c.value_level.ensures)) (omega arith)

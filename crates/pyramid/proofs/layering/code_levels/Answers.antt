-- `pyramid::layering::code_levels` meets its contract: each turn codes one level more, downward. Assumes nothing.
use Rattle.std.proofs.Common.{◌≡◌, ap, ◌+◌, ◌≤◌, arith}
use Rattle.pyramid.specs.declared.Settings.{Settings}
use Rattle.pyramid.proofs.Refusals.{accepted_seen}
use Rattle.pyramid.specs.Definitions.Buffers.{start}
use Rattle.pyramid.specs.Definitions.Sizes.{nodes_at}
use Rattle.pyramid.proofs.CodeLevels.{Codable, Coding, coding-first, level_ready, level_done, coding-next, coding-last}
use Rattle.pyramid.proofs.layering.code_levels.Goals as goal
use Rattle.pyramid.proofs.layering.code_levels.Goals.{After-lawful, After-code_level}

given : (t : After-lawful) → Codable t.args.lawful t.args.manner t.args.levels.now t.args.work.now
given t = record { law = accepted_seen _ t.lawful.view_is t.lawful.invariant; filled = t.requires.lengths.0; long = t.requires.lengths.1; ranges = t.requires.coding_ranges }

depth_is : (c : After-lawful) → c.lawful.inside.settings.depth ≡ c.args.lawful.depth
depth_is c = ap (λ (s : Settings). s.depth) c.lawful.view_is

pub loop-l-init : goal.loop-l-init
loop-l-init c g = rw (depth_is c) (coding-first g)

pub code_level-requires : goal.code_level-requires
code_level-requires c =
    let t = (goal.at.code_level-requires c).After-lawful in
    let g = given t in
    rw (c.level.ensures.0, c.level.ensures.1) (level_ready g c.loop-l.l (omega (arith, depth_is t)) (c.loop-l.invariant g))

-- one level more
coded : (n : After-code_level) (t : After-lawful) → t.lawful.inside.settings.depth ≡ n.args.lawful.depth → n.loop-l.l ≤ t.lawful.inside.settings.depth
    → (g : Codable n.args.lawful n.args.manner n.args.levels.now n.args.work.now)
    → Coding n.args.lawful n.args.manner n.args.levels.now n.args.work.now n.code_level.new.levels n.code_level.new.work (start n.args.lawful n.loop-l.l + nodes_at n.args.lawful n.loop-l.l)
coded n t e h g =
    level_done g n.loop-l.l (omega (arith, e)) (n.loop-l.invariant g)
    (rw (n.level.ensures.0, n.level.ensures.1) at n.code_level.ensures.levels_after)
    (rw (n.level.ensures.0, n.level.ensures.1) at n.code_level.ensures.work_after)

pub loop-l-preserved : goal.loop-l-preserved
loop-l-preserved c g =
    let t = (goal.at.loop-l-preserved c).After-lawful in
    coding-next g c.loop-l.l (omega (arith, depth_is t)) (coded (goal.at.loop-l-preserved c).After-code_level t (depth_is t) (omega arith) g) (omega arith)

pub returns-2 : goal.returns-2
returns-2 c =
    let t = (goal.at.returns-2 c).After-lawful in
    let g = given t in
    let (indices, kept) = coding-last g c.loop-l.l (omega (arith, depth_is t)) (coded (goal.at.returns-2 c).After-code_level t (depth_is t) (omega arith) g) (omega arith) in
    record { levels_after = indices; work_after = kept }

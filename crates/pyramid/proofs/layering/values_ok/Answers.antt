-- `pyramid::layering::values_ok` meets its contract: each turn tests one level, downward. Assumes nothing.
use Rattle.std.proofs.Common.{◌≡◌, ◌∙◌, sym, ap, ◌-◌, take, arith}
use Rattle.pyramid.specs.declared.Settings.{Settings}
use Rattle.mathematics.specs.Definitions.Tests.{all}
use Rattle.pyramid.specs.Definitions.Settings.{bin}
use Rattle.pyramid.specs.Definitions.Sizes.{nodes_at}
use Rattle.pyramid.specs.Definitions.Refusals.{index_ok}
use Rattle.pyramid.proofs.Sizes.{nodes_down, total-is}
use Rattle.pyramid.proofs.LevelParts.{least_nodes}
use Rattle.pyramid.proofs.CheckedLevels.{checked, levels_checked, checked_passes, checked_fails, checked_last}
use Rattle.pyramid.proofs.layering.values_ok.Goals as goal
use Rattle.pyramid.proofs.layering.values_ok.Goals.{After-lawful, After-nodes, After-indices_ok}

depth_is : (c : After-lawful) → c.lawful.inside.settings.depth ≡ c.args.lawful.depth
depth_is c = ap (λ (s : Settings). s.depth) c.lawful.view_is

nodes_is : (n : After-nodes) → n.nodes.result ≡ nodes_at n.args.lawful n.loop-l.l
nodes_is n = n.nodes.ensures.0 ∙ rw (n.level-level.ensures.0, n.level-level.ensures.1)

-- the test of the level that is left first
tested : (n : After-indices_ok) → n.indices_ok.result ≡ all (index_ok (bin n.args.lawful n.loop-l.l)) (take (nodes_at n.args.lawful n.loop-l.l) n.loop-l.left.now)
tested n = n.indices_ok.ensures ∙ rw (n.bin.ensures, n.split_at.ensures.front, n.nodes.ensures.0, n.level-level.ensures.0, n.level-level.ensures.1)

pub loop-l-init : goal.loop-l-init
loop-l-init c = rw (depth_is c) (levels_checked c.args.lawful c.args.levels.now c.requires, c.requires ∙ total-is c.args.lawful)

pub split_at-requires : goal.split_at-requires
split_at-requires c = omega (arith, nodes_is c, c.loop-l.invariant.1, least_nodes c.args.lawful c.loop-l.l)

pub returns-then-not-indices_ok : goal.returns-then-not-indices_ok
returns-then-not-indices_ok c =
    sym (c.loop-l.invariant.0 ∙ checked_fails _ c.loop-l.l _ (sym (tested (goal.at.returns-then-not-indices_ok c).After-indices_ok) ∙ c.if-not-indices_ok.true))

pub loop-l-preserved : goal.loop-l-preserved
loop-l-preserved c =
    let n = (goal.at.loop-l-preserved c).After-nodes in (
      c.loop-l.invariant.0
          ∙ checked_passes _ c.loop-l.l _ (omega arith) (sym (tested (goal.at.loop-l-preserved c).After-indices_ok) ∙ c.if-not-indices_ok.false)
          ∙ ap (checked c.args.lawful (c.loop-l.l - 1)) (rw (← nodes_is n) (sym c.split_at.ensures.back)),
      omega (arith, nodes_is n, c.split_at.ensures.back_len, c.loop-l.invariant.1, nodes_down c.args.lawful c.loop-l.l (λ e. omega (arith, e))),
    )

pub returns-else-not-indices_ok : goal.returns-else-not-indices_ok
returns-else-not-indices_ok c =
    sym (c.loop-l.invariant.0 ∙ checked_last _ c.loop-l.l _ (omega arith) (sym (tested (goal.at.returns-else-not-indices_ok c).After-indices_ok) ∙ c.if-not-indices_ok.false))

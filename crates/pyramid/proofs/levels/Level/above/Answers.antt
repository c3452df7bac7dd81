-- `pyramid::levels::Level::above` meets its contract: the level above a level ends where this one starts. Assumes nothing.
use Rattle.std.proofs.Common.{◌≡◌, ◌+◌, suc, ap, ◌∙◌, add-one, arith}
use Rattle.pyramid.specs.declared.Settings.{Settings}
use Rattle.pyramid.specs.Definitions.Sizes.{nodes_at}
use Rattle.pyramid.specs.Definitions.Buffers.{start}
use Rattle.pyramid.proofs.LevelParts.{start-below}
use Rattle.pyramid.proofs.levels.Level.above.Goals as goal
use Rattle.pyramid.proofs.levels.Level.above.Goals.{After-nodes_at}

module _ (n : After-nodes_at) where
  nodes : n.nodes_at.result ≡ nodes_at n.args.self.settings (suc n.args.self.number)
  nodes =
      n.nodes_at.ensures.0
      ∙ ap (λ (s : Settings). nodes_at s (n.args.self.number + 1)) n.shape-shape.ensures
      ∙ ap (nodes_at n.args.self.settings) (add-one n.args.self.number)

  ends : start n.args.self.settings (suc n.args.self.number) + n.nodes_at.result ≡ n.args.self.place
  ends = omega (arith, nodes, start-below n.args.self.settings n.args.self.number n.requires, n.args.self.placed.0)

pub overflow_sub-place : goal.overflow_sub-place
overflow_sub-place c = let n = (goal.at.overflow_sub-place c).After-nodes_at in omega (arith, ends n)

pub invariant_of-result : goal.invariant_of-result
invariant_of-result c =
    let n = (goal.at.invariant_of-result c).After-nodes_at in
    let s = c.args.self.settings in
    record {
      lawful = c.args.self.lawful;
      within = omega (arith, c.requires);
      placed = (omega (arith, ends n, ap (start s) (add-one c.args.self.number)), omega (arith, c.args.self.placed.1));
    }

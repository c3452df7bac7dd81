-- `pyramid::rebuild` meets its contract: the picture is clamped from the last part of the work buffer. Assumes nothing.
use Rattle.std.proofs.Common.{◌≡◌, sym, subst, ◌∙◌, ℕ, ◌+◌, arith}
use Rattle.pyramid.specs.Definitions.Sizes.{Level, nodes_at, total}
use Rattle.pyramid.specs.Definitions.Rebuilding.{rebuilt}
use Rattle.pyramid.specs.Definitions.Buffers.{start, read_levels}
use Rattle.pyramid.specs.Inner.Lawful.{Lawful}
use Rattle.pyramid.proofs.Ranges.{rebuilding_ranges}
use Rattle.pyramid.proofs.LevelParts.{start_bottom}
use Rattle.pyramid.proofs.LevelPlaces.{front_all}
use Rattle.pyramid.proofs.Pictures.{picture_length, picture_clamped}
use Rattle.pyramid.proofs.rebuild.Goals as goal
use Rattle.pyramid.proofs.rebuild.Goals.{After-nodes}

pub value_levels-requires-clause-rebuilding_ranges : goal.value_levels-requires-clause-rebuilding_ranges
value_levels-requires-clause-rebuilding_ranges c =
    rebuilding_ranges c.args.lawful (subst Lawful c.level-level.ensures.0 c.level-level.result.lawful) c.args.levels.now c.requires.t

-- once the picture's place is known
module _ (n : After-nodes) where
  law : Lawful n.args.lawful
  law = subst Lawful n.level-level.ensures.0 n.level-level.result.lawful

  place : n.start-from.result ≡ start n.args.lawful 0
  place = n.start-from.ensures.0 ∙ rw (n.level-level.ensures.0, n.level-level.ensures.1)

  nodes : n.nodes.result ≡ nodes_at n.args.lawful 0
  nodes = n.nodes.ensures.0 ∙ rw (n.level-level.ensures.0, n.level-level.ensures.1)

  end : n.start-from.result + n.nodes.result ≡ total n.args.lawful
  end = rw (place, nodes) (start_bottom n.args.lawful)

pub slice_bounds-clamp_all-end : goal.slice_bounds-clamp_all-end
slice_bounds-clamp_all-end c = let n = (goal.at.slice_bounds-clamp_all-end c).After-nodes in omega (arith, end n, c.requires.sized.work_least)

pub clamp_all-requires : goal.clamp_all-requires
clamp_all-requires c =
    let n = (goal.at.clamp_all-requires c).After-nodes in
    rw (end n, place n) (picture_length c.args.lawful (law n) c.value_levels.new.work (omega (arith, c.value_levels.auto.work, c.requires.sized.work_least)) ∙ sym c.requires.sized.picture_is)

pub returns-clause-picture_after : goal.returns-clause-picture_after
returns-clause-picture_after c =
    let n = (goal.at.returns-clause-picture_after c).After-nodes in
    let values : ℕ → Level = rebuilt c.args.lawful (read_levels c.args.lawful c.args.levels.now) in
    (rw (end n, place n) at c.clamp_all.ensures)
    ∙ picture_clamped c.args.lawful (law n) values c.args.work.now c.value_levels.new.work (c.value_levels.ensures ∙ front_all c.args.lawful values c.args.work.now)
    (omega (arith, c.value_levels.auto.work, c.requires.sized.work_least))

pub returns-clause-work_after : goal.returns-clause-work_after
returns-clause-work_after c = c.value_levels.ensures ∙ front_all c.args.lawful (rebuilt c.args.lawful (read_levels c.args.lawful c.args.levels.now)) c.args.work.now

-- `pyramid::code` meets its contract: the picture is loaded, averaged where it lies, and its indices are made of the averages.
-- Assumes nothing.
use Rattle.std.proofs.lemmas.List.{length-map}
use Rattle.std.proofs.Common.{◌≡◌, sym, ap, subst, ◌∙◌, List, map, ◌+◌, ◌-◌, length, ◌++◌, take, drop, ℤ, pos, arith}
use Rattle.mathematics.specs.Inner.Splices.{splice}
use Rattle.mathematics.proofs.Splices.{part_long}
use Rattle.pyramid.specs.Definitions.Pyramid.{average}
use Rattle.pyramid.specs.Definitions.Sizes.{nodes_at, total}
use Rattle.pyramid.specs.Definitions.Buffers.{Bytes, all_levels, start, read_levels}
use Rattle.pyramid.specs.Inner.Lawful.{Lawful}
use Rattle.pyramid.specs.Inner.Accepted.{Accepted}
use Rattle.pyramid.proofs.LentParts.{lent_back}
use Rattle.pyramid.proofs.LevelParts.{start_bottom}
use Rattle.pyramid.proofs.Pictures.{picture_nodes}
use Rattle.pyramid.proofs.LoadedPictures.{loaded, averaged, loaded_ranges, averages_placed, averages_codable, indices_placed, kept_placed}
use Rattle.pyramid.proofs.code.Goals as goal
use Rattle.pyramid.proofs.code.Goals.{After-nodes}

-- once the picture's place is known
module _ (n : After-nodes) where
  law : Lawful n.args.lawful
  law = subst Lawful n.level-level.ensures.0 n.level-level.result.lawful

  bytes : Bytes n.args.picture.now
  bytes p = (n.type_inv.picture p).fits

  given : Accepted n.args.lawful n.args.picture.now n.args.levels.now n.args.work.now
  given = record { law = law; sized = n.requires }

  place : n.start-from.result ≡ start n.args.lawful 0
  place = n.start-from.ensures.0 ∙ rw (n.level-level.ensures.0, n.level-level.ensures.1)

  nodes : n.nodes.result ≡ nodes_at n.args.lawful 0
  nodes = n.nodes.ensures.0 ∙ rw (n.level-level.ensures.0, n.level-level.ensures.1)

  end : n.start-from.result + n.nodes.result ≡ total n.args.lawful
  end = rw (place, nodes) (start_bottom n.args.lawful)

  pixels_long : length n.args.picture.now ≡ n.nodes.result
  pixels_long = omega (arith, end, place, picture_nodes n.args.lawful law, n.requires.picture_is)

  -- what the steps leave in the work buffer: the picture in its place, and the averages
  loaded_is : {values : List ℤ} → values ≡ map pos n.args.picture.now
      → take n.start-from.result n.args.work.now ++ (values ++ drop (n.start-from.result + n.nodes.result - n.start-from.result) (drop n.start-from.result n.args.work.now)) ≡ loaded given bytes
  loaded_is {values} e =
      let long : length values ≡ length n.args.picture.now = ap length e ∙ length-map n.args.picture.now pos in
      lent_back n.start-from.result (n.start-from.result + n.nodes.result - n.start-from.result) n.args.work.now values (omega (arith, long, pixels_long)) ∙ rw (e, place)

  averaged_is : {left made : List ℤ} → left ≡ loaded given bytes
      → made ≡ splice 0 (all_levels n.args.lawful (average n.args.lawful (read_levels n.args.lawful left 0))) left → made ≡ averaged given bytes
  averaged_is l m = (rw l at m) ∙ averages_placed given bytes

pub slice_bounds-load-end : goal.slice_bounds-load-end
slice_bounds-load-end c = omega (arith, end c, c.requires.work_least)

pub load-requires : goal.load-requires
load-requires c =
    let n = (goal.at.load-requires c).After-nodes in
    pixels_long n ∙ sym (part_long n.start-from.result n.nodes.result n.args.work.now (omega (arith, end n, n.requires.work_least)))

pub average_levels-requires-clause-coding_ranges : goal.average_levels-requires-clause-coding_ranges
average_levels-requires-clause-coding_ranges c =
    let n = (goal.at.average_levels-requires-clause-coding_ranges c).After-nodes in
    rw (loaded_is n c.load.ensures) (loaded_ranges (given n) (bytes n))

-- what coding the levels asks of the averages that were made
pub code_levels-requires-clause-lengths : goal.code_levels-requires-clause-lengths
code_levels-requires-clause-lengths c =
    let n = (goal.at.code_levels-requires-clause-lengths c).After-nodes in
    let ready = averages_codable (given n) (bytes n) c.args.manner in
    rw (averaged_is n (loaded_is n c.load.ensures) c.average_levels.ensures) (ready.filled, ready.long)

pub code_levels-requires-clause-coding_ranges : goal.code_levels-requires-clause-coding_ranges
code_levels-requires-clause-coding_ranges c =
    let n = (goal.at.code_levels-requires-clause-coding_ranges c).After-nodes in
    rw (averaged_is n (loaded_is n c.load.ensures) c.average_levels.ensures) (averages_codable (given n) (bytes n) c.args.manner).ranges

-- the indices are those of the averages that were made, and what is kept lies where they were
pub returns : goal.returns
returns c =
    let n = (goal.at.returns c).After-nodes in
    let a = averaged_is n (loaded_is n c.load.ensures) c.average_levels.ensures in
    record {
      levels_after = (rw a at c.code_levels.ensures.levels_after) ∙ indices_placed (given n) (bytes n) c.args.manner;
      work_after = (rw a at c.code_levels.ensures.work_after) ∙ kept_placed (given n) (bytes n) c.args.manner;
    }

-- What a refusal leaves (document 01, "Who can cause which refusal"): the answer is the number alone, lent memory is unchanged, and what
-- the definitions have beside it is 0. Assumes nothing.
use Rattle.std.specs.Prelude.{◌≡◌, ◌≢◌, List, ℕ, ℤ, replicate}
use Rattle.pyramid.specs.declared.Settings.{Settings}
use Rattle.pyramid.specs.declared.Manner.{Manner}
use Rattle.pyramid.specs.Definitions.Calls.{coding, rebuilding}
use Rattle.pyramid.specs.Definitions.Answers.{bounds_answer, nodes_answer, shape_answer, level_size_answer, deepest_answer}

-- what holds where a call answers a number other than 0
abbrev pub Refused : ℕ → Type 0 → Type 0
Refused answer holds = answer ≢ 0 → holds

pub record RefusalsHoldNothing (s : Settings) : Type 0 where
  pub of_bounds : (manner : Manner) → Refused (bounds_answer s manner).refusal ((bounds_answer s manner).levels ≡ replicate 7 0)
  pub of_nodes : Refused (nodes_answer s).refusal ((nodes_answer s).nodes ≡ 0)
  pub of_shape : Refused (shape_answer s).refusal ((shape_answer s).nodes ≡ 0)
  pub of_level_size : (l : ℕ) → Refused (level_size_answer s l).refusal (((level_size_answer s l).columns ≡ 0) × ((level_size_answer s l).rows ≡ 0))
  pub of_deepest : (columns rows : ℕ) → Refused (deepest_answer columns rows).refusal ((deepest_answer columns rows).depth ≡ 0)
  -- the answers of coding and rebuilding have no further fields; what they are lent is unchanged
  pub of_coding : (manner : Manner) (picture : List ℕ) (levels work : List ℤ)
      → Refused (coding s manner picture levels work).answer
      (((coding s manner picture levels work).levels ≡ levels) × ((coding s manner picture levels work).work ≡ work))
  pub of_rebuilding : (levels : List ℤ) (picture : List ℕ) (work : List ℤ)
      → Refused (rebuilding s levels picture work).answer
      (((rebuilding s levels picture work).picture ≡ picture) × ((rebuilding s levels picture work).work ≡ work))

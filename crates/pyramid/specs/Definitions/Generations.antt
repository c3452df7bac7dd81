-- Generations (document 01, "Generations"; document 02, P4): a coding of the picture at hand, in either manner, then a rebuilding from the
-- level buffer as the coding left it. Assumes nothing.
use Rattle.std.specs.Prelude.{List, [], ◌∷◌, ℕ, ◌+◌, ℤ}
use Rattle.pyramid.specs.declared.Settings.{Settings}
use Rattle.pyramid.specs.declared.Manner.{Manner}
use Rattle.pyramid.specs.Definitions.Bound.{bound_at}
use Rattle.pyramid.specs.Definitions.Refusals.{first}
use Rattle.pyramid.specs.Definitions.Calls.{leaves, CodingOutcome, RebuildingOutcome, coding, rebuilding}

-- The settings of both calls, lawful or not, the manner of the coding, and the buffers, of any length and contents: those lent to the coding,
-- then those lent to the rebuilding. `target` is the picture at hand where the rebuilding goes into the same picture buffer
pub record Generation : Type 0 where
  pub settings : Settings
  pub manner : Manner
  pub levels : List ℤ
  pub work : List ℤ
  pub target : List ℕ
  pub target_work : List ℤ

module _ (picture : List ℕ) (g : Generation) where
  abbrev pub coded : CodingOutcome
  coded = coding g.settings g.manner picture g.levels g.work

  abbrev pub rebuilt_from : RebuildingOutcome
  rebuilt_from = rebuilding g.settings coded.levels g.target g.target_work

  -- 0 where both calls are accepted, else the refusal: the coding's, after which nothing is rebuilt, or the rebuilding's
  unfoldable pub outcome : ℕ
  outcome = first (coded.answer ∷ rebuilt_from.answer ∷ [])

  -- the picture it leaves: the rebuilt one where it is accepted, else the one it got
  unfoldable pub left_by : List ℕ
  left_by = leaves outcome rebuilt_from.picture picture

  -- the bound of its level 0 in its manner where it is accepted, else 0
  unfoldable pub counted_bound : ℕ
  counted_bound = leaves outcome (bound_at g.settings g.manner 0) 0

-- the picture at hand after a list of generations
unfoldable pub at_hand : List ℕ → List Generation → List ℕ
at_hand picture [] = picture
at_hand picture (g ∷ later) = at_hand (left_by picture g) later

-- the sum of the accepted generations' level 0 bounds
unfoldable pub bound_sum : List ℕ → List Generation → ℕ
bound_sum picture [] = 0
bound_sum picture (g ∷ later) = counted_bound picture g + bound_sum (left_by picture g) later

-- What the closed loop is for (document 02, P4): the coder predicts from what the reader will have, so that each level's error is that of its
-- own bin, and its bound is never above the open-loop one. Assumes nothing.
use Rattle.std.specs.Prelude.{◌≡◌, ◌≢◌, List, ℕ, ◌/◌, ◌≤◌, ◌<◌, ℤ, nat_abs, ◌-ℤ◌, take}
use Rattle.pyramid.specs.declared.Settings.{Settings}
use Rattle.pyramid.specs.declared.Manner.{Manner}
use Rattle.pyramid.specs.declared.Manner.TheVariants.{OpenLoop, ClosedLoop}
use Rattle.pyramid.specs.Definitions.Settings.{bin}
use Rattle.pyramid.specs.Definitions.Sizes.{columns_at, rows_at, total}
use Rattle.pyramid.specs.Definitions.Pyramid.{average}
use Rattle.pyramid.specs.Definitions.Bound.{bound_at}
use Rattle.pyramid.specs.Definitions.Buffers.{pixels, read_levels}
use Rattle.pyramid.specs.Definitions.Calls.{CodingOutcome, RebuildingOutcome, coding, rebuilding}

-- a closed-loop coding, and a rebuilding from the levels that it left, with buffers of any length and contents
module _ (s : Settings) (picture : List ℕ) (levels work : List ℤ) (target : List ℕ) (target_work : List ℤ) where
  abbrev pub closed : CodingOutcome
  closed = coding s ClosedLoop picture levels work

  abbrev pub read_back : RebuildingOutcome
  read_back = rebuilding s closed.levels target target_work

  pub record ReaderHas : Type 0 where
    -- the values that the rebuilding leaves, of all levels, are those that the coding left
    pub same : read_back.answer ≡ 0 → take (total s) read_back.work ≡ take (total s) closed.work
    -- before the clamp, each lies within half its own bin, rounded down, of its average, whatever the kernel
    pub near : (l i j : ℕ) → l ≤ s.depth → i < columns_at s l → j < rows_at s l
        → nat_abs (read_levels s closed.work l i j -ℤ average s (pixels s.columns picture) l i j) ≤ bin s l / 2
    -- its levels are never turned down with 11
    pub lawful : read_back.answer ≢ 11

abbrev pub ClosedLoops : Type 0
ClosedLoops =
    (s : Settings) (picture : List ℕ) (levels work : List ℤ) (target : List ℕ) (target_work : List ℤ)
    → (closed s picture levels work target target_work).answer ≡ 0 → ReaderHas s picture levels work target target_work

-- whichever coder made the levels, the open-loop bound holds of them: the closed-loop one is never above it, at any level
abbrev pub NeverAbove : Type 0
NeverAbove = (s : Settings) (manner : Manner) (l : ℕ) → bound_at s manner l ≤ bound_at s OpenLoop l

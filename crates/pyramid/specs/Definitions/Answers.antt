-- What the calls on settings and sizes answer (document 01, "Who can cause which refusal"): the bound looks for the settings' numbers, a
-- shape for its own, and the deepest depth for 1, on size only; a refusal holds 0 in the numbers. Assumes nothing.
use Rattle.std.specs.Prelude.{cond, List, ℕ, leb, replicate}
use Rattle.mathematics.specs.Definitions.Tables.{tabulate}
use Rattle.pyramid.specs.declared.Settings.{Settings}
use Rattle.pyramid.specs.declared.Dimensions.{Dimensions}
use Rattle.pyramid.specs.declared.Manner.{Manner}
use Rattle.pyramid.specs.Definitions.Settings.{size_ok}
use Rattle.pyramid.specs.Definitions.Sizes.{columns_at, rows_at, total}
use Rattle.pyramid.specs.Definitions.Bound.{bound_at}
use Rattle.pyramid.specs.Definitions.Depth.{deepest_depth}
use Rattle.pyramid.specs.Definitions.Refusals.{unless, shape_refusal, settings_refusal}
use Rattle.pyramid.specs.Definitions.Calls.{leaves}

-- what a call answers: a refusal's number, and values, which are 0 where it is not 0
pub record BoundsAnswer : Type 0 where
  pub refusal : ℕ
  pub levels : List ℕ

pub record NodesAnswer : Type 0 where
  pub refusal : ℕ
  pub nodes : ℕ

pub record LevelSizeAnswer : Type 0 where
  pub refusal : ℕ
  pub columns : ℕ
  pub rows : ℕ

pub record DeepestAnswer : Type 0 where
  pub refusal : ℕ
  pub depth : ℕ

-- the bound of level l in slot l, 0 in the slots above N
unfoldable pub bound_slots : Settings → Manner → List ℕ
bound_slots s manner = tabulate 7 (λ l. cond (leb l s.depth) (bound_at s manner l) 0)

unfoldable pub bounds_answer : Settings → Manner → BoundsAnswer
bounds_answer s manner = record { refusal = settings_refusal s; levels = leaves (settings_refusal s) (bound_slots s manner) (replicate 7 0) }

-- T
unfoldable pub nodes_answer : Settings → NodesAnswer
nodes_answer s = record { refusal = settings_refusal s; nodes = leaves (settings_refusal s) (total s) 0 }

-- T of a shape, whose bins are not looked at
unfoldable pub shape_answer : Settings → NodesAnswer
shape_answer s = record { refusal = shape_refusal s; nodes = leaves (shape_refusal s) (total s) 0 }

-- the size of level l of a shape, 0 by 0 above N
unfoldable pub level_size_answer : Settings → ℕ → LevelSizeAnswer
level_size_answer s l =
    record {
      refusal = shape_refusal s;
      columns = leaves (shape_refusal s) (cond (leb l s.depth) (columns_at s l) 0) 0;
      rows = leaves (shape_refusal s) (cond (leb l s.depth) (rows_at s l) 0) 0;
    }

abbrev pub size_of : LevelSizeAnswer → Dimensions
size_of answer = record { columns = answer.columns; rows = answer.rows }

unfoldable pub deepest_answer : ℕ → ℕ → DeepestAnswer
deepest_answer columns rows =
    let refusal = unless (size_ok columns rows) 1 in
    record { refusal = refusal; depth = leaves refusal (deepest_depth columns rows) 0 }

-- What a level is predicted to be: 0 at the top, below it EXPAND of the level above; row by row as the code makes it. Assumes nothing.
use mathlib.Core.Path.{◌≡◌, sym, ◌∙◌}
use mathlib.Core.List.{List}
use Prim.Native.Nat.{ℕ, suc, ◌+◌, ◌-◌, ◌*◌, ◌≤◌, ◌<◌}
use native.Mathlib.Omega.{arith}
use lib.IntN.{ℤ, pos}
use lib.ListN.{length, replicate}
use Rattle.mathematics.specs.Definitions.Tables.{tabulate}
use Rattle.mathematics.specs.Inner.Splices.{part}
use Rattle.mathematics.proofs.Tables.{tabulate-same, tabulate_constant}
use Rattle.pyramid.specs.declared.Settings.{Settings}
use Rattle.pyramid.specs.Inner.Lawful.{Lawful}
use Rattle.pyramid.specs.Definitions.Sizes.{Level, columns_at, rows_at, nodes_at}
use Rattle.pyramid.specs.Definitions.Steps.{expand}
use Rattle.pyramid.specs.Definitions.Pyramid.{expanded}
use Rattle.pyramid.specs.Definitions.Buffers.{start, read_levels}
use Rattle.pyramid.specs.Inner.Rows.{as_level, Small}
use Rattle.pyramid.specs.Inner.Layers.{predicted, LevelSmall}
use Rattle.pyramid.proofs.Sizes.{last_most}
use Rattle.pyramid.proofs.LevelParts.{start-below}
use Rattle.pyramid.proofs.LevelSteps.{expandable, twice_wide, twice_high, expand_read}

module _ (s : Settings) (l : ℕ) (g : ℕ → Level) where
  pub predicted_top : s.depth ≤ l → (i j : ℕ) → predicted s (s.depth - l) l g i j ≡ pos 0
  unfolding predicted
  predicted_top h i j = let e : s.depth - l ≡ 0 = omega arith in rw e

  pub predicted-below : l < s.depth → (i j : ℕ) → predicted s (s.depth - l) l g i j ≡ expanded s l (g (suc l)) i j
  unfolding predicted
  predicted-below h i j = let e : s.depth - l ≡ suc (s.depth - suc l) = omega arith in rw e

module _ (s : Settings) (l j : ℕ) (work : List ℤ) where
  abbrev made : List ℤ
  made = tabulate (columns_at s l) (λ i. predicted s (s.depth - l) l (read_levels s work) i j)

  -- a row of zeros
  pub top_row : s.depth ≤ l → (n : ℕ) → n ≡ columns_at s l → replicate n (pos 0) ≡ made
  top_row h n e =
      rw e
      (sym (tabulate_constant (columns_at s l) (pos 0)) ∙ tabulate-same (columns_at s l) _ _ (λ i hi. sym (predicted_top s l (read_levels s work) h i j)))

-- of the values, rows and columns that the code was given for the level above
module _ (s : Settings) (l j : ℕ) (before : List ℤ) (law : Lawful s) (h : l < s.depth) (room : start s l ≤ length before)
    {values : List ℤ} {rows columns : ℕ} (held : values ≡ part (start s (suc l)) (start s (suc l) + nodes_at s (suc l)) before) (along : rows ≡ rows_at s (suc l)) (across : columns ≡ columns_at s (suc l)) where
  above_room : start s (suc l) + nodes_at s (suc l) ≤ length before
  above_room = omega (arith, start-below s l h)

  pub below_row : j < rows_at s l → tabulate (2 * (columns - 1) + 1) (λ i. expand s.kernel (columns - 1) (rows - 1) (as_level columns values) i j) ≡ made s l j before
  below_row hj =
      rw (held, along, across, twice_wide s law before l h above_room)
      (tabulate-same (columns_at s l) _ _ (λ i hi. expand_read s law before l h above_room i j hi hj ∙ sym (predicted-below s l (read_levels s before) h i j)))

  pub below_small : (e : ℕ) → LevelSmall s (suc l) e before → Small e values
  below_small e f = rw held (expandable s law before l h above_room e f).small

  pub below_sizes : (n : ℕ) → j < rows_at s l → n ≡ columns_at s l → (j ≤ 2 * (rows - 1)) × (n ≡ 2 * (columns - 1) + 1) × (columns ≤ 65)
  below_sizes n hj hn =
      rw (along, across, hn)
      (omega (arith, twice_wide s law before l h above_room, twice_high s law before l h above_room, last_most s.columns l, law.shaped.across.most))

-- What a level is predicted to be: the same from levels that agree above it, and small; a row for it, and a row of a level in a buffer.
-- Assumes nothing.
use mathlib.Core.Path.{◌≡◌, refl, ap, ◌∙◌}
use mathlib.Core.List.{List}
use Prim.Native.Nat.{ℕ, zero, suc, ◌+◌, ◌-◌, ◌*◌, ◌≤◌, ◌<◌}
use native.Mathlib.Nat.{le_trans}
use native.Mathlib.Omega.{arith}
use lib.IntN.{ℤ, pos, nat_abs}
use lib.ListN.{length, get_or}
use Rattle.mathematics.specs.Inner.Splices.{part}
use Rattle.mathematics.specs.Definitions.Tables.{tabulate}
use Rattle.mathematics.proofs.Splices.{part_long, get_or-part}
use Rattle.mathematics.proofs.Distance.{near_zero, abs_near}
use Rattle.pyramid.specs.declared.Settings.{Settings}
use Rattle.pyramid.specs.Inner.Lawful.{Lawful}
use Rattle.pyramid.specs.Definitions.Sizes.{Level, columns_at, rows_at, total}
use Rattle.pyramid.specs.Definitions.Buffers.{start, read_levels}
use Rattle.pyramid.specs.Inner.Ranges.{EachNode}
use Rattle.pyramid.specs.Inner.Rows.{Within, Small}
use Rattle.pyramid.specs.Inner.Layers.{predicted}
use Rattle.pyramid.proofs.Ranges.{near_constant}
use Rattle.pyramid.proofs.Buffers.{row_inside}
use Rattle.pyramid.proofs.LevelParts.{level_inside}
use Rattle.pyramid.proofs.LevelSteps.{expanded-same}
use Rattle.pyramid.proofs.SmallBuffers.{small-tabulate}

module _ (s : Settings) (law : Lawful s) where
  same_from : (d l : ℕ) → l + d ≡ s.depth → (g h : ℕ → Level) → (suc l ≤ s.depth → EachNode s (suc l) (λ i j. g (suc l) i j ≡ h (suc l) i j))
      → EachNode s l (λ i j. predicted s d l g i j ≡ predicted s d l h i j)
  unfolding predicted
  same_from zero l e g h same i j hi hj = refl
  same_from (suc d) l e g h same i j hi hj =
      expanded-same s law l (omega arith) (g (suc l)) (h (suc l)) (same (omega arith)) i j hi hj

  small_from : (d l : ℕ) → l + d ≡ s.depth → (g : ℕ → Level) → (suc l ≤ s.depth → EachNode s (suc l) (λ i j. nat_abs (g (suc l) i j) ≤ 524288))
      → EachNode s l (λ i j. Within 8388608 (predicted s d l g i j))
  unfolding predicted
  small_from zero l e g small i j hi hj = record { small = omega arith }
  small_from (suc d) l e g small i j hi hj = record {
    small =
        le_trans (abs_near (near_constant s law l (omega arith) 524288 (g (suc l)) (pos 0) (λ i j hi hj. near_zero _ (small (omega arith) i j (omega arith) (omega arith)))
        i j (omega arith) (omega arith))) (omega arith);
  }

  module _ (l : ℕ) (deep : l ≤ s.depth) where
    pub predicted-same : (g h : ℕ → Level) → (suc l ≤ s.depth → EachNode s (suc l) (λ i j. g (suc l) i j ≡ h (suc l) i j))
        → EachNode s l (λ i j. predicted s (s.depth - l) l g i j ≡ predicted s (s.depth - l) l h i j)
    predicted-same = same_from (s.depth - l) l (omega arith)

    predicted-small : (g : ℕ → Level) → (suc l ≤ s.depth → EachNode s (suc l) (λ i j. nat_abs (g (suc l) i j) ≤ 524288))
        → EachNode s l (λ i j. Within 8388608 (predicted s (s.depth - l) l g i j))
    predicted-small = small_from (s.depth - l) l (omega arith)

    -- a row of it
    pub row_small : (g : ℕ → Level) → (suc l ≤ s.depth → EachNode s (suc l) (λ i j. nat_abs (g (suc l) i j) ≤ 524288)) → (j : ℕ) → j < rows_at s l
        → {made : List ℤ} → made ≡ tabulate (columns_at s l) (λ i. predicted s (s.depth - l) l g i j) → Small 8388608 made
    row_small g small j turn is = rw is (small-tabulate (columns_at s l) _ (λ i hi. predicted-small g small i j hi turn))

-- ---- row j of level l, in a buffer of all levels

abbrev pub row_of : Settings → ℕ → ℕ → List ℤ → List ℤ
row_of s l j buffer = part (start s l + j * columns_at s l) (start s l + j * columns_at s l + columns_at s l) buffer

module _ (s : Settings) (l j : ℕ) where
  -- a start and columns that the code was given
  pub given_row : {at columns : ℕ} → at ≡ start s l + j * columns_at s l → columns ≡ columns_at s l → (buffer : List ℤ) → part at (at + columns) buffer ≡ row_of s l j buffer
  given_row place across buffer = rw (place, across)

  module _ (deep : l ≤ s.depth) (turn : j < rows_at s l) where
    pub row_room : start s l + j * columns_at s l + columns_at s l ≤ total s
    row_room = omega (arith, level_inside s l deep, row_inside (columns_at s l) turn)

    module _ (buffer : List ℤ) (long : total s ≤ length buffer) where
      pub length_row : length (row_of s l j buffer) ≡ columns_at s l
      length_row = part_long (start s l + j * columns_at s l) (columns_at s l) buffer (omega (arith, row_room))

      pub row_node : (i : ℕ) → i < columns_at s l → get_or (row_of s l j buffer) i (pos 0) ≡ read_levels s buffer l i j
      unfolding read_levels
      row_node i hi = get_or-part (start s l + j * columns_at s l) (start s l + j * columns_at s l + columns_at s l) buffer (pos 0) i (omega arith) ∙ ap (λ (p : ℕ). get_or buffer p (pos 0)) (omega arith)

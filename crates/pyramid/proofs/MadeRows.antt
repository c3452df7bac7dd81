-- A level that is made row by row, each node from one that stands in a row and from what is predicted for it: the one law for whatever is made
-- of them, which coding and rebuilding a level cite. Assumes nothing.
use mathlib.Core.Path.{◌≡◌, sym, ap, ◌∙◌}
use mathlib.Core.List.{List, ◌++◌}
use Prim.Native.Nat.{ℕ, suc, ◌+◌, ◌-◌, ◌*◌, ◌≤◌, ◌<◌}
use native.Mathlib.Nat.{le_trans}
use native.Mathlib.Omega.{arith}
use lib.IntN.{ℤ, pos}
use lib.ListN.{length, get_or, take, drop}
use Rattle.mathematics.specs.Inner.Splices.{part}
use Rattle.mathematics.specs.Definitions.Tables.{tabulate}
use Rattle.mathematics.proofs.Tables.{length-tabulate, tabulate-same, get_or-tabulate}
use Rattle.pyramid.specs.declared.Settings.{Settings}
use Rattle.pyramid.specs.Inner.Lawful.{Lawful}
use Rattle.pyramid.specs.Definitions.Sizes.{Level, columns_at, rows_at, nodes_at, total}
use Rattle.pyramid.specs.Definitions.Buffers.{start, read_levels}
use Rattle.pyramid.specs.Inner.Ranges.{EachNode}
use Rattle.pyramid.specs.Inner.Layers.{predicted, LevelSmall}
use Rattle.pyramid.proofs.Rendering.{Rendering, rendering_next}
use Rattle.pyramid.proofs.LentParts.{lent_back}
use Rattle.pyramid.proofs.LevelParts.{read_before}
use Rattle.pyramid.proofs.Buffers.{row_inside}
use Rattle.pyramid.proofs.PredictedRows.{predicted-same, row_of, given_row, row_room}

-- ---- where a row stands, of a level's place and columns that the code was given

module _ (s : Settings) (l : ℕ) (deep : l ≤ s.depth) {j from columns : ℕ} (turn : j < rows_at s l) (place : from ≡ start s l) (across : columns ≡ columns_at s l) where
  -- in a buffer of all levels
  pub row_is : (buffer : List ℤ) → part (from + j * columns) (from + j * columns + columns) buffer ≡ row_of s l j buffer
  row_is = given_row s l j (rw (place, across)) across

  pub row_fits : from + j * columns + columns ≤ total s
  row_fits = rw (place, across) (row_room s l j deep turn)

  -- in what begins with level l
  pub here_fits : {n : ℕ} → nodes_at s l ≤ n → j * columns + columns ≤ n
  here_fits room = rw across (omega (arith, row_inside (columns_at s l) turn))

-- ---- how a row is made

module _ (s : Settings) (l : ℕ) where
  -- level l as F makes it of a level's own nodes and of what is predicted from the level above in g
  abbrev pub made_of : (ℤ → ℤ → ℤ) → Level → (ℕ → Level) → Level
  made_of F own g i j = F (own i j) (predicted s (s.depth - l) l g i j)

  -- a buffer became w, with j rows of it from `at` on
  abbrev pub Made : (ℤ → ℤ → ℤ) → Level → (ℕ → Level) → ℕ → (buffer w : List ℤ) → ℕ → Type 0
  Made F own g at buffer w j = Rendering at (columns_at s l) (rows_at s l) (made_of F own g) buffer w j

  -- the level above, as it is read from what stands before level l
  module _ (w : List ℤ) {before : List ℤ} (front : before ≡ take (start s l) w) where
    pub above_kept : suc l ≤ s.depth → EachNode s (suc l) (λ i j. read_levels s before (suc l) i j ≡ read_levels s w (suc l) i j)
    above_kept h i j hi hj = rw front (read_before s w l i j h hi hj)

    pub above_small : {e : ℕ} → LevelSmall s (suc l) e w → e ≤ 524288 → LevelSmall s (suc l) 524288 before
    above_small small k = record { small = λ h x y hx hy. rw (above_kept h x y hx hy) (le_trans (small.small h x y hx hy) k) }

    -- the next row xs, of a row that is given and of the one that is predicted; its place was lent, and comes back
    pub made_next : (law : Lawful s) → l ≤ s.depth → (F : ℤ → ℤ → ℤ) (own : Level) {at : ℕ} {buffer made : List ℤ} {j : ℕ}
        → Made F own (read_levels s w) at buffer made j → at + nodes_at s l ≤ length buffer → j < rows_at s l
        → (given : List ℤ) {prediction : List ℤ} → ((i : ℕ) → i < columns_at s l → get_or given i (pos 0) ≡ own i j)
        → prediction ≡ tabulate (columns_at s l) (λ i. predicted s (s.depth - l) l (read_levels s before) i j)
        → {n place k : ℕ} {xs : List ℤ} → xs ≡ tabulate n (λ i. F (get_or given i (pos 0)) (get_or prediction i (pos 0)))
        → n ≡ columns_at s l → place ≡ at + j * columns_at s l → k ≡ columns_at s l
        → Made F own (read_levels s w) at buffer (take place made ++ (xs ++ drop k (drop place made))) (j + 1)
    made_next law deep F own {at} {made = made} {j} r room turn given here made_is {n} {place} {k} {xs} is count place_is width =
        let row : xs ≡ tabulate (columns_at s l) (λ i. made_of F own (read_levels s w) i j) =
        is ∙ rw count (tabulate-same (columns_at s l) _ _ (λ i hi. rw (
          here i hi,
          made_is,
          get_or-tabulate (columns_at s l) (λ i. predicted s (s.depth - l) l (read_levels s before) i j) (pos 0) i hi,
          predicted-same s law l deep (read_levels s before) (read_levels s w) above_kept i j hi turn,
        ))) in
        rendering_next r room
        (lent_back place k made xs (width ∙ sym (ap length row ∙ length-tabulate (columns_at s l) (λ i. made_of F own (read_levels s w) i j))) ∙ rw (place_is, row))
        turn

-- A level is a part of a buffer of all levels: where it begins and ends, what it holds, and tests of one level after another.
-- Assumes nothing.
use mathlib.Core.Path.{◌≡◌, refl, sym, ◌∙◌}
use mathlib.Core.Bool.{Bool, true, false}
use mathlib.Core.List.{List, map, map-append}
use Prim.Native.Nat.{ℕ, zero, suc, ◌+◌, ◌-◌, ◌*◌, ◌≤◌, ◌<◌}
use native.Mathlib.Nat.{not-suc-le-zero}
use native.Mathlib.Omega.{arith}
use lib.IntN.{ℤ, pos}
use lib.ListN.{length, get_or, take}
use lib.Seq.{ext_get_or, get_or-take}
use Rattle.mathematics.specs.Definitions.Tests.{all}
use Rattle.mathematics.specs.Definitions.Tables.{tabulate}
use Rattle.mathematics.specs.Inner.Splices.{part}
use Rattle.mathematics.proofs.Tables.{map-tabulate}
use Rattle.mathematics.proofs.Splices.{part_long, get_or-part}
use Rattle.mathematics.proofs.Tests.{all_joined}
use Rattle.pyramid.specs.declared.Settings.{Settings}
use Rattle.pyramid.specs.Definitions.Sizes.{Level, columns_at, rows_at, nodes_at, nodes_to, total}
use Rattle.pyramid.specs.Definitions.Buffers.{raster, level_raster, stack, start, read_levels}
use Rattle.pyramid.proofs.Sizes.{nodes_to_mono}
use Rattle.pyramid.proofs.Buffers.{inside, length-raster, raster_at, by_place}

-- ---- where a level begins and ends

module _ (s : Settings) where
  pub start_room : (l : ℕ) → l ≤ s.depth → start s l + nodes_to s l ≡ total s
  unfolding start total
  start_room l h = omega (arith, nodes_to_mono s l s.depth h)

  pub start_top : start s s.depth ≡ 0
  unfolding start total
  start_top = omega arith

  -- a level ends where the one below it begins, and level 0 at T
  pub start-below : (l : ℕ) → l < s.depth → start s (suc l) + nodes_at s (suc l) ≡ start s l
  unfolding nodes_to
  start-below l h = omega (arith, start_room l (omega arith), start_room (suc l) h)

  pub start-next : (l : ℕ) → 0 < l → l ≤ s.depth → start s l + nodes_at s l ≡ start s (l - 1)
  start-next l h k = let e : suc (l - 1) ≡ l = omega arith in rw e at (start-below (l - 1) (omega arith))

  pub start_bottom : start s 0 + nodes_at s 0 ≡ total s
  unfolding nodes_to
  start_bottom = start_room 0 (omega arith)

  pub least_nodes : (l : ℕ) → nodes_at s l ≤ nodes_to s l
  unfolding nodes_to
  least_nodes zero = omega arith
  least_nodes (suc l) = omega arith

  pub level_inside : (l : ℕ) → l ≤ s.depth → start s l + nodes_at s l ≤ total s
  level_inside l h = omega (arith, start_room l h, least_nodes l)

  -- ---- what the part holds

  -- of a buffer that reaches to the end of the level
  module _ (buffer : List ℤ) (l : ℕ) (room : start s l + nodes_at s l ≤ length buffer) where
    pub length_there : length (part (start s l) (start s l + nodes_at s l) buffer) ≡ nodes_at s l
    length_there = part_long (start s l) (nodes_at s l) buffer room

    abbrev Same : ℕ → Type 0
    Same p = get_or (part (start s l) (start s l + nodes_at s l) buffer) p (pos 0) ≡ get_or (level_raster s (read_levels s buffer) l) p (pos 0)

    node : (i j : ℕ) → i < columns_at s l → j < rows_at s l → Same (j * columns_at s l + i)
    unfolding read_levels
    node i j hi hj =
        get_or-part (start s l) (start s l + nodes_at s l) buffer (pos 0) (j * columns_at s l + i) (omega (arith, inside hi hj))
        ∙ sym (raster_at (columns_at s l) (rows_at s l) (read_levels s buffer l) (pos 0) i j hi hj)

    pub level_there : part (start s l) (start s l + nodes_at s l) buffer ≡ level_raster s (read_levels s buffer) l
    level_there =
        ext_get_or (pos 0) _ _ (length_there ∙ sym (length-raster (columns_at s l) (rows_at s l) (read_levels s buffer l)))
        (λ p k. by_place (columns_at s l) (rows_at s l) Same (omega arith) node p (omega (arith, length_there)))

  pub level_room : (buffer : List ℤ) (l : ℕ) → l ≤ s.depth → total s ≤ length buffer → start s l + nodes_at s l ≤ length buffer
  level_room buffer l h long = omega (arith, level_inside l h, long)

  pub level_part : (buffer : List ℤ) (l : ℕ) → l ≤ s.depth → total s ≤ length buffer
      → part (start s l) (start s l + nodes_at s l) buffer ≡ level_raster s (read_levels s buffer) l
  level_part buffer l h long = level_there buffer l (level_room buffer l h long)

  -- what stands before a level reads like the whole of the buffer
  pub read_before : (buffer : List ℤ) (l i j : ℕ) → suc l ≤ s.depth → i < columns_at s (suc l) → j < rows_at s (suc l)
      → read_levels s (take (start s l) buffer) (suc l) i j ≡ read_levels s buffer (suc l) i j
  unfolding read_levels
  read_before buffer l i j h hi hj =
      get_or-take (start s l) buffer (start s (suc l) + (j * columns_at s (suc l) + i)) (pos 0) (omega (arith, start-below l h, inside {rows = rows_at s (suc l)} hi hj))

-- ---- what a function makes of all nodes

pub map-raster : {A B : Type 0} (g : A → B) (columns rows : ℕ) (f : ℕ → ℕ → A) → map g (raster columns rows f) ≡ raster columns rows (λ i j. g (f i j))
unfolding raster
map-raster g columns zero f = refl
map-raster g columns (suc j) f = map-append g (raster columns j f) (tabulate columns (λ i. f i j)) ∙ rw (map-raster g columns j f, map-tabulate g columns (λ i. f i j))

-- ---- tests of the levels, from the top down

module _ (s : Settings) (test : ℤ → Bool) (f : ℕ → Level) where
  pub stack_bottom : (l : ℕ) → l ≤ 0 → all test (stack s f l) ≡ all test (level_raster s f l)
  unfolding stack
  stack_bottom zero h = refl
  stack_bottom (suc l) h = absurd (not-suc-le-zero h)

  pub stack_fails : (l : ℕ) → all test (level_raster s f l) ≡ false → all test (stack s f l) ≡ false
  unfolding stack
  stack_fails zero e = e
  stack_fails (suc l) e = all_joined test (level_raster s f (suc l)) (stack s f l) ∙ rw e

  pub stack_passes : (l : ℕ) → 0 < l → all test (level_raster s f l) ≡ true → all test (stack s f l) ≡ all test (stack s f (l - 1))
  unfolding stack
  stack_passes zero h e = absurd (not-suc-le-zero h)
  stack_passes (suc l) h e = let k : suc l - 1 ≡ l = omega arith in all_joined test (level_raster s f (suc l)) (stack s f l) ∙ rw (e, k)

-- The values of a level buffer tested level by level, as whoever reads one level after another tests them: level N first, each index with
-- the bin of its level. Assumes nothing.
use mathlib.Core.Path.{◌≡◌, refl, sym, ap, ap₂, ◌∙◌}
use mathlib.Core.Bool.{Bool, true, false, ◌&&◌}
use mathlib.Core.List.{List}
use Prim.Native.Nat.{ℕ, zero, suc, ◌+◌, ◌-◌, ◌≤◌, ◌<◌}
use native.Mathlib.Omega.{arith}
use lib.Dec.{leb}
use lib.IntN.{ℤ, nat_abs}
use lib.ListN.{length, take, drop}
use lib.Seq.{drop-drop}
use Rattle.mathematics.specs.Definitions.Tests.{all}
use Rattle.quantizer.specs.Definitions.Values.{value_ok}
use Rattle.pyramid.specs.declared.Settings.{Settings}
use Rattle.pyramid.specs.Definitions.Settings.{bin}
use Rattle.pyramid.specs.Definitions.Sizes.{Level, columns_at, rows_at, nodes_at, total}
use Rattle.pyramid.specs.Definitions.Buffers.{level_raster, stack, start, read_levels}
use Rattle.pyramid.specs.Definitions.Rebuilding.{value_of}
use Rattle.pyramid.specs.Definitions.Refusals.{limit, index_ok, values_ok}
use Rattle.mathematics.proofs.Tests.{all_map, all_joined}
use Rattle.pyramid.proofs.LevelParts.{start_top, start-below, level_part, map-raster}

-- the indices of levels l to 0, level l first
unfoldable pub checked : Settings → ℕ → List ℤ → Bool
checked s zero indices = all (index_ok (bin s 0)) (take (nodes_at s 0) indices)
checked s (suc l) indices = all (index_ok (bin s (suc l))) (take (nodes_at s (suc l)) indices) && checked s l (drop (nodes_at s (suc l)) indices)

module _ (s : Settings) (indices : List ℤ) where
  pub checked_zero : checked s 0 indices ≡ all (index_ok (bin s 0)) (take (nodes_at s 0) indices)
  unfolding checked
  checked_zero = refl

  pub checked_suc : (l : ℕ)
      → checked s (suc l) indices ≡ (all (index_ok (bin s (suc l))) (take (nodes_at s (suc l)) indices) && checked s l (drop (nodes_at s (suc l)) indices))
  unfolding checked
  checked_suc l = refl

-- the same one level after the other
module _ (s : Settings) where
  abbrev Passes : ℕ → List ℤ → Bool → Type 0
  Passes l indices b = all (index_ok (bin s l)) (take (nodes_at s l) indices) ≡ b

  pub checked_fails : (l : ℕ) (indices : List ℤ) → Passes l indices false → checked s l indices ≡ false
  unfolding checked
  checked_fails zero indices e = e
  checked_fails (suc l) indices e = rw e

  pub checked_passes : (l : ℕ) (indices : List ℤ) → 0 < l → Passes l indices true → checked s l indices ≡ checked s (l - 1) (drop (nodes_at s l) indices)
  unfolding checked
  checked_passes zero indices h e = absurd (omega (arith, h))
  checked_passes (suc l) indices h e = let k : suc l - 1 ≡ l = omega arith in rw (e, k)

  pub checked_last : (l : ℕ) (indices : List ℤ) → l ≤ 0 → Passes l indices true → checked s l indices ≡ true
  unfolding checked
  checked_last zero indices h e = e
  checked_last (suc l) indices h e = absurd (omega (arith, h))

module _ (s : Settings) (levels : List ℤ) where
  abbrev within : ℤ → Bool
  within v = leb (nat_abs v) limit

  abbrev values : ℕ → Level
  values l i j = value_of s l (read_levels s levels l i j)

  -- the values of a part's indices are those of the level that it holds
  pub part_values : (l : ℕ) {p : List ℤ} → p ≡ level_raster s (read_levels s levels) l → all (index_ok (bin s l)) p ≡ all within (level_raster s values l)
  unfolding value_ok value_of
  part_values l e =
      rw e
      (sym (all_map (value_of s l) within (level_raster s (read_levels s levels) l))
      ∙ ap (all within) (map-raster (value_of s l) (columns_at s l) (rows_at s l) (read_levels s levels l)))

  module _ (long : length levels ≡ total s) where
    level_values : (l : ℕ) → l ≤ s.depth → all (index_ok (bin s l)) (take (nodes_at s l) (drop (start s l) levels)) ≡ all within (level_raster s values l)
    level_values l h =
        let e : start s l + nodes_at s l - start s l ≡ nodes_at s l = omega arith in
        part_values l (rw e at (level_part s levels l h (omega arith)))

    -- what follows a level is the levels below it
    next : (l : ℕ) → suc l ≤ s.depth → drop (nodes_at s (suc l)) (drop (start s (suc l)) levels) ≡ drop (start s l) levels
    next l h = drop-drop (nodes_at s (suc l)) (start s (suc l)) levels ∙ ap (λ (n : ℕ). drop n levels) (start-below s l h)

    from_level : (l : ℕ) → l ≤ s.depth → all within (stack s values l) ≡ checked s l (drop (start s l) levels)
    unfolding stack checked
    from_level zero h = sym (level_values 0 h)
    from_level (suc l) h =
        all_joined within (level_raster s values (suc l)) (stack s values l)
        ∙ ap₂ (λ (a b : Bool). a && b) (sym (level_values (suc l) h)) (from_level l (omega arith) ∙ sym (ap (checked s l) (next l h)))

    pub levels_checked : values_ok s levels ≡ checked s s.depth levels
    unfolding values_ok
    levels_checked = rw (start_top s) at (from_level s.depth (omega arith))

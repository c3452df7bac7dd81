-- A picture that is loaded into its place in the work buffer: what its averages and its indices are there. Assumes nothing.
use mathlib.Core.Path.{◌≡◌, sym, ap, ◌∙◌}
use mathlib.Core.List.{List, map}
use Prim.Native.Nat.{ℕ, ◌+◌, ◌*◌, ◌≤◌}
use native.Mathlib.Omega.{arith}
use lib.IntN.{ℤ, pos}
use lib.ListN.{length, length-append, length-map, get_or-map}
use Rattle.mathematics.specs.Inner.Splices.{splice}
use Rattle.mathematics.proofs.Splices.{get_or-splice, splice_over}
use Rattle.pyramid.specs.declared.Settings.{Settings}
use Rattle.pyramid.specs.declared.Manner.{Manner}
use Rattle.pyramid.specs.declared.Manner.TheVariants.{OpenLoop}
use Rattle.pyramid.specs.Inner.Accepted.{Accepted}
use Rattle.pyramid.specs.Definitions.Sizes.{Level, columns_at, rows_at, total}
use Rattle.pyramid.specs.Definitions.Pyramid.{average}
use Rattle.pyramid.specs.Definitions.Manners.{reference, index}
use Rattle.pyramid.specs.Definitions.Buffers.{Bytes, pixels, all_levels, start, read_levels}
use Rattle.pyramid.specs.Definitions.Calls.{in_work}
use Rattle.pyramid.specs.Inner.Ranges.{EachNode, CodingRanges}
use Rattle.pyramid.proofs.Buffers.{inside, length-all, stack_same}
use Rattle.pyramid.proofs.LevelParts.{start_bottom}
use Rattle.pyramid.proofs.LevelPlaces.{front_all, read_front}
use Rattle.pyramid.proofs.Ranges.{ranges_like}
use Rattle.pyramid.proofs.Pictures.{picture_wide, picture_nodes}
use Rattle.pyramid.proofs.SamePictures.{average-same, reference-same, index-same}
use Rattle.pyramid.proofs.CodeLevels.{Codable}

module _ {s : Settings} {picture : List ℕ} {levels w : List ℤ} (call : Accepted s picture levels w) (bytes : Bytes picture) where
  abbrev p : Level
  p = pixels s.columns picture

  abbrev pub loaded : List ℤ
  loaded = splice (start s 0) (map pos picture) w

  abbrev pub averaged : List ℤ
  averaged = in_work s (average s p) w

  loaded_end : start s 0 + length (map pos picture) ≡ total s
  loaded_end = rw (length-map, call.sized.picture_is) (picture_nodes s call.law)

  read_loaded : EachNode s 0 (λ i j. read_levels s loaded 0 i j ≡ p i j)
  unfolding read_levels pixels
  read_loaded i j hi hj =
      get_or-splice (start s 0) (map pos picture) w (pos 0) (j * columns_at s 0 + i) (omega (arith, picture_nodes s call.law, call.sized.work_least))
      (omega (arith, loaded_end, start_bottom s, inside {columns = columns_at s 0} {rows = rows_at s 0} hi hj))
      ∙ get_or-map pos picture (j * columns_at s 0 + i) 0
      ∙ rw (picture_wide s call.law)

  loaded-same : (l : ℕ) → l ≤ s.depth → EachNode s l (λ i j. average s (read_levels s loaded 0) l i j ≡ average s p l i j)
  loaded-same = average-same s call.law (read_levels s loaded 0) p read_loaded

  pub loaded_ranges : CodingRanges s OpenLoop (average s (read_levels s loaded 0))
  loaded_ranges = ranges_like s call.law picture bytes OpenLoop (average s (read_levels s loaded 0)) loaded-same

  -- the averages of what is loaded, put over it
  pub averages_placed : splice 0 (all_levels s (average s (read_levels s loaded 0))) loaded ≡ averaged
  averages_placed =
      ap (λ (xs : List ℤ). splice 0 xs loaded) (stack_same s (average s (read_levels s loaded 0)) (average s p) s.depth (λ l i j h. loaded-same l h i j))
      ∙ splice_over 0 (all_levels s (average s p)) (start s 0) (map pos picture) w (omega (arith, loaded_end, call.sized.work_least)) (omega arith) (omega (arith, loaded_end, length-all s (average s p)))
      ∙ front_all s (average s p) w

  read_averages : (l : ℕ) → l ≤ s.depth → EachNode s l (λ i j. read_levels s averaged l i j ≡ average s p l i j)
  read_averages l h i j hi hj = read_front s (average s p) w l i j h hi hj

  -- in a manner
  module _ (manner : Manner) where
    pub averages_codable : Codable s manner levels averaged
    averages_codable = record {
      law = call.law;
      filled = call.sized.levels_is;
      long = simp (length-append, length-all s (average s p)) (omega arith);
      ranges = ranges_like s call.law picture bytes manner (read_levels s averaged) read_averages;
    }

    -- the indices that are made of these averages, and what is kept in their place
    pub indices_placed : all_levels s (index s manner (read_levels s averaged)) ≡ all_levels s (index s manner (average s p))
    indices_placed =
        stack_same s (index s manner (read_levels s averaged)) (index s manner (average s p)) s.depth
        (λ l i j h. index-same s call.law (read_levels s averaged) (average s p) read_averages manner l h i j)

    pub kept_placed : splice 0 (all_levels s (reference s manner (read_levels s averaged))) averaged ≡ in_work s (reference s manner (average s p)) w
    kept_placed =
        ap (λ (xs : List ℤ). splice 0 xs averaged)
        (stack_same s (reference s manner (read_levels s averaged)) (reference s manner (average s p)) s.depth
        (λ l i j h. reference-same s call.law (read_levels s averaged) (average s p) read_averages manner l h i j))
        ∙ ap (splice 0 (all_levels s (reference s manner (average s p)))) (sym (front_all s (average s p) w))
        ∙ splice_over 0 (all_levels s (reference s manner (average s p))) 0 (all_levels s (average s p)) w
        (omega (arith, length-all s (average s p), call.sized.work_least)) (omega arith)
        (omega (arith, length-all s (average s p), length-all s (reference s manner (average s p))))
        ∙ front_all s (reference s manner (average s p)) w

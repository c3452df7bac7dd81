-- What coding and rebuilding answer, and what they leave in every lent buffer (document 01, "Buffers" and "Who can cause which refusal";
-- document 02, P4). Assumes nothing.
use Rattle.std.specs.Prelude.{List, ◌++◌, ℕ, zero, suc, ℤ, drop}
use Rattle.pyramid.specs.declared.Settings.{Settings}
use Rattle.pyramid.specs.declared.Manner.{Manner}
use Rattle.pyramid.specs.Definitions.Sizes.{total}
use Rattle.pyramid.specs.Definitions.Pyramid.{average}
use Rattle.pyramid.specs.Definitions.Rebuilding.{rebuilt, clamp}
use Rattle.pyramid.specs.Definitions.Manners.{reference, index}
use Rattle.pyramid.specs.Definitions.Buffers.{raster, pixels, all_levels, read_levels}
use Rattle.pyramid.specs.Definitions.Refusals.{coding_refusal, rebuilding_refusal}

-- what is lent holds the new contents where the answer is 0, and what it held before where the answer is a refusal
unfoldable pub leaves : {A : Type 0} → ℕ → A → A → A
leaves zero new old = new
leaves (suc number) new old = old

pub record CodingOutcome : Type 0 where
  pub answer : ℕ
  pub levels : List ℤ
  pub work : List ℤ

pub record RebuildingOutcome : Type 0 where
  pub answer : ℕ
  pub picture : List ℕ
  pub work : List ℤ

module _ (s : Settings) where
  -- values of all levels in the first T places of the work buffer; places after T keep their contents
  abbrev pub in_work : (ℕ → ℕ → ℕ → ℤ) → List ℤ → List ℤ
  in_work f work = all_levels s f ++ drop (total s) work

  -- coding of a picture in a manner, lent a level buffer and a work buffer: its indices in the one and, in the other, g of all levels, or
  -- closed-loop the rebuilt values of all levels
  unfoldable pub coding : Manner → List ℕ → List ℤ → List ℤ → CodingOutcome
  coding manner picture levels work =
      let answer = coding_refusal s picture levels work in
      let g = average s (pixels s.columns picture) in
      record {
        answer = answer;
        levels = leaves answer (all_levels s (index s manner g)) levels;
        work = leaves answer (in_work (reference s manner g) work) work;
      }

  -- rebuilding from a level buffer, lent a picture and a work buffer
  unfoldable pub rebuilding : List ℤ → List ℕ → List ℤ → RebuildingOutcome
  rebuilding levels picture work =
      let answer = rebuilding_refusal s levels picture work in
      let r = rebuilt s (read_levels s levels) in
      record {
        answer = answer;
        picture = leaves answer (raster s.columns s.rows (λ i j. clamp s (r 0 i j))) picture;
        work = leaves answer (in_work r work) work;
      }

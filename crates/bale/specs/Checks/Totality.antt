-- Reading is total (document 01, "Who can cause which refusal"): every list of bytes has one answer, and it is one of the reader's numbers;
-- 6 and the numbers of the shape are given on their conditions and on no other (document 02, P1 and P5). Assumes nothing.
use Rattle.std.specs.Prelude.{◌≡◌, ◌↔◌, ◌≢◌, ◌⊎◌, List, ℕ, ◌+◌, ◌*◌, ◌≤◌, T, length}
use Rattle.pyramid.specs.Definitions.Sizes.{total}
use Rattle.pyramid.specs.Definitions.Refusals.{shape_refusal}
use Rattle.pyramid.specs.Checks.Numbers.{one_of, Answers, shape_numbers}
use Rattle.bale.specs.Definitions.Words.{u16_at}
use Rattle.bale.specs.Definitions.Files.{shape_count}
use Rattle.bale.specs.Definitions.Reader.{settings_in, shape_section_refusal}
use Rattle.bale.specs.Definitions.Calls.{read_refusal, check_refusal}
use Rattle.bale.specs.Checks.Numbers.{check_numbers, read_numbers}

-- the shape section is whole, its count is the one that goes with the black and the white in it, and n is the number of the first rule that
-- the shape in it breaks
pub record ShapeGives (bytes : List ℕ) (n : ℕ) : Type 0 where
  pub whole : 2 + 2 * shape_count (settings_in bytes) ≤ length bytes
  pub counted : u16_at bytes 0 ≡ shape_count (settings_in bytes)
  pub gives : shape_refusal (settings_in bytes) ≡ n

pub record ReadingIsTotal (bytes : List ℕ) : Type 0 where
  pub checked : Answers check_numbers (check_refusal bytes)
  pub read : (places : ℕ) → Answers read_numbers (read_refusal bytes places)
  -- the two readers differ in 6 alone, which comes right after the shape section and only where the level buffer has not T places
  pub differ : (places : ℕ) → (read_refusal bytes places ≡ 6) ⊎ (read_refusal bytes places ≡ check_refusal bytes)
  pub six : (places : ℕ) → (read_refusal bytes places ≡ 6) ↔ ((shape_section_refusal bytes ≡ 0) × (places ≢ total (settings_in bytes)))
  -- each of the shape's numbers, by either reader
  pub shape_checked : (n : ℕ) → T (one_of shape_numbers n) → (check_refusal bytes ≡ n) ↔ ShapeGives bytes n
  pub shape_read : (places n : ℕ) → T (one_of shape_numbers n) → (read_refusal bytes places ≡ n) ↔ ShapeGives bytes n

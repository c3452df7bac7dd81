-- The shape section is read in document 02's order (P5): count present (9); count 4 or 6, else 10; items all present (9); six items that say
-- 0 and 255: 10; then the shape's rules. Assumes nothing.
use Rattle.std.specs.Prelude.{◌≡◌, ◌≢◌, not, cond, ◌&&◌, true, List, [], ◌∷◌, ℕ, ◌+◌, ◌*◌, leb, eqb, length}
use Rattle.pyramid.specs.Definitions.Refusals.{unless, first, shape_refusal}
use Rattle.bale.specs.Definitions.Words.{u16_at}
use Rattle.bale.specs.Definitions.Reader.{settings_in, shape_section_refusal}
use Rattle.bale.specs.Definitions.Calls.{check_refusal}

module _ (bytes : List ℕ) where
  abbrev pub count : ℕ
  count = u16_at bytes 0

  -- items 4 and 5, which are black and white
  abbrev pub item : ℕ → ℕ
  item i = u16_at bytes (2 + 2 * i)

  pub record ShapeOrder : Type 0 where
    pub in_order : shape_section_refusal bytes
        ≡ first (unless (leb 2 (length bytes)) 9
        ∷ unless (cond (eqb count 4) true (eqb count 6)) 10
        ∷ unless (leb (2 + 2 * count) (length bytes)) 9
        ∷ unless (not (eqb count 6 && (eqb (item 4) 0 && eqb (item 5) 255))) 10
        ∷ shape_refusal (settings_in bytes)
        ∷ [])
    -- black and white are the items of six, and 0 and 255 of four
    pub six : count ≡ 6 → ((settings_in bytes).black ≡ item 4) × ((settings_in bytes).white ≡ item 5)
    pub four : count ≢ 6 → ((settings_in bytes).black ≡ 0) × ((settings_in bytes).white ≡ 255)

abbrev pub Orders : Type 0
Orders = (bytes : List ℕ) → ShapeOrder bytes

-- 3 by 2, N = 0, six numbers: the kernel, black and white
abbrev pub six_numbers : (kernel black white : ℕ) → List ℕ
six_numbers kernel black white =
    0x06 ∷ 0x00 ∷ 0x03 ∷ 0x00 ∷ 0x02 ∷ 0x00 ∷ 0x00 ∷ 0x00 ∷ kernel ∷ 0x00 ∷ black ∷ 0x00 ∷ white ∷ 0x00 ∷ []

pub record WorkedShapes : Type 0 where
  -- 0 and 255, also with an unlawful kernel; cut within the last number; 1 and 255, after which the bins' count is missing
  pub every_grey : (check_refusal (six_numbers 5 0 255) ≡ 10) × (check_refusal (six_numbers 9 0 255) ≡ 10)
  pub cut : check_refusal (0x06 ∷ 0x00 ∷ 0x03 ∷ 0x00 ∷ 0x02 ∷ 0x00 ∷ 0x00 ∷ 0x00 ∷ 0x05 ∷ 0x00 ∷ 0x00 ∷ 0x00 ∷ 0xFF ∷ []) ≡ 9
  pub lawful : check_refusal (six_numbers 5 1 255) ≡ 9
  -- black that is white, also with an unlawful kernel
  pub equal : (check_refusal (six_numbers 5 16 16) ≡ 19) × (check_refusal (six_numbers 7 16 16) ≡ 2)
  -- the counts 5 and 7
  pub counts : (check_refusal (0x05 ∷ 0x00 ∷ []) ≡ 10) × (check_refusal (0x07 ∷ 0x00 ∷ []) ≡ 10)

-- Each number is given on its condition and on no other (document 02, P2): "The writer looks for 1, 5 and then 8", "the reader's order is 16, 1,
-- 17, 18, 5". The rules are propositions in the document's words, beside the tests that Definitions have. Assumes nothing.
use Rattle.std.specs.Prelude.{◌≡◌, List, [], ◌∷◌, ◌++◌, ℕ, ◌+◌, ◌*◌, ◌≤◌, length}
use Rattle.decimals.specs.Definitions.Text.{decimal}
use Rattle.pyramid.specs.Checks.Conditions.{Rule, Given, size_rule}
use Rattle.pgm.specs.Definitions.Header.{columns_in, rows_in, greatest_in, pixels_place}
use Rattle.pgm.specs.Definitions.Calls.{size_answer, write_pgm, check_pgm, read_pgm}
use Rattle.pgm.specs.Checks.Grammar.{IsPgm}

-- 5: a picture of so many places has one for each pixel
abbrev pub picture_rule : (columns rows places : ℕ) → Rule
picture_rule columns rows places = record { number = 5; says = places ≡ columns * rows }

-- ---- the readers, by what the definitions find in any bytes

-- the header is one of the document's: there are a width, a height, a greatest grey and pixels of which the bytes consist
pub record HasHeader (bytes : List ℕ) : Type 0 where
  pub columns : ℕ
  pub rows : ℕ
  pub greatest : ℕ
  pub pixels : List ℕ
  pub consists : IsPgm bytes columns rows greatest pixels

module _ (bytes : List ℕ) where
  -- as many bytes from the pixels' place on as columns times rows
  abbrev pub check_rules : List Rule
  check_rules =
      record { number = 16; says = HasHeader bytes }
      ∷ size_rule (columns_in bytes) (rows_in bytes)
      ∷ record { number = 17; says = greatest_in bytes ≡ 255 }
      ∷ record { number = 18; says = length bytes ≡ pixels_place bytes + columns_in bytes * rows_in bytes }
      ∷ []

  abbrev pub read_rules : ℕ → List Rule
  read_rules places = check_rules ++ (picture_rule (columns_in bytes) (rows_in bytes) places ∷ [])

-- ---- the readers, by what a header says: nothing here is looked for by a definition

abbrev pub headed_rules : (columns rows greatest : ℕ) → List ℕ → List Rule
headed_rules columns rows greatest pixels =
    size_rule columns rows
    ∷ record { number = 17; says = greatest ≡ 255 }
    ∷ record { number = 18; says = length pixels ≡ columns * rows }
    ∷ []

pub record HeadedConditions (bytes : List ℕ) (columns rows greatest : ℕ) (pixels : List ℕ) : Type 0 where
  pub of_checking : Given (headed_rules columns rows greatest pixels) (check_pgm bytes).refusal
  pub of_reading : (picture : List ℕ)
      → Given (headed_rules columns rows greatest pixels ++ (picture_rule columns rows (length picture) ∷ [])) (read_pgm bytes picture).answer.refusal

-- ---- the writer

-- a file has P5, four white space bytes, three digits of 255, those of width and height, and the pixels
abbrev pub writing_rules : (columns rows places room : ℕ) → List Rule
writing_rules columns rows places room =
    size_rule columns rows
    ∷ picture_rule columns rows places
    ∷ record { number = 8; says = 9 + length (decimal columns) + length (decimal rows) + columns * rows ≤ room }
    ∷ []

-- ---- the calls

pub record PgmConditions : Type 0 where
  pub of_size : (columns rows : ℕ) → Given (size_rule columns rows ∷ []) (size_answer columns rows).refusal
  pub of_writing : (columns rows : ℕ) (picture file : List ℕ)
      → Given (writing_rules columns rows (length picture) (length file)) (write_pgm columns rows picture file).answer.refusal
  pub of_checking : (bytes : List ℕ) → Given (check_rules bytes) (check_pgm bytes).refusal
  pub of_reading : (bytes picture : List ℕ) → Given (read_rules bytes (length picture)) (read_pgm bytes picture).answer.refusal
  pub of_header : (bytes : List ℕ) (columns rows greatest : ℕ) (pixels : List ℕ) → IsPgm bytes columns rows greatest pixels
      → HeadedConditions bytes columns rows greatest pixels

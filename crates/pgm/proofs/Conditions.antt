-- Each number is given on its condition and on no other, since each call looks through rules with their tests. Assumes nothing.
use mathlib.Core.Path.{◌≡◌, refl, sym, ◌∙◌}
use mathlib.Core.Logic.{◌↔◌}
use mathlib.Core.List.{List, [], ◌∷◌, ◌++◌}
use Prim.Native.Nat.{ℕ, ◌+◌, ◌*◌, ◌≤◌}
use native.Mathlib.Nat.{mul_comm}
use native.Mathlib.Omega.{arith}
use lib.Dec.{T, leb, eqb}
use lib.ListN.{length}
use Rattle.decimals.specs.Definitions.Text.{decimal}
use Rattle.pyramid.specs.Definitions.Refusals.{first}
use Rattle.pyramid.proofs.Refusals.{first-last, first_skip, unless_holds}
use Rattle.pyramid.proofs.Rules.{Tested, refusals, first_join, given}
use Rattle.pyramid.proofs.RuleTests.{le_decides, eq_decides}
use Rattle.pyramid.proofs.Conditions.{size_test}
use Rattle.pgm.specs.Definitions.Header.{header_ok, columns_in, rows_in, greatest_in, pixels_place}
use Rattle.pgm.specs.Definitions.Files.{pgm_length}
use Rattle.pgm.specs.Definitions.Calls.{check_refusal, read_refusal, size_in, check_pgm, read_pgm, size_answer, write_refusal, write_pgm}
use Rattle.pgm.specs.Checks.Grammar.{IsPgm, ReadAs}
use Rattle.pgm.specs.Checks.Conditions.{HasHeader, HeadedConditions, PgmConditions}
use Rattle.pgm.proofs.Grammar.{header_rule}
use Rattle.pgm.proofs.Writings.{header_length, pgm_pieces}

-- ---- tests that decide

-- so many are as many as columns times rows, after some
pub count_decides : (columns rows before n : ℕ) → T (eqb n (before + rows * columns)) ↔ (n ≡ before + columns * rows)
count_decides columns rows before n = rw (mul_comm rows columns) (eq_decides n (before + columns * rows))

pub places_decide : (columns rows places : ℕ) → T (eqb places (rows * columns)) ↔ (places ≡ columns * rows)
places_decide columns rows places = rw (mul_comm rows columns) (eq_decides places (columns * rows))

abbrev places_test : (columns rows places : ℕ) → Tested
places_test columns rows places =
    record { number = 5; test = eqb places (rows * columns); says = places ≡ columns * rows; decides = places_decide columns rows places }

pub header_decides : (bytes : List ℕ) → T (header_ok bytes) ↔ HasHeader bytes
header_decides bytes = (
  λ t. record { columns = columns_in bytes; rows = rows_in bytes; greatest = greatest_in bytes; pixels = _; consists = header_rule.read bytes t },
  λ h. (header_rule.only bytes h.columns h.rows h.greatest h.pixels h.consists).ok,
)

pub room_decides : (columns rows room : ℕ)
    → T (leb (pgm_length columns rows) room) ↔ (9 + length (decimal columns) + length (decimal rows) + columns * rows ≤ room)
room_decides columns rows room =
    let same : pgm_length columns rows ≡ 9 + length (decimal columns) + length (decimal rows) + columns * rows =
    omega (arith, pgm_pieces columns rows, header_length columns rows, mul_comm rows columns) in
    rw same (le_decides (9 + length (decimal columns) + length (decimal rows) + columns * rows) room)

-- ---- the readers

module _ (bytes : List ℕ) where
  -- the rules of what is found
  abbrev found_tests : List Tested
  found_tests =
      size_test (columns_in bytes) (rows_in bytes)
      ∷ record { number = 17; test = eqb (greatest_in bytes) 255; says = greatest_in bytes ≡ 255; decides = eq_decides (greatest_in bytes) 255 }
      ∷ record {
        number = 18;
        test = eqb (length bytes) (pixels_place bytes + rows_in bytes * columns_in bytes);
        says = length bytes ≡ pixels_place bytes + columns_in bytes * rows_in bytes;
        decides = count_decides (columns_in bytes) (rows_in bytes) (pixels_place bytes) (length bytes);
      }
      ∷ []

  abbrev pub check_tests : List Tested
  check_tests = record { number = 16; test = header_ok bytes; says = HasHeader bytes; decides = header_decides bytes } ∷ found_tests

  abbrev pub read_tests : ℕ → List Tested
  read_tests places = check_tests ++ (places_test (columns_in bytes) (rows_in bytes) places ∷ [])

  pub check_looks : check_refusal bytes ≡ first (refusals check_tests)
  unfolding check_refusal
  check_looks = refl

  pub read_looks : (places : ℕ) → read_refusal bytes places ≡ first (refusals (read_tests places))
  unfolding read_refusal
  read_looks places = rw check_looks (first_join [] (refusals check_tests) _)

-- ---- the readers, where the bytes consist of a header and pixels

module _ (bytes : List ℕ) (columns rows greatest : ℕ) (pixels : List ℕ) (is : IsPgm bytes columns rows greatest pixels) where
  read_as : ReadAs bytes columns rows greatest pixels
  read_as = header_rule.only bytes columns rows greatest pixels is

  pixels_decide : T (eqb (length bytes) (pixels_place bytes + rows * columns)) ↔ (length pixels ≡ columns * rows)
  pixels_decide =
      let whole = read_as.whole in
      let by = count_decides columns rows (pixels_place bytes) (length bytes) in
      (λ t. omega (arith, by.0 t), λ e. by.1 (omega arith))

  abbrev headed_tests : List Tested
  headed_tests =
      size_test columns rows
      ∷ record { number = 17; test = eqb greatest 255; says = greatest ≡ 255; decides = eq_decides greatest 255 }
      ∷ record {
        number = 18;
        test = eqb (length bytes) (pixels_place bytes + rows * columns);
        says = length pixels ≡ columns * rows;
        decides = pixels_decide;
      }
      ∷ []

  passes : (later : List ℕ) → first (refusals (check_tests bytes) ++ later) ≡ first (refusals (found_tests bytes) ++ later)
  passes later = first_skip _ _ (unless_holds (header_ok bytes) 16 read_as.ok)

  headed : (later : List ℕ) → first (refusals (check_tests bytes) ++ later) ≡ first (refusals headed_tests ++ later)
  headed later = passes later ∙ rw (read_as.columned, read_as.rowed, read_as.greyed)

  headed_conditions : HeadedConditions bytes columns rows greatest pixels
  unfolding check_pgm read_pgm size_in
  headed_conditions = record {
    of_checking = given headed_tests (check_looks bytes ∙ headed []) tt;
    of_reading = λ picture.
        given (headed_tests ++ (places_test columns rows (length picture) ∷ []))
        (read_looks bytes (length picture) ∙ headed _ ∙ rw (read_as.columned, read_as.rowed)) tt;
  }

-- ---- the writer

module _ (columns rows : ℕ) where
  abbrev pub size_tests : List Tested
  size_tests = size_test columns rows ∷ []

  pub size_looks : (size_answer columns rows).refusal ≡ first (refusals size_tests)
  unfolding size_answer
  size_looks = sym (first-last _)

  abbrev pub writing_tests : (places room : ℕ) → List Tested
  writing_tests places room =
      size_test columns rows
      ∷ places_test columns rows places
      ∷ record {
        number = 8;
        test = leb (pgm_length columns rows) room;
        says = 9 + length (decimal columns) + length (decimal rows) + columns * rows ≤ room;
        decides = room_decides columns rows room;
      }
      ∷ []

  pub writing_looks : (places room : ℕ) → write_refusal columns rows places room ≡ first (refusals (writing_tests places room))
  unfolding write_refusal
  writing_looks places room = refl

pub pgm_conditions : PgmConditions
unfolding write_pgm check_pgm read_pgm size_in
pgm_conditions = record {
  of_size = λ columns rows. given (size_tests columns rows) (size_looks columns rows) tt;
  of_writing = λ columns rows picture file.
      given (writing_tests columns rows (length picture) (length file)) (writing_looks columns rows (length picture) (length file)) tt;
  of_checking = λ bytes. given (check_tests bytes) (check_looks bytes) tt;
  of_reading = λ bytes picture. given (read_tests bytes (length picture)) (read_looks bytes (length picture)) tt;
  of_header = headed_conditions;
}

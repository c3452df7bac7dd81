-- What is answered where a rule of a reader is broken, and where none is; and what an accepted size says. Assumes nothing.
use Rattle.std.proofs.Common.{◌≡◌, refl, sym, ap, ◌∙◌, Some, None, Err, Ok, arith}
use mathlib.Core.Logic.{◌≢◌}
use mathlib.Core.Bool.{Bool, true, false}
use mathlib.Core.List.{List, [], ◌∷◌}
use Prim.Native.Nat.{ℕ, ◌+◌, ◌-◌, ◌*◌, ◌≤◌}
use native.Mathlib.Nat.{mul-le-mul}
use borrow.Author.Tests.{eq-eqb, ne_eqb}
use lib.Dec.{T, eqb}
use lib.ListN.{length, take, drop, length-drop}
use lib.Seq.{take_all}
use Rattle.refusals.specs.declared.Refusal.TheVariants.{Header, Greatest, PixelCount, PictureLength}
use Rattle.refusals.specs.Definitions.Outcomes.{outcome}
use Rattle.refusals.proofs.Outcomes.{refuses, accepts}
use Rattle.pyramid.specs.declared.Dimensions.{Dimensions}
use Rattle.pyramid.specs.Definitions.Settings.{size_ok}
use Rattle.pyramid.specs.Definitions.Refusals.{unless, first}
use Rattle.pyramid.specs.Definitions.Answers.{deepest_answer}
use Rattle.pyramid.proofs.ShapeAnswers.{deepest_answer_lem}
use Rattle.pyramid.specs.Checks.Conditions.{SideRule}
use Rattle.pyramid.proofs.Refusals.{first_nil, first_stop, unless_none, unless_fails, answers_skip, answers_fails, answers_passes, leaves_new, leaves_kept}
use Rattle.pyramid.proofs.RuleTests.{size_decides}
use Rattle.pgm.specs.declared.finding.Header.{Header as Found}
use Rattle.pgm.specs.Definitions.Header.{columns_in, rows_in, pixels_place}
use Rattle.pgm.specs.Definitions.Calls.{check_refusal, read_refusal, picture_size, size_in, check_pgm, read_pgm}
use Rattle.pgm.specs.Inner.Found.{header_in, picture_in}
use Rattle.pgm.proofs.Headers.{HeaderThere, header_parts, header_absent, pixels_within}
use Rattle.pgm.proofs.Acceptance.{accepted_file, reading_accepted, reading_is}

-- ---- number 1

-- a size that is accepted
pub record Sized (columns rows : ℕ) : Type 0 where
  pub across : SideRule columns
  pub along : SideRule rows
  pub most : rows * columns ≤ 16641

pub sized : (columns rows : ℕ) → T (size_ok columns rows) → Sized columns rows
sized columns rows t =
    let (across, along) = (size_decides columns rows).0 t in
    record { across = across; along = along; most = mul-le-mul along.1 across.1 }

pub size_accepted : (columns rows : ℕ) → unless (size_ok columns rows) 1 ≡ 0 → Sized columns rows
size_accepted columns rows none = sized columns rows (unless_none (size_ok columns rows) 0 none)

-- number 1 is that of the deepest depth, which is refused on size alone
pub depth_refused : (columns rows : ℕ) → unless (size_ok columns rows) 1 ≡ (deepest_answer columns rows).refusal
depth_refused columns rows = sym (deepest_answer_lem columns rows (deepest_answer columns rows) refl)

pub depth_accepted : (columns rows : ℕ) → (deepest_answer columns rows).refusal ≡ 0 → unless (size_ok columns rows) 1 ≡ 0
depth_accepted columns rows none = depth_refused columns rows ∙ none

pub too_large : (columns rows : ℕ) → (SideRule columns × SideRule rows → ⊥) → 1 ≡ unless (size_ok columns rows) 1
too_large columns rows refused = sym (unless_fails 1 (by_test (size_ok columns rows) (λ t. refused ((size_decides columns rows).0 t))))
  where
    by_test : (t : Bool) → (T t → ⊥) → t ≡ false
    by_test true h = absurd (h tt)
    by_test false h = refl

-- ---- the readers' rules, by what was found in the header; a refusal is alone, whatever the value would be

module _ (bytes : List ℕ) {A : Type 0} (value : A) where
  pub no_header : None ≡ header_in bytes → Err Header ≡ outcome (check_refusal bytes) value
  unfolding check_refusal
  no_header e = refuses value Header (answers_fails {number = 15} _ (header_absent bytes e))

module _ (bytes : List ℕ) {h : Found} (e : Some h ≡ header_in bytes) where
  there : HeaderThere bytes h
  there = header_parts bytes e

  abbrev size_number : ℕ
  size_number = unless (size_ok h.columns h.rows) 1

  -- the pixels start inside the file, or at its end
  pub pixels_inside : h.pixels ≤ length bytes
  pixels_inside = rw there.is (pixels_within bytes there.ok)

  after_header : first (size_number ∷ unless (eqb h.greatest 255) 17 ∷ unless (eqb (length bytes) (h.pixels + h.rows * h.columns)) 18 ∷ []) ≡ check_refusal bytes
  unfolding check_refusal
  after_header = rw there.is (answers_passes 16 _ there.ok)

  pub bad_size : (size_number ≡ 0 → ⊥) → check_refusal bytes ≡ size_number
  bad_size refused = sym after_header ∙ first_stop size_number _ refused

  module _ (sizes : size_number ≡ 0) where
    after_size : first (unless (eqb h.greatest 255) 17 ∷ unless (eqb (length bytes) (h.pixels + h.rows * h.columns)) 18 ∷ []) ≡ check_refusal bytes
    after_size = answers_skip _ refl sizes ∙ after_header

    pub bad_grey : {A : Type 0} (value : A) → h.greatest ≢ 255 → Err Greatest ≡ outcome (check_refusal bytes) value
    bad_grey value other = refuses value Greatest (answers_fails {number = 16} _ (ne_eqb _ _ other) ∙ after_size)

    module _ (grey : h.greatest ≡ 255) {size : ℕ} (long : size ≡ h.rows * h.columns) where
      -- the rest of the file
      abbrev pub pixels : List ℕ
      pixels = take (length bytes - h.pixels) (drop h.pixels bytes)

      rest_is : pixels ≡ drop h.pixels bytes
      rest_is = take_all (length bytes - h.pixels) (drop h.pixels bytes) (omega (arith, length-drop h.pixels bytes))

      whole : h.pixels + length pixels ≡ length bytes
      whole = rw rest_is (omega (arith, length-drop h.pixels bytes, pixels_inside))

      after_grey : first (unless (eqb (length bytes) (h.pixels + size)) 18 ∷ []) ≡ check_refusal bytes
      after_grey = rw long (answers_passes 17 _ (eq-eqb _ _ grey) ∙ after_size)

      pub bad_pixels : {A : Type 0} (value : A) → length pixels ≢ size → Err PixelCount ≡ outcome (check_refusal bytes) value
      bad_pixels value other =
          let wrong : length bytes ≢ h.pixels + size = λ e. other (omega (arith, whole, e)) in
          refuses value PixelCount (answers_fails {number = 17} _ (ne_eqb _ _ wrong) ∙ after_grey)

      pub all_good : length pixels ≡ size → Ok (record { columns = h.columns; rows = h.rows }, pixels) ≡ outcome (check_refusal bytes) (picture_in bytes)
      unfolding picture_in
      all_good same =
          let right : length bytes ≡ h.pixels + size = omega (arith, whole, same) in
          rw (rest_is, there.is) (accepts (picture_in bytes) (sym (sym first_nil ∙ answers_passes 18 _ (eq-eqb _ _ right) ∙ after_grey)))

-- ---- what the readers answer, of a file that is accepted but for the picture

module _ (bytes : List ℕ) (none : check_refusal bytes ≡ 0) {size : Dimensions} {pixels : List ℕ} (is : (size, pixels) ≡ picture_in bytes) where
  size_is : size ≡ record { columns = columns_in bytes; rows = rows_in bytes }
  unfolding picture_in
  size_is = ap (λ (p : Dimensions × List ℕ). p.0) is

  pixels_are : pixels ≡ drop (pixels_place bytes) bytes
  unfolding picture_in
  pixels_are = ap (λ (p : Dimensions × List ℕ). p.1) is

  pub checked : Ok size ≡ outcome (check_pgm bytes).refusal (picture_size (check_pgm bytes))
  unfolding check_pgm size_in outcome
  checked = rw (none, leaves_new 0 (columns_in bytes) 0 refl, leaves_new 0 (rows_in bytes) 0 refl, size_is)

  long : length pixels ≡ rows_in bytes * columns_in bytes
  long = rw pixels_are (omega (arith, length-drop (pixels_place bytes) bytes, (accepted_file bytes none).whole))

  module _ (picture : List ℕ) where
    -- 5, and nothing is touched
    pub picture_refused : length picture ≢ length pixels
        → (Err PictureLength ≡ outcome (read_pgm bytes picture).answer.refusal (picture_size (read_pgm bytes picture).answer)) × (picture ≡ (read_pgm bytes picture).picture)
    unfolding read_pgm read_refusal size_in
    picture_refused other =
        let five : 5 ≡ read_refusal bytes (length picture) = answers_fails {number = 4} _ (ne_eqb _ _ (rw long at other)) ∙ answers_skip _ refl none in
        let some : read_refusal bytes (length picture) ≡ 0 → ⊥ = λ z. omega (arith, five, z) in
        (refuses _ PictureLength five, sym (leaves_kept _ _ _ some))

    pub read : {w : List ℕ} → length picture ≡ length pixels → w ≡ pixels
        → (Ok size ≡ outcome (read_pgm bytes picture).answer.refusal (picture_size (read_pgm bytes picture).answer)) × (w ≡ (read_pgm bytes picture).picture)
    unfolding outcome
    read same copied =
        let e = reading_is bytes picture (reading_accepted bytes (length picture) none (same ∙ long)) in
        rw e (ap Ok size_is, copied ∙ pixels_are)

-- ---- what the reader answers of a file that is refused before the picture is looked at, and that nothing is touched

module _ (bytes picture : List ℕ) (refused : check_refusal bytes ≡ 0 → ⊥) where
  pub stops : read_refusal bytes (length picture) ≡ check_refusal bytes
  unfolding read_refusal
  stops = first_stop _ _ refused

  pub untouched : picture ≡ (read_pgm bytes picture).picture
  unfolding read_pgm
  untouched = sym (leaves_kept _ _ _ (rw (← stops) at refused))

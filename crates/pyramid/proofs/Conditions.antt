-- Each number is given on its condition and on no other, since each call looks through rules with their tests. Assumes nothing.
use mathlib.Core.Path.{◌≡◌, refl, sym, ◌∙◌}
use mathlib.Core.List.{List, [], ◌∷◌, ◌++◌}
use Prim.Native.Nat.{ℕ, ◌*◌, ◌≤◌, ◌<◌}
use lib.Dec.{leb, eqb}
use lib.IntN.{ℤ}
use lib.ListN.{length}
use Rattle.pyramid.specs.declared.Settings.{Settings}
use Rattle.pyramid.specs.Definitions.Settings.{size_ok, depth_ok, divides, kernel_ok, black_white_ok, bin, bins_ok}
use Rattle.pyramid.specs.Definitions.Sizes.{total}
use Rattle.pyramid.specs.Definitions.Refusals.{first, shape_refusal, settings_refusal, buffers_refusal, values_ok, levels_refusal, lent_refusal, pixels_ok, coding_refusal, rebuilding_refusal}
use Rattle.pyramid.specs.Definitions.Calls.{coding, rebuilding}
use Rattle.pyramid.specs.Definitions.Answers.{bounds_answer, nodes_answer, shape_answer, level_size_answer, deepest_answer}
use Rattle.pyramid.specs.Checks.Conditions.{DividesRule, SlotRule, size_rule, pixels_rule, values_rule, Conditions}
use Rattle.pyramid.proofs.Refusals.{first-last}
use Rattle.pyramid.proofs.Rules.{Tested, refusals, first_join, given}
use Rattle.pyramid.proofs.RuleTests.{le_decides, eq_decides, size_decides, depth_decides, divides_decides, kernel_decides, black_white_decides, bins_decide, pixels_decide, values_decide, picture_decides}

-- ---- the rules with their tests, in the order in which they are looked for

abbrev pub size_test : ℕ → ℕ → Tested
size_test columns rows = record { number = 1; test = size_ok columns rows; says = (size_rule columns rows).says; decides = size_decides columns rows }

abbrev pub divides_test : ℕ → ℕ → ℕ → Tested
divides_test number depth side = record { number = number; test = divides depth side; says = DividesRule depth side; decides = divides_decides depth side }

module _ (s : Settings) where
  abbrev pub shape_tests : List Tested
  shape_tests =
      size_test s.columns s.rows
      ∷ record { number = 13; test = depth_ok s.depth; says = s.depth ≤ 6; decides = depth_decides s.depth }
      ∷ divides_test 14 s.depth s.columns
      ∷ divides_test 15 s.depth s.rows
      ∷ record { number = 2; test = kernel_ok s.kernel; says = (3 ≤ s.kernel) × (s.kernel ≤ 6); decides = kernel_decides s }
      ∷ record {
        number = 19;
        test = black_white_ok s.black s.white;
        says = (s.black < s.white) × (s.white ≤ 255);
        decides = black_white_decides s;
      }
      ∷ []

  abbrev pub settings_tests : List Tested
  settings_tests = shape_tests ++ (record { number = 3; test = bins_ok s; says = (l : ℕ) → l < 7 → SlotRule s.depth l (bin s l); decides = bins_decide s } ∷ [])

  abbrev pub levels_test : List ℤ → Tested
  levels_test levels = record { number = 6; test = eqb (length levels) (total s); says = length levels ≡ total s; decides = eq_decides (length levels) (total s) }

  abbrev pub values_test : List ℤ → Tested
  values_test levels = record { number = 11; test = values_ok s levels; says = (values_rule s levels).says; decides = values_decide s levels }

  abbrev pub buffers_tests : List ℕ → List ℤ → List ℤ → List Tested
  buffers_tests picture levels work =
      record {
        number = 5;
        test = eqb (length picture) (s.rows * s.columns);
        says = length picture ≡ s.columns * s.rows;
        decides = picture_decides s (length picture);
      }
      ∷ levels_test levels
      ∷ record { number = 7; test = leb (total s) (length work); says = total s ≤ length work; decides = le_decides (total s) (length work) }
      ∷ []

  abbrev pub levels_tests : List ℤ → List Tested
  levels_tests levels = settings_tests ++ (levels_test levels ∷ values_test levels ∷ [])

  abbrev pub pixels_test : List ℕ → Tested
  pixels_test picture = record { number = 20; test = pixels_ok s picture; says = (pixels_rule s picture).says; decides = pixels_decide s picture }

  abbrev pub lent_tests : List ℕ → List ℤ → List ℤ → List Tested
  lent_tests picture levels work = settings_tests ++ buffers_tests picture levels work

  abbrev pub coding_tests : List ℕ → List ℤ → List ℤ → List Tested
  coding_tests picture levels work = lent_tests picture levels work ++ (pixels_test picture ∷ [])

  abbrev pub rebuilding_tests : List ℤ → List ℕ → List ℤ → List Tested
  rebuilding_tests levels picture work = lent_tests picture levels work ++ (values_test levels ∷ [])

  -- ---- what each call looks through

  pub shape_looks : shape_refusal s ≡ first (refusals shape_tests)
  unfolding shape_refusal
  shape_looks = refl

  pub settings_look : settings_refusal s ≡ first (refusals settings_tests)
  unfolding settings_refusal
  settings_look = rw shape_looks (first_join [] (refusals shape_tests) _)

  pub levels_look : (levels : List ℤ) → levels_refusal s levels ≡ first (refusals (levels_tests levels))
  unfolding levels_refusal
  levels_look levels = rw settings_look (first_join [] (refusals settings_tests) _)

  module _ (picture : List ℕ) (levels work : List ℤ) where
    lent_looks : lent_refusal s (length picture) (length levels) (length work) ≡ first (refusals (lent_tests picture levels work))
    unfolding lent_refusal buffers_refusal
    lent_looks = rw settings_look (first_join [] (refusals settings_tests) _ ∙ first_join (refusals settings_tests) (refusals (buffers_tests picture levels work)) [])

    pub coding_looks : coding_refusal s picture levels work ≡ first (refusals (coding_tests picture levels work))
    unfolding coding_refusal
    coding_looks = rw lent_looks (first_join [] (refusals (lent_tests picture levels work)) _)

    pub rebuilding_looks : rebuilding_refusal s levels picture work ≡ first (refusals (rebuilding_tests levels picture work))
    unfolding rebuilding_refusal
    rebuilding_looks = rw lent_looks (first_join [] (refusals (lent_tests picture levels work)) _)

abbrev pub deepest_tests : ℕ → ℕ → List Tested
deepest_tests columns rows = size_test columns rows ∷ []

pub deepest_looks : (columns rows : ℕ) → (deepest_answer columns rows).refusal ≡ first (refusals (deepest_tests columns rows))
unfolding deepest_answer
deepest_looks columns rows = sym (first-last _)

pub conditions : (s : Settings) → Conditions s
unfolding coding rebuilding bounds_answer nodes_answer shape_answer level_size_answer
conditions s = record {
  of_coding = λ manner picture levels work. given (coding_tests s picture levels work) (coding_looks s picture levels work) tt;
  of_rebuilding = λ levels picture work. given (rebuilding_tests s levels picture work) (rebuilding_looks s picture levels work) tt;
  of_settings = given (settings_tests s) (settings_look s) tt;
  of_levels = λ levels. given (levels_tests s levels) (levels_look s levels) tt;
  of_bounds = λ manner. given (settings_tests s) (settings_look s) tt;
  of_nodes = given (settings_tests s) (settings_look s) tt;
  of_shape = given (shape_tests s) (shape_looks s) tt;
  of_level_size = λ l. given (shape_tests s) (shape_looks s) tt;
  of_deepest = λ columns rows. given (deepest_tests columns rows) (deepest_looks columns rows) tt;
}

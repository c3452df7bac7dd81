-- What the call can answer, on which conditions, and what a refusal holds; ranges by hand. Assumes nothing.
use mathlib.Core.Path.{◌≡◌, refl, sym, ◌∙◌, subst}
use mathlib.Core.Logic.{◌↔◌}
use mathlib.Core.Bool.{Bool, true, false, ◌&&◌}
use mathlib.Core.List.{List, [], ◌∷◌, ◌++◌}
use Prim.Native.Nat.{ℕ, ◌≤◌, ◌<◌}
use native.Mathlib.Omega.{arith}
use lib.Dec.{T, ltb}
use lib.IntN.{ℤ, pos, nat_abs}
use Rattle.pyramid.specs.declared.Settings.{Settings}
use Rattle.pyramid.specs.Definitions.Sizes.{last, columns_at, rows_at}
use Rattle.pyramid.specs.Definitions.Rebuilding.{value_of}
use Rattle.pyramid.specs.Definitions.Buffers.{read_levels}
use Rattle.pyramid.specs.Definitions.Refusals.{first, limit, values_ok}
use Rattle.pyramid.proofs.Refusals.{leaves_kept}
use Rattle.pyramid.proofs.Rules.{Tested, refusals, first_join, given, answered, both_say}
use Rattle.pyramid.proofs.RuleTests.{lt_decides, values_within}
use Rattle.pyramid.proofs.RebuiltValues.{value-is}
use Rattle.pyramid.proofs.Conditions.{settings_tests, levels_test, settings_look}
use Rattle.pixel.specs.Definitions.Windows.{above, range_at, in_window}
use Rattle.pixel.specs.Definitions.Pixel.{windows_alone, window_index, pixel_refusal, pixel_answer}
use Rattle.pixel.specs.Checks.Ranges.{EachColumn, WorkedRanges}
use Rattle.pixel.specs.Checks.Numbers.{PixelNumbers}
use Rattle.pixel.specs.Checks.Conditions.{windows_rule, PixelConditions}
use Rattle.pixel.specs.Checks.Refused.{RefusedPixelsHoldNothing}
use Rattle.pixel.proofs.Ranges.{inside_is}
use Rattle.pixel.proofs.WindowsAlone.{in_index, out_index, alone_read}

-- ---- ranges

pub each_column : EachColumn
unfolding above
each_column z r x = (
  λ t. let (low, high) = (inside_is (above z r) x).0 t in (omega arith, omega arith, omega arith),
  λ h. (inside_is (above z r) x).1 (omega (arith, h.0), omega (arith, h.1, h.2)),
)

pub worked_ranges : WorkedRanges
unfolding range_at above last
worked_ranges = record {
  middle = (refl, refl, refl, refl, refl, refl, refl);
  four = (refl, refl, refl, refl);
  odd = refl;
  first = (refl, refl);
  last = (refl, refl);
}

-- ---- the rules with their tests

module _ (s : Settings) (column row : ℕ) (levels : List ℤ) where
  -- the rule of the indices, of the level buffer with 0 outside the windows
  windows_decide : T (values_ok s (windows_alone s column row levels)) ↔ (windows_rule s column row levels).says
  windows_decide = (
    λ t l i j hl hi hj held.
        subst (λ (v : ℤ). nat_abs v ≤ limit) (value-is s l (read_levels s levels l i j))
        (subst (λ (m : ℤ). nat_abs (value_of s l m) ≤ limit) (alone_read s column row levels l i j hl hi hj ∙ in_index s column row levels l i j held)
        ((values_within s (windows_alone s column row levels)).0 t l i j hl hi hj)),
    λ r. (values_within s (windows_alone s column row levels)).1
        (λ l i j hl hi hj. subst (λ (m : ℤ). nat_abs (value_of s l m) ≤ limit) (sym (alone_read s column row levels l i j hl hi hj))
        (each r l i j hl hi hj (in_window s column row l i j) refl)),
  )
    where
      each : (windows_rule s column row levels).says → (l i j : ℕ) → l ≤ s.depth → i < columns_at s l → j < rows_at s l → (b : Bool) → in_window s column row l i j ≡ b
          → nat_abs (value_of s l (window_index s column row levels l i j)) ≤ limit
      each r l i j hl hi hj true e =
          let held : T (in_window s column row l i j) = subst T (sym e) tt in
          rw (in_index s column row levels l i j held, value-is s l (read_levels s levels l i j)) (r l i j hl hi hj held)
      each r l i j hl hi hj false e = rw (out_index s column row levels l i j e, value-is s l (pos 0)) (omega arith)

  abbrev pixel_tests : List Tested
  pixel_tests =
      settings_tests s
      ++ (levels_test s levels
      ∷ record {
        number = 21;
        test = ltb column s.columns && ltb row s.rows;
        says = (column < s.columns) × (row < s.rows);
        decides = both_say (ltb column s.columns) (ltb row s.rows) (lt_decides column s.columns) (lt_decides row s.rows);
      }
      ∷ record { number = 11; test = values_ok s (windows_alone s column row levels); says = (windows_rule s column row levels).says; decides = windows_decide }
      ∷ [])

  pixel_looks : (pixel_answer s column row levels).refusal ≡ first (refusals pixel_tests)
  unfolding pixel_answer pixel_refusal
  pixel_looks = rw (settings_look s) (first_join [] (refusals (settings_tests s)) _)

pub pixel_conditions : PixelConditions
pixel_conditions s column row levels = given (pixel_tests s column row levels) (pixel_looks s column row levels) tt

pub pixel_numbers : PixelNumbers
pixel_numbers s column row levels = answered (pixel_tests s column row levels) (pixel_looks s column row levels)

pub refused_pixels_hold_nothing : RefusedPixelsHoldNothing
unfolding pixel_answer
refused_pixels_hold_nothing s column row levels refused = (leaves_kept _ _ _ refused, leaves_kept _ _ _ refused)

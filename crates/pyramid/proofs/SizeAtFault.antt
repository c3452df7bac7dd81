-- Which size is at fault: the answers before and now, by the tests in turn, and the deepest depth. Assumes nothing.
use mathlib.Core.Path.{◌≡◌, refl, sym, ap, ◌∙◌}
use mathlib.Core.Logic.{◌↔◌}
use mathlib.Core.Bool.{Bool, true, false, not, cond, ◌&&◌}
use mathlib.Core.List.{[], ◌∷◌}
use Prim.Native.Nat.{ℕ, ◌<◌}
use native.Mathlib.Omega.{arith}
use borrow.Author.Tests.{lt-leb}
use lib.Dec.{T, leb, nleb→lt}
use Rattle.pyramid.specs.declared.Settings.{Settings}
use Rattle.pyramid.specs.Definitions.Settings.{side_ok, size_ok, depth_ok, divides, kernel_ok, black_white_ok, bins_ok}
use Rattle.pyramid.specs.Definitions.Depth.{deepest_depth}
use Rattle.pyramid.specs.Definitions.Refusals.{unless, first, shape_refusal, settings_refusal}
use Rattle.pyramid.specs.Checks.Numbers.{one_of}
use Rattle.pyramid.specs.Checks.Conditions.{size_rule}
use Rattle.pyramid.specs.Checks.SizeAtFault.{new_numbers, before, refusal_before, SizeAtFault}
use Rattle.pyramid.proofs.Depth.{deepest_test}
use Rattle.pyramid.proofs.Rules.{both_say}
use Rattle.pyramid.proofs.RuleTests.{size_decides}

-- ---- by the tests: size, depth, columns, rows, kernel, black and white, bins

abbrev shape_by : (z n c r k g : Bool) → ℕ
shape_by z n c r k g = first (unless z 1 ∷ unless n 13 ∷ unless c 14 ∷ unless r 15 ∷ unless k 2 ∷ unless g 19 ∷ [])

by_tests : (z n c r k g b : Bool)
    → before (first (shape_by z n c r k g ∷ unless b 3 ∷ [])) ≡ first (unless (z && (n && (c && r))) 1 ∷ unless k 2 ∷ unless g 19 ∷ unless b 3 ∷ [])
unfolding first unless
by_tests false n c r k g b = refl
by_tests true false c r k g b = refl
by_tests true true false r k g b = refl
by_tests true true true false k g b = refl
by_tests true true true true false g b = refl
by_tests true true true true true false b = refl
by_tests true true true true true true false = refl
by_tests true true true true true true true = refl

new_by_tests : (z n c r k g : Bool) → one_of new_numbers (shape_by z n c r k g) ≡ (z && not (n && (c && r)))
unfolding first unless
new_by_tests false n c r k g = refl
new_by_tests true false c r k g = refl
new_by_tests true true false r k g = refl
new_by_tests true true true false k g = refl
new_by_tests true true true true false g = refl
new_by_tests true true true true true false = refl
new_by_tests true true true true true true = refl

before_none : (n : ℕ) → before n ≡ 0 → n ≡ 0
before_none n e = cases n (one_of new_numbers n) e
  where
    cases : (n : ℕ) (new : Bool) → cond new 1 n ≡ 0 → n ≡ 0
    cases n true p = absurd (omega (arith, p))
    cases n false p = p

module _ (s : Settings) where
  moved : before (settings_refusal s) ≡ refusal_before s
  unfolding settings_refusal shape_refusal
  moved =
      by_tests (size_ok s.columns s.rows) (depth_ok s.depth) (divides s.depth s.columns) (divides s.depth s.rows) (kernel_ok s.kernel)
      (black_white_ok s.black s.white) (bins_ok s)

  lawful : (settings_refusal s ≡ 0) ↔ (refusal_before s ≡ 0)
  lawful = (λ e. sym moved ∙ ap before e, λ e. before_none (settings_refusal s) (moved ∙ e))

  abbrev deepest_is : ℕ
  deepest_is = deepest_depth s.columns s.rows

  above_decides : T (not (leb s.depth deepest_is)) ↔ (deepest_is < s.depth)
  above_decides = (nleb→lt s.depth deepest_is, λ h. rw (lt-leb s.depth deepest_is h) tt)

  deepest : T (one_of new_numbers (shape_refusal s)) ↔ ((size_rule s.columns s.rows).says × (deepest_is < s.depth))
  unfolding shape_refusal
  deepest =
      rw (
        new_by_tests (size_ok s.columns s.rows) (depth_ok s.depth) (divides s.depth s.columns) (divides s.depth s.rows) (kernel_ok s.kernel) (black_white_ok s.black s.white),
        ← deepest_test s.columns s.rows s.depth,
      )
      (both_say (size_ok s.columns s.rows) (not (leb s.depth deepest_is)) (size_decides s.columns s.rows) above_decides)

pub size_at_fault : SizeAtFault
unfolding shape_refusal size_ok side_ok depth_ok divides kernel_ok black_white_ok unless first
size_at_fault = record {
  moved = moved;
  lawful = lawful;
  deepest = deepest;
  outside = (refl, refl);
  undivided = (refl, (refl, refl));
  deep = (refl, (refl, refl));
  smallest = refl;
}

-- The shape section is read in document 02's order, by its tests. Assumes nothing.
use mathlib.Core.Path.{◌≡◌, refl}
use mathlib.Core.Logic.{◌≢◌}
use mathlib.Core.Bool.{Bool, true, false, not, cond, ◌&&◌}
use mathlib.Core.List.{List, [], ◌∷◌}
use Prim.Native.Nat.{ℕ, ◌+◌, ◌*◌}
use native.Mathlib.Decide.{ℕ_discrete}
use native.Mathlib.Omega.{arith}
use borrow.Author.Tests.{ne_eqb}
use lib.Dec.{leb, eqb}
use lib.ListN.{length}
use Rattle.mathematics.specs.Definitions.Tests.{all_below}
use Rattle.mathematics.specs.Definitions.Tables.{tabulate}
use Rattle.pyramid.specs.Definitions.Settings.{side_ok, depth_ok, divides, kernel_ok, black_white_ok, slot_ok, size_ok, bins_ok}
use Rattle.pyramid.specs.Definitions.Refusals.{unless, first, shape_refusal}
use Rattle.bale.specs.Definitions.Words.{u16_at}
use Rattle.bale.specs.Definitions.Sections.{section_refusal}
use Rattle.bale.specs.Definitions.Files.{shape_count}
use Rattle.bale.specs.Definitions.Reader.{count_in, slot_in, settings_in, shape_section_refusal, bins_section_refusal, body_refusal}
use Rattle.bale.specs.Definitions.Calls.{check_refusal}
use Rattle.bale.specs.Checks.ShapeSection.{item, ShapeOrder, Orders, WorkedShapes}

-- a section of a right count, that count once more, and what follows
by_tests : (present all both : Bool) (shape : ℕ)
    → first (first (unless present 9 ∷ 0 ∷ unless all 9 ∷ []) ∷ unless (not both) 10 ∷ shape ∷ [])
    ≡ first (unless present 9 ∷ 0 ∷ unless all 9 ∷ unless (not both) 10 ∷ shape ∷ [])
unfolding first unless
by_tests true true both shape = refl
by_tests true false both shape = refl
by_tests false all both shape = refl

-- a section of a wrong count
by_count : (present all other : Bool) (shape : ℕ)
    → first (first (unless present 9 ∷ 10 ∷ unless all 9 ∷ []) ∷ 0 ∷ shape ∷ []) ≡ first (unless present 9 ∷ 10 ∷ unless other 9 ∷ 0 ∷ shape ∷ [])
unfolding first unless
by_count true all other shape = refl
by_count false all other shape = refl

six_or : (every : Bool) → eqb 6 (cond every 4 6) ≡ not every
six_or true = refl
six_or false = refl

module _ (bytes : List ℕ) where
  abbrev n : ℕ
  n = u16_at bytes 0

  abbrev both : Bool
  both = eqb (item bytes 4) 0 && eqb (item bytes 5) 255

  module _ (e : n ≡ 6) where
    count_six : count_in bytes ≡ 6
    unfolding count_in
    count_six = rw e refl

    greys_six : ((settings_in bytes).black ≡ item bytes 4) × ((settings_in bytes).white ≡ item bytes 5)
    unfolding settings_in
    greys_six = (rw count_six refl, rw count_six refl)

    counted_six : shape_count (settings_in bytes) ≡ cond both 4 6
    unfolding shape_count
    counted_six = rw (greys_six.0, greys_six.1) refl

  module _ (e : n ≢ 6) where
    count_four : count_in bytes ≡ 4
    unfolding count_in
    count_four = rw (ne_eqb _ _ e) refl

    greys_four : ((settings_in bytes).black ≡ 0) × ((settings_in bytes).white ≡ 255)
    unfolding settings_in
    greys_four = (rw count_four refl, rw count_four refl)

    counted_four : shape_count (settings_in bytes) ≡ 4
    unfolding shape_count
    counted_four = rw (greys_four.0, greys_four.1) refl

  abbrev Order : Type 0
  Order =
      shape_section_refusal bytes
      ≡ first (unless (leb 2 (length bytes)) 9
      ∷ unless (cond (eqb n 4) true (eqb n 6)) 10
      ∷ unless (leb (2 + 2 * n) (length bytes)) 9
      ∷ unless (not (eqb n 6 && both)) 10
      ∷ shape_refusal (settings_in bytes)
      ∷ [])

  six : n ≡ 6 → Order
  unfolding shape_section_refusal section_refusal unless
  six e = rw (count_six e, counted_six e, six_or both, e) (by_tests (leb 2 (length bytes)) (leb 14 (length bytes)) both (shape_refusal (settings_in bytes)))

  four : n ≡ 4 → Order
  unfolding shape_section_refusal section_refusal unless
  four e =
      let other : n ≢ 6 = λ f. absurd (omega (arith, e, f)) in
      rw (count_four other, counted_four other, e) (by_tests (leb 2 (length bytes)) (leb 10 (length bytes)) false (shape_refusal (settings_in bytes)))

  neither : n ≢ 4 → n ≢ 6 → Order
  unfolding shape_section_refusal section_refusal unless
  neither f g =
      rw (count_four g, counted_four g, ne_eqb _ _ f, ne_eqb _ _ g)
      (by_count (leb 2 (length bytes)) (leb 10 (length bytes)) (leb (2 + 2 * n) (length bytes)) (shape_refusal (settings_in bytes)))

  order : ShapeOrder bytes
  order = record {
    in_order = elim (ℕ_discrete n 6) [ yes e ↦ six e | no g ↦ elim (ℕ_discrete n 4) [ yes e ↦ four e | no f ↦ neither f g ] ];
    six = greys_six;
    four = greys_four;
  }

pub orders : Orders
orders bytes = order bytes

pub worked_shapes : WorkedShapes
unfolding all_below tabulate side_ok depth_ok divides kernel_ok black_white_ok slot_ok size_ok bins_ok unless first shape_refusal u16_at section_refusal shape_count count_in slot_in settings_in shape_section_refusal bins_section_refusal body_refusal check_refusal
worked_shapes = record {
  every_grey = (refl, refl);
  cut = refl;
  lawful = refl;
  equal = (refl, refl);
  counts = (refl, refl);
}

-- What is answered for a pixel: each rule's number where those before it hold, and the pixel where all do. Assumes nothing.
use mathlib.Core.Path.{◌≡◌, refl, sym, ap, ◌∙◌}
use mathlib.Core.Logic.{◌↔◌}
use mathlib.Core.Bool.{Bool, false, ◌&&◌}
use mathlib.Core.List.{List, [], ◌∷◌}
use Prim.Native.Nat.{ℕ, ◌<◌}
use borrow.Author.Tests.{eq-eqb, ne_eqb}
use lib.Ieee.Bits.{is_true}
use Rattle.mathematics.proofs.Tests.{same_test}
use lib.Dec.{T, ltb, eqb, eqb→eq}
use lib.IntN.{ℤ}
use lib.ListN.{length}
use Rattle.pyramid.specs.declared.Settings.{Settings}
use Rattle.pyramid.specs.Definitions.Sizes.{total}
use Rattle.pyramid.specs.Definitions.Rebuilding.{rebuilt, clamp}
use Rattle.pyramid.specs.Definitions.Buffers.{read_levels}
use Rattle.pyramid.specs.Definitions.Refusals.{unless, first, settings_refusal, values_ok}
use Rattle.pyramid.proofs.Rules.{both_say}
use Rattle.pyramid.proofs.RuleTests.{lt_decides}
use Rattle.pyramid.proofs.Refusals.{first_none, first_skip, unless_none, answers_passes, answers_fails, leaves_new, accepted_settings}
use Rattle.pixel.specs.declared.RebuiltPixel.{RebuiltPixel}
use Rattle.pixel.specs.Definitions.Windows.{nodes_read}
use Rattle.pixel.specs.Definitions.Pixel.{windows_alone, pixel_refusal, pixel_answer, answered}
use Rattle.pixel.specs.Inner.Reading.{LawfulFrom}
use Rattle.pixel.proofs.WindowsAlone.{alone_lawful, pixel_same}

is_false : (b : Bool) → (T b → ⊥) → b ≡ false
is_false b h = same_test b false h (λ t. absurd t)

module _ (s : Settings) (column row : ℕ) where
  abbrev place_ok : Bool
  place_ok = ltb column s.columns && ltb row s.rows

  place_is : T place_ok ↔ ((column < s.columns) × (row < s.rows))
  place_is = both_say (ltb column s.columns) (ltb row s.rows) (lt_decides column s.columns) (lt_decides row s.rows)

  module _ (levels : List ℤ) (settings : settings_refusal s ≡ 0) where
    pub length_refused : (length levels ≡ total s → ⊥) → 6 ≡ pixel_refusal s column row levels
    unfolding pixel_refusal
    length_refused other = answers_fails _ (ne_eqb _ _ other) ∙ sym (first_skip _ _ settings)

    module _ (filled : length levels ≡ total s) where
      pub place_refused : ((column < s.columns) × (row < s.rows) → ⊥) → 21 ≡ pixel_refusal s column row levels
      unfolding pixel_refusal
      place_refused outside =
          answers_fails _ (is_false _ (λ t. outside (place_is.0 t))) ∙ answers_passes 6 _ (eq-eqb _ _ filled) ∙ sym (first_skip _ _ settings)

      module _ (in_columns : column < s.columns) (in_rows : row < s.rows) where
        -- what is left is the rule of the indices
        left : first (unless (values_ok s (windows_alone s column row levels)) 11 ∷ []) ≡ pixel_refusal s column row levels
        unfolding pixel_refusal
        left =
            answers_passes 21 _ (is_true _ (place_is.1 (in_columns, in_rows))) ∙ answers_passes 6 _ (eq-eqb _ _ filled) ∙ sym (first_skip _ _ settings)

        pub index_refused : (LawfulFrom s column row levels 0 → ⊥) → 11 ≡ pixel_refusal s column row levels
        index_refused unlawful = answers_fails [] (is_false _ (λ t. unlawful ((alone_lawful s column row in_columns in_rows levels).0 t))) ∙ left

        pub accepted : LawfulFrom s column row levels 0 → 0 ≡ pixel_refusal s column row levels
        unfolding first
        accepted lawful = answers_passes 11 [] (is_true _ ((alone_lawful s column row in_columns in_rows levels).1 lawful)) ∙ left

        pub pixel_answered : LawfulFrom s column row levels 0 → {p : RebuiltPixel} → p.pixel ≡ clamp s (rebuilt s (read_levels s levels) 0 column row)
            → p.read ≡ nodes_read s column row s.depth → p ≡ answered (pixel_answer s column row levels)
        unfolding pixel_answer
        pixel_answered lawful {p} pixel read =
            let none : pixel_refusal s column row levels ≡ 0 = sym (accepted lawful) in
            let value = ap (clamp s) (pixel_same s column row in_columns in_rows (accepted_settings s settings) levels) in
            rw (leaves_new (pixel_refusal s column row levels) (clamp s (rebuilt s (read_levels s (windows_alone s column row levels)) 0 column row)) 0 none, leaves_new (pixel_refusal s column row levels) (nodes_read s column row s.depth) 0 none, value)
            (rw (← pixel, ← read) refl)

-- ---- what an accepted call says

pub record PixelAccepted (s : Settings) (column row : ℕ) (levels : List ℤ) : Type 0 where
  pub settings : settings_refusal s ≡ 0
  pub filled : length levels ≡ total s
  pub place : (column < s.columns) × (row < s.rows)
  pub lawful : T (values_ok s (windows_alone s column row levels))

pub pixel_accepted : (s : Settings) (column row : ℕ) (levels : List ℤ) → pixel_refusal s column row levels ≡ 0 → PixelAccepted s column row levels
unfolding pixel_refusal
pixel_accepted s column row levels e =
    let (settings, e₆) = first_none _ _ e in
    let (six, e₂₁) = first_none _ _ e₆ in
    let (place, e₁₁) = first_none _ _ e₂₁ in
    record {
      settings = settings;
      filled = eqb→eq _ _ (unless_none (eqb (length levels) (total s)) 5 six);
      place = (place_is s column row).0 (unless_none (ltb column s.columns && ltb row s.rows) 20 place);
      lawful = unless_none (values_ok s (windows_alone s column row levels)) 10 (first_none _ _ e₁₁).0;
    }

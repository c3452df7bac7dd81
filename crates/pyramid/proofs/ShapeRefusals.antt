-- The shape's number as the code looks for it, of a size that passes: a depth up to the deepest passes three rules at once; one above it that
-- is neither above 6 nor above the deepest of the columns alone breaks the rows' rule. Assumes nothing.
use mathlib.Core.Path.{◌≡◌, refl, sym, ◌∙◌, subst}
use mathlib.Core.Bool.{Bool, true, false, ◌&&◌}
use mathlib.Core.List.{[], ◌∷◌}
use Prim.Native.Nat.{ℕ, ◌≤◌, ◌<◌}
use borrow.Author.Tests.{le-leb, lt-leb}
use lib.Dec.{T}
use Rattle.pyramid.specs.declared.Settings.{Settings}
use Rattle.pyramid.specs.Definitions.Settings.{size_ok, depth_ok, divides, kernel_ok, black_white_ok}
use Rattle.pyramid.specs.Definitions.Depth.{deepest_depth}
use Rattle.pyramid.specs.Definitions.Refusals.{unless, first, shape_refusal}
use Rattle.pyramid.proofs.Depth.{deepest_test}
use Rattle.pyramid.proofs.Refusals.{answers_fails, answers_passes}

-- ---- tests that are passed together

halves : (a b : Bool) → (a && b) ≡ true → (a ≡ true) × (b ≡ true)
halves true b e = (refl, e)
halves false b e = absurd (subst T (sym e) tt)

same_fails : (a : Bool) → (a && a) ≡ false → a ≡ false
same_fails true e = e
same_fails false e = refl

-- ---- a depth and the deepest of a size

module _ (c r n : ℕ) where
  up_to : n ≤ deepest_depth c r → (depth_ok n && (divides n c && divides n r)) ≡ true
  up_to h = sym (deepest_test c r n) ∙ le-leb n (deepest_depth c r) h

  above : deepest_depth c r < n → (depth_ok n && (divides n c && divides n r)) ≡ false
  above h = sym (deepest_test c r n) ∙ lt-leb n (deepest_depth c r) h

-- ---- the number

module _ (s : Settings) (size : size_ok s.columns s.rows ≡ true) where
  abbrev across : Bool
  across = divides s.depth s.columns

  abbrev along : Bool
  along = divides s.depth s.rows

  pub depth_fails : 6 < s.depth → 13 ≡ shape_refusal s
  unfolding shape_refusal depth_ok
  depth_fails h = answers_fails {number = 12} _ (lt-leb s.depth 6 h) ∙ answers_passes 1 _ size

  module _ (deep : s.depth ≤ 6) where
    depth_holds : depth_ok s.depth ≡ true
    unfolding depth_ok
    depth_holds = le-leb s.depth 6 deep

    pub columns_fail : deepest_depth s.columns s.columns < s.depth → 14 ≡ shape_refusal s
    unfolding shape_refusal
    columns_fail h =
        let c : across ≡ false = same_fails across (rw depth_holds at (above s.columns s.columns s.depth h)) in
        answers_fails {number = 13} _ c ∙ answers_passes 13 _ depth_holds ∙ answers_passes 1 _ size

    pub rows_fail : s.depth ≤ deepest_depth s.columns s.columns → deepest_depth s.columns s.rows < s.depth → 15 ≡ shape_refusal s
    unfolding shape_refusal
    rows_fail h k =
        let c : across ≡ true = (halves across across (halves (depth_ok s.depth) (across && across) (up_to s.columns s.columns s.depth h)).1).0 in
        let r : along ≡ false = rw (depth_holds, c) at (above s.columns s.rows s.depth k) in
        answers_fails {number = 14} _ r ∙ answers_passes 14 _ c ∙ answers_passes 13 _ depth_holds ∙ answers_passes 1 _ size

  pub depth_passes : s.depth ≤ deepest_depth s.columns s.rows → {n : ℕ} → n ≡ first (unless (kernel_ok s.kernel) 2 ∷ unless (black_white_ok s.black s.white) 19 ∷ []) → n ≡ shape_refusal s
  unfolding shape_refusal
  depth_passes h e =
      let (deep, sides) = halves (depth_ok s.depth) (across && along) (up_to s.columns s.rows s.depth h) in
      let (c, r) = halves across along sides in
      e ∙ answers_passes 15 _ r ∙ answers_passes 14 _ c ∙ answers_passes 13 _ deep ∙ answers_passes 1 _ size

-- The tests of a section's count and items, one by one. Assumes nothing.
use mathlib.Core.Path.{◌≡◌, sym, ◌∙◌}
use mathlib.Core.List.{List}
use Prim.Native.Nat.{ℕ, ◌+◌, ◌*◌, ◌≤◌, ◌<◌}
use native.Mathlib.Omega.{arith}
use borrow.Author.Tests.{le-leb, lt-leb, eq-eqb, ne_eqb}
use lib.ListN.{length, get_or, take, drop}
use Rattle.std.proofs.lemmas.List.{get_or-take}
use Rattle.pyramid.proofs.Refusals.{answers_fails, answers_passes}
use Rattle.bale.specs.Definitions.Words.{u16_at}
use Rattle.bale.specs.Definitions.Sections.{section_refusal}
use Rattle.bale.proofs.Sections.{section_accepted}

-- ---- a section: its count is absent, or wrong, or its items are not all there

-- the two bytes of a count and the bytes after them
abbrev pub Cut : List ℕ → List ℕ → List ℕ → Type 0
Cut bytes found items = (found ≡ take 2 bytes) × (items ≡ drop 2 bytes) × (length items + 2 ≡ length bytes)

module _ (bytes : List ℕ) (count size : ℕ) where
  pub count_absent : length bytes < 2 → 9 ≡ section_refusal bytes 0 count size
  unfolding section_refusal
  count_absent h = answers_fails _ (lt-leb _ _ h)

  module _ {found items : List ℕ} (cut : Cut bytes found items) where
    pub there : 2 ≤ length bytes
    there = omega (arith, cut.2)

    module _ {n : ℕ} (e : n ≡ get_or found 0 0 + get_or found 1 0 * 256) where
      pub count_read : n ≡ u16_at bytes 0
      unfolding u16_at
      count_read =
          let low : get_or found 0 0 ≡ get_or bytes 0 0 = rw cut.0 (get_or-take 2 bytes 0 0 (omega arith)) in
          let high : get_or found 1 0 ≡ get_or bytes 1 0 = rw cut.0 (get_or-take 2 bytes 1 0 (omega arith)) in
          omega (arith, e, low, high)

      pub count_wrong : (n ≡ count → ⊥) → 10 ≡ section_refusal bytes 0 count size
      unfolding section_refusal
      count_wrong wrong = answers_fails _ (ne_eqb _ _ (λ w. wrong (count_read ∙ w))) ∙ answers_passes 9 _ (le-leb _ _ there)

      module _ (counted : n ≡ count) where
        pub items_absent : length items < size * count → 9 ≡ section_refusal bytes 0 count size
        unfolding section_refusal
        items_absent short =
            answers_fails _ (lt-leb _ _ (omega (arith, short, cut.2))) ∙ answers_passes 10 _ (eq-eqb _ _ (sym count_read ∙ counted)) ∙ answers_passes 9 _ (le-leb _ _ there)

        pub items_there : size * count ≤ length items → section_refusal bytes 0 count size ≡ 0
        items_there h = section_accepted (record { present = omega (arith, h, cut.2); counted = sym count_read ∙ counted })

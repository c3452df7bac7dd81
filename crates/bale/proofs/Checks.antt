-- Which number is answered first, section by section. Assumes nothing.
use mathlib.Core.Path.{◌≡◌, refl, sym, ap, ◌∙◌}
use mathlib.Core.Bool.{Bool, cond}
use mathlib.Core.List.{List}
use Prim.Native.Nat.{ℕ, zero, suc, ◌+◌, ◌-◌, ◌*◌, ◌/◌, ◌≤◌}
use native.Mathlib.Decide.{ℕ_discrete}
use native.Mathlib.Omega.{arith}
use borrow.Author.Tests.{le-leb, eq-eqb, ne_eqb}
use lib.Dec.{leb, eqb}
use lib.ListN.{length, drop, length-drop}
use Rattle.mathematics.specs.Definitions.Tests.{all}
use Rattle.pyramid.specs.declared.Settings.{Settings}
use Rattle.pyramid.specs.Definitions.Settings.{bin, bins_ok}
use Rattle.pyramid.specs.Definitions.Sizes.{nodes_at}
use Rattle.pyramid.specs.Definitions.Refusals.{unless, index_ok, shape_refusal}
use Rattle.pyramid.proofs.Refusals.{first_stop, first_skip, first-last, first_none, answers_fails, unless_passes}
use Rattle.mathematics.specs.Inner.Splices.{part}
use Rattle.bale.specs.Definitions.Words.{indices_at}
use Rattle.bale.specs.Definitions.Sections.{section_refusal}
use Rattle.bale.specs.Definitions.Files.{shape_count}
use Rattle.bale.specs.Definitions.Reader.{count_in, depth_in, settings_in, bins_place, levels_place, readings_section_refusal, shape_section_refusal, bins_section_refusal, level_section_refusal, level_sections_refusal}
use Rattle.bale.proofs.After.{sections_after}
use Rattle.bale.proofs.WordLists.{indices_whole}
use Rattle.bale.proofs.Sections.{section_whole}

-- ---- the settings that a file holds

module _ (bytes : List ℕ) where
  module _ (none : section_refusal bytes 0 (count_in bytes) 2 ≡ 0) where
    pub shape_miscounted : (count_in bytes ≡ shape_count (settings_in bytes) → ⊥) → 10 ≡ shape_section_refusal bytes
    unfolding shape_section_refusal
    shape_miscounted wrong = answers_fails _ (ne_eqb _ _ wrong) ∙ sym (first_skip _ _ none)

    pub shape_left : count_in bytes ≡ shape_count (settings_in bytes) → shape_section_refusal bytes ≡ shape_refusal (settings_in bytes)
    unfolding shape_section_refusal
    shape_left counted = first_skip _ _ none ∙ first_skip _ _ (unless_passes 10 (eq-eqb _ _ counted)) ∙ first-last _

  module _ (s : Settings) (e : s ≡ settings_in bytes) where
    pub depth_in_lem : s.depth ≡ depth_in bytes
    unfolding settings_in
    depth_in_lem = rw e

    pub readings_in : readings_section_refusal bytes s ≡ readings_section_refusal bytes (settings_in bytes)
    readings_in = ap (readings_section_refusal bytes) e

    pub levels_in_lem : level_sections_refusal bytes s s.depth (levels_place s)
        ≡ level_sections_refusal bytes (settings_in bytes) (depth_in bytes) (levels_place (settings_in bytes))
    levels_in_lem = rw (← e, ← depth_in_lem)

    pub bins_stop : (section_refusal bytes (bins_place s) (s.depth + 1) 2 ≡ 0 → ⊥) → bins_section_refusal bytes ≡ section_refusal bytes (bins_place s) (s.depth + 1) 2
    unfolding bins_section_refusal
    bins_stop = rw (← e, ← depth_in_lem) (first_stop _ _)

    pub bins_left : section_refusal bytes (bins_place s) (s.depth + 1) 2 ≡ 0 → bins_section_refusal bytes ≡ unless (bins_ok s) 3
    unfolding bins_section_refusal
    bins_left none = rw (← e, ← depth_in_lem) (first_skip _ _ none ∙ first-last _)

-- ---- a level's section

pub nodes_here : (s : Settings) (level : ℕ) {nodes : ℕ} → level ≤ s.depth → nodes ≡ cond (leb level s.depth) (nodes_at s level) 0 → nodes ≡ nodes_at s level
nodes_here s level h e = e ∙ rw (le-leb _ _ h)

module _ (bytes : List ℕ) (s : Settings) (level : ℕ) {nodes : ℕ} (n : nodes ≡ nodes_at s level) where
  pub level_stop : (section_refusal bytes 0 nodes 2 ≡ 0 → ⊥) → level_section_refusal bytes s level 0 ≡ section_refusal bytes 0 nodes 2
  unfolding level_section_refusal
  level_stop = rw n (first_stop _ _)

  -- the indices are looked at in the part that holds them
  abbrev indices : List ℕ
  indices = part 2 (2 + 2 * nodes) bytes

  pub level_left : section_refusal bytes 0 nodes 2 ≡ 0 → {test : Bool} → test ≡ all (index_ok (bin s level)) (indices_at indices 0 (length indices / 2))
      → level_section_refusal bytes s level 0 ≡ unless test 11
  unfolding level_section_refusal
  level_left none {test} t =
      let whole = indices_whole bytes 2 nodes (omega (arith, (section_whole none).present)) in
      let same : test ≡ all (index_ok (bin s level)) (indices_at bytes 2 (nodes_at s level)) = t ∙ ap (all (index_ok (bin s level))) whole ∙ rw n in
      let m : section_refusal bytes 0 (nodes_at s level) 2 ≡ 0 = rw n at none in
      rw same (first_skip _ _ m ∙ first-last _)

-- ---- the sections of a level and of those below it

module _ (bytes : List ℕ) (s : Settings) where
  pub levels_stop : (l : ℕ) → (level_section_refusal bytes s l 0 ≡ 0 → ⊥) → level_sections_refusal bytes s l 0 ≡ level_section_refusal bytes s l 0
  unfolding level_sections_refusal
  levels_stop zero = first_stop _ _
  levels_stop (suc l) = first_stop _ _

  next_at : (l : ℕ) → level_section_refusal bytes s l 0 ≡ 0 → (l ≡ 0 → ⊥)
      → level_sections_refusal bytes s (l - 1) (2 + 2 * nodes_at s l) ≡ level_sections_refusal bytes s l 0
  unfolding level_sections_refusal
  next_at zero none some = absurd (some refl)
  next_at (suc l) none some = let p : suc l - 1 ≡ l = omega arith in rw p (sym (first_skip _ _ none ∙ first-last _))

  end_at : (l : ℕ) → level_section_refusal bytes s l 0 ≡ 0 → l ≡ 0
      → level_sections_refusal bytes s l 0 ≡ unless (eqb (length bytes) (2 + 2 * nodes_at s l)) 12
  unfolding level_sections_refusal
  end_at zero none z = first_skip _ _ none ∙ first-last _
  end_at (suc l) none z = absurd (omega arith)

  -- the level is whole, and these are the bytes after its section
  module _ {below : List ℕ} (l : ℕ) (b : below ≡ drop (2 + 2 * nodes_at s l) bytes) (whole : level_section_refusal bytes s l 0 ≡ 0) where
    pub levels_next : (l ≡ 0 → ⊥) → level_sections_refusal below s (l - 1) 0 ≡ level_sections_refusal bytes s l 0
    levels_next some = rw (b, sections_after) (next_at l whole some)

    present : 2 + 2 * nodes_at s l ≤ length bytes
    unfolding level_section_refusal
    present = (section_whole (first_none _ _ whole).0).present

    -- the file ends there where no bytes are left
    ends : eqb (length bytes) (2 + 2 * nodes_at s l) ≡ eqb (length below) 0
    ends =
        let long = ap length b ∙ length-drop (2 + 2 * nodes_at s l) bytes in
        let room = present in
        elim (ℕ_discrete (length below) 0) [
          | yes e ↦ eq-eqb _ _ (omega (arith, e, long, room)) ∙ sym (eq-eqb _ _ e)
          | no w ↦ ne_eqb _ _ (λ e. w (omega (arith, e, long))) ∙ sym (ne_eqb _ _ w)
        ]

    pub levels_end : l ≡ 0 → level_sections_refusal bytes s l 0 ≡ unless (eqb (length below) 0) 12
    levels_end z = end_at l whole z ∙ ap (λ (t : Bool). unless t 12) ends

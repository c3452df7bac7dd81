-- Each number is given on its condition and on no other (document 01, "Who can cause which refusal"; document 02, P1 and P5). The rules are
-- propositions in the documents' words, beside the tests that Definitions have. Assumes nothing.
use Rattle.std.specs.Prelude.{◌≡◌, ◌↔◌, List, [], ◌∷◌, ◌++◌, ℕ, ◌-◌, ◌*◌, ◌%◌, ◌^◌, ◌≤◌, ◌<◌, ℤ, pos, nat_abs, ◌*ℤ◌, length, get_or}
use Rattle.pyramid.specs.declared.Settings.{Settings}
use Rattle.pyramid.specs.declared.Manner.{Manner}
use Rattle.pyramid.specs.Definitions.Settings.{bin}
use Rattle.pyramid.specs.Definitions.Sizes.{columns_at, rows_at, total}
use Rattle.pyramid.specs.Definitions.Buffers.{read_levels}
use Rattle.pyramid.specs.Definitions.Refusals.{settings_refusal, levels_refusal}
use Rattle.pyramid.specs.Definitions.Calls.{coding, rebuilding}
use Rattle.pyramid.specs.Definitions.Answers.{bounds_answer, nodes_answer, shape_answer, level_size_answer, deepest_answer}

-- ---- rules and an answer

-- a rule's number, and what the rule says
pub record Rule : Type 1 where
  pub number : ℕ
  pub says : Type 0

-- rules in their order, after others that say `before`: each number is answered exactly where its rule is broken and all before it hold,
-- and 0 exactly where all hold
unfoldable pub GivenAfter : Type 0 → List Rule → ℕ → Type 0
GivenAfter before [] answer = (answer ≡ 0) ↔ before
GivenAfter before (rule ∷ later) answer = ((answer ≡ rule.number) ↔ (before × ¬ rule.says)) × GivenAfter (before × rule.says) later answer

abbrev pub Given : List Rule → ℕ → Type 0
Given rules answer = GivenAfter (Unit {0}) rules answer

-- ---- what the rules say

-- a side is 2 to 129
abbrev pub SideRule : ℕ → Type 0
SideRule side = (2 ≤ side) × (side ≤ 129)

-- C and R are sides
abbrev pub size_rule : ℕ → ℕ → Rule
size_rule columns rows = record { number = 1; says = SideRule columns × SideRule rows }

-- 2^N divides a side less 1
abbrev pub DividesRule : ℕ → ℕ → Type 0
DividesRule depth side = (side - 1) % 2 ^ depth ≡ 0

-- slots 0 to N hold 1 to 255; slots above N hold 0
pub record SlotRule (depth l n : ℕ) : Type 0 where
  pub upto : l ≤ depth → (1 ≤ n) × (n ≤ 255)
  pub above : depth < l → n ≡ 0

module _ (s : Settings) where
  abbrev pub shape_rules : List Rule
  shape_rules =
      size_rule s.columns s.rows
      ∷ record { number = 13; says = s.depth ≤ 6 }
      ∷ record { number = 14; says = DividesRule s.depth s.columns }
      ∷ record { number = 15; says = DividesRule s.depth s.rows }
      ∷ record { number = 2; says = (3 ≤ s.kernel) × (s.kernel ≤ 6) }
      ∷ record { number = 19; says = (s.black < s.white) × (s.white ≤ 255) }
      ∷ []

  abbrev pub settings_rules : List Rule
  settings_rules = shape_rules ++ (record { number = 3; says = (l : ℕ) → l < 7 → SlotRule s.depth l (bin s l) } ∷ [])

  abbrev pub levels_rule : List ℤ → Rule
  levels_rule levels = record { number = 6; says = length levels ≡ total s }

  -- every index times its bin lies within ±4,096
  abbrev pub values_rule : List ℤ → Rule
  values_rule levels = record {
    number = 11;
    says = (l i j : ℕ) → l ≤ s.depth → i < columns_at s l → j < rows_at s l → nat_abs (read_levels s levels l i j *ℤ pos (bin s l)) ≤ 4096;
  }

  -- every pixel lies between black and white, both ends allowed
  abbrev pub pixels_rule : List ℕ → Rule
  pixels_rule picture = record { number = 20; says = (p : ℕ) → p < length picture → (s.black ≤ get_or picture p 0) × (get_or picture p 0 ≤ s.white) }

  -- what coding and rebuilding look for first
  abbrev pub lent_rules : List ℕ → List ℤ → List ℤ → List Rule
  lent_rules picture levels work =
      settings_rules
      ++ (record { number = 5; says = length picture ≡ s.columns * s.rows }
      ∷ levels_rule levels
      ∷ record { number = 7; says = total s ≤ length work }
      ∷ [])

-- ---- the calls

pub record Conditions (s : Settings) : Type 0 where
  pub of_coding : (manner : Manner) (picture : List ℕ) (levels work : List ℤ)
      → Given (lent_rules s picture levels work ++ (pixels_rule s picture ∷ [])) (coding s manner picture levels work).answer
  pub of_rebuilding : (levels : List ℤ) (picture : List ℕ) (work : List ℤ)
      → Given (lent_rules s picture levels work ++ (values_rule s levels ∷ [])) (rebuilding s levels picture work).answer
  pub of_settings : Given (settings_rules s) (settings_refusal s)
  pub of_levels : (levels : List ℤ) → Given (settings_rules s ++ (levels_rule s levels ∷ values_rule s levels ∷ [])) (levels_refusal s levels)
  pub of_bounds : (manner : Manner) → Given (settings_rules s) (bounds_answer s manner).refusal
  pub of_nodes : Given (settings_rules s) (nodes_answer s).refusal
  pub of_shape : Given (shape_rules s) (shape_answer s).refusal
  pub of_level_size : (l : ℕ) → Given (shape_rules s) (level_size_answer s l).refusal
  -- the deepest depth, on size only
  pub of_deepest : (columns rows : ℕ) → Given (size_rule columns rows ∷ []) (deepest_answer columns rows).refusal

-- Which numbers each call can answer (document 01, "Who can cause which refusal"; document 02, P1 and P5), a row for each call. Assumes nothing.
use Rattle.std.specs.Prelude.{Bool, true, false, cond, List, [], ◌∷◌, ◌++◌, ℕ, T, eqb, ℤ}
use Rattle.pyramid.specs.declared.Settings.{Settings}
use Rattle.pyramid.specs.declared.Manner.{Manner}
use Rattle.pyramid.specs.Definitions.Refusals.{settings_refusal, levels_refusal}
use Rattle.pyramid.specs.Definitions.Calls.{coding, rebuilding}
use Rattle.pyramid.specs.Definitions.Answers.{bounds_answer, nodes_answer, shape_answer, level_size_answer, deepest_answer}

-- n is one of these numbers
abbrev pub one_of : List ℕ → ℕ → Bool
one_of [] n = false
one_of (m ∷ ms) n = cond (eqb n m) true (one_of ms n)

-- the answer is 0, where the call is accepted, or one of these numbers
abbrev pub Answers : List ℕ → ℕ → Type 0
Answers numbers n = T (one_of (0 ∷ numbers) n)

-- a shape; settings, as the bound, T and a file's size look for them
abbrev pub shape_numbers : List ℕ
shape_numbers = 1 ∷ 13 ∷ 14 ∷ 15 ∷ 2 ∷ 19 ∷ []

abbrev pub settings_numbers : List ℕ
settings_numbers = shape_numbers ++ (3 ∷ [])

-- what coding and rebuilding look for first; coding in either manner then looks for 20, rebuilding for 11
abbrev pub lent_numbers : List ℕ
lent_numbers = settings_numbers ++ (5 ∷ 6 ∷ 7 ∷ [])

abbrev pub coding_numbers : List ℕ
coding_numbers = lent_numbers ++ (20 ∷ [])

abbrev pub rebuilding_numbers : List ℕ
rebuilding_numbers = lent_numbers ++ (11 ∷ [])

-- a level buffer alone
abbrev pub levels_numbers : List ℕ
levels_numbers = settings_numbers ++ (6 ∷ 11 ∷ [])

pub record PyramidNumbers (s : Settings) : Type 0 where
  pub of_coding : (manner : Manner) (picture : List ℕ) (levels work : List ℤ) → Answers coding_numbers (coding s manner picture levels work).answer
  pub of_rebuilding : (levels : List ℤ) (picture : List ℕ) (work : List ℤ) → Answers rebuilding_numbers (rebuilding s levels picture work).answer
  pub of_settings : Answers settings_numbers (settings_refusal s)
  pub of_levels : (levels : List ℤ) → Answers levels_numbers (levels_refusal s levels)
  pub of_bounds : (manner : Manner) → Answers settings_numbers (bounds_answer s manner).refusal
  pub of_nodes : Answers settings_numbers (nodes_answer s).refusal
  pub of_shape : Answers shape_numbers (shape_answer s).refusal
  pub of_level_size : (l : ℕ) → Answers shape_numbers (level_size_answer s l).refusal
  -- the deepest depth, on size only
  pub of_deepest : (columns rows : ℕ) → Answers (1 ∷ []) (deepest_answer columns rows).refusal

-- Which size is at fault (document 02, P1): which settings are lawful has not changed, and what 13, 14 and 15 say of the size. Assumes nothing.
use Rattle.std.specs.Prelude.{◌≡◌, ◌↔◌, Bool, cond, ◌&&◌, List, [], ◌∷◌, ℕ, ◌<◌, T, replicate}
use Rattle.pyramid.specs.declared.Settings.{Settings}
use Rattle.pyramid.specs.Definitions.Settings.{size_ok, depth_ok, divides, kernel_ok, black_white_ok, bins_ok}
use Rattle.pyramid.specs.Definitions.Depth.{deepest_depth}
use Rattle.pyramid.specs.Definitions.Refusals.{unless, first, shape_refusal, settings_refusal}
use Rattle.pyramid.specs.Checks.Numbers.{one_of}
use Rattle.pyramid.specs.Checks.Conditions.{SideRule}

abbrev pub new_numbers : List ℕ
new_numbers = 13 ∷ 14 ∷ 15 ∷ []

-- the number that document 01 has where this one is given
abbrev pub before : ℕ → ℕ
before n = cond (one_of new_numbers n) 1 n

module _ (s : Settings) where
  -- document 01's rule for number 1: size, depth and divisibility together
  abbrev pub size_before : Bool
  size_before = size_ok s.columns s.rows && (depth_ok s.depth && (divides s.depth s.columns && divides s.depth s.rows))

  abbrev pub refusal_before : ℕ
  refusal_before = first (unless size_before 1 ∷ unless (kernel_ok s.kernel) 2 ∷ unless (black_white_ok s.black s.white) 19 ∷ unless (bins_ok s) 3 ∷ [])

-- a shape of C columns, R rows and N, as the examples have them
abbrev pub shape_of : ℕ → ℕ → ℕ → Settings
shape_of columns rows depth = record { columns = columns; rows = rows; depth = depth; kernel = 4; black = 0; white = 255; bins = replicate 7 1 }

pub record SizeAtFault : Type 0 where
  -- where document 01 gave 1, one of 1, 13, 14, 15 is given; every other answer has stayed, 0 among them
  pub moved : (s : Settings) → before (settings_refusal s) ≡ refusal_before s
  pub lawful : (s : Settings) → (settings_refusal s ≡ 0) ↔ (refusal_before s ≡ 0)
  -- 13, 14 or 15: the size is lawful, and the depth is above the deepest that it allows
  pub deepest : (s : Settings)
      → T (one_of new_numbers (shape_refusal s)) ↔ ((SideRule s.columns × SideRule s.rows) × (deepest_depth s.columns s.rows < s.depth))
  -- C = 1 and C = 130; C = 4, R = 4 and both, N = 1; N = 7 where 2^7 divides and where it does not, and with C = 1; N = 0 on 2 by 2
  pub outside : (shape_refusal (shape_of 1 3 1) ≡ 1) × (shape_refusal (shape_of 130 3 1) ≡ 1)
  pub undivided : (shape_refusal (shape_of 4 3 1) ≡ 14) × ((shape_refusal (shape_of 3 4 1) ≡ 15) × (shape_refusal (shape_of 4 4 1) ≡ 14))
  pub deep : (shape_refusal (shape_of 129 129 7) ≡ 13) × ((shape_refusal (shape_of 3 3 7) ≡ 13) × (shape_refusal (shape_of 1 129 7) ≡ 1))
  pub smallest : shape_refusal (shape_of 2 2 0) ≡ 0

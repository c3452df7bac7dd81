-- Settings with faults put in break exactly the rules of these faults, so that no set of broken rules is tested by less or by more than it
-- names: every set, in every variant, on the three bases that the programs use. Assumes nothing.
use mathlib.Core.Bool.{Bool, true, false, cond, ◌&&◌}
use mathlib.Core.List.{List, [], ◌∷◌, ◌++◌}
use Prim.Native.Nat.{ℕ}
use lib.Dec.{T, eqb}
use Rattle.mathematics.specs.Definitions.Tests.{all_below}
use Rattle.pyramid.specs.declared.Settings.{Settings}
use Rattle.pyramid.specs.Definitions.Settings.{side_ok, size_ok, depth_ok, divides, kernel_ok, black_white_ok, slot_ok, bins_ok}
use Rattle.refusals.specs.declared.Refusal.{Refusal}
use Rattle.refusals.specs.declared.Refusal.TheVariants.{Size, Kernel, Bin, Depth, Columns, Rows, BlackWhite}
use Rattle.refusals.specs.Definitions.Numbers.{number}
use Rattle.test_support.specs.Definitions.FaultSets.{chosen, variant_at}
use Rattle.test_support.specs.Definitions.FaultySettings.{with_faults}

abbrev fails : Bool → Refusal → List Refusal
fails holds refusal = cond holds [] (refusal ∷ [])

-- the settings' rules that are broken, each looked at by itself
abbrev broken : Settings → List Refusal
broken s =
    fails (size_ok s.columns s.rows) Size
    ++ (fails (depth_ok s.depth) Depth
    ++ (fails (divides s.depth s.columns) Columns
    ++ (fails (divides s.depth s.rows) Rows
    ++ (fails (kernel_ok s.kernel) Kernel ++ (fails (black_white_ok s.black s.white) BlackWhite ++ fails (bins_ok s) Bin)))))

abbrev same : List Refusal → List Refusal → Bool
same [] [] = true
same [] (r ∷ rs) = false
same (q ∷ qs) [] = false
same (q ∷ qs) (r ∷ rs) = eqb (number q) (number r) && same qs rs

abbrev table : List Refusal
table = Size ∷ Depth ∷ Columns ∷ Rows ∷ Kernel ∷ BlackWhite ∷ Bin ∷ []

abbrev Exact : Settings → Type 0
Exact s = T (all_below 128 (λ set. all_below 4 (λ n. same (broken (with_faults s (chosen set table) (variant_at n))) (chosen set table))))

abbrev base : ℕ → ℕ → ℕ → ℕ → ℕ → List ℕ → Settings
base columns rows depth black white bins = record { columns = columns; rows = rows; depth = depth; kernel = 4; black = black; white = white; bins = bins }

-- 9 by 5, N = 2, black 16 and white 235, of test_calls; piece A, 3 by 3, N = 1, black 0 and white 255, of test_files; 5 by 9, N = 2, black 16
-- and white 235, of test_pixels
pub faults_exact : Exact (base 9 5 2 16 235 (3 ∷ 2 ∷ 1 ∷ 0 ∷ 0 ∷ 0 ∷ 0 ∷ [])) × Exact (base 3 3 1 0 255 (10 ∷ 4 ∷ 0 ∷ 0 ∷ 0 ∷ 0 ∷ 0 ∷ []))
    × Exact (base 5 9 2 16 235 (3 ∷ 2 ∷ 1 ∷ 0 ∷ 0 ∷ 0 ∷ 0 ∷ []))
unfolding all_below side_ok size_ok depth_ok divides kernel_ok black_white_ok slot_ok bins_ok
faults_exact = (tt, tt, tt)

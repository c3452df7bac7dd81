-- The deepest depth of a size (document 01, "Settings"): the largest N of 0 to 6 that the size allows. Assumes nothing.
use Rattle.std.specs.Prelude.{Bool, cond, ◌&&◌, ℕ, zero, suc}
use Rattle.pyramid.specs.Definitions.Settings.{divides}

-- the largest of 0 to n at which the test holds, 0 where it holds at none
unfoldable pub largest : ℕ → (ℕ → Bool) → ℕ
largest zero test = 0
largest (suc n) test = cond (test (suc n)) (suc n) (largest n test)

-- C columns and R rows allow depth n
unfoldable pub allows : ℕ → ℕ → ℕ → Bool
allows columns rows n = divides n columns && divides n rows

unfoldable pub deepest_depth : ℕ → ℕ → ℕ
deepest_depth columns rows = largest 6 (allows columns rows)

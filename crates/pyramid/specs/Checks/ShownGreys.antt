-- Every pixel that is shown is a grey that the camera can send (document 02, P5): it lies between black and white, both ends allowed.
-- Assumes nothing.
use Rattle.std.specs.Prelude.{◌≡◌, List, ℕ, ◌≤◌, ◌<◌, ℤ, length, get_or}
use Rattle.pyramid.specs.declared.Settings.{Settings}
use Rattle.pyramid.specs.Definitions.Calls.{rebuilding}

abbrev pub ShownGreys : Type 0
ShownGreys =
    (s : Settings) (levels : List ℤ) (picture : List ℕ) (work : List ℤ) → (rebuilding s levels picture work).answer ≡ 0 → (p : ℕ) → p < length picture
    → (s.black ≤ get_or (rebuilding s levels picture work).picture p 0) × (get_or (rebuilding s levels picture work).picture p 0 ≤ s.white)

-- One pixel is the full rebuilding's, and nothing outside the windows matters (document 02, P6). Assumes nothing.
use Rattle.std.specs.Prelude.{◌≡◌, List, ℕ, ◌+◌, ◌*◌, ◌≤◌, ◌<◌, T, ℤ, length, get_or}
use Rattle.pyramid.specs.declared.Settings.{Settings}
use Rattle.pyramid.specs.Definitions.Sizes.{columns_at, rows_at, total}
use Rattle.pyramid.specs.Definitions.Buffers.{read_levels}
use Rattle.pyramid.specs.Definitions.Calls.{rebuilding}
use Rattle.pixel.specs.Definitions.Windows.{in_window}
use Rattle.pixel.specs.Definitions.Pixel.{windows_alone, pixel_answer}

-- wherever the full rebuilding is accepted, with buffers of any length and contents, a pixel inside the picture is not refused, and it is the one
-- at its place in the rebuilt picture
abbrev pub FullRebuilding : Type 0
FullRebuilding =
    (s : Settings) (levels : List ℤ) (picture : List ℕ) (work : List ℤ) (column row : ℕ)
    → (rebuilding s levels picture work).answer ≡ 0 → column < s.columns → row < s.rows
    → ((pixel_answer s column row levels).refusal ≡ 0)
    × ((pixel_answer s column row levels).pixel ≡ get_or (rebuilding s levels picture work).picture (row * s.columns + column) 0)

-- wherever the pixel is not refused, the full rebuilding of the levels with every index outside the windows taken as 0 is accepted, and has it at its place
abbrev pub WindowsAlone : Type 0
WindowsAlone =
    (s : Settings) (levels : List ℤ) (picture : List ℕ) (work : List ℤ) (column row : ℕ)
    → (pixel_answer s column row levels).refusal ≡ 0 → length picture ≡ s.rows * s.columns → total s ≤ length work
    → ((rebuilding s (windows_alone s column row levels) picture work).answer ≡ 0)
    × ((pixel_answer s column row levels).pixel ≡ get_or (rebuilding s (windows_alone s column row levels) picture work).picture (row * s.columns + column) 0)

-- two level buffers of T places that agree inside the windows have the same whole answer, refusals too
abbrev pub NothingOutside : Type 0
NothingOutside =
    (s : Settings) (column row : ℕ) (levels other : List ℤ) → length levels ≡ total s → length other ≡ total s
    → ((l i j : ℕ) → l ≤ s.depth → i < columns_at s l → j < rows_at s l → T (in_window s column row l i j) → read_levels s levels l i j ≡ read_levels s other l i j)
    → pixel_answer s column row levels ≡ pixel_answer s column row other

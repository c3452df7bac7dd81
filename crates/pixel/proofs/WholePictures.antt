-- The pixel is the full rebuilding's, of the levels and of those with 0 outside the windows; and nothing outside matters. Assumes nothing.
use mathlib.Core.Path.{◌≡◌, refl, sym, ap, ◌∙◌, subst}
use mathlib.Core.Bool.{Bool, true, false}
use mathlib.Core.List.{List}
use Prim.Native.Nat.{ℕ, ◌+◌, ◌*◌, ◌≤◌, ◌<◌}
use lib.Dec.{T}
use lib.IntN.{ℤ}
use lib.ListN.{length, get_or}
use Rattle.pyramid.specs.declared.Settings.{Settings}
use Rattle.pyramid.specs.Definitions.Sizes.{columns_at, rows_at, total}
use Rattle.pyramid.specs.Definitions.Rebuilding.{rebuilt, clamp}
use Rattle.pyramid.specs.Definitions.Buffers.{raster, read_levels}
use Rattle.pyramid.specs.Definitions.Refusals.{settings_refusal, values_ok, lent_refusal, rebuilding_refusal}
use Rattle.pyramid.specs.Definitions.Calls.{rebuilding}
use Rattle.pyramid.specs.Inner.Accepted.{Accepted}
use Rattle.pyramid.proofs.Buffers.{raster_at, length-all, stack_same}
use Rattle.pyramid.proofs.RuleTests.{values_within}
use Rattle.pyramid.proofs.Refusals.{first_none, accepted_rebuilding, rebuilding_lengths, buffers_accepted, leaves_new}
use Rattle.pixel.specs.Definitions.Windows.{in_window}
use Rattle.pixel.specs.Definitions.Pixel.{window_index, windows_alone, pixel_refusal, pixel_answer}
use Rattle.pixel.specs.Inner.Reading.{LawfulFrom}
use Rattle.pixel.specs.Theorems.FullRebuilding.{FullRebuilding, WindowsAlone, NothingOutside}
use Rattle.pixel.proofs.WindowsAlone.{in_index, out_index, node_inside, pixel_same}
use Rattle.pixel.proofs.PixelAnswers.{accepted, PixelAccepted, pixel_accepted}

-- a pixel of the full rebuilding, where it is accepted
rebuilt_pixel : (s : Settings) (levels : List ℤ) (picture : List ℕ) (work : List ℤ) (column row : ℕ) → (rebuilding s levels picture work).answer ≡ 0
    → column < s.columns → row < s.rows
    → get_or (rebuilding s levels picture work).picture (row * s.columns + column) 0 ≡ clamp s (rebuilt s (read_levels s levels) 0 column row)
unfolding rebuilding
rebuilt_pixel s levels picture work column row ok in_columns in_rows =
    rw (leaves_new _ (raster s.columns s.rows (λ i j. clamp s (rebuilt s (read_levels s levels) 0 i j))) picture ok)
    (raster_at s.columns s.rows (λ i j. clamp s (rebuilt s (read_levels s levels) 0 i j)) 0 column row in_columns in_rows)

-- what it says
rebuilding_says : (s : Settings) (levels : List ℤ) (picture : List ℕ) (work : List ℤ) → (rebuilding s levels picture work).answer ≡ 0
    → Accepted s picture levels work × T (values_ok s levels)
unfolding rebuilding
rebuilding_says s levels picture work ok = accepted_rebuilding s levels picture work ok

settings_none : (s : Settings) (levels : List ℤ) (picture : List ℕ) (work : List ℤ) → (rebuilding s levels picture work).answer ≡ 0 → settings_refusal s ≡ 0
unfolding rebuilding rebuilding_refusal lent_refusal
settings_none s levels picture work ok = (first_none _ _ (first_none _ _ ok).0).0

pub full_rebuilding : FullRebuilding
unfolding pixel_answer
full_rebuilding s levels picture work column row ok in_columns in_rows =
    let (a, t) = rebuilding_says s levels picture work ok in
    let settings = settings_none s levels picture work ok in
    let lawful : LawfulFrom s column row levels 0 = λ k i j hl hk held. let (hi, hj) = node_inside s column row in_columns in_rows k i j held in (values_within s levels).0 t k i j hk hi hj in
    let none : pixel_refusal s column row levels ≡ 0 = sym (accepted s column row levels settings a.sized.levels_is in_columns in_rows lawful) in (
      none,
      leaves_new _ _ 0 none ∙ ap (clamp s) (pixel_same s column row in_columns in_rows a.law levels)
          ∙ sym (rebuilt_pixel s levels picture work column row ok in_columns in_rows),
    )

-- the full rebuilding of the levels with 0 outside the windows
alone_accepted : (s : Settings) (column row : ℕ) (levels : List ℤ) (picture : List ℕ) (work : List ℤ) → PixelAccepted s column row levels
    → length picture ≡ s.rows * s.columns → total s ≤ length work → (rebuilding s (windows_alone s column row levels) picture work).answer ≡ 0
unfolding rebuilding
alone_accepted s column row levels picture work a picture_is work_least =
    rebuilding_lengths s (windows_alone s column row levels) picture work a.settings a.lawful
    ∙ buffers_accepted s (record { picture_is = picture_is; levels_is = length-all s (window_index s column row levels); work_least = work_least })

pub windows_are_alone : WindowsAlone
unfolding pixel_answer
windows_are_alone s levels picture work column row none picture_is work_least =
    let a = pixel_accepted s column row levels none in
    let alone : List ℤ = windows_alone s column row levels in
    let whole : (rebuilding s alone picture work).answer ≡ 0 = alone_accepted s column row levels picture work a picture_is work_least in
    (whole, leaves_new _ _ 0 none ∙ sym (rebuilt_pixel s alone picture work column row whole a.place.0 a.place.1))

pub nothing_outside : NothingOutside
unfolding pixel_answer pixel_refusal
nothing_outside s column row levels other filled other_filled same =
    let alone : windows_alone s column row levels ≡ windows_alone s column row other =
    stack_same s (window_index s column row levels) (window_index s column row other) s.depth (λ l i j hl hi hj. node l i j hl hi hj (in_window s column row l i j) refl) in
    rw (filled, other_filled, alone) refl
  where
    node : (l i j : ℕ) → l ≤ s.depth → i < columns_at s l → j < rows_at s l → (b : Bool) → in_window s column row l i j ≡ b
        → window_index s column row levels l i j ≡ window_index s column row other l i j
    node l i j hl hi hj true e =
        let held : T (in_window s column row l i j) = subst T (sym e) tt in
        in_index s column row levels l i j held ∙ same l i j hl hi hj held ∙ sym (in_index s column row other l i j held)
    node l i j hl hi hj false e = out_index s column row levels l i j e ∙ sym (out_index s column row other l i j e)

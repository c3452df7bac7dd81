-- The clamp of the final picture: it stays between black and white, and brings a value nearer to every pixel between these, as all are that an
-- accepted coding codes. Assumes nothing.
use mathlib.Core.Path.{◌≡◌}
use mathlib.Core.Bool.{◌&&◌}
use mathlib.Core.List.{List}
use Prim.Native.Nat.{ℕ, ◌≤◌, ◌<◌}
use native.Mathlib.Decide.{dec_lt}
use native.Mathlib.Omega.{arith}
use lib.Dec.{T, leb}
use lib.IntN.{ℤ, pos, negsuc}
use lib.ListN.{length, get_or, get_or-eq_default}
use Rattle.mathematics.specs.Definitions.Distances.{distance}
use Rattle.mathematics.proofs.Distance.{Near, near_pos, near_negative}
use Rattle.pyramid.specs.declared.Settings.{Settings}
use Rattle.pyramid.specs.Definitions.Rebuilding.{rebuilt, clamp}
use Rattle.pyramid.specs.Definitions.Buffers.{Bytes, read_levels}
use Rattle.pyramid.specs.Definitions.Refusals.{pixels_ok, coding_refusal}
use Rattle.pyramid.specs.Definitions.Calls.{rebuilding}
use Rattle.pyramid.specs.Inner.Lawful.{BlackWhite}
use Rattle.pyramid.specs.Checks.ShownGreys.{ShownGreys}
use Rattle.pyramid.proofs.Buffers.{all-raster, length-raster}
use Rattle.pyramid.proofs.Refusals.{accepted_coding, accepted_pixels, accepted_rebuilding, leaves_new}
use Rattle.pyramid.proofs.RuleTests.{pixel_decides, pixels_decide}

module _ (s : Settings) where
  pub clamp_near : {e n : ℕ} (x : ℤ) → Near e x (pos n) → s.black ≤ n → n ≤ s.white → distance (clamp s x) n ≤ e
  unfolding clamp
  clamp_near (pos m) near h k = let (a, b) = near_pos near in omega arith
  clamp_near (negsuc m) near h k = let b = near_negative near in omega arith

  clamp_between : BlackWhite s.black s.white → (x : ℤ) → (s.black ≤ clamp s x) × (clamp s x ≤ s.white)
  unfolding clamp
  clamp_between greys (pos n) = (omega arith, omega (arith, greys.below))
  clamp_between greys (negsuc n) = (omega arith, omega (arith, greys.below))

  -- ---- what is coded

  module _ (picture : List ℕ) (levels work : List ℤ) (ok : coding_refusal s picture levels work ≡ 0) where
    pub coded_pixel : (p : ℕ) → p < length picture → (s.black ≤ get_or picture p 0) × (get_or picture p 0 ≤ s.white)
    coded_pixel = (pixels_decide s picture).0 (accepted_pixels s picture levels work ok)

    pub coded_bytes : Bytes picture
    coded_bytes p = cases (dec_lt p (length picture))
      where
        cases : Dec (p < length picture) → get_or picture p 0 < 256
        cases (yes h) = omega (arith, (coded_pixel p h).1, (accepted_coding s picture levels work ok).law.shaped.greys.most)
        cases (no h) = omega (arith, get_or-eq_default picture 0 {n = p} (omega (arith, h)))

  -- ---- what is shown

  module _ (levels : List ℤ) (picture : List ℕ) (work : List ℤ) (ok : (rebuilding s levels picture work).answer ≡ 0) where
    pub shown_pixels : T (pixels_ok s (rebuilding s levels picture work).picture)
    unfolding rebuilding pixels_ok
    shown_pixels =
        let greys = (accepted_rebuilding s levels picture work ok).0.law.shaped.greys in
        rw (leaves_new _ _ _ ok)
        (all-raster (λ p. leb s.black p && leb p s.white) s.columns s.rows _
        (λ i j hi hj. (pixel_decides s (clamp s (rebuilt s (read_levels s levels) 0 i j))).1 (clamp_between greys (rebuilt s (read_levels s levels) 0 i j))))

    shown_long : length (rebuilding s levels picture work).picture ≡ length picture
    unfolding rebuilding
    shown_long =
        rw (leaves_new _ _ _ ok, (accepted_rebuilding s levels picture work ok).0.sized.picture_is)
        (length-raster s.columns s.rows (λ i j. clamp s (rebuilt s (read_levels s levels) 0 i j)))

    pub shown_pixel : (p : ℕ) → p < length picture
        → (s.black ≤ get_or (rebuilding s levels picture work).picture p 0) × (get_or (rebuilding s levels picture work).picture p 0 ≤ s.white)
    shown_pixel p h = (pixels_decide s (rebuilding s levels picture work).picture).0 shown_pixels p (rw shown_long h)

-- pixels between a black and a white lie between a black that is not above the one and a white that is not below the other
pub pixels_inside : (s t : Settings) (picture : List ℕ) → T (pixels_ok s picture) → t.black ≤ s.black → s.white ≤ t.white → T (pixels_ok t picture)
pixels_inside s t picture ok black white =
    (pixels_decide t picture).1 (λ p h. let (low, high) = (pixels_decide s picture).0 ok p h in (omega (arith, low, black), omega (arith, high, white)))

pub shown_greys : ShownGreys
shown_greys s levels picture work ok p h = shown_pixel s levels picture work ok p h

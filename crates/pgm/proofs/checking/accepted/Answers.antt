-- `pgm::checking::accepted` meets its contract: rule by rule. Assumes nothing.
use mathlib.Core.Path.{◌≡◌, sym, ap}
use Prim.Native.Nat.{◌*◌}
use Rattle.std.proofs.lemmas.Result.{err_from_is_err_and}
use Rattle.refusals.proofs.Outcomes.{none, some, value-is, passes}
use Rattle.pyramid.specs.declared.Dimensions.{Dimensions}
use Rattle.pgm.proofs.Answers.{no_header, bad_size, pixels_inside, bad_grey, bad_pixels, all_good}
use Rattle.pgm.proofs.checking.accepted.Goals as goal

pub returns-in_default : goal.returns-in_default
returns-in_default c = no_header _ _ c.in_default.ensures

pub returns-in_err-size : goal.returns-in_err-size
returns-in_err-size c =
    let (r, was, from) = err_from_is_err_and c.from_residual.result c.from_residual.ensures.1 in
    let e = sym c.in_err-size.ensures in
    rw (was, from, bad_size _ c.in-Some.ensures (some _ _ e)) (passes _ _ _ e)

pub returns-then-header-ne255 : goal.returns-then-header-ne255
returns-then-header-ne255 c = bad_grey _ c.in-Some.ensures (none _ _ (sym c.in_ok-size.ensures)) _ c.if-header-ne255.true

pub slice_bounds-pixels-count : goal.slice_bounds-pixels-count
slice_bounds-pixels-count c = pixels_inside _ c.in-Some.ensures

pub slice_bounds-pixels-start : goal.slice_bounds-pixels-start
slice_bounds-pixels-start c = pixels_inside _ c.in-Some.ensures

-- columns times rows
long : {c h : Dimensions} → c ≡ h → c.rows * c.columns ≡ h.rows * h.columns
long e = ap (λ (s : Dimensions). s.rows * s.columns) e

pub returns-then-pixels-size : goal.returns-then-pixels-size
returns-then-pixels-size c =
    let e = sym c.in_ok-size.ensures in
    bad_pixels _ c.in-Some.ensures (none _ _ e) c.if-header-ne255.false (long (value-is _ _ e)) _ c.if-pixels-size.true

pub returns : goal.returns
returns c =
    let e = sym c.in_ok-size.ensures in
    let good = all_good _ c.in-Some.ensures (none _ _ e) c.if-header-ne255.false (long (value-is _ _ e)) c.if-pixels-size.false in
    rw (value-is _ _ e) good

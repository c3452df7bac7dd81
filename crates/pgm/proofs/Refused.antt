-- What a refusal leaves is what `leaves` keeps. Assumes nothing.
use Rattle.pyramid.proofs.Refusals.{leaves_kept}
use Rattle.pgm.specs.Definitions.Calls.{size_in, check_pgm, read_pgm, size_answer, write_pgm}
use Rattle.pgm.specs.Checks.Refused.{RefusedPicturesHoldNothing}

pub refused_pictures_hold_nothing : RefusedPicturesHoldNothing
unfolding size_in check_pgm read_pgm size_answer write_pgm
refused_pictures_hold_nothing = record {
  of_size = λ columns rows. leaves_kept _ _ _;
  of_writing = λ columns rows picture file refused. (leaves_kept _ _ _ refused, leaves_kept _ _ _ refused);
  of_checking = λ bytes refused. (leaves_kept _ _ _ refused, leaves_kept _ _ _ refused);
  of_reading = λ bytes picture refused. ((leaves_kept _ _ _ refused, leaves_kept _ _ _ refused), leaves_kept _ _ _ refused);
}

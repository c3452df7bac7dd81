-- What a refusal leaves is what `leaves` keeps. Assumes nothing.
use Rattle.pyramid.specs.declared.Settings.{Settings}
use Rattle.pyramid.specs.Definitions.Calls.{coding, rebuilding}
use Rattle.pyramid.specs.Definitions.Answers.{bounds_answer, nodes_answer, shape_answer, level_size_answer, deepest_answer}
use Rattle.pyramid.specs.Checks.Refused.{RefusalsHoldNothing}
use Rattle.pyramid.proofs.Refusals.{leaves_kept}

pub refusals_hold_nothing : (s : Settings) → RefusalsHoldNothing s
unfolding bounds_answer nodes_answer shape_answer level_size_answer deepest_answer coding rebuilding
refusals_hold_nothing s = record {
  of_bounds = λ manner. leaves_kept _ _ _;
  of_nodes = leaves_kept _ _ _;
  of_shape = leaves_kept _ _ _;
  of_level_size = λ l refused. (leaves_kept _ _ _ refused, leaves_kept _ _ _ refused);
  of_deepest = λ columns rows. leaves_kept _ _ _;
  of_coding = λ manner picture levels work refused. (leaves_kept _ _ _ refused, leaves_kept _ _ _ refused);
  of_rebuilding = λ levels picture work refused. (leaves_kept _ _ _ refused, leaves_kept _ _ _ refused);
}

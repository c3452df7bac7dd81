-- Which numbers each call can answer: 0 or the number of one of the rules that it looks through. Assumes nothing.
use Rattle.pyramid.specs.declared.Settings.{Settings}
use Rattle.pyramid.specs.Definitions.Calls.{coding, rebuilding}
use Rattle.pyramid.specs.Definitions.Answers.{bounds_answer, nodes_answer, shape_answer, level_size_answer}
use Rattle.pyramid.specs.Checks.Numbers.{PyramidNumbers}
use Rattle.pyramid.proofs.Rules.{answered}
use Rattle.pyramid.proofs.Conditions.{shape_tests, settings_tests, levels_tests, coding_tests, rebuilding_tests, deepest_tests, shape_looks, settings_look, levels_look, coding_looks, rebuilding_looks, deepest_looks}

pub pyramid_numbers : (s : Settings) → PyramidNumbers s
unfolding coding rebuilding bounds_answer nodes_answer shape_answer level_size_answer
pyramid_numbers s = record {
  of_coding = λ manner picture levels work. answered (coding_tests s picture levels work) (coding_looks s picture levels work);
  of_rebuilding = λ levels picture work. answered (rebuilding_tests s levels picture work) (rebuilding_looks s picture levels work);
  of_settings = answered (settings_tests s) (settings_look s);
  of_levels = λ levels. answered (levels_tests s levels) (levels_look s levels);
  of_bounds = λ manner. answered (settings_tests s) (settings_look s);
  of_nodes = answered (settings_tests s) (settings_look s);
  of_shape = answered (shape_tests s) (shape_looks s);
  of_level_size = λ l. answered (shape_tests s) (shape_looks s);
  of_deepest = λ columns rows. answered (deepest_tests columns rows) (deepest_looks columns rows);
}

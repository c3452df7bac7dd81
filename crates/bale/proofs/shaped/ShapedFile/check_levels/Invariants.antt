-- What the loop of `bale::shaped::ShapedFile::check_levels` keeps: the rules that are left say which number is answered.
use mathlib.Core.Path.{◌≡◌}
use Rattle.bale.specs.Definitions.Reader.{levels_place, level_sections_refusal}
use Rattle.bale.proofs.shaped.ShapedFile.check_levels.Given as goal

abbrev pub invariant-loop-level : goal.invariant-loop-level
invariant-loop-level l =
    level_sections_refusal l.self.bytes.now l.self.shape.settings l.self.shape.settings.depth (levels_place l.self.shape.settings)
    ≡ level_sections_refusal l.left l.self.shape.settings l.level 0

-- `pyramid::checking::check_shape` meets its contract: one comparison with the deepest depth passes three rules. Assumes nothing.
use mathlib.Core.Path.{sym, ◌∙◌}
use Rattle.refusals.proofs.Outcomes.{refuses, accepts}
use Rattle.refusals.specs.declared.Refusal.TheVariants.{Size, Kernel, BlackWhite}
use Rattle.pyramid.specs.Definitions.Refusals.{shape_refusal}
use Rattle.pyramid.proofs.Refusals.{first_nil, answers_fails, answers_passes}
use Rattle.pyramid.proofs.SettingsTests.{size_positive}
use Rattle.pyramid.proofs.ShapeRefusals.{depth_passes}
use Rattle.pyramid.proofs.checking.check_shape.Goals as goal

pub returns-then-not-size_ok : goal.returns-then-not-size_ok
unfolding shape_refusal
returns-then-not-size_ok c = refuses tt Size (answers_fails {number = 0} _ (sym c.if-not-size_ok.ensures))

pub deepest-requires : goal.deepest-requires
deepest-requires c = size_positive _ _ (sym c.if-not-size_ok.ensures)

pub returns-then-deepest-s : goal.returns-then-deepest-s
returns-then-deepest-s c = refuses tt _ c.depth_refusal.ensures

pub returns-then-not-kernel_ok : goal.returns-then-not-kernel_ok
returns-then-not-kernel_ok c =
    refuses tt Kernel (depth_passes _ (sym c.if-not-size_ok.ensures) (rw c.deepest.ensures at c.if-deepest-s.false) (answers_fails {number = 1} _ (sym c.if-not-kernel_ok.ensures)))

pub returns-else-black_white_ok : goal.returns-else-black_white_ok
returns-else-black_white_ok c =
    refuses tt BlackWhite
    (depth_passes _ (sym c.if-not-size_ok.ensures) (rw c.deepest.ensures at c.if-deepest-s.false)
    (answers_fails {number = 18} _ (sym c.if-black_white_ok.ensures) ∙ answers_passes 2 _ (sym c.if-not-kernel_ok.ensures)))

pub returns-then-black_white_ok : goal.returns-then-black_white_ok
returns-then-black_white_ok c =
    accepts tt
    (sym
    (depth_passes _ (sym c.if-not-size_ok.ensures) (rw c.deepest.ensures at c.if-deepest-s.false)
    (sym first_nil ∙ answers_passes 19 _ (sym c.if-black_white_ok.ensures) ∙ answers_passes 2 _ (sym c.if-not-kernel_ok.ensures))))

-- `bale::finding::slot_in` meets its contract: by its definition. Assumes nothing.
use mathlib.Core.Path.{◌∙◌}
use borrow.Author.Tests.{le-leb, lt-leb}
use Rattle.bale.specs.Definitions.Reader.{slot_in}
use Rattle.bale.proofs.finding.slot_in.Goals as goal

pub returns-then-level-depth : goal.returns-then-level-depth
unfolding slot_in
returns-then-level-depth c = c.u16_at.ensures ∙ rw (le-leb _ _ c.if-level-depth.true, c.after_shape-bins.ensures, c.count_in.ensures)

pub returns-else-level-depth : goal.returns-else-level-depth
unfolding slot_in
returns-else-level-depth c = rw (lt-leb _ _ c.if-level-depth.false)

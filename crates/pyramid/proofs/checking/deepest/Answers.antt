-- `pyramid::checking::deepest` meets its contract, by the law that trailing-zero counts give the deepest depth. Assumes nothing.
use Rattle.std.proofs.Common.{sym, ◌∙◌}
use Rattle.pyramid.proofs.Depth.{deepest_counts}
use Rattle.pyramid.proofs.checking.deepest.Goals as goal

pub returns : goal.returns
returns c = c.min-2.ensures ∙ rw c.min.ensures (sym (deepest_counts _ _))

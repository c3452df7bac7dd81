-- `bale::places::shape_count` meets its contract: where black is 0 and white is 255, the count is 4. Assumes nothing.
use mathlib.Core.Path.{sym}
use native.Mathlib.Omega.{arith}
use Rattle.bale.proofs.Forms.{count_every}
use Rattle.bale.proofs.places.shape_count.Goals as goal

pub returns-then-s-eq255 : goal.returns-then-s-eq255
returns-then-s-eq255 c = (sym (count_every c.args.s c.if-s-eq0.true c.if-s-eq255.true), omega arith)

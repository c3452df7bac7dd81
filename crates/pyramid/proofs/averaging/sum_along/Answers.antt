-- `pyramid::averaging::sum_along` meets its contract: the first sum, the inner ones in a loop, and the last, which reflect at the edges.
-- Assumes nothing.
use Rattle.std.proofs.Common.{◌≡◌, refl, ◌∙◌, List, ℕ, ◌+◌, ◌-◌, ◌*◌, ℤ, pos, ◌+ℤ◌, ◌*ℤ◌, get_or, length, arith}
use borrow.Author.Rules.{sfits_of}
use mir.Syntax.{w32}
use mir.Val.{SFits}
use Rattle.mathematics.proofs.Held.{held, held_is}
use Rattle.mathematics.proofs.Filling.{filling_start, filling_next}
use Rattle.pyramid.specs.Definitions.Weights.{weight}
use Rattle.pyramid.specs.Definitions.Edge.{reflect}
use Rattle.pyramid.specs.Inner.Rows.{Within, Small}
use Rattle.pyramid.proofs.Edge.{read_inside, read_before, read_past}
use Rattle.pyramid.proofs.ColumnSums.{five_unheld, node_formed}
use Rattle.pyramid.proofs.LentParts.{filled_whole}
use Rattle.pyramid.proofs.TapSums.{within_more, within_held}
use Rattle.pyramid.proofs.averaging.sum_along.Invariants.{sum_at}
use Rattle.pyramid.proofs.averaging.sum_along.Goals as goal

module _ (k : ℕ) (row : List ℤ) (last i : ℕ) (small : Small 4096 row) where
  -- the column of a tap of sum i
  abbrev column : ℕ → ℕ
  column t = reflect last (2 * i + t)

  abbrev value : ℕ → ℤ
  value p = get_or row p (pos 0)

  within : (p : ℕ) → Within 8388608 (value p)
  within p = within_more (omega arith) (small p)

  -- what `five` returns for these columns, stored
  formed : {a b c d e : ℕ} {r : ℤ} → SFits w32 r
      → r ≡ weight k 4 *ℤ (held (value a) +ℤ held (value e)) +ℤ weight k 3 *ℤ (held (value b) +ℤ held (value d)) +ℤ weight k 2 *ℤ held (value c)
      → a ≡ column 0 → b ≡ column 1 → c ≡ column 2 → d ≡ column 3 → e ≡ column 4 → held r ≡ sum_at k row last i
  formed {a} {b} {c} {d} {e} f is ea eb ec ed ee =
      held_is f ∙ is ∙ five_unheld k (within a) (within b) (within c) (within d) (within e) ∙ node_formed k row column ea eb ec ed ee

  -- a value as it is passed on
  passed : (p : ℕ) → Within 8388608 (held (value p))
  passed p = within_held tt (within p)

pub five-requires : goal.five-requires
five-requires c = let pass = passed 0 c.args.row.now 0 0 c.requires.small in (pass _, pass _, pass _, pass _, pass _)

pub five-requires-in-loop-i : goal.five-requires-in-loop-i
five-requires-in-loop-i c = let pass = passed 0 c.args.row.now 0 0 c.requires.small in (pass _, pass _, pass _, pass _, pass _)

pub five-requires-2 : goal.five-requires-2
five-requires-2 c = let pass = passed 0 c.args.row.now 0 0 c.requires.small in (pass _, pass _, pass _, pass _, pass _)

pub loop-i-init : goal.loop-i-init
loop-i-init c =
    filling_next (filling_start _ _ _ _) (omega arith) refl
    (formed c.args.weights.kernel c.args.row.now (length c.args.row.now - 1) 0 c.requires.small (sfits_of c.five.type_inv) c.five.ensures
    (read_before _ _ refl (omega arith)) (read_before _ _ refl (omega arith)) (read_inside _ _ refl (omega arith))
    (read_inside _ _ refl (omega arith)) (read_inside _ _ refl (omega arith)))
    (omega arith)

pub loop-i-preserved : goal.loop-i-preserved
loop-i-preserved c =
    filling_next c.loop-i.invariant (omega arith) (omega arith)
    (formed c.args.weights.kernel c.args.row.now (length c.args.row.now - 1) c.loop-i.i c.requires.small (sfits_of c.five-in-loop-i.type_inv) c.five-in-loop-i.ensures
    (read_inside _ _ (omega arith) (omega arith)) (read_inside _ _ (omega arith) (omega arith)) (read_inside _ _ (omega arith) (omega arith))
    (read_inside _ _ (omega arith) (omega arith)) (read_inside _ _ (omega arith) (omega arith)))
    (omega arith)

pub returns : goal.returns
returns c =
    filled_whole
    (filling_next c.loop-i.invariant (omega arith) (omega arith)
    (formed c.args.weights.kernel c.args.row.now (length c.args.row.now - 1) c.loop-i.i c.requires.small (sfits_of c.five-2.type_inv) c.five-2.ensures
    (read_inside _ _ (omega arith) (omega arith)) (read_inside _ _ (omega arith) (omega arith)) (read_inside _ _ (omega arith) (omega arith))
    (read_past _ _ (omega arith) (omega arith)) (read_past _ _ (omega arith) (omega arith)))
    (omega arith))
    (omega arith) (omega arith)

-- `bale::finding::slots_in` meets its contract: slot by slot. Assumes nothing.
use mathlib.Core.Path.{◌≡◌, sym, ◌∙◌}
use Prim.Native.Nat.{ℕ, ◌<◌}
use borrow.Author.Rules.{rules}
use native.Mathlib.Omega.{arith}
use lib.ListN.{get_or}
use lib.Seq.{ext_get_or}
use Rattle.mathematics.proofs.Tables.{length-tabulate, get_or-tabulate}
use Rattle.bale.specs.Definitions.Reader.{slot_in}
use Rattle.bale.proofs.finding.slots_in.Goals as goal

pub returns : goal.returns
returns c =
    let items = c.from_fn.ensures.items in
    let each : (i : ℕ) → i < 7 → get_or c.from_fn.result i 0 ≡ slot_in c.args.file.now c.args.depth i = λ i h. let (p, q, r) = items.at i 0 h in search rules in
    let table = slot_in c.args.file.now c.args.depth in
    ext_get_or 0 _ _ (items.long ∙ sym (length-tabulate 7 table)) (λ i h. each i (omega (arith, items.long)) ∙ sym (get_or-tabulate 7 table 0 i (omega (arith, items.long))))

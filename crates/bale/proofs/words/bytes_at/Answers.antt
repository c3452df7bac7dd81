-- `bale::words::bytes_at` meets its contract: byte by byte. Assumes nothing.
use Prim.Native.Nat.{◌+◌}
use borrow.Author.Rules.{rules}
use lib.ListN.{get_or}
use lib.Seq.{get_or-drop}
use Rattle.bale.proofs.WordLists.{made_by}
use Rattle.bale.proofs.words.bytes_at.Goals as goal

pub returns : goal.returns
returns g c =
    made_by _ (λ i. get_or c.args.bytes.now (c.args.at + i) 0) (λ k y q call. search (rules, get_or-drop c.args.at c.args.bytes.now k 0)) _ c.from_fn.ensures.items

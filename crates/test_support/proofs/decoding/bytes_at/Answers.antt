-- `test_support::decoding::bytes_at` meets its contract: byte by byte. Assumes nothing.
use Rattle.std.proofs.Common.{◌+◌, get_or, rules}
use lib.Seq.{get_or-drop}
use Rattle.test_support.proofs.Filled.{made_by}
use Rattle.test_support.proofs.decoding.bytes_at.Goals as goal

pub returns : goal.returns
returns g c =
    made_by _ (λ i. get_or c.args.bytes.now (c.args.at + i) 0) (λ k y q call. search (rules, get_or-drop c.args.at c.args.bytes.now k 0)) _ c.from_fn.ensures.items

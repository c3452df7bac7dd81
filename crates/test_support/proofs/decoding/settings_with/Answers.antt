-- `test_support::decoding::settings_with` meets its contract: number by number. Assumes nothing.
use Rattle.std.proofs.Common.{◌≡◌, ◌+◌, ◌*◌, rules}
use Rattle.mathematics.specs.Definitions.Tables.{tabulate}
use Rattle.test_support.specs.Definitions.Numbers.{unsigned16}
use Rattle.test_support.proofs.Filled.{table_of, number_after}
use Rattle.test_support.proofs.decoding.settings_with.Goals as goal

pub returns : goal.returns
returns c =
    let bins : c.from_fn.result ≡ tabulate 7 (λ slot. unsigned16 c.args.bytes.now (c.args.at + 2 * slot)) = table_of 0 c.from_fn.ensures.items.long (λ k h. let e = c.from_fn.ensures.items.at k 0 h in search (rules, number_after c.args.bytes.now c.args.at (2 * k))) in
    rw bins (search rules)

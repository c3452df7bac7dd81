-- `test_support::faults::Faults::has` meets its contract: the refusals that pass have the number of the one. Assumes nothing.
use Rattle.std.proofs.Common.{◌∙◌, ap, eqb, rules}
use Rattle.std.specs.Option.{is_some}
use Rattle.refusals.specs.Definitions.Numbers.{number}
use Rattle.test_support.proofs.Choosing.{found_member, same_number}
use Rattle.test_support.proofs.faults.Faults.has.Goals as goal

pub returns : goal.returns
returns c =
    c.is_some.ensures ∙ ap is_some (c.find.ensures (λ r. eqb (number r) (number c.args.fault)) (λ refusal r p. same_number r refusal c.args.fault (search rules))) ∙ found_member c.args.fault _

-- What the loop of `decimals::number_at` keeps.
use Rattle.decimals.proofs.Reading.{Reads}
use Rattle.decimals.proofs.number_at.Given as goal

abbrev pub invariant-loop-i : goal.invariant-loop-i
invariant-loop-i l = Reads l.text l.at l.most l.front l.i (record { value = l.value; digits = l.i })

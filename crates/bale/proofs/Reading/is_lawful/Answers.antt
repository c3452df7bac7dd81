-- `bale::Reading::is_lawful` meets its contract: each answer is the rule of its case. Assumes nothing.
use Rattle.bale.proofs.Readings.{none_ok, percentage_low, percentage_high, fault_is}
use Rattle.bale.proofs.Reading.is_lawful.Goals as goal

pub returns-in-NotFitted : goal.returns-in-NotFitted
returns-in-NotFitted c = none_ok c.in-NotFitted.is

pub returns-then-x : goal.returns-then-x
returns-then-x c = percentage_low c.in-Percentage.is c.if-x.true

pub returns-else-x : goal.returns-else-x
returns-else-x c = percentage_high c.in-Percentage.is c.if-x.false

pub returns-in-Fault : goal.returns-in-Fault
returns-in-Fault c = fault_is c.in-Fault.is c.fault_ok.ensures

-- `bale::Reading::code` meets its contract: each case has its kind and number. Assumes nothing.
use Rattle.bale.proofs.Readings.{coded_number, code_none, code_percentage, code_fault}
use Rattle.bale.proofs.Reading.code.Goals as goal

pub float_to_bits-result : goal.float_to_bits-result
float_to_bits-result c = coded_number c.in-Percentage.is c.requires

pub returns-in-NotFitted : goal.returns-in-NotFitted
returns-in-NotFitted c = code_none c.in-NotFitted.is

pub returns-in-Percentage : goal.returns-in-Percentage
returns-in-Percentage c = code_percentage c.in-Percentage.is c.requires

pub returns-in-Fault : goal.returns-in-Fault
returns-in-Fault c = code_fault c.in-Fault.is c.requires

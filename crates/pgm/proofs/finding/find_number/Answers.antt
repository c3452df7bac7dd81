-- `pgm::finding::find_number` meets its contract. Assumes nothing.
use mathlib.Core.Path.{◌∙◌}
use borrow.Author.Rules.{rules}
use Rattle.pgm.proofs.Headers.{no_space, no_number, number_there, number_within_file}
use Rattle.pgm.proofs.finding.find_number.Goals as goal

pub returns-in_err-number : goal.returns-in_err-number
returns-in_err-number c = c.from_residual.ensures ∙ no_number _ _ c.digits_place-start.ensures c.in_err-number.ensures

pub returns-then-start-at : goal.returns-then-start-at
returns-then-start-at c = no_space _ _ c.digits_place-start.ensures c.if-start-at.true

pub overflow_add-result : goal.overflow_add-result
overflow_add-result c = search (rules, number_within_file _ _ c.digits_place-start.ensures c.in_ok-number.ensures c.requires)

pub returns : goal.returns
returns c = number_there _ _ c.digits_place-start.ensures c.in_ok-number.ensures c.if-start-at.false

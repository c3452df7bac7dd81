-- `pgm::pgm_size` meets its contract. Assumes nothing.
use mathlib.Core.Path.{refl, sym, ◌∙◌}
use borrow.Author.Rules.{rules}
use Rattle.refusals.proofs.Outcomes.{none, passed_on}
use Rattle.pgm.proofs.Answers.{depth_refused, depth_accepted}
use Rattle.pgm.proofs.Writings.{size-outcome, size_small, size_found}
use Rattle.pgm.proofs.pgm_size.Goals as goal

pub returns-in_err-deepest_depth : goal.returns-in_err-deepest_depth
returns-in_err-deepest_depth c =
    passed_on _ _ _ c.from_residual.result _ c.from_residual.ensures.1 c.in_err-deepest_depth.ensures (λ _. depth_refused _ _) ∙ sym (size-outcome _ _)

pub overflow_add-numbers : goal.overflow_add-numbers
overflow_add-numbers c = search (rules, size_small _ _ (depth_accepted _ _ (none _ _ (sym c.in_ok-deepest_depth.ensures))) c.digit_count.ensures c.digit_count-2.ensures)

pub overflow_add-result : goal.overflow_add-result
overflow_add-result c = search (rules, size_small _ _ (depth_accepted _ _ (none _ _ (sym c.in_ok-deepest_depth.ensures))) c.digit_count.ensures c.digit_count-2.ensures)

pub overflow_add-result-2 : goal.overflow_add-result-2
overflow_add-result-2 c = search (rules, size_small _ _ (depth_accepted _ _ (none _ _ (sym c.in_ok-deepest_depth.ensures))) c.digit_count.ensures c.digit_count-2.ensures)

pub returns : goal.returns
returns c = size_found _ _ (depth_accepted _ _ (none _ _ (sym c.in_ok-deepest_depth.ensures))) c.digit_count.ensures c.digit_count-2.ensures

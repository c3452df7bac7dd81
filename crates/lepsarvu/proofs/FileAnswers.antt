-- The numbers that calls on settings, pictures and bale files answer are those of refusals. Assumes nothing.
use Rattle.std.proofs.Common.{List, [], ◌∷◌, ℕ, ◌≤◌, ℤ}
use Rattle.refusals.specs.Checks.Numbers.{greatest}
use Rattle.pyramid.specs.declared.Settings.{Settings}
use Rattle.pyramid.specs.declared.Manner.{Manner}
use Rattle.pyramid.specs.Definitions.Answers.{bounds_answer, nodes_answer, deepest_answer}
use Rattle.pyramid.specs.Definitions.Calls.{coding, rebuilding}
use Rattle.pyramid.specs.Checks.Numbers.{settings_numbers, coding_numbers, rebuilding_numbers}
use Rattle.pyramid.proofs.Numbers.{pyramid_numbers}
use Rattle.bale.specs.Definitions.Calls.{size_answer, check_file, read_file}
use Rattle.bale.specs.Checks.Numbers.{check_numbers, read_numbers}
use Rattle.bale.proofs.Numbers.{bale_numbers}
use Rattle.lepsarvu.proofs.Given.{small, one_small}

module _ (s : Settings) where
  pub coding_number : (manner : Manner) (picture : List ℕ) (levels work : List ℤ) → (coding s manner picture levels work).answer ≤ greatest
  unfolding small
  coding_number manner picture levels work = one_small (0 ∷ coding_numbers) _ tt ((pyramid_numbers s).of_coding manner picture levels work)

  pub rebuilding_number : (levels : List ℤ) (picture : List ℕ) (work : List ℤ) → (rebuilding s levels picture work).answer ≤ greatest
  unfolding small
  rebuilding_number levels picture work = one_small (0 ∷ rebuilding_numbers) _ tt ((pyramid_numbers s).of_rebuilding levels picture work)

  pub bounds_number : (manner : Manner) → (bounds_answer s manner).refusal ≤ greatest
  unfolding small
  bounds_number manner = one_small (0 ∷ settings_numbers) _ tt ((pyramid_numbers s).of_bounds manner)

  pub nodes_number : (nodes_answer s).refusal ≤ greatest
  unfolding small
  nodes_number = one_small (0 ∷ settings_numbers) _ tt (pyramid_numbers s).of_nodes

  pub size_number : (size_answer s).refusal ≤ greatest
  unfolding small
  size_number = one_small (0 ∷ settings_numbers) _ tt (bale_numbers.of_size s)

pub deepest_number : (columns rows : ℕ) → (deepest_answer columns rows).refusal ≤ greatest
unfolding small
deepest_number columns rows =
    one_small (0 ∷ 1 ∷ []) _ tt ((pyramid_numbers (record { columns = columns; rows = rows; depth = 0; kernel = 0; black = 0; white = 0; bins = [] })).of_deepest columns rows)

module _ (bytes : List ℕ) where
  pub check_number : (check_file bytes).refusal ≤ greatest
  unfolding small
  check_number = one_small (0 ∷ check_numbers) _ tt (bale_numbers.of_checking bytes)

  pub read_number : (levels : List ℤ) → (read_file bytes levels).answer.refusal ≤ greatest
  unfolding small
  read_number levels = one_small (0 ∷ read_numbers) _ tt (bale_numbers.of_reading bytes levels)

-- The first place that fails a test, found by trying one place after the other. Assumes nothing.
use Rattle.std.proofs.Common.{◌≡◌, ℕ, suc, ◌+◌, ◌-◌, ◌<◌, ◌≤◌, Bool, true, false, not, ◌∷◌, Some, None, arith}
use Rattle.std.specs.List.{find, range_with_len}
use Rattle.test_support.specs.Definitions.Comparisons.{first_failure}

module _ (i end : ℕ) (test : ℕ → Bool) where
  first_failure-cons : i < end → first_failure i end test ≡ find (λ k. not (test k)) (i ∷ range_with_len (i + 1) (end - (i + 1)))
  unfolding first_failure
  first_failure-cons h = let e : end - i ≡ suc (end - (i + 1)) = omega arith in rw e

  pub first_failure_here : i < end → test i ≡ false → Some i ≡ first_failure i end test
  first_failure_here h t = rw (first_failure-cons h, t)

  pub first_failure_later : i < end → test i ≡ true → first_failure i end test ≡ first_failure (i + 1) end test
  unfolding first_failure
  first_failure_later h t = rw (first_failure-cons h, t)

  pub first_failure_none : end ≤ i → None ≡ first_failure i end test
  unfolding first_failure
  first_failure_none h = let e : end - i ≡ 0 = omega arith in rw e

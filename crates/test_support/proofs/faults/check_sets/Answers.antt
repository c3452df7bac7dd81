-- `test_support::faults::check_sets` meets its contract: after its four variants a set is counted. Assumes nothing.
use Rattle.std.proofs.Common.{◌≡◌, ℕ, suc, ◌+◌, ◌*◌, ◌/◌, ◌%◌, ◌<◌, [], ◌∷◌, get_or, Option, refl, ap, ◌∙◌, arith}
use Rattle.std.proofs.lemmas.List.{get_or_default}
use Rattle.test_support.specs.declared.faults.Variant.{Variant}
use Rattle.test_support.specs.declared.faults.Variant.TheVariants.{First, Second, Third, Fourth}
use Rattle.test_support.specs.declared.reporting.Tally.{Tally}
use Rattle.test_support.specs.Definitions.FaultSets.{variant_at}
use Rattle.test_support.specs.Definitions.Tallies.{tallied, counted}
use Rattle.test_support.proofs.faults.check_sets.Goals as goal

-- one variant more of a set
variant_counted : {F : Type 0} (found : ℕ → Variant → Option F) {bits n : ℕ} {t : Tally F} {r : Option F} → n < 4 → t ≡ tallied (λ k. found (k / 4) (variant_at (k % 4))) (4 * bits + n)
    → r ≡ found bits (get_or (First ∷ Second ∷ Third ∷ Fourth ∷ []) n First) → counted t r ≡ tallied (λ k. found (k / 4) (variant_at (k % 4))) (4 * bits + (n + 1))
variant_counted found {bits = bits} {n = n} within before here =
    let set : (4 * bits + n) / 4 ≡ bits = omega arith in
    let variant : (4 * bits + n) % 4 ≡ n = omega arith in
    let next : 4 * bits + (n + 1) ≡ suc (4 * bits + n) = omega arith in
    rw (next, set, variant, before, here, get_or_default (First ∷ Second ∷ Third ∷ Fourth ∷ []) n First Fourth within)

pub loop-variant-preserved : goal.loop-variant-preserved
loop-variant-preserved g c found h = c.count.ensures ∙ variant_counted found c.loop-variant-test.true (c.loop-variant.invariant found h) (h _ _ refl c.check.ensures)

pub loop-bits-preserved : goal.loop-bits-preserved
loop-bits-preserved g c found h =
    let four : 4 * c.loop-bits.bits + c.loop-variant.variant-index ≡ 4 * (c.loop-bits.bits + 1) = omega arith in
    c.loop-variant.invariant found h ∙ ap (tallied _) four

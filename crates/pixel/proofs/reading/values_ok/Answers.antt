-- `pixel::reading::values_ok` meets its contract: each turn of its loop tests one value. Assumes nothing.
use Rattle.std.proofs.Common.{◌≡◌, sym, refl, pos, get_or, nat_abs, arith, rules}
use borrow.Author.Tests.{le-leb, lt-leb}
use Rattle.mathematics.proofs.Held.{held_is}
use Rattle.mathematics.proofs.Tests.{testing_start, testing_next, testing_end}
use Rattle.pyramid.specs.Definitions.Refusals.{limit}
use Rattle.pixel.proofs.reading.values_ok.Goals as goal

pub loop-value-init : goal.loop-value-init
loop-value-init c = testing_start _ _

pub loop-value-preserved : goal.loop-value-preserved
loop-value-preserved c =
    let value : c.unsigned_abs.result ≡ nat_abs (get_or c.args.values.now c.loop-value.value-index (pos 0)) =
    rw (c.unsigned_abs.ensures.value, held_is {z = get_or c.args.values.now c.loop-value.value-index (pos 0)} (search rules)) refl in
    testing_next _ (pos 0) c.loop-value.invariant (omega (arith, c.told-values)) (sym (le-leb _ limit (omega (arith, value, c.if-unsigned_abs-gt4096.false))))

pub returns-then-unsigned_abs-gt4096 : goal.returns-then-unsigned_abs-gt4096
returns-then-unsigned_abs-gt4096 c =
    let value : c.unsigned_abs.result ≡ nat_abs (get_or c.args.values.now c.loop-value.value-index (pos 0)) =
    rw (c.unsigned_abs.ensures.value, held_is {z = get_or c.args.values.now c.loop-value.value-index (pos 0)} (search rules)) refl in
    sym (testing_next _ (pos 0) c.loop-value.invariant (omega (arith, c.told-values)) (sym (lt-leb _ limit (omega (arith, value, c.if-unsigned_abs-gt4096.true))))).rest

pub returns : goal.returns
returns c = testing_end _ c.loop-value.invariant (omega (arith, c.told-values))

-- `decimals::number_at` meets its contract: each turn of its loop takes one digit. Assumes nothing.
use Rattle.std.proofs.Common.{◌≡◌, ◌≤◌, sym, ◌∙◌, arith, refl, length, inl, inr}
use Rattle.decimals.specs.Definitions.Text.{is_digit}
use Rattle.decimals.proofs.Reading.{reading_next, reading_fits, front_short, number_past, found_none, read_number}
use Rattle.decimals.proofs.number_at.Goals as goal

pub returns-in_err-rest : goal.returns-in_err-rest
returns-in_err-rest c =
    let past : length c.args.text.now ≤ c.args.at = elim c.in_err-rest.ensures.lookup.0 [ inl h ↦ omega arith | inr h ↦ omega arith ] in
    c.from_residual.ensures ∙ rw (number_past _ _ c.args.most past) (found_none _ refl)

pub overflow_mul-value : goal.overflow_mul-value
unfolding is_digit
overflow_mul-value c =
    let i = c.loop-i.invariant in
    let fits = reading_fits i.so_far c.loop-i-test.true (sym c.if-not-is_ascii_digit.ensures.value) (front_short i.front) in
    omega arith

pub overflow_add-value : goal.overflow_add-value
unfolding is_digit
overflow_add-value c =
    let i = c.loop-i.invariant in
    let fits = reading_fits i.so_far c.loop-i-test.true (sym c.if-not-is_ascii_digit.ensures.value) (front_short i.front) in
    omega arith

pub loop-i-preserved : goal.loop-i-preserved
unfolding is_digit
loop-i-preserved c =
    let i = c.loop-i.invariant in
    record { front = i.front; so_far = reading_next i.so_far c.loop-i-test.true (sym c.if-not-is_ascii_digit.ensures.value) }

pub returns-then-not-is_ascii_digit : goal.returns-then-not-is_ascii_digit
unfolding is_digit
returns-then-not-is_ascii_digit c =
    c.number_of.ensures ∙ read_number c.loop-i.invariant (inr (c.loop-i-test.true, sym c.if-not-is_ascii_digit.ensures.value))

pub returns : goal.returns
returns c =
    let all : length c.unwrap_or-front.result.now ≡ c.loop-i.i = omega (arith, c.loop-i-test.false, c.loop-i.auto.i-end) in
    c.number_of-2.ensures ∙ rw all (read_number c.loop-i.invariant (inl c.loop-i-test.false))

-- `bale::putting::put_shape` meets its contract: four numbers, and two more where the count is 6. Assumes nothing.
use mathlib.Core.Path.{◌∙◌}
use native.Mathlib.Omega.{arith}
use lib.ListN.{drop_of_length-le}
use Rattle.bale.proofs.Forms.{count_most, count_four}
use Rattle.bale.proofs.Pieces.{shape_whole}
use Rattle.bale.proofs.putting.put_shape.Goals as goal

pub split_at_mut-start-requires : goal.split_at_mut-start-requires
split_at_mut-start-requires c = omega (arith, c.requires, (count_most c.args.s).0)

pub returns-then-count-eq6 : goal.returns-then-count-eq6
returns-then-count-eq6 c =
    shape_whole c.args.s c.shape_count-count.ensures.0 c.put_numbers.ensures (λ _. c.put_numbers-then-count-eq6.ensures) (λ other. absurd (other c.if-count-eq6.true))

pub returns-else-count-eq6 : goal.returns-else-count-eq6
returns-else-count-eq6 c =
    let four = count_four c.args.s (λ e. c.if-count-eq6.false (c.shape_count-count.ensures.0 ∙ e)) in
    shape_whole c.args.s c.shape_count-count.ensures.0 c.put_numbers.ensures (λ six. absurd (c.if-count-eq6.false six))
    (λ _. c.split_at_mut-start.ensures.back ∙ drop_of_length-le c.args.section.now {i = 10} (omega (arith, c.requires, four)))

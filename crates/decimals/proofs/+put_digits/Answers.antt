-- `decimals::put_digits` meets its contract: the ones, then the digits of the tens before them. Assumes nothing.
use Prim.Native.Nat.{◌+◌, ◌-◌, ◌%◌}
use native.Mathlib.Omega.{arith}
use lib.ListN.{length-set}
use Rattle.decimals.proofs.Counting.{count_some, count_more, tens_less, put_one, put_more}
use Rattle.decimals.proofs.+put_digits.Goals as goal

pub overflow_sub-buffer : goal.overflow_sub-buffer
overflow_sub-buffer t c = omega (arith, count_some c.args.n)

pub bounds-buffer-end : goal.bounds-buffer-end
bounds-buffer-end t c = omega (arith, count_some c.args.n)

pub overflow_sub-end : goal.overflow_sub-end
overflow_sub-end t c = omega (arith, count_some c.args.n)

pub put_digits-requires : goal.put_digits-requires
put_digits-requires t c =
    let a = c.args in
    let more = count_more a.n c.if-n-ge10.true in
    let less = tens_less a.n c.if-n-ge10.true in
    let same = length-set a.buffer.now (a.end - 1) (48 + a.n % 10) in
    (omega arith, (omega arith, omega arith))

pub returns-then-n-ge10 : goal.returns-then-n-ge10
returns-then-n-ge10 t c =
    let d = c.before.before.before.before in
    let e = d.before.before in
    put_more e.args.n e.args.end e.args.buffer.now (omega arith) (omega arith) d.if-n-ge10.true c.put_digits.ensures

pub returns-else-n-ge10 : goal.returns-else-n-ge10
returns-else-n-ge10 t c =
    let e = c.before.before in
    put_one e.args.n e.args.end e.args.buffer.now (omega arith) (omega arith) c.if-n-ge10.false

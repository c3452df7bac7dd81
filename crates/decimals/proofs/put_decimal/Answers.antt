-- `decimals::put_decimal` meets its contract. Assumes nothing.
use Prim.Native.Nat.{◌+◌, ◌<◌}
use native.Mathlib.Omega.{arith}
use lib.ListN.{length}
use Rattle.decimals.specs.Definitions.Text.{decimal}
use Rattle.decimals.proofs.Counting.{put_nothing, put_all}
use Rattle.decimals.proofs.put_decimal.Goals as goal
use Rattle.decimals.proofs.put_decimal.Goals.{then-buffer-count-via-then-buffer-count, then-buffer-count-via-else-buffer-count+then-buffer-count-2}

pub returns-then-buffer-count : goal.returns-then-buffer-count
returns-then-buffer-count c =
    let e = c.digit_count-count.ensures in
    let short : length c.args.buffer.now < c.args.at + length (decimal c.args.n) =
    elim c.then-buffer-count.branch [
      | then-buffer-count-via-then-buffer-count w ↦ omega arith
      | then-buffer-count-via-else-buffer-count+then-buffer-count-2 w ↦ omega arith
    ] in
    let put = put_nothing c.args.n c.args.at c.args.buffer.now short in
    record { value = put.0; buffer_after = put.1 }

pub returns : goal.returns
returns c =
    let e = c.digit_count-count.ensures in
    let put = put_all c.args.n c.args.at c.args.buffer.now (omega arith) e c.put_digits.ensures in
    record { value = put.0; buffer_after = put.1 }

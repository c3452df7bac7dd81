-- `pixel::axes::Axis::new` meets its contract: what shifts leave, and the range's ends by the pixel's column (row). Assumes nothing.
use Rattle.std.proofs.Common.{◌≡◌, ◌∙◌, sym, ℕ, ◌+◌, ◌/◌, ◌^◌, ◌≤◌, arith}
use Rattle.std.proofs.Math.Nat.{div-le_self}
use Rattle.pyramid.specs.Definitions.Sizes.{last}
use Rattle.pyramid.proofs.Sizes.{last-is, last_most}
use Rattle.pixel.specs.Definitions.Windows.{range_at}
use Rattle.pixel.proofs.Ranges.{last_is, shifted, next_most, last_near, range_most}
use Rattle.pixel.proofs.axes.Axis.new.Goals as goal
use Rattle.pixel.proofs.axes.Axis.new.Goals.{After-min-last}

module _ (n : After-min-last) where
  z_is : n.from.result / 2 ^ n.args.level ≡ last n.args.side n.args.level
  z_is = rw n.from.ensures (sym (last-is n.args.side n.args.level))

  last_of : n.min-last.result ≡ (range_at n.args.side n.args.p n.args.level).last
  last_of =
      n.min-last.ensures ∙ rw (z_is, n.from-p.ensures, shifted n.args.level n.requires.2)
      (sym (last_is n.args.side n.args.p n.requires.0 n.args.level))

  abbrev next : ℕ
  next = (n.from-p.result + 1) / 2 ^ n.args.level

  next_of : next ≡ (n.args.p + 1) / 2 ^ n.args.level
  next_of = rw n.from-p.ensures

  room : next ≤ n.min-last.result + 1
  room = rw (next_of, last_of) (next_most n.args.side n.args.p n.requires.0 n.args.level)

  near : n.min-last.result ≤ next + 2
  near = rw (next_of, last_of) (last_near n.args.side n.args.p n.args.level)

  inside : n.min-last.result ≤ n.from.result / 2 ^ n.args.level
  inside = rw (z_is, last_of) (range_most n.args.side n.args.p n.requires.0 n.args.level)

pub overflow_sub-result : goal.overflow_sub-result
overflow_sub-result c = let n = (goal.at.overflow_sub-result c).After-min-last in omega (arith, room n)

pub invariant_of-result : goal.invariant_of-result
invariant_of-result c =
    let n = (goal.at.invariant_of-result c).After-min-last in
    let far = last_most c.args.side c.args.level in
    let small : next n ≤ c.args.p + 1 = rw (next_of n) (div-le_self (c.args.p + 1) (2 ^ c.args.level)) in
    record { fits = (omega (arith, small), omega (arith, near n), omega (arith, z_is n, far), omega (arith, room n, inside n)) }

pub returns : goal.returns
returns c =
    let n = (goal.at.returns c).After-min-last in
    record { next_is = next_of n; end_is = omega (arith, room n, last_of n); z_is = z_is n }

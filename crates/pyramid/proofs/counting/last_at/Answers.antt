-- `pyramid::counting::last_at` meets its contract: a shift by l is a division by 2^l, and one by 16 or more leaves 0. Assumes nothing.
use Rattle.std.proofs.Common.{◌≡◌, ◌-◌, ◌+◌, ◌/◌, ◌^◌, ◌≤◌, ◌<◌, ℕ, ◌∙◌, sym, ap, Some, None, Option, SomeIff, arith}
use Rattle.std.specs.Option.{unwrap_or}
use Rattle.pyramid.specs.Definitions.Sizes.{last}
use Rattle.pyramid.proofs.Sizes.{last_far}
use Rattle.pyramid.proofs.counting.last_at.Goals as goal

shifted : (side l : ℕ) → side ≤ 65535 → (o : Option ℕ) → SomeIff o (l < 16) ((side - 1) / 2 ^ l) → unwrap_or o 0 ≡ last side l
unfolding last
shifted side l h None far = let e : l - 16 + 16 ≡ l = omega arith in sym (ap (last side) (sym e) ∙ last_far side (l - 16) h)
shifted side l h (Some x) near = near.1

pub returns : goal.returns
returns c =
    c.from-2.ensures ∙ c.unwrap_or.ensures
    ∙ shifted c.args.side c.args.level (omega (arith, c.ranges.side.fits)) _ (rw (c.from.ensures, c.saturating_sub.ensures) at c.checked_shr-last.ensures)

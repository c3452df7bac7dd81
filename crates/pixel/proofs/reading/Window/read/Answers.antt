-- `pixel::reading::Window::read` meets its contract: each turn writes a row of the block, and adds how many were read for it. Assumes nothing.
use Rattle.std.proofs.Common.{◌≡◌, ◌∙◌, sym, ap, ℕ, ◌+◌, ◌-◌, ◌*◌, ◌≤◌, length, refl, arith}
use native.Mathlib.Nat.{mul-le-mul, zero-mul}
use Rattle.mathematics.proofs.Tables.{length-tabulate}
use Rattle.mathematics.proofs.Splices.{splice_whole}
use Rattle.pyramid.proofs.Buffers.{length-raster}
use Rattle.pyramid.proofs.LentParts.{lent_back}
use Rattle.pyramid.proofs.Rendering.{rendering_start, rendering_row, rendering_end}
use Rattle.pixel.specs.Inner.Places.{places}
use Rattle.pixel.proofs.PlacesHeld.{held_to, held_start, held_most, places_most, held_rows, held_all}
use Rattle.pixel.proofs.reading.Window.read.Goals as goal
use Rattle.pixel.proofs.reading.Window.read.Goals.{After-read_line-read}

module _ (n : After-read_line-read) where
  counted : n.loop-n.read + n.read_line-read.result ≡ held_to n.args.self.rows (n.loop-n.n + 1) * places n.args.self.columns
  counted =
      rw (n.loop-n.invariant.1, n.read_line-read.ensures.count) (held_rows n.args.self.rows n.loop-n.n (places n.args.self.columns))

  few : held_to n.args.self.rows (n.loop-n.n + 1) * places n.args.self.columns ≤ 16
  few = mul-le-mul (held_most n.args.self.rows (n.loop-n.n + 1)) (places_most n.args.self.columns)

pub loop-n-init : goal.loop-n-init
loop-n-init c = (rendering_start _ _ _ _ _, sym (rw (← held_start c.args.self.rows) (zero-mul (places c.args.self.columns))))

pub overflow_add-read : goal.overflow_add-read
overflow_add-read c =
    let n = (goal.at.overflow_add-read c).After-read_line-read in
    record { fits = omega (arith, counted n, few n) }

pub loop-n-preserved : goal.loop-n-preserved
loop-n-preserved c =
    let row : length c.read_line-read.new.values ≡ 4 = ap length c.read_line-read.ensures.values_after ∙ length-tabulate 4 _ in
    let long : 4 * c.loop-n.n + 4 - 4 * c.loop-n.n ≡ length c.read_line-read.new.values = omega (arith, row) in
    let at : 4 * c.loop-n.n ≡ c.loop-n.n * 4 = omega arith in (
      rendering_row c.loop-n.invariant.0 (omega arith) refl
          (lent_back (4 * c.loop-n.n) _ c.loop-n.values _ long ∙ rw (at, c.read_line-read.ensures.values_after) refl) c.loop-n-test.true,
      counted (goal.at.loop-n-preserved c).After-read_line-read,
    )

pub returns-clause-count : goal.returns-clause-count
returns-clause-count c = c.loop-n.invariant.1 ∙ ap (λ (k : ℕ). k * places c.args.self.columns) (held_all c.args.self.rows c.loop-n.n (omega arith))

pub returns-clause-values : goal.returns-clause-values
returns-clause-values c = rendering_end c.loop-n.invariant.0 (omega arith) ∙ splice_whole _ _ (length-raster 4 4 _)

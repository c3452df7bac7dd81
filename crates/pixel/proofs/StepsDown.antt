-- A step down from a window to the one below it, along one axis and along both: what the sums of a block are, in columns and rows of the levels.
-- Assumes nothing.
use mathlib.Core.Path.{◌≡◌, refl, ap, ◌∙◌}
use Prim.Native.Nat.{ℕ, zero, suc, ◌+◌, ◌-◌, ◌*◌, ◌/◌, ◌%◌, ◌^◌, ◌≤◌, ◌<◌}
use native.Mathlib.Decide.{dec_lt}
use native.Mathlib.Omega.{arith}
use borrow.Author.Tests.{eq-eqb, ne_eqb}
use lib.Dec.{T}
use lib.IntN.{ℤ, ◌*ℤ◌}
use Rattle.mathematics.specs.Definitions.Sums.{sum}
use Rattle.pyramid.specs.Definitions.Sizes.{last}
use Rattle.pyramid.specs.Definitions.Edge.{reflect}
use Rattle.pyramid.specs.Definitions.Steps.{even_weight, halved}
use Rattle.pyramid.specs.Inner.Lawful.{Side}
use Rattle.pyramid.proofs.Sizes.{last-suc, last_even, last_least}
use Rattle.pyramid.proofs.Edge.{read_inside, read_before, read_past}
use Rattle.pyramid.proofs.Weights.{even_parity}
use Rattle.pyramid.proofs.NodesRead.{taps_same}
use Rattle.pixel.specs.declared.axes.Axis.{Axis}
use Rattle.pixel.specs.declared.axes.Step.{Step}
use Rattle.pixel.specs.Definitions.Windows.{range_at, inside}
use Rattle.pixel.specs.Inner.Axes.{AxisOf, StepOf}
use Rattle.pixel.specs.Inner.Blocks.{extended, line_sum}
use Rattle.pixel.proofs.Ranges.{two_at_least, inside_is, every_node_read, range_most, first_is, halve, above_last}

-- ---- a place that EXPAND reads, by the column that it reflects to

module _ (a : Axis) (V : ℕ → ℤ) (wide : 2 ≤ a.end) where
  -- the place itself
  own : (n : ℕ) → n < a.end → 0 < n + a.next → extended a V n ≡ V n
  unfolding extended
  own zero h k = rw (ne_eqb a.end 0 (λ e. omega arith), ne_eqb a.next 0 (λ e. omega arith)) refl
  own (suc n) h k = rw (ne_eqb a.end (suc n) (λ e. omega arith), ne_eqb (suc n) 0 (λ e. omega arith)) refl

  -- the one before column 0
  before : a.next ≡ 0 → extended a V 0 ≡ V 2
  unfolding extended
  before e = rw (ne_eqb a.end 0 (λ e. omega arith), eq-eqb a.next 0 e) refl

  -- the one after the last
  after : (n : ℕ) → a.end ≡ n → extended a V n ≡ V (n - 2)
  unfolding extended
  after n e = rw (eq-eqb a.end n e) refl

  module _ (z q n : ℕ) (stands : n + a.next + 1 ≡ q) (least : 1 ≤ z) (ends : a.next + a.end ≤ z + 2) (far : z + 2 < q → a.next + a.end ≡ z + 2) (most : q ≤ z + 3)
      (within : q ≤ z + 2 → q < a.next + a.end + 1) where
    pub reflected_at : extended a V n ≡ V (reflect z q + 1 - a.next)
    reflected_at = cases (dec_lt 1 q) (dec_lt (z + 2) q)
      where
        cases : Dec (1 < q) → Dec (z + 2 < q) → extended a V n ≡ V (reflect z q + 1 - a.next)
        cases (no h) d =
            let none : n ≡ 0 = omega arith in
            let next : a.next ≡ 0 = omega arith in
            let column : 1 ≡ reflect z q = read_before z q {column = 1} (omega arith) least in
            rw none (before next ∙ ap V (omega (arith, column)))
        cases (yes h) (yes k) =
            let column : z - 1 ≡ reflect z q = read_past z q {column = z - 1} (omega arith) (omega arith) in
            after n (omega (arith, far k)) ∙ ap V (omega (arith, column, far k))
        cases (yes h) (no k) =
            let column : q - 2 ≡ reflect z q = read_inside z q {column = q - 2} (omega arith) (omega arith) in
            own n (omega (arith, within (omega arith))) (omega arith) ∙ ap V (omega (arith, column))

-- ---- one axis

module _ {side depth p : ℕ} (h : Side side depth) (here : p < side) (l : ℕ) (deep : suc l ≤ depth) where
  abbrev z : ℕ
  z = last side (suc l)

  twice : last side l ≡ 2 * z
  twice = omega (arith, last-suc side l, last_even h l deep)

  -- a tap that is taken of column i
  pub column_held : (i t : ℕ) → T (inside (range_at side p l) i) → t < 5 → (i + t) % 2 ≡ 0 → T (inside (range_at side p (suc l)) (reflect z (halved i t)))
  unfolding range_at
  column_held i t held ht taken = every_node_read z (last_least h (suc l) deep) (range_at side p l) i t (omega (arith, twice, range_most side p here l)) held ht taken

module _ {side depth p : ℕ} (h : Side side depth) (here : p < side) (l : ℕ) (deep : suc l ≤ depth) (a : Step) (of : StepOf side p l a) where
  -- such a tap, of the values in a block
  module _ (i t : ℕ) (held : T (inside (range_at side p l) i)) (ht : t < 5) (taken : (i + t) % 2 ≡ 0) where
    abbrev place : ℕ
    place = (a.below % 2 + (i + 1 - (p + 1) / 2 ^ l) + 3 - t) / 2

    pub tap_is : (V U : ℕ → ℤ) → ((x : ℕ) → T (inside (range_at side p (suc l)) x) → V (x + 1 - (p + 1) / 2 ^ suc l) ≡ U x)
        → extended a.above V place ≡ U (reflect (last side (suc l)) (halved i t))
    tap_is V U same =
        let (low, high) = (inside_is (range_at side p l) i).0 held in
        let first = first_is side p here l in
        let half = halve (p + 1) l in
        let up = above_last side p l in
        let least = last_least h (suc l) deep in
        let kept = range_most side p here (suc l) in
        let next = of.above_is.next_is in
        let end = of.above_is.end_is in
        let below = of.below_is in
        reflected_at a.above V a.wide (last side (suc l)) (halved i t) place (omega (arith, next, half, below, first, low)) least (omega (arith, end, kept)) (λ k. omega (arith, end, up, high, k))
        (omega (arith, high, range_most side p here l, twice h here l deep)) (λ k. omega (arith, end, up, high, k))
        ∙ ap (λ (c : ℕ). V (reflect (last side (suc l)) (halved i t) + 1 - c)) next
        ∙ same (reflect (last side (suc l)) (halved i t)) (column_held h here l deep i t held ht taken)

  pub line_is : (k : ℕ) (V U : ℕ → ℤ) → ((x : ℕ) → T (inside (range_at side p (suc l)) x) → V (x + 1 - (p + 1) / 2 ^ suc l) ≡ U x)
      → (i : ℕ) → T (inside (range_at side p l) i)
      → line_sum k a.below (extended a.above V) (i + 1 - (p + 1) / 2 ^ l) ≡ sum 5 (λ t. even_weight k i t *ℤ U (reflect (last side (suc l)) (halved i t)))
  unfolding line_sum
  line_is k V U same i held =
      let (low, _) = (inside_is (range_at side p l) i).0 held in
      let parity : (a.below % 2 + (i + 1 - (p + 1) / 2 ^ l) + 1) % 2 ≡ i % 2 = omega (arith, of.below_is, first_is side p here l, low) in
      rw (even_parity k (a.below % 2 + (i + 1 - (p + 1) / 2 ^ l) + 1), parity, ← even_parity k i)
      (taps_same k i _ _ (λ t ht taken. tap_is i t held ht taken V U same))

-- ---- the step from the window above, which has two columns (rows) or more

pub axis_wide : {side depth p : ℕ} (h : Side side depth) (here : p < side) (l : ℕ) → suc l ≤ depth → {a : Axis} → AxisOf side p (suc l) a → 2 ≤ a.end
axis_wide h here l deep of = omega (arith, of.next_is, of.end_is, two_at_least h here l deep)

pub step_of : {side p l : ℕ} (s : Step) {a : Axis} → (s.below ≡ (p + 1) / 2 ^ l) × (s.above ≡ a) → AxisOf side p (suc l) a → StepOf side p l s
step_of s e of = record { below_is = e.0; above_is = rw e.1 of }

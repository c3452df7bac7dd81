-- The range of a window along one axis: which columns (rows) are in it, how many they are, that it holds what EXPAND takes, and where it lies by
-- the pixel's column (row). Assumes nothing.
use mathlib.Core.Path.{◌≡◌, refl, sym, ap, ◌∙◌}
use mathlib.Core.Logic.{◌↔◌}
use Prim.Native.Nat.{ℕ, zero, suc, ◌+◌, ◌-◌, ◌*◌, ◌/◌, ◌%◌, ◌^◌, ◌≤◌, ◌<◌, min}
use native.Mathlib.Nat.{mod-eq_of_lt, pow-le-pow_right, div-one, div-div-eq-div-mul, pow-suc, mul-le-mul, one-le-pow}
use native.Mathlib.Omega.{arith}
use lib.Dec.{T, leb}
use Rattle.std.proofs.Math.Nat.{add-mul-div_right}
use Rattle.pyramid.specs.declared.Settings.{Settings}
use Rattle.pyramid.specs.Definitions.Sizes.{last}
use Rattle.pyramid.specs.Definitions.Edge.{reflect}
use Rattle.pyramid.specs.Definitions.Steps.{halved}
use Rattle.pyramid.specs.Inner.Lawful.{Side}
use Rattle.pyramid.proofs.Rules.{both_say}
use Rattle.pyramid.proofs.RuleTests.{le_decides}
use Rattle.pyramid.proofs.Sizes.{last-zero, last-suc, last_even}
use Rattle.pixel.specs.Definitions.Windows.{Range, above, range_at, inside, count, window_nodes, nodes_read}
use Rattle.pixel.specs.Theorems.Windows.{EveryNodeRead, FewNodes}

-- ---- what is in a range

pub inside_is : (r : Range) (x : ℕ) → T (inside r x) ↔ ((r.first ≤ x) × (x ≤ r.last))
unfolding inside
inside_is r x = both_say (leb r.first x) (leb x r.last) (le_decides r.first x) (le_decides x r.last)

pub every_node_read : EveryNodeRead
unfolding above reflect
every_node_read z least r i t upto held ht even =
    let (low, high) = (inside_is r i).0 held in
    (inside_is (above z r) (reflect z (halved i t))).1 (omega arith, omega arith)

-- ---- how many

-- from one column to at most three, and then to at most four
three : (z : ℕ) (r : Range) → r.last ≤ r.first → (above z r).last ≤ (above z r).first + 2
unfolding above
three z r h = omega arith

four : (z : ℕ) (r : Range) → r.last ≤ r.first + 3 → (above z r).last ≤ (above z r).first + 3
unfolding above
four z r h = omega arith

module _ (side p : ℕ) where
  first_three : (range_at side p 1).last ≤ (range_at side p 1).first + 2
  unfolding range_at
  first_three = three (last side 1) (range_at side p 0) (omega arith)

  pub at_most_four : (l : ℕ) → (range_at side p l).last ≤ (range_at side p l).first + 3
  unfolding range_at
  at_most_four zero = omega arith
  at_most_four (suc l) = four (last side (suc l)) (range_at side p l) (at_most_four l)

  one : count (range_at side p 0) ≡ 1
  unfolding count range_at
  one = omega arith

  count_three : count (range_at side p 1) ≤ 3
  unfolding count
  count_three = omega (arith, first_three)

  count_four : (l : ℕ) → count (range_at side p l) ≤ 4
  unfolding count
  count_four l = omega (arith, at_most_four l)

pub few_nodes : (s : Settings) (column row : ℕ) → FewNodes s column row
unfolding nodes_read
few_nodes s column row = record { alone = rw (one s.columns column, one s.rows row) refl; most = most }
  where
    level : (l : ℕ) → window_nodes s column row l ≤ 16
    level l = mul-le-mul (count_four s.rows row l) (count_four s.columns column l)

    most : (n : ℕ) → nodes_read s column row (suc n) ≤ 1 + 9 + 16 * n
    most zero =
        let nine : window_nodes s column row 1 ≤ 9 = mul-le-mul (count_three s.rows row) (count_three s.columns column) in
        let alone : window_nodes s column row 0 ≡ 1 = rw (one s.columns column, one s.rows row) refl in
        omega arith
    most (suc n) = omega (arith, level (suc (suc n)), most n)

pub nodes_most : (s : Settings) (column row n : ℕ) → n ≤ 6 → nodes_read s column row n ≤ 90
nodes_most s column row zero h = omega (arith, (few_nodes s column row).alone)
nodes_most s column row (suc n) h = omega (arith, (few_nodes s column row).most n)

-- ---- where it lies

-- halved once more
pub halve : (n l : ℕ) → n / 2 ^ suc l ≡ n / 2 ^ l / 2
halve n l = ap (λ (m : ℕ). n / m) (pow-suc 2 l) ∙ sym (div-div-eq-div-mul n (2 ^ l) 2)

module _ (side p : ℕ) (here : p < side) where
  -- the last column (row) before it is kept inside
  abbrev farthest : ℕ → ℕ
  farthest l = (p + 2 * 2 ^ l - 2) / 2 ^ l

  farthest_next : (l : ℕ) → farthest (suc l) ≡ (farthest l + 2) / 2
  farthest_next l =
      let least : 1 ≤ 2 ^ l = one-le-pow l 2 (omega arith) in
      let more : p + 2 * 2 ^ suc l - 2 ≡ p + 2 * 2 ^ l - 2 + 2 * 2 ^ l = omega (arith, pow-suc 2 l) in
      halve (p + 2 * 2 ^ suc l - 2) l
      ∙ ap (λ (n : ℕ). n / 2 ^ l / 2) more
      ∙ ap (λ (n : ℕ). n / 2) (add-mul-div_right (p + 2 * 2 ^ l - 2) 2 (omega arith))

  pub first_is : (l : ℕ) → (range_at side p l).first ≡ (p + 1) / 2 ^ l - 1
  unfolding range_at above
  first_is zero = omega (arith, div-one (p + 1))
  first_is (suc l) = rw (first_is l, halve (p + 1) l) (omega arith)

  pub last_is : (l : ℕ) → (range_at side p l).last ≡ min (farthest l) (last side l)
  unfolding range_at above
  last_is zero = omega (arith, div-one (p + 2 * 1 - 2), last-zero side)
  last_is (suc l) = rw (last_is l, farthest_next l, last-suc side l) (omega arith)

  pub range_most : (l : ℕ) → (range_at side p l).last ≤ last side l
  unfolding range_at above
  range_most zero = omega (arith, last-zero side)
  range_most (suc l) = omega arith

  -- it is not before the first
  pub next_most : (l : ℕ) → (p + 1) / 2 ^ l ≤ (range_at side p l).last + 1
  unfolding range_at above
  next_most zero = omega (arith, div-one (p + 1))
  next_most (suc l) = omega (arith, halve (p + 1) l, next_most l, range_most l, last-suc side l)

-- the next one's last
pub above_last : (side p l : ℕ) → (range_at side p (suc l)).last ≡ min (((range_at side p l).last + 2) / 2) (last side (suc l))
unfolding range_at above
above_last side p l = refl

-- nor far behind it
pub last_near : (side p l : ℕ) → (range_at side p l).last ≤ (p + 1) / 2 ^ l + 2
unfolding range_at above
last_near side p zero = omega (arith, div-one (p + 1))
last_near side p (suc l) = omega (arith, halve (p + 1) l, last_near side p l)

-- above level 0 the window has two columns (rows) or more
module _ {side depth p : ℕ} (h : Side side depth) (here : p < side) where
  next_inside : (l : ℕ) → suc l ≤ depth → (p + 1) / 2 ^ suc l ≤ last side (suc l)
  next_inside zero d = omega (arith, halve (p + 1) 0, div-one (p + 1), last-suc side 0, last-zero side, last_even h 0 d)
  next_inside (suc l) d = omega (arith, halve (p + 1) (suc l), next_inside l (omega arith), last-suc side (suc l))

  pub two_at_least : (l : ℕ) → suc l ≤ depth → (p + 1) / 2 ^ suc l ≤ (range_at side p (suc l)).last
  unfolding range_at above
  two_at_least l d = omega (arith, halve (p + 1) l, next_most side p here l, next_inside l d)

-- a shift to the left, of 64 bits
pub shifted : (l : ℕ) → l ≤ 6 → 2 * 2 ^ l % 2 ^ 64 ≡ 2 * 2 ^ l
shifted l h = mod-eq_of_lt (omega (arith, pow-le-pow_right {n = 2} (omega arith) h))

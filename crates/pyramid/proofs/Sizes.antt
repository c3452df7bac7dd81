-- Laws of the levels' sizes: halving, at least two columns and rows, at most the picture's, and T of at most 22,359. Assumes nothing.
use mathlib.Core.Path.{◌≡◌, refl, sym, ap, ◌∙◌}
use mathlib.Core.List.{[]}
use Prim.Native.Nat.{ℕ, zero, suc, ◌+◌, ◌-◌, ◌*◌, ◌/◌, ◌%◌, ◌^◌, ◌≤◌, ◌<◌}
use native.Mathlib.Nat.{div-one, div-le_self, div-div-eq-div-mul, pow-suc, le-div_iff_mul-le, one-le-pow, pow-le-pow_right, le_of_dvd, dvd_of_mod-eq-zero, add-zero, add-suc, le_refl, mul-le-mul, zero-div}
use native.Mathlib.Omega.{arith}
use lib.Pow.{mod-mod-pow, field}
use lib.Dec.{lit≤}
use Rattle.pyramid.specs.declared.Settings.{Settings}
use Rattle.pyramid.specs.Definitions.Sizes.{last, columns_at, rows_at, nodes_at, nodes_to, total}
use Rattle.pyramid.specs.Inner.Lawful.{Side, Shaped}

-- ---- one side

pub last-is : (side l : ℕ) → last side l ≡ (side - 1) / 2 ^ l
unfolding last
last-is side l = refl

pub last-zero : (side : ℕ) → last side 0 ≡ side - 1
unfolding last
last-zero side = div-one (side - 1)

pub last-suc : (side l : ℕ) → last side (suc l) ≡ last side l / 2
unfolding last
last-suc side l = ap (λ (m : ℕ). (side - 1) / m) (pow-suc 2 l) ∙ sym (div-div-eq-div-mul (side - 1) (2 ^ l) 2)

-- the same of the number of columns (rows), which is one more than the last
pub count_zero : (side : ℕ) → 1 ≤ side → side ≡ last side 0 + 1
count_zero side h = omega (arith, last-zero side)

pub last_most : (side l : ℕ) → last side l ≤ side - 1
unfolding last
last_most side l = div-le_self (side - 1) (2 ^ l)

-- a side of 16 bits has no column but the first from level 16 on
pub last_far : (side d : ℕ) → side ≤ 65535 → last side (d + 16) ≡ 0
unfolding last
last_far side zero h = omega (arith, h)
last_far side (suc d) h = let e : suc d + 16 ≡ suc (d + 16) = omega arith in ap (last side) e ∙ last-suc side (d + 16) ∙ rw (last_far side d h) (omega arith)

-- a longer side has at least as many
pub last_mono : (short long l : ℕ) → short ≤ long → last short l ≤ last long l
last_mono short long zero h = omega (arith, last-zero short, last-zero long)
last_mono short long (suc l) h = omega (arith, last_mono short long l h, last-suc short l, last-suc long l)

-- a level has at least two columns
pub last_least : {side depth : ℕ} → Side side depth → (l : ℕ) → l ≤ depth → 1 ≤ last side l
unfolding last
last_least {side} {depth} h l hl =
    (le-div_iff_mul-le (one-le-pow l 2 (omega arith))).1 (omega (arith, fits, pow-le-pow_right {n = 2} (omega arith) hl))
  where
    fits : 2 ^ depth ≤ side - 1
    fits = le_of_dvd (omega (arith, h.least)) (dvd_of_mod-eq-zero (2 ^ depth) h.whole)

-- below the top the last column's number is even
pub last_even : {side depth : ℕ} → Side side depth → (l : ℕ) → l < depth → last side l % 2 ≡ 0
unfolding last
last_even {side} {depth} h l hl =
    sym (mod-mod-pow ((side - 1) / 2 ^ l) (depth - l - 1) 1)
    ∙ ap (λ (n : ℕ). n % 2) (ap (λ (n : ℕ). (side - 1) / 2 ^ l % 2 ^ n) (omega arith) ∙ sym (field (side - 1) (depth - l) l)
    ∙ ap (λ (n : ℕ). (side - 1) % 2 ^ n / 2 ^ l) (omega arith) ∙ ap (λ (n : ℕ). n / 2 ^ l) h.whole ∙ zero-div (2 ^ l))

-- so a level has two to 129
pub count_range : {side depth l r : ℕ} → Side side depth → l ≤ depth → r ≡ last side l → (r + 1 ≡ last side l + 1) × (2 ≤ r + 1) × (r + 1 ≤ 129)
count_range {side} {depth} {l} h hl e =
    let most = last_most side l in
    let least = last_least h l hl in
    (omega arith, omega arith, omega (arith, h.most))

-- ---- the nodes of one level

pub nodes_small : (s : Settings) → Shaped s → (l : ℕ) → nodes_at s l ≤ 16641
nodes_small s shape l =
    let across : columns_at s l ≤ 129 = omega (arith, last_most s.columns l, shape.across.most) in
    let along : rows_at s l ≤ 129 = omega (arith, last_most s.rows l, shape.along.most) in
    mul-le-mul along across

-- ---- the nodes of the levels together

module _ (s : Settings) where
  pub nodes_to-zero : nodes_to s 0 ≡ nodes_at s 0
  unfolding nodes_to
  nodes_to-zero = refl

  pub nodes_to-suc : (l : ℕ) → nodes_to s (suc l) ≡ nodes_at s (suc l) + nodes_to s l
  unfolding nodes_to
  nodes_to-suc l = refl

  -- a level's nodes, and those of the levels below it
  pub nodes_down : (l : ℕ) → (l ≡ 0 → ⊥) → nodes_to s l ≡ nodes_at s l + nodes_to s (l - 1)
  nodes_down zero some = absurd (some refl)
  nodes_down (suc l) some = let e : suc l - 1 ≡ l = omega arith in rw e (nodes_to-suc l)

  pub total-is : total s ≡ nodes_to s s.depth
  unfolding total
  total-is = refl

  grows : (n m : ℕ) → nodes_to s n ≤ nodes_to s (n + m)
  grows n zero = rw add-zero (le_refl (nodes_to s n))
  grows n (suc m) = rw add-suc (omega (arith, nodes_to-suc (n + m), grows n m))

  pub nodes_to_mono : (n m : ℕ) → n ≤ m → nodes_to s n ≤ nodes_to s m
  nodes_to_mono n m h = let e : n + (m - n) ≡ m = omega arith in rw e at (grows n (m - n))

-- a picture that is no narrower and no lower has at least as many nodes
module _ (s t : Settings) (wide : s.columns ≤ t.columns) (tall : s.rows ≤ t.rows) where
  level_nodes : (l : ℕ) → nodes_at s l ≤ nodes_at t l
  level_nodes l =
      let across : columns_at s l ≤ columns_at t l = omega (arith, last_mono s.columns t.columns l wide) in
      let along : rows_at s l ≤ rows_at t l = omega (arith, last_mono s.rows t.rows l tall) in
      mul-le-mul along across

  pub nodes_of_size : (n : ℕ) → nodes_to s n ≤ nodes_to t n
  nodes_of_size zero = omega (arith, nodes_to-zero s, nodes_to-zero t, level_nodes 0)
  nodes_of_size (suc n) = omega (arith, nodes_to-suc s n, nodes_to-suc t n, level_nodes (suc n), nodes_of_size n)

-- the most columns, rows and levels
largest : Settings
largest = record { columns = 129; rows = 129; depth = 6; kernel = 3; black = 0; white = 255; bins = [] }

pub nodes_to_most : (s : Settings) → Shaped s → (n : ℕ) → n ≤ 6 → nodes_to s n ≤ 22359
unfolding largest
nodes_to_most s shape n h =
    let most : nodes_to largest 6 ≤ 22359 = lit≤ (unfold nodes_to last in tt) in
    omega (arith, nodes_to_mono s n 6 h, nodes_of_size s largest shape.across.most shape.along.most 6)

-- levels 0 to any level, past the depth too
pub nodes_to_room : (s : Settings) → Shaped s → (n : ℕ) → nodes_to s n ≤ 16641 * suc n
unfolding nodes_to
nodes_to_room s shape zero = omega (arith, nodes_small s shape 0)
nodes_to_room s shape (suc n) = omega (arith, nodes_small s shape (suc n), nodes_to_room s shape n)

pub total_most : (s : Settings) → Shaped s → total s ≤ 22359
total_most s shape = rw (total-is s) (nodes_to_most s shape s.depth shape.deep)

-- A block of sixteen values: its rows as they are passed on, the sums of each down a column, and how far from 0 they are. Assumes nothing.
use mathlib.Core.Path.{◌≡◌, refl, ap, ◌∙◌, subst}
use mathlib.Core.List.{List, [], ◌∷◌, map}
use Prim.Native.Nat.{ℕ, zero, suc, ◌+◌, ◌*◌, ◌/◌, ◌<◌}
use native.Mathlib.Omega.{arith}
use lib.Dec.{lit<}
use lib.IntN.{ℤ, pos}
use lib.ListN.{get_or}
use mir.Syntax.{w32}
use mir.Val.{SFits}
use Rattle.mathematics.specs.Definitions.Tables.{tabulate}
use Rattle.mathematics.proofs.Distance.{Near, near_more, near_zero, abs_near}
use Rattle.mathematics.proofs.Held.{held, held_is}
use Rattle.mathematics.proofs.Tables.{tabulate-same, get_or-tabulate}
use Rattle.quantizer.specs.Definitions.Rounding.{round_div}
use Rattle.quantizer.proofs.Rounding.{round_whole, round_near}
use Rattle.pyramid.specs.Definitions.Buffers.{raster}
use Rattle.pyramid.specs.Inner.Lawful.{Kernel}
use Rattle.pyramid.specs.Inner.Rows.{as_level, Within, Small}
use Rattle.pyramid.proofs.Buffers.{raster_at, raster-same}
use Rattle.pyramid.proofs.LevelParts.{map-raster}
use Rattle.pyramid.proofs.SmallBuffers.{by_length, small-tabulate, small-raster}
use Rattle.pyramid.proofs.TapSums.{within_more, within_fits}
use Rattle.pixel.specs.declared.axes.Axis.{Axis}
use Rattle.pixel.specs.declared.axes.Step.{Step}
use Rattle.pixel.specs.Inner.Blocks.{extended, extended_rows, line_sum, row_sums, block_sum}
use Rattle.pixel.proofs.Lines.{extended_within, extended-same, line-same, line_within}

-- ---- a row, as it is passed on

module _ (values : List ℤ) (small : Small 8388608 values) (y : ℕ) {p q r s : ℕ} (ep : p ≡ y * 4) (eq : q ≡ y * 4 + 1) (er : r ≡ y * 4 + 2) (es : s ≡ y * 4 + 3) where
  abbrev passed : List ℤ
  passed = held (get_or values p (pos 0)) ∷ held (get_or values q (pos 0)) ∷ held (get_or values r (pos 0)) ∷ held (get_or values s (pos 0)) ∷ []

  at : {i : ℕ} (j : ℕ) → i ≡ j → held (get_or values i (pos 0)) ≡ get_or values j (pos 0)
  at {i} j e = held_is (within_fits tt (small i)) ∙ ap (λ (i : ℕ). get_or values i (pos 0)) e

  pub row_passed : (n : ℕ) → n < 4 → get_or passed n (pos 0) ≡ as_level 4 values n y
  unfolding as_level
  row_passed zero h = at (y * 4 + 0) (omega arith)
  row_passed (suc zero) h = at (y * 4 + 1) eq
  row_passed (suc (suc zero)) h = at (y * 4 + 2) er
  row_passed (suc (suc (suc zero))) h = at (y * 4 + 3) es
  row_passed (suc (suc (suc (suc n)))) h = absurd (omega arith)

  -- its sums, and what it holds beyond an edge
  pub row_summed : (k next : ℕ) {l : List ℤ} → l ≡ tabulate 4 (line_sum k next (λ n. get_or passed n (pos 0)))
      → l ≡ tabulate 4 (line_sum k next (λ x. as_level 4 values x y))
  row_summed k next is = is ∙ tabulate-same 4 _ _ (line-same (λ n. get_or passed n (pos 0)) (λ x. as_level 4 values x y) row_passed k next)

  pub row_extended : (a : Axis) {l : List ℤ} → l ≡ tabulate 4 (extended a (λ n. get_or passed n (pos 0))) → l ≡ tabulate 4 (λ n. extended_rows a values n y)
  unfolding extended_rows
  row_extended a is = is ∙ tabulate-same 4 _ _ (extended-same (λ n. get_or passed n (pos 0)) (λ x. as_level 4 values x y) row_passed a)

-- ---- a block with what is beyond an edge

pub extended_small : {e : ℕ} (a : Axis) (values : List ℤ) → Small e values → (n y : ℕ) → Within e (extended_rows a values n y)
unfolding extended_rows as_level
extended_small a values small n y = extended_within a (λ x. get_or values (y * 4 + x) (pos 0)) (λ x. small (y * 4 + x)) n

pub block_extended : (F : ℕ → ℕ → ℤ) → ((n y : ℕ) → SFits w32 (F n y)) → {a b c d : List ℤ}
    → a ≡ tabulate 4 (λ n. F n 0) → b ≡ tabulate 4 (λ n. F n 1) → c ≡ tabulate 4 (λ n. F n 2) → d ≡ tabulate 4 (λ n. F n 3)
    → held (get_or a 0 (pos 0)) ∷ held (get_or a 1 (pos 0)) ∷ held (get_or a 2 (pos 0)) ∷ held (get_or a 3 (pos 0))
    ∷ held (get_or b 0 (pos 0)) ∷ held (get_or b 1 (pos 0)) ∷ held (get_or b 2 (pos 0)) ∷ held (get_or b 3 (pos 0))
    ∷ held (get_or c 0 (pos 0)) ∷ held (get_or c 1 (pos 0)) ∷ held (get_or c 2 (pos 0)) ∷ held (get_or c 3 (pos 0))
    ∷ held (get_or d 0 (pos 0)) ∷ held (get_or d 1 (pos 0)) ∷ held (get_or d 2 (pos 0)) ∷ held (get_or d 3 (pos 0)) ∷ [] ≡ raster 4 4 F
unfolding raster tabulate
block_extended F fits ea eb ec ed =
    rw (
      ea,
      eb,
      ec,
      ed,
      held_is (fits 0 0),
      held_is (fits 1 0),
      held_is (fits 2 0),
      held_is (fits 3 0),
      held_is (fits 0 1),
      held_is (fits 1 1),
      held_is (fits 2 1),
      held_is (fits 3 1),
      held_is (fits 0 2),
      held_is (fits 1 2),
      held_is (fits 2 2),
      held_is (fits 3 2),
      held_is (fits 0 3),
      held_is (fits 1 3),
      held_is (fits 2 3),
      held_is (fits 3 3),
    ) refl

-- a row's sums, of such a block
module _ (k : ℕ) (columns : Step) (values : List ℤ) {block : List ℤ} (is : block ≡ raster 4 4 (extended_rows columns.above values)) where
  read : (n y : ℕ) → n < 4 → y < 4 → as_level 4 block n y ≡ extended_rows columns.above values n y
  unfolding as_level
  read n y hn hy = rw is (raster_at 4 4 (extended_rows columns.above values) (pos 0) n y hn hy)

  pub sums_of : (y : ℕ) → y < 4 → {l : List ℤ} → l ≡ tabulate 4 (line_sum k columns.below (λ x. as_level 4 block x y)) → l ≡ tabulate 4 (row_sums k columns values y)
  unfolding row_sums extended_rows
  sums_of y hy made =
      made ∙ tabulate-same 4 _ _ (line-same (λ x. as_level 4 block x y) (extended columns.above (λ x. as_level 4 values x y)) (λ n hn. read n y hn hy) k columns.below)

  pub extended_block-small : {e : ℕ} → Small e values → Small e block
  extended_block-small small = rw is (small-raster 4 4 _ (omega arith) (λ n y hn hy. extended_small columns.above values small n y))

-- ---- the sums of four rows, down the columns

pub rows_made : (G : ℕ → ℕ → ℤ) → ((y m : ℕ) → SFits w32 (G y m)) → {a b c d : List ℤ}
    → a ≡ tabulate 4 (G 0) → b ≡ tabulate 4 (G 1) → c ≡ tabulate 4 (G 2) → d ≡ tabulate 4 (G 3)
    → held (get_or a 0 (pos 0)) ∷ held (get_or b 0 (pos 0)) ∷ held (get_or c 0 (pos 0)) ∷ held (get_or d 0 (pos 0))
    ∷ held (get_or a 1 (pos 0)) ∷ held (get_or b 1 (pos 0)) ∷ held (get_or c 1 (pos 0)) ∷ held (get_or d 1 (pos 0))
    ∷ held (get_or a 2 (pos 0)) ∷ held (get_or b 2 (pos 0)) ∷ held (get_or c 2 (pos 0)) ∷ held (get_or d 2 (pos 0))
    ∷ held (get_or a 3 (pos 0)) ∷ held (get_or b 3 (pos 0)) ∷ held (get_or c 3 (pos 0)) ∷ held (get_or d 3 (pos 0)) ∷ [] ≡ raster 4 4 G
unfolding raster tabulate
rows_made G fits ea eb ec ed =
    rw (
      ea,
      eb,
      ec,
      ed,
      held_is (fits 0 0),
      held_is (fits 0 1),
      held_is (fits 0 2),
      held_is (fits 0 3),
      held_is (fits 1 0),
      held_is (fits 1 1),
      held_is (fits 1 2),
      held_is (fits 1 3),
      held_is (fits 2 0),
      held_is (fits 2 1),
      held_is (fits 2 2),
      held_is (fits 2 3),
      held_is (fits 3 0),
      held_is (fits 3 1),
      held_is (fits 3 2),
      held_is (fits 3 3),
    ) refl

-- ---- how far from 0 they are

pub sums_within : {k : ℕ} → Kernel k → (columns : Step) (e : ℕ) (values : List ℤ) → Small e values → (y m : ℕ) → Within (14 * e) (row_sums k columns values y m)
unfolding row_sums as_level
sums_within {k} lawful columns e values small y m =
    line_within lawful columns.below e _ (extended_within columns.above (λ x. get_or values (y * 4 + x) (pos 0)) (λ x. small (y * 4 + x))) m

pub block_within : {k : ℕ} → Kernel k → (columns rows : Step) (e : ℕ) (values : List ℤ) → Small e values → (m n : ℕ) → Within (14 * (14 * e)) (block_sum k columns rows values m n)
unfolding block_sum
block_within lawful columns rows e values small m n =
    line_within lawful rows.below (14 * e) _ (extended_within rows.above _ (λ y. sums_within lawful columns e values small y m)) n

-- such a sum over 100, rounded
pub rounded_within : (e : ℕ) {S : ℤ} → Within (14 * (14 * e)) S → Within ((196 * e + 99) / 100) (round_div S 100)
rounded_within e {S} h = record {
  small = abs_near (subst (Near ((196 * e + 99) / 100) (round_div S 100)) (round_whole (pos 0) 100 (lit< tt)) (round_near 100 ((196 * e + 99) / 100) (lit< tt) (near_more (omega arith) (near_zero S h.small))));
}

-- ---- the sums of the sums' rows are those of the block

module _ (k : ℕ) (columns rows : Step) (values : List ℤ) where
  sums_read : {sums : List ℤ} → sums ≡ raster 4 4 (row_sums k columns values) → (y m : ℕ) → y < 4 → m < 4 → as_level 4 sums y m ≡ row_sums k columns values y m
  unfolding as_level
  sums_read is y m hy hm = rw is (raster_at 4 4 (row_sums k columns values) (pos 0) y m hy hm)

  pub block_made : {sums expanded : List ℤ} → sums ≡ raster 4 4 (row_sums k columns values) → expanded ≡ raster 4 4 (row_sums k rows sums)
      → map (λ S. round_div S 100) expanded ≡ raster 4 4 (λ m n. round_div (block_sum k columns rows values m n) 100)
  unfolding row_sums block_sum
  block_made {sums} is made =
      rw made
      (map-raster (λ S. round_div S 100) 4 4 (row_sums k rows sums)
      ∙ raster-same 4 4 _ _ (λ m n hm hn. ap (λ (S : ℤ). round_div S 100)
      (line-same (extended rows.above (λ y. as_level 4 sums y m)) (extended rows.above (λ y. row_sums k columns values y m))
      (extended-same (λ y. as_level 4 sums y m) (λ y. row_sums k columns values y m) (λ y hy. sums_read is y m hy hm) rows.above) k rows.below n hn)))

  -- the first place alone, of the first sum of each row as it is passed on
  module _ (lawful : Kernel k) (small : Small 524288 values) {a b c d : List ℤ} (ea : a ≡ tabulate 4 (row_sums k columns values 0))
      (eb : b ≡ tabulate 4 (row_sums k columns values 1)) (ec : c ≡ tabulate 4 (row_sums k columns values 2)) (ed : d ≡ tabulate 4 (row_sums k columns values 3)) where
    abbrev firsts : List ℤ
    firsts = held (get_or a 0 (pos 0)) ∷ held (get_or b 0 (pos 0)) ∷ held (get_or c 0 (pos 0)) ∷ held (get_or d 0 (pos 0)) ∷ []

    within : (y : ℕ) → Within 7340032 (row_sums k columns values y 0)
    within y = sums_within lawful columns 524288 values small y 0

    first_of : (y : ℕ) {l : List ℤ} → l ≡ tabulate 4 (row_sums k columns values y) → held (get_or l 0 (pos 0)) ≡ row_sums k columns values y 0
    unfolding tabulate
    first_of y is = rw is (held_is (within_fits tt (within y)))

    first_passed : (y : ℕ) → y < 4 → get_or firsts y (pos 0) ≡ row_sums k columns values y 0
    first_passed zero h = first_of 0 ea
    first_passed (suc zero) h = first_of 1 eb
    first_passed (suc (suc zero)) h = first_of 2 ec
    first_passed (suc (suc (suc zero))) h = first_of 3 ed
    first_passed (suc (suc (suc (suc y)))) h = absurd (omega arith)

    pub firsts-small : Small 8388608 firsts
    firsts-small = by_length firsts (λ y h. rw (first_passed y h) (within_more (omega arith) (within y)))

    pub first_made : {down l row : List ℤ} → down ≡ tabulate 4 (extended rows.above (λ n. get_or firsts n (pos 0)))
        → l ≡ tabulate 4 (line_sum k rows.below (λ n. get_or down n (pos 0)))
        → row ≡ round_div (held (get_or l 0 (pos 0))) 100 ∷ [] → held (get_or row 0 (pos 0)) ≡ round_div (block_sum k columns rows values 0 0) 100
    unfolding block_sum tabulate
    first_made {down} {l} below is one =
        let whole : Within (14 * (14 * 524288)) (block_sum k columns rows values 0 0) = block_within lawful columns rows 524288 values small 0 0 in
        let line : (n : ℕ) → n < 4 → get_or down n (pos 0) ≡ extended rows.above (λ y. row_sums k columns values y 0) n =
        λ n h. ap (λ (d : List ℤ). get_or d n (pos 0)) below ∙ get_or-tabulate 4 (extended rows.above (λ n. get_or firsts n (pos 0))) (pos 0) n h
        ∙ extended-same (λ n. get_or firsts n (pos 0)) (λ y. row_sums k columns values y 0) first_passed rows.above n h in
        let sum : held (get_or l 0 (pos 0)) ≡ block_sum k columns rows values 0 0 =
        rw is (rw (line-same (λ n. get_or down n (pos 0)) (extended rows.above (λ y. row_sums k columns values y 0)) line k rows.below 0 (omega arith)) (held_is (within_fits tt whole))) in
        rw (one, sum) (held_is (within_fits tt (rounded_within 524288 whole)))

    pub down-small : {down : List ℤ} → down ≡ tabulate 4 (extended rows.above (λ n. get_or firsts n (pos 0))) → Small 8388608 down
    down-small below = rw below (small-tabulate 4 _ (λ n h. extended_within rows.above (λ n. get_or firsts n (pos 0)) firsts-small n))

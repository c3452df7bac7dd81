-- Five rows of row sums: a row that is put in, the rows that the column pass reads, and that its nodes are those of REDUCE. Assumes nothing.
use mathlib.Core.Path.{◌≡◌, refl, sym, ap, ◌∙◌}
use mathlib.Core.List.{List, map}
use Prim.Native.Nat.{ℕ, ◌+◌, ◌-◌, ◌*◌, ◌/◌, ◌%◌, ◌≤◌, ◌<◌, min}
use native.Mathlib.Nat.{le_trans, mul-le-mul_right, mod-lt}
use native.Mathlib.Decide.{ℕ_discrete, dec_lt}
use native.Mathlib.Omega.{arith}
use lib.IntN.{ℤ, pos, ◌+ℤ◌, ◌*ℤ◌}
use lib.ListN.{length, get_or, take, replicate, length-replicate}
use Rattle.mathematics.specs.Definitions.Sums.{sum}
use Rattle.mathematics.specs.Definitions.Tables.{tabulate}
use Rattle.mathematics.specs.Inner.Splices.{splice, part}
use Rattle.mathematics.proofs.Sums.{sum_same}
use Rattle.std.proofs.lemmas.List.{length-take-le}
use Rattle.mathematics.proofs.Each.{each_take, each_replicate, each_splice}
use Rattle.mathematics.proofs.Splices.{length-splice, part-before, part_after, get_or-splice, get_or-part}
use Rattle.mathematics.proofs.Tables.{length-tabulate, get_or-tabulate, tabulate-same, map-tabulate}
use Rattle.quantizer.specs.Definitions.Rounding.{round_div}
use Rattle.pyramid.specs.Inner.Lawful.{Kernel}
use Rattle.pyramid.specs.Definitions.Sizes.{Level}
use Rattle.pyramid.specs.Definitions.Weights.{weight}
use Rattle.pyramid.specs.Definitions.Edge.{reflect}
use Rattle.pyramid.specs.Definitions.Steps.{reduce}
use Rattle.pyramid.specs.Definitions.Passes.{row_pass, column_pass}
use Rattle.pyramid.specs.Inner.Rows.{as_level, row_at, Within, Small}
use Rattle.pyramid.specs.Inner.RowSums.{in_turn, LastSums}
use Rattle.pyramid.proofs.Buffers.{row_inside}
use Rattle.pyramid.proofs.ColumnSums.{row_read, five_taps}
use Rattle.pyramid.proofs.Edge.{read_inside, reduce_inside, reduce_from, reduce_upto}
use Rattle.pyramid.proofs.Passes.{rows_then_columns}
use Rattle.pyramid.proofs.SmallBuffers.{by_length, small-tabulate}
use Rattle.pyramid.proofs.Weights.{weight-size}
use Rattle.pyramid.proofs.WeightedSums.{taps_small}

-- ---- a row sum of small values is small

pub row_pass_within : {k : ℕ} → Kernel k → (z i y columns : ℕ) (src : List ℤ) → Small 4096 src → Within 98304 (row_pass k z (as_level columns src) i y)
unfolding row_pass as_level
row_pass_within {k} h z i y columns src small = record {
  small =
      le_trans (taps_small (weight k) (λ t. as_level columns src (reflect z (2 * i + t)) y) 5 4096 (omega arith) (λ t ht. (small (y * columns + reflect z (2 * i + t))).small))
      (mul-le-mul_right 4096 (weight-size h));
}

-- ---- the sums along row y of a level

module _ (k columns rows y : ℕ) (src : List ℤ) {row : List ℤ} (is : row ≡ row_at columns rows (y + 2) src) (long : length row ≡ columns) (inside : y < rows) where
  -- a value of the row
  value_read : (x : ℕ) → x < columns → get_or row x (pos 0) ≡ as_level columns src x y
  value_read x h =
      row_read columns rows (y + 2) x src is h
      ∙ ap (as_level columns src x) (sym (read_inside (rows - 1) (y + 2) refl (omega arith)))

  pub row_summed : 3 ≤ columns
      → tabulate ((length row - 1) / 2 + 1) (λ i. sum 5 (λ t. weight k t *ℤ get_or row (reflect (length row - 1) (2 * i + t)) (pos 0)))
      ≡ tabulate ((columns - 1) / 2 + 1) (λ i. row_pass k (columns - 1) (as_level columns src) i y)
  unfolding row_pass
  row_summed wide =
      rw long
      (tabulate-same ((columns - 1) / 2 + 1) _ _ (λ i h. sum_same 5 _ _ (λ t ht.
      ap (λ (v : ℤ). weight k t *ℤ v)
      (value_read (reflect (columns - 1) (2 * i + t)) (omega (arith, reduce_inside (columns - 1) i t (omega arith) (omega arith) ht))))))

-- ---- rows of n sums in a buffer

module _ (n r : ℕ) (xs l : List ℤ) (wide : length xs ≡ n) (room : r * n + n ≤ length l) where
  -- a sum of the row that was put in, and of another
  row_put : (i : ℕ) → i < n → as_level n (splice (r * n) xs l) i r ≡ get_or xs i (pos 0)
  unfolding as_level
  row_put i h = get_or-splice (r * n) xs l (pos 0) i (omega arith) (omega arith)

  apart : (s : ℕ) → (s ≡ r → ⊥) → Dec (s < r) → part (s * n) (s * n + n) (splice (r * n) xs l) ≡ part (s * n) (s * n + n) l
  apart s other (yes h) = part-before (r * n) xs l (omega arith) (s * n) (s * n + n) (omega arith) (row_inside n h)
  apart s other (no h) = let g : r < s = omega arith in part_after (r * n) xs l (omega arith) (s * n) (s * n + n) (omega (arith, row_inside n g))

  row_kept : (s i : ℕ) → (s ≡ r → ⊥) → i < n → as_level n (splice (r * n) xs l) i s ≡ as_level n l i s
  unfolding as_level
  row_kept s i other h =
      sym (get_or-part (s * n) (s * n + n) (splice (r * n) xs l) (pos 0) i (omega arith))
      ∙ ap (λ (p : List ℤ). get_or p i (pos 0)) (apart s other (dec_lt s r))
      ∙ get_or-part (s * n) (s * n + n) l (pos 0) i (omega arith)

-- ---- the last five rows

none : Within 98304 (pos 0)
none = record { small = omega arith }

module _ {k z : ℕ} {g : Level} where
  -- before the first row is summed there is room for five, all 0
  pub sums_before : (n m : ℕ) → n ≡ 5 * (z / 2 + 1) → n ≤ m → LastSums k z g 0 (take n (replicate m (pos 0)))
  sums_before n m is room = record {
    long = length-take-le n (replicate m (pos 0)) (omega (arith, length-replicate m (pos 0))) ∙ is;
    small = each_take (Within 98304) (pos 0) none n (replicate m (pos 0)) (each_replicate (Within 98304) (pos 0) none m (pos 0) none);
    held = λ i y hi hy. absurd (omega (arith, hy));
  }

  module _ {next : ℕ} {sums : List ℤ} (r : LastSums k z g next sums) where
    pub sums_room : next % 5 * (z / 2 + 1) + (z / 2 + 1) ≤ length sums
    sums_room = let h : next % 5 < 5 = mod-lt next (omega arith) in omega (arith, r.long, row_inside (z / 2 + 1) h)

    -- the next row of sums, and where it is put
    abbrev next_row : List ℤ
    next_row = tabulate (z / 2 + 1) (λ i. row_pass k z g i next)

    wide : length next_row ≡ z / 2 + 1
    wide = length-tabulate (z / 2 + 1) (λ i. row_pass k z g i next)

    abbrev put : List ℤ
    put = splice (next % 5 * (z / 2 + 1)) next_row sums

    put_held : (i y : ℕ) → i < z / 2 + 1 → y < next + 1 → next + 1 ≤ y + 5 → Dec (y ≡ next) → as_level (z / 2 + 1) put i (y % 5) ≡ row_pass k z g i y
    unfolding in_turn
    put_held i y hi before recent (yes same) =
        rw same (row_put (z / 2 + 1) (next % 5) next_row sums wide sums_room i hi ∙ get_or-tabulate (z / 2 + 1) (λ i. row_pass k z g i next) (pos 0) i hi)
    put_held i y hi before recent (no older) =
        let other : y % 5 ≡ next % 5 → ⊥ = λ e. absurd (omega (arith, e)) in
        row_kept (z / 2 + 1) (next % 5) next_row sums wide sums_room (y % 5) i other hi ∙ r.held i y hi (omega arith) (omega arith)

    pub sums_next : {made : List ℤ} → ((i : ℕ) → Within 98304 (row_pass k z g i next)) → made ≡ put → LastSums k z g (next + 1) made
    unfolding in_turn
    sums_next small is =
        rw is
        (record {
          long = length-splice (next % 5 * (z / 2 + 1)) next_row sums (rw wide sums_room) ∙ r.long;
          small =
              each_splice (Within 98304) (pos 0) none (next % 5 * (z / 2 + 1)) next_row sums
              (small-tabulate (z / 2 + 1) (λ i. row_pass k z g i next) (λ i h. small i)) r.small;
          held = λ i y hi before recent. put_held i y hi before recent (ℕ_discrete y next);
        })

-- ---- the column pass, of five rows of n sums

module _ (n r : ℕ) (sums : List ℤ) {row : List ℤ} (is : row ≡ part (r * n) (r * n + n) sums) where
  sum_read : (i : ℕ) → i < n → get_or row i (pos 0) ≡ as_level n sums i r
  unfolding as_level
  sum_read i h = rw is (get_or-part (r * n) (r * n + n) sums (pos 0) i (omega arith))

  pub sums_small : {e : ℕ} → length row ≡ n → Small e sums → Small e row
  unfolding as_level
  sums_small long small = by_length row (λ i h. rw (sum_read i (omega arith)) (small (r * n + i)))

module _ (k z n j : ℕ) (sums : List ℤ) where
  -- row t of the five that are read
  abbrev Read : ℕ → List ℤ → Type 0
  Read t row = row ≡ part (reflect z (2 * j + t) % 5 * n) (reflect z (2 * j + t) % 5 * n + n) sums

  abbrev value : List ℤ → ℕ → ℤ
  value row i = get_or row i (pos 0)

  read : (i t : ℕ) → i < n → {row : List ℤ} → Read t row → value row i ≡ in_turn n sums i (reflect z (2 * j + t))
  unfolding in_turn
  read i t h is = sum_read n (reflect z (2 * j + t) % 5) sums is i h

  pub column_formed : {a b c d e : List ℤ} → Read 0 a → Read 1 b → Read 2 c → Read 3 d → Read 4 e
      → map (λ S. round_div S 400)
      (tabulate n (λ i. weight k 4 *ℤ (value a i +ℤ value e i) +ℤ weight k 3 *ℤ (value b i +ℤ value d i) +ℤ weight k 2 *ℤ value c i))
      ≡ tabulate n (λ i. column_pass k z (in_turn n sums) i j)
  unfolding column_pass
  column_formed ea eb ec ed ee =
      map-tabulate (λ S. round_div S 400) n _
      ∙ tabulate-same n _ _ (λ i h. ap (λ (S : ℤ). round_div S 400)
      (rw (read i 0 h ea, read i 1 h eb, read i 2 h ec, read i 3 h ed, read i 4 h ee)
      (sym (five_taps k (λ t. in_turn n sums i (reflect z (2 * j + t)))))))

-- ---- the next level

-- a node of the next level, from the sums of the last five rows before row `to`: those about row 2j
module _ {k zc : ℕ} {g : Level} {to : ℕ} {sums : List ℤ} (r : LastSums k zc g to sums) (zr j : ℕ) (high : 2 ≤ zr) (turn : 2 * j ≤ zr) (upto : to ≡ min (zr + 1) (2 * j + 3)) where
  sum_held : (i t : ℕ) → i < zc / 2 + 1 → t < 5 → in_turn (zc / 2 + 1) sums i (reflect zr (2 * j + t)) ≡ row_pass k zc g i (reflect zr (2 * j + t))
  sum_held i t hi ht =
      let from = reduce_from zr j t high turn ht in
      let inside = reduce_inside zr j t high (omega arith) ht in
      let most = reduce_upto zr j t high turn ht in
      r.held i (reflect zr (2 * j + t)) hi (omega (arith, inside, most)) (omega (arith, from))

  node_reduced : (i : ℕ) → i < zc / 2 + 1 → column_pass k zr (in_turn (zc / 2 + 1) sums) i j ≡ reduce k zc zr g i j
  unfolding column_pass
  node_reduced i hi =
      ap (λ (z : ℤ). round_div z 400) (sum_same 5 _ _ (λ t ht. ap (λ (v : ℤ). weight k t *ℤ v) (sum_held i t hi ht)))
      ∙ rows_then_columns k zc zr g i j

  -- row j, as the column pass leaves it
  pub row_reduced : {n : ℕ} {row : List ℤ} → n ≡ zc / 2 + 1 → row ≡ tabulate n (λ i. column_pass k zr (in_turn n sums) i j) → row ≡ tabulate (zc / 2 + 1) (λ i. reduce k zc zr g i j)
  row_reduced width is = is ∙ rw width (tabulate-same (zc / 2 + 1) _ _ node_reduced)

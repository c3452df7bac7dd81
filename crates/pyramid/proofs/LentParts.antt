-- Parts of a buffer that are lent to a function which fills them, and the buffer that comes back. Assumes nothing.
use Rattle.std.proofs.Common.{◌≡◌, List, [], ◌++◌, ℕ, ◌+◌, ◌-◌, ◌≤◌, length, take, drop, ◌∙◌, sym, ap, zero-add, arith}
use Rattle.std.proofs.lemmas.List.{append-nil, append_assoc, drop-drop, drop_all, take-take, length-take-le}
use Rattle.mathematics.specs.Inner.Splices.{splice}
use Rattle.mathematics.specs.Definitions.Tables.{tabulate}
use Rattle.mathematics.proofs.Splices.{splice_whole}
use Rattle.mathematics.proofs.Tables.{length-tabulate}
use Rattle.mathematics.proofs.Filling.{Filling, filling_end}

-- a loop that fills the whole of what it got
pub filled_whole : {A : Type 0} {n : ℕ} {f : ℕ → A} {l w : List A} {i : ℕ} → Filling 0 n f l w i → n ≤ i → length l ≡ n → w ≡ tabulate n f
filled_whole {n = n} {f = f} r h e = filling_end r h ∙ splice_whole _ _ (length-tabulate n f ∙ sym e)

module _ {A : Type 0} where
  -- k places from `at` on were lent, and hold xs
  pub lent_back : (at k : ℕ) (l xs : List A) → k ≡ length xs → take at l ++ (xs ++ drop k (drop at l)) ≡ splice at xs l
  unfolding splice
  lent_back at k l xs e = rw (drop-drop k at l, e)

  -- a buffer was cut in two at `mid`; of its first part the places from `at` on were lent, and hold xs
  pub lent_before : (at mid : ℕ) (l xs : List A) {before : List A} → before ≡ take mid l → at + length xs ≡ mid → mid ≤ length l
      → take at before ++ (xs ++ drop (length before - at) (drop at before)) ++ drop mid l ≡ splice at xs l
  unfolding splice
  lent_before at mid l xs {before} e fits room =
      let long : length before ≡ mid = ap length e ∙ length-take-le mid l room in
      let none : drop (length before - at) (drop at before) ≡ [] = drop-drop (length before - at) at before ∙ drop_all _ before (omega arith) in
      let front : take at before ≡ take at l = ap (take at) e ∙ take-take at mid l (omega arith) in
      rw (none, append-nil xs, front, ← fits, append_assoc (take at l) xs (drop (at + length xs) l))

  -- xs was put over the beginning of the second part
  pub lent_after : (mid : ℕ) (l xs : List A) {before after : List A} → before ≡ take mid l → after ≡ drop mid l → before ++ splice 0 xs after ≡ splice mid xs l
  unfolding splice
  lent_after mid l xs e f = rw (e, f, zero-add, drop-drop (length xs) mid l)

-- A loop that writes a table into a buffer, one element a turn, and what is then read there. Assumes nothing.
use mathlib.Core.Path.{◌≡◌, refl, sym, ap, ◌∙◌}
use mathlib.Core.List.{List}
use Prim.Native.Nat.{ℕ, ◌+◌, ◌≤◌, ◌<◌}
use native.Mathlib.Nat.{zero-add}
use native.Mathlib.Numerals.{add-one}
use native.Mathlib.Omega.{arith}
use lib.ListN.{length, get_or, set, length-set}
use Rattle.mathematics.specs.Inner.Splices.{splice}
use Rattle.mathematics.specs.Definitions.Tables.{tabulate}
use Rattle.mathematics.proofs.Tables.{length-tabulate, get_or-tabulate, tabulate-same, tabulate_add}
use Rattle.mathematics.proofs.Splices.{get_or-splice, splice_nil, splice-set, splice_append, splice_over}

module _ {ℓ} {A : Type ℓ} where
  -- ---- a loop that writes f 0, f 1, .., f (n - 1) from `at` on: l became w, with i of them written

  pub record Filling (at n : ℕ) (f : ℕ → A) (l w : List A) (i : ℕ) : Type ℓ where
    pub bound : i ≤ n
    pub long : length w ≡ length l
    pub is : w ≡ splice at (tabulate i f) l

  pub filling_start : (at n : ℕ) (f : ℕ → A) (l : List A) → Filling at n f l l 0
  unfolding tabulate
  filling_start at n f l = record { bound = omega arith; long = refl; is = sym (splice_nil at l) }

  pub filling_end : {at n : ℕ} {f : ℕ → A} {l w : List A} {i : ℕ} → Filling at n f l w i → n ≤ i → w ≡ splice at (tabulate n f) l
  filling_end {at} {n} {f} {l} {w} {i} r h = let e : i ≡ n = omega arith in rw e at r.is

  module _ {at n : ℕ} {f : ℕ → A} {l w : List A} {i : ℕ} (r : Filling at n f l w i) (room : at + n ≤ length l) where
    long_tab : length (tabulate i f) ≡ i
    long_tab = length-tabulate i f

    pub filling_next : {k : ℕ} {v : A} → k ≡ at + i → v ≡ f i → i < n → Filling at n f l (set w k v) (i + 1)
    unfolding tabulate
    filling_next {k} {v} q p h =
        record {
          bound = omega arith;
          long = length-set w k v ∙ r.long;
          is =
              rw (r.is, p, q, add-one) (rw long_tab at (splice-set at (tabulate i f) l (rw long_tab (omega arith)) (f i) (rw long_tab (omega arith))));
        }

    -- in two stretches: from l over w to v
    over : (j : ℕ) → i ≤ j → splice at (tabulate j f) w ≡ splice at (tabulate j f) l
    over j h =
        ap (splice at (tabulate j f)) r.is
        ∙ splice_over at (tabulate j f) at (tabulate i f) l (rw long_tab (omega arith)) (omega arith) (rw (long_tab, length-tabulate) (omega arith))

    pub filling_on : {v : List A} {j : ℕ} → Filling at n f w v j → i ≤ j → Filling at n f l v j
    filling_on {v} {j} q h = record { bound = q.bound; long = q.long ∙ r.long; is = q.is ∙ over j h }

    pub filling_from : {v : List A} {j : ℕ} → Filling at n f l v j → i ≤ j → Filling at n f w v j
    filling_from {v} {j} q h = record { bound = q.bound; long = q.long ∙ sym r.long; is = q.is ∙ sym (over j h) }

  -- a second loop goes on where the first stopped
  module _ {at n m : ℕ} {f g : ℕ → A} {l w w' : List A} {i j : ℕ} (r : Filling at n f l w i) (room : at + n ≤ length l) where
    pub filling_resume : Filling (at + i) m g w w' j → ((k : ℕ) → k < j → g k ≡ f (i + k)) → i + j ≤ n → Filling at n f l w' (i + j)
    filling_resume q same h =
        record {
          bound = h;
          long = q.long ∙ r.long;
          is =
              q.is ∙ rw (r.is, tabulate-same j g (λ k. f (i + k)) same, tabulate_add i j f)
              (rw (length-tabulate i f) at (splice_append at (tabulate i f) l (rw (length-tabulate i f) (omega arith)) (tabulate j (λ k. f (i + k)))));
        }

  -- an element of a table that was written at the front
  pub get_or_written : (n : ℕ) (f : ℕ → A) (l : List A) (d : A) (i : ℕ) → i < n → get_or (splice 0 (tabulate n f) l) i d ≡ f i
  get_or_written n f l d i h =
      rw zero-add at (get_or-splice 0 (tabulate n f) l d i (omega arith) (rw (length-tabulate n f) h)) ∙ get_or-tabulate n f d i h

-- A loop that puts what g makes of each element, and of its place, where the element was, one element a turn. Assumes nothing.
use mathlib.Core.Path.{◌≡◌, refl, sym, ◌∙◌}
use mathlib.Core.List.{List, map}
use Prim.Native.Nat.{ℕ, ◌+◌, ◌≤◌, ◌<◌}
use native.Mathlib.Decide.{ℕ_discrete}
use native.Mathlib.Omega.{arith}
use lib.ListN.{length, get_or, set, length-set}
use lib.Seq.{get_or-set_same, get_or-set_other, ext_get_or}
use Rattle.mathematics.specs.Definitions.Tables.{tabulate}
use Rattle.mathematics.proofs.Tables.{length-tabulate, get_or-tabulate, tabulate-map}

module _ {A : Type 0} where
  -- l became w, with i elements replaced; what is read past the end is d
  pub record Replacing (g : ℕ → A → A) (d : A) (l w : List A) (i : ℕ) : Type 0 where
    pub long : length w ≡ length l
    pub done : (k : ℕ) → k < i → k < length l → get_or w k d ≡ g k (get_or l k d)
    pub left : (k : ℕ) → i ≤ k → get_or w k d ≡ get_or l k d

  pub replacing_start : (g : ℕ → A → A) (d : A) (l : List A) → Replacing g d l l 0
  replacing_start g d l = record { long = refl; done = λ k h. absurd (omega (arith, h)); left = λ k h. refl }

  module _ {g : ℕ → A → A} {d : A} {l w : List A} {i : ℕ} (r : Replacing g d l w i) where
    -- a turn, which stored v at i
    pub replacing_next : {v : A} → i < length l → v ≡ g i (get_or w i d) → Replacing g d l (set w i v) (i + 1)
    replacing_next {v} h e =
        record {
          long = length-set w i v ∙ r.long;
          done = λ k below inside. at k below inside (ℕ_discrete k i);
          left = λ k above. let other : k ≡ i → ⊥ = λ e. absurd (omega arith) in get_or-set_other w i k v d other ∙ r.left k (omega arith);
        }
      where
        at : (k : ℕ) → k < i + 1 → k < length l → Dec (k ≡ i) → get_or (set w i v) k d ≡ g k (get_or l k d)
        at k below inside (yes same) =
            rw same (get_or-set_same w i v d (omega (arith, r.long)) ∙ e ∙ rw (r.left i (omega arith)) refl)
        at k below inside (no other) = get_or-set_other w i k v d other ∙ r.done k (omega arith) inside

    pub replacing_end : length l ≤ i → w ≡ tabulate (length l) (λ k. g k (get_or l k d))
    replacing_end h =
        let made : length (tabulate (length l) (λ k. g k (get_or l k d))) ≡ length l = length-tabulate (length l) (λ k. g k (get_or l k d)) in
        ext_get_or d w _ (r.long ∙ sym made)
        (λ k below. let inside : k < length l = omega (arith, r.long) in r.done k (omega arith) inside ∙ sym (get_or-tabulate (length l) (λ k. g k (get_or l k d)) d k inside))

  -- where the place does not matter
  abbrev pub Mapping : (A → A) → A → (l w : List A) → ℕ → Type 0
  Mapping g = Replacing (λ k. g)

  pub mapping_start : (g : A → A) (d : A) (l : List A) → Mapping g d l l 0
  mapping_start g d l = replacing_start (λ k. g) d l

  module _ {g : A → A} {d : A} {l w : List A} {i : ℕ} (r : Mapping g d l w i) where
    pub mapping_next : {v : A} → i < length l → v ≡ g (get_or w i d) → Mapping g d l (set w i v) (i + 1)
    mapping_next h e = replacing_next r h e

    pub mapping_end : length l ≤ i → w ≡ map g l
    mapping_end h = replacing_end r h ∙ tabulate-map g d l

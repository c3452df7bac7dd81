-- What holds of a default and of each element of some lists holds of each element of what is made of them: joined lists, parts, tables,
-- splices. Assumes nothing.
use mathlib.Core.Path.{◌≡◌}
use mathlib.Core.List.{List, ◌++◌}
use Prim.Native.Nat.{ℕ, ◌+◌, ◌-◌, ◌<◌}
use native.Mathlib.Decide.{dec_lt}
use native.Mathlib.Omega.{arith}
use lib.ListN.{length, get_or, take, drop, length-take, get_or-append, get_or-eq_default, replicate, length-replicate, get_or-replicate}
use lib.Seq.{get_or-append-add, get_or-take, get_or-drop}
use Rattle.mathematics.specs.Definitions.Tables.{tabulate}
use Rattle.mathematics.specs.Inner.Splices.{splice}
use Rattle.mathematics.proofs.Tables.{length-tabulate, get_or-tabulate}

module _ {ℓ ℓ'} {A : Type ℓ} (P : A → Type ℓ') (d : A) where
  -- P holds of what is read at any place, past the end too
  abbrev pub Each : List A → Type ℓ'
  Each l = (p : ℕ) → P (get_or l p d)

  each_append : (xs ys : List A) → Each xs → Each ys → Each (xs ++ ys)
  each_append xs ys f g p = cases (dec_lt p (length xs))
    where
      cases : Dec (p < length xs) → P (get_or (xs ++ ys) p d)
      cases (yes k) = rw (get_or-append xs ys d p k) (f p)
      cases (no k) = let q : length xs + (p - length xs) ≡ p = omega arith in rw (← q, get_or-append-add xs ys (p - length xs) d) (g (p - length xs))

  each_drop : (n : ℕ) (l : List A) → Each l → Each (drop n l)
  each_drop n l f p = rw (get_or-drop n l p d) (f (n + p))

  module _ (default : P d) where
    -- inside by the elements, past the end by the default
    pub each_inside : (l : List A) → ((p : ℕ) → p < length l → P (get_or l p d)) → Each l
    each_inside l h p = cases (dec_lt p (length l))
      where
        cases : Dec (p < length l) → P (get_or l p d)
        cases (yes k) = h p k
        cases (no k) = rw (get_or-eq_default l d {n = p} (omega arith)) default

    pub each_take : (n : ℕ) (l : List A) → Each l → Each (take n l)
    each_take n l f = each_inside (take n l) (λ p h. rw (get_or-take n l p d (omega (arith, length-take n l))) (f p))

    pub each_tabulate : (n : ℕ) (f : ℕ → A) → ((i : ℕ) → i < n → P (f i)) → Each (tabulate n f)
    each_tabulate n f h = each_inside (tabulate n f) (λ p k. let q : p < n = omega (arith, length-tabulate n f) in rw (get_or-tabulate n f d p q) (h p q))

    pub each_replicate : (n : ℕ) (a : A) → P a → Each (replicate n a)
    each_replicate n a h = each_inside (replicate n a) (λ p k. rw (get_or-replicate n p a d (omega (arith, length-replicate n a))) h)

    pub each_splice : (at : ℕ) (xs l : List A) → Each xs → Each l → Each (splice at xs l)
    unfolding splice
    each_splice at xs l f g =
        each_append (take at l) (xs ++ drop (at + length xs) l) (each_take at l g) (each_append xs (drop (at + length xs) l) f (each_drop (at + length xs) l g))

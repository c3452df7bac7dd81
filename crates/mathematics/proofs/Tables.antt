-- Laws of tables: the length, an element, a value put in, one value everywhere, images, and what a test says of all. Assumes nothing.
use mathlib.Core.Path.{◌≡◌, refl, sym, ◌∙◌, subst}
use mathlib.Core.Bool.{Bool, true}
use mathlib.Core.List.{List, [], ◌∷◌, ◌++◌, map, map-append, append_assoc, append-nil}
use Prim.Native.Nat.{ℕ, zero, suc, ◌+◌, ◌<◌}
use native.Mathlib.Nat.{not-suc-le-zero, add-zero, add-suc}
use native.Mathlib.Decide.{dec_lt, ℕ_discrete}
use native.Mathlib.Numerals.{add-one}
use native.Mathlib.Omega.{arith}
use lib.Dec.{T}
use lib.ListN.{length, get_or, set, replicate, replicate-append-replicate, length-append, length-set, length-map, get_or-append, get_or-map}
use lib.Seq.{get_or_at, get_or-set_same, get_or-set_other, ext_get_or}
use Rattle.mathematics.specs.Definitions.Tests.{all}
use Rattle.mathematics.specs.Definitions.Tables.{tabulate}
use Rattle.mathematics.proofs.Tests.{all_append, all_front, all_back, both, both_of}

module _ {ℓ} {A : Type ℓ} where
  pub length-tabulate : (n : ℕ) (f : ℕ → A) → length (tabulate n f) ≡ n
  unfolding tabulate
  length-tabulate zero f = refl
  length-tabulate (suc n) f = simp (length-append, length-tabulate n f) (omega arith)

  pub get_or-tabulate : (n : ℕ) (f : ℕ → A) (d : A) (i : ℕ) → i < n → get_or (tabulate n f) i d ≡ f i
  unfolding tabulate
  get_or-tabulate zero f d i h = absurd (not-suc-le-zero h)
  get_or-tabulate (suc n) f d i h = cases (get_or-tabulate n f d i) (dec_lt i n)
    where
      cases : (i < n → get_or (tabulate n f) i d ≡ f i) → Dec (i < n) → get_or (tabulate n f ++ (f n ∷ [])) i d ≡ f i
      cases before (yes k) = get_or-append (tabulate n f) (f n ∷ []) d i (omega (arith, length-tabulate n f)) ∙ before k
      cases before (no k) = let e : i ≡ n = omega arith in rw e (get_or_at (tabulate n f) (f n) [] d n (length-tabulate n f))

  -- a table in two pieces
  pub tabulate_add : (n m : ℕ) (f : ℕ → A) → tabulate (n + m) f ≡ tabulate n f ++ tabulate m (λ i. f (n + i))
  unfolding tabulate
  tabulate_add n zero f = rw add-zero (sym (append-nil (tabulate n f)))
  tabulate_add n (suc m) f = rw (add-suc, tabulate_add n m f) (append_assoc (tabulate n f) (tabulate m (λ i. f (n + i))) (f (n + m) ∷ []))

  -- functions that agree below n have the same table
  pub tabulate-same : (n : ℕ) (f g : ℕ → A) → ((i : ℕ) → i < n → f i ≡ g i) → tabulate n f ≡ tabulate n g
  unfolding tabulate
  tabulate-same zero f g h = refl
  tabulate-same (suc n) f g h = rw (tabulate-same n f g (λ i k. h i (omega arith)), h n (omega arith))

  -- the table of one value
  pub tabulate_constant : (n : ℕ) (a : A) → tabulate n (λ i. a) ≡ replicate n a
  unfolding tabulate
  tabulate_constant zero a = refl
  tabulate_constant (suc n) a = rw (tabulate_constant n a, replicate-append-replicate n 1 a, add-one n)

  -- the value of g put in at i, where f and g agree elsewhere
  pub set-tabulate : (n : ℕ) (f g : ℕ → A) (i : ℕ) → i < n → ((k : ℕ) → (k ≡ i → ⊥) → f k ≡ g k) → set (tabulate n f) i (g i) ≡ tabulate n g
  set-tabulate n f g i h same =
      let long : length (set (tabulate n f) i (g i)) ≡ n = length-set (tabulate n f) i (g i) ∙ length-tabulate n f in
      ext_get_or (g i) (set (tabulate n f) i (g i)) (tabulate n g) (long ∙ sym (length-tabulate n g)) (λ k l. at k (omega arith) (ℕ_discrete k i))
    where
      at : (k : ℕ) → k < n → Dec (k ≡ i) → get_or (set (tabulate n f) i (g i)) k (g i) ≡ get_or (tabulate n g) k (g i)
      at k l (yes e) = rw e (get_or-set_same (tabulate n f) i (g i) (g i) (omega (arith, length-tabulate n f)) ∙ sym (get_or-tabulate n g (g i) i h))
      at k l (no other) =
          get_or-set_other (tabulate n f) i k (g i) (g i) other ∙ get_or-tabulate n f (g i) k l ∙ same k other ∙ sym (get_or-tabulate n g (g i) k l)

-- the table of what g makes of the elements of xs
pub tabulate-map {ℓ ℓ'} : {A : Type ℓ} {B : Type ℓ'} (g : A → B) (d : A) (xs : List A) → tabulate (length xs) (λ i. g (get_or xs i d)) ≡ map g xs
tabulate-map g d xs =
    let n : length (tabulate (length xs) (λ i. g (get_or xs i d))) ≡ length xs = length-tabulate (length xs) (λ i. g (get_or xs i d)) in
    ext_get_or (g d) _ _ (n ∙ sym (length-map xs g)) (λ i h. get_or-tabulate (length xs) (λ i. g (get_or xs i d)) (g d) i (omega arith) ∙ sym (get_or-map g xs i d))

-- what g makes of the elements of a table
pub map-tabulate {ℓ ℓ'} : {A : Type ℓ} {B : Type ℓ'} (g : A → B) (n : ℕ) (f : ℕ → A) → map g (tabulate n f) ≡ tabulate n (λ i. g (f i))
unfolding tabulate
map-tabulate g zero f = refl
map-tabulate g (suc n) f = map-append g (tabulate n f) (f n ∷ []) ∙ rw (map-tabulate g n f)

module _ {A : Type 0} (test : A → Bool) where
  one : (x : A) → T (test x) → T (all test (x ∷ []))
  unfolding all
  one x t = both_of (test x) true t tt

  pub all-tabulate : (n : ℕ) (f : ℕ → A) → ((i : ℕ) → i < n → T (test (f i))) → T (all test (tabulate n f))
  unfolding tabulate all
  all-tabulate zero f h = tt
  all-tabulate (suc n) f h = all_append test (tabulate n f) (f n ∷ []) (all-tabulate n f (λ i k. h i (omega arith))) (one (f n) (h n (omega arith)))

  pub tabulate-all : (n : ℕ) (f : ℕ → A) → T (all test (tabulate n f)) → (i : ℕ) → i < n → T (test (f i))
  unfolding tabulate all
  tabulate-all zero f t i h = absurd (not-suc-le-zero h)
  tabulate-all (suc n) f t i h = cases (tabulate-all n f (all_front test (tabulate n f) (f n ∷ []) t) i) (dec_lt i n)
    where
      cases : (i < n → T (test (f i))) → Dec (i < n) → T (test (f i))
      cases before (yes k) = before k
      cases before (no k) =
          let e : n ≡ i = omega arith in
          subst (λ (m : ℕ). T (test (f m))) e (both (test (f n)) true (all_back test (tabulate n f) (f n ∷ []) t)).0

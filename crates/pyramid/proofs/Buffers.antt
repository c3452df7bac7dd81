-- What is read from a raster and from a buffer of all levels is what was put there; lengths, and tests of all elements. Assumes nothing.
use mathlib.Core.Path.{◌≡◌, refl, sym, ap, ◌∙◌, subst}
use mathlib.Core.Bool.{Bool}
use mathlib.Core.List.{List, [], ◌∷◌, ◌++◌, append_assoc, append-nil}
use Prim.Native.Nat.{ℕ, zero, suc, ◌+◌, ◌-◌, ◌*◌, ◌/◌, ◌%◌, ◌≤◌, ◌<◌}
use native.Mathlib.Nat.{zero-mul, suc-mul, mul-le-mul, mul-le-mul_right, not-suc-le-zero, div-add-mod', mod-lt, div-lt_iff_lt-mul}
use native.Mathlib.Decide.{dec_lt, dec_le}
use native.Mathlib.Omega.{arith}
use lib.Dec.{T}
use lib.IntN.{ℤ, pos}
use lib.ListN.{length, get_or, length-append, get_or-append}
use lib.Seq.{get_or-append-add}
use Rattle.mathematics.specs.Definitions.Tests.{all}
use Rattle.mathematics.specs.Definitions.Tables.{tabulate}
use Rattle.mathematics.proofs.Tests.{both, all_nil, all_append, all_front, all_back}
use Rattle.mathematics.proofs.Tables.{length-tabulate, get_or-tabulate, tabulate-same, all-tabulate, tabulate-all}
use Rattle.pyramid.specs.declared.Settings.{Settings}
use Rattle.pyramid.specs.Definitions.Sizes.{Level, columns_at, rows_at, nodes_at, nodes_to, total}
use Rattle.pyramid.specs.Definitions.Buffers.{raster, level_raster, stack, all_levels, start, read_levels}
use Rattle.pyramid.proofs.Sizes.{nodes_to_mono}

-- ---- a raster

pub inside : {columns rows i j : ℕ} → i < columns → j < rows → j * columns + i < rows * columns
inside {columns} {rows} {i} {j} h k = omega (arith, mul-le-mul_right columns k, suc-mul j columns)

-- a row of a level, and of one that a buffer holds
pub row_inside : (columns : ℕ) {rows y : ℕ} → y < rows → y * columns + columns ≤ rows * columns
row_inside columns {rows} {y} h = omega (arith, mul-le-mul_right columns h, suc-mul y columns)

pub level_small : {columns rows : ℕ} → columns ≤ 129 → rows ≤ 129 → rows * columns ≤ 16641
level_small h k = omega (arith, mul-le-mul k h)

module _ {A : Type 0} where
  pub length-raster : (columns rows : ℕ) (f : ℕ → ℕ → A) → length (raster columns rows f) ≡ rows * columns
  unfolding raster
  length-raster columns zero f = sym (zero-mul columns)
  length-raster columns (suc j) f = simp (length-append, length-raster columns j f, length-tabulate, suc-mul)

  -- with more after it: a node of the raster, and a place past it
  pub raster_node : (columns rows : ℕ) (f : ℕ → ℕ → A) (rest : List A) (d : A) (i j : ℕ) → i < columns → j < rows
      → get_or (raster columns rows f ++ rest) (j * columns + i) d ≡ f i j
  unfolding raster
  raster_node columns zero f rest d i j h k = absurd (not-suc-le-zero k)
  raster_node columns (suc r) f rest d i j h k =
      rw append_assoc (cases (raster_node columns r f (tabulate columns (λ i. f i r) ++ rest) d i j h) (dec_lt j r))
    where
      cases : (j < r → get_or (raster columns r f ++ (tabulate columns (λ i. f i r) ++ rest)) (j * columns + i) d ≡ f i j) → Dec (j < r)
          → get_or (raster columns r f ++ (tabulate columns (λ i. f i r) ++ rest)) (j * columns + i) d ≡ f i j
      cases before (yes l) = before l
      cases before (no l) =
          let e : j ≡ r = omega arith in
          rw (e, ← length-raster columns r f)
          (get_or-append-add (raster columns r f) (tabulate columns (λ i. f i r) ++ rest) i d
          ∙ get_or-append (tabulate columns (λ i. f i r)) rest d i (rw length-tabulate h)
          ∙ get_or-tabulate columns (λ i. f i r) d i h)

  pub raster_rest : (columns rows : ℕ) (f : ℕ → ℕ → A) (rest : List A) (d : A) (q : ℕ) → get_or (raster columns rows f ++ rest) (rows * columns + q) d ≡ get_or rest q d
  raster_rest columns rows f rest d q = rw (← length-raster columns rows f) (get_or-append-add (raster columns rows f) rest q d)

  pub raster_at : (columns rows : ℕ) (f : ℕ → ℕ → A) (d : A) (i j : ℕ) → i < columns → j < rows → get_or (raster columns rows f) (j * columns + i) d ≡ f i j
  raster_at columns rows f d i j h k = rw append-nil at (raster_node columns rows f [] d i j h k)

  pub raster-same : (columns rows : ℕ) (f g : ℕ → ℕ → A) → ((i j : ℕ) → i < columns → j < rows → f i j ≡ g i j) → raster columns rows f ≡ raster columns rows g
  unfolding raster
  raster-same columns zero f g h = refl
  raster-same columns (suc r) f g h =
      rw (raster-same columns r f g (λ i j hi hj. h i j hi (omega arith)), tabulate-same columns (λ i. f i r) (λ i. g i r) (λ i hi. h i r hi (omega arith)))

-- what holds at each column and row holds at each place below their product
pub by_place : (columns rows : ℕ) (P : ℕ → Type 0) → 0 < columns → ((i j : ℕ) → i < columns → j < rows → P (j * columns + i)) → (p : ℕ) → p < rows * columns → P p
by_place columns rows P h f p k = subst P (div-add-mod' p columns) (f (p % columns) (p / columns) (mod-lt p h) ((div-lt_iff_lt-mul h).1 k))

module _ {A : Type 0} (test : A → Bool) where
  -- what all elements pass, and what is found past the end too, passes at each place
  pub all_at : (d : A) → T (test d) → (xs : List A) → T (all test xs) → (p : ℕ) → T (test (get_or xs p d))
  unfolding all
  all_at d past [] t p = past
  all_at d past (x ∷ xs) t zero = (both (test x) (all test xs) t).0
  all_at d past (x ∷ xs) t (suc p) = all_at d past xs (both (test x) (all test xs) t).1 p

  pub all-raster : (columns rows : ℕ) (f : ℕ → ℕ → A) → ((i j : ℕ) → i < columns → j < rows → T (test (f i j))) → T (all test (raster columns rows f))
  unfolding raster
  all-raster columns zero f h = rw (all_nil test) tt
  all-raster columns (suc r) f h =
      all_append test (raster columns r f) (tabulate columns (λ i. f i r)) (all-raster columns r f (λ i j hi hj. h i j hi (omega arith)))
      (all-tabulate test columns (λ i. f i r) (λ i hi. h i r hi (omega arith)))

  pub raster-all : (columns rows : ℕ) (f : ℕ → ℕ → A) → T (all test (raster columns rows f)) → (i j : ℕ) → i < columns → j < rows → T (test (f i j))
  unfolding raster
  raster-all columns zero f t i j hi hj = absurd (not-suc-le-zero hj)
  raster-all columns (suc r) f t i j hi hj =
      cases (λ hj. raster-all columns r f (all_front test (raster columns r f) (tabulate columns (λ i. f i r)) t) i j hi hj) (dec_lt j r)
    where
      cases : (j < r → T (test (f i j))) → Dec (j < r) → T (test (f i j))
      cases before (yes k) = before k
      cases before (no k) =
          let e : r ≡ j = omega arith in
          subst (λ (j : ℕ). T (test (f i j))) e (tabulate-all test columns (λ i. f i r) (all_back test (raster columns r f) (tabulate columns (λ i. f i r)) t) i hi)

-- ---- all levels

module _ (s : Settings) where
  -- a node of a level, by its place
  pub read-is : (buffer : List ℤ) (l i j : ℕ) → read_levels s buffer l i j ≡ get_or buffer (start s l + (j * columns_at s l + i)) (pos 0)
  unfolding read_levels
  read-is buffer l i j = refl

  module _ (f : ℕ → Level) where
    pub length-stack : (n : ℕ) → length (stack s f n) ≡ nodes_to s n
    unfolding stack nodes_to
    length-stack zero = length-raster _ _ _
    length-stack (suc n) = simp (length-append, length-raster, length-stack n)

    pub length-all : length (all_levels s f) ≡ total s
    unfolding total
    length-all = length-stack s.depth

    -- the first of the levels
    here : (l a b i j : ℕ) (rest : List ℤ) → a ≡ b → i < columns_at s l → j < rows_at s l
        → get_or (level_raster s f l ++ rest) (a - b + (j * columns_at s l + i)) (pos 0) ≡ f l i j
    here l a b i j rest same hi hj =
        let e : a - b + (j * columns_at s l + i) ≡ j * columns_at s l + i = omega arith in
        rw e (raster_node (columns_at s l) (rows_at s l) (f l) rest (pos 0) i j hi hj)

    pub stack_node : (n l i j : ℕ) (rest : List ℤ) → l ≤ n → i < columns_at s l → j < rows_at s l
        → get_or (stack s f n ++ rest) (nodes_to s n - nodes_to s l + (j * columns_at s l + i)) (pos 0) ≡ f l i j
    unfolding stack nodes_to
    stack_node zero zero i j rest hl hi hj = here zero (nodes_to s 0) (nodes_to s 0) i j rest refl hi hj
    stack_node zero (suc l) i j rest hl hi hj = absurd (not-suc-le-zero hl)
    stack_node (suc n) l i j rest hl hi hj = rw append_assoc (cases (λ k. stack_node n l i j rest k hi hj) (dec_le l n))
      where
        cases : (l ≤ n → get_or (stack s f n ++ rest) (nodes_to s n - nodes_to s l + (j * columns_at s l + i)) (pos 0) ≡ f l i j) → Dec (l ≤ n)
            → get_or (level_raster s f (suc n) ++ (stack s f n ++ rest)) (nodes_to s (suc n) - nodes_to s l + (j * columns_at s l + i)) (pos 0) ≡ f l i j
        cases below (yes k) =
            let q : ℕ = nodes_to s n - nodes_to s l + (j * columns_at s l + i) in
            let e : nodes_to s (suc n) - nodes_to s l + (j * columns_at s l + i) ≡ nodes_at s (suc n) + q = omega (arith, nodes_to_mono s l n k) in
            rw e (raster_rest (columns_at s (suc n)) (rows_at s (suc n)) (f (suc n)) (stack s f n ++ rest) (pos 0) q ∙ below k)
        cases below (no k) =
            let e : suc n ≡ l = omega arith in
            subst (λ (m : ℕ). get_or (level_raster s f m ++ (stack s f n ++ rest)) (nodes_to s (suc n) - nodes_to s l + (j * columns_at s l + i)) (pos 0) ≡ f l i j) (sym e)
            (here l (nodes_to s (suc n)) (nodes_to s l) i j (stack s f n ++ rest) (ap (nodes_to s) e) hi hj)

    pub read_stack : (l i j : ℕ) (rest : List ℤ) → l ≤ s.depth → i < columns_at s l → j < rows_at s l → read_levels s (all_levels s f ++ rest) l i j ≡ f l i j
    unfolding read_levels start total
    read_stack l i j rest hl hi hj = stack_node s.depth l i j rest hl hi hj

  -- functions that agree at the nodes have the same levels
  pub stack_same : (f g : ℕ → Level) (n : ℕ) → ((l i j : ℕ) → l ≤ n → i < columns_at s l → j < rows_at s l → f l i j ≡ g l i j) → stack s f n ≡ stack s g n
  unfolding stack
  stack_same f g zero h = raster-same (columns_at s 0) (rows_at s 0) (f 0) (g 0) (λ i j. h 0 i j (omega arith))
  stack_same f g (suc n) h =
      rw (raster-same (columns_at s (suc n)) (rows_at s (suc n)) (f (suc n)) (g (suc n)) (λ i j. h (suc n) i j (omega arith)), stack_same f g n (λ l i j hl. h l i j (omega arith)))

  module _ (test : ℤ → Bool) (f : ℕ → Level) where
    pub all-stack : (n : ℕ) → ((l i j : ℕ) → l ≤ n → i < columns_at s l → j < rows_at s l → T (test (f l i j))) → T (all test (stack s f n))
    unfolding stack
    all-stack zero h = all-raster test (columns_at s 0) (rows_at s 0) (f 0) (λ i j. h 0 i j (omega arith))
    all-stack (suc n) h =
        all_append test (level_raster s f (suc n)) (stack s f n) (all-raster test (columns_at s (suc n)) (rows_at s (suc n)) (f (suc n)) (λ i j. h (suc n) i j (omega arith)))
        (all-stack n (λ l i j hl. h l i j (omega arith)))

    pub stack-all : (n : ℕ) → T (all test (stack s f n)) → (l i j : ℕ) → l ≤ n → i < columns_at s l → j < rows_at s l → T (test (f l i j))
    unfolding stack
    stack-all zero t zero i j hl hi hj = raster-all test (columns_at s 0) (rows_at s 0) (f 0) t i j hi hj
    stack-all zero t (suc l) i j hl hi hj = absurd (not-suc-le-zero hl)
    stack-all (suc n) t l i j hl hi hj = cases (λ k. stack-all n (all_back test (level_raster s f (suc n)) (stack s f n) t) l i j k hi hj) (dec_le l n)
      where
        cases : (l ≤ n → T (test (f l i j))) → Dec (l ≤ n) → T (test (f l i j))
        cases below (yes k) = below k
        cases below (no k) =
            let e : suc n ≡ l = omega arith in
            raster-all test (columns_at s l) (rows_at s l) (f l)
            (subst (λ (m : ℕ). T (all test (level_raster s f m))) e (all_front test (level_raster s f (suc n)) (stack s f n) t)) i j hi hj

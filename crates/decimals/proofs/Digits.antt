-- Laws of digits and of their values: how digits are made, that one undoes the other, and how many there are. Assumes nothing.
use mathlib.Core.Path.{◌≡◌, refl, sym, ap, ◌∙◌}
use mathlib.Core.List.{List, [], ◌∷◌, ◌++◌, append_assoc, append-nil}
use Prim.Native.Nat.{ℕ, zero, suc, ◌+◌, ◌*◌, ◌/◌, ◌%◌, ◌^◌, ◌≤◌, ◌<◌}
use native.Mathlib.Nat.{not-suc-le-zero, pow-succ', pow-le-pow_right, mul-le-mul_right, le_trans}
use native.Mathlib.Decide.{dec_lt}
use native.Mathlib.Omega.{arith}
use borrow.Author.Tests.{lt-ltb, le-ltb}
use lib.ListN.{length, get_or, length-append, get_or-append}
use Rattle.decimals.specs.Definitions.Digits.{value, digits_up_to, digits}
use Rattle.decimals.specs.Checks.DigitLaws.{Digits}

-- ---- how digits are made

up_to_one : (most n : ℕ) → n < 10 → digits_up_to (suc most) n ≡ n ∷ []
unfolding digits_up_to
up_to_one most n h = rw (lt-ltb n 10 h)

up_to_more : (most n : ℕ) → 10 ≤ n → digits_up_to (suc most) n ≡ digits_up_to most (n / 10) ++ (n % 10 ∷ [])
unfolding digits_up_to
up_to_more most n h = rw (le-ltb n 10 h)

-- a bound that is high enough changes nothing
up_to_same : (k m n : ℕ) → n ≤ k → n ≤ m → digits_up_to (suc k) n ≡ digits_up_to (suc m) n
up_to_same zero m n hk hm = up_to_one zero n (omega arith) ∙ sym (up_to_one m n (omega arith))
up_to_same (suc k) zero n hk hm = up_to_one (suc k) n (omega arith) ∙ sym (up_to_one zero n (omega arith))
up_to_same (suc k) (suc m) n hk hm = cases (λ h. up_to_same k m (n / 10) (omega arith) (omega arith)) (dec_lt n 10)
  where
    cases : (10 ≤ n → digits_up_to (suc k) (n / 10) ≡ digits_up_to (suc m) (n / 10)) → Dec (n < 10) → digits_up_to (suc (suc k)) n ≡ digits_up_to (suc (suc m)) n
    cases tens (yes h) = up_to_one (suc k) n h ∙ sym (up_to_one (suc m) n h)
    cases tens (no h) =
        let l : 10 ≤ n = omega arith in
        up_to_more (suc k) n l ∙ ap (λ (ds : List ℕ). ds ++ (n % 10 ∷ [])) (tens l) ∙ sym (up_to_more (suc m) n l)

-- one digit is the number itself
pub digits_one : (n : ℕ) → n < 10 → digits n ≡ n ∷ []
unfolding digits
digits_one n h = up_to_one n n h

-- more are those of its tens, and its ones
pub digits_more : (n : ℕ) → 10 ≤ n → digits n ≡ digits (n / 10) ++ (n % 10 ∷ [])
unfolding digits
digits_more zero h = absurd (not-suc-le-zero h)
digits_more (suc n) h = up_to_more (suc n) (suc n) h ∙ ap (λ (ds : List ℕ). ds ++ (suc n % 10 ∷ [])) (up_to_same n (suc n / 10) (suc n / 10) (omega arith) (omega arith))

-- what holds of one digit, and of a number where it holds of its tens, holds of every number
up_to_tens : (P : ℕ → Type 0) → ((n : ℕ) → n < 10 → P n) → ((n : ℕ) → 10 ≤ n → P (n / 10) → P n) → (most n : ℕ) → n ≤ most → P n
up_to_tens P one more zero n h = one n (omega arith)
up_to_tens P one more (suc most) n h = cases (λ l. up_to_tens P one more most (n / 10) (omega arith)) (dec_lt n 10)
  where
    cases : (10 ≤ n → P (n / 10)) → Dec (n < 10) → P n
    cases tens (yes l) = one n l
    cases tens (no l) = let k : 10 ≤ n = omega arith in more n k (tens k)

by_tens : (P : ℕ → Type 0) → ((n : ℕ) → n < 10 → P n) → ((n : ℕ) → 10 ≤ n → P (n / 10) → P n) → (n : ℕ) → P n
by_tens P one more n = up_to_tens P one more n n (omega arith)

-- ---- lists of digits

pub digits_cons : (d : ℕ) (ds : List ℕ) → d < 10 → Digits ds → Digits (d ∷ ds)
digits_cons d ds h t zero = h
digits_cons d ds h t (suc k) = t k

pub digits_tail : (d : ℕ) (ds : List ℕ) → Digits (d ∷ ds) → Digits ds
digits_tail d ds h k = h (suc k)

pub digits_none : Digits []
digits_none k = omega arith

pub digits_joined : (xs ys : List ℕ) → Digits xs → Digits ys → Digits (xs ++ ys)
digits_joined [] ys hx hy k = hy k
digits_joined (x ∷ xs) ys hx hy zero = hx zero
digits_joined (x ∷ xs) ys hx hy (suc k) = digits_joined xs ys (digits_tail x xs hx) hy k

-- ---- the digits of a number

pub digits-below : (n : ℕ) → Digits (digits n)
digits-below =
    by_tens (λ n. Digits (digits n))
    (λ n h. rw (digits_one n h) (digits_cons n [] h digits_none))
    (λ n h before. rw (digits_more n h) (digits_joined (digits (n / 10)) (n % 10 ∷ []) before (digits_cons (n % 10) [] (omega arith) digits_none)))

pub digits_some : (n : ℕ) → 1 ≤ length (digits n)
digits_some =
    by_tens (λ n. 1 ≤ length (digits n))
    (λ n h. rw (digits_one n h) (omega arith))
    (λ n h before. rw (digits_more n h) (omega (arith, length-append (digits (n / 10)) (n % 10 ∷ []))))

pub digits-first : (n : ℕ) → 1 ≤ n → 1 ≤ get_or (digits n) 0 0
digits-first =
    by_tens (λ n. 1 ≤ n → 1 ≤ get_or (digits n) 0 0)
    (λ n h l. rw (digits_one n h) l)
    (λ n h before l. rw (digits_more n h, get_or-append (digits (n / 10)) (n % 10 ∷ []) 0 0 (digits_some (n / 10))) (before (omega arith)))

-- ---- the value of digits

pub value_none : value [] ≡ 0
unfolding value
value_none = refl

pub value_cons : (d : ℕ) (ds : List ℕ) → value (d ∷ ds) ≡ d * 10 ^ length ds + value ds
unfolding value
value_cons d ds = refl

pub value_one : (d : ℕ) → value (d ∷ []) ≡ d
unfolding value
value_one d = omega arith

pub value_snoc : (ds : List ℕ) (d : ℕ) → value (ds ++ (d ∷ [])) ≡ 10 * value ds + d
unfolding value
value_snoc [] d = omega arith
value_snoc (e ∷ ds) d =
    let long : length (ds ++ (d ∷ [])) ≡ suc (length ds) = omega (arith, length-append ds (d ∷ [])) in
    rw (long, value_snoc ds d, pow-succ' 10 (length ds)) (omega arith)

pub value-below : (ds : List ℕ) → Digits ds → value ds < 10 ^ length ds
unfolding value
value-below [] h = omega arith
value-below (d ∷ ds) h =
    let rest = value-below ds (digits_tail d ds h) in
    let d9 : d ≤ 9 = omega (arith, h zero) in
    rw (pow-succ' 10 (length ds)) (omega (arith, mul-le-mul_right (10 ^ length ds) d9))

-- ---- one undoes the other

pub value-digits : (n : ℕ) → value (digits n) ≡ n
value-digits =
    by_tens (λ n. value (digits n) ≡ n)
    (λ n h. rw (digits_one n h) (value_one n))
    (λ n h before. rw (digits_more n h, value_snoc (digits (n / 10)) (n % 10), before) (omega arith))

-- a digit after a number
digits-next : (n d : ℕ) → 1 ≤ n → d < 10 → digits (10 * n + d) ≡ digits n ++ (d ∷ [])
digits-next n d hn hd =
    let tens : (10 * n + d) / 10 ≡ n = omega arith in
    let ones : (10 * n + d) % 10 ≡ d = omega arith in
    digits_more (10 * n + d) (omega arith) ∙ rw (tens, ones)

-- digits after a number
digits_after : (n : ℕ) (ds : List ℕ) → 1 ≤ n → Digits ds → digits (n * 10 ^ length ds + value ds) ≡ digits n ++ ds
unfolding value
digits_after n [] hn h = let e : n * 1 + 0 ≡ n = omega arith in rw (e, append-nil (digits n))
digits_after n (d ∷ ds) hn h =
    let e : n * 10 ^ suc (length ds) + (d * 10 ^ length ds + value ds) ≡ (10 * n + d) * 10 ^ length ds + value ds = rw (pow-succ' 10 (length ds)) (omega arith) in
    ap digits e
    ∙ digits_after (10 * n + d) ds (omega arith) (digits_tail d ds h)
    ∙ rw (digits-next n d hn (h zero)) (append_assoc (digits n) (d ∷ []) ds)

pub digits_value : (d : ℕ) (ds : List ℕ) → 1 ≤ d → Digits (d ∷ ds) → digits (value (d ∷ ds)) ≡ d ∷ ds
digits_value d ds hd h =
    ap digits (value_cons d ds) ∙ digits_after d ds hd (digits_tail d ds h) ∙ rw (digits_one d (h zero))

-- ---- how many digits a number has

pub length_digits : (n k : ℕ) → 1 ≤ k → n < 10 ^ k → length (digits n) ≤ k
length_digits n zero hk h = omega arith
length_digits n (suc zero) hk h = rw (digits_one n h) (omega arith)
length_digits n (suc (suc k)) hk h = cases (dec_lt n 10) (length_digits (n / 10) (suc k) (omega arith) (omega (arith, pow-succ' 10 (suc k))))
  where
    cases : Dec (n < 10) → length (digits (n / 10)) ≤ suc k → length (digits n) ≤ suc (suc k)
    cases (yes l) before = rw (digits_one n l) (omega arith)
    cases (no l) before = rw (digits_more n (omega arith)) (omega (arith, length-append (digits (n / 10)) (n % 10 ∷ [])))

pub digits-length : (n k : ℕ) → length (digits n) ≤ k → n < 10 ^ k
digits-length n k h = le_trans (rw (value-digits n) at (value-below (digits n) (digits-below n))) (pow-le-pow_right (omega arith) h)

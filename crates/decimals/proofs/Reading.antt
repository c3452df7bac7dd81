-- A number read digit by digit: each turn of the loop takes the next digit, until there is none or there are enough. Assumes nothing.
use mathlib.Core.Path.{◌≡◌, refl, ap, ◌∙◌}
use mathlib.Core.Logic.{◌⊎◌, inl, inr}
use mathlib.Core.Bool.{true, false, cond}
use mathlib.Core.List.{List, [], ◌∷◌}
use Prim.Native.Nat.{ℕ, zero, suc, ◌+◌, ◌-◌, ◌*◌, ◌^◌, ◌≤◌, ◌<◌, min}
use native.Mathlib.Nat.{pow-zero, pow-suc, pow-le-pow_right}
use native.Mathlib.Numerals.{add-one}
use native.Mathlib.Omega.{arith}
use Rattle.std.proofs.lemmas.Bool.Decides.{eqb_tells}
use lib.ListN.{length, get_or, take, drop, length-drop, drop_of_length-le}
use lib.Seq.{drop-cons}
use Rattle.std.proofs.Common.{Option, Some, None}
use Rattle.std.proofs.lemmas.List.{length-take}
use Rattle.mathematics.proofs.Tests.{cond_elim}
use Rattle.decimals.specs.declared.Number.{Number}
use Rattle.decimals.specs.Definitions.Digits.{value}
use Rattle.decimals.specs.Definitions.Text.{is_digit, leading_digits, number_at, number_found}

-- ---- the digits of a text's first bytes

-- the text cut to the most that are asked for has the same ones
leading_cut : (most : ℕ) (text : List ℕ) → leading_digits (length (take most text)) (take most text) ≡ leading_digits most text
unfolding leading_digits
leading_cut zero text = refl
leading_cut (suc most) [] = refl
leading_cut (suc most) (b ∷ text) = ap (λ (ds : List ℕ). cond (is_digit b) ((b - 48) ∷ ds) []) (leading_cut most text)

digit_below : (b : ℕ) → is_digit b ≡ true → b - 48 < 10
unfolding is_digit
digit_below b t = grind arith

module _ (text : List ℕ) (at : ℕ) (inside : at < length text) (most : ℕ) where
  leading_next : is_digit (get_or text at 0) ≡ true → leading_digits (suc most) (drop at text) ≡ (get_or text at 0 - 48) ∷ leading_digits most (drop (suc at) text)
  unfolding leading_digits
  leading_next t = rw (drop-cons text at 0 inside, t)

  leading_stop : is_digit (get_or text at 0) ≡ false → leading_digits (suc most) (drop at text) ≡ []
  unfolding leading_digits
  leading_stop t = rw (drop-cons text at 0 inside, t)

-- ---- the loop over a text's first bytes: so many are digits, with this value

pub record Reading (text : List ℕ) (count : ℕ) (n : Number) : Type 0 where
  pub digits : n.digits ≡ count
  pub small : n.value < 10 ^ count
  pub counted : length (leading_digits (length text) text) ≡ count + length (leading_digits (length text - count) (drop count text))
  pub valued : value (leading_digits (length text) text)
      ≡ n.value * 10 ^ length (leading_digits (length text - count) (drop count text)) + value (leading_digits (length text - count) (drop count text))

module _ {text : List ℕ} {count : ℕ} {n : Number} (r : Reading text count n) where
  -- ten times the value, and the digit
  horner : (v d p w : ℕ) → v * (p * 10) + (d * p + w) ≡ (10 * v + d) * p + w
  horner v d p w = omega arith

  module _ (more : count < length text) (t : is_digit (get_or text count 0) ≡ true) where
    step : leading_digits (length text - count) (drop count text) ≡ (get_or text count 0 - 48) ∷ leading_digits (length text - (count + 1)) (drop (count + 1) text)
    step =
        let e : length text - count ≡ suc (length text - (count + 1)) = omega arith in
        rw (e, add-one count) (leading_next text count more (length text - suc count) t)

    pub reading_next : Reading text (count + 1) (record { value = 10 * n.value + (get_or text count 0 - 48); digits = n.digits + 1 })
    unfolding value is_digit
    reading_next =
        record {
          digits = ap (λ (k : ℕ). k + 1) r.digits;
          small = let s = r.small in let d = digit_below (get_or text count 0) t in rw (add-one count, pow-suc 10 count) (omega arith);
          counted = r.counted ∙ rw step (omega arith);
          valued = r.valued ∙ rw (step, pow-suc 10) (horner n.value (get_or text count 0 - 48) _ _);
        }

    pub reading_fits : length text ≤ 9 → 10 * n.value + (get_or text count 0 - 48) < 10 ^ 9
    reading_fits k =
        let p : 10 ^ (count + 1) ≤ 10 ^ 9 = pow-le-pow_right {n = 10} (omega arith) {i = count + 1} {j = 9} (omega arith) in
        omega (arith, reading_next.small, p)

  -- no digit is left
  ended : leading_digits (length text - count) (drop count text) ≡ [] → record { value = value (leading_digits (length text) text); digits = length (leading_digits (length text) text) } ≡ n
  unfolding value
  ended none =
      let v : value (leading_digits (length text) text) ≡ n.value = r.valued ∙ rw (none, pow-zero 10) (omega arith) in
      let d : length (leading_digits (length text) text) ≡ n.digits = r.counted ∙ rw (none, r.digits) (omega arith) in
      rw (v, d)

  none_left : length text ≤ count → leading_digits (length text - count) (drop count text) ≡ []
  unfolding leading_digits
  none_left h = let e : length text - count ≡ 0 = omega arith in rw e

  no_digit : count < length text → is_digit (get_or text count 0) ≡ false → leading_digits (length text - count) (drop count text) ≡ []
  no_digit h t = let e : length text - count ≡ suc (length text - suc count) = omega arith in rw e (leading_stop text count h (length text - suc count) t)

-- ---- what is read is the number at the place

-- the text's first bytes from a place on, no more than so many: all of them where there are no more
pub record Front (text : List ℕ) (at most : ℕ) (front : List ℕ) : Type 0 where
  pub is : front ≡ take (min most 9) (drop at text)

module _ {text front : List ℕ} {at most : ℕ} (f : Front text at most front) where
  found_in : leading_digits (length front) front ≡ leading_digits (min most 9) (drop at text)
  found_in = rw f.is (leading_cut (min most 9) (drop at text))

  pub front_short : length front ≤ 9
  front_short = rw (f.is, length-take) (omega arith)

  number_is : {count : ℕ} {n : Number} → Reading front count n → (length front ≤ count) ⊎ ((count < length front) × (is_digit (get_or front count 0) ≡ false)) → number_at text at most ≡ n
  unfolding number_at
  number_is r (inl h) = rw (← found_in) (ended r (none_left r h))
  number_is r (inr h) = rw (← found_in) (ended r (no_digit r h.0 h.1))

-- a number without digits is none
pub found_none : (n : Number) → n.digits ≡ 0 → None ≡ number_found n
unfolding number_found
found_none n e = rw e

-- what was answered tells which it is
pub found_by : (n : Number) {o : Option Number} → o ≡ number_found n → ((o ≡ None) × (n.digits ≡ 0)) ⊎ ((o ≡ Some n) × (n.digits ≡ 0 → ⊥))
unfolding number_found
found_by n {o} p = elim (eqb_tells n.digits 0) [ inl t ↦ inl (p ∙ rw (t.0), t.1) | inr t ↦ inr (p ∙ rw (t.0), t.1) ]

-- past the end there is none
abbrev pub none_there : Number
none_there = record { value = 0; digits = 0 }

pub number_past : (text : List ℕ) (at most : ℕ) → length text ≤ at → number_at text at most ≡ none_there
unfolding number_at leading_digits value
number_past text at most h = rw (drop_of_length-le text {i = at} h) (past (min most 9))
  where
    past : (limit : ℕ) → record { value = value (leading_digits limit []); digits = length (leading_digits limit []) } ≡ none_there
    past zero = refl
    past (suc limit) = refl

-- what the loop keeps, and what is answered after it: where the bytes end, or at a byte that is no digit
pub record Reads (text : List ℕ) (at most : ℕ) (rest : List ℕ) (count : ℕ) (n : Number) : Type 0 where
  pub front : Front text at most rest
  pub so_far : Reading rest count n

pub read_number : {text rest : List ℕ} {at most count : ℕ} {n : Number} → Reads text at most rest count n
    → (length rest ≤ count) ⊎ ((count < length rest) × (is_digit (get_or rest count 0) ≡ false)) → number_found n ≡ number_found (number_at text at most)
read_number r end = rw (number_is r.front r.so_far end)

-- ---- a number does not reach past the end

leading_most : (most : ℕ) (text : List ℕ) → length (leading_digits most text) ≤ length text
unfolding leading_digits
leading_most zero text = omega arith
leading_most (suc most) [] = omega arith
leading_most (suc most) (b ∷ text) =
    cond_elim (is_digit b) ((b - 48) ∷ leading_digits most text) [] (λ ds. length ds ≤ suc (length text)) (λ t. omega (arith, leading_most most text)) (λ t. omega arith)

pub number_within : (text : List ℕ) (at most end : ℕ) → length text ≤ end → at ≤ end → at + (number_at text at most).digits ≤ end
unfolding number_at
number_within text at most end long h =
    let m = leading_most (min most 9) (drop at text) in
    let d = length-drop at text in
    omega arith

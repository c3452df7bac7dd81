-- A number's text digit by digit: its length, and a last digit put after the others. Assumes nothing.
use mathlib.Core.Path.{◌≡◌, refl, sym, ap, ◌∙◌}
use mathlib.Core.Bool.{cond}
use mathlib.Core.List.{List, [], ◌∷◌, ◌++◌, map-append}
use Prim.Native.Nat.{ℕ, zero, suc, ◌+◌, ◌-◌, ◌/◌, ◌%◌, ◌≤◌, ◌<◌}
use native.Mathlib.Nat.{add-zero, div-add-mod', mod-lt, mod-eq_of_lt, div-div-eq-div-mul}
use native.Mathlib.Numerals.{add-one}
use native.Mathlib.Omega.{arith}
use borrow.Author.Tests.{le-leb, lt-leb}
use lib.Dec.{leb, ltb, leb→le}
use lib.ListN.{length, set, length-append, length-map}
use Rattle.std.proofs.Common.{Option, Some, None}
use Rattle.std.specs.Option.{unwrap_or}
use Rattle.mathematics.specs.Inner.Splices.{splice}
use Rattle.mathematics.proofs.Tests.{cond_elim}
use Rattle.mathematics.proofs.Splices.{splice_nil, splice-set, splice_prepend}
use Rattle.decimals.specs.Definitions.Digits.{digits_up_to, digits}
use Rattle.decimals.specs.Definitions.Text.{decimal, text_at, has_room}
use Rattle.decimals.proofs.Digits.{digits_one, digits_more, digits_some}
use Rattle.decimals.proofs.Text.{length-decimal}

pub decimal_one : (n : ℕ) → n < 10 → decimal n ≡ (48 + n) ∷ []
unfolding decimal
decimal_one n h = rw (digits_one n h)

pub decimal-more : (n : ℕ) → 10 ≤ n → decimal n ≡ decimal (n / 10) ++ ((48 + n % 10) ∷ [])
unfolding decimal
decimal-more n h = rw (digits_more n h) (map-append (λ d. 48 + d) (digits (n / 10)) (n % 10 ∷ []))

-- ---- how many

pub count_one : (n : ℕ) → n < 10 → 1 ≡ length (decimal n)
count_one n h = rw (decimal_one n h)

pub count_more : (n : ℕ) → 10 ≤ n → length (decimal (n / 10)) + 1 ≡ length (decimal n)
count_more n h = rw (decimal-more n h) (sym (length-append (decimal (n / 10)) ((48 + n % 10) ∷ [])))

pub count_two : (n : ℕ) → 10 ≤ n → n < 100 → 2 ≡ length (decimal n)
count_two n h k = ap (λ (c : ℕ). c + 1) (count_one (n / 10) (omega (arith, div-add-mod' n 10))) ∙ count_more n h

pub count_hundreds : (n : ℕ) → 100 ≤ n → length (decimal (n / 100)) + 2 ≡ length (decimal n)
count_hundreds n h =
    let tens : length (decimal (n / 10 / 10)) + 1 ≡ length (decimal (n / 10)) = count_more (n / 10) (omega (arith, div-add-mod' n 10, mod-lt n {m = 10} (omega arith))) in
    let all = count_more n (omega arith) in
    let e : n / 10 / 10 ≡ n / 100 = div-div-eq-div-mul n 10 10 in
    omega (arith, rw e at tens)

pub count_some : (n : ℕ) → 1 ≤ length (decimal n)
count_some n = rw (length-decimal n) (digits_some n)

up_to_most : (most n : ℕ) → length (digits_up_to most n) ≤ most
unfolding digits_up_to
up_to_most zero n = omega arith
up_to_most (suc most) n =
    cond_elim (ltb n 10) (n ∷ []) (digits_up_to most (n / 10) ++ (n % 10 ∷ [])) (λ ds. length ds ≤ suc most) (λ t. omega arith)
    (λ t. rw (length-append (digits_up_to most (n / 10)) (n % 10 ∷ [])) (omega (arith, up_to_most most (n / 10))))

pub count_most : (n : ℕ) → length (decimal n) ≤ n + 1
unfolding decimal digits
count_most n = rw (length-map (digits n) (λ d. 48 + d), add-one) (up_to_most (suc n) n)

pub hundreds_less : (n : ℕ) → 100 ≤ n → n / 100 < n
hundreds_less n h = omega (arith, div-add-mod' n 100)

pub tens_less : (n : ℕ) → 10 ≤ n → n / 10 < n
tens_less n h = omega (arith, div-add-mod' n 10)

-- ---- put into a buffer, the last digit first

module _ (n end : ℕ) (l : List ℕ) (count : length (decimal n) ≤ end) (room : end ≤ length l) where
  -- where the digits start
  abbrev from : ℕ
  from = end - length (decimal n)

  set_one : (d : ℕ) → 1 ≤ end → set l (end - 1) d ≡ splice (end - 1) (d ∷ []) l
  set_one d h = rw (splice_nil (end - 1) l, add-zero) at (splice-set (end - 1) [] l (omega arith) d (omega arith))

  pub put_one : n < 10 → set l (end - 1) (48 + n % 10) ≡ splice from (decimal n) l
  put_one h =
      let one = count_one n h in
      rw (decimal_one n h, mod-eq_of_lt {n = n} {m = 10} h) (set_one (48 + n) (omega arith))

  pub put_more : {w : List ℕ} → 10 ≤ n → w ≡ splice (end - 1 - length (decimal (n / 10))) (decimal (n / 10)) (set l (end - 1) (48 + n % 10)) → w ≡ splice from (decimal n) l
  put_more {w} h p =
      let more = count_more n h in
      let d = 48 + n % 10 in
      let f : end - 1 - length (decimal (n / 10)) ≡ from = omega arith in
      let g : end - 1 ≡ from + length (decimal (n / 10)) = omega arith in
      p ∙ rw (set_one d (omega arith), f, g) (splice_prepend from (decimal (n / 10)) (d ∷ []) l (omega arith))
      ∙ ap (λ (xs : List ℕ). splice from xs l) (sym (decimal-more n h))

-- where there is room, and where there is none
module _ (n at : ℕ) (l : List ℕ) where
  abbrev pub Put : Option ℕ → List ℕ → Type 0
  Put count w =
      (count ≡ cond (has_room at (decimal n) l) (Some (length (decimal n))) None) × (w ≡ cond (has_room at (decimal n) l) (text_at at (decimal n) l) l)

  pub put_nothing : length l < at + length (decimal n) → Put None l
  unfolding has_room
  put_nothing h = rw (lt-leb _ _ h) (refl, refl)

  pub put_all : {w : List ℕ} {count : ℕ} → at + length (decimal n) ≤ length l → count ≡ length (decimal n) → w ≡ splice (at + count - length (decimal n)) (decimal n) l → Put (Some count) w
  unfolding has_room splice
  put_all {w} {count} h e p =
      let f : at + count - length (decimal n) ≡ at = omega arith in
      rw (le-leb _ _ h) (ap Some e, rw f at p)

  -- what was put, where there is room
  pub put_room : {w : List ℕ} {count : Option ℕ} → at + length (decimal n) ≤ length l → Put count w → (count ≡ Some (length (decimal n))) × (w ≡ splice at (decimal n) l)
  unfolding has_room splice
  put_room h p = rw (le-leb _ _ h) at p

  -- what was put lies inside the buffer
  pub put_inside : {w : List ℕ} {count : Option ℕ} → Put count w → unwrap_or count 0 ≤ length l
  unfolding has_room
  put_inside p =
      rw p.0 (cond_elim (leb (at + length (decimal n)) (length l)) (Some (length (decimal n))) None (λ c. unwrap_or c 0 ≤ length l) (λ t. omega (arith, leb→le (at + length (decimal n)) (length l) t)) (λ t. omega arith))

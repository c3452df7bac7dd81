-- Laws of numbers as text: the digits that a text begins with are those that were written there. Assumes nothing.
use mathlib.Core.Path.{◌≡◌, refl, ap, ◌∙◌}
use mathlib.Core.Bool.{Bool, true, false, cond}
use mathlib.Core.List.{List, [], ◌∷◌, ◌++◌, map}
use Prim.Native.Nat.{ℕ, zero, suc, ◌+◌, ◌-◌, ◌≤◌, ◌<◌, ◌^◌}
use native.Mathlib.Nat.{min-eq_left}
use native.Mathlib.Omega.{arith}
use borrow.Author.Tests.{le-leb, lt-leb}
use lib.Dec.{T, leb, leb→le}
use lib.ListN.{length, get_or, drop, length-map}
use lib.Seq.{drop-drop}
use Rattle.mathematics.proofs.Tests.{both}
use Rattle.decimals.specs.Definitions.Digits.{value, digits}
use Rattle.decimals.specs.Definitions.Text.{decimal, is_digit, leading_digits, number_at}
use Rattle.decimals.specs.Checks.DigitLaws.{Digits}
use Rattle.decimals.proofs.Digits.{digits_cons, digits_tail, digits_none, digits-below, digits_some, length_digits, value-digits}

-- ---- digits and their bytes

abbrev pub written : List ℕ → List ℕ
written ds = map (λ d. 48 + d) ds

pub byte_of_digit : (d : ℕ) → d < 10 → is_digit (48 + d) ≡ true
unfolding is_digit
byte_of_digit d h = rw (le-leb 48 (48 + d) (omega arith), le-leb (48 + d) 57 (omega arith))

-- bytes below them are none
pub no_digit : (b : ℕ) → b < 48 → is_digit b ≡ false
unfolding is_digit
no_digit b h = rw (lt-leb 48 b h)

pub record DigitByte (b : ℕ) : Type 0 where
  pub below : b - 48 < 10
  pub same : 48 + (b - 48) ≡ b

pub digit_of_byte : (b : ℕ) → T (is_digit b) → DigitByte b
unfolding is_digit
digit_of_byte b t =
    let (low, high) = both (leb 48 b) (leb b 57) t in
    let l : 48 ≤ b = leb→le 48 b low in
    let h : b ≤ 57 = leb→le b 57 high in
    record { below = omega arith; same = omega arith }

-- ---- the digits that a text begins with

-- they are those that were written there, if another digit after them would be one too many or there is none
pub leading_written : (most : ℕ) (ds rest : List ℕ) → Digits ds → length ds ≤ most → (length ds < most → is_digit (get_or rest 0 0) ≡ false)
    → leading_digits most (written ds ++ rest) ≡ ds
unfolding leading_digits
leading_written zero [] rest below long stop = refl
leading_written zero (d ∷ ds) rest below long stop = absurd (omega arith)
leading_written (suc most) [] [] below long stop = refl
leading_written (suc most) [] (b ∷ rest) below long stop = rw (stop (omega arith))
leading_written (suc most) (d ∷ ds) rest below long stop =
    let same : 48 + d - 48 ≡ d = omega arith in
    let later = leading_written most ds rest (digits_tail d ds below) (omega arith) (λ h. stop (omega arith)) in
    rw (byte_of_digit d (below zero), same, later)

-- what is found at the start of a text
pub record Leading (most : ℕ) (text ds : List ℕ) : Type 0 where
  pub below : Digits ds
  pub long : length ds ≤ most
  pub front : text ≡ written ds ++ drop (length ds) text
  pub stop : length ds < most → is_digit (get_or (drop (length ds) text) 0 0) ≡ false

pub leading_found : (most : ℕ) (text : List ℕ) → Leading most text (leading_digits most text)
unfolding leading_digits
leading_found zero text = record { below = digits_none; long = omega arith; front = refl; stop = λ h. absurd (omega arith) }
leading_found (suc most) [] = record { below = digits_none; long = omega arith; front = refl; stop = λ h. unfold is_digit in refl }
leading_found (suc most) (b ∷ text) = cases (is_digit b) refl (leading_found most text)
  where
    cases : (test : Bool) → is_digit b ≡ test → Leading most text (leading_digits most text)
        → Leading (suc most) (b ∷ text) (cond test ((b - 48) ∷ leading_digits most text) [])
    cases true e later =
        let digit = digit_of_byte b (rw e tt) in
        record {
          below = digits_cons (b - 48) (leading_digits most text) digit.below later.below;
          long = omega arith;
          front = rw digit.same (ap (λ (l : List ℕ). b ∷ l) later.front);
          stop = λ h. later.stop (omega arith);
        }
    cases false e later = record { below = digits_none; long = omega arith; front = refl; stop = λ h. e }

-- ---- the number at a place

-- digits that stand at a place, with no other digit after them unless it would be one too many, are read as their value
pub number_written : (text : List ℕ) (at most : ℕ) (ds rest : List ℕ) → drop at text ≡ written ds ++ rest → most ≤ 9 → Digits ds → length ds ≤ most
    → (length ds < most → is_digit (get_or rest 0 0) ≡ false) → number_at text at most ≡ record { value = value ds; digits = length ds }
unfolding number_at
number_written text at most ds rest e nine below long stop = rw (min-eq_left nine, e, leading_written most ds rest below long stop)

-- and there is no other number to be read
pub record NumberFound (text : List ℕ) (at most : ℕ) : Type 0 where
  pub figures : List ℕ
  pub below : Digits figures
  pub long : length figures ≤ most
  pub front : drop at text ≡ written figures ++ drop (at + length figures) text
  pub stop : length figures < most → is_digit (get_or (drop (at + length figures) text) 0 0) ≡ false
  pub number : number_at text at most ≡ record { value = value figures; digits = length figures }

pub number_found : (text : List ℕ) (at most : ℕ) → most ≤ 9 → NumberFound text at most
unfolding number_at
number_found text at most nine =
    let ds = leading_digits most (drop at text) in
    let found = leading_found most (drop at text) in
    let later : drop (length ds) (drop at text) ≡ drop (at + length ds) text = drop-drop (length ds) at text in
    record {
      figures = ds;
      below = found.below;
      long = found.long;
      front = rw later at found.front;
      stop = rw later at found.stop;
      number = rw (min-eq_left nine);
    }

-- ---- a number's text

pub length_written : (ds : List ℕ) → length (written ds) ≡ length ds
length_written ds = length-map ds (λ d. 48 + d)

pub decimal-is : (n : ℕ) → decimal n ≡ written (digits n)
unfolding decimal
decimal-is n = refl

pub length-decimal : (n : ℕ) → length (decimal n) ≡ length (digits n)
length-decimal n = ap length (decimal-is n) ∙ length_written (digits n)

pub decimal_some : (n : ℕ) → 1 ≤ length (decimal n)
decimal_some n = rw (length-decimal n) (digits_some n)

pub decimal_most : (n k : ℕ) → 1 ≤ k → n < 10 ^ k → length (decimal n) ≤ k
decimal_most n k h l = rw (length-decimal n) (length_digits n k h l)

-- its bytes are digits
pub written_bytes_lem : (ds : List ℕ) → Digits ds → (k : ℕ) → k < length ds → T (is_digit (get_or (written ds) k 0))
written_bytes_lem [] below k h = absurd (omega arith)
written_bytes_lem (d ∷ ds) below zero h = rw (byte_of_digit d (below zero)) tt
written_bytes_lem (d ∷ ds) below (suc k) h = written_bytes_lem ds (digits_tail d ds below) k (omega arith)

pub decimal_bytes : (n k : ℕ) → k < length (decimal n) → T (is_digit (get_or (decimal n) k 0))
decimal_bytes n k h = rw (decimal-is n) (written_bytes_lem (digits n) (digits-below n) k (omega (arith, length-decimal n)))

-- it is read back, where no other digit follows
pub decimal_read : (text : List ℕ) (at most n : ℕ) (rest : List ℕ) → drop at text ≡ decimal n ++ rest → most ≤ 9 → length (decimal n) ≤ most
    → is_digit (get_or rest 0 0) ≡ false → number_at text at most ≡ record { value = n; digits = length (decimal n) }
decimal_read text at most n rest e nine long stop =
    number_written text at most (digits n) rest (rw (decimal-is n) at e) nine (digits-below n) (rw (length-decimal n) at long) (λ h. stop) ∙ rw (value-digits n, length-decimal n)

-- What a number's text is and what is read of a text, byte by byte; and the worked texts, by computation. Assumes nothing.
use mathlib.Core.Path.{◌≡◌, refl, sym, ap, ◌∙◌}
use mathlib.Core.Logic.{◌↔◌}
use mathlib.Core.Bool.{false}
use mathlib.Core.List.{List, [], ◌∷◌, ◌++◌}
use Prim.Native.Nat.{ℕ, zero, suc, ◌+◌, ◌≤◌, ◌<◌, min}
use native.Mathlib.Nat.{add-zero, min-eq_left, min-le_right}
use native.Mathlib.Omega.{arith}
use lib.Dec.{T, leb, leb→le, le→leb}
use lib.ListN.{length, get_or, drop, get_or-append}
use lib.Seq.{get_or-drop, drop-append_seam}
use Rattle.mathematics.proofs.Tests.{both, both_of, same_test}
use Rattle.decimals.specs.declared.Number.{Number}
use Rattle.decimals.specs.Definitions.Digits.{value, digits_up_to, digits}
use Rattle.decimals.specs.Definitions.Text.{decimal, is_digit, leading_digits, number_at}
use Rattle.decimals.specs.Checks.TextLaws.{DigitByte, BeginsWith, NumberBegins, TextLaws, WorkedTexts}
use Rattle.decimals.proofs.Text.{written, leading_written, leading_found, length_written, length-decimal, decimal-is, decimal_bytes, decimal_read}

-- ---- the test of a byte

digit_decides : (b : ℕ) → T (is_digit b) ↔ DigitByte b
unfolding is_digit
digit_decides b = (
  λ t. let (low, high) = both (leb 48 b) (leb b 57) t in (leb→le 48 b low, leb→le b 57 high),
  λ h. both_of (leb 48 b) (leb b 57) (le→leb 48 b h.0) (le→leb b 57 h.1),
)

none : (b : ℕ) → is_digit b ≡ false → ¬ (DigitByte b)
none b e h = rw e at ((digit_decides b).1 h)

none_of : (b : ℕ) → ¬ (DigitByte b) → is_digit b ≡ false
none_of b h = same_test (is_digit b) false (λ t. h ((digit_decides b).0 t)) (λ t. absurd t)

-- ---- digits, byte by byte

written_at : (ds : List ℕ) (k : ℕ) → k < length ds → get_or (written ds) k 0 ≡ 48 + get_or ds k 0
written_at [] k h = absurd (omega arith)
written_at (d ∷ ds) zero h = refl
written_at (d ∷ ds) (suc k) h = written_at ds k (omega arith)

front : (text ds : List ℕ) → ((k : ℕ) → k < length ds → get_or text k 0 ≡ 48 + get_or ds k 0) → text ≡ written ds ++ drop (length ds) text
front text [] same = refl
front [] (d ∷ ds) same = absurd (omega (arith, same 0 (omega arith)))
front (b ∷ text) (d ∷ ds) same =
    rw (← same 0 (omega arith)) (ap (λ (l : List ℕ). b ∷ l) (front text ds (λ k h. same (suc k) (omega arith))))

-- the byte after them
next : (text ds : List ℕ) → get_or (drop (length ds) text) 0 0 ≡ get_or text (length ds) 0
next text ds = get_or-drop (length ds) text 0 0 ∙ rw (add-zero (length ds))

leading : (most : ℕ) (text : List ℕ) → BeginsWith text most (leading_digits most text)
leading most text =
    let ds = leading_digits most text in
    let found = leading_found most text in
    record {
      below = found.below;
      long = found.long;
      same = λ k h.
          ap (λ (l : List ℕ). get_or l k 0) found.front
          ∙ get_or-append (written ds) (drop (length ds) text) 0 k (omega (arith, length_written ds)) ∙ written_at ds k h;
      stop = λ h. none (get_or text (length ds) 0) (sym (ap is_digit (next text ds)) ∙ found.stop h);
    }

leading_only : (most : ℕ) (text figures : List ℕ) → BeginsWith text most figures → leading_digits most text ≡ figures
leading_only most text figures b =
    ap (leading_digits most) (front text figures b.same)
    ∙ leading_written most figures (drop (length figures) text) b.below b.long
    (λ h. ap is_digit (next text figures) ∙ none_of (get_or text (length figures) 0) (b.stop h))

-- ---- numbers

number : (text : List ℕ) (at most : ℕ) → NumberBegins text at most (number_at text at most)
unfolding number_at
number text at most = record { figures = leading_digits (min most 9) (drop at text); begins = leading (min most 9) (drop at text); valued = refl; counted = refl }

number_only : (text : List ℕ) (at most : ℕ) (n : Number) → NumberBegins text at most n → number_at text at most ≡ n
unfolding number_at
number_only text at most n b = rw (leading_only (min most 9) (drop at text) b.figures b.begins, ← b.valued, ← b.counted)

-- never more than nine
nine : (text : List ℕ) (at most : ℕ) → number_at text at most ≡ number_at text at (min most 9)
unfolding number_at
nine text at most = rw (min-eq_left (min-le_right most 9))

read_back : (before rest : List ℕ) (most n : ℕ) → length (decimal n) ≤ min most 9 → ¬ (DigitByte (get_or rest 0 0))
    → number_at (before ++ (decimal n ++ rest)) (length before) most ≡ record { value = n; digits = length (decimal n) }
read_back before rest most n long stop =
    nine (before ++ (decimal n ++ rest)) (length before) most
    ∙ decimal_read (before ++ (decimal n ++ rest)) (length before) (min most 9) n rest
    (drop-append_seam before (decimal n ++ rest)) (min-le_right most 9) long (none_of (get_or rest 0 0) stop)

pub text_laws : TextLaws
text_laws =
    record {
      digit = digit_decides;
      written_count = length-decimal;
      written_bytes_lem = λ n k h. ap (λ (l : List ℕ). get_or l k 0) (decimal-is n) ∙ written_at (digits n) k (omega (arith, length-decimal n));
      written_digits = λ n k h. (digit_decides (get_or (decimal n) k 0)).0 (decimal_bytes n k h);
      leading = leading;
      leading_only = leading_only;
      number = number;
      number_only = number_only;
      read_back = read_back;
    }

pub worked_texts : WorkedTexts
unfolding value digits_up_to digits decimal is_digit leading_digits number_at
worked_texts =
    record {
      nought = refl;
      ten = refl;
      greatest_side = refl;
      ten_in_buffer = refl;
      up_to_space = refl;
      up_to_most = refl;
      up_to_end = refl;
      no_digit = refl;
      past_the_end = refl;
      leading_zeros = refl;
      before_nought = refl;
      after_nine = refl;
      nine_at_most = refl;
    }

-- Laws of one number of a header, with white space before it: it is read where it stands, and what is read stands there. Assumes nothing.
use mathlib.Core.Path.{◌≡◌, refl, sym, ap, ◌∙◌}
use mathlib.Core.Bool.{false}
use mathlib.Core.List.{List, [], ◌∷◌, ◌++◌, append_assoc}
use Prim.Native.Nat.{ℕ, ◌+◌, ◌≤◌, ◌<◌}
use native.Mathlib.Omega.{arith}
use borrow.Author.Tests.{ne_eqb}
use lib.Dec.{T, ltb, lt→ltb, ltb→lt}
use lib.ListN.{length, get_or, take, drop, length-append, length-take, length-drop, take-append-drop}
use lib.Seq.{drop-drop, drop-append_seam}
use Rattle.mathematics.proofs.Tests.{both, both_of}
use Rattle.decimals.specs.Definitions.Digits.{value}
use Rattle.decimals.specs.Definitions.Text.{is_digit, number_at}
use Rattle.decimals.specs.Checks.DigitLaws.{Digits}
use Rattle.decimals.proofs.Text.{written, no_digit, length_written, number_written, NumberFound, number_found}
use Rattle.pgm.specs.Definitions.Header.{is_space, spaces, digits_place, number_end, number_in, number_ok}
use Rattle.pgm.specs.Checks.Grammar.{SpaceByte, space, tab, newline, return, Spaces, none, byte, comment, SpacedNumber}
use Rattle.pgm.proofs.Spaces.{goes_on, spaces-counted, spaces_white}

-- ---- where one of the two ends, the other may start

-- a digit is no white space
digits_stop : (figures rest : List ℕ) → Digits figures → 1 ≤ length figures → goes_on (get_or (written figures ++ rest) 0 0) ≡ false
unfolding is_space
digits_stop [] rest below some = absurd (omega arith)
digits_stop (d ∷ figures) rest below some =
    rw (ne_eqb (48 + d) 32 (omega arith), ne_eqb (48 + d) 9 (omega arith), ne_eqb (48 + d) 10 (omega arith), ne_eqb (48 + d) 13 (omega arith), ne_eqb (48 + d) 35 (omega arith))

-- white space is no digit
pub byte_stops : {b : ℕ} → SpaceByte b → is_digit b ≡ false
byte_stops space = no_digit 32 (omega arith)
byte_stops tab = no_digit 9 (omega arith)
byte_stops newline = no_digit 10 (omega arith)
byte_stops return = no_digit 13 (omega arith)

gap_stops : {gap : List ℕ} (rest : List ℕ) → Spaces gap → 1 ≤ length gap → is_digit (get_or (gap ++ rest) 0 0) ≡ false
gap_stops rest none some = absurd (omega arith)
gap_stops rest (byte b more) some = byte_stops b
gap_stops rest (comment text later inside more) some = no_digit 35 (omega arith)

pub spaced_stops : {part : List ℕ} {n : ℕ} (rest : List ℕ) → SpacedNumber part n → is_digit (get_or (part ++ rest) 0 0) ≡ false
spaced_stops rest s = rw (s.parts, append_assoc s.gap s.number rest) (gap_stops (s.number ++ rest) s.white s.some)

-- ---- what stands at a place is read

-- a number that is read from a place on, the bytes that it takes and those after it
pub record NumberRead (bytes : List ℕ) (at n : ℕ) (rest : List ℕ) : Type 0 where
  pub ok : T (number_ok bytes at)
  pub valued : number_in bytes at ≡ n
  pub later : drop (number_end bytes at) bytes ≡ rest

module _ (bytes : List ℕ) (at n : ℕ) (part rest : List ℕ) (s : SpacedNumber part n) (here : drop at bytes ≡ part ++ rest)
    (stop : is_digit (get_or rest 0 0) ≡ false) where
  abbrev figures : List ℕ
  figures = s.numbered.figures

  apart : drop at bytes ≡ s.gap ++ (written figures ++ rest)
  apart =
      here
      ∙ ap (λ (l : List ℕ). l ++ rest) s.parts
      ∙ append_assoc s.gap s.number rest
      ∙ ap (λ (l : List ℕ). s.gap ++ (l ++ rest)) s.numbered.written

  starts : digits_place bytes at ≡ at + length s.gap
  unfolding digits_place
  starts = rw (apart, spaces-counted (written figures ++ rest) s.white (digits_stop figures rest s.numbered.below s.numbered.some))

  figured : drop (at + length s.gap) bytes ≡ written figures ++ rest
  figured = sym (drop-drop (length s.gap) at bytes) ∙ rw apart (drop-append_seam s.gap (written figures ++ rest))

  found : number_at bytes (digits_place bytes at) 5 ≡ record { value = value figures; digits = length figures }
  found =
      rw starts
      (number_written bytes (at + length s.gap) 5 figures rest figured (omega arith) s.numbered.below s.numbered.most (λ h. stop))

  ends : number_end bytes at ≡ at + length s.gap + length figures
  unfolding number_end
  ends = rw (found, starts)

  pub number_read : NumberRead bytes at n rest
  unfolding number_ok number_in
  number_read =
      record {
        ok = both_of (ltb at (digits_place bytes at)) (ltb (digits_place bytes at) (number_end bytes at))
            (lt→ltb at (digits_place bytes at) (omega (arith, starts, s.some)))
            (lt→ltb (digits_place bytes at) (number_end bytes at) (omega (arith, starts, ends, s.numbered.some)));
        valued = rw (found, number_in) s.numbered.counted;
        later =
            rw (ends, ← drop-drop (length figures) (at + length s.gap) bytes, figured, ← length_written figures)
            (drop-append_seam (written figures) rest);
      }

-- ---- what is read stands there

pub record NumberThere (bytes : List ℕ) (at : ℕ) : Type 0 where
  pub part : List ℕ
  pub here : drop at bytes ≡ part ++ drop (number_end bytes at) bytes
  pub spaced : SpacedNumber part (number_in bytes at)

module _ (bytes : List ℕ) (at : ℕ) (ok : T (number_ok bytes at)) where
  abbrev after : List ℕ
  after = drop at bytes

  abbrev gap : List ℕ
  gap = take (spaces false after) after

  there : NumberFound bytes (digits_place bytes at) 5
  there = number_found bytes (digits_place bytes at) 5 (omega arith)

  -- there is white space, there is a digit, and both are inside
  record Counted : Type 0 where
    white : 1 ≤ spaces false after
    inside : spaces false after < length after
    digit : 1 ≤ length there.figures
    ends : number_end bytes at ≡ digits_place bytes at + length there.figures

  counted : Counted
  unfolding number_ok number_end digits_place
  counted =
      let (gapped, figured) = both (ltb at (digits_place bytes at)) (ltb (digits_place bytes at) (number_end bytes at)) ok in
      let white : at < digits_place bytes at = ltb→lt _ _ gapped in
      let ends : number_end bytes at ≡ digits_place bytes at + length there.figures = rw there.number in
      let digit : digits_place bytes at < number_end bytes at = ltb→lt _ _ figured in
      let long = ap length there.front ∙ length-append (written there.figures) (drop (digits_place bytes at + length there.figures) bytes) in
      record {
        white = omega arith;
        inside = omega (arith, length-drop (digits_place bytes at) bytes, length-drop at bytes, length_written there.figures);
        digit = omega arith;
        ends = ends;
      }

  behind : drop (spaces false after) after ≡ written there.figures ++ drop (digits_place bytes at + length there.figures) bytes
  unfolding digits_place
  behind = drop-drop (spaces false after) at bytes ∙ there.front

  pub number_there : NumberThere bytes at
  unfolding number_in
  number_there =
      record {
        part = gap ++ written there.figures;
        here =
            sym (take-append-drop (spaces false after) after)
            ∙ ap (λ (l : List ℕ). gap ++ l) behind
            ∙ rw counted.ends (sym (append_assoc gap (written there.figures) (drop (digits_place bytes at + length there.figures) bytes)));
        spaced =
            record {
              gap = gap;
              number = written there.figures;
              parts = refl;
              white = spaces_white after counted.inside;
              some = omega (arith, length-take (spaces false after) after, counted.white, counted.inside);
              numbered =
                  record {
                    figures = there.figures;
                    below = there.below;
                    some = counted.digit;
                    most = there.long;
                    written = refl;
                    counted = rw (there.number, number_in);
                  };
            };
      }

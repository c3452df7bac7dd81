-- A header is accepted just where it is one of document 02's, and it can be read in one way only. Assumes nothing.
use mathlib.Core.Path.{◌≡◌, sym, ap, ◌∙◌}
use mathlib.Core.Bool.{Bool, ◌&&◌}
use mathlib.Core.List.{List, [], ◌∷◌, ◌++◌}
use Prim.Native.Nat.{ℕ, ◌+◌, ◌<◌}
use native.Mathlib.Decide.{dec_lt}
use native.Mathlib.Numerals.{add-one}
use native.Mathlib.Omega.{arith}
use lib.Dec.{T, eqb, eqb→eq}
use lib.ListN.{length, get_or, drop, length-drop, get_or-eq_default}
use lib.Seq.{drop-cons, drop-drop, get_or-drop}
use Rattle.mathematics.proofs.Tests.{both, both_of}
use Rattle.pgm.specs.Definitions.Header.{is_space, number_ok, header_ok, columns_in, rows_in, greatest_in, rows_place, greatest_place, last_space, pixels_place}
use Rattle.pgm.specs.Checks.Grammar.{IsPgm, ReadAs, HeaderRule}
use Rattle.pgm.proofs.Spaces.{space_is, is_space_lem}
use Rattle.pgm.proofs.SpacedNumbers.{byte_stops, spaced_stops, NumberRead, number_read, number_there}

-- what an accepted header has, in its order
record Accepted (bytes : List ℕ) : Type 0 where
  letter : get_or bytes 0 0 ≡ 80
  figure : get_or bytes 1 0 ≡ 53
  columned : T (number_ok bytes 2)
  rowed : T (number_ok bytes (rows_place bytes))
  greyed : T (number_ok bytes (greatest_place bytes))
  white : T (is_space (get_or bytes (last_space bytes) 0))

module _ (bytes : List ℕ) where
  abbrev letters : Bool
  letters = eqb (get_or bytes 0 0) 80 && eqb (get_or bytes 1 0) 53

  abbrev one : Bool
  one = letters && number_ok bytes 2

  abbrev two : Bool
  two = one && number_ok bytes (rows_place bytes)

  abbrev three : Bool
  three = two && number_ok bytes (greatest_place bytes)

  accepted : T (header_ok bytes) → Accepted bytes
  unfolding header_ok
  accepted t =
      let (t₃, white) = both three (is_space (get_or bytes (last_space bytes) 0)) t in
      let (t₂, greyed) = both two (number_ok bytes (greatest_place bytes)) t₃ in
      let (t₁, rowed) = both one (number_ok bytes (rows_place bytes)) t₂ in
      let (t₀, columned) = both letters (number_ok bytes 2) t₁ in
      let (letter, figure) = both (eqb (get_or bytes 0 0) 80) (eqb (get_or bytes 1 0) 53) t₀ in
      record { letter = eqb→eq _ _ letter; figure = eqb→eq _ _ figure; columned = columned; rowed = rowed; greyed = greyed; white = white }

  accepting : Accepted bytes → T (header_ok bytes)
  unfolding header_ok
  accepting a =
      both_of three (is_space (get_or bytes (last_space bytes) 0))
      (both_of two (number_ok bytes (greatest_place bytes))
      (both_of one (number_ok bytes (rows_place bytes))
      (both_of letters (number_ok bytes 2)
      (both_of (eqb (get_or bytes 0 0) 80) (eqb (get_or bytes 1 0) 53) (rw a.letter tt) (rw a.figure tt))
      a.columned)
      a.rowed)
      a.greyed)
      a.white

-- ---- accepted, so one of document 02's

starts : (bytes : List ℕ) → get_or bytes 0 0 ≡ 80 → get_or bytes 1 0 ≡ 53 → bytes ≡ 80 ∷ 53 ∷ drop 2 bytes
starts [] letter figure = absurd (omega arith)
starts (a ∷ []) letter figure = absurd (omega arith)
starts (a ∷ b ∷ bytes) letter figure = rw (letter, figure)

-- a white space byte is inside: past the end is 0, which is none
zero_none : T (is_space 0) → ⊥
unfolding is_space
zero_none t = t

inside : (bytes : List ℕ) (at : ℕ) → T (is_space (get_or bytes at 0)) → at < length bytes
inside bytes at t = cases (dec_lt at (length bytes))
  where
    cases : Dec (at < length bytes) → at < length bytes
    cases (yes h) = h
    cases (no h) = absurd (zero_none (rw (get_or-eq_default bytes 0 {n = at} (omega arith)) at t))

is_pgm : (bytes : List ℕ) → Accepted bytes → IsPgm bytes (columns_in bytes) (rows_in bytes) (greatest_in bytes) (drop (pixels_place bytes) bytes)
is_pgm bytes a =
    let width = number_there bytes 2 a.columned in
    let height = number_there bytes (rows_place bytes) a.rowed in
    let grey = number_there bytes (greatest_place bytes) a.greyed in
    let ended : drop (last_space bytes) bytes ≡ get_or bytes (last_space bytes) 0 ∷ drop (pixels_place bytes) bytes =
    drop-cons bytes (last_space bytes) 0 (inside bytes (last_space bytes) a.white) ∙ rw (add-one (last_space bytes)) in
    record {
      width = width.part;
      height = height.part;
      grey = grey.part;
      last = get_or bytes (last_space bytes) 0;
      parts = starts bytes a.letter a.figure
          ∙ ap (λ (l : List ℕ). 80 ∷ 53 ∷ l) (width.here
          ∙ ap (λ (l : List ℕ). width.part ++ l) (height.here
          ∙ ap (λ (l : List ℕ). height.part ++ l) (grey.here
          ∙ ap (λ (l : List ℕ). grey.part ++ l) ended)));
      columned = width.spaced;
      rowed = height.spaced;
      greyed = grey.spaced;
      white = is_space_lem (get_or bytes (last_space bytes) 0) a.white;
    }

-- ---- one of document 02's, so accepted and read as it is

module _ (bytes : List ℕ) (columns rows greatest : ℕ) (pixels : List ℕ) (x : IsPgm bytes columns rows greatest pixels) where
  abbrev after_grey : List ℕ
  after_grey = x.last ∷ pixels

  abbrev after_height : List ℕ
  after_height = x.grey ++ after_grey

  abbrev after_width : List ℕ
  after_width = x.height ++ after_height

  width : NumberRead bytes 2 columns after_width
  width = number_read bytes 2 columns x.width after_width x.columned (ap (λ (l : List ℕ). drop 2 l) x.parts) (spaced_stops after_height x.rowed)

  height : NumberRead bytes (rows_place bytes) rows after_height
  height = number_read bytes (rows_place bytes) rows x.height after_height x.rowed width.later (spaced_stops after_grey x.greyed)

  grey : NumberRead bytes (greatest_place bytes) greatest after_grey
  grey = number_read bytes (greatest_place bytes) greatest x.grey after_grey x.greyed height.later (byte_stops x.white)

  last : get_or bytes (last_space bytes) 0 ≡ x.last
  last =
      let zero-on : last_space bytes + 0 ≡ last_space bytes = omega arith in
      rw (← zero-on, ← get_or-drop (last_space bytes) bytes 0 0, grey.later)

  read_as : ReadAs bytes columns rows greatest pixels
  read_as =
      record {
        ok = accepting bytes (record {
          letter = ap (λ (l : List ℕ). get_or l 0 0) x.parts;
          figure = ap (λ (l : List ℕ). get_or l 1 0) x.parts;
          columned = width.ok;
          rowed = height.ok;
          greyed = grey.ok;
          white = rw (last, space_is x.white) tt;
        });
        columned = width.valued;
        rowed = height.valued;
        greyed = grey.valued;
        rest = sym (drop-drop 1 (last_space bytes) bytes) ∙ ap (λ (l : List ℕ). drop 1 l) grey.later;
        whole = omega (arith, ap length grey.later, length-drop (last_space bytes) bytes);
      }

pub header_rule : HeaderRule
header_rule = record { read = λ bytes t. is_pgm bytes (accepted bytes t); only = read_as }

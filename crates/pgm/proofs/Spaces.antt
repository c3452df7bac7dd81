-- Laws of white space before a number: it is counted just as far as it goes, and what is counted is white space. Assumes nothing.
use mathlib.Core.Path.{◌≡◌, refl, sym, ap, subst}
use mathlib.Core.Logic.{◌≢◌}
use mathlib.Core.Bool.{Bool, true, false, not, ◌||◌}
use mathlib.Core.List.{List, [], ◌∷◌, ◌++◌, append_assoc}
use Prim.Native.Nat.{ℕ, zero, suc, ◌+◌, ◌<◌}
use native.Mathlib.Omega.{arith}
use borrow.Author.Tests.{eqb-true, eqb-false, ne_eqb}
use lib.Dec.{T, eqb, eqb→eq}
use lib.ListN.{length, get_or, take, length-append}
use Rattle.mathematics.proofs.Tests.{cond_elim}
use Rattle.pgm.specs.Definitions.Header.{is_space, spaces}
use Rattle.pgm.specs.Checks.Grammar.{SpaceByte, space, tab, newline, return, Spaces, none, byte, comment}

-- ---- one byte

pub space_is : {b : ℕ} → SpaceByte b → is_space b ≡ true
unfolding is_space
space_is space = refl
space_is tab = refl
space_is newline = refl
space_is return = refl

no_hash : {b : ℕ} → SpaceByte b → eqb b 35 ≡ false
no_hash space = refl
no_hash tab = refl
no_hash newline = refl
no_hash return = refl

either : (a b : Bool) {P : Type 0} → (T a → P) → (T b → P) → T (a || b) → P
either true b f g t = f tt
either false b f g t = g t

pub is_space_lem : (b : ℕ) → T (is_space b) → SpaceByte b
unfolding is_space
is_space_lem b =
    either (eqb b 32 || eqb b 9 || eqb b 10) (eqb b 13)
    (either (eqb b 32 || eqb b 9) (eqb b 10) (either (eqb b 32) (eqb b 9) (is space) (is tab)) (is newline))
    (is return)
  where
    is : {code : ℕ} → SpaceByte code → T (eqb b code) → SpaceByte b
    is {code} named t = subst SpaceByte (sym (eqb→eq b code t)) named

-- ---- white space is counted up to a byte that is none

-- a byte that white space goes on with, or where a comment starts
abbrev pub goes_on : ℕ → Bool
goes_on b = is_space b || eqb b 35

spaces_stop : (rest : List ℕ) → goes_on (get_or rest 0 0) ≡ false → spaces false rest ≡ 0
unfolding spaces
spaces_stop [] stop = refl
spaces_stop (b ∷ rest) stop = rw stop

comment_counted : (text later : List ℕ) → ((k : ℕ) → get_or text k 0 ≢ 10) → spaces true (text ++ (10 ∷ later)) ≡ length text + suc (spaces false later)
unfolding spaces
comment_counted [] later inside = omega arith
comment_counted (b ∷ text) later inside = rw (ne_eqb b 10 (inside zero), comment_counted text later (λ k. inside (suc k))) (omega arith)

pub spaces-counted : {gap : List ℕ} (rest : List ℕ) → Spaces gap → goes_on (get_or rest 0 0) ≡ false → spaces false (gap ++ rest) ≡ length gap
unfolding spaces is_space
spaces-counted rest none stop = spaces_stop rest stop
spaces-counted rest (byte b more) stop = rw (space_is b, no_hash b) (ap suc (spaces-counted rest more stop))
spaces-counted rest (comment text later inside more) stop =
    rw (append_assoc text (10 ∷ later) rest, comment_counted text (later ++ rest) inside, spaces-counted rest more stop, length-append text (10 ∷ later))

-- ---- what is counted is white space, unless the bytes end in a comment

-- the rest of a comment, and white space after it
record Comment (bytes : List ℕ) : Type 0 where
  text : List ℕ
  later : List ℕ
  parts : bytes ≡ text ++ (10 ∷ later)
  inside : (k : ℕ) → get_or text k 0 ≢ 10
  white : Spaces later

White : Bool → List ℕ → Type 0
White true bytes = Comment bytes
White false bytes = Spaces bytes

comment_step : (b : ℕ) (bytes : List ℕ) (end : Bool) → eqb b 10 ≡ end → White (not end) bytes → Comment (b ∷ bytes)
unfolding White
comment_step b bytes true e white =
    record { text = []; later = bytes; parts = rw (eqb-true b 10 e); inside = λ k. omega arith; white = white }
comment_step b bytes false e more =
    record {
      text = b ∷ more.text;
      later = more.later;
      parts = ap (λ (l : List ℕ). b ∷ l) more.parts;
      inside = elim [ zero ↦ eqb-false b 10 e | suc k ↦ more.inside k ];
      white = more.white;
    }

white_step : (b : ℕ) (bytes : List ℕ) (hash : Bool) → eqb b 35 ≡ hash → T (is_space b || hash) → White hash bytes → Spaces (b ∷ bytes)
unfolding White
white_step b bytes true e t white = rw (eqb-true b 35 e, white.parts) (comment white.text white.later white.inside white.white)
white_step b bytes false e t white = byte (is_space_lem b (either (is_space b) false (λ s. s) (λ s. absurd s) t)) white

white_counted : (inside : Bool) (bytes : List ℕ) → spaces inside bytes < length bytes → White inside (take (spaces inside bytes) bytes)
unfolding spaces White
white_counted true [] h = absurd (omega arith)
white_counted false [] h = absurd (omega arith)
white_counted true (b ∷ bytes) h = comment_step b _ (eqb b 10) refl (white_counted (not (eqb b 10)) bytes (omega arith))
white_counted false (b ∷ bytes) h =
    cond_elim (goes_on b) (suc (spaces (eqb b 35) bytes)) 0 (λ n. n < suc (length bytes) → Spaces (take n (b ∷ bytes)))
    (λ t l. white_step b _ (eqb b 35) refl t (white_counted (eqb b 35) bytes (omega arith)))
    (λ t l. none)
    h

pub spaces_white : (bytes : List ℕ) → spaces false bytes < length bytes → Spaces (take (spaces false bytes) bytes)
unfolding White
spaces_white bytes h = white_counted false bytes h

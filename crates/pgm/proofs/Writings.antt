-- What the writer puts into its buffer, piece after piece, and the size that it answers. Assumes nothing.
use mathlib.Core.Path.{◌≡◌, refl, sym, ap, ◌∙◌}
use mathlib.Core.Logic.{◌≢◌}
use mathlib.Core.List.{List, [], ◌∷◌, ◌++◌}
use Prim.Native.Nat.{ℕ, suc, ◌+◌, ◌*◌, ◌≤◌, ◌<◌}
use native.Mathlib.Nat.{zero-add}
use native.Mathlib.Omega.{arith}
use borrow.Author.Tests.{eq-eqb, ne_eqb, le-leb, lt-leb}
use lib.Dec.{leb}
use lib.ListN.{length, set, take, drop, length-append}
use lib.Seq.{length-take-le}
use Rattle.std.proofs.Common.{Option, Some, Result, Ok, Err}
use Rattle.std.specs.Option.{IsSome}
use Rattle.mathematics.specs.Inner.Splices.{splice}
use Rattle.mathematics.proofs.Splices.{splice-set, splice_whole}
use Rattle.decimals.specs.Definitions.Text.{decimal}
use Rattle.decimals.proofs.Counting.{decimal_one, decimal-more, count_most, Put, put_room}
use Rattle.refusals.specs.declared.Refusal.{Refusal}
use Rattle.refusals.specs.declared.Refusal.TheVariants.{PictureLength, FileLength}
use Rattle.refusals.specs.Definitions.Numbers.{number as number_of}
use Rattle.refusals.specs.Definitions.Outcomes.{outcome}
use Rattle.refusals.proofs.Outcomes.{refuses, accepts}
use Rattle.pyramid.specs.Definitions.Settings.{size_ok}
use Rattle.pyramid.specs.Definitions.Refusals.{unless, first}
use Rattle.pyramid.proofs.Refusals.{first_nil, first_stop, answers_skip, answers_fails, answers_passes, leaves_kept, outcome_left}
use Rattle.pgm.specs.Definitions.Files.{number_then, header_of, pgm_of, pgm_length}
use Rattle.pgm.specs.Definitions.Calls.{size_answer, write_refusal, write_pgm}
use Rattle.pgm.proofs.Acceptance.{writing_is}
use Rattle.pgm.proofs.Answers.{size_accepted}

-- ---- lengths

pub then_length : (n space : ℕ) → length (number_then n space) ≡ length (decimal n) + 1
unfolding number_then
then_length n space = length-append (decimal n) (space ∷ [])

-- the greatest grey is three digits and a newline
greatest_is : number_then 255 10 ≡ 50 ∷ 53 ∷ 53 ∷ 10 ∷ []
unfolding number_then
greatest_is = rw (decimal-more 255 (omega arith), decimal-more 25 (omega arith), decimal_one 2 (omega arith))

pub greatest_length : length (number_then 255 10) ≡ 4
greatest_length = rw greatest_is

module _ (columns rows : ℕ) where
  pub header_pieces : length (header_of columns rows) ≡ 3 + (length (decimal columns) + 1) + (length (decimal rows) + 1) + 4
  unfolding header_of
  header_pieces =
      let c = then_length columns 32 in
      let r = then_length rows 10 in
      let g = greatest_length in
      let two = length-append (number_then rows 10) (number_then 255 10) in
      let one = length-append (number_then columns 32) (number_then rows 10 ++ number_then 255 10) in
      omega arith

  pub header_length : length (header_of columns rows) ≡ 9 + (length (decimal columns) + length (decimal rows))
  header_length = omega (arith, header_pieces)

  pub pgm_pieces : pgm_length columns rows ≡ length (header_of columns rows) + rows * columns
  unfolding pgm_length
  pgm_pieces = refl

  pgm_length_lem : pgm_length columns rows ≡ 9 + (length (decimal columns) + length (decimal rows)) + rows * columns
  unfolding pgm_length
  pgm_length_lem = ap (λ (k : ℕ). k + rows * columns) header_length

-- ---- parts

-- a number that was put in its part, and its white space byte
module _ (n : ℕ) (l : List ℕ) {w : List ℕ} {o : Option ℕ} (long : length l ≡ length (decimal n) + 1) (put : Put n 0 l o w) where
  there : (o ≡ Some (length (decimal n))) × (w ≡ splice 0 (decimal n) l)
  there = put_room n 0 l (omega arith) put

  pub put_some : IsSome o
  put_some = rw there.0

  pub put_then : {count : ℕ} → o ≡ Some count → (space : ℕ) → set w count space ≡ number_then n space
  unfolding number_then
  put_then {count} is space =
      let same : Some count ≡ Some (length (decimal n)) = sym is ∙ there.0 in
      let counted : count ≡ length (decimal n) = cc in
      let all : length (decimal n ++ (space ∷ [])) ≡ length l = length-append (decimal n) (space ∷ []) ∙ sym long in
      let set_there : set (splice 0 (decimal n) l) (0 + length (decimal n)) space ≡ splice 0 (decimal n ++ (space ∷ [])) l =
      splice-set 0 (decimal n) l (omega arith) space (omega arith)
      in
      rw (there.1, counted) (rw zero-add at set_there ∙ splice_whole (decimal n ++ (space ∷ [])) l all)

pub header_whole : (columns rows : ℕ) {a b c d : List ℕ} → a ≡ 80 ∷ 53 ∷ 10 ∷ [] → b ≡ number_then columns 32 → c ≡ number_then rows 10 → d ≡ 50 ∷ 53 ∷ 53 ∷ 10 ∷ []
    → a ++ (b ++ (c ++ d)) ≡ header_of columns rows
unfolding header_of
header_whole columns rows p q r t = rw (p, q, r, t, greatest_is)

pub pgm_whole : (columns rows : ℕ) (picture : List ℕ) {a b : List ℕ} → a ≡ header_of columns rows → b ≡ picture → a ++ b ≡ pgm_of columns rows picture
unfolding pgm_of
pgm_whole columns rows picture p q = rw (p, q)

-- ---- what the writer answers

module _ (columns rows : ℕ) where
  abbrev size_number : ℕ
  size_number = unless (size_ok columns rows) 1

  -- all of it is small
  pub size_small : {c r : ℕ} → size_number ≡ 0 → c ≡ length (decimal columns) → r ≡ length (decimal rows) → 9 + (c + r) + rows * columns ≤ 16910
  size_small none p q =
      let size = size_accepted columns rows none in
      omega (arith, size.most, size.across.1, size.along.1, count_most columns, count_most rows)

  -- a refusal is alone, whatever the size would be
  pub size-outcome : outcome (size_answer columns rows).refusal (size_answer columns rows).size ≡ outcome size_number (pgm_length columns rows)
  unfolding size_answer
  size-outcome = outcome_left size_number (pgm_length columns rows) 0

  pub size_found : {c r : ℕ} → size_number ≡ 0 → c ≡ length (decimal columns) → r ≡ length (decimal rows)
      → Ok (9 + (c + r) + rows * columns) ≡ outcome (size_answer columns rows).refusal (size_answer columns rows).size
  size_found none p q = rw size-outcome (rw (p, q, ← pgm_length_lem columns rows) (accepts _ none))

  module _ (picture file : List ℕ) where
    abbrev number : ℕ
    number = write_refusal columns rows (length picture) (length file)

    abbrev pub Answered : Result ℕ Refusal → Type 0
    Answered result = result ≡ outcome (write_pgm columns rows picture file).answer.refusal (write_pgm columns rows picture file).answer.size

    -- a refusal touches nothing
    untouched : (number ≡ 0 → ⊥) → file ≡ (write_pgm columns rows picture file).file
    unfolding write_pgm
    untouched refused = sym (leaves_kept _ _ _ refused)

    pub stops : (size_number ≡ 0 → ⊥) → number ≡ size_number
    unfolding write_refusal
    stops refused = first_stop _ _ refused

    pub size_untouched : (size_number ≡ 0 → ⊥) → file ≡ (write_pgm columns rows picture file).file
    size_untouched refused = untouched (rw (← stops refused) at refused)

    refuses_by : {n : ℕ} (r : Refusal) → suc n ≡ number → number_of r ≡ suc n → Answered (Err r) × (file ≡ (write_pgm columns rows picture file).file)
    unfolding write_pgm
    refuses_by r e is = (refuses _ r (is ∙ e), untouched (λ z. omega (arith, e, z)))

    module _ (none : size_number ≡ 0) where
      pub picture_refused : length picture ≢ rows * columns → Answered (Err PictureLength) × (file ≡ (write_pgm columns rows picture file).file)
      unfolding write_refusal
      picture_refused other = refuses_by PictureLength (answers_fails {number = 4} _ (ne_eqb _ _ other) ∙ answers_skip _ refl none) refl

      module _ (same : length picture ≡ rows * columns) where
        after_picture : first (unless (leb (pgm_length columns rows) (length file)) 8 ∷ []) ≡ number
        unfolding write_refusal
        after_picture = answers_passes 5 _ (eq-eqb _ _ same) ∙ answers_skip _ refl none

        module _ {size : ℕ} (is : size ≡ pgm_length columns rows) where
          pub room_refused : length file < size → Answered (Err FileLength) × (file ≡ (write_pgm columns rows picture file).file)
          room_refused short = refuses_by FileLength (answers_fails {number = 7} _ (lt-leb _ _ (rw is at short)) ∙ after_picture) refl

          -- the part of the buffer that is the file's
          pub part_long : size ≤ length file → length (take size file) ≡ length (header_of columns rows) + length picture
          unfolding pgm_length
          part_long long = length-take-le size file long ∙ is ∙ omega (arith, same)

          none_refused : size ≤ length file → number ≡ 0
          none_refused long = sym (sym first_nil ∙ answers_passes 8 _ (le-leb _ _ (rw is at long)) ∙ after_picture)

          pub written : {w : List ℕ} → size ≤ length file → w ≡ pgm_of columns rows picture
              → Answered (Ok size) × (w ++ drop size file ≡ (write_pgm columns rows picture file).file)
          unfolding outcome
          written long p = let e = writing_is columns rows picture file (none_refused long) in rw e (ap Ok is, rw (p, is))

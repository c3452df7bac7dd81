-- Laws of outcomes and numbers. Assumes nothing.
use Rattle.std.proofs.Common.{◌≡◌, refl, sym, ap, ◌∙◌, Bool, ℕ, zero, suc, ◌≤◌, eqb, get_or, Result, Ok, Err, arith}
use Rattle.std.specs.Prelude.{IsErrAnd}
use Rattle.std.proofs.lemmas.Result.{err_from_is_err_and}
use lib.Dec.{T, eqb→eq}
use Rattle.mathematics.specs.Definitions.Tests.{all_below}
use Rattle.mathematics.proofs.Tests.{below_at}
use Rattle.refusals.specs.declared.Refusal.{Refusal}
use Rattle.refusals.specs.declared.Refusal.TheVariants.{Size, Kernel, Bin, Reading, PictureLength, LevelsLength, WorkLength, FileLength, FileEnds, Count, Index, BytesAfter, Depth, Columns, Rows, Header, Greatest, PixelCount, BlackWhite, Pixel, Place}
use Rattle.refusals.specs.Definitions.Numbers.{number}
use Rattle.refusals.specs.Definitions.Outcomes.{refusals, outcome, answer_number}
use Rattle.refusals.specs.Checks.Numbers.{greatest, OneNumberEach}

err_ok : {A : Type 0} {r : Refusal} {value : A} → Err r ≡ Ok value → ⊥
err_ok e = cc

err_of : {A B : Type 0} {r q : Refusal} → let E : Result A Refusal = Err r in E ≡ Err q → let F : Result B Refusal = Err q in F ≡ Err r
err_of e = cc

-- ---- what is returned

module _ {A : Type 0} (value : A) where
  refused_by : (r : Refusal) → outcome (number r) value ≡ Err r
  unfolding outcome
  refused_by Size = refl
  refused_by Kernel = refl
  refused_by Bin = refl
  refused_by Reading = refl
  refused_by PictureLength = refl
  refused_by LevelsLength = refl
  refused_by WorkLength = refl
  refused_by FileLength = refl
  refused_by FileEnds = refl
  refused_by Count = refl
  refused_by Index = refl
  refused_by BytesAfter = refl
  refused_by Depth = refl
  refused_by Columns = refl
  refused_by Rows = refl
  refused_by Header = refl
  refused_by Greatest = refl
  refused_by PixelCount = refl
  refused_by BlackWhite = refl
  refused_by Pixel = refl
  refused_by Place = refl

  -- an error with the number of the first broken rule
  pub refuses : {n : ℕ} (r : Refusal) → number r ≡ n → Err r ≡ outcome n value
  refuses r e = sym (refused_by r) ∙ ap (λ (n : ℕ). outcome n value) e

  pub accepts : {n : ℕ} → n ≡ 0 → Ok value ≡ outcome n value
  unfolding outcome
  accepts e = rw e

  -- ---- what a call's answer says of the number

  pub none : (n : ℕ) {held : A} → outcome n value ≡ Ok held → n ≡ 0
  unfolding outcome
  none zero e = refl
  none (suc n) e = absurd (err_ok e)

  pub value-is : (n : ℕ) {held : A} → outcome n value ≡ Ok held → held ≡ value
  unfolding outcome
  value-is zero e = cc
  value-is (suc n) e = absurd (err_ok e)

  pub some : (n : ℕ) {r : Refusal} → outcome n value ≡ Err r → (n ≡ 0 → ⊥)
  unfolding outcome
  some zero e f = absurd (err_ok (sym e))
  some (suc n) e f = cc

  -- an error that is passed on
  pub passes : {B : Type 0} (other : B) (n : ℕ) {r : Refusal} → outcome n value ≡ Err r → Err r ≡ outcome n other
  unfolding outcome
  passes other zero e = absurd (err_ok (sym e))
  passes other (suc n) e = err_of e

-- ---- what is returned where a call's error is passed on by `?`: the number is that of the call, which is not 0

pub passed_on : {A B : Type 0} (value : A) (other : B) (n : ℕ) {m : ℕ} (returned : Result B Refusal) (e : Refusal)
    → IsErrAnd returned (λ r. r ≡ e) → Err e ≡ outcome n value → ((n ≡ 0 → ⊥) → m ≡ n) → returned ≡ outcome m other
passed_on value other n returned e is said same =
    let (r, was, from) = err_from_is_err_and returned is in
    rw (was, from, same (some value n (sym said))) (passes value other n (sym said))

-- ---- numbers and refusals stand for each other

abbrev at-place : ℕ → Bool
at-place n = eqb (number (get_or refusals n Place)) (suc n)

all-in-order : T (all_below greatest at-place)
unfolding all_below
all-in-order = tt

answered-by : {A : Type 0} (n : ℕ) (value : A) → n ≤ greatest → answer_number (outcome n value) ≡ n
unfolding outcome answer_number
answered-by zero value h = refl
answered-by (suc n) value h = eqb→eq _ _ (below_at greatest at-place all-in-order n (omega arith))

apart : (r q : Refusal) → number r ≡ number q → r ≡ q
apart r q e = err_same (refused_by tt r) (refused_by tt q) (ap (λ (n : ℕ). outcome n tt) e)
  where
    err_same : {x y : Result (Unit {0}) Refusal} → x ≡ Err r → y ≡ Err q → x ≡ y → r ≡ q
    err_same f g h = cc

pub one_number_each : OneNumberEach
unfolding outcome
one_number_each = record {
  range = range;
  refused = λ r value. refused_by value r;
  accepted = λ value. refl;
  answered = λ n value h. answered-by n value h;
  apart = apart;
}
  where
    range : (r : Refusal) → (1 ≤ number r) × (number r ≤ greatest)
    range Size = (omega arith, omega arith)
    range Kernel = (omega arith, omega arith)
    range Bin = (omega arith, omega arith)
    range Reading = (omega arith, omega arith)
    range PictureLength = (omega arith, omega arith)
    range LevelsLength = (omega arith, omega arith)
    range WorkLength = (omega arith, omega arith)
    range FileLength = (omega arith, omega arith)
    range FileEnds = (omega arith, omega arith)
    range Count = (omega arith, omega arith)
    range Index = (omega arith, omega arith)
    range BytesAfter = (omega arith, omega arith)
    range Depth = (omega arith, omega arith)
    range Columns = (omega arith, omega arith)
    range Rows = (omega arith, omega arith)
    range Header = (omega arith, omega arith)
    range Greatest = (omega arith, omega arith)
    range PixelCount = (omega arith, omega arith)
    range BlackWhite = (omega arith, omega arith)
    range Pixel = (omega arith, omega arith)
    range Place = (omega arith, omega arith)

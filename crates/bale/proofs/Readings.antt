-- Laws of probe readings: the tests of a percentage, of a fault code and of a kind and its number, the two answers, and that a reading is
-- its kind and number. Assumes nothing.
use mathlib.Core.Path.{◌≡◌, refl, sym, ap, ◌∙◌, subst}
use mathlib.Core.Bool.{Bool, true, false, not, and-true, and-false, false≢true}
use Prim.Native.Nat.{ℕ, zero, suc, ◌*◌, ◌%◌, ◌≤◌, ◌<◌}
use native.Mathlib.Decide.{dec_lt}
use native.Mathlib.Nat.{mod-eq_of_lt, lt_of_not-le, le_of_suc-le-suc}
use native.Mathlib.Omega.{arith}
use borrow.Author.Tests.{lt-ltb, le-ltb, eqb-true}
use lib.Dec.{T, ltb, eqb}
use Rattle.std.specs.Prelude.{Ok, Err}
use Rattle.std.specs.Bool.{then_some}
use Rattle.std.specs.Option.{ok_or}
use Rattle.refusals.specs.declared.Refusal.TheVariants.{Reading as Unlawful}
use Rattle.refusals.specs.Definitions.Outcomes.{outcome}
use Rattle.refusals.proofs.Outcomes.{refuses, accepts}
use lib.Ieee.{Float, nan, inf, fin, binary32, le, lt, eq, is_nan, nan_bits, to_bits, of_bits}
use lib.Ieee.Bits.{is_true, nan_bits_above, nan_bits_is, to_bits-of_bits, of_bits-to_bits, to_bits-lt}
use Rattle.mathematics.proofs.Tests.{both}
use Rattle.pyramid.specs.Definitions.Refusals.{unless}
use Rattle.pyramid.proofs.Refusals.{unless_passes, unless_fails, leaves_new, leaves_kept, outcome_left}
use Rattle.bale.specs.declared.Reading.{Reading}
use Rattle.bale.specs.declared.Reading.TheVariants.{NotFitted, Percentage, Fault}
use Rattle.bale.specs.Definitions.Readings.{CodeAnswer, ReadingAnswer, code_in, percentage_ok, fault_ok, HeldReading, code_where, code_of, reading_ok, probe_where, decode}

abbrev hundred : Float
hundred = of_bits binary32 0x42C8_0000

-- ---- NaNs

-- what is at most another number is no NaN
pub le_no_nan : (x y : Float) → le x y ≡ true → T (not (is_nan x))
unfolding le lt eq is_nan
le_no_nan nan y e = subst (λ (b : Bool). T (not b)) e tt
le_no_nan (inf s) y e = tt
le_no_nan (fin s m k) y e = tt

nan-not-le : (x y : Float) → is_nan x ≡ true → le x y ≡ false
unfolding le lt eq is_nan
nan-not-le nan y e = refl
nan-not-le (inf s) y e = absurd (false≢true e)
nan-not-le (fin s m k) y e = absurd (false≢true e)

-- bits up to those of +infinity are no NaN's
pub no_nan_bits : (n : ℕ) → n ≤ 0x7F80_0000 → T (not (nan_bits binary32 n))
no_nan_bits n h =
    let m : n % 0x8000_0000 ≡ n = mod-eq_of_lt (omega arith) in
    let e : nan_bits binary32 n ≡ false = nan_bits_above binary32 n ∙ ap (ltb 0x7F80_0000) m ∙ le-ltb 0x7F80_0000 n h in
    subst (λ (b : Bool). T (not b)) (sym e) tt

-- ---- the tests of a percentage and of a fault code

module _ (bits : ℕ) (x : Float) where
  percentage_yes : bits < 0x8000_0000 → le x hundred ≡ true → percentage_ok bits x ≡ true
  unfolding percentage_ok
  percentage_yes h e = rw (lt-ltb _ _ h, e)

  percentage_signed : 0x8000_0000 ≤ bits → percentage_ok bits x ≡ false
  unfolding percentage_ok
  percentage_signed h = rw (le-ltb _ _ h)

  percentage_above : le x hundred ≡ false → percentage_ok bits x ≡ false
  unfolding percentage_ok
  percentage_above e = rw e (and-false (ltb bits 0x8000_0000))

  percentage_most : percentage_ok bits x ≡ true → le x hundred ≡ true
  unfolding percentage_ok
  percentage_most e = is_true (le x hundred) (both (ltb bits 0x8000_0000) (le x hundred) (rw e tt)).1

module _ (n : ℕ) where
  -- bits above those of +infinity are a NaN's, or have the sign bit set
  percentage_beyond : 0x7F80_0000 < n → percentage_ok n (of_bits binary32 n) ≡ false
  percentage_beyond h = pick (dec_lt n 0x8000_0000)
    where
      pick : Dec (n < 0x8000_0000) → percentage_ok n (of_bits binary32 n) ≡ false
      pick (yes l) =
          let m : n % 0x8000_0000 ≡ n = mod-eq_of_lt l in
          percentage_above n (of_bits binary32 n)
          (nan-not-le _ _ (sym (nan_bits_is binary32 n) ∙ nan_bits_above binary32 n ∙ ap (ltb 0x7F80_0000) m ∙ lt-ltb 0x7F80_0000 n h))
      pick (no l) = percentage_signed n (of_bits binary32 n) (le_of_suc-le-suc (lt_of_not-le l))

-- ---- a code or a reading where its rule holds

abbrev no_code : CodeAnswer
no_code = record { refusal = 4; kind = 0; number = 0 }

abbrev no_probe : ReadingAnswer
no_probe = record { refusal = 4; reading = NotFitted }

module _ (kind number : ℕ) where
  where_coded : {ok : Bool} → ok ≡ true → record { refusal = 0; kind = kind; number = number } ≡ code_where ok kind number
  unfolding code_where
  where_coded e = rw (unless_passes 4 e, leaves_new 0 kind 0 refl, leaves_new 0 number 0 refl)

  where_not-coded : {ok : Bool} → ok ≡ false → no_code ≡ code_where ok kind number
  unfolding code_where
  where_not-coded e = rw (unless_fails 4 e, leaves_kept 4 kind 0 (λ z. omega (arith, z)), leaves_kept 4 number 0 (λ z. omega (arith, z)))

  coded_holds : (ok : Bool) → T (eqb (code_where ok kind number).refusal 0) → ok ≡ true
  coded_holds true t = refl
  coded_holds false t = absurd (rw (← where_not-coded {ok = false} refl) at t)

module _ (r : Reading) where
  where_probed : {ok : Bool} → ok ≡ true → record { refusal = 0; reading = r } ≡ probe_where ok r
  unfolding probe_where
  where_probed e = rw (unless_passes 4 e, leaves_new 0 r NotFitted refl)

  where_not_probed : {ok : Bool} → ok ≡ false → no_probe ≡ probe_where ok r
  unfolding probe_where
  where_not_probed e = rw (unless_fails 4 e, leaves_kept 4 r NotFitted (λ z. omega (arith, z)))

  probed_holds : (ok : Bool) → (probe_where ok r).refusal ≡ 0 → ok ≡ true
  probed_holds true e = refl
  probed_holds false e = let f = ap (λ (x : ReadingAnswer). x.refusal) (where_not_probed {ok = false} refl) ∙ e in absurd (omega arith)

percentage_coded : (x : Float) → T (reading_ok (Percentage x)) → percentage_ok (to_bits binary32 x) x ≡ true
unfolding code_of
percentage_coded x t = coded_holds 1 _ _ t

fault_coded : (n : ℕ) → T (reading_ok (Fault n)) → fault_ok n ≡ true
unfolding code_of
fault_coded n t = coded_holds 2 n _ t

-- ---- what is answered of a reading, of a note, and of a kind and a number

where_ok : (ok : Bool) → ok ≡ eqb (unless ok 4) 0
unfolding unless
where_ok true = refl
where_ok false = refl

pub none_ok : {r : Reading} → r ≡ NotFitted → true ≡ reading_ok r
unfolding code_of code_where
none_ok p = rw p (where_ok true)

pub percentage_low : {r : Reading} {x : Float} → r ≡ Percentage x → le x hundred ≡ true → ltb (to_bits binary32 x) 0x8000_0000 ≡ reading_ok r
unfolding code_of code_where percentage_ok
percentage_low {r} {x} p e = rw (p, e, and-true (ltb (to_bits binary32 x) 0x8000_0000)) (where_ok _)

pub percentage_high : {r : Reading} {x : Float} → r ≡ Percentage x → le x hundred ≡ false → le x hundred ≡ reading_ok r
unfolding code_of code_where percentage_ok
percentage_high {r} {x} p e = rw (p, e, and-false (ltb (to_bits binary32 x) 0x8000_0000)) (where_ok false)

pub fault_is : {r : Reading} {n : ℕ} {ok : Bool} → r ≡ Fault n → ok ≡ fault_ok n → ok ≡ reading_ok r
unfolding code_of code_where
fault_is p e = rw (p, e) (where_ok _)

-- the code of a reading that a file can hold
pub code_none : {r : Reading} → r ≡ NotFitted → record { kind = 0; number = 0 } ≡ code_in (code_of r)
unfolding code_of
code_none p = rw (p, ← where_coded 0 0 {ok = true} refl)

pub code_percentage : {r : Reading} {x : Float} → r ≡ Percentage x → T (reading_ok r) → record { kind = 1; number = to_bits binary32 x } ≡ code_in (code_of r)
unfolding code_of
code_percentage {r} {x} p t = let u : T (reading_ok (Percentage x)) = rw p at t in rw (p, ← where_coded 1 (to_bits binary32 x) (percentage_coded x u))

pub code_fault : {r : Reading} {n : ℕ} → r ≡ Fault n → T (reading_ok r) → record { kind = 2; number = n } ≡ code_in (code_of r)
unfolding code_of
code_fault {r} {n} p t = let u : T (reading_ok (Fault n)) = rw p at t in rw (p, ← where_coded 2 n (fault_coded n u))

-- what is answered of a reading
module _ (r : Reading) where
  coded_refusal : (code_of r).refusal ≡ unless (reading_ok r) 4
  unfolding code_of code_where
  coded_refusal = four r
    where
      four : (r : Reading) → (code_of r).refusal ≡ unless (reading_ok r) 4
      four NotFitted = ap (λ (b : Bool). unless b 4) (where_ok true)
      four (Percentage x) = ap (λ (b : Bool). unless b 4) (where_ok _)
      four (Fault n) = ap (λ (b : Bool). unless b 4) (where_ok _)

  pub coded : true ≡ reading_ok r → Ok (code_in (code_of r)) ≡ outcome (code_of r).refusal (code_in (code_of r))
  coded e = accepts _ (coded_refusal ∙ unless_passes 4 (sym e))

  pub not_coded : false ≡ reading_ok r → Err Unlawful ≡ outcome (code_of r).refusal (code_in (code_of r))
  not_coded e = refuses _ Unlawful (sym (coded_refusal ∙ unless_fails 4 (sym e)))

-- a reading that has a code is no NaN
pub coded_number : {r : Reading} {x : Float} → r ≡ Percentage x → T (reading_ok r) → T (not (is_nan x))
coded_number {r} {x} p t =
    let u : T (reading_ok (Percentage x)) = rw p at t in le_no_nan x hundred (percentage_most (to_bits binary32 x) x (percentage_coded x u))

-- what is answered of a kind and a number
module _ (ok : Bool) (r : Reading) where
  probed : outcome (unless ok 4) r ≡ outcome (probe_where ok r).refusal (probe_where ok r).reading
  unfolding probe_where
  probed = sym (outcome_left (unless ok 4) r NotFitted)

  probed_yes : ok ≡ true → Ok r ≡ outcome (probe_where ok r).refusal (probe_where ok r).reading
  probed_yes e = accepts r (unless_passes 4 e) ∙ probed

  probed_no : ok ≡ false → Err Unlawful ≡ outcome (probe_where ok r).refusal (probe_where ok r).reading
  probed_no e = refuses r Unlawful (sym (unless_fails 4 e)) ∙ probed

  -- a reading where its rule holds, else the refusal
  held : ok_or (then_some ok r) Unlawful ≡ outcome (probe_where ok r).refusal (probe_where ok r).reading
  held = pick ok ∙ probed
    where
      pick : (b : Bool) → ok_or (then_some b r) Unlawful ≡ outcome (unless b 4) r
      pick true = accepts r (unless_passes 4 refl)
      pick false = refuses r Unlawful (sym (unless_fails 4 refl))

pub decode_none : {k : ℕ} (n : ℕ) → k ≡ 0 → ok_or (then_some (eqb n 0) NotFitted) Unlawful ≡ outcome (decode k n).refusal (decode k n).reading
unfolding decode
decode_none n p = rw p (held _ _)

module _ (n : ℕ) where
  pub decode_percentage : n ≤ 0x7F80_0000 → le (of_bits binary32 n) hundred ≡ true
      → Ok (Percentage (of_bits binary32 n)) ≡ outcome (decode 1 n).refusal (decode 1 n).reading
  unfolding decode
  decode_percentage h e = probed_yes _ _ (percentage_yes n _ (omega arith) e)

  pub decode_above : le (of_bits binary32 n) hundred ≡ false → Err Unlawful ≡ outcome (decode 1 n).refusal (decode 1 n).reading
  unfolding decode
  decode_above e = probed_no _ _ (percentage_above n _ e)

  pub decode_beyond : 0x7F80_0000 < n → Err Unlawful ≡ outcome (decode 1 n).refusal (decode 1 n).reading
  unfolding decode
  decode_beyond h = probed_no _ _ (percentage_beyond n h)

pub decode_fault : {k : ℕ} (n : ℕ) → k ≡ 2 → ok_or (then_some (fault_ok n) (Fault n)) Unlawful ≡ outcome (decode k n).refusal (decode k n).reading
unfolding decode
decode_fault n p = rw p (held _ _)

pub decode_other : (k n : ℕ) → 3 ≤ k → Err Unlawful ≡ outcome (decode k n).refusal (decode k n).reading
unfolding decode
decode_other zero n h = absurd (omega arith)
decode_other (suc zero) n h = absurd (omega arith)
decode_other (suc (suc zero)) n h = absurd (omega arith)
decode_other (suc (suc (suc k))) n h = probed_no false NotFitted refl

-- ---- a reading that is written and read back is the same reading, bit for bit; and one that is read is written as it was

pub number_small : (r : Reading) → HeldReading r → T (reading_ok r) → (code_of r).number < 2 * 0x8000_0000
unfolding code_of
number_small NotFitted h t = rw (← where_coded 0 0 {ok = true} refl) (omega arith)
number_small (Percentage x) h t = rw (← where_coded 1 (to_bits binary32 x) (percentage_coded x t)) (to_bits-lt binary32 x h)
number_small (Fault n) h t = rw (← where_coded 2 n (fault_coded n t)) h

pub decode_code : (r : Reading) → HeldReading r → T (reading_ok r) → decode (code_of r).kind (code_of r).number ≡ record { refusal = 0; reading = r }
unfolding code_of decode
decode_code NotFitted h t = rw (← where_coded 0 0 {ok = true} refl) (sym (where_probed NotFitted refl))
decode_code (Percentage x) h t =
    let e = percentage_coded x t in
    rw (← where_coded 1 (to_bits binary32 x) e, of_bits-to_bits binary32 x h) (sym (where_probed (Percentage x) e))
decode_code (Fault n) h t = let e = fault_coded n t in rw (← where_coded 2 n e) (sym (where_probed (Fault n) e))

abbrev Again : ℕ → ℕ → Reading → Type 0
Again k n r = T (reading_ok r) × ((code_of r).kind ≡ k) × ((code_of r).number ≡ n)

again : (r : Reading) {k n : ℕ} → record { refusal = 0; kind = k; number = n } ≡ code_of r → Again k n r
again r e = rw (← e) (tt, refl, refl)

pub code_decode : (k n : ℕ) → n < 2 * 0x8000_0000 → (decode k n).refusal ≡ 0 → Again k n (decode k n).reading
unfolding decode code_of
code_decode zero n h e =
    let p = probed_holds NotFitted _ e in
    rw (← where_probed NotFitted p, eqb-true n 0 p) (again NotFitted (where_coded 0 0 refl))
code_decode (suc zero) n h e =
    let x = of_bits binary32 n in
    let p = probed_holds (Percentage x) _ e in
    let bits = to_bits-of_bits binary32 n h (le_no_nan x hundred (percentage_most n x p)) in
    rw (← where_probed (Percentage x) p) (again (Percentage x) (rw bits (where_coded 1 n p)))
code_decode (suc (suc zero)) n h e = let p = probed_holds (Fault n) _ e in rw (← where_probed (Fault n) p) (again (Fault n) (where_coded 2 n p))
code_decode (suc (suc (suc k))) n h e = absurd (false≢true (probed_holds NotFitted false e))

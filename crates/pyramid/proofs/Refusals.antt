-- Laws of chains of rules, what an accepted call says of its arguments, and what is left in a buffer. Assumes nothing.
use mathlib.Core.Path.{◌≡◌, refl, sym, subst, ◌∙◌}
use mathlib.Core.Logic.{◌≢◌, ◌⊎◌, inl, inr}
use mathlib.Core.Bool.{Bool, true, false}
use mathlib.Core.List.{List, [], ◌∷◌}
use Prim.Native.Nat.{ℕ, zero, suc, ◌*◌}
use native.Mathlib.Omega.{arith}
use borrow.Author.Tests.{eq-eqb, le-leb}
use lib.Dec.{T, leb, eqb, leb→le, eqb→eq}
use lib.IntN.{ℤ}
use lib.ListN.{length}
use mir.Syntax.{w8}
use mir.Val.{Fits}
use Rattle.std.specs.Prelude.{Ok}
use Rattle.refusals.specs.Definitions.Outcomes.{outcome}
use Rattle.refusals.proofs.Outcomes.{none, value-is}
use Rattle.pyramid.specs.declared.Settings.{Settings}
use Rattle.pyramid.specs.Definitions.Settings.{size_ok, depth_ok, divides, kernel_ok, black_white_ok, bins_ok}
use Rattle.pyramid.specs.Definitions.Sizes.{total}
use Rattle.pyramid.specs.Definitions.Refusals.{unless, first, shape_refusal, settings_refusal, buffers_refusal, values_ok, levels_refusal, lent_refusal, pixels_ok, coding_refusal, rebuilding_refusal}
use Rattle.pyramid.specs.Definitions.Calls.{leaves}
use Rattle.pyramid.specs.Inner.Accepted.{Sized, Accepted}
use Rattle.pyramid.specs.Inner.Lawful.{Shaped, Lawful}
use Rattle.pyramid.proofs.Lawful.{shaped, lawful}

-- ---- the first that is not 0

pub first_nil : first [] ≡ 0
unfolding first
first_nil = refl

pub first_none : (x : ℕ) (later : List ℕ) → first (x ∷ later) ≡ 0 → (x ≡ 0) × (first later ≡ 0)
unfolding first
first_none zero later e = (refl, e)
first_none (suc n) later e = absurd (omega arith)

pub first_skip : (x : ℕ) (later : List ℕ) → x ≡ 0 → first (x ∷ later) ≡ first later
unfolding first
first_skip x later e = rw e

-- rules that all hold
pub first_pass : {x : ℕ} (later : List ℕ) → x ≡ 0 → first later ≡ 0 → first (x ∷ later) ≡ 0
first_pass {x} later e f = first_skip x later e ∙ f

-- a rule that holds can be left out
pub first_over : (x : ℕ) (later : List ℕ) → first (x ∷ 0 ∷ later) ≡ first (x ∷ later)
unfolding first
first_over zero later = refl
first_over (suc n) later = refl

pub first_stop : (x : ℕ) (later : List ℕ) → (x ≡ 0 → ⊥) → first (x ∷ later) ≡ x
unfolding first
first_stop zero later refused = absurd (refused refl)
first_stop (suc n) later refused = refl

-- a number that no later rule gives
pub first_here : (x : ℕ) (later : List ℕ) {number : ℕ} → first later ≢ number → first (x ∷ later) ≡ number → x ≡ number
unfolding first
first_here zero later other e = absurd (other e)
first_here (suc n) later other e = e

pub first-last : (x : ℕ) → first (x ∷ []) ≡ x
unfolding first
first-last zero = refl
first-last (suc n) = refl

-- ---- one rule

pub unless_passes : {holds : Bool} (number : ℕ) → holds ≡ true → unless holds number ≡ 0
unfolding unless
unless_passes number e = rw e

pub unless_fails : {holds : Bool} (number : ℕ) → holds ≡ false → unless holds number ≡ number
unfolding unless
unless_fails number e = rw e

pub unless_none : (holds : Bool) (number : ℕ) → unless holds (suc number) ≡ 0 → T holds
unfolding unless
unless_none true number e = tt
unless_none false number e = absurd (omega arith)

pub unless_holds : (holds : Bool) (number : ℕ) → T holds → unless holds number ≡ 0
unfolding unless
unless_holds true number t = refl
unless_holds false number t = absurd t

-- ---- a rule more: it gives its number or changes nothing; and where no other rule gives that number, it does

pub unless-more : (x : ℕ) (holds : Bool) (number : ℕ) (later : List ℕ)
    → (first (x ∷ unless holds (suc number) ∷ later) ≡ suc number) ⊎ (first (x ∷ unless holds (suc number) ∷ later) ≡ first (x ∷ later))
unfolding first unless
unless-more zero true number later = inr refl
unless-more zero false number later = inl refl
unless-more (suc x) holds number later = inr refl

pub first_between : (x y : ℕ) (later : List ℕ) {number : ℕ} → x ≢ number → first later ≢ number → first (x ∷ y ∷ later) ≡ number → (x ≡ 0) × (y ≡ number)
unfolding first
first_between zero zero later hx hl e = absurd (hl e)
first_between zero (suc y) later hx hl e = (refl, e)
first_between (suc x) y later hx hl e = absurd (hx e)

-- the third of the rules gives it, where the two before it and those after it do not
pub first_third : (x y z : ℕ) (later : List ℕ) {number : ℕ} → x ≢ number → y ≢ number → first later ≢ number → first (x ∷ y ∷ z ∷ later) ≡ number
    → (x ≡ 0) × (y ≡ 0) × (z ≡ number)
unfolding first
first_third zero zero z later hx hy hl e = let (_, own) = first_between 0 z later (λ p. hx p) hl e in (refl, refl, own)
first_third zero (suc y) z later hx hy hl e = absurd (hy e)
first_third (suc x) y z later hx hy hl e = absurd (hx e)

-- ---- what is answered: a number m other than 0 is the answer, 0 is passed over, and the last rule's is the answer

pub answers_stop : {m x : ℕ} (later : List ℕ) → m ≡ x → (m ≡ 0 → ⊥) → m ≡ first (x ∷ later)
answers_stop {m} later e refused = sym (first_stop m later refused) ∙ rw e

pub answers_skip : {m x : ℕ} (later : List ℕ) → m ≡ x → m ≡ 0 → first later ≡ first (x ∷ later)
answers_skip later e none = sym (first_skip _ later (sym e ∙ none))

pub answers_last : {m x : ℕ} → m ≡ x → m ≡ first (x ∷ [])
answers_last {x = x} e = e ∙ sym (first-last x)

-- the number of a rule that holds, then that of the last
pub answers_second : {m x n y : ℕ} → m ≡ x → m ≡ 0 → n ≡ y → n ≡ first (x ∷ y ∷ [])
answers_second e none f = answers_last f ∙ answers_skip _ e none

-- the same of a test: its number where it fails, and what follows where it passes
pub answers_fails : {holds : Bool} {number : ℕ} (later : List ℕ) → holds ≡ false → suc number ≡ first (unless holds (suc number) ∷ later)
answers_fails {number = number} later e = answers_stop later (sym (unless_fails (suc number) e)) (λ z. omega (arith, z))

pub answers_passes : {holds : Bool} (number : ℕ) (later : List ℕ) → holds ≡ true → first later ≡ first (unless holds number ∷ later)
answers_passes number later e = sym (first_skip _ later (unless_passes number e))

-- ---- whatever holds of 0 and of each rule's number holds of the first that is not 0

module _ (P : ℕ → Type 0) (none : P 0) where
  pub unless_elim : (holds : Bool) (number : ℕ) → P number → P (unless holds number)
  unfolding unless
  unless_elim true number h = none
  unless_elim false number h = h

  pub first_elim : (x : ℕ) (later : List ℕ) → P x → P (first later) → P (first (x ∷ later))
  unfolding first
  first_elim zero later h l = l
  first_elim (suc n) later h l = h

  pub last_elim : (x : ℕ) → P x → P (first (x ∷ []))
  last_elim x h = rw (first-last x) h

-- ---- the calls

module _ (s : Settings) where
  pub accepted_shape : shape_refusal s ≡ 0 → Shaped s
  unfolding shape_refusal
  accepted_shape e =
      let (size, e₁₃) = first_none _ _ e in
      let (deep, e₁₄) = first_none _ _ e₁₃ in
      let (across, e₁₅) = first_none _ _ e₁₄ in
      let (along, e₂) = first_none _ _ e₁₅ in
      let (kernel, e₁₉) = first_none _ _ e₂ in
      shaped s
      (unless_none (size_ok s.columns s.rows) 0 size)
      (unless_none (depth_ok s.depth) 12 deep)
      (unless_none (divides s.depth s.columns) 13 across)
      (unless_none (divides s.depth s.rows) 14 along)
      (unless_none (kernel_ok s.kernel) 1 kernel)
      (unless_none (black_white_ok s.black s.white) 18 (first_none _ _ e₁₉).0)

  pub accepted_settings : settings_refusal s ≡ 0 → Lawful s
  unfolding settings_refusal
  accepted_settings e =
      let (shape, e₃) = first_none _ _ e in
      lawful s (accepted_shape shape) (unless_none (bins_ok s) 2 (first_none _ _ e₃).0)

  -- the same where the settings are seen as others
  pub accepted_seen : {t : Settings} → t ≡ s → settings_refusal t ≡ 0 → Lawful s
  accepted_seen e none = accepted_settings (subst (λ t. settings_refusal t ≡ 0) e none)

  -- 8 bits hold black and white
  pub greys_fit : settings_refusal s ≡ 0 → Fits w8 s.black × Fits w8 s.white
  greys_fit e =
      let greys = (accepted_settings e).shaped.greys in
      (record { fits = omega (arith, greys.below, greys.most) }, record { fits = omega (arith, greys.most) })

  -- the settings' refusal is the shape's, and then that of the bins
  pub settings_parts : settings_refusal s ≡ 0 → (shape_refusal s ≡ 0) × T (bins_ok s)
  unfolding settings_refusal
  settings_parts e =
      let (shape, e₃) = first_none _ _ e in
      (shape, unless_none (bins_ok s) 2 (first_none _ _ e₃).0)

  pub settings_bins : shape_refusal s ≡ 0 → settings_refusal s ≡ unless (bins_ok s) 3
  unfolding settings_refusal
  settings_bins e = first_skip _ _ e ∙ first-last _

  -- the levels' refusal is the settings', and then that of their length and values
  pub levels_parts : (levels : List ℤ) → settings_refusal s ≡ 0 → levels_refusal s levels ≡ first (unless (eqb (length levels) (total s)) 6 ∷ unless (values_ok s levels) 11 ∷ [])
  unfolding levels_refusal
  levels_parts levels e = first_skip _ _ e

  accepted_buffers : (picture levels work : ℕ) → buffers_refusal s picture levels work ≡ 0 → Sized s picture levels work
  unfolding buffers_refusal
  accepted_buffers picture levels work e =
      let (five, e₆) = first_none _ _ e in
      let (six, e₇) = first_none _ _ e₆ in
      record {
        picture_is = eqb→eq picture (s.rows * s.columns) (unless_none (eqb picture (s.rows * s.columns)) 4 five);
        levels_is = eqb→eq levels (total s) (unless_none (eqb levels (total s)) 5 six);
        work_least = leb→le (total s) work (unless_none (leb (total s) work) 6 (first_none _ _ e₇).0);
      }

  pub buffers_accepted : {picture levels work : ℕ} → Sized s picture levels work → buffers_refusal s picture levels work ≡ 0
  unfolding buffers_refusal
  buffers_accepted z =
      first_pass _ (unless_passes 5 (eq-eqb _ _ z.picture_is))
      (first_pass _ (unless_passes 6 (eq-eqb _ _ z.levels_is)) (first_pass _ (unless_passes 7 (le-leb _ _ z.work_least)) first_nil))

  pub accepted_lent : (picture : List ℕ) (levels work : List ℤ) → lent_refusal s (length picture) (length levels) (length work) ≡ 0 → Accepted s picture levels work
  unfolding lent_refusal
  accepted_lent picture levels work e =
      let (settings, e₅) = first_none _ _ e in
      record { law = accepted_settings settings; sized = accepted_buffers (length picture) (length levels) (length work) (first_none _ _ e₅).0 }

  pub accepted_pixels : (picture : List ℕ) (levels work : List ℤ) → coding_refusal s picture levels work ≡ 0 → T (pixels_ok s picture)
  unfolding coding_refusal
  accepted_pixels picture levels work e = unless_none (pixels_ok s picture) 19 (first_none _ _ (first_none _ _ e).1).0

  pub accepted_coding : (picture : List ℕ) (levels work : List ℤ) → coding_refusal s picture levels work ≡ 0 → Accepted s picture levels work
  unfolding coding_refusal
  accepted_coding picture levels work e = accepted_lent picture levels work (first_none _ _ e).0

  pub accepted_rebuilding : (levels : List ℤ) (picture : List ℕ) (work : List ℤ) → rebuilding_refusal s levels picture work ≡ 0
      → Accepted s picture levels work × T (values_ok s levels)
  unfolding rebuilding_refusal
  accepted_rebuilding levels picture work e =
      let (lent, e₁₁) = first_none _ _ e in
      (accepted_lent picture levels work lent, unless_none (values_ok s levels) 10 (first_none _ _ e₁₁).0)

  -- rebuilding of levels whose values are in range, under lawful settings, is refused for its buffers' lengths alone
  pub rebuilding_lengths : (levels : List ℤ) (picture : List ℕ) (work : List ℤ) → settings_refusal s ≡ 0 → T (values_ok s levels)
      → rebuilding_refusal s levels picture work ≡ buffers_refusal s (length picture) (length levels) (length work)
  unfolding rebuilding_refusal lent_refusal
  rebuilding_lengths levels picture work e t = rw (first_skip _ _ e, unless_holds (values_ok s levels) 11 t, first-last (buffers_refusal s (length picture) (length levels) (length work))) (first_over _ _ ∙ first-last _)

-- ---- settings that were accepted with these lengths, which is what coding and rebuilding look for first

module _ (s held : Settings) (picture : List ℕ) (levels work : List ℤ) (e : Ok held ≡ outcome (lent_refusal s (length picture) (length levels) (length work)) s) where
  pub taken : Accepted held picture levels work
  taken = rw (value-is _ _ (sym e)) (accepted_lent _ _ _ _ (none _ _ (sym e)))

  -- the one rule that is left to look at
  rule_left : (rule : Settings → Bool) (number : ℕ) {holds : Bool} → holds ≡ rule held
      → first (lent_refusal s (length picture) (length levels) (length work) ∷ unless (rule s) number ∷ []) ≡ first (unless holds number ∷ [])
  rule_left rule number f = rw (f, value-is _ _ (sym e)) (first_skip _ _ (none _ _ (sym e)))

  pub pixels_left : {holds : Bool} → holds ≡ pixels_ok held picture → coding_refusal s picture levels work ≡ first (unless holds 20 ∷ [])
  unfolding coding_refusal
  pixels_left = rule_left (λ t. pixels_ok t picture) 20

  pub values_left : {holds : Bool} → holds ≡ values_ok held levels → rebuilding_refusal s levels picture work ≡ first (unless holds 11 ∷ [])
  unfolding rebuilding_refusal
  values_left = rule_left (λ t. values_ok t levels) 11

-- ---- what is left

pub leaves_new : {A : Type 0} (answer : ℕ) (new old : A) → answer ≡ 0 → leaves answer new old ≡ new
unfolding leaves
leaves_new answer new old e = rw e

pub leaves_kept : {A : Type 0} (answer : ℕ) (new old : A) → (answer ≡ 0 → ⊥) → leaves answer new old ≡ old
unfolding leaves
leaves_kept zero new old refused = absurd (refused refl)
leaves_kept (suc number) new old refused = refl

-- ---- what a call answers where a refusal leaves a value

pub outcome_left : {A : Type 0} (n : ℕ) (new old : A) → outcome n (leaves n new old) ≡ outcome n new
unfolding outcome leaves
outcome_left zero new old = refl
outcome_left (suc n) new old = refl

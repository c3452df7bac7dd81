-- Reading is total: each rule gives its own number or 0, so the first that is not 0 is one of them. No rule but the one of the level
-- buffer's length gives 6, and no rule but the shape's own gives a number of the shape. Assumes nothing.
use mathlib.Core.Path.{◌≡◌, sym, ◌∙◌, subst}
use mathlib.Core.Logic.{◌↔◌, ◌≢◌, ◌⊎◌, inl, inr}
use mathlib.Core.List.{List, [], ◌∷◌}
use Prim.Native.Nat.{ℕ, zero, suc, ◌+◌, ◌*◌}
use native.Mathlib.Omega.{arith}
use borrow.Author.Tests.{ne_eqb}
use lib.Dec.{T, eqb, eqb→eq}
use lib.ListN.{get_or}
use Rattle.pyramid.specs.declared.Settings.{Settings}
use Rattle.pyramid.specs.Definitions.Sizes.{nodes_at, total}
use Rattle.pyramid.specs.Definitions.Refusals.{unless, first, shape_refusal}
use Rattle.pyramid.specs.Checks.Numbers.{one_of, Answers, shape_numbers}
use Rattle.pyramid.proofs.Refusals.{first_nil, first_skip, first_stop, first_here, first-last, first_between, first_third, answers_fails, unless_none, unless_holds, unless-more, unless_elim, first_elim, last_elim}
use Rattle.pyramid.proofs.Rules.{one_between, one_before, one_after, one_apart, answered}
use Rattle.pyramid.proofs.Conditions.{shape_tests, shape_looks}
use Rattle.bale.specs.Definitions.Words.{u32_at}
use Rattle.bale.specs.Definitions.Readings.{probe_where, decode}
use Rattle.bale.specs.Definitions.Sections.{section_refusal}
use Rattle.bale.specs.Definitions.Files.{shape_count}
use Rattle.bale.specs.Definitions.Reader.{count_in, settings_in, probe_at, shape_section_refusal, bins_section_refusal, readings_section_refusal, level_section_refusal, level_sections_refusal, body_refusal}
use Rattle.bale.specs.Definitions.Calls.{read_refusal, check_refusal}
use Rattle.bale.specs.Checks.Numbers.{section_numbers, check_numbers, read_numbers}
use Rattle.bale.specs.Checks.Totality.{ShapeGives, ReadingIsTotal}
use Rattle.bale.proofs.Sections.{Section, eqb_of, section_accepted, section_whole}
use Rattle.bale.proofs.Forms.{count_taken}

module _ (bytes : List ℕ) where
  abbrev P : ℕ → Type 0
  P n = Answers section_numbers n

  section : (at count size : ℕ) → P (section_refusal bytes at count size)
  unfolding section_refusal
  section at count size = first_elim P tt _ _ (unless_elim P tt _ 9 tt) (first_elim P tt _ _ (unless_elim P tt _ 10 tt) (last_elim P tt _ (unless_elim P tt _ 9 tt)))

  decoded : (kind n : ℕ) → P (decode kind n).refusal
  unfolding decode probe_where
  decoded zero n = unless_elim P tt _ 4 tt
  decoded (suc zero) n = unless_elim P tt _ 4 tt
  decoded (suc (suc zero)) n = unless_elim P tt _ 4 tt
  decoded (suc (suc (suc kind))) n = unless_elim P tt _ 4 tt

  probe : (at : ℕ) → P (probe_at bytes at).refusal
  unfolding probe_at
  probe at = decoded (get_or bytes at 0) (u32_at bytes (at + 1))

  bins_section_lem : P (bins_section_refusal bytes)
  unfolding bins_section_refusal
  bins_section_lem = first_elim P tt _ _ (section _ _ _) (last_elim P tt _ (unless_elim P tt _ 3 tt))

  readings_section_lem : (s : Settings) → P (readings_section_refusal bytes s)
  unfolding readings_section_refusal
  readings_section_lem s = first_elim P tt _ _ (section _ _ _) (first_elim P tt _ _ (probe _) (last_elim P tt _ (probe _)))

  level : (s : Settings) (l at : ℕ) → P (level_section_refusal bytes s l at)
  unfolding level_section_refusal
  level s l at = first_elim P tt _ _ (section _ _ _) (last_elim P tt _ (unless_elim P tt _ 11 tt))

  levels : (s : Settings) (l at : ℕ) → P (level_sections_refusal bytes s l at)
  unfolding level_sections_refusal
  levels s zero at = first_elim P tt _ _ (level s 0 at) (last_elim P tt _ (unless_elim P tt _ 12 tt))
  levels s (suc l) at = first_elim P tt _ _ (level s (suc l) at) (last_elim P tt _ (levels s l (at + 2 + 2 * nodes_at s (suc l))))

  body : P (body_refusal bytes)
  unfolding body_refusal
  body = first_elim P tt _ _ bins_section_lem (first_elim P tt _ _ (readings_section_lem _) (last_elim P tt _ (levels _ _ _)))

  -- ---- with the shape's own numbers

  abbrev Q : ℕ → Type 0
  Q n = Answers check_numbers n

  shape : (s : Settings) → Q (shape_refusal s)
  shape s = one_before (0 ∷ shape_numbers) section_numbers (shape_refusal s) (answered (shape_tests s) (shape_looks s))

  later : (n : ℕ) → P n → Q n
  later n h = one_after 0 shape_numbers section_numbers n h

  shape_section_lem : Q (shape_section_refusal bytes)
  unfolding shape_section_refusal
  shape_section_lem =
      first_elim Q tt _ _ (later (section_refusal bytes 0 (count_in bytes) 2) (section 0 (count_in bytes) 2))
      (first_elim Q tt _ _ (unless_elim Q tt _ 10 tt) (last_elim Q tt _ (shape (settings_in bytes))))

  checked : Q (check_refusal bytes)
  unfolding check_refusal
  checked = first_elim Q tt _ _ shape_section_lem (last_elim Q tt _ (later (body_refusal bytes) body))

  -- ---- with a level buffer

  differ : (places : ℕ) → (read_refusal bytes places ≡ 6) ⊎ (read_refusal bytes places ≡ check_refusal bytes)
  unfolding read_refusal check_refusal
  differ places = unless-more (shape_section_refusal bytes) (eqb places (total (settings_in bytes))) 5 (body_refusal bytes ∷ [])

  read : (places : ℕ) → Answers read_numbers (read_refusal bytes places)
  read places = cases (differ places)
    where
      cases : (read_refusal bytes places ≡ 6) ⊎ (read_refusal bytes places ≡ check_refusal bytes) → Answers read_numbers (read_refusal bytes places)
      cases (inl e) = rw e tt
      cases (inr e) = rw e (one_between 0 6 (check_refusal bytes) check_numbers checked)

  not_six : {n : ℕ} → Q n → n ≢ 6
  not_six h e = rw e at h

  wrong_places : (places : ℕ) → read_refusal bytes places ≡ 6 → (shape_section_refusal bytes ≡ 0) × (places ≢ total (settings_in bytes))
  unfolding read_refusal
  wrong_places places e =
      let (shape, own) = first_between (shape_section_refusal bytes) _ (body_refusal bytes ∷ []) (not_six shape_section_lem) (not_six (last_elim Q tt _ (later (body_refusal bytes) body))) e in
      (shape, λ same. omega (arith, own, unless_holds (eqb places (total (settings_in bytes))) 6 (eqb_of same)))

  six : (places : ℕ) → (read_refusal bytes places ≡ 6) ↔ ((shape_section_refusal bytes ≡ 0) × (places ≢ total (settings_in bytes)))
  unfolding read_refusal
  six places = (wrong_places places, λ h. first_skip _ _ h.0 ∙ sym (answers_fails _ (ne_eqb _ _ h.1)))

  -- ---- a number of the shape

  module _ (n : ℕ) (h : T (one_of shape_numbers n)) where
    other : (m : ℕ) → P m → m ≢ n
    other m p e = one_apart shape_numbers (0 ∷ section_numbers) tt n h (subst P e p)

    not_none : 0 ≢ n
    not_none e = rw (← e) at h

    not_places : 6 ≢ n
    not_places e = rw (← e) at h

    section_gives : shape_section_refusal bytes ≡ n → ShapeGives bytes n
    unfolding shape_section_refusal
    section_gives e =
        let m = other (section_refusal bytes 0 (count_in bytes) 2) (section 0 (count_in bytes) 2) in
        let miscounted : unless (eqb (count_in bytes) (shape_count (settings_in bytes))) 10 ≢ n = other _ (unless_elim P tt _ 10 tt) in
        let (passes, counts, gives) = first_third (section_refusal bytes 0 (count_in bytes) 2) (unless (eqb (count_in bytes) (shape_count (settings_in bytes))) 10) _ [] m miscounted (λ p. not_none (sym first_nil ∙ p)) e in
        let w : Section bytes 0 (count_in bytes) 2 = section_whole passes in
        let same : count_in bytes ≡ shape_count (settings_in bytes) = eqb→eq _ _ (unless_none (eqb (count_in bytes) (shape_count (settings_in bytes))) 9 counts) in
        record { whole = omega (arith, w.present, same); counted = w.counted ∙ same; gives = gives }

    gives_section : ShapeGives bytes n → shape_section_refusal bytes ≡ n
    unfolding shape_section_refusal
    gives_section g =
        let same : count_in bytes ≡ shape_count (settings_in bytes) = count_taken bytes (settings_in bytes) g.counted in
        let w : Section bytes 0 (count_in bytes) 2 = record { present = omega (arith, g.whole, same); counted = g.counted ∙ sym same } in
        first_skip _ _ (section_accepted w) ∙ first_skip _ _ (unless_holds (eqb (count_in bytes) (shape_count (settings_in bytes))) 10 (eqb_of same)) ∙ first-last _ ∙ g.gives

    -- whatever is looked for after the shape section
    after_section : (later : List ℕ) → first later ≢ n → (first (shape_section_refusal bytes ∷ later) ≡ n) ↔ ShapeGives bytes n
    after_section later others = (
      λ e. section_gives (first_here _ later others e),
      λ g. let e = gives_section g in first_stop _ later (λ z. not_none (sym z ∙ e)) ∙ e,
    )

    not_body : first (body_refusal bytes ∷ []) ≢ n
    not_body = other _ (last_elim P tt _ body)

    shape_checked : (check_refusal bytes ≡ n) ↔ ShapeGives bytes n
    unfolding check_refusal
    shape_checked = after_section _ not_body

    shape_read : (places : ℕ) → (read_refusal bytes places ≡ n) ↔ ShapeGives bytes n
    unfolding read_refusal
    shape_read places =
        after_section _ (first_elim (λ m. m ≢ n) not_none _ _ (unless_elim (λ m. m ≢ n) not_none _ 6 not_places) not_body)

pub reading_is-total : (bytes : List ℕ) → ReadingIsTotal bytes
reading_is-total bytes = record {
  checked = checked bytes;
  read = read bytes;
  differ = differ bytes;
  six = six bytes;
  shape_checked = shape_checked bytes;
  shape_read = λ places n h. shape_read bytes n h places;
}

-- One case more is read and counted. Assumes nothing.
use Rattle.std.proofs.Common.{◌≡◌, ℕ, ◌+◌, List, ◌++◌, ◌∷◌, [], length, Option, Bor, MutBor, Result, Ok, inl, inr, refl, ap, ◌∙◌, ◌≢◌}
use Rattle.std.specs.List.{FoldsTo}
use Rattle.std.specs.Io.KnownBytes.{Consumes, IsAtEnd}
use Rattle.std.proofs.lemmas.List.{length-append}
use Rattle.test_support.specs.declared.reading.Start.{Start}
use Rattle.test_support.specs.declared.reading.Start.TheVariants.{Whole, NoCase, Cut}
use Rattle.std.proofs.lemmas.Fn.{FoldsTo-push}
use Rattle.test_support.specs.Definitions.Cases.{Case, CountedCase, Finds, IsPart}

pub no_start : {s : Start} → s ≡ NoCase → s ≢ Whole
no_start e f = cc

pub cut_start : {s : Start} → s ≡ Cut → s ≢ Whole
cut_start e f = cc

module _ {R F E : Type 0} (remaining : R → Option (List ℕ)) (answers : MutBor R → Bor (List ℕ) → Result F E → MutBor R → Type 0) (size : ℕ) (cut : F) (s t : R) where
  pub whole_case : {found x : F} {lent back : MutBor R} {start : Bor (List ℕ)} → length start.now ≡ size → Consumes (remaining s) (remaining lent.now) start.now
      → answers lent start (Ok x) back → found ≡ x → t ≡ back.now → Case remaining (Finds answers) size cut s found t
  whole_case {lent = lent} {back = back} {start = start} long taken finding is left =
      rw (is, left) (inl (start.now, lent.now, long, taken, (lent, start, back, finding, refl, refl, refl)))

  pub cut_case : {u : R} {found : F} → IsPart (remaining s) (remaining u) size → IsAtEnd (remaining u) → found ≡ cut → t ≡ u → Case remaining (Finds answers) size cut s found t
  cut_case part end is left = inr (is, rw left part, rw left end)

module _ {R F T : Type 0} (remaining : R → Option (List ℕ)) (finds : R → List ℕ → F → R → Type 0) (size : ℕ) (cut : F) (counts : T → F → T → Type 0) where
  -- so many cases from a source and a count, up to a source and a count
  abbrev pub Read : ℕ → R × T → R × T → Type 0
  Read n p q = (found : List F) × (length found ≡ n) × FoldsTo (CountedCase remaining finds size cut counts) p found q

  pub read_more : {n : ℕ} {p : R × T} {s : R} {t : T} {found : F} {s' : R} {t' : T} → Read n p (s, t) → Case remaining finds size cut s found s' → counts t found t' → Read (n + 1) p (s', t')
  read_more {found = found} h case counted =
      (h.0 ++ (found ∷ []), length-append h.0 (found ∷ []) ∙ ap (λ n. n + 1) h.1, FoldsTo-push _ _ _ _ _ _ h.2 (case, counted))

-- The cases of a program's data, read one after the other. Assumes nothing.
use Rattle.std.specs.Prelude.{◌≡◌, ◌⊎◌, List, [], ℕ, ◌<◌, length, Option, Result, Ok}
use denote.Ref.{Bor, MutBor}
use Rattle.std.specs.List.{FoldsTo}
use Rattle.std.specs.Io.KnownBytes.{Consumes, IsAtEnd}

-- some bytes were read, and fewer than so many
abbrev pub IsPart : (before after : Option (List ℕ)) → (size : ℕ) → Type 0
IsPart before after size = (part : List ℕ) × (0 < length part) × (length part < size) × Consumes before after part

-- a check that is lent a source and a case's start finds something, and leaves the source so
abbrev pub Finds : {R F E : Type 0} → (MutBor R → Bor (List ℕ) → Result F E → MutBor R → Type 0) → R → List ℕ → F → R → Type 0
Finds {R} answers s start found t =
    (lent : MutBor R) × (bytes : Bor (List ℕ)) × (back : MutBor R) × answers lent bytes (Ok found) back × (lent.now ≡ s) × (bytes.now ≡ start) × (back.now ≡ t)

-- what is left to read of a source; what is found in a source after a case's start, of so many bytes, and the source that this leaves; and what
-- is found in a case whose start is cut
module _ {R F : Type 0} (remaining : R → Option (List ℕ)) (finds : R → List ℕ → F → R → Type 0) (size : ℕ) (cut : F) where
  -- a case, whole or cut, from one source to another
  abbrev pub Case : R → F → R → Type 0
  Case s found t =
      ((start : List ℕ) × (after : R) × (length start ≡ size) × Consumes (remaining s) (remaining after) start × finds after start found t)
      ⊎ ((found ≡ cut) × IsPart (remaining s) (remaining t) size × IsAtEnd (remaining t))

  -- the same, and how what is found is counted
  module _ {T : Type 0} (counts : T → F → T → Type 0) where
    abbrev pub CountedCase : R × T → F → R × T → Type 0
    CountedCase p found q = Case p.0 found q.0 × counts p.1 found q.1

    -- case after case, up to the end of the source, or a million
    pub record CasesRead (source : R) (count : T) (left : R) : Type 0 where
      pub found : List F
      pub last : R × T
      pub read : FoldsTo CountedCase (source, count) found last
      pub end : ((length found ≡ 1000000) × (left ≡ last.0)) ⊎ (Consumes (remaining last.0) (remaining left) [] × IsAtEnd (remaining left))

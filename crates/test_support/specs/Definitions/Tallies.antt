-- The count of cases and mismatches. Assumes nothing.
use Rattle.std.specs.Prelude.{ℕ, zero, suc, ◌+◌, min, Option, None, Some}
use Rattle.std.specs.Option.{option_or}
use Rattle.test_support.specs.declared.reporting.Tally.{Tally}

-- one more, within 64 bits
abbrev pub next : ℕ → ℕ
next n = min (n + 1) 18446744073709551615

module _ {F : Type 0} where
  abbrev pub empty : Tally F
  empty = record { cases = 0; mismatches = 0; first = None }

  -- a tally with one case more, which agrees, or at which something is found: the first that differs is kept
  abbrev pub counted : Tally F → Option F → Tally F
  counted t None = record { cases = next t.cases; mismatches = t.mismatches; first = t.first }
  counted t (Some found) =
      record {
        cases = next t.cases;
        mismatches = next t.mismatches;
        first = option_or t.first (Some (record { case = next t.cases; found = found }));
      }

  -- the tally of what is found in each of the first n cases
  abbrev pub tallied : (ℕ → Option F) → ℕ → Tally F
  tallied found zero = empty
  tallied found (suc n) = counted (tallied found n) (found n)

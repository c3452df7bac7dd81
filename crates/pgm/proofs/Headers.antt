-- What the code finds in a header is what the definitions say of it. Assumes nothing.
use Rattle.std.proofs.Common.{◌≡◌, refl, sym, ◌∙◌, Option, Some, None, inl, inr, arith}
use mathlib.Core.Bool.{Bool, true, false, cond, ◌&&◌}
use mathlib.Core.List.{List, [], ◌∷◌}
use Prim.Native.Nat.{ℕ, ◌+◌, ◌≤◌, ◌<◌}
use native.Mathlib.Decide.{dec_lt}
use borrow.Author.Tests.{lt-ltb, le-ltb, eq-eqb, ne_eqb}
use lib.Dec.{ltb, eqb}
use lib.ListN.{length, get_or, get_or-eq_default}
use Rattle.std.proofs.lemmas.Bool.Decides.{eqb_tells}
use Rattle.std.proofs.Math.Bool.{and-false, and-true}
use Rattle.std.specs.List.{starts_with}
use Rattle.decimals.specs.declared.Number.{Number}
use Rattle.decimals.specs.Definitions.Text.{number_at, number_found}
use Rattle.decimals.proofs.Reading.{found_by}
use Rattle.pgm.specs.declared.finding.Field.{Field}
use Rattle.pgm.specs.declared.finding.Header.{Header}
use Rattle.pgm.specs.Definitions.Header.{is_space, digits_place, number_in, number_end, number_ok, header_ok, columns_in, rows_in, greatest_in, rows_place, greatest_place, last_space, pixels_place}
use Rattle.pgm.specs.Inner.Found.{field_at, header_in}
use Rattle.pgm.proofs.Passing.{end_within}

-- ---- one number

place_from : (bytes : List ℕ) (at : ℕ) → at ≤ digits_place bytes at
unfolding digits_place
place_from bytes at = omega arith

module _ (bytes : List ℕ) (at : ℕ) {start : ℕ} (e : start ≡ digits_place bytes at) where
  -- no white space, or no digit
  pub no_space : start ≡ at → None ≡ field_at bytes at
  unfolding field_at number_ok
  no_space s = let same : digits_place bytes at ≡ at = sym e ∙ s in rw (same, le-ltb at at (omega arith))

  no_digits : (number_at bytes (digits_place bytes at) 5).digits ≡ 0 → None ≡ field_at bytes at
  unfolding field_at number_ok number_end
  no_digits none =
      let place = digits_place bytes at in
      rw (none, le-ltb place (place + 0) (omega arith), and-false (ltb at place))

  pub no_number : None ≡ number_found (number_at bytes start 5) → None ≡ field_at bytes at
  no_number n = elim (found_by (number_at bytes start 5) n) [ inl t ↦ no_digits (rw e at t.1) | inr t ↦ absurd (cc) ]

  -- what is found
  module _ {n : Number} (found : Some n ≡ number_found (number_at bytes start 5)) where
    pub record Read : Type 0 where
      pub is : n ≡ number_at bytes (digits_place bytes at) 5
      pub some : n.digits ≡ 0 → ⊥

    pub read : Read
    read =
        elim (found_by (number_at bytes start 5) found) [
          | inl t ↦ absurd (cc)
          | inr t ↦ let is : n ≡ number_at bytes start 5 = cc in record { is = rw e at is; some = λ z. t.1 (rw is at z) }
        ]

    pub number_there : (start ≡ at → ⊥) → Some (record { value = n.value; end = start + n.digits }) ≡ field_at bytes at
    unfolding field_at number_ok number_end number_in
    number_there s =
        let place = digits_place bytes at in
        let after = place_from bytes at in
        let white : at < place = omega (arith, e) in
        let some : (number_at bytes place 5).digits ≡ 0 → ⊥ = rw read.is at read.some in
        rw (e, read.is, lt-ltb at place white, lt-ltb place (place + (number_at bytes place 5).digits) (omega arith))

    pub number_within_file : at ≤ length bytes → start + n.digits ≤ length bytes
    unfolding number_end
    number_within_file h = rw (e, read.is) (end_within bytes (length bytes) at (omega arith) h)

-- ---- the header

eqb-comm : (a b : ℕ) → eqb a b ≡ eqb b a
eqb-comm a b = elim (eqb_tells a b) [ inl t ↦ t.0 ∙ sym (eq-eqb b a (sym t.1)) | inr t ↦ t.0 ∙ sym (ne_eqb b a (λ e. t.1 (sym e))) ]

-- P5
named : (bytes : List ℕ) → starts_with eqb bytes (80 ∷ 53 ∷ []) ≡ eqb (get_or bytes 0 0) 80 && eqb (get_or bytes 1 0) 53
named [] = refl
named (b ∷ []) = rw (and-false (eqb 80 b), and-false (eqb b 80))
named (b ∷ c ∷ bytes) = rw (and-true (eqb 53 c), eqb-comm 80 b, eqb-comm 53 c)

module _ (bytes : List ℕ) where
  record Parts (at : ℕ) (f : Field) : Type 0 where
    ok : number_ok bytes at ≡ true
    value : f.value ≡ number_in bytes at
    end : f.end ≡ number_end bytes at

  parts : (at : ℕ) {f : Field} → Some f ≡ field_at bytes at → Parts at f
  unfolding field_at
  parts at {f} e = go (number_ok bytes at) refl e
    where
      go : (t : Bool) → number_ok bytes at ≡ t → Some f ≡ cond t (Some (record { value = number_in bytes at; end = number_end bytes at })) None → Parts at f
      go true ok e = let is : f ≡ record { value = number_in bytes at; end = number_end bytes at } = cc in record { ok = ok; value = rw is; end = rw is }
      go false ok e = absurd (cc)

  not_ok : (at : ℕ) → None ≡ field_at bytes at → number_ok bytes at ≡ false
  unfolding field_at
  not_ok at e = go (number_ok bytes at) refl e
    where
      go : (t : Bool) → number_ok bytes at ≡ t → let r : Option Field = Some (record { value = number_in bytes at; end = number_end bytes at }) in None ≡ cond t r None → number_ok bytes at ≡ false
      go true ok e = absurd (cc)
      go false ok e = ok

  none : header_ok bytes ≡ false → None ≡ header_in bytes
  unfolding header_in
  none e = rw e

  abbrev name : Bool
  name = eqb (get_or bytes 0 0) 80 && eqb (get_or bytes 1 0) 53

  pub no_name : false ≡ starts_with eqb bytes (80 ∷ 53 ∷ []) → None ≡ header_in bytes
  unfolding header_ok
  no_name e = none (let f : name ≡ false = sym (e ∙ named bytes) in rw f)

  pub no_columns : None ≡ field_at bytes 2 → None ≡ header_in bytes
  unfolding header_ok
  no_columns e = none (rw (not_ok 2 e, and-false name))

  module _ {columns : Field} (c : Some columns ≡ field_at bytes 2) where
    pub no_rows : None ≡ field_at bytes columns.end → None ≡ header_in bytes
    unfolding header_ok
    no_rows e = none (rw (rw (parts 2 c).end at (not_ok columns.end e), and-false (name && number_ok bytes 2)))

    pub columns_within : 2 ≤ length bytes → columns.end ≤ length bytes
    columns_within h = rw (parts 2 c).end (end_within bytes (length bytes) 2 (omega arith) h)

    module _ {rows : Field} (r : Some rows ≡ field_at bytes columns.end) where
      rows_parts : Parts (rows_place bytes) rows
      rows_parts = rw (parts 2 c).end at (parts columns.end r)

      pub no_greatest : None ≡ field_at bytes rows.end → None ≡ header_in bytes
      unfolding header_ok
      no_greatest e = none (rw (rw rows_parts.end at (not_ok rows.end e), and-false (name && number_ok bytes 2 && number_ok bytes (rows_place bytes))))

      pub rows_within : columns.end ≤ length bytes → rows.end ≤ length bytes
      rows_within h = rw (parts columns.end r).end (end_within bytes (length bytes) columns.end (omega arith) h)

      module _ {greatest : Field} (g : Some greatest ≡ field_at bytes rows.end) where
        greatest_parts : Parts (greatest_place bytes) greatest
        greatest_parts = rw rows_parts.end at (parts rows.end g)

        pub no_last : false ≡ is_space (get_or bytes greatest.end 0) → None ≡ header_in bytes
        unfolding header_ok
        no_last e =
            let here : is_space (get_or bytes greatest.end 0) ≡ false = sym e in
            let space = rw greatest_parts.end at here in
            none (rw (space, and-false (name && number_ok bytes 2 && number_ok bytes (rows_place bytes) && number_ok bytes (greatest_place bytes))))

        -- past the end there is no white space
        pub no_end : length bytes ≤ greatest.end → None ≡ header_in bytes
        unfolding is_space
        no_end h = no_last (rw (get_or-eq_default bytes 0 {n = greatest.end} h))

        pub header_there : true ≡ starts_with eqb bytes (80 ∷ 53 ∷ []) → true ≡ is_space (get_or bytes greatest.end 0)
            → Some (record { columns = columns.value; rows = rows.value; greatest = greatest.value; pixels = greatest.end + 1 }) ≡ header_in bytes
        unfolding header_in header_ok
        header_there n e =
            let here : is_space (get_or bytes greatest.end 0) ≡ true = sym e in
            let space = rw greatest_parts.end at here in
            let f : name ≡ true = sym (n ∙ named bytes) in
            let one = parts 2 c in
            rw (greatest_parts.value, greatest_parts.end, rows_parts.value, one.value, f, one.ok, rows_parts.ok, greatest_parts.ok, space)

  -- what is found in a header
  pub record HeaderThere (h : Header) : Type 0 where
    pub ok : header_ok bytes ≡ true
    pub is : h ≡ record { columns = columns_in bytes; rows = rows_in bytes; greatest = greatest_in bytes; pixels = pixels_place bytes }

  pub header_parts : {h : Header} → Some h ≡ header_in bytes → HeaderThere h
  unfolding header_in
  header_parts {h} e = go (header_ok bytes) refl e
    where
      go : (t : Bool) → header_ok bytes ≡ t → Some h ≡ cond t (Some (record { columns = columns_in bytes; rows = rows_in bytes; greatest = greatest_in bytes; pixels = pixels_place bytes })) None → HeaderThere h
      go true ok e = record { ok = ok; is = cc }
      go false ok e = absurd (cc)

  pub header_absent : None ≡ header_in bytes → header_ok bytes ≡ false
  unfolding header_in
  header_absent e = go (header_ok bytes) refl e
    where
      go : (t : Bool) → header_ok bytes ≡ t → let h : Option Header = Some (record { columns = columns_in bytes; rows = rows_in bytes; greatest = greatest_in bytes; pixels = pixels_place bytes }) in None ≡ cond t h None → header_ok bytes ≡ false
      go true ok e = absurd (cc)
      go false ok e = ok

  -- past the end there is no white space before the pixels
  pub pixels_within : header_ok bytes ≡ true → pixels_place bytes ≤ length bytes
  unfolding header_ok is_space
  pixels_within ok = cases (dec_lt (last_space bytes) (length bytes))
    where
      cases : Dec (last_space bytes < length bytes) → pixels_place bytes ≤ length bytes
      cases (yes h) = omega arith
      cases (no h) =
          let all : Bool = name && number_ok bytes 2 && number_ok bytes (rows_place bytes) && number_ok bytes (greatest_place bytes) in
          let none : header_ok bytes ≡ false = rw (get_or-eq_default bytes 0 {n = last_space bytes} (omega arith), and-false all) in
          absurd (cc)

-- The readings section: written and read, the readings are the same, bit for bit; read and written, the bytes are. Assumes nothing.
use mathlib.Core.Path.{◌≡◌, refl, sym, ap, ◌∙◌, subst}
use mathlib.Core.List.{List, [], ◌∷◌, ◌++◌}
use Prim.Native.Nat.{ℕ, zero, suc, ◌+◌, ◌*◌, ◌≤◌, ◌<◌}
use native.Mathlib.Nat.{add-zero}
use native.Mathlib.Omega.{arith}
use lib.Dec.{T}
use lib.ListN.{length, get_or}
use Rattle.mathematics.proofs.Tests.{both, both_of}
use Rattle.pyramid.specs.declared.Settings.{Settings}
use Rattle.pyramid.specs.Definitions.Buffers.{Bytes}
use Rattle.pyramid.proofs.Refusals.{first_nil, first_none, first_pass}
use Rattle.bale.specs.declared.Reading.{Reading}
use Rattle.bale.specs.declared.Note.{Note}
use Rattle.bale.specs.Definitions.Words.{le16, le32, u16_at, u32_at}
use Rattle.bale.specs.Definitions.Readings.{ReadingAnswer, HeldReading, code_of, reading_ok, note_ok, reading_bytes}
use Rattle.bale.specs.Definitions.Files.{readings_section}
use Rattle.bale.specs.Definitions.Reader.{readings_place, drier_place, press_place, probe_at, note_in, readings_section_refusal}
use Rattle.bale.proofs.Stands.{Stands, stands_front, stands_back, stands_join}
use Rattle.bale.proofs.WordLaws.{digits32, bytes32}
use Rattle.bale.proofs.Readings.{decode_code, number_small, code_decode}
use Rattle.bale.proofs.WordLists.{word_read, word_stands}
use Rattle.bale.proofs.Sections.{Section, section_accepted, section_whole}

-- ---- one reading

number_least : (bytes : List ℕ) → Bytes bytes → (p : ℕ) → u32_at bytes p < 2 * 0x8000_0000
unfolding u32_at
number_least bytes all p = omega (arith, all p, all (p + 1), all (p + 2), all (p + 3))

module _ {bytes : List ℕ} {at : ℕ} where
  pub probe_read : (r : Reading) → HeldReading r → T (reading_ok r) → Stands (reading_bytes r) bytes at → probe_at bytes at ≡ record { refusal = 0; reading = r }
  unfolding probe_at u32_at le32
  probe_read r held ok s =
      let next : (i j : ℕ) → at + 1 + i ≡ at + j → get_or bytes (at + 1 + i) 0 ≡ get_or bytes (at + j) 0 = λ i j e. ap (λ (k : ℕ). get_or bytes k 0) e in
      let kind : get_or bytes at 0 ≡ (code_of r).kind = ap (λ (k : ℕ). get_or bytes k 0) (sym (add-zero at)) ∙ s.each 0 (omega arith) in
      let a = s.each 1 (omega arith) in
      let b = next 1 2 (omega arith) ∙ s.each 2 (omega arith) in
      let c = next 2 3 (omega arith) ∙ s.each 3 (omega arith) in
      let d = next 3 4 (omega arith) ∙ s.each 4 (omega arith) in
      rw (kind, a, b, c, d, digits32 (code_of r).number (number_small r held ok)) (decode_code r held ok)

  five : Bytes bytes → at + 5 ≤ length bytes → Stands (get_or bytes at 0 ∷ le32 (u32_at bytes (at + 1))) bytes at
  unfolding u32_at
  five all h =
      rw (bytes32 (get_or bytes (at + 1) 0) (get_or bytes (at + 1 + 1) 0) (get_or bytes (at + 1 + 2) 0) (get_or bytes (at + 1 + 3) 0)
      (all (at + 1)) (all (at + 1 + 1)) (all (at + 1 + 2)) (all (at + 1 + 3)))
      (record { room = h; each = each })
    where
      each : (i : ℕ) → i < 5
          → get_or bytes (at + i) 0 ≡ get_or (get_or bytes at 0 ∷ get_or bytes (at + 1) 0 ∷ get_or bytes (at + 1 + 1) 0 ∷ get_or bytes (at + 1 + 2) 0 ∷ get_or bytes (at + 1 + 3) 0 ∷ []) i 0
      each zero k = rw add-zero
      each (suc zero) k = refl
      each (suc (suc zero)) k = ap (λ (m : ℕ). get_or bytes m 0) (omega arith)
      each (suc (suc (suc zero))) k = ap (λ (m : ℕ). get_or bytes m 0) (omega arith)
      each (suc (suc (suc (suc zero)))) k = ap (λ (m : ℕ). get_or bytes m 0) (omega arith)
      each (suc (suc (suc (suc (suc i))))) k = absurd (omega arith)

  pub probe_stands : Bytes bytes → at + 5 ≤ length bytes → (probe_at bytes at).refusal ≡ 0
      → T (reading_ok (probe_at bytes at).reading) × Stands (reading_bytes (probe_at bytes at).reading) bytes at
  unfolding probe_at
  probe_stands all h e =
      let (ok, kind, number) = code_decode (get_or bytes at 0) (u32_at bytes (at + 1)) (number_least bytes all (at + 1)) e in
      (ok, rw (kind, number) (five all h))

-- ---- both

module _ (bytes : List ℕ) (s : Settings) where
  pub readings_read : (note : Note) → HeldReading note.before_drier → HeldReading note.at_press → T (note_ok note)
      → Stands (readings_section note) bytes (readings_place s) → (readings_section_refusal bytes s ≡ 0) × (note_in bytes s ≡ note)
  unfolding note_ok readings_section readings_section_refusal note_in le16 le32
  readings_read note held-drier held-press ok st =
      let (drier-ok, press-ok) = both (reading_ok note.before_drier) (reading_ok note.at_press) ok in
      let drier = reading_bytes note.before_drier in
      let press = reading_bytes note.at_press in
      let two = stands_back (le16 2) (drier ++ press) st in
      let a = probe_read note.before_drier held-drier drier-ok (stands_front drier press two) in
      let b = probe_read note.at_press held-press press-ok (stands_back drier press two) in
      let counted : u16_at bytes (readings_place s) ≡ 2 = word_read (omega arith) (stands_front (le16 2) (drier ++ press) st) in
      let w : Section bytes (readings_place s) 2 5 = record { present = omega (arith, st.room); counted = counted } in
      let refusal : ReadingAnswer → ℕ = λ p. p.refusal in
      (first_pass _ (section_accepted w) (first_pass _ (ap refusal a) (first_pass _ (ap refusal b) first_nil)), rw (a, b))

  pub readings_stand : Bytes bytes → readings_section_refusal bytes s ≡ 0
      → T (note_ok (note_in bytes s)) × Stands (readings_section (note_in bytes s)) bytes (readings_place s)
  unfolding note_ok readings_section readings_section_refusal note_in le16 le32
  readings_stand all e =
      let (section, e₄) = first_none _ _ e in
      let (drier, e₅) = first_none _ _ e₄ in
      let (press, _) = first_none _ _ e₅ in
      let w = section_whole {bytes = bytes} section in
      let room : readings_place s + 2 + 10 ≤ length bytes = w.present in
      let (drier-ok, a) = probe_stands all (omega arith) drier in
      let (press-ok, b) = probe_stands all (omega arith) press in
      let one = reading_bytes (probe_at bytes (drier_place s)).reading in
      let two = reading_bytes (probe_at bytes (press_place s)).reading in
      let count : Stands (le16 2) bytes (readings_place s) =
      subst (λ (k : ℕ). Stands (le16 k) bytes (readings_place s)) w.counted (word_stands all (omega arith))
      in (
        both_of (reading_ok (probe_at bytes (drier_place s)).reading) (reading_ok (probe_at bytes (press_place s)).reading) drier-ok press-ok,
        stands_join (le16 2) (one ++ two) count (stands_join one two a b),
      )

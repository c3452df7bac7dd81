-- The rows and numbers that `copying` forms, as the machine forms them: clamped values, differences, indices and their values.
-- Assumes nothing.
use mathlib.Core.Path.{◌≡◌, refl, sym, ap, ap₂, ◌∙◌}
use mathlib.Core.List.{List, map}
use Prim.Native.Nat.{ℕ, ◌+◌, ◌^◌, ◌≤◌, ◌<◌, min, max}
use lib.Dec.{T, ltb}
use native.Mathlib.Omega.{arith}
use lib.IntN.{ℤ, pos, negsuc, nat_abs, ◌+ℤ◌, ◌-ℤ◌, ◌*ℤ◌}
use lib.ListN.{length, get_or}
use mir.Syntax.{w16, w32}
use mir.Val.{SFits, to_z}
use Rattle.mathematics.specs.Definitions.Tables.{tabulate}
use Rattle.mathematics.proofs.Tables.{length-tabulate, get_or-tabulate, tabulate-same, tabulate-map, map-tabulate}
use Rattle.mathematics.proofs.Held.{held, held_is, short, short_is}
use Rattle.mathematics.proofs.IntegerLaws.{fits_by, abs_sum, abs_minus, minus-minus}
use Rattle.std.specs.Int.{int_min, int_max}
use Rattle.std.proofs.lemmas.Int as std
use Rattle.quantizer.specs.Definitions.Bins.{bin_index}
use Rattle.std.proofs.lemmas.List.{map-id}
use Rattle.pyramid.specs.declared.Settings.{Settings}
use Rattle.pyramid.specs.declared.Manner.TheVariants.{OpenLoop, ClosedLoop}
use Rattle.pyramid.specs.Definitions.Refusals.{limit}
use Rattle.pyramid.specs.Definitions.Rebuilding.{clamp}
use Rattle.pyramid.specs.Inner.Lawful.{BlackWhite}
use Rattle.pyramid.specs.Inner.Rows.{Within, Small, kept, IndicesWithin, ValuesWithin}
use Rattle.pyramid.proofs.TapSums.{within_fits}
use Rattle.pyramid.proofs.SmallBuffers.{small-tabulate}

-- ---- what a value is clamped to

module _ (s : Settings) where
  -- to a byte, and then to black and white
  byte_of : ℤ → ℕ
  byte_of x = nat_abs (int_max (pos 0) (int_min x (pos 255)))

  clamped : BlackWhite s.black s.white → (x : ℤ) → min (max (byte_of x) s.black) s.white ≡ clamp s x
  unfolding clamp byte_of
  clamped greys (pos n) = omega (arith, std.ints, std.clamps, greys.below, greys.most)
  clamped greys (negsuc n) = omega (arith, greys.below)

  -- of a value that is read, what `clamp` returned, stored
  pub clamped_stored : BlackWhite s.black s.white → {x r : ℤ} → SFits w32 x → SFits w32 r → r ≡ int_max (pos 0) (int_min (held x) (pos 255))
      → min (max (nat_abs (held r)) s.black) s.white ≡ clamp s x
  unfolding byte_of
  clamped_stored greys {x} f g e = rw (held_is g, e, held_is f) (clamped greys x)

-- ---- a difference

module _ {e f : ℕ} (te : T (ltb e (2 ^ 31))) (tf : T (ltb f (2 ^ 31))) (both : T (ltb (e + f) (2 ^ 31))) {a p : ℤ} (ha : Within e a) (hp : Within f p) where
  difference_formed : held a -ℤ held p ≡ a -ℤ p
  difference_formed = rw (held_is (within_fits te ha), held_is (within_fits tf hp))

  pub difference-fits : SFits w32 (held a -ℤ held p)
  difference-fits = rw difference_formed (fits_by w32 (e + f) both (abs_minus e f a p ha.small hp.small))

  pub difference_held : held (held a -ℤ held p) ≡ a -ℤ p
  difference_held = held_is difference-fits ∙ difference_formed

-- ---- a row of differences, their indices, and what is kept

module _ (averages predicted : List ℤ) (n : ℕ) where
  abbrev index : ℕ → ℤ
  index i = bin_index (get_or averages i (pos 0) -ℤ get_or predicted i (pos 0)) n

  module _ {differences : List ℤ} (count : ℕ) (d : differences ≡ tabulate count (λ i. get_or averages i (pos 0) -ℤ get_or predicted i (pos 0))) (e : count ≡ length averages) where
    pub indices_made : map (λ L. bin_index L n) differences ≡ tabulate (length averages) index
    indices_made = ap (map (λ L. bin_index L n)) d ∙ map-tabulate (λ L. bin_index L n) count _ ∙ rw e refl

    pub indices_small : IndicesWithin averages predicted n → Small limit (map (λ L. bin_index L n) differences)
    indices_small lawful = rw indices_made (small-tabulate (length averages) index lawful.at)

    pub differences_small : Small 8388608 averages → Small 8388608 predicted → Small 16777216 differences
    differences_small ha hp =
        rw (d, e) (small-tabulate (length averages) _ (λ i h. record { small = abs_minus 8388608 8388608 (get_or averages i (pos 0)) (get_or predicted i (pos 0)) (ha i).small (hp i).small }))

    -- taken off the averages, they leave what was predicted
    pub recovered : length predicted ≡ length averages → tabulate (length averages) (λ i. get_or averages i (pos 0) -ℤ get_or differences i (pos 0)) ≡ predicted
    recovered long =
        tabulate-same (length averages) _ (λ i. get_or predicted i (pos 0))
        (λ i h. rw (d, get_or-tabulate count _ (pos 0) i (omega (arith, e)), minus-minus (get_or averages i (pos 0)) (get_or predicted i (pos 0))) refl)
        ∙ rw (← long) (tabulate-map (λ p. p) (pos 0) predicted ∙ map-id predicted)

  module _ {indices : List ℤ} (e : indices ≡ tabulate (length averages) index) where
    made_node : (i : ℕ) → i < length averages → get_or indices i (pos 0) ≡ index i
    made_node i h = rw (e, get_or-tabulate (length averages) index (pos 0) i h) refl

    pub values_within : IndicesWithin averages predicted n → ValuesWithin indices n
    values_within lawful = record {
      at = λ i h. let hi : i < length averages = omega (arith, ap length e, length-tabulate (length averages) index) in rw (made_node i hi) (lawful.values i hi);
    }

    pub closed_kept : tabulate (length averages) (λ i. get_or indices i (pos 0) *ℤ pos n +ℤ get_or predicted i (pos 0))
        ≡ tabulate (length averages) (λ i. kept ClosedLoop (get_or averages i (pos 0)) (get_or predicted i (pos 0)) n)
    unfolding kept
    closed_kept = tabulate-same (length averages) _ _ (λ i h. rw (made_node i h) refl)

  pub open_kept : averages ≡ tabulate (length averages) (λ i. kept OpenLoop (get_or averages i (pos 0)) (get_or predicted i (pos 0)) n)
  unfolding kept
  open_kept = sym (tabulate-map (λ a. a) (pos 0) averages ∙ map-id averages)

-- an index, clamped to 16 bits and stored in them
pub index_stored : {m r : ℤ} → Within limit m → r ≡ int_max (negsuc 32767) (int_min (held m) (pos 32767)) → short (held r) ≡ m
index_stored {m} {r} h e =
    let inside : int_max (negsuc 32767) (int_min m (pos 32767)) ≡ m = omega (arith, std.ints, std.clamps, h.small) in
    let is : r ≡ m = e ∙ rw (held_is (within_fits tt h)) inside in
    rw (is, held_is (within_fits tt h)) (short_is (fits_by w16 limit tt h.small))

-- ---- the value of an index, of 16 bits, with what is predicted for it

module _ {m : ℤ} {n : ℕ} (hm : SFits w16 m) (hn : n ≤ 255) (lawful : Within limit (m *ℤ pos n)) where
  value_formed : short m *ℤ to_z w16 n ≡ m *ℤ pos n
  value_formed = let e : to_z w16 n ≡ pos n = omega (arith, std.ints, hn) in rw (short_is hm, e)

  pub value_fits : SFits w16 (short m *ℤ to_z w16 n)
  value_fits = rw value_formed (fits_by w16 limit tt lawful.small)

  module _ {p r : ℤ} (hp : Within 8388608 p) (is : r ≡ short (short m *ℤ to_z w16 n)) where
    value_is : r ≡ m *ℤ pos n
    value_is = is ∙ short_is value_fits ∙ value_formed

    sum_formed : held r +ℤ held p ≡ m *ℤ pos n +ℤ p
    sum_formed = ap₂ ◌+ℤ◌ (ap held value_is ∙ held_is (fits_by w32 limit tt lawful.small)) (held_is (within_fits tt hp))

    pub rebuilt_fits : SFits w32 (held r +ℤ held p)
    rebuilt_fits = rw sum_formed (fits_by w32 8392704 tt (abs_sum limit 8388608 (m *ℤ pos n) p lawful.small hp.small))

    pub rebuilt_held : held (held r +ℤ held p) ≡ m *ℤ pos n +ℤ p
    rebuilt_held = held_is rebuilt_fits ∙ sum_formed

-- What `get` lends: the element at a place of a list, if there is one. Assumes nothing.
use Rattle.std.proofs.Common.{◌≡◌, ℕ, Bool, List, Option, Some, None, Bor, refl}
use Rattle.std.specs.List.{slice_get}
use Rattle.std.specs.Option.{option_map, option_eq}
use Rattle.std.specs.Slice.{IsItemAt}
use Rattle.std.proofs.lemmas.Option.{slice_get_past, slice_get_read}
use Rattle.test_support.specs.Definitions.Comparisons.{is_same}

pub lent_at : {X : Type 0} (xs : List X) (i : ℕ) (r : Option (Bor X)) → IsItemAt xs i r → slice_get xs i ≡ option_map (λ (x : Bor X). x.now) r
lent_at xs i None h = slice_get_past xs i h.3
lent_at xs i (Some x) h = slice_get_read xs _ i x.now refl h.3.0 h.1

-- what is lent, compared with what is expected there
pub lent_is : {X : Type 0} (eq : X → X → Bool) (r : Option (Bor X)) (e : Bor X) → option_eq (λ x y. eq x.now y.now) r (Some e) ≡ is_same eq (option_map (λ (x : Bor X). x.now) r) (Some e.now)
lent_is eq None e = refl
lent_is eq (Some x) e = refl

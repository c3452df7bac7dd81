-- The first place that is not as it should be. Assumes nothing.
use Rattle.std.specs.Prelude.{◌≡◌, Bool, false, not, ◌&&◌, ltb, List, ℕ, ◌*◌, ◌/◌, ◌-◌, ◌<◌, ℤ, Option, Some, slice_get, length}
use Rattle.std.specs.List.{find, range_with_len}
use Rattle.std.specs.Ordering.{int_eq}
use Rattle.test_support.specs.Definitions.Numbers.{signed16}

-- of the places from one on and before another, the first that fails a test, if there is one
unfoldable pub first_failure : (from end : ℕ) → (ℕ → Bool) → Option ℕ
first_failure from end test = find (λ k. not (test k)) (range_with_len from (end - from))

module _ {A : Type 0} (eq : A → A → Bool) where
  -- whether two lists both have a place, and hold the same there
  abbrev pub is_same : Option A → Option A → Bool
  is_same (Some x) (Some y) = eq x y
  is_same _ _ = false

  -- of the first n places, the first at which two lists are not the same
  abbrev pub first_difference_of : ℕ → List A → List A → Option ℕ
  first_difference_of n xs ys = first_failure 0 n (λ k. is_same (slice_get xs k) (slice_get ys k))

  -- the first place of what is expected at which a list is not the same
  abbrev pub first_difference : (got expected : List A) → Option ℕ
  first_difference got expected = first_difference_of (length expected) got expected

  -- of these places, the first at which a list does not hold what it is to hold there
  abbrev pub first_other : (from end : ℕ) → (ℕ → A) → List A → Option ℕ
  first_other from end expected xs = first_failure from end (λ k. is_same (slice_get xs k) (Some (expected k)))

-- what a closure gives at the numbers below n, which its calls answer by `post`
abbrev pub Gives : {A : Type 0} (n : ℕ) → (ℕ → A → Type 0) → (ℕ → A) → Type 0
Gives {A} n post f = (k : ℕ) (x : A) → k < n → post k x → x ≡ f k

-- of the first n places, the first at which indices are not those that bytes hold
abbrev pub first_other_index : ℕ → List ℕ → List ℤ → Option ℕ
first_other_index n bytes levels =
    first_failure 0 n (λ k. ltb k (length bytes / 2) && is_same int_eq (slice_get levels k) (Some (signed16 bytes (2 * k))))

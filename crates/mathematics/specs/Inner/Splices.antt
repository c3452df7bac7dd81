-- A part of a list, and a list with another in the place of a part of it. Assumes nothing.
use Rattle.std.specs.Prelude.{List, ◌++◌, ℕ, ◌+◌, ◌-◌, length, take, drop}

module _ {ℓ} {A : Type ℓ} where
  -- the elements of l from index f up to index t
  abbrev pub part : ℕ → ℕ → List A → List A
  part f t l = take (t - f) (drop f l)

  -- l, with xs in the place of what starts at `at`
  unfoldable pub splice : ℕ → List A → List A → List A
  splice at xs l = take at l ++ (xs ++ drop (at + length xs) l)

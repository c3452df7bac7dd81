-- What it means that a call is accepted, as facts: what functions inside this crate ask of their caller. Assumes nothing.
use Rattle.std.specs.Prelude.{◌≡◌, List, ℕ, ◌*◌, ◌≤◌, ℤ, length}
use Rattle.pyramid.specs.declared.Settings.{Settings}
use Rattle.pyramid.specs.Inner.Lawful.{Lawful}
use Rattle.pyramid.specs.Definitions.Sizes.{total}

module _ (s : Settings) where
  pub record Sized (picture levels work : ℕ) : Type 0 where
    pub picture_is : picture ≡ s.rows * s.columns
    pub levels_is : levels ≡ total s
    pub work_least : total s ≤ work

  pub record Accepted (picture : List ℕ) (levels work : List ℤ) : Type 0 where
    pub law : Lawful s
    pub sized : Sized (length picture) (length levels) (length work)

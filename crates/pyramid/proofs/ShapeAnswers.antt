-- What the calls on a shape or on settings answer where these are lawful: the converse of the tests, a level's size, T. Assumes nothing.
use mathlib.Core.Path.{◌≡◌, refl, sym, ◌∙◌}
use mathlib.Core.Bool.{Bool, true, false, cond}
use Prim.Native.Nat.{ℕ, ◌*◌, ◌≤◌}
use native.Mathlib.Omega.{arith}
use borrow.Author.Tests.{le-leb, lt-ltb, eq-eqb, leb-true}
use lib.Dec.{leb}
use Rattle.pyramid.specs.declared.Settings.{Settings}
use Rattle.pyramid.specs.declared.Dimensions.{Dimensions}
use Rattle.pyramid.specs.Definitions.Settings.{side_ok, depth_ok, divides, kernel_ok, black_white_ok, size_ok}
use Rattle.pyramid.specs.Definitions.Sizes.{columns_at, rows_at, nodes_at, total}
use Rattle.pyramid.specs.Inner.Lawful.{Shaped}
use Rattle.pyramid.specs.Definitions.Calls.{leaves}
use Rattle.pyramid.specs.Definitions.Refusals.{unless, first, shape_refusal, settings_refusal}
use Rattle.pyramid.specs.Definitions.Answers.{LevelSizeAnswer, NodesAnswer, DeepestAnswer, size_of, level_size_answer, nodes_answer, shape_answer, deepest_answer}
use Rattle.pyramid.proofs.Refusals.{leaves_new}
use Rattle.pyramid.proofs.Sizes.{nodes_small}

pub shape_accepted : (s : Settings) → Shaped s → shape_refusal s ≡ 0
unfolding shape_refusal size_ok side_ok depth_ok divides kernel_ok black_white_ok unless first
shape_accepted s shape =
    rw (
      le-leb _ _ shape.across.least,
      le-leb _ _ shape.across.most,
      le-leb _ _ shape.along.least,
      le-leb _ _ shape.along.most,
      le-leb _ _ shape.deep,
      eq-eqb _ _ shape.across.whole,
      eq-eqb _ _ shape.along.whole,
      le-leb _ _ shape.kernel.least,
      le-leb _ _ shape.kernel.most,
      lt-ltb _ _ shape.greys.below,
      le-leb _ _ shape.greys.most,
    )

module _ (s : Settings) (level : ℕ) (shape : Shaped s) (h : level ≤ s.depth) where
  level_size : level_size_answer s level ≡ record { refusal = 0; columns = columns_at s level; rows = rows_at s level }
  unfolding level_size_answer leaves
  level_size = rw (shape_accepted s shape, le-leb level s.depth h)

  pub level_nodes : (size : LevelSizeAnswer) → size ≡ level_size_answer s level
      → (size.rows * size.columns ≡ nodes_at s level) × (size.rows * size.columns ≤ 16641)
  level_nodes size e = rw (e, level_size) (refl, nodes_small s shape level)

-- the nodes of any level, 0 above N
pub record LevelNodes (s : Settings) (level : ℕ) (size : Dimensions) : Type 0 where
  pub product : size.rows * size.columns ≡ cond (leb level s.depth) (nodes_at s level) 0
  pub most : size.rows * size.columns ≤ 16641

pub nodes_of_any : (s : Settings) (level : ℕ) → Shaped s → (size : Dimensions) → size ≡ size_of (level_size_answer s level) → LevelNodes s level size
unfolding level_size_answer leaves
nodes_of_any s level shape size e = pick (leb level s.depth) refl
  where
    pick : (b : Bool) → leb level s.depth ≡ b → LevelNodes s level size
    pick true t =
        let (product, most) = level_nodes s level shape (leb-true _ _ t) (level_size_answer s level) refl in
        rw e (record { product = product ∙ rw t; most = most })
    pick false f = rw e (record { product = rw (shape_accepted s shape, f); most = rw (shape_accepted s shape, f) (omega arith) })

pub shape_answer_lem : (s : Settings) (answer : NodesAnswer) → answer ≡ shape_answer s → answer.refusal ≡ shape_refusal s
unfolding shape_answer
shape_answer_lem s answer e = rw e

pub shape_total : (s : Settings) (answer : NodesAnswer) → answer ≡ shape_answer s → Shaped s → answer.nodes ≡ total s
unfolding shape_answer leaves
shape_total s answer e shape = rw (e, shape_accepted s shape)

pub nodes_answer_lem : (s : Settings) (answer : NodesAnswer) → answer ≡ nodes_answer s → answer.refusal ≡ settings_refusal s
unfolding nodes_answer
nodes_answer_lem s answer e = rw e

pub nodes_total : (s : Settings) (answer : NodesAnswer) → answer ≡ nodes_answer s → answer.refusal ≡ 0 → answer.nodes ≡ total s
unfolding nodes_answer
nodes_total s answer e none = rw e (leaves_new _ _ _ (sym (nodes_answer_lem s answer e) ∙ none))

-- the deepest depth is refused on size only
pub deepest_answer_lem : (columns rows : ℕ) (answer : DeepestAnswer) → answer ≡ deepest_answer columns rows → answer.refusal ≡ unless (size_ok columns rows) 1
unfolding deepest_answer
deepest_answer_lem columns rows answer e = rw e

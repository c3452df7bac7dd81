-- Settings that pass the tests are lawful. Assumes nothing.
use mathlib.Core.Path.{◌≡◌}
use mathlib.Core.Bool.{◌&&◌}
use Prim.Native.Nat.{ℕ, ◌-◌, ◌%◌, ◌^◌, ◌≤◌, ◌<◌}
use native.Mathlib.Omega.{arith}
use borrow.Author.Tests.{lt-leb}
use lib.Dec.{T, leb, ltb, eqb, leb→le, ltb→lt, eqb→eq, le→leb}
use Rattle.mathematics.proofs.Tests.{both, then, below_at}
use Rattle.pyramid.specs.declared.Settings.{Settings}
use Rattle.pyramid.specs.Inner.Lawful.{Side, BlackWhite, LawfulBin, Shaped, Lawful}
use Rattle.pyramid.specs.Definitions.Settings.{side_ok, depth_ok, divides, kernel_ok, black_white_ok, bin, slot_ok, size_ok, bins_ok}

side_law : (side depth : ℕ) → T (side_ok side) → T (divides depth side) → Side side depth
unfolding side_ok divides
side_law side depth t d =
    let (least, most) = both (leb 2 side) (leb side 129) t in
    record { least = leb→le 2 side least; most = leb→le side 129 most; whole = eqb→eq ((side - 1) % 2 ^ depth) 0 d }

black_white_law : (black white : ℕ) → T (black_white_ok black white) → BlackWhite black white
unfolding black_white_ok
black_white_law black white t =
    let (below, most) = both (ltb black white) (leb white 255) t in
    record { below = ltb→lt black white below; most = leb→le white 255 most }

bin_law : (depth l n : ℕ) → l ≤ depth → T (slot_ok depth l n) → LawfulBin n
unfolding slot_ok
bin_law depth l n h t =
    let (least, most) = both (leb 1 n) (leb n 255) (then (leb l depth) (leb 1 n && leb n 255) (eqb n 0) (le→leb l depth h) t) in
    record { least = leb→le 1 n least; most = leb→le n 255 most }

empty_law : (depth l n : ℕ) → depth < l → T (slot_ok depth l n) → n ≡ 0
unfolding slot_ok
empty_law depth l n h t = let u : T (eqb n 0) = rw (lt-leb l depth h) at t in eqb→eq n 0 u

module _ (s : Settings) where
  pub shaped : T (size_ok s.columns s.rows) → T (depth_ok s.depth) → T (divides s.depth s.columns) → T (divides s.depth s.rows)
      → T (kernel_ok s.kernel) → T (black_white_ok s.black s.white) → Shaped s
  unfolding size_ok kernel_ok depth_ok
  shaped size deep c r kernel greys =
      let (across, along) = both (side_ok s.columns) (side_ok s.rows) size in
      let (k₃, k₆) = both (leb 3 s.kernel) (leb s.kernel 6) kernel in
      record {
        deep = leb→le s.depth 6 deep;
        across = side_law s.columns s.depth across c;
        along = side_law s.rows s.depth along r;
        kernel = record { least = leb→le 3 s.kernel k₃; most = leb→le s.kernel 6 k₆ };
        greys = black_white_law s.black s.white greys;
      }

  pub lawful : Shaped s → T (bins_ok s) → Lawful s
  unfolding bins_ok
  lawful shape bins =
      record {
        shaped = shape;
        binned = λ l h. bin_law s.depth l (bin s l) h (below_at 7 (λ l. slot_ok s.depth l (bin s l)) bins l (omega (arith, shape.deep)));
      }

  pub slot_empty : T (bins_ok s) → (l : ℕ) → l < 7 → s.depth < l → bin s l ≡ 0
  unfolding bins_ok
  slot_empty bins l h k = empty_law s.depth l (bin s l) k (below_at 7 (λ l. slot_ok s.depth l (bin s l)) bins l h)

-- What a refusal leaves (document 01, "Who can cause which refusal"; document 02, P2): lent memory is unchanged, and what the
-- definitions have beside its number is 0. Assumes nothing.
use Rattle.std.specs.Prelude.{◌≡◌, List, ℕ}
use Rattle.pyramid.specs.Checks.Refused.{Refused}
use Rattle.pgm.specs.Definitions.Calls.{PictureSizeAnswer, size_answer, write_pgm, check_pgm, read_pgm}

abbrev pub NoSize : PictureSizeAnswer → Type 0
NoSize answer = (answer.columns ≡ 0) × (answer.rows ≡ 0)

pub record RefusedPicturesHoldNothing : Type 0 where
  pub of_size : (columns rows : ℕ) → Refused (size_answer columns rows).refusal ((size_answer columns rows).size ≡ 0)
  pub of_writing : (columns rows : ℕ) (picture file : List ℕ)
      → Refused (write_pgm columns rows picture file).answer.refusal
      (((write_pgm columns rows picture file).answer.size ≡ 0) × ((write_pgm columns rows picture file).file ≡ file))
  pub of_checking : (bytes : List ℕ) → Refused (check_pgm bytes).refusal (NoSize (check_pgm bytes))
  pub of_reading : (bytes picture : List ℕ)
      → Refused (read_pgm bytes picture).answer.refusal (NoSize (read_pgm bytes picture).answer × ((read_pgm bytes picture).picture ≡ picture))

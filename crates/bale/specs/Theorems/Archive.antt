-- Demand 3 of files, as one statement about a first picture, its file and any list of copies. Assumes nothing.
use Rattle.std.specs.Prelude.{◌≡◌, List, ℕ, ◌+◌, ◌*◌, ◌≤◌, ℤ, length, get_or}
use Rattle.mathematics.specs.Definitions.Distances.{distance}
use Rattle.pyramid.specs.Definitions.Sizes.{total}
use Rattle.pyramid.specs.Definitions.Bound.{bound_at}
use Rattle.pyramid.specs.Definitions.Calls.{rebuilding}
use Rattle.bale.specs.declared.Note.{Note}
use Rattle.bale.specs.Definitions.Calls.{check_file, read_file}
use Rattle.bale.specs.Definitions.Copies.{Filing, Copy, written_bytes, first_written, filing_refusal, file_after, copies_sum}

-- a file that is read and rebuilt with these buffers: both calls accept, and no pixel shown lies farther than so much from the first picture's
pub record ShownWithin (first : List ℕ) (within : ℕ) (bytes : List ℕ) (levels : List ℤ) (picture : List ℕ) (work : List ℤ) : Type 0 where
  pub read : (read_file bytes levels).answer ≡ check_file bytes
  pub rebuilt : (rebuilding (check_file bytes).settings (read_file bytes levels).levels picture work).answer ≡ 0
  pub moved : (p : ℕ)
      → distance (get_or (rebuilding (check_file bytes).settings (read_file bytes levels).levels picture work).picture p 0) (get_or first p 0) ≤ within

-- a file that is accepted, holds this note and, with any buffers of right lengths, shows the first picture
pub record Shows (first : List ℕ) (note : Note) (within : ℕ) (bytes : List ℕ) : Type 0 where
  pub accepted : (check_file bytes).refusal ≡ 0
  pub readings : (check_file bytes).note ≡ note
  pub shown : (levels : List ℤ) (picture : List ℕ) (work : List ℤ) → length levels ≡ total (check_file bytes).settings
      → length picture ≡ (check_file bytes).settings.rows * (check_file bytes).settings.columns → total (check_file bytes).settings ≤ length work
      → ShownWithin first within bytes levels picture work

-- once a first picture was coded and written, whatever list of copies follows, the file at hand shows it within the sum of the first bound and
-- the accepted copies', and holds the first note
abbrev pub Archive : Type 0
Archive =
    (f : Filing) (copies : List Copy) → filing_refusal f ≡ 0
    → Shows f.picture f.note (bound_at f.settings f.manner 0 + copies_sum (written_bytes (first_written f)) copies)
    (file_after (written_bytes (first_written f)) copies)

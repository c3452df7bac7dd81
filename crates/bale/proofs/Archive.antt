-- Demand 3 of files: whatever list of copies follows, the file at hand holds some picture that was coded and written with the first note, and
-- that lies as near the first picture as the bounds before it say. Assumes nothing.
use mathlib.Core.Path.{◌≡◌, refl, sym, ap, ◌∙◌, subst}
use mathlib.Core.List.{List, [], ◌∷◌}
use Prim.Native.Nat.{ℕ, ◌+◌, ◌*◌, ◌≤◌}
use mathlib.Core.Logic.{⊎_elim, ◌≢◌}
use native.Mathlib.Nat.{le_refl, add-zero}
use native.Mathlib.Decide.{ℕ_discrete}
use native.Mathlib.Omega.{arith}
use lib.Dec.{T}
use lib.IntN.{ℤ, pos}
use lib.ListN.{length, get_or, drop, replicate, length-replicate}
use lib.Seq.{take_at}
use Rattle.mathematics.specs.Definitions.Distances.{distance}
use Rattle.pyramid.specs.declared.Settings.{Settings}
use Rattle.pyramid.specs.declared.Manner.{Manner}
use Rattle.pyramid.specs.Definitions.Sizes.{total}
use Rattle.pyramid.specs.Definitions.Bound.{bound_at}
use Rattle.pyramid.specs.Definitions.Refusals.{pixels_ok}
use Rattle.pyramid.specs.Definitions.Calls.{coding, rebuilding}
use Rattle.pyramid.proofs.Refusals.{first_nil, first_none, first_pass, leaves_new, leaves_kept}
use Rattle.pyramid.proofs.CodedLevels.{coding_accepts, coded-pixels, rebuilding_accepts}
use Rattle.pyramid.proofs.Accuracy.{rebuilt_near, rebuilt-size}
use Rattle.pyramid.proofs.Clamps.{pixels_inside, shown_pixels}
use Rattle.bale.specs.declared.Note.{Note}
use Rattle.bale.specs.Definitions.Readings.{HeldReading, note_ok}
use Rattle.bale.specs.Definitions.Files.{file_of, file_length}
use Rattle.bale.specs.Definitions.Reader.{settings_in}
use Rattle.bale.specs.Definitions.Calls.{BaleAnswer, ReadOutcome, write_file, read_refusal, bale_of, check_file, read_file}
use Rattle.bale.specs.Definitions.Copies.{Filing, Copy, written_bytes, first_coded, first_written, filing_refusal, source, shown, recoded, rewritten, copy_refusal, copied, copy_bound, file_after, copies_sum}
use Rattle.bale.specs.Theorems.RoundTrips.{Held, WrittenIsRead}
use Rattle.bale.specs.Theorems.Archive.{ShownWithin, Shows, Archive}
use Rattle.bale.specs.Checks.CopiesMade.{Suits, CopyMade, CopiesMade}
use Rattle.bale.proofs.AcceptedFiles.{AcceptedWriting, accepted_writing, accepted_file}
use Rattle.bale.proofs.FileLengths.{length_file}
use Rattle.bale.proofs.Answers.{writing_refusal, writing_is, reading_is}
use Rattle.bale.proofs.RoundTrips.{written_then_read}
use Rattle.bale.proofs.CodedFiles.{coded_then_written, coded_short}
use Rattle.bale.proofs.Totality.{reading_is-total}

-- a picture near another that is near the first
nearer : (a b c : ℕ) {e within : ℕ} → distance b c + e ≤ within → distance a b ≤ e → distance a c ≤ within
nearer a b c f g = omega arith

farther : (n : ℕ) {d within : ℕ} → d ≤ within → d + n ≤ within + n
farther n f = omega arith

-- what is read of a file that is accepted
module _ (bytes : List ℕ) (lent : List ℤ) where
  read_refusal_lem : (read_file bytes lent).answer.refusal ≡ read_refusal bytes (length lent)
  unfolding read_file bale_of
  read_refusal_lem = refl

  -- the two readers agree
  checked_is : read_refusal bytes (length lent) ≡ 0 → (read_file bytes lent).answer ≡ check_file bytes
  unfolding read_file check_file
  checked_is e = ap (bale_of bytes) (⊎_elim (λ six. absurd (omega (arith, e, six))) (λ same. same) ((reading_is-total bytes).differ (length lent)))

-- the bytes of a file that is written
module _ (s : Settings) (note : Note) (levels : List ℤ) (file : List ℕ) (e : (write_file s note levels file).answer.refusal ≡ 0) where
  written_accepted : AcceptedWriting s note levels (length file)
  written_accepted = accepted_writing s note levels (length file) (sym (writing_refusal s note levels file) ∙ e)

  written_bytes_lem : written_bytes (write_file s note levels file) ≡ file_of s note levels
  written_bytes_lem =
      rw (writing_is s note levels file (sym (writing_refusal s note levels file) ∙ e))
      (take_at (file_of s note levels) (drop (file_length s) file) (file_length s) (length_file s note levels written_accepted.long))

-- the first picture, and its note, whose readings are lawful
module _ (first : List ℕ) (note : Note) (noted : T (note_ok note)) (drier : HeldReading note.before_drier) (press : HeldReading note.at_press) where
  -- what is known of the file at hand: the picture that was coded into it, and how near it lies
  record Holds (within : ℕ) (bytes : List ℕ) : Type 0 where
    settings : Settings
    manner : Manner
    picture : List ℕ
    levels : List ℤ
    work : List ℤ
    seven : length settings.bins ≡ 7
    coded : (coding settings manner picture levels work).answer ≡ 0
    is : bytes ≡ file_of settings note (coding settings manner picture levels work).levels
    near : (p : ℕ) → distance (get_or picture p 0) (get_or first p 0) + bound_at settings manner 0 ≤ within

  module _ {within : ℕ} {bytes : List ℕ} (h : Holds within bytes) where
    abbrev s : Settings
    s = h.settings

    abbrev m : List ℤ
    m = (coding s h.manner h.picture h.levels h.work).levels

    held : Held s note m
    held = record { seven = h.seven; drier = drier; press = press; short = coded_short s h.manner h.picture h.levels h.work h.coded }

    trip : WrittenIsRead s note m
    trip = written_then_read s note m (file_length s) held (coded_then_written s note h.manner h.picture h.levels h.work (file_length s) h.coded noted (le_refl (file_length s)))

    abbrev whole : ReadOutcome
    whole = record { answer = record { refusal = 0; settings = s; note = note }; levels = m }

    read_is : (lent : List ℤ) → length lent ≡ total s → read_file bytes lent ≡ whole
    read_is lent e = ap (λ (b : List ℕ). read_file b lent) h.is ∙ trip.read lent e

    abbrev some : List ℤ
    some = replicate (total s) (pos 0)

    some_long : length some ≡ total s
    some_long = length-replicate (total s) (pos 0)

    accepted : (lent : List ℤ) → length lent ≡ total s → read_refusal bytes (length lent) ≡ 0
    accepted lent e = sym (read_refusal_lem bytes lent) ∙ ap (λ (r : ReadOutcome). r.answer.refusal) (read_is lent e)

    checked : check_file bytes ≡ record { refusal = 0; settings = s; note = note }
    checked = sym (checked_is bytes some (accepted some some_long)) ∙ ap (λ (r : ReadOutcome). r.answer) (read_is some some_long)

    settings_are : settings_in bytes ≡ s
    settings_are = sym (ap (λ (r : ReadOutcome). r.answer.settings) (reading_is bytes some (accepted some some_long))) ∙ ap (λ (r : ReadOutcome). r.answer.settings) (read_is some some_long)

    -- whoever is accepted lent T places
    lent_long : (lent : List ℤ) → (read_file bytes lent).answer.refusal ≡ 0 → length lent ≡ total s
    lent_long lent e = (accepted_file bytes (length lent) (sym (read_refusal_lem bytes lent) ∙ e)).places_are ∙ ap total settings_are

    -- what it shows, to whoever lends buffers of right lengths
    module _ (levels : List ℤ) (picture : List ℕ) (work : List ℤ) (long : length levels ≡ total s) (pixels : length picture ≡ s.rows * s.columns) (room : total s ≤ length work) where
      rebuilds : (rebuilding s m picture work).answer ≡ 0
      rebuilds = rebuilding_accepts s h.manner h.picture h.levels h.work h.coded picture work pixels room

      one : ShownWithin first within bytes levels picture work
      one = record {
        read = ap (λ (r : ReadOutcome). r.answer) (read_is levels long) ∙ sym checked;
        rebuilt = rw (checked, read_is levels long) rebuilds;
        moved = λ p. rw (checked, read_is levels long)
            (nearer _ (get_or h.picture p 0) (get_or first p 0) (h.near p) (rebuilt_near s h.manner h.picture h.levels h.work picture work h.coded rebuilds p));
      }

    shows : Shows first note within bytes
    shows = record {
      accepted = ap (λ (b : BaleAnswer). b.refusal) checked;
      readings = ap (λ (b : BaleAnswer). b.note) checked;
      shown = λ levels picture work long pixels room. one levels picture work (long ∙ ap (λ (b : BaleAnswer). total b.settings) checked)
          (pixels ∙ ap (λ (b : BaleAnswer). b.settings.rows * b.settings.columns) checked) (subst (λ (b : BaleAnswer). total b.settings ≤ length work) checked room);
    }

    -- an accepted copy: what was shown was coded and written
    module _ (c : Copy) (e₁ : (source bytes c).answer.refusal ≡ 0) (e₂ : (shown bytes c).answer ≡ 0) (e₃ : (recoded bytes c).answer ≡ 0) (e₄ : (rewritten bytes c).answer.refusal ≡ 0) where
      found : source bytes c ≡ whole
      found = read_is c.read (lent_long c.read e₁)

      back : (P : ReadOutcome → Type 0) → P whole → P (source bytes c)
      back P = subst P (sym found)

      rebuilt_ok : (rebuilding s m c.picture c.work).answer ≡ 0
      rebuilt_ok = subst (λ (r : ReadOutcome). (rebuilding r.answer.settings r.levels c.picture c.work).answer ≡ 0) found e₂

      accepted_copy : Holds (within + bound_at c.settings c.manner 0) (written_bytes (rewritten bytes c))
      accepted_copy = record {
        settings = c.settings;
        manner = c.manner;
        picture = (shown bytes c).picture;
        levels = c.levels;
        work = c.coding_work;
        seven = c.seven;
        coded = e₃;
        is = written_bytes_lem c.settings (source bytes c).answer.note (recoded bytes c).levels c.file e₄
            ∙ ap (λ (r : ReadOutcome). file_of c.settings r.answer.note (recoded bytes c).levels) found;
        near = λ p. farther (bound_at c.settings c.manner 0)
            (back (λ r. distance (get_or (rebuilding r.answer.settings r.levels c.picture c.work).picture p 0) (get_or first p 0) ≤ within)
            (nearer _ (get_or h.picture p 0) (get_or first p 0) (h.near p) (rebuilt_near s h.manner h.picture h.levels h.work c.picture c.work h.coded rebuilt_ok p)));
      }

    step : (c : Copy) → Holds (within + copy_bound bytes c) (copied bytes c)
    unfolding copy_refusal copied copy_bound
    step c = go (ℕ_discrete (copy_refusal bytes c) 0)
      where
        go : Dec (copy_refusal bytes c ≡ 0) → Holds (within + copy_bound bytes c) (copied bytes c)
        go (yes e) =
            let (e₁, r₁) = first_none _ _ e in
            let (e₂, r₂) = first_none _ _ r₁ in
            let (e₃, r₃) = first_none _ _ r₂ in
            rw (leaves_new _ (written_bytes (rewritten bytes c)) bytes e, leaves_new _ (bound_at c.settings c.manner 0) 0 e) (accepted_copy c e₁ e₂ e₃ (first_none _ _ r₃).0)
        go (no refused) =
            rw (leaves_kept _ (written_bytes (rewritten bytes c)) bytes refused, leaves_kept _ (bound_at c.settings c.manner 0) 0 refused, add-zero within) h

  module _ {within : ℕ} {bytes : List ℕ} (h : Holds within bytes) (c : Copy) where
    copy_refused : copy_refusal bytes c ≢ 0 → (copied bytes c ≡ bytes) × (copy_bound bytes c ≡ 0)
    unfolding copied copy_bound
    copy_refused refused = (leaves_kept _ _ _ refused, leaves_kept _ _ _ refused)

    copy_accepted : copy_refusal bytes c ≡ 0 → ((check_file (copied bytes c)).settings ≡ c.settings) × (copy_bound bytes c ≡ bound_at c.settings c.manner 0)
    unfolding copy_refusal copied copy_bound accepted_copy
    copy_accepted e =
        let (e₁, r₁) = first_none _ _ e in
        let (e₂, r₂) = first_none _ _ r₁ in
        let (e₃, r₃) = first_none _ _ r₂ in (
          ap (λ (b : List ℕ). (check_file b).settings) (leaves_new _ _ _ e) ∙ ap (λ (b : BaleAnswer). b.settings) (checked (accepted_copy h c e₁ e₂ e₃ (first_none _ _ r₃).0)),
          leaves_new _ _ _ e,
        )

    -- the four calls, one after the other
    module _ (suits : Suits h.settings c) where
      taken : source bytes c ≡ whole h
      taken = read_is h c.read suits.read

      shows_it : (rebuilding h.settings (m h) c.picture c.work).answer ≡ 0
      shows_it = rebuilds h c.read c.picture c.work suits.read suits.picture suits.work

      shown_ok : (shown bytes c).answer ≡ 0
      shown_ok = subst (λ (r : ReadOutcome). (rebuilding r.answer.settings r.levels c.picture c.work).answer ≡ 0) (sym taken) shows_it

      shown_long : length (shown bytes c).picture ≡ c.settings.rows * c.settings.columns
      shown_long =
          subst (λ (r : ReadOutcome). length (rebuilding r.answer.settings r.levels c.picture c.work).picture ≡ length h.picture) (sym taken)
          (rebuilt-size h.settings h.manner h.picture h.levels h.work c.picture c.work h.coded shows_it)
          ∙ coded-pixels h.settings h.manner h.picture h.levels h.work h.coded ∙ suits.pixels

      -- every pixel that is shown lies between the old black and white, and so between the copy's
      shown_inside : T (pixels_ok c.settings (shown bytes c).picture)
      shown_inside =
          pixels_inside (source bytes c).answer.settings c.settings (shown bytes c).picture
          (shown_pixels (source bytes c).answer.settings (source bytes c).levels c.picture c.work shown_ok)
          (subst (λ (r : ReadOutcome). c.settings.black ≤ r.answer.settings.black) (sym taken) suits.black)
          (subst (λ (r : ReadOutcome). r.answer.settings.white ≤ c.settings.white) (sym taken) suits.white)

      recoded_ok : (recoded bytes c).answer ≡ 0
      recoded_ok =
          coding_accepts c.settings c.manner (shown bytes c).picture c.levels c.coding_work suits.lawful
          (record { picture_is = shown_long; levels_is = suits.levels; work_least = suits.coding_work }) shown_inside

      rewritten_ok : (rewritten bytes c).answer.refusal ≡ 0
      rewritten_ok =
          writing_refusal c.settings (source bytes c).answer.note (recoded bytes c).levels c.file
          ∙ coded_then_written c.settings (source bytes c).answer.note c.manner (shown bytes c).picture c.levels c.coding_work (length c.file) recoded_ok
          (subst (λ (r : ReadOutcome). T (note_ok r.answer.note)) (sym taken) noted) suits.file

      copy_made : copy_refusal bytes c ≡ 0
      unfolding copy_refusal
      copy_made =
          first_pass _ (ap (λ (r : ReadOutcome). r.answer.refusal) taken) (first_pass _ shown_ok (first_pass _ recoded_ok (first_pass _ rewritten_ok first_nil)))

    made : CopyMade bytes c
    made = record {
      refused = copy_refused;
      accepted = copy_accepted;
      made = λ suits. copy_made (subst (λ (b : BaleAnswer). Suits b.settings c) (checked h) suits);
    }

  after : (copies : List Copy) {within : ℕ} {bytes : List ℕ} → Holds within bytes → Holds (within + copies_sum bytes copies) (file_after bytes copies)
  unfolding file_after copies_sum
  after [] {within} {bytes} h = subst (λ (n : ℕ). Holds n bytes) (sym (add-zero within)) h
  after (c ∷ later) {within} {bytes} h =
      let e : within + copy_bound bytes c + copies_sum (copied bytes c) later ≡ within + (copy_bound bytes c + copies_sum (copied bytes c) later) = omega arith in
      subst (λ (n : ℕ). Holds n (file_after (copied bytes c) later)) e (after later (step h c))

-- the first file, which holds the first picture
module _ (f : Filing) (ok : filing_refusal f ≡ 0) where
  firstly : ((first_coded f).answer ≡ 0) × ((first_written f).answer.refusal ≡ 0)
  unfolding filing_refusal
  firstly = let (coded, r) = first_none _ _ ok in (coded, (first_none _ _ r).0)

  lawful_note : T (note_ok f.note)
  lawful_note = (written_accepted f.settings f.note (first_coded f).levels f.file firstly.1).noted

  first_holds : Holds f.picture f.note lawful_note f.drier f.press (bound_at f.settings f.manner 0) (written_bytes (first_written f))
  first_holds = record {
    settings = f.settings;
    manner = f.manner;
    picture = f.picture;
    levels = f.levels;
    work = f.work;
    seven = f.seven;
    coded = firstly.0;
    is = written_bytes_lem f.settings f.note (first_coded f).levels f.file firstly.1;
    near = λ p. omega arith;
  }

pub archive : Archive
archive f copies ok =
    shows f.picture f.note (lawful_note f ok) f.drier f.press (after f.picture f.note (lawful_note f ok) f.drier f.press copies (first_holds f ok))

pub copies_made : CopiesMade
copies_made f copies c ok =
    made f.picture f.note (lawful_note f ok) f.drier f.press (after f.picture f.note (lawful_note f ok) f.drier f.press copies (first_holds f ok)) c

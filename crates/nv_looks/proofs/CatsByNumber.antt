-- What writing a file that its inode's number names tells, by what was written.
use Rattle.std.proofs.Common.{◌≡◌, ◌≢◌, ◌∙◌, inl, inr, ℕ, List, length, Option, None, refl, sym, ap}
use Rattle.std.specs.Prelude.{Result, Ok, Err, IfOk, IfErr, OnOk}
use Rattle.nv_region.specs.Region.{region_of}
use Rattle.nv_region.specs.ImageState.{ImageState}
use Rattle.nv_text.specs.Answers.{refused_line}
use Rattle.nv_calls.specs.Mount.{Mount}
use Rattle.nv_calls.specs.ByNumber.{read_inode_tests}
use Rattle.nv_paths.specs.Seen.{tree_of}
use Rattle.nv_session.specs.Machine.{TellsRefusal}
use Rattle.nv_session.proofs.Told.{refusal_told}
use Rattle.nv_stream.specs.Streams.{AppendsFront}
use Rattle.nv_stream.specs.declared.fault.ScriptError.{ScriptError}
use Rattle.nv_stream.specs.declared.fault.ScriptError.TheVariants.{Read, Write, Memory}
use Rattle.nv_tree.specs.Tree.{Tree}
use Rattle.nv_tree.specs.Refusals.{IsReadRefusedBy, first_refusal, refusal_word}
use Rattle.nv_tree.specs.declared.refusal.Refusal.{Refusal}
use Rattle.nv_tree.specs.declared.refusal.Refusal.TheVariants as refusals
use Rattle.std.proofs.KnownBytes.{Keeps-refl}
use Rattle.nv_looks.specs.Sent.{Written, written, SendsFront}
use Rattle.nv_looks.specs.Looking.{IsOpened, WritesLook, WritesLookFront, FailsCat, WritesRefusal, FailsRefusal, call_status}
use Rattle.nv_looks.specs.LookingByNumber.{GivesInodeBytes, TellsInodeFile, WritesInode, FailsInode, WritesInodeCall, FailsInodeCall}
use Rattle.nv_image_check.specs.declared.answered.Answered.{Answered}
use Rattle.nv_looks.specs.declared.looking.Opened.TheVariants as opened
use Rattle.nv_looks.proofs.Looks.{mounted_look}
use Rattle.nv_looks.proofs.Cats.{no_zero}

module _ (t : Tree) (i : ℕ) (old new other : Option (List ℕ)) where
  -- ---- a call that isn't refused writes the file

  module _ (allowed : first_refusal (read_inode_tests t i) ≡ None) where
    -- the errors stay as they were
    abbrev before : Written
    before = written old other

    abbrev after : Written
    after = written new other

    sends : (text : List ℕ) → AppendsFront old new text → SendsFront (call_status (first_refusal (read_inode_tests t i))) before after text
    sends text added = inl (ap call_status allowed, added, Keeps-refl other)

    file_failed : (e : ScriptError) → FailsInode t i e old new → FailsInodeCall t i e before after
    file_failed Read f = f
    file_failed Write f = (f.0, inr (allowed, f.1), sends f.0 f.2)
    file_failed Memory (inl kept) = inl (kept, Keeps-refl other)
    file_failed Memory (inr f) = inr (f.0, inr (allowed, f.1), sends f.0 f.2)

    pub file_ok : (r : Result ℕ ScriptError) → OnOk r (WritesInode t i old new) → IfOk r (λ status. status ≡ 0)
        → IfOk r (λ status. WritesInodeCall t i before after status)
    file_ok (Ok status) w ends = (w.0, inr (allowed, w.1), ends ∙ ap call_status (sym allowed), inl (ends, w.2, Keeps-refl other))
    file_ok (Err e) w ends = tt

    pub file_err : (r : Result ℕ ScriptError) → IfErr r (λ e. FailsInode t i e old new) → IfErr r (λ e. FailsInodeCall t i e before after)
    file_err (Ok status) fails = tt
    file_err (Err e) fails = file_failed e fails

  -- ---- a call that is refused says so

  module _ (refusal : Refusal) (first : IsReadRefusedBy (first_refusal (read_inode_tests t i)) refusal) where
    told : refusal ≢ refusals.Memory → TellsRefusal (read_inode_tests t i) (refused_line (refusal_word refusal))
    told other = refusal_told (read_inode_tests t i) refusal (refused_line (refusal_word refusal)) other first refl

    -- the output stays as it was
    abbrev unsaid : Written
    unsaid = written other old

    abbrev said_so : Written
    said_so = written other new

    pub refusal_ok : (r : Result ℕ ScriptError) → IfOk r (WritesRefusal refusal old new) → IfOk r (λ status. WritesInodeCall t i unsaid said_so status)
    refusal_ok (Ok status) said =
        let w = told said.0 in
        (refused_line (refusal_word refusal), inl w, said.1 ∙ ap call_status (sym w.1), inr (no_zero status said.1, Keeps-refl other, said.2))
    refusal_ok (Err e) said = tt

    pub refusal_err : (r : Result ℕ ScriptError) → IfErr r (λ e. FailsRefusal refusal e old new) → IfErr r (λ e. FailsInodeCall t i e unsaid said_so)
    refusal_err (Ok status) fails = tt
    refusal_err (Err Read) fails = fails
    refusal_err (Err Write) fails =
        let w = told fails.0 in
        (refused_line (refusal_word refusal), inl w, inr (no_zero (call_status (first_refusal (read_inode_tests t i))) (ap call_status w.1), Keeps-refl other, fails.1))
    refusal_err (Err Memory) fails = inl (Keeps-refl other, fails)

-- ---- of the region of some bytes

module _ (bytes : List ℕ) (i : ℕ) (m : Mount ImageState) (is : IsOpened (region_of bytes) (opened.Mounted m)) (old new : Written) where
  abbrev t : Tree
  t = tree_of m.memory.region m.rows

  pub cat_looks : (answered : Answered) → WritesInodeCall t i old new answered.status → answered.faults ≡ length m.faults
      → WritesLook (GivesInodeBytes i) bytes old new answered
  cat_looks answered w faults = (w.0, mounted_look (region_of bytes) m is (GivesInodeBytes i) w.0 answered (w.1, w.2) faults, w.3)

  front : (text : List ℕ) → TellsInodeFile t i text → SendsFront (call_status (first_refusal (read_inode_tests t i))) old new text
      → WritesLookFront (GivesInodeBytes i) bytes old new
  front text tells added =
      let answered : Answered = record { status = call_status (first_refusal (read_inode_tests t i)); faults = length m.faults } in
      (text, answered, mounted_look (region_of bytes) m is (GivesInodeBytes i) text answered (tells, refl) refl, added)

  pub cat_fails : (e : ScriptError) → FailsInodeCall t i e old new → FailsCat (GivesInodeBytes i) bytes e old new
  cat_fails Read f = f
  cat_fails Write f = front f.0 f.1 f.2
  cat_fails Memory (inl kept) = inl kept
  cat_fails Memory (inr f) = inr (front f.0 f.1 f.2)

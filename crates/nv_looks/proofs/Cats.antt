-- What writing a file tells, by what was written.
use Rattle.std.proofs.Common.{◌≡◌, ◌≢◌, ◌∙◌, inl, inr, ℕ, List, length, Option, Some, None, refl, sym, ap, arith}
use Rattle.std.specs.Prelude.{Result, Ok, Err, IfOk, IfErr, OnOk}
use Rattle.nv_region.specs.Region.{region_of}
use Rattle.nv_region.specs.ImageState.{ImageState}
use Rattle.nv_text.specs.Answers.{refused_line}
use Rattle.nv_calls.specs.Mount.{Mount}
use Rattle.nv_paths.specs.Seen.{tree_of}
use Rattle.nv_session.specs.Machine.{TellsRefusal}
use Rattle.nv_session.proofs.Told.{refusal_told}
use Rattle.nv_stream.specs.Streams.{AppendsFront}
use Rattle.nv_stream.specs.declared.fault.ScriptError.{ScriptError}
use Rattle.nv_stream.specs.declared.fault.ScriptError.TheVariants.{Read, Write, Memory}
use Rattle.nv_tree.specs.Path.{IsPath, Says}
use Rattle.nv_tree.specs.Tree.{Tree}
use Rattle.nv_tree.specs.Refusals.{IsReadRefusedBy, Path, first_refusal, refusal_word, read_tests}
use Rattle.nv_tree.specs.declared.refusal.Refusal.{Refusal}
use Rattle.nv_tree.specs.declared.refusal.Refusal.TheVariants as refusals
use Rattle.nv_tree.proofs.Texts.{text_says}
use Rattle.std.proofs.KnownBytes.{Keeps-refl}
use Rattle.nv_looks.specs.Sent.{Written, written, SendsFront}
use Rattle.nv_looks.specs.Looking.{GivesBytes, IsWholeFile, TellsFile, IsOpened, WritesLook, WritesLookFront, FailsCat, WritesFile, FailsFile, WritesCall, FailsCall, WritesRefusal, FailsRefusal, call_status}
use Rattle.nv_image_check.specs.declared.answered.Answered.{Answered}
use Rattle.nv_looks.specs.declared.looking.Opened.TheVariants as opened
use Rattle.nv_looks.proofs.Looks.{mounted_look}

-- a refusal's status isn't 0
pub no_zero : (status : ℕ) → status ≡ 2 → status ≢ 0
no_zero status two zero = absurd (let none : 2 ≡ 0 = sym two ∙ zero in omega arith)

module _ (t : Tree) (path : List ℕ) (p : Path) (says : Says path p) (old new other : Option (List ℕ)) where
  -- ---- a call that isn't refused writes the file

  tells : (names : List (List ℕ)) → p ≡ Some names → first_refusal (read_tests t p) ≡ None → (bytes : List ℕ) → IsWholeFile t names bytes → TellsFile t p bytes
  tells names is allowed bytes whole = inr (names, is, allowed, whole)

  module _ (allowed : first_refusal (read_tests t p) ≡ None) where
    -- the errors stay as they were
    abbrev before : Written
    before = written old other

    abbrev after : Written
    after = written new other

    pub file_called : (status : ℕ) → ((names : List (List ℕ)) → IsPath path names → WritesFile t names old new) → status ≡ 0 → WritesCall t p before after status
    file_called status writes ends = by p refl says where
      by : (q : Path) → p ≡ q → Says path q → WritesCall t p before after status
      by None is says = absurd (let bad : first_refusal (read_tests t None) ≡ None = rw is at allowed in cc)
      by (Some names) is says = let w = writes names says in (w.0, tells names is allowed w.0 w.1, ends ∙ ap call_status (sym allowed), inl (ends, w.2, Keeps-refl other))

    sends : (text : List ℕ) → AppendsFront old new text → SendsFront (call_status (first_refusal (read_tests t p))) before after text
    sends text added = inl (ap call_status allowed, added, Keeps-refl other)

    pub file_failed : (e : ScriptError) → ((names : List (List ℕ)) → IsPath path names → FailsFile t names e old new) → FailsCall t p e before after
    file_failed e fails = by p refl says where
      with_names : (names : List (List ℕ)) → p ≡ Some names → (e : ScriptError) → FailsFile t names e old new → FailsCall t p e before after
      with_names names is Read f = f
      with_names names is Write f = (f.0, tells names is allowed f.0 f.1, sends f.0 f.2)
      with_names names is Memory (inl kept) = inl (kept, Keeps-refl other)
      with_names names is Memory (inr f) = inr (f.0, tells names is allowed f.0 f.1, sends f.0 f.2)

      by : (q : Path) → p ≡ q → Says path q → FailsCall t p e before after
      by None is says = absurd (let bad : first_refusal (read_tests t None) ≡ None = rw is at allowed in cc)
      by (Some names) is says = with_names names is e (fails names says)

    pub file_ok : (r : Result ℕ ScriptError) → ((names : List (List ℕ)) → IsPath path names → OnOk r (WritesFile t names old new)) → IfOk r (λ status. status ≡ 0) → IfOk r (λ status. WritesCall t p before after status)
    file_ok (Ok status) writes ends = file_called status writes ends
    file_ok (Err e) writes ends = tt

    pub file_err : (r : Result ℕ ScriptError) → ((names : List (List ℕ)) → IsPath path names → IfErr r (λ e. FailsFile t names e old new)) → IfErr r (λ e. FailsCall t p e before after)
    file_err (Ok status) fails = tt
    file_err (Err e) fails = file_failed e fails

  -- ---- a call that is refused says so

  module _ (refusal : Refusal) (first : IsReadRefusedBy (first_refusal (read_tests t p)) refusal) where
    told : refusal ≢ refusals.Memory → TellsRefusal (read_tests t p) (refused_line (refusal_word refusal))
    told other = refusal_told (read_tests t p) refusal (refused_line (refusal_word refusal)) other first refl

    -- the output stays as it was
    abbrev unsaid : Written
    unsaid = written other old

    abbrev said_so : Written
    said_so = written other new

    pub refusal_ok : (r : Result ℕ ScriptError) → IfOk r (WritesRefusal refusal old new) → IfOk r (λ status. WritesCall t p unsaid said_so status)
    refusal_ok (Ok status) said =
        let w = told said.0 in
        (refused_line (refusal_word refusal), inl w, said.1 ∙ ap call_status (sym w.1), inr (no_zero status said.1, Keeps-refl other, said.2))
    refusal_ok (Err e) said = tt

    pub refusal_err : (r : Result ℕ ScriptError) → IfErr r (λ e. FailsRefusal refusal e old new) → IfErr r (λ e. FailsCall t p e unsaid said_so)
    refusal_err (Ok status) fails = tt
    refusal_err (Err Read) fails = fails
    refusal_err (Err Write) fails =
        let w = told fails.0 in
        (refused_line (refusal_word refusal), inl w, inr (no_zero (call_status (first_refusal (read_tests t p))) (ap call_status w.1), Keeps-refl other, fails.1))
    refusal_err (Err Memory) fails = inl (Keeps-refl other, fails)

-- ---- of the region of some bytes

module _ (bytes path : List ℕ) (m : Mount ImageState) (is : IsOpened (region_of bytes) (opened.Mounted m)) (old new : Written) where
  abbrev t : Tree
  t = tree_of m.memory.region m.rows

  pub cat_looks : (answered : Answered) → ((p : Path) → Says path p → WritesCall t p old new answered.status) → answered.faults ≡ length m.faults → WritesLook (GivesBytes path) bytes old new answered
  cat_looks answered writes faults =
      let p = text_says path in
      let w = writes p.0 p.1 in
      (w.0, mounted_look (region_of bytes) m is (GivesBytes path) w.0 answered (p.0, p.1, w.1, w.2) faults, w.3)

  front : (p : Path) → Says path p → (text : List ℕ) → TellsFile t p text → SendsFront (call_status (first_refusal (read_tests t p))) old new text → WritesLookFront (GivesBytes path) bytes old new
  front p says text tells added =
      let answered : Answered = record { status = call_status (first_refusal (read_tests t p)); faults = length m.faults } in
      (text, answered, mounted_look (region_of bytes) m is (GivesBytes path) text answered (p, says, tells, refl) refl, added)

  fails : (p : Path) → Says path p → (e : ScriptError) → FailsCall t p e old new → FailsCat (GivesBytes path) bytes e old new
  fails p says Read f = f
  fails p says Write f = front p says f.0 f.1 f.2
  fails p says Memory (inl kept) = inl kept
  fails p says Memory (inr f) = inr (front p says f.0 f.1 f.2)

  pub cat_fails : (e : ScriptError) → ((p : Path) → Says path p → FailsCall t p e old new) → FailsCat (GivesBytes path) bytes e old new
  cat_fails e f = let p = text_says path in fails p.0 p.1 e (f p.0 p.1)

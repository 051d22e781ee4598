-- What writing an archive tells, by what was written.
use Rattle.std.proofs.Common.{◌≡◌, ◌∙◌, inl, inr, ℕ, Bool, List, length, Option, Some, None, refl, sym, ap, subst}
use Rattle.std.specs.Prelude.{Result, Ok, Err, IfOk, IfErr, OnOk, codes}
use Rattle.std.proofs.KnownBytes.{Keeps-refl}
use Rattle.nv_region.specs.Region.{Region, region_of}
use Rattle.nv_journal.specs.Undo.{undone}
use Rattle.nv_outcome.specs.Outcome.{Outcome, IsOutcome}
use Rattle.nv_metadata.specs.Memory.{MetadataState}
use Rattle.nv_metadata.specs.Gathered.{AreGathered}
use Rattle.nv_metadata.specs.declared.gathering.Gathered.{Gathered}
use Rattle.nv_scan.specs.declared.piece.Row.{Row}
use Rattle.nv_text.specs.Answers.{refused_line}
use Rattle.nv_calls.specs.Mount.{Mount}
use Rattle.nv_calls.specs.ByNumber.{stat_inode_tests}
use Rattle.nv_paths.specs.Seen.{tree_of}
use Rattle.nv_stream.specs.declared.fault.ScriptError.{ScriptError}
use Rattle.nv_stream.specs.declared.fault.ScriptError.TheVariants as errors
use Rattle.nv_tree.specs.Path.{IsPath, Says}
use Rattle.nv_tree.specs.Tree.{Tree}
use Rattle.nv_tree.specs.Refusals.{Path, Tests, first_refusal, refusal_word, stat_tests}
use Rattle.nv_tree.specs.declared.refusal.Refusal.{Refusal}
use Rattle.nv_tree.specs.declared.refusal.Refusal.TheVariants.{BadName}
use Rattle.nv_tree.proofs.Texts.{text_says}
use Rattle.nv_tar.specs.Archive.{IsArchive}
use Rattle.nv_tar.specs.declared.errors.TarError.{TarError}
use Rattle.nv_tar.specs.declared.errors.TarError.TheVariants as tars
use Rattle.nv_image_check.specs.declared.answered.Answered.{Answered}
use Rattle.nv_image_check.specs.declared.gathered.BlocksError.{BlocksError}
use Rattle.nv_image_check.specs.declared.gathered.BlocksError.TheVariants.{Read, Answer}
use Rattle.nv_archive.specs.Chosen.{AreTests, IsBase, IsChosen, IsFoundBy, IsNamedBy}
use Rattle.nv_archive.specs.Shown.{AreKnown, shown_tree}
use Rattle.nv_archive.specs.Archiving.{FailsArchiveOf, WritesArchiveOf, WritesFrontOf}
use Rattle.nv_archive.specs.declared.chosen.Chosen.{Chosen as ChosenValue}
use Rattle.nv_archive.specs.declared.chosen.Chosen.TheVariants.{Path as ByPath, Number as ByNumber}
use Rattle.nv_looks.specs.Sent.{Written, written}
use Rattle.nv_looks.specs.Looking.{Call, IsLook, WritesLook, WritesLookFront, WritesRefusal, FailsRefusal, call_status}
use Rattle.nv_looks.specs.Gathered.{IsOpenedOf, FailsBlocksCat, is_whole}
use Rattle.nv_looks.specs.Catting.{AreReadFrom, AreShownAs}
use Rattle.nv_looks.specs.Archiving.{FailsTold, GivesArchive, WritesTold, WritesToldFront, archive_status}
use Rattle.nv_looks.specs.declared.gathered.OpenedMetadata.TheVariants as opened
use Rattle.nv_looks.proofs.Cats.{no_zero}
use Rattle.nv_looks.proofs.ReadFrom.{read_from}
use Rattle.nv_looks.proofs.ShownRows.{tree_same}

-- ---- what is chosen

named_of : (t : Tree) (path : List ℕ) (p : Path) → Says path p → first_refusal (stat_tests t p) ≡ None → (names : List (List ℕ)) × IsPath path names
named_of t path None says none = absurd (let bad : Some BadName ≡ None = none in cc)
named_of t path (Some names) says none = (names, says)

module _ (t : Tree) where
  -- it has tests
  pub tests_of : (chosen : ChosenValue) → (tests : Tests) × AreTests t chosen tests
  tests_of (ByPath path) = let p = text_says path.now in (stat_tests t p.0, (p.0, p.1, refl))
  tests_of (ByNumber i) = (stat_inode_tests t i, refl)

  pub is_chosen : (chosen : ChosenValue) (tests : Tests) → AreTests t chosen tests → first_refusal tests ≡ None → (i : ℕ) (base : List ℕ) → IsFoundBy t chosen i → IsBase chosen base → IsChosen t chosen i base
  is_chosen (ByPath path) tests are none i base found is =
      let n = named_of t path.now are.0 are.1 (ap first_refusal (sym are.2) ∙ none) in
      (n.0, n.1, found n.0 n.1, is n.0 n.1)
  is_chosen (ByNumber number) tests are none i base found is = (found.0, found.1, is)

  pub is_named : (chosen : ChosenValue) (tests : Tests) → AreTests t chosen tests → first_refusal tests ≡ None → (i : ℕ) → IsFoundBy t chosen i → IsNamedBy chosen i
  is_named (ByPath path) tests are none i found = named_of t path.now are.0 are.1 (ap first_refusal (sym are.2) ∙ none)
  is_named (ByNumber number) tests are none i found = found.0

-- ---- an archive

module _ (t : Tree) (chosen : ChosenValue) (all : Bool) (i : ℕ) (found : IsFoundBy t chosen i) (allowed : (tests : Tests) → AreTests t chosen tests → first_refusal tests ≡ None) (old new other : Option (List ℕ)) where
  gives : (base text : List ℕ) → IsBase chosen base → IsArchive t i base (codes "lost+found") all text → GivesArchive chosen all t text 0
  gives base text is archive =
      let tests = tests_of t chosen in
      let none = allowed tests.0 tests.1 in
      (tests.0, tests.1, sym (ap call_status none), inr (none, (i, base, is_chosen t chosen tests.0 tests.1 none i base found is, archive)))

  archive_of : (r : Result (Unit {0}) TarError) → OnOk r (WritesArchiveOf t chosen i all old new) → IfOk (archive_status r) (λ status. WritesTold (GivesArchive chosen all) t (written old other) (written new other) status)
  archive_of (Ok done) w = let (base, is, (text, archive, adds)) = w in (text, gives base text is archive, inl (refl, adds, Keeps-refl other))
  archive_of (Err (tars.Read e)) w = tt
  archive_of (Err (tars.Answer e)) w = tt

  pub archive_ok : (r : Result (Unit {0}) TarError) (s : Result ℕ BlocksError) → s ≡ archive_status r → OnOk r (WritesArchiveOf t chosen i all old new) → IfOk s (λ status. WritesTold (GivesArchive chosen all) t (written old other) (written new other) status)
  archive_ok r s is w = subst (λ (x : Result ℕ BlocksError). IfOk x (λ status. WritesTold (GivesArchive chosen all) t (written old other) (written new other) status)) (sym is) (archive_of r w)

  front : WritesFrontOf t chosen i all old new → WritesToldFront (GivesArchive chosen all) t (written old other) (written new other)
  front f = let (base, is, (text, archive, adds)) = f in (text, 0, gives base text is archive, inl (refl, adds, Keeps-refl other))

  failed_of : (r : Result (Unit {0}) TarError) → IfErr r (λ e. FailsArchiveOf t chosen i all e old new) → IfErr (archive_status r) (λ e. FailsTold (GivesArchive chosen all) t e (written old other) (written new other))
  failed_of (Ok done) f = tt
  failed_of (Err (tars.Read e)) f = f
  failed_of (Err (tars.Answer errors.Read)) f = f
  failed_of (Err (tars.Answer errors.Write)) f = front f
  failed_of (Err (tars.Answer errors.Memory)) (inl kept) = inl (kept, Keeps-refl other)
  failed_of (Err (tars.Answer errors.Memory)) (inr f) = inr (front f)

  pub archive_err : (r : Result (Unit {0}) TarError) (s : Result ℕ BlocksError) → s ≡ archive_status r → IfErr r (λ e. FailsArchiveOf t chosen i all e old new) → IfErr s (λ e. FailsTold (GivesArchive chosen all) t e (written old other) (written new other))
  archive_err r s is f = subst (λ (x : Result ℕ BlocksError). IfErr x (λ e. FailsTold (GivesArchive chosen all) t e (written old other) (written new other))) (sym is) (failed_of r f)

-- ---- a refusal

module _ (t : Tree) (chosen : ChosenValue) (all : Bool) (refusal : Refusal) (first : (tests : Tests) → AreTests t chosen tests → first_refusal tests ≡ Some refusal) (old new other : Option (List ℕ)) where
  told : (status : ℕ) → status ≡ 2 → GivesArchive chosen all t (refused_line (refusal_word refusal)) status
  told status two =
      let tests = tests_of t chosen in
      let is = first tests.0 tests.1 in
      (tests.0, tests.1, two ∙ sym (ap call_status is), inl (refusal, is, refl))

  pub refused_ok : (r : Result ℕ ScriptError) → IfOk r (WritesRefusal refusal old new) → IfOk r (λ status. WritesTold (GivesArchive chosen all) t (written other old) (written other new) status)
  refused_ok (Ok status) said = (refused_line (refusal_word refusal), told status said.1, inr (no_zero status said.1, Keeps-refl other, said.2))
  refused_ok (Err e) said = tt

  pub refused_err : (e : ScriptError) → FailsRefusal refusal e old new → FailsTold (GivesArchive chosen all) t (Answer e) (written other old) (written other new)
  refused_err errors.Read f = f
  refused_err errors.Write f = (refused_line (refusal_word refusal), 2, told 2 refl, inr (no_zero 2 refl, Keeps-refl other, f.1))
  refused_err errors.Memory f = inl (Keeps-refl other, f)

-- ---- of the region of some bytes

module _ (Tells : Call) (bytes : List ℕ) (g : Gathered) (are : AreGathered (region_of bytes) g) (m : Mount MetadataState) (is : IsOpenedOf g (opened.Mounted m)) (old new : Written) where
  abbrev R : Region
  R = region_of bytes

  shows : (o : Outcome) × IsOutcome R o × (m.rows ≡ o.rows) × (m.faults ≡ o.faults) × AreReadFrom (is_whole g) (Some bytes) m.memory (undone o.sup R) m.rows
  shows = read_from bytes g are m is

  abbrev U : Region
  U = undone shows.0.sup R

  reads : AreReadFrom (is_whole g) (Some bytes) m.memory U m.rows
  reads = shows.4

  looks : (text : List ℕ) (answered : Answered) → Tells (tree_of U m.rows) text answered.status → answered.faults ≡ length m.faults → IsLook Tells R text answered
  looks text answered tells faults = inr (
    shows.0,
    shows.1,
    subst (λ (rows : List Row). Tells (tree_of U rows) text answered.status) shows.2 tells,
    faults ∙ ap length shows.3,
  )

  pub told_opened : (answered : Answered) → ((Q : Region) → AreReadFrom (is_whole g) (Some bytes) m.memory Q m.rows → WritesTold Tells (tree_of Q m.rows) old new answered.status) → answered.faults ≡ length m.faults → WritesLook Tells bytes old new answered
  told_opened answered w faults =
      let (text, tells, sends) = w U reads in
      (text, looks text answered tells faults, sends)

  front_opened : WritesToldFront Tells (tree_of U m.rows) old new → WritesLookFront Tells bytes old new
  front_opened f =
      let (text, status, tells, sends) = f in
      let answered : Answered = record { status = status; faults = length m.faults } in
      (text, answered, looks text answered tells refl, sends)

  fails : (e : BlocksError) → FailsTold Tells (tree_of U m.rows) e old new → FailsBlocksCat Tells bytes e old new
  fails (Read e) f = f
  fails (Answer errors.Read) f = f
  fails (Answer errors.Write) f = front_opened f
  fails (Answer errors.Memory) (inl kept) = inl kept
  fails (Answer errors.Memory) (inr f) = inr (front_opened f)

  pub fails_opened : (e : BlocksError) → ((Q : Region) → AreReadFrom (is_whole g) (Some bytes) m.memory Q m.rows → FailsTold Tells (tree_of Q m.rows) e old new) → FailsBlocksCat Tells bytes e old new
  fails_opened e f = fails e (f U reads)

-- ---- of bytes that are read

-- what is so of the tree of rows over bytes that are known is so of it over a region that has them
pub told_by : (known : Option (List ℕ)) (image : List ℕ) (R : Region) (rows : List Row) → known ≡ Some image → AreShownAs R (region_of image) rows → (P : Tree → Type 0) → (AreKnown known rows → P (shown_tree known rows)) → P (tree_of R rows)
told_by known image R rows is shown P h = subst P (sym (tree_same R (region_of image) rows shown)) (subst (λ (k : Option (List ℕ)). AreKnown k rows → P (shown_tree k rows)) is h shown.inside)

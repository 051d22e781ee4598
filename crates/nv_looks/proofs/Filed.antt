-- Files of rows whose bytes are read from their blocks.
use Rattle.std.proofs.Common.{◌≡◌, ◌∙◌, ◌+◌, ◌-◌, ◌*◌, ◌/◌, ◌%◌, ◌^◌, ◌<◌, ◌≤◌, ℕ, inl, inr, false, min, map, List, length, Option, Some, None, Result, Ok, Err, refl, sym, ap, subst, arith}
use Rattle.std.specs.Prelude.{IfOk, IfErr, OnOk}
use Rattle.std.specs.List.{Contains, range_with_len}
use Rattle.nv_region.specs.Region.{Region, region_of}
use Rattle.nv_journal.specs.Undo.{undone}
use Rattle.nv_outcome.specs.Outcome.{Outcome, IsOutcome}
use Rattle.nv_outcome.proofs.SuperOf.{layout_of_super}
use Rattle.nv_metadata.specs.Memory.{MetadataState}
use Rattle.nv_metadata.specs.Gathered.{AreGathered}
use Rattle.nv_metadata.specs.declared.gathering.Gathered.{Gathered}
use Rattle.nv_metadata.specs.declared.gathering.Gathered.TheVariants as gatherings
use Rattle.nv_radix.specs.Pages.{block_at}
use Rattle.nv_rows.specs.Rows.{row_of}
use Rattle.nv_mounted.specs.Bytes.{byte_in}
use Rattle.nv_mounted.specs.Mounted.{outcome_layout}
use Rattle.nv_bytes.specs.Bytes.{file_byte}
use Rattle.nv_scan.specs.declared.piece.Row.{Row}
use Rattle.nv_tree.specs.Path.{IsPath, Says}
use Rattle.nv_tree.specs.Tree.{Tree}
use Rattle.nv_tree.specs.Refusals.{Path, first_refusal, read_tests}
use Rattle.nv_tree.specs.Calls.{bytes_read}
use Rattle.nv_tree.proofs.Texts.{text_says}
use Rattle.nv_stream.specs.declared.fault.ScriptError.TheVariants as errors
use Rattle.nv_image_check.specs.declared.gathered.BlocksError.{BlocksError}
use Rattle.nv_image_check.specs.declared.gathered.BlocksError.TheVariants.{Read, Answer}
use Rattle.nv_image_check.specs.declared.answered.Answered.{Answered}
use Rattle.nv_calls.specs.Mount.{Mount, has_faults}
use Rattle.nv_calls.proofs.FileBytes.{row_size}
use Rattle.nv_calls.proofs.Mounted.{kept_outcome}
use Rattle.nv_calls.proofs.RowChange.{row_there}
use Rattle.nv_calls.specs.Reading.{IsRead}
use Rattle.nv_paths.specs.Seen.{LeadsTo, node_of, tree_of}
use Rattle.nv_looks.specs.Sent.{Written, written, SendsFront}
use Rattle.nv_looks.specs.Looking.{GivesBytes, IsSized, TellsFile, IsLook, WritesLook, WritesLookFront, FailsCat, WritesFile, FailsFile, WritesCall, FailsCall, call_status}
use Rattle.nv_looks.specs.Gathered.{IsOpenedOf, FailsBlocksCat, is_whole}
use Rattle.nv_looks.specs.declared.gathered.OpenedMetadata.TheVariants as opened
use Rattle.nv_archive.specs.Shown.{AreSmallRows}
use Rattle.nv_looks.specs.Catting.{AreReadFrom, AreShownAs, IsFileOf, FailsBlocksFile, FailsBlocksCall}
use Rattle.nv_looks.proofs.Cats.{file_called, file_failed}
use Rattle.nv_looks.proofs.ReadFrom.{bounds, read_from}

-- ---- rows of an outcome

pub small_rows : (S : Region) (o : Outcome) → IsOutcome S o → AreSmallRows o.rows
small_rows S o is row c = record {
  size = row_size (undone o.sup S) o.sup (outcome_layout o) o.rows (record { sup = o.sup; pools = o.free; room = 0 }) o.faults (has_faults o.faults) false (kept_outcome S o is) refl row c;
  blocks = λ p b at. (let high = (bounds S o is row c p b at).1 in let most = (layout_of_super S o.sup is.sup).blocks_to in omega (arith, high, most));
}

-- the same of the rows that are mounted
pub opened_small : (g : Gathered) (m : Mount MetadataState) → IsOpenedOf g (opened.Mounted m) → AreSmallRows m.rows
opened_small (gatherings.Metadata s held) m is = subst AreSmallRows (sym is.3) (small_rows held.memory.region is.0 is.1)
opened_small (gatherings.Refused fault) m is = absurd is

-- ---- a row's file

module _ (R S : Region) (rows : List Row) (shown : AreShownAs R S rows) where
  pub file_of_row : (row : Row) → row_of rows row.inode ≡ Some row → (names : List (List ℕ)) → LeadsTo (tree_of R rows) names row.inode (node_of R row) → IsFileOf S row (tree_of R rows) names
  file_of_row row at names leads = record {
    inode = row.inode;
    node = node_of R row;
    leads = leads;
    size = refl;
    inside = shown.inside row there;
    bytes = λ x. by x (block_at row.index (x / 4096)) refl;
  }
    where
      there : Contains rows row
      there = row_there rows row.inode row at

      by : (x : ℕ) (o : Option ℕ) → block_at row.index (x / 4096) ≡ o → byte_in R o x ≡ byte_in S o x
      by x None is = refl
      by x (Some b) is = shown.same row (x / 4096) b x there is

module _ (S : Region) (row : Row) (t : Tree) (names : List (List ℕ)) (file : IsFileOf S row t names) where
  abbrev pub sized : IsSized t names row.numbers.size
  sized = record { inode = file.inode; node = file.node; leads = file.leads; is = sym file.size }

  pub read_of : (at count : ℕ) (piece : List ℕ) → at + count ≤ row.numbers.size → piece ≡ map (file_byte S row.index) (range_with_len at count) → IsRead t names at count piece
  read_of at count piece room is = record {
    inode = file.inode;
    node = file.node;
    leads = file.leads;
    is = is ∙ (λ i. map (λ x. sym (file.bytes x) i) (range_with_len at count)) ∙ ap (λ (n : ℕ). map file.node.bytes (range_with_len at n)) (let size = file.size in let few : count ≡ min count (file.node.size - at) = omega (arith, room, size) in few);
  }

-- ---- a call that isn't refused writes the file

module _ (t : Tree) (path : List ℕ) (p : Path) (says : Says path p) (old new other : Option (List ℕ)) (allowed : first_refusal (read_tests t p) ≡ None) where
  pub row_ok : (r : Result ℕ BlocksError) → ((names : List (List ℕ)) → IsPath path names → OnOk r (WritesFile t names old new)) → IfOk r (λ status. status ≡ 0) → IfOk r (λ status. WritesCall t p (written old other) (written new other) status)
  row_ok (Ok status) writes ends = file_called t path p says old new other allowed status writes ends
  row_ok (Err e) writes ends = tt

  names_of : (q : Path) → p ≡ q → Says path q → (names : List (List ℕ)) × IsPath path names
  names_of None is says = absurd (let bad : first_refusal (read_tests t None) ≡ None = rw is at allowed in cc)
  names_of (Some names) is says = (names, says)

  pub row_err : (r : Result ℕ BlocksError) → ((names : List (List ℕ)) → IsPath path names → IfErr r (λ e. FailsBlocksFile t names e old new)) → IfErr r (λ e. FailsBlocksCall t p e (written old other) (written new other))
  row_err (Ok status) fails = tt
  row_err (Err (Read e)) fails = let some = names_of p refl says in fails some.0 some.1
  row_err (Err (Answer e)) fails = file_failed t path p says old new other allowed e fails

-- ---- of the region of some bytes

module _ (bytes path : List ℕ) (g : Gathered) (are : AreGathered (region_of bytes) g) (m : Mount MetadataState) (is : IsOpenedOf g (opened.Mounted m)) (old new : Written) where
  abbrev R : Region
  R = region_of bytes

  shows : (o : Outcome) × IsOutcome R o × (m.rows ≡ o.rows) × (m.faults ≡ o.faults) × AreReadFrom (is_whole g) (Some bytes) m.memory (undone o.sup R) m.rows
  shows = read_from bytes g are m is

  abbrev U : Region
  U = undone shows.0.sup R

  reads : AreReadFrom (is_whole g) (Some bytes) m.memory U m.rows
  reads = shows.4

  looks : (text : List ℕ) (answered : Answered) (p : Path) → Says path p → TellsFile (tree_of U m.rows) p text → answered.status ≡ call_status (first_refusal (read_tests (tree_of U m.rows) p)) → answered.faults ≡ length m.faults
      → IsLook (GivesBytes path) R text answered
  looks text answered p says tells ends faults = inr (
    shows.0,
    shows.1,
    subst (λ (rows : List Row). GivesBytes path (tree_of U rows) text answered.status) shows.2 (p, says, tells, ends),
    faults ∙ ap length shows.3,
  )

  pub cat_opened : (answered : Answered) → ((Q : Region) → AreReadFrom (is_whole g) (Some bytes) m.memory Q m.rows → (p : Path) → Says path p → WritesCall (tree_of Q m.rows) p old new answered.status) → answered.faults ≡ length m.faults → WritesLook (GivesBytes path) bytes old new answered
  cat_opened answered writes faults =
      let p = text_says path in
      let w = writes U reads p.0 p.1 in
      (w.0, looks w.0 answered p.0 p.1 w.1 w.2 faults, w.3)

  front : (p : Path) → Says path p → (text : List ℕ) → TellsFile (tree_of U m.rows) p text → SendsFront (call_status (first_refusal (read_tests (tree_of U m.rows) p))) old new text → WritesLookFront (GivesBytes path) bytes old new
  front p says text tells added =
      let answered : Answered = record { status = call_status (first_refusal (read_tests (tree_of U m.rows) p)); faults = length m.faults } in
      (text, answered, looks text answered p says tells refl refl, added)

  fails : (p : Path) → Says path p → (e : BlocksError) → FailsBlocksCall (tree_of U m.rows) p e old new → FailsBlocksCat (GivesBytes path) bytes e old new
  fails p says (Read e) f = f
  fails p says (Answer errors.Read) f = f
  fails p says (Answer errors.Write) f = front p says f.0 f.1 f.2
  fails p says (Answer errors.Memory) (inl kept) = inl kept
  fails p says (Answer errors.Memory) (inr f) = inr (front p says f.0 f.1 f.2)

  pub cat_opened_fails : (e : BlocksError) → ((Q : Region) → AreReadFrom (is_whole g) (Some bytes) m.memory Q m.rows → (p : Path) → Says path p → FailsBlocksCall (tree_of Q m.rows) p e old new) → FailsBlocksCat (GivesBytes path) bytes e old new
  cat_opened_fails e f = let p = text_says path in fails p.0 p.1 e (f U reads p.0 p.1)

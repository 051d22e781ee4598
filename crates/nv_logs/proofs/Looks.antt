-- What a look at a log tells, by what was recovered.
use Rattle.std.proofs.Common.{◌≡◌, ◌∙◌, ℕ, inl, inr, List, length, Result, Ok, Err, refl, sym, subst, string_bytes}
use Rattle.std.specs.Prelude.{IfOk}
use Rattle.std.specs.List.{Contains}
use Rattle.nv_region.specs.Region.{Region, HasBlocks, region_of}
use Rattle.nv_region.specs.ImageState.{ImageState}
use Rattle.nv_region.proofs.Fronted.{short_rest}
use Rattle.nv_super.specs.declared.superblock.Super.{Super}
use Rattle.nv_super.specs.Layout.{IsLayout, Layout}
use Rattle.nv_inode.specs.Chains.{layout_of}
use Rattle.nv_scan.specs.Inode.{Log}
use Rattle.nv_scan.specs.Rows.{IsRow}
use Rattle.nv_scan.specs.declared.piece.Row.{Row}
use Rattle.nv_journal.specs.Undo.{undone}
use Rattle.nv_journal.proofs.KeptLinks.{undone_layout}
use Rattle.nv_outcome.specs.Answer.{outcome_of}
use Rattle.nv_outcome.specs.declared.recovered.Recovered.{Recovered}
use Rattle.nv_outcome.proofs.SuperOf.{layout_of_super, one_super}
use Rattle.nv_outcome.proofs.Metadata.{same_inodes}
use Rattle.nv_outcome.proofs.SameInodes.{SameInodes}
use Rattle.nv_outcome.proofs.Tabled.{tables_laid}
use Rattle.nv_metadata.specs.Memory.{MetadataState}
use Rattle.nv_metadata.specs.Gathered.{AreGathered, IsOpen}
use Rattle.nv_metadata.specs.declared.gathering.Gathered.{Gathered}
use Rattle.nv_metadata.specs.declared.gathering.Gathered.TheVariants as gatherings
use Rattle.nv_metadata.proofs.Same.{gathered_super, has_metadata, whole_outcome}
use Rattle.nv_text.specs.Refusals.{refusal_name}
use Rattle.nv_text.specs.declared.refusals.Refusal as texts
use Rattle.nv_paths.specs.Seen.{tree_of}
use Rattle.nv_tree.specs.Tree.{Tree}
use Rattle.nv_image_check.specs.Checking.{IsRefusal}
use Rattle.nv_image_check.specs.Recovering.{IsRecovered, IsSuperRefused}
use Rattle.nv_image_check.specs.GatheredImage.{IsFoundIn}
use Rattle.nv_image_check.specs.declared.answered.Answered.{Answered}
use Rattle.nv_image_check.specs.declared.imaging.Image.TheVariants as images
use Rattle.nv_image_check.specs.declared.gathered_image.GatheredImage.TheVariants as gathered_images
use Rattle.nv_image_check.proofs.Gathering.{found_refused}
use Rattle.nv_inspect.specs.Log.{IsLogText}
use Rattle.nv_logs.specs.declared.inode.Inode.{Inode}
use Rattle.nv_logs.specs.Looking.{IsLogLook, TellsLog}
use Rattle.nv_logs.specs.Asking.{IsAsked}
use Rattle.nv_logs.specs.declared.looking.Look.{Look}
use Rattle.nv_logs.proofs.Asked.{asked_there}
use Rattle.nv_logs.proofs.Regions.{blocks_of, blocks_undone, same_text}

-- the superblock isn't accepted
pub refused_look : (inode : Inode) (R : Region) (refusal : texts.Refusal) (text : List ℕ) (answered : Answered) → IsSuperRefused R refusal
    → IsRefusal (refusal_name refusal) text answered.status × (answered.faults ≡ 0) → IsLogLook inode R text answered
refused_look inode R refusal text answered is said = inl ((is.0, is.1, subst (λ (x : texts.Refusal). IsRefusal (refusal_name x) text answered.status) is.2 said.0), said.1)

-- ---- a region over its bytes

module _ (bytes : List ℕ) (memory : ImageState) (r : Recovered) (is : IsRecovered (region_of bytes) (images.Recovered memory r)) where
  pub image_layout : IsLayout r.sup
  image_layout = layout_of_super (region_of bytes) r.sup is.0.sup

  pub image_blocks : HasBlocks memory.region r.sup.blocks
  image_blocks = subst (λ (Q : Region). HasBlocks Q r.sup.blocks) (sym is.1) (blocks_undone (region_of bytes) r.sup r.sup.blocks (blocks_of (region_of bytes) r.sup is.0.sup (short_rest bytes)))

  image_look : (inode : Inode) (text : List ℕ) (answered : Answered) → ((Q : Region) → TellsLog (tree_of Q r.rows.items) memory.region r.sup r.rows.items inode text answered.status) → answered.faults ≡ length r.faults.items
      → IsLogLook inode (region_of bytes) text answered
  image_look inode text answered told faults =
      let U = undone r.sup (region_of bytes) in
      inr (outcome_of r, is.0, subst (λ (Q : Region). TellsLog (tree_of U r.rows.items) Q r.sup r.rows.items inode text answered.status) is.1 (told U), faults)

  -- the same of what was made
  pub image_answer : {E : Type 0} (inode : Inode) (result : Result Look E) → ((Q : Region) → IfOk result (λ look. TellsLog (tree_of Q r.rows.items) memory.region r.sup r.rows.items inode (string_bytes look.text) look.answered.status))
      → IfOk result (λ look. look.answered.faults ≡ length r.faults.items) → IfOk result (λ look. IsLogLook inode (region_of bytes) (string_bytes look.text) look.answered)
  image_answer inode (Ok look) told faults = image_look inode (string_bytes look.text) look.answered told faults
  image_answer inode (Err e) told faults = tt

-- ---- what was gathered

pub found_layout : (g : Gathered) (m : MetadataState) (r : Recovered) → IsFoundIn g (gathered_images.Recovered m r) → IsLayout r.sup
found_layout (gatherings.Metadata s memory) m r found = layout_of_super memory.memory.region r.sup found.0.sup
found_layout (gatherings.Refused fault) m r found = absurd found

pub found_blocks : (g : Gathered) (m : MetadataState) (r : Recovered) → IsOpen g → IsFoundIn g (gathered_images.Recovered m r) → HasBlocks m.memory.region r.sup.blocks
found_blocks (gatherings.Metadata s memory) m r ready found =
    let S = memory.memory.region in
    let same : r.sup ≡ s = one_super S s r.sup ready.superblock found.0.sup in
    let has : HasBlocks S r.sup.blocks = subst (λ (x : Super). HasBlocks S x.blocks) (sym same) ready.blocks in
    subst (λ (Q : Region). HasBlocks Q r.sup.blocks) (sym found.1) (blocks_undone S r.sup r.sup.blocks has)
found_blocks (gatherings.Refused fault) m r ready found = absurd found

module _ (R : Region) (inode : Inode) (text : List ℕ) (answered : Answered) where
  found_look : (g : Gathered) → AreGathered R g → (m : MetadataState) (r : Recovered) → IsFoundIn g (gathered_images.Recovered m r)
      → ((Q : Region) → TellsLog (tree_of Q r.rows.items) m.memory.region r.sup r.rows.items inode text answered.status) → answered.faults ≡ length r.faults.items → IsLogLook inode R text answered
  found_look (gatherings.Metadata s memory) are m r found told faults =
      let S = memory.memory.region in
      let sup : r.sup ≡ s = one_super S s r.sup (gathered_super s R S are.0 are.1) found.0.sup in
      let outcome = whole_outcome s R S are.0 are.1 (outcome_of r) sup found.0 in
      let same = same_inodes s R S are.0 (has_metadata s R S are.0 are.1) in
      let inodes = subst (λ (x : Super). SameInodes (layout_of x R) (undone x R) (undone x S)) (sym sup) same in
      let tables : layout_of r.sup R ≡ layout_of r.sup (undone r.sup S) = sym (undone_layout r.sup R (layout_of_super R r.sup outcome.sup)) ∙ tables_laid S (outcome_of r) (layout_of r.sup (undone r.sup R)) found.0 refl (sym outcome.tables) in
      let rows = subst (λ (l : Layout). (row : Row) → Contains r.rows.items row → (a : ℕ) × (log : Log) × IsRow (undone r.sup S) l a log row) (sym tables) found.0.rows.each in
      let here : TellsLog (tree_of (undone r.sup R) r.rows.items) (undone r.sup S) r.sup r.rows.items inode text answered.status =
      subst (λ (Q : Region). TellsLog (tree_of (undone r.sup R) r.rows.items) Q r.sup r.rows.items inode text answered.status) found.1 (told (undone r.sup R)) in
      inr (outcome_of r, outcome, whole_told inodes (undone_layout r.sup R (layout_of_super R r.sup outcome.sup)) tables rows here, faults)
    where
      whole_told : SameInodes (layout_of r.sup R) (undone r.sup R) (undone r.sup memory.memory.region) → layout_of r.sup (undone r.sup R) ≡ layout_of r.sup R → layout_of r.sup R ≡ layout_of r.sup (undone r.sup memory.memory.region)
          → ((row : Row) → Contains r.rows.items row → (a : ℕ) × (log : Log) × IsRow (undone r.sup memory.memory.region) (layout_of r.sup R) a log row) → TellsLog (tree_of (undone r.sup R) r.rows.items) (undone r.sup memory.memory.region) r.sup r.rows.items inode text answered.status
          → TellsLog (tree_of (undone r.sup R) r.rows.items) (undone r.sup R) r.sup r.rows.items inode text answered.status
      whole_told inodes own tables rows (inl (row, asked, shown, status)) =
          let of = rows row (asked_there (tree_of (undone r.sup R) r.rows.items) r.rows.items inode row asked) in
          inl (
            row,
            asked,
            subst (λ (l : Layout). IsLogText (undone r.sup R) l row text) (sym own) (same_text (layout_of r.sup R) (undone r.sup R) (undone r.sup memory.memory.region) inodes of.0 of.1 row of.2 text
                (subst (λ (l : Layout). IsLogText (undone r.sup memory.memory.region) l row text) (sym tables) shown)),
            status,
          )
      whole_told inodes own tables rows (inr refused) = inr refused
  found_look (gatherings.Refused fault) are m r found told faults = absurd found

  pub unfound_look : (g : Gathered) → AreGathered R g → (refusal : texts.Refusal) → IsFoundIn g (gathered_images.Refused refusal) → IsRefusal (refusal_name refusal) text answered.status × (answered.faults ≡ 0) → IsLogLook inode R text answered
  unfound_look g are refusal found said = refused_look inode R refusal text answered (found_refused R g are refusal found) said

module _ {E : Type 0} (R : Region) (inode : Inode) (g : Gathered) (are : AreGathered R g) where
  pub found_answer : (m : MetadataState) (r : Recovered) → IsFoundIn g (gathered_images.Recovered m r) → (result : Result Look E)
      → ((Q : Region) → IfOk result (λ look. TellsLog (tree_of Q r.rows.items) m.memory.region r.sup r.rows.items inode (string_bytes look.text) look.answered.status))
      → IfOk result (λ look. look.answered.faults ≡ length r.faults.items) → IfOk result (λ look. IsLogLook inode R (string_bytes look.text) look.answered)
  found_answer m r found (Ok look) told faults = found_look R inode (string_bytes look.text) look.answered g are m r found told faults
  found_answer m r found (Err e) told faults = tt

-- ---- one row

-- its log is told
pub shown_told : {E : Type 0} (t : Tree) (R : Region) (s : Super) (rows : List Row) (inode : Inode) (row : Row) → IsAsked t rows inode row → (result : Result Look E) → IfOk result (λ look. IsLogText R (layout_of s R) row (string_bytes look.text))
    → IfOk result (λ look. look.answered.status ≡ 0) → IfOk result (λ look. TellsLog t R s rows inode (string_bytes look.text) look.answered.status)
shown_told t R s rows inode row asked (Ok look) text status = inl (row, asked, text, status)
shown_told t R s rows inode row asked (Err e) text status = tt

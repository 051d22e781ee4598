-- The logs of all rows, one after another, in a region that was recovered, and in what was gathered of it.
use Rattle.std.proofs.Common.{◌≡◌, ◌∙◌, ℕ, inl, inr, List, [], ◌∷◌, ◌++◌, length, Result, Ok, Err, refl, sym, ap, subst, string_bytes, append_assoc, append-nil}
use Rattle.std.specs.Prelude.{IfOk}
use Rattle.std.specs.List.{Contains}
use Rattle.nv_region.specs.Region.{Region, region_of}
use Rattle.nv_region.specs.ImageState.{ImageState}
use Rattle.nv_super.specs.declared.superblock.Super.{Super}
use Rattle.nv_super.specs.Layout.{Layout}
use Rattle.nv_super.proofs.Rising.{Contains-head, Contains-tail}
use Rattle.nv_inode.specs.Chains.{layout_of}
use Rattle.nv_scan.specs.Inode.{Log}
use Rattle.nv_scan.specs.Rows.{IsRow}
use Rattle.nv_scan.specs.declared.piece.Row.{Row}
use Rattle.nv_journal.specs.Undo.{undone}
use Rattle.nv_journal.proofs.KeptLinks.{undone_layout}
use Rattle.nv_outcome.specs.Answer.{outcome_of}
use Rattle.nv_outcome.specs.declared.recovered.Recovered.{Recovered}
use Rattle.nv_outcome.proofs.SuperOf.{layout_of_super, one_super}
use Rattle.nv_outcome.proofs.Metadata.{same_inodes}
use Rattle.nv_outcome.proofs.SameInodes.{SameInodes}
use Rattle.nv_outcome.proofs.Tabled.{tables_laid}
use Rattle.nv_metadata.specs.Memory.{MetadataState}
use Rattle.nv_metadata.specs.Gathered.{AreGathered}
use Rattle.nv_metadata.specs.declared.gathering.Gathered.{Gathered}
use Rattle.nv_metadata.specs.declared.gathering.Gathered.TheVariants as gatherings
use Rattle.nv_metadata.proofs.Same.{gathered_super, has_metadata, whole_outcome}
use Rattle.nv_text.specs.Refusals.{refusal_name}
use Rattle.nv_text.specs.declared.refusals.Refusal as texts
use Rattle.nv_report.specs.Texts.{AddsText}
use Rattle.nv_report.proofs.TextLemmas.{adds_both}
use Rattle.nv_image_check.specs.Checking.{IsRefusal}
use Rattle.nv_image_check.specs.Recovering.{IsRecovered, IsSuperRefused}
use Rattle.nv_image_check.specs.GatheredImage.{IsFoundIn}
use Rattle.nv_image_check.specs.declared.answered.Answered.{Answered}
use Rattle.nv_image_check.specs.declared.imaging.Image.TheVariants as images
use Rattle.nv_image_check.specs.declared.gathered_image.GatheredImage.TheVariants as gathered_images
use Rattle.nv_image_check.proofs.Gathering.{found_refused}
use Rattle.nv_inspect.specs.Log.{IsLogText}
use Rattle.nv_logs.specs.All.{AreLogTexts, IsLogsLook}
use Rattle.nv_logs.specs.declared.looking.Look.{Look}
use Rattle.nv_logs.proofs.Regions.{same_text}

-- ---- one log behind another

module _ (R : Region) (l : Layout) where
  logs_snoc : (rows : List Row) (row : Row) (text more : List ℕ) → AreLogTexts R l rows text → IsLogText R l row more → AreLogTexts R l (rows ++ row ∷ []) (text ++ more)
  logs_snoc [] row text more are shown = (more, [], shown, refl, ap (λ t. t ++ more) are ∙ sym (append-nil more))
  logs_snoc (x ∷ rows) row text more are shown = (are.0, are.1 ++ more, are.2, logs_snoc rows row are.1 more are.3 shown, ap (λ t. t ++ more) are.4 ∙ append_assoc are.0 are.1 more)

  -- the log of one row more
  pub adds_log : (rows : List Row) (row : Row) (old mid new : List ℕ) → AddsText (AreLogTexts R l rows) old mid → AddsText (IsLogText R l row) mid new → AddsText (AreLogTexts R l (rows ++ row ∷ [])) old new
  adds_log rows row old mid new a b = adds_both (AreLogTexts R l rows) (IsLogText R l row) (AreLogTexts R l (rows ++ row ∷ [])) old mid new (λ t u are is. logs_snoc rows row t u are is) a b

-- ---- regions with the same inodes

module _ (l : Layout) (U V : Region) (same : SameInodes l U V) where
  same_texts : (rows : List Row) → ((row : Row) → Contains rows row → (a : ℕ) × (log : Log) × IsRow V l a log row) → (text : List ℕ) → AreLogTexts V l rows text → AreLogTexts U l rows text
  same_texts [] each text are = are
  same_texts (row ∷ rows) each text are =
      let of = each row (Contains-head row rows) in
      (are.0, are.1, same_text l U V same of.0 of.1 row of.2 are.0 are.2, same_texts rows (λ r c. each r (Contains-tail row rows r c)) are.1 are.3, are.4)

-- ---- the superblock isn't accepted

pub refused_look : (R : Region) (refusal : texts.Refusal) (text : List ℕ) (answered : Answered) → IsSuperRefused R refusal
    → IsRefusal (refusal_name refusal) text answered.status × (answered.faults ≡ 0) → IsLogsLook R text answered
refused_look R refusal text answered is said = inl ((is.0, is.1, subst (λ (x : texts.Refusal). IsRefusal (refusal_name x) text answered.status) is.2 said.0), said.1)

-- ---- a region over its bytes

module _ {E : Type 0} (bytes : List ℕ) (memory : ImageState) (r : Recovered) (is : IsRecovered (region_of bytes) (images.Recovered memory r)) where
  pub image_answer : (result : Result Look E) → IfOk result (λ look. AreLogTexts memory.region (layout_of r.sup memory.region) r.rows.items (string_bytes look.text)) → IfOk result (λ look. look.answered.status ≡ 0)
      → IfOk result (λ look. look.answered.faults ≡ length r.faults.items) → IfOk result (λ look. IsLogsLook (region_of bytes) (string_bytes look.text) look.answered)
  image_answer (Ok look) told status faults = inr (outcome_of r, is.0, subst (λ (Q : Region). AreLogTexts Q (layout_of r.sup Q) r.rows.items (string_bytes look.text)) is.1 told, status, faults)
  image_answer (Err e) told status faults = tt

-- ---- what was gathered

module _ {E : Type 0} (R : Region) where
  pub found_answer : (g : Gathered) → AreGathered R g → (m : MetadataState) (r : Recovered) → IsFoundIn g (gathered_images.Recovered m r) → (result : Result Look E)
      → IfOk result (λ look. AreLogTexts m.memory.region (layout_of r.sup m.memory.region) r.rows.items (string_bytes look.text)) → IfOk result (λ look. look.answered.status ≡ 0)
      → IfOk result (λ look. look.answered.faults ≡ length r.faults.items) → IfOk result (λ look. IsLogsLook R (string_bytes look.text) look.answered)
  found_answer (gatherings.Metadata s memory) are m r found (Ok look) told status faults =
      let S = memory.memory.region in
      let sup : r.sup ≡ s = one_super S s r.sup (gathered_super s R S are.0 are.1) found.0.sup in
      let outcome = whole_outcome s R S are.0 are.1 (outcome_of r) sup found.0 in
      let same = same_inodes s R S are.0 (has_metadata s R S are.0 are.1) in
      let inodes = subst (λ (x : Super). SameInodes (layout_of x R) (undone x R) (undone x S)) (sym sup) same in
      let tables : layout_of r.sup R ≡ layout_of r.sup (undone r.sup S) = sym (undone_layout r.sup R (layout_of_super R r.sup outcome.sup)) ∙ tables_laid S (outcome_of r) (layout_of r.sup (undone r.sup R)) found.0 refl (sym outcome.tables) in
      let rows = subst (λ (l : Layout). (row : Row) → Contains r.rows.items row → (a : ℕ) × (log : Log) × IsRow (undone r.sup S) l a log row) (sym tables) found.0.rows.each in
      let here : AreLogTexts (undone r.sup S) (layout_of r.sup (undone r.sup S)) r.rows.items (string_bytes look.text) = subst (λ (Q : Region). AreLogTexts Q (layout_of r.sup Q) r.rows.items (string_bytes look.text)) found.1 told in
      let low : AreLogTexts (undone r.sup S) (layout_of r.sup R) r.rows.items (string_bytes look.text) = subst (λ (l : Layout). AreLogTexts (undone r.sup S) l r.rows.items (string_bytes look.text)) (sym tables) here in
      let own = undone_layout r.sup R (layout_of_super R r.sup outcome.sup) in
      inr (outcome_of r, outcome, subst (λ (l : Layout). AreLogTexts (undone r.sup R) l r.rows.items (string_bytes look.text)) (sym own) (same_texts (layout_of r.sup R) (undone r.sup R) (undone r.sup S) inodes r.rows.items rows (string_bytes look.text) low), status, faults)
  found_answer (gatherings.Metadata s memory) are m r found (Err e) told status faults = tt
  found_answer (gatherings.Refused fault) are m r found result told status faults = absurd found

-- why it was refused
module _ (R : Region) where
  pub unfound_look : (g : Gathered) → AreGathered R g → (refusal : texts.Refusal) → IsFoundIn g (gathered_images.Refused refusal) → (text : List ℕ) (answered : Answered)
      → IsRefusal (refusal_name refusal) text answered.status × (answered.faults ≡ 0) → IsLogsLook R text answered
  unfound_look g are refusal found text answered said = refused_look R refusal text answered (found_refused R g are refusal found) said

-- What looking into the metadata of a region tells, by what it mounted: it is told of the region.
use Rattle.std.proofs.Common.{◌≡◌, ◌∙◌, ℕ, inl, inr, false, [], List, length, Some, refl, sym, ap, subst}
use Rattle.nv_region.specs.ImageState.{is_open_to}
use Rattle.nv_region.specs.Region.{Region}
use Rattle.nv_text.specs.Refusals.{refusal_name}
use Rattle.nv_text.specs.declared.refusals.Refusal as texts
use Rattle.nv_journal.specs.Undo.{undone}
use Rattle.nv_outcome.specs.Answer.{outcome_of}
use Rattle.nv_outcome.specs.Outcome.{IsOutcome}
use Rattle.nv_outcome.specs.declared.recovered.Recovered.{Recovered}
use Rattle.nv_outcome.proofs.SuperOf.{one_super}
use Rattle.nv_metadata.specs.Memory.{MetadataState}
use Rattle.nv_metadata.specs.Gathered.{AreGathered}
use Rattle.nv_metadata.specs.declared.gathering.Gathered.{Gathered}
use Rattle.nv_metadata.specs.declared.gathering.Gathered.TheVariants as gatherings
use Rattle.nv_metadata.proofs.Same.{gathered_super, whole_outcome}
use Rattle.nv_scan.specs.declared.piece.Row.{Row}
use Rattle.nv_image_check.specs.Answering.{IsOpenInFront}
use Rattle.nv_image_check.specs.Checking.{IsRefusal}
use Rattle.nv_image_check.specs.GatheredImage.{IsFoundIn}
use Rattle.nv_image_check.specs.declared.gathered_image.GatheredImage.TheVariants as images
use Rattle.nv_image_check.specs.declared.recovery.Answer.TheVariants as answers
use Rattle.nv_image_check.specs.declared.answered.Answered.{Answered}
use Rattle.nv_calls.specs.Mount.{Mount}
use Rattle.nv_paths.specs.Seen.{tree_of}
use Rattle.nv_session.specs.Sessions.{CanMount}
use Rattle.nv_session.proofs.Moved.{can_mount}
use Rattle.nv_tree.specs.Tree.{Tree}
use Rattle.nv_looks.specs.Looking.{Call, IsLook}
use Rattle.nv_looks.specs.Gathered.{IsOpenedOf}
use Rattle.nv_looks.specs.declared.gathered.OpenedMetadata.TheVariants as opened

-- what was found can be mounted
pub can_open : (g : Gathered) (memory : MetadataState) (r : Recovered) → IsFoundIn g (images.Recovered memory r) → CanMount memory.memory.region (Some (answers.Recovered r))
can_open (gatherings.Metadata s held) memory r is = can_mount held.memory.region memory.memory.region 1 [] (Some (answers.Recovered r)) (refl, refl, is.0, is.1) (is.2, is.3, is.4)
can_open (gatherings.Refused fault) memory r is = absurd is

-- and the mount shows it
pub open_mounted : (g : Gathered) (memory : MetadataState) (r : Recovered) → IsFoundIn g (images.Recovered memory r) → (m : Mount MetadataState) → m.memory ≡ memory → m.rows ≡ r.rows.items → m.faults ≡ r.faults.items → m.stopped ≡ false
    → IsOpenedOf g (opened.Mounted m)
open_mounted (gatherings.Metadata s held) memory r is m here rows faults runs = (outcome_of r, is.0, ap (λ (x : MetadataState). x.memory.region) here ∙ is.1, rows, faults, runs, subst (λ (x : MetadataState). IsOpenInFront held.memory.region (is_open_to x.memory)) (sym here) is.5)
open_mounted (gatherings.Refused fault) memory r is m here rows faults runs = absurd is

-- or its superblock was refused
pub open_refused : (g : Gathered) (refusal : texts.Refusal) → IsFoundIn g (images.Refused refusal) → IsOpenedOf g (opened.Refused refusal)
open_refused (gatherings.Metadata s held) refusal is = is
open_refused (gatherings.Refused fault) refusal is = is

-- the mount runs
pub runs_opened : (g : Gathered) (m : Mount MetadataState) → IsOpenedOf g (opened.Mounted m) → m.stopped ≡ false
runs_opened (gatherings.Metadata s held) m is = is.5
runs_opened (gatherings.Refused fault) m is = absurd is

-- what is told of one tree is told of that of the same rows in each region
abbrev pub TellsAnywhere : Call → Type 0
TellsAnywhere Tells = (R S : Region) (rows : List Row) (text : List ℕ) (status : ℕ) → Tells (tree_of S rows) text status → Tells (tree_of R rows) text status

module _ (Tells : Call) (R : Region) (text : List ℕ) (answered : Answered) where
  pub look_refused : (g : Gathered) → AreGathered R g → (refusal : texts.Refusal) → IsOpenedOf g (opened.Refused refusal) → IsRefusal (refusal_name refusal) text answered.status × (answered.faults ≡ 0) → IsLook Tells R text answered
  look_refused (gatherings.Metadata s held) are refusal is said = absurd is
  look_refused (gatherings.Refused fault) are refusal is said = inl ((fault, are, subst (λ (x : texts.Refusal). IsRefusal (refusal_name x) text answered.status) is said.0), said.1)

  -- the outcome of what was gathered is that of the region
  pub look_mounted : TellsAnywhere Tells → (g : Gathered) → AreGathered R g → (m : Mount MetadataState) → IsOpenedOf g (opened.Mounted m) → Tells (tree_of m.memory.memory.region m.rows) text answered.status → answered.faults ≡ length m.faults
      → IsLook Tells R text answered
  look_mounted anywhere (gatherings.Metadata s held) are m is told faults =
      let S = held.memory.region in
      let o = is.0 in
      let same_tree : tree_of m.memory.memory.region m.rows ≡ tree_of (undone o.sup S) o.rows = (λ i. tree_of (is.2 i) (is.3 i)) in
      inr (
        o,
        whole_outcome s R S are.0 are.1 o (one_super S s o.sup (gathered_super s R S are.0 are.1) is.1.sup) is.1,
        anywhere (undone o.sup R) (undone o.sup S) o.rows text answered.status (subst (λ (t : Tree). Tells t text answered.status) same_tree told),
        faults ∙ ap length is.4,
      )
  look_mounted anywhere (gatherings.Refused fault) are m is told faults = absurd is

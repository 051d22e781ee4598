-- What unpacking items makes of a region, or why it is refused.
use Rattle.std.specs.Prelude.{◌≡◌, ℕ, true, false, List, []}
use Rattle.nv_region.specs.Region.{Region}
use Rattle.nv_region.specs.RegionState.{RegionState}
use Rattle.nv_outcome.specs.Outcome.{Outcome, IsOutcome}
use Rattle.nv_tree.specs.Tree.{Tree}
use Rattle.nv_tree.specs.Refusals.{refusal_word}
use Rattle.nv_tree.specs.declared.refusal.Refusal.{Refusal as CallRefusal}
use Rattle.nv_tree.specs.declared.refusal.Refusal.TheVariants as refusals
use Rattle.nv_text.specs.Answers.{refused_line}
use Rattle.nv_text.specs.Refusals.{refusal_name}
use Rattle.nv_session.specs.Calls.{LeavesTreeBy, mounted_as}
use Rattle.nv_session.specs.Sessions.{IsSettled}
use Rattle.nv_super.specs.Layout.{Layout}
use Rattle.nv_mounted.specs.Mounted.{outcome_layout}
use Rattle.nv_history.specs.Making.{ChainsGrow}
use Rattle.nv_calls.specs.Mount.{IsKept, Mount, has_faults}
use Rattle.nv_image_check.specs.Recovering.{IsSuperRefused}
use Rattle.nv_changes.specs.Changing.{tree_shown}
use Rattle.nv_untar.specs.declared.item.Item.{Item}
use Rattle.nv_untar.specs.Items.{item_of}
use Rattle.nv_unpack.specs.declared.halt.Halt.{Halt}
use Rattle.nv_unpack.specs.declared.halt.Halt.TheVariants as halts
use Rattle.nv_unpack.specs.declared.maker.Maker.{Maker}
use Rattle.nv_unpack.specs.declared.unpacking.Unpacked.{Unpacked}
use Rattle.nv_unpack.specs.declared.unpacking.Unpacked.TheVariants as unpacked
use Rattle.nv_unpack.specs.Making.{AreSteps, RefusesSteps}
use Rattle.nv_unpack.specs.Steps.{steps_of}
use Rattle.nv_unpack.specs.Told.{refused_item}

-- the tables that steps may leave: chains only grow, and none does in version 1
abbrev pub GrowsInVersion2 : Outcome → Layout → Type 0
GrowsInVersion2 o l = ChainsGrow (outcome_layout o) l × (o.sup.version ≡ 1 → l.chains ≡ o.tables)

-- All steps were made. The region that is left is as long as the one that came, its own undone region, and has no fault; it shows
-- the tree that the steps make, in such tables. Nothing is pending in it.
pub record IsMade (R : Region) (o : Outcome) (base : List ℕ) (items : List Item) (maker : Maker) (left : RegionState) : Type 0 where
  pub tree : Tree
  pub made : AreSteps o.sup base maker (steps_of items) (tree_shown R o) tree
  pub leaves : LeavesTreeBy (GrowsInVersion2 o) R left.region (mounted_as o false) tree
  pub settled : IsSettled left

-- A call for this item is refused, of what is mounted then without faults.
pub record IsHalted (R : Region) (o : Outcome) (base : List ℕ) (items : List Item) (maker : Maker) (item : Item) (refusal : CallRefusal) : Type 0 where
  pub left : Mount RegionState
  pub kept : IsKept left.memory.region left.sup left.layout left.rows left.free left.faults left.read_only left.stopped
  pub runs : left.stopped ≡ false
  pub sup : left.sup ≡ o.sup
  pub tables : GrowsInVersion2 o left.layout
  pub writes : left.read_only ≡ false
  pub refuses : RefusesSteps o.sup base maker (steps_of items) (tree_shown R o) left item refusal

-- what came of it, by the region's outcome: faults refuse it before anything else
abbrev pub IsUnpackedAs : Region → Outcome → List ℕ → List Item → Maker → Unpacked → Type 0
IsUnpackedAs R o base items maker (unpacked.Region left) = (has_faults o.faults ≡ false) × IsMade R o base items maker left
IsUnpackedAs R o base items maker (unpacked.Unrecovered refusal) = ⊥
IsUnpackedAs R o base items maker unpacked.Faulty = has_faults o.faults ≡ true
IsUnpackedAs R o base items maker (unpacked.Refused item refusal) = (has_faults o.faults ≡ false) × IsHalted R o base items maker item refusal

-- What unpacking answers: the superblock's first fault, or what came of it.
abbrev pub IsUnpacked : Region → List ℕ → List Item → Maker → Unpacked → Type 0
IsUnpacked R base items maker (unpacked.Unrecovered refusal) = IsSuperRefused R refusal
IsUnpacked R base items maker (unpacked.Region left) = (o : Outcome) × IsOutcome R o × IsUnpackedAs R o base items maker (unpacked.Region left)
IsUnpacked R base items maker unpacked.Faulty = (o : Outcome) × IsOutcome R o × IsUnpackedAs R o base items maker unpacked.Faulty
IsUnpacked R base items maker (unpacked.Refused item refusal) = (o : Outcome) × IsOutcome R o × IsUnpackedAs R o base items maker (unpacked.Refused item refusal)

-- what is answered where a step is halted: its item and the refusal
abbrev pub IsRefusalOf : Halt → Unpacked → Type 0
IsRefusalOf halts.Memory told = ⊥
IsRefusalOf (halts.At item refusal) told = told ≡ unpacked.Refused item refusal

-- ---- what is told

-- what is printed of it: nothing, or its refusal
abbrev pub unpacked_text : Unpacked → List ℕ
unpacked_text (unpacked.Region left) = []
unpacked_text (unpacked.Unrecovered refusal) = refused_line (refusal_name refusal)
unpacked_text unpacked.Faulty = refused_line (refusal_word refusals.ReadOnly)
unpacked_text (unpacked.Refused item refusal) = refused_item (item_of item).path refusal

-- the exit status by what came of it: 0 where a region is left, and 2 where it is refused
abbrev pub unpacked_status : Unpacked → ℕ
unpacked_status (unpacked.Region left) = 0
unpacked_status (unpacked.Unrecovered refusal) = 2
unpacked_status unpacked.Faulty = 2
unpacked_status (unpacked.Refused item refusal) = 2

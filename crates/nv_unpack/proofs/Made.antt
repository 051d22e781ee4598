-- What steps leave of a region that was opened, and why unpacking is refused.
use Rattle.std.proofs.Common.{◌≡◌, ◌∙◌, ℕ, false, List, [], refl, ap, subst, sym}
use Rattle.nv_super.specs.Layout.{Layout}
use Rattle.nv_super.specs.declared.superblock.Super.{Super}
use Rattle.nv_history.specs.Making.{ChainsGrow}
use Rattle.nv_region.specs.Region.{Region, size}
use Rattle.nv_region.specs.RegionState.{RegionState}
use Rattle.nv_journal.specs.Undo.{undone}
use Rattle.nv_outcome.specs.Outcome.{Outcome, IsOutcome}
use Rattle.nv_outcome.proofs.Again.{rolled_back, stays}
use Rattle.nv_tree.specs.Tree.{Tree}
use Rattle.nv_tree.specs.declared.refusal.Refusal.{Refusal}
use Rattle.nv_tree.proofs.Same.{same_itself}
use Rattle.nv_calls.specs.Mount.{IsKept, Mount, has_faults}
use Rattle.nv_paths.specs.Seen.{tree_of}
use Rattle.nv_session.specs.Sessions.{IsSettled}
use Rattle.nv_session.proofs.Moved.{same_size}
use Rattle.nv_script.specs.Cleaning.{IsOpenedAs}
use Rattle.nv_script.proofs.Cleanings.{shows_now}
use Rattle.nv_changes.specs.Changing.{tree_shown}
use Rattle.nv_untar.specs.declared.item.Item.{Item}
use Rattle.nv_unpack.specs.declared.halt.Halt.{Halt}
use Rattle.nv_unpack.specs.declared.halt.Halt.TheVariants as halts
use Rattle.nv_unpack.specs.declared.maker.Maker.{Maker}
use Rattle.nv_unpack.specs.declared.unpacking.Unpacked.{Unpacked}
use Rattle.nv_unpack.specs.declared.unpacking.Unpacked.TheVariants as unpacked
use Rattle.nv_unpack.specs.Steps.{steps_of}
use Rattle.nv_unpack.specs.Making.{AreSteps, GoesOn, HaltsSteps, RefusesSteps}
use Rattle.nv_unpack.specs.Unpacking.{GrowsInVersion2, IsHalted, IsMade, IsRefusalOf, IsUnpacked, IsUnpackedAs}
use Rattle.nv_unpack.proofs.Going.{tree}

abbrev Keeps : Mount RegionState → Type 0
Keeps m = IsKept m.memory.region m.sup m.layout m.rows m.free m.faults m.read_only m.stopped

-- what came of it by an outcome came of it
pub by_outcome : (R : Region) (o : Outcome) (base : List ℕ) (items : List Item) (maker : Maker) → IsOutcome R o → (x : Unpacked) → IsUnpackedAs R o base items maker x → IsUnpacked R base items maker x
by_outcome R o base items maker is (unpacked.Region left) came = (o, is, came)
by_outcome R o base items maker is (unpacked.Unrecovered refusal) came = absurd came
by_outcome R o base items maker is unpacked.Faulty came = (o, is, came)
by_outcome R o base items maker is (unpacked.Refused item refusal) came = (o, is, came)

module _ (R : Region) (o : Outcome) (m n : Mount RegionState) (is : IsOpenedAs R o m) (base : List ℕ) (items : List Item) (maker : Maker) (on : GoesOn m n) (kept : Keeps n) where
  same_tree : tree m ≡ tree_shown R o
  same_tree = λ i. tree_of (is.region i) (is.rows i)

  -- rolling back keeps the length
  as_long : size m.memory.region ≡ size R
  as_long = ap size is.region ∙ same_size R (undone o.sup R) (o.sup, is.is.sup, (rolled_back R o is.is).sup, stays R o.sup is.is.sup)

  tables_by : GrowsInVersion2 o n.layout
  tables_by = (subst (λ (l : Layout). ChainsGrow l n.layout) is.layout on.chains, λ one. on.stays (ap (λ (s : Super). s.version) is.sup ∙ one) ∙ ap (λ (l : Layout). l.chains) is.layout)

  -- The region that is left shows what the steps make.
  pub all_left : AreSteps m.sup base maker (steps_of items) (tree m) (tree n) → IsSettled n.memory → IsMade R o base items maker n.memory
  all_left made settled =
      let own = shows_now n kept on.can in
      record {
        tree = tree n;
        made = subst (λ s. AreSteps s base maker (steps_of items) (tree_shown R o) (tree n)) is.sup (subst (λ (t : Tree). AreSteps m.sup base maker (steps_of items) t (tree n)) same_tree made);
        leaves = record {
          as_long = on.as_long ∙ as_long;
          after = record { sup = n.layout.sup; tables = n.layout.chains; rows = n.rows; free = n.free.pools; doubled = own.0; faults = [] };
          shown = own.1;
          own = kept.own on.can.runs;
          sup = kept.tables ∙ on.sup ∙ is.sup;
          layout = tables_by;
          faultless = refl;
          tree = same_itself (tree n);
        };
        settled = settled;
      }

  -- A step is refused.
  pub one_refused : (item : Item) (refusal : Refusal) → RefusesSteps m.sup base maker (steps_of items) (tree m) n item refusal → IsHalted R o base items maker item refusal
  one_refused item refusal refuses = record {
    left = n;
    kept = kept;
    runs = on.can.runs;
    sup = on.sup ∙ is.sup;
    tables = tables_by;
    writes = on.can.writes;
    refuses = subst (λ s. RefusesSteps s base maker (steps_of items) (tree_shown R o) n item refusal) is.sup
        (subst (λ (t : Tree). RefusesSteps m.sup base maker (steps_of items) t n item refusal) same_tree refuses);
  }

  -- What is answered where a step is halted.
  pub one_halted : (halt : Halt) → HaltsSteps m.sup base maker (steps_of items) (tree m) n halt → has_faults o.faults ≡ false → (told : Unpacked) → IsRefusalOf halt told
      → IsUnpackedAs R o base items maker told
  one_halted halts.Memory refuses none told is = absurd is
  one_halted (halts.At item refusal) refuses none told is = subst (λ (x : Unpacked). IsUnpackedAs R o base items maker x) (sym is) (none, one_refused item refusal refuses)

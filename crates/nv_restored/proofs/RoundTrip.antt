-- What is unpacked of the bytes of an archive.
use Rattle.std.proofs.Common.{◌≡◌, ℕ, false, List, length, map, codes, Result, Ok, refl, sym, subst}
use Rattle.nv_super.specs.declared.superblock.Super.{Super}
use Rattle.nv_tree.specs.Tree.{Tree}
use Rattle.nv_tar.specs.Archive.{IsArchive}
use Rattle.nv_untar.specs.declared.errors.Damage.{Damage}
use Rattle.nv_untar.specs.declared.item.Item.{Item as ItemValue}
use Rattle.nv_untar.specs.Items.{Item, item_of}
use Rattle.nv_untar.specs.Reading.{Holds}
use Rattle.nv_roundtrip.specs.Archives.{HasRoomFor, items_of}
use Rattle.nv_roundtrip.proofs.Archives.{archive_read_alone}
use Rattle.nv_history.specs.Making.{AreMade}
use Rattle.nv_unpack.specs.declared.maker.Maker.{Maker}
use Rattle.nv_unpack.specs.Steps.{steps_of}
use Rattle.nv_unpack.specs.Making.{AreSteps}
use Rattle.nv_restored.specs.Restored.{IsRestored}
use Rattle.nv_restored.specs.Orderly.{IsEmpty, IsOrderly}
use Rattle.nv_restored.specs.Numbers.{HasNumbersFor}
use Rattle.nv_history.specs.Said.{said}
use Rattle.nv_restored.proofs.Unpacked.{steps_unpacked}

same_items : (a b : List Item) → ◌≡◌ {A = Result (List Item) Damage} (Ok a) (Ok b) → a ≡ b
same_items a b h = cc

module _ (t empty u : Tree) (sup : Super) (maker : Maker) (lost bytes : List ℕ) (archive : IsArchive t 1 (codes ".") lost false bytes) (items : List ItemValue) where
  pub items_unpacked : IsOrderly t → IsEmpty empty → HasNumbersFor sup maker (length archive.members) → map item_of items ≡ items_of t archive.paths archive.members → AreSteps sup (codes "/") maker (steps_of items) empty u
      → IsRestored t u
  items_unpacked orderly is_empty numbers are steps =
      steps_unpacked t archive.members archive.are_members orderly lost archive.paths archive.are_paths sup maker numbers items empty u is_empty are _ _ steps
      (λ value v w step. record {
        tree = step.tree;
        leads = step.way;
        cpu = step.are.cpu;
        may = step.are.may;
        all = map said step.calls;
        makes = step.are.are;
        made = record { calls = step.calls; say = refl; made = step.made };
      })
      (λ value v w step. record {
        cpu = step.are.cpu;
        all = map said step.calls;
        are = step.are.are;
        made = record { calls = step.calls; say = refl; made = subst (λ (x : Tree). AreMade sup step.calls x w) (sym step.way) step.made };
      })

  pub bytes_unpacked : IsOrderly t → HasRoomFor t (codes ".") lost → IsEmpty empty → HasNumbersFor sup maker (length archive.members) → Holds bytes (Ok (map item_of items)) → AreSteps sup (codes "/") maker (steps_of items) empty u
      → IsRestored t u
  bytes_unpacked orderly room is_empty numbers holds steps =
      items_unpacked orderly is_empty numbers (same_items (map item_of items) (items_of t archive.paths archive.members) (archive_read_alone t 1 (codes ".") lost false bytes archive room (Ok (map item_of items)) holds)) steps

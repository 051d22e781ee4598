-- What stands before the names of a path, and the directories below.
use Rattle.std.proofs.Common.{◌≡◌, ◌∙◌, ◌<◌, ℕ, Bool, List, [], ◌∷◌, ◌++◌, map, Option, Some, length, sym, ap, subst, arith}
use Rattle.std.specs.Option.{option_map}
use Rattle.nv_region.specs.Region.{region_of}
use Rattle.nv_super.specs.declared.kind.Kind.TheVariants.{Directory}
use Rattle.nv_scan.specs.declared.piece.Row.{Row}
use Rattle.nv_rows.specs.Rows.{row_of}
use Rattle.nv_rows.specs.RowList.{RowList}
use Rattle.nv_paths.specs.Seen.{node_of}
use Rattle.nv_paths.proofs.Walks.{one_byte}
use Rattle.nv_tree.specs.Path.{IsPath, spelled}
use Rattle.nv_members.specs.Members.{kind_of}
use Rattle.nv_folders.specs.Folders.{AreAllFolders, Spot, spot_of}
use Rattle.nv_folders.specs.declared.folder.Folder.{Folder}
use Rattle.nv_listing.specs.Folders.{AreFolderTexts}
use Rattle.nv_report.specs.Texts.{AddsText}
use Rattle.nv_usage.specs.Named.{names_tree}
use Rattle.nv_logs.specs.Folders.{AreFoldersBelow, IsFoldersText, IsTop}
use Rattle.nv_logs.specs.declared.inode.Inode.{Inode}

some_text : (path : List ℕ) (names : List (List ℕ)) → IsPath path names → 0 < length path
some_text path [] is = let long = ap (length {A = ℕ}) is.spells in omega (arith, long)
some_text path (name ∷ names) is = let long = ap (length {A = ℕ}) is.spells in omega (arith, long)

-- a path of one byte is the root's
pub top_of_root : (path : List ℕ) (names : List (List ℕ)) → IsPath path names → length path < 2 → [] ≡ spelled names
top_of_root path names is short =
    let some = some_text path names is in
    sym (ap spelled (one_byte path names is (omega (arith, short, some))))

-- a longer one is its names
pub top_of_names : (path : List ℕ) (names : List (List ℕ)) → IsPath path names → (length path < 2 → ⊥) → path ≡ spelled names
top_of_names path [] is long = absurd (long (let few = ap (length {A = ℕ}) is.spells in omega (arith, few)))
top_of_names path (name ∷ names) is long = is.spells

-- ---- the directories below

module _ (rows given : RowList) (same : given ≡ rows) where
  pub is_folder : (row : Row) → row_of rows.items row.inode ≡ Some row → row.kind ≡ Directory → option_map kind_of (names_tree given.items row.inode) ≡ Some Directory
  is_folder row among kind = subst (λ (r : RowList). option_map kind_of (names_tree r.items row.inode) ≡ Some Directory) (sym same)
      (ap (λ (o : Option Row). option_map kind_of (option_map (node_of (region_of [])) o)) among ∙ ap Some kind)

  pub below_of : (i : ℕ) (inode : Inode) (top : List ℕ) → IsTop inode top → (folders : List Spot) → AreAllFolders (names_tree given.items) (top, i) folders → AreFoldersBelow rows.items i inode folders
  below_of i inode top is folders are = (top, is, subst (λ (r : RowList). AreAllFolders (names_tree r.items) (top, i) folders) same are)

-- the text that was put to none
pub text_of : (long : Bool) (rows : List Row) (folders given : List Folder) → given ≡ folders → (i : ℕ) (inode : Inode) → AreFoldersBelow rows i inode (map spot_of folders) → (old new : List ℕ) → old ≡ []
    → AddsText (AreFolderTexts long rows (map spot_of given)) old new → IsFoldersText rows i inode long new
text_of long rows folders given same i inode are old new none_yet added =
    (map spot_of folders, are, subst (λ (l : List Folder). AreFolderTexts long rows (map spot_of l) new) same (subst (AreFolderTexts long rows (map spot_of given)) (sym (added.2 ∙ ap (λ (o : List ℕ). o ++ added.0) none_yet)) added.1))

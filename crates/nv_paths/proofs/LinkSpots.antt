-- Why `link` is refused where it looks for its file and its directory, and what the last name of a path stands for.
use Rattle.std.proofs.Common.{◌≡◌, ℕ, ◌<◌, nat_le, Bool, true, false, List, [], ◌∷◌, ◌++◌, length, slice_get, refl, ap, sym, ◌∙◌, subst, arith, Option, Some, None, Result, Ok, Err, is_none, is_some, option_copied, Bor}
use Rattle.std.specs.Option.{option_and_then, option_map, option_map_or}
use Rattle.std.proofs.lemmas.Bool.Decides.{nat_tests}
use Rattle.nv_region.specs.Region.{Region}
use Rattle.nv_super.specs.declared.kind.Kind.{Kind}
use Rattle.nv_super.specs.declared.kind.Kind.TheVariants.{File, Directory}
use Rattle.nv_super.specs.Layout.{most_links}
use Rattle.nv_names.specs.Names.{name_at}
use Rattle.nv_scan.specs.declared.piece.Row.{Row}
use Rattle.nv_rows.specs.Rows.{IsInUse}
use Rattle.nv_graph.specs.Read.{row_of}
use Rattle.nv_tree.specs.declared.refusal.Refusal.{Refusal}
use Rattle.nv_tree.specs.declared.refusal.Refusal.TheVariants.{BadName, Exists, IsDirectory, LinkLimit, NotFound}
use Rattle.nv_tree.specs.Calls.{links_at}
use Rattle.nv_tree.specs.Names.{Spells}
use Rattle.nv_tree.specs.Path.{IsPath, IsPathName, Says, last_name}
use Rattle.nv_tree.specs.Tree.{Node, Tree, found, is_directory, walk}
use Rattle.nv_tree.specs.Refusals.{Path, Tests, first_refusal, is_bad, is_bad_name, is_directory_at, is_missing, refused_walk, walk_tests}
use Rattle.nv_paths.specs.Directories.{link_spot_tests, name_tests, named_in}
use Rattle.nv_paths.specs.Seen.{node_of, tree_of}
use Rattle.nv_paths.proofs.CreateTests.{none, row_leads, said_names}
use Rattle.nv_paths.proofs.Directories.{name_passes, none_named, one_named}
use Rattle.nv_paths.proofs.Spots.{directory_told}
use Rattle.nv_paths.proofs.Targets.{said}

-- ---- by two paths

-- the tests by what both walks and the first path give
abbrev ways_told : Result ℕ Refusal → Result ℕ Refusal → Option ℕ → Tests → Option Refusal
ways_told w v o more = first_refusal ((false, BadName) ∷ (false, BadName) ∷ refused_walk w ++ refused_walk v ++ (is_none o, NotFound) ∷ more)

module _ (t : Tree) (names : List (List ℕ)) (other : List ℕ) (others : List (List ℕ)) (more : Tests) where
  abbrev told : Option Refusal
  told = first_refusal (is_bad (Some names) ∷ is_bad_name (Some (other ∷ others)) ∷ walk_tests t (Some names) ++ walk_tests t (Some (other ∷ others)) ++ is_missing t (Some names) ∷ more)

  ways_by : {w v : Result ℕ Refusal} {o : Option ℕ} → walk t 1 names ≡ w → walk t 1 (other ∷ others) ≡ v → found t names ≡ o → told ≡ ways_told w v o more
  ways_by a b c = λ k. ways_told (a k) (b k) (c k) more

  pub old_walk_refused : (e : Refusal) → walk t 1 names ≡ Err e → told ≡ Some e
  old_walk_refused e w = ways_by w refl refl

  pub new_walk_refused : (d : ℕ) (e : Refusal) → walk t 1 names ≡ Ok d → walk t 1 (other ∷ others) ≡ Err e → told ≡ Some e
  new_walk_refused d e w v = ways_by w v refl

  pub file_missing : (d e : ℕ) → walk t 1 names ≡ Ok d → walk t 1 (other ∷ others) ≡ Ok e → found t names ≡ None → told ≡ Some NotFound
  file_missing d e w v none = ways_by w v none

  pub file_passes : (d e i : ℕ) → walk t 1 names ≡ Ok d → walk t 1 (other ∷ others) ≡ Ok e → found t names ≡ Some i → told ≡ first_refusal more
  file_passes d e i w v leads = ways_by w v leads

-- ---- by the file's number and the directory's

-- the tests by what is known of the file and of the name
abbrev link_told : Option Node → Option ℕ → Tests → Option Refusal
link_told o there more = first_refusal ((is_none o, NotFound) ∷ (option_map_or (λ (node : Node). is_directory node.kind) o false, IsDirectory) ∷ (is_some there, Exists) ∷ (nat_le most_links (option_map_or (λ (node : Node). node.links) o 0), LinkLimit) ∷ more)

-- and by its kind, whether the name is there, and whether it has the most links
abbrev file_told : Bool → Bool → Bool → Tests → Option Refusal
file_told directory there full more = first_refusal ((directory, IsDirectory) ∷ (there, Exists) ∷ (full, LinkLimit) ∷ more)

module _ (R : Region) (rows : List Row) (i d : ℕ) (row : Row) (at : row_of rows d ≡ Some row) (kind : row.kind ≡ Directory) (name : List ℕ) (good : IsPathName name) (more : Tests) where
  abbrev t : Tree
  t = tree_of R rows

  abbrev listed : Option Row
  listed = option_and_then (row_of rows) (option_map (λ (x : ℕ × ℕ). x.0) (name_at row.names name))

  past : first_refusal (link_spot_tests t i d name more) ≡ link_told (t i) (named_in t d name) more
  past = name_passes t d name ((is_none (t i), NotFound) ∷ (is_directory_at t i, IsDirectory) ∷ (is_some (named_in t d name), Exists) ∷ (nat_le most_links (links_at t i), LinkLimit) ∷ more) good (sym (directory_told R rows d row at kind))

  pub no_file : row_of rows i ≡ None → first_refusal (link_spot_tests t i d name more) ≡ Some NotFound
  no_file missing = past ∙ ap (λ (o : Option Node). link_told o (named_in t d name) more) (ap (option_map (node_of R)) missing)

  module _ (file : Row) (is : row_of rows i ≡ Some file) where
    by_file : {directory full : Bool} {o : Option ℕ} → is_directory file.kind ≡ directory → named_in t d name ≡ o → nat_le most_links file.numbers.links ≡ full → first_refusal (link_spot_tests t i d name more) ≡ file_told directory (is_some o) full more
    by_file a b c = past ∙ ap (λ (x : Option Node). link_told x (named_in t d name) more) (ap (option_map (node_of R)) is) ∙ (λ k. file_told (a k) (is_some (b k)) (c k) more)

    pub a_directory : is_directory file.kind ≡ true → first_refusal (link_spot_tests t i d name more) ≡ Some IsDirectory
    a_directory directory = by_file directory refl refl

    pub name_there : is_directory file.kind ≡ false → (there : Row) → listed ≡ Some there → first_refusal (link_spot_tests t i d name more) ≡ Some Exists
    name_there plain there named = by_file plain (one_named R rows d row at kind name there named) refl

    pub links_full : is_directory file.kind ≡ false → listed ≡ None → nat_le most_links file.numbers.links ≡ true → first_refusal (link_spot_tests t i d name more) ≡ Some LinkLimit
    links_full plain free full = by_file plain (none_named R rows d row at kind name free) full

    pub link_passes : is_directory file.kind ≡ false → listed ≡ None → nat_le most_links file.numbers.links ≡ false → first_refusal (link_spot_tests t i d name more) ≡ first_refusal more
    link_passes plain free few = by_file plain (none_named R rows d row at kind name free) few

-- what holds of each two paths of which the second has a name, where both texts are such
pub said_both : (old new : List ℕ) (Q : Path → Path → Type 0) → (names : List (List ℕ)) × IsPath old names → (name : List ℕ) × (names : List (List ℕ)) × IsPath new (name ∷ names) → (length new ≡ 1 → ⊥)
    → ((names : List (List ℕ)) (other : List ℕ) (others : List (List ℕ)) → IsPath old names → IsPath new (other ∷ others) → Q (Some names) (Some (other ∷ others))) → (p q : Path) → Says old p → Says new q → Q p q
said_both old new Q some some_new long each p q says says_new = said old (λ r. Q r q) some (λ names path. said_names new (λ r. Q (Some names) r) some_new long (λ other others other_path. each names other others path other_path) q says_new) p says

-- a row for a path's last name stands for its being found
pub found_some : (R : Region) (rows : List Row) (text name : List ℕ) (d : ℕ) (used : IsInUse rows d) (o : Option (Bor Row)) (long : length text ≡ 1 → ⊥)
    (directory : (names : List (List ℕ)) → Spells text names → (row : Row) → row_of rows d ≡ Some row → (walk (tree_of R rows) 1 names ≡ Ok row.inode) × (row.kind ≡ Directory)) (last : (names : List (List ℕ)) → Spells text names → name ≡ last_name names)
    (to : (row : Row) → row_of rows d ≡ Some row → option_copied o ≡ option_and_then (row_of rows) (option_map (λ (x : ℕ × ℕ). x.0) (name_at row.names name)))
    (first : List ℕ) (names : List (List ℕ)) (path : IsPath text (first ∷ names)) → is_some (found (tree_of R rows) (first ∷ names)) ≡ is_some o
found_some R rows text name d used o long directory last to first names path = by o refl where
  by : (k : Option (Bor Row)) → o ≡ k → is_some (found (tree_of R rows) (first ∷ names)) ≡ is_some k
  by None is = ap (λ (m : Option ℕ). is_some m) (none R rows text name d used o long directory last to first names path is)
  by (Some r) is = let led = row_leads R rows text name d used o long directory last to first names path r is in ap (λ (m : Option ℕ). is_some m) led.leads

-- a row that is no directory's is a file's
pub is_file : (kind : Kind) → is_directory kind ≡ false → kind ≡ File
is_file File no_directory = refl
is_file Directory no_directory = absurd (cc)

pub few_links : (links : ℕ) → nat_le most_links links ≡ false → links < most_links
few_links links few = grind (arith, nat_tests)

-- What a name of a directory stands for, and why a call on it is refused: by the directory's row, and by the path that leads there.
use Rattle.std.proofs.Common.{◌≡◌, ℕ, ◌<◌, ◌≤◌, nat_lt, nat_le, not, ◌&&◌, Bool, true, false, List, [], ◌∷◌, ◌++◌, length, slice_get, slice_index, refl, ap, sym, ◌∙◌, subst, arith, Option, Some, None, Result, Ok, Err, OnOk, IfOk, IfErr, is_none, is_some, option_copied, Bor, inl, inr}
use Rattle.std.specs.Option.{option_and_then, option_map, option_map_or}
use Rattle.std.specs.Result.{result_map_both}
use Rattle.std.proofs.lemmas.Bool.{cases_Bool}
use Rattle.std.proofs.lemmas.Bool.Decides.{nat_tests}
use Rattle.nv_region.specs.Region.{Region}
use Rattle.nv_super.specs.declared.kind.Kind.{Kind}
use Rattle.nv_super.specs.declared.kind.Kind.TheVariants.{File, Directory}
use Rattle.nv_entry.specs.Content.{has_bad_byte, is_dots}
use Rattle.nv_names.specs.Names.{found_in, name_at}
use Rattle.nv_names.proofs.Listing.{empty-found_in}
use Rattle.nv_scan.specs.declared.piece.Row.{Row}
use Rattle.nv_rows.specs.Rows.{place_in}
use Rattle.nv_rows.proofs.Places.{at_place, numbered, own_row}
use Rattle.nv_graph.specs.Read.{row_of}
use Rattle.nv_tree.specs.declared.refusal.Refusal.{Refusal}
use Rattle.nv_tree.specs.declared.refusal.Refusal.TheVariants.{BadName, Exists, IsDirectory, NoInodes, NotDirectory, NotEmpty, NotFound}
use Rattle.nv_tree.specs.Path.{IsPathName, last_name}
use Rattle.nv_tree.specs.Tree.{Node, Tree, as_directory, found, in_use, is_directory, last_in, name_in, walk}
use Rattle.nv_tree.specs.Refusals.{Path, Tests, count_at, first_refusal, is_bad_name, is_directory_at, refused_walk, walk_tests}
use Rattle.nv_paths.specs.Directories.{IsDirectoryAt, IsNamedIn, can_be_name, directory_tests, has_names_in, is_dir_in, is_no_dir_in, is_no_name, lookup_tests, name_tests, named_in, rmdir_spot_tests, spot_tests, unlink_spot_tests}
use Rattle.nv_paths.specs.Seen.{node_of, tree_of}
use Rattle.nv_paths.proofs.NamedAt.{stands_for}
use Rattle.nv_paths.proofs.Spots.{directory_told}
use Rattle.nv_paths.proofs.Targets.{nowhere}
use Rattle.nv_paths.proofs.Walks.{name_in_row, rows_in_use, walk_ends}

-- ---- names

pub is_name : (name : List ℕ) → IsPathName name → can_be_name name ≡ true
is_name name good =
    let low = good.fits.some in
    let high = good.fits.fits in
    let some : nat_lt 0 (length name) ≡ true = grind (arith, nat_tests, low) in
    let few : nat_le (length name) 255 ≡ true = grind (arith, nat_tests, high) in
    ap (λ (b : Bool). b && (nat_le (length name) 255 && (not (has_bad_byte name) && not (is_dots name)))) some
    ∙ ap (λ (b : Bool). b && (not (has_bad_byte name) && not (is_dots name))) few
    ∙ ap (λ (b : Bool). not b && not (is_dots name)) good.bytes ∙ ap not good.no_dots

all_four : (a b c d : Bool) → (a && (b && (not c && not d))) ≡ true → (a ≡ true) × (b ≡ true) × (c ≡ false) × (d ≡ false)
all_four false b c d e = absurd (cc)
all_four true false c d e = absurd (cc)
all_four true true true d e = absurd (cc)
all_four true true false true e = absurd (cc)
all_four true true false false e = (refl, refl, refl, refl)

-- what no path can say is no name, of bytes
pub no_name : (name : List ℕ) → ((i : ℕ) → slice_index name i < 256) → (IsPathName name → ⊥) → can_be_name name ≡ false
no_name name bytes bad = elim (cases_Bool (can_be_name name)) [
  | inl on ↦ (
      let w = all_four (nat_lt 0 (length name)) (nat_le (length name) 255) (has_bad_byte name) (is_dots name) on in
      let a = w.0 in
      let b = w.1 in
      let some : 0 < length name = grind (arith, nat_tests, a) in
      let few : length name ≤ 255 = grind (arith, nat_tests, b) in
      absurd (bad (record { fits = record { some = some; fits = few; bytes = bytes }; bytes = w.2; no_dots = w.3 })))
  | inr off ↦ off
]

-- ---- tests of a name and its directory

module _ (t : Tree) (d : ℕ) (name : List ℕ) (more : Tests) where
  pub name_bad : can_be_name name ≡ false → first_refusal (name_tests t d name more) ≡ Some BadName
  name_bad bad = ap (λ (b : Bool). first_refusal ((not b, BadName) ∷ directory_tests t d ++ more)) bad

  module _ (good : IsPathName name) where
    past_name : first_refusal (name_tests t d name more) ≡ first_refusal (directory_tests t d ++ more)
    past_name = ap (λ (b : Bool). first_refusal ((not b, BadName) ∷ directory_tests t d ++ more)) (is_name name good)

    pub name_refused : (e : Refusal) → as_directory d (t d) ≡ Err e → first_refusal (name_tests t d name more) ≡ Some e
    name_refused e refused = past_name ∙ ap (λ (w : Result ℕ Refusal). first_refusal (refused_walk w ++ more)) refused

    pub name_passes : as_directory d (t d) ≡ Ok d → first_refusal (name_tests t d name more) ≡ first_refusal more
    name_passes ended = past_name ∙ ap (λ (w : Result ℕ Refusal). first_refusal (refused_walk w ++ more)) ended

    pub told_passes : (r : Result (Bor Row) Refusal) → result_map_both (λ _. d) (λ e. e) r ≡ as_directory d (t d) → OnOk r (first_refusal (name_tests t d name more) ≡ first_refusal more)
    told_passes (Ok x) told = name_passes (sym told)
    told_passes (Err e) told = tt

    pub told_refuses : (r : Result (Bor Row) Refusal) → result_map_both (λ _. d) (λ e. e) r ≡ as_directory d (t d) → IfErr r (λ e. first_refusal (name_tests t d name more) ≡ Some e)
    told_refuses (Ok x) told = tt
    told_refuses (Err e) told = name_refused e (sym told)

-- ---- what a name stands for in a directory with a row

-- where its row stands
pub stands_at : (rows : List Row) (d : ℕ) (row : Row) → row_of rows d ≡ Some row → row.kind ≡ Directory → IsDirectoryAt rows d (place_in rows d)
stands_at rows d row at kind r here =
    let both : Some r ≡ Some row = sym here ∙ at_place rows d ∙ at in
    let one : r ≡ row = cc in
    (ap (λ (x : Row). x.inode) one ∙ numbered rows d row at, ap (λ (x : Row). x.kind) one ∙ kind)

module _ (R : Region) (rows : List Row) (d : ℕ) (row : Row) (at : row_of rows d ≡ Some row) (kind : row.kind ≡ Directory) (name : List ℕ) where
  abbrev t : Tree
  t = tree_of R rows

  -- the row of what it stands for
  abbrev listed : Option Row
  listed = option_and_then (row_of rows) (option_map (λ (x : ℕ × ℕ). x.0) (name_at row.names name))

  named_row : option_and_then (row_of rows) (named_in t d name) ≡ listed
  named_row = rows_in_use R rows (name_in t d name) ∙ ap (option_and_then (row_of rows)) (name_in_row R rows d row name (name_at row.names name) at refl)

  pub none_named : listed ≡ None → named_in t d name ≡ None
  none_named none = nowhere R rows (name_in t d name) (named_row ∙ none)

  pub one_named : (target : Row) → listed ≡ Some target → named_in t d name ≡ Some target.inode
  one_named target is = by (named_in t d name) refl (named_row ∙ is) where
    by : (o : Option ℕ) → named_in t d name ≡ o → option_and_then (row_of rows) o ≡ Some target → named_in t d name ≡ Some target.inode
    by None f e = absurd (cc)
    by (Some i) f e = f ∙ ap (λ (j : ℕ). Some j) (sym (numbered rows i target e))

  pub stands_in : (target : Row) → listed ≡ Some target → row_of rows target.inode ≡ Some target → IsNamedIn t rows d (place_in rows d) name (place_in rows target.inode)
  stands_in target is held = record {
    directory = stands_at rows d row at kind;
    leads = λ r there. (let both : Some target ≡ Some r = sym held ∙ sym (at_place rows target.inode) ∙ there in let one : target ≡ r = cc in one_named target is ∙ ap (λ (x : Row). Some x.inode) one);
    named = λ r i here there. (
        let one : r ≡ row = (let both : Some r ≡ Some row = sym here ∙ at_place rows d ∙ at in cc) in
        let other : i ≡ target = (let both : Some i ≡ Some target = sym there ∙ at_place rows target.inode ∙ held in cc) in
        ap (λ (x : Row). option_map (λ (y : ℕ × ℕ). y.0) (name_at x.names name)) one ∙ stands_for rows (name_at row.names name) target (sym is) ∙ ap (λ (x : Row). Some x.inode) (sym other));
  }

  -- the tests once name and directory are good
  module _ (good : IsPathName name) where
    past : (more : Tests) → first_refusal (name_tests t d name more) ≡ first_refusal more
    past more = name_passes t d name more good (sym (directory_told R rows d row at kind))

    -- another has it
    pub spot_taken : (unused : Option ℕ) (target : Row) (more : Tests) → listed ≡ Some target → first_refusal (spot_tests t unused d name more) ≡ Some Exists
    spot_taken unused target more is = past ((is_some (named_in t d name), Exists) ∷ (is_none unused, NoInodes) ∷ more) ∙ ap (λ (o : Option ℕ). first_refusal ((is_some o, Exists) ∷ (is_none unused, NoInodes) ∷ more)) (one_named target is)

    pub spot_told : (unused : Option ℕ) (more : Tests) → listed ≡ None → first_refusal (spot_tests t unused d name more) ≡ first_refusal ((is_none unused, NoInodes) ∷ more)
    spot_told unused more none = past ((is_some (named_in t d name), Exists) ∷ (is_none unused, NoInodes) ∷ more) ∙ ap (λ (o : Option ℕ). first_refusal ((is_some o, Exists) ∷ (is_none unused, NoInodes) ∷ more)) (none_named none)

    pub lookup_missing : (more : Tests) → listed ≡ None → first_refusal (lookup_tests t d name more) ≡ Some NotFound
    lookup_missing more none = past ((is_none (named_in t d name), NotFound) ∷ more) ∙ ap (λ (o : Option ℕ). first_refusal ((is_none o, NotFound) ∷ more)) (none_named none)

    pub lookup_passes : (target : Row) (more : Tests) → listed ≡ Some target → first_refusal (lookup_tests t d name more) ≡ first_refusal more
    lookup_passes target more is = past ((is_none (named_in t d name), NotFound) ∷ more) ∙ ap (λ (o : Option ℕ). first_refusal ((is_none o, NotFound) ∷ more)) (one_named target is)

-- ---- what kind of inode it is

-- an index of which no name is found has none, and any other has some
full : (es : List (List ℕ × ℕ × ℕ)) → (((q : List ℕ) → found_in es q ≡ None) → ⊥) → 0 < length es
full [] some = absurd (some (λ q. refl))
full (x ∷ es) some = omega arith

module _ (R : Region) (rows : List Row) (d : ℕ) (name : List ℕ) (row : Row) (held : row_of rows row.inode ≡ Some row) (place : ℕ) (spot : IsNamedIn (tree_of R rows) rows d place name (place_in rows row.inode)) (more : Tests) where
  abbrev tree : Tree
  tree = tree_of R rows

  named : named_in tree d name ≡ Some row.inode
  named = spot.leads row (at_place rows row.inode ∙ held)

  shows : tree row.inode ≡ Some (node_of R row)
  shows = ap (option_map (node_of R)) held

  is_one : option_map_or (is_directory_at tree) (named_in tree d name) false ≡ is_directory row.kind
  is_one = ap (λ (o : Option ℕ). option_map_or (is_directory_at tree) o false) named ∙ ap (λ (o : Option Node). option_map_or (λ (node : Node). is_directory node.kind) o false) shows

  counts : option_map_or (λ i. nat_lt 0 (count_at tree i)) (named_in tree d name) false ≡ nat_lt 0 (length row.names.names)
  counts = ap (λ (o : Option ℕ). option_map_or (λ i. nat_lt 0 (count_at tree i)) o false) named ∙ ap (λ (o : Option Node). nat_lt 0 (option_map_or (λ (node : Node). node.count) o 0)) shows

  dir_told : (k : Kind) → row.kind ≡ k → first_refusal (is_dir_in tree d name ∷ more) ≡ first_refusal ((is_directory k, IsDirectory) ∷ more)
  dir_told k kind = ap (λ (b : Bool). first_refusal ((b, IsDirectory) ∷ more)) (is_one ∙ ap is_directory kind)

  -- a directory can't be unlinked, and a file can
  pub unlink_directory : row.kind ≡ Directory → first_refusal (is_dir_in tree d name ∷ more) ≡ Some IsDirectory
  unlink_directory kind = dir_told Directory kind

  pub unlink_passes : row.kind ≡ File → first_refusal (is_dir_in tree d name ∷ more) ≡ first_refusal more
  unlink_passes kind = dir_told File kind

  rmdir_told : (k : Kind) (b : Bool) → row.kind ≡ k → nat_lt 0 (length row.names.names) ≡ b
      → first_refusal (is_no_dir_in tree d name ∷ has_names_in tree d name ∷ more) ≡ first_refusal ((not (is_directory k), NotDirectory) ∷ (b, NotEmpty) ∷ more)
  rmdir_told k b kind is =
      ap (λ (a : Bool). first_refusal ((not a, NotDirectory) ∷ has_names_in tree d name ∷ more)) (is_one ∙ ap is_directory kind)
      ∙ ap (λ (a : Bool). first_refusal ((not (is_directory k), NotDirectory) ∷ (a, NotEmpty) ∷ more)) (counts ∙ is)

  -- a file can't go so, nor a directory with names
  pub rmdir_file : row.kind ≡ File → first_refusal (is_no_dir_in tree d name ∷ has_names_in tree d name ∷ more) ≡ Some NotDirectory
  rmdir_file kind = rmdir_told File (nat_lt 0 (length row.names.names)) kind refl

  pub rmdir_full : row.kind ≡ Directory → (((q : List ℕ) → name_at row.names q ≡ None) → ⊥) → first_refusal (is_no_dir_in tree d name ∷ has_names_in tree d name ∷ more) ≡ Some NotEmpty
  rmdir_full kind some = rmdir_told Directory true kind (let low = full row.names.names some in grind (arith, nat_tests, low))

  pub rmdir_passes : row.kind ≡ Directory → ((q : List ℕ) → name_at row.names q ≡ None) → first_refusal (is_no_dir_in tree d name ∷ has_names_in tree d name ∷ more) ≡ first_refusal more
  rmdir_passes kind empty = rmdir_told Directory false kind (ap (nat_lt 0) (empty-found_in row.names.names empty))

-- ---- by the path that leads to the directory

module _ (t : Tree) (first : List ℕ) (names : List (List ℕ)) (d : ℕ) (walked : walk t 1 (first ∷ names) ≡ Ok d) where
  -- a path leads to what its last name stands for there
  pub found_there : found t (first ∷ names) ≡ named_in t d (last_name (first ∷ names))
  found_there = ap (λ (w : Result ℕ Refusal). in_use t (last_in t w (first ∷ names))) walked

  -- and is refused as the name is
  pub tests_by_path : (more : Option ℕ → Tests) → IsPathName (last_name (first ∷ names))
      → first_refusal (is_bad_name (Some (first ∷ names)) ∷ walk_tests t (Some (first ∷ names)) ++ more (found t (first ∷ names))) ≡ first_refusal (name_tests t d (last_name (first ∷ names)) (more (named_in t d (last_name (first ∷ names)))))
  tests_by_path more good =
      ap (λ (w : Result ℕ Refusal). first_refusal ((false, BadName) ∷ refused_walk w ++ more (found t (first ∷ names)))) walked
      ∙ ap (λ (o : Option ℕ). first_refusal (more o)) found_there
      ∙ sym (name_passes t d (last_name (first ∷ names)) (more (named_in t d (last_name (first ∷ names)))) good (walk_ends t 1 d first names walked))

-- ---- what a walk answers

pub bad_first : (p : Path) (more : Tests) → is_bad_name p ≡ (true, BadName) → first_refusal (is_bad_name p ∷ more) ≡ Some BadName
bad_first p more bad = ap (λ (x : Bool × Refusal). first_refusal (x ∷ more)) bad

pub if_ok_by : {A : Type 0} (r : Result (ℕ × A) Refusal) (w : Result ℕ Refusal) → result_map_both (λ x. x.0) (λ e. e) r ≡ w → IfOk r (λ x. w ≡ Ok x.0)
if_ok_by (Ok x) w told = sym told
if_ok_by (Err e) w told = tt

pub if_err_by : {A : Type 0} (r : Result A Refusal) (w : Result ℕ Refusal) (more : Tests) → IfErr r (λ e. w ≡ Err e) → IfErr r (λ e. first_refusal ((false, BadName) ∷ refused_walk w ++ more) ≡ Some e)
if_err_by (Ok x) w more told = tt
if_err_by (Err e) w more told = ap (λ (v : Result ℕ Refusal). first_refusal (refused_walk v ++ more)) told

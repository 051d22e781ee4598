-- Why a move is refused where it looks for its inode and its directories.
use Rattle.std.proofs.Common.{◌≡◌, ℕ, Bool, true, false, ◌&&◌, List, [], ◌∷◌, ◌++◌, append_assoc, length, refl, ap, sym, ◌∙◌, Option, Some, None, Result, Ok, Err, eqb, is_none, is_some, slice_get, option_copied, Bor}
use Rattle.std.specs.List.{Contains, list_any}
use Rattle.std.specs.Option.{option_and_then, option_map, option_map_or}
use Rattle.nv_region.specs.Region.{Region}
use Rattle.nv_super.specs.declared.kind.Kind.{Kind}
use Rattle.nv_super.specs.declared.kind.Kind.TheVariants.{Directory}
use Rattle.nv_super.proofs.Members.{no_member}
use Rattle.nv_scan.specs.declared.piece.Row.{Row}
use Rattle.nv_tree.specs.declared.refusal.Refusal.{Refusal}
use Rattle.nv_tree.specs.declared.refusal.Refusal.TheVariants.{BadName, Exists, IntoItself, NotFound, Stopped}
use Rattle.nv_names.specs.Names.{name_at}
use Rattle.nv_rows.specs.Rows.{IsInUse}
use Rattle.nv_graph.specs.Read.{row_of}
use Rattle.nv_tree.specs.Path.{IsPath, Says, last_name}
use Rattle.nv_tree.specs.Names.{Spells}
use Rattle.nv_tree.specs.Tree.{Node, Tree, found, is_directory, passed, walk}
use Rattle.nv_tree.specs.Refusals.{Path, Tests, first_refusal, is_bad_name, is_directory_at, is_into_itself, is_missing, passes, refused_walk, target as path_target, walk_tests}
use Rattle.nv_paths.specs.MoveSpots.{IsMoveWay, move_tests, rename_spot_tests}
use Rattle.nv_paths.specs.Seen.{LeadsTo, node_of, tree_of}
use Rattle.nv_paths.proofs.CreateTests.{long_text, none, said_names}
use Rattle.nv_paths.proofs.LinkSpots.{found_some}
use Rattle.nv_paths.proofs.NamedAt.{named_found}
use Rattle.nv_paths.proofs.Refusing.{passed_before, refused_before, walk_goes_on}

-- the tests by what both walks and both paths give
abbrev move_told : Result ℕ Refusal → Result ℕ Refusal → Bool → Bool → Bool → Option Refusal
move_told w v missing into there = first_refusal ((false, BadName) ∷ (false, BadName) ∷ refused_walk w ++ refused_walk v ++ (missing, NotFound) ∷ (into, IntoItself) ∷ (there, Exists) ∷ [])

-- the same where the new name may be taken
abbrev way_told : Result ℕ Refusal → Result ℕ Refusal → Bool → Bool → Option Refusal
way_told w v missing into = first_refusal ((false, BadName) ∷ (false, BadName) ∷ refused_walk w ++ refused_walk v ++ (missing, NotFound) ∷ (into, IntoItself) ∷ [])

-- the inode is a directory that the way passes
abbrev pub passes_row : Tree → List (List ℕ) → Row → Bool
passes_row t names row = is_directory row.kind && list_any (eqb row.inode) (passed t 1 names)

-- the tests behind both of the names
abbrev name_tests : Tree → Path → Path → Tests
name_tests t p q = walk_tests t p ++ walk_tests t q ++ is_missing t p ∷ is_into_itself t p q ∷ []

pub bad_first : (t : Tree) (p q : Path) → is_bad_name p ≡ (true, BadName) → first_refusal (move_tests t p q) ≡ Some BadName
bad_first t p q bad = ap (λ (x : Bool × Refusal). first_refusal (x ∷ is_bad_name q ∷ name_tests t p q)) bad

pub bad_second : (t : Tree) (p q : Path) → is_bad_name p ≡ (false, BadName) → is_bad_name q ≡ (true, BadName) → first_refusal (move_tests t p q) ≡ Some BadName
bad_second t p q good bad = ap (λ (x : Bool × Refusal). first_refusal (x ∷ is_bad_name q ∷ name_tests t p q)) good ∙ ap (λ (x : Bool × Refusal). first_refusal (x ∷ name_tests t p q)) bad

module _ (R : Region) (rows : List Row) (name : List ℕ) (names : List (List ℕ)) (other : List ℕ) (others : List (List ℕ)) where
  abbrev t : Tree
  t = tree_of R rows

  abbrev told : Option Refusal
  told = first_refusal (move_tests t (Some (name ∷ names)) (Some (other ∷ others)))

  move_by : {w v : Result ℕ Refusal} {missing into : Bool} → walk t 1 (name ∷ names) ≡ w → walk t 1 (other ∷ others) ≡ v → is_none (found t (name ∷ names)) ≡ missing → (is_into_itself t (Some (name ∷ names)) (Some (other ∷ others))).0 ≡ into
      → told ≡ way_told w v missing into
  move_by a b c d = λ k. way_told (a k) (b k) (c k) (d k)

  pub old_way_refused : (e : Refusal) → walk t 1 (name ∷ names) ≡ Err e → told ≡ Some e
  old_way_refused e w = move_by w refl refl refl

  pub new_way_refused : (d : ℕ) (e : Refusal) → walk t 1 (name ∷ names) ≡ Ok d → walk t 1 (other ∷ others) ≡ Err e → told ≡ Some e
  new_way_refused d e w v = move_by w v refl refl

  module _ (d e : ℕ) (walked : walk t 1 (name ∷ names) ≡ Ok d) (ended : walk t 1 (other ∷ others) ≡ Ok e) where
    pub inode_missing : found t (name ∷ names) ≡ None → told ≡ Some NotFound
    inode_missing none = move_by walked ended (ap (λ (o : Option ℕ). is_none o) none) refl

    module _ (row : Row) (led : LeadsTo t (name ∷ names) row.inode (node_of R row)) where
      here : is_none (found t (name ∷ names)) ≡ false
      here = ap (λ (o : Option ℕ). is_none o) led.leads

      into_is : (b : Bool) → passes_row t (other ∷ others) row ≡ b → (is_into_itself t (Some (name ∷ names)) (Some (other ∷ others))).0 ≡ b
      into_is b is =
          ap (λ (o : Option ℕ). option_map_or (λ i. is_directory_at t i && passes t (Some (other ∷ others)) i) o false) led.leads
          ∙ ap (λ (o : Option Node). option_map_or (λ (node : Node). is_directory node.kind) o false && passes t (Some (other ∷ others)) row.inode) led.shows ∙ is

      pub into_itself : passes_row t (other ∷ others) row ≡ true → told ≡ Some IntoItself
      into_itself is = move_by walked ended here (into_is true is)

      pub move_passes : passes_row t (other ∷ others) row ≡ false → told ≡ None
      move_passes is = move_by walked ended here (into_is false is)

-- ---- the tests behind those of a move

abbrev front_tests : Tree → Path → Path → Tests
front_tests t p q = is_bad_name p ∷ is_bad_name q ∷ walk_tests t p ++ walk_tests t q

abbrev way_last : Tree → Path → Path → Tests
way_last t p q = is_missing t p ∷ is_into_itself t p q ∷ []

module _ (t : Tree) (p q : Path) (more : Tests) where
  with_more : front_tests t p q ++ (way_last t p q ++ more) ≡ move_tests t p q ++ more
  with_more = sym (append_assoc (front_tests t p q) (way_last t p q) more)

  -- what refuses a move refuses it with further tests too
  pub more_refuses : (e : Refusal) → first_refusal (move_tests t p q) ≡ Some e → first_refusal (front_tests t p q ++ (way_last t p q ++ more)) ≡ Some e
  more_refuses e h = ap first_refusal with_more ∙ refused_before (move_tests t p q) more e h

  pub more_allows : first_refusal (move_tests t p q) ≡ None → first_refusal (front_tests t p q ++ (way_last t p q ++ more)) ≡ first_refusal more
  more_allows h = ap first_refusal with_more ∙ passed_before (move_tests t p q) more h

-- ---- what the second path leads to

module _ (R : Region) (rows : List Row) (text name : List ℕ) (d : ℕ) (used : IsInUse rows d) (o : Option (Bor Row)) (some : (first : List ℕ) × (names : List (List ℕ)) × IsPath text (first ∷ names))
    (directory : (names : List (List ℕ)) → Spells text names → (row : Row) → row_of rows d ≡ Some row → (walk (tree_of R rows) 1 names ≡ Ok row.inode) × (row.kind ≡ Directory)) (last : (names : List (List ℕ)) → Spells text names → name ≡ last_name names)
    (to : (row : Row) → row_of rows d ≡ Some row → option_copied o ≡ option_and_then (row_of rows) (option_map (λ (x : ℕ × ℕ). x.0) (name_at row.names name))) where
  pub some_there : (q : Path) → Says text q → is_some (path_target (tree_of R rows) q) ≡ is_some o
  some_there q says = said_names text (λ r. is_some (path_target (tree_of R rows) r) ≡ is_some o) some (long_text text some) (λ first names path. found_some R rows text name d used o (long_text text some) directory last to first names path) q says

  pub leads_there : (k : Bor Row) → o ≡ Some k → (q : Path) → Says text q → path_target (tree_of R rows) q ≡ Some k.now.inode
  leads_there k is q says = said_names text (λ r. path_target (tree_of R rows) r ≡ Some k.now.inode) some (long_text text some) (λ first names path. named_found R rows text name d used o (long_text text some) directory last to first names path k is) q says

  pub leads_nowhere : o ≡ None → (q : Path) → Says text q → path_target (tree_of R rows) q ≡ None
  leads_nowhere is q says = said_names text (λ r. path_target (tree_of R rows) r ≡ None) some (long_text text some) (λ first names path. none R rows text name d used o (long_text text some) directory last to first names path is) q says

-- what the first leads to, by the way of the move
pub first_leads : (R : Region) (rows : List Row) (old new : List ℕ) (paths : ((name : List ℕ) × (names : List (List ℕ)) × IsPath old (name ∷ names)) × ((name : List ℕ) × (names : List (List ℕ)) × IsPath new (name ∷ names))) {place target end : ℕ} {name other : List ℕ}
    → ((names others : List (List ℕ)) → IsPath old names → IsPath new others → IsMoveWay (tree_of R rows) rows names others place name target end other) → (row : Row) → slice_get rows target ≡ Some row → (p : Path) → Says old p → path_target (tree_of R rows) p ≡ Some row.inode
first_leads R rows old new paths way row at p says =
    let second = paths.1 in
    said_names old (λ r. path_target (tree_of R rows) r ≡ Some row.inode) paths.0 (long_text old paths.0) (λ first names path. (let w = way (first ∷ names) (second.0 ∷ second.1) path second.2 in let from = w.from in from.leads row at)) p says

-- no test answers `Stopped`
pub move_goes_on : (t : Tree) (p q : Path) → first_refusal (rename_spot_tests t p q) ≡ Some Stopped → ⊥
move_goes_on t None q e = absurd (cc)
move_goes_on t (Some []) q e = absurd (cc)
move_goes_on t (Some (name ∷ names)) None e = absurd (cc)
move_goes_on t (Some (name ∷ names)) (Some []) e = absurd (cc)
move_goes_on t (Some (name ∷ names)) (Some (other ∷ others)) e =
    by (walk t 1 (name ∷ names)) (walk_goes_on t 1 (name ∷ names)) (walk t 1 (other ∷ others)) (walk_goes_on t 1 (other ∷ others)) (is_none (found t (name ∷ names))) (is_into_itself t (Some (name ∷ names)) (Some (other ∷ others))).0 (is_some (found t (other ∷ others))) e where
      by : (w : Result ℕ Refusal) → (w ≡ Err Stopped → ⊥) → (v : Result ℕ Refusal) → (v ≡ Err Stopped → ⊥) → (missing into there : Bool) → move_told w v missing into there ≡ Some Stopped → ⊥
      by (Err r) off v on a b c e = off (let same : r ≡ Stopped = cc in ap (λ (x : Refusal). Err x) same)
      by (Ok k) off (Err r) on a b c e = on (let same : r ≡ Stopped = cc in ap (λ (x : Refusal). Err x) same)
      by (Ok k) off (Ok j) on true b c e = absurd (cc)
      by (Ok k) off (Ok j) on false true c e = absurd (cc)
      by (Ok k) off (Ok j) on false false true e = absurd (cc)
      by (Ok k) off (Ok j) on false false false e = absurd (cc)

-- what holds of each two paths with names, where both texts are such
pub said_two : (old new : List ℕ) (Q : Path → Path → Type 0) → (name : List ℕ) × (names : List (List ℕ)) × IsPath old (name ∷ names) → (length old ≡ 1 → ⊥) → (name : List ℕ) × (names : List (List ℕ)) × IsPath new (name ∷ names) → (length new ≡ 1 → ⊥)
    → ((name : List ℕ) (names : List (List ℕ)) (other : List ℕ) (others : List (List ℕ)) → IsPath old (name ∷ names) → IsPath new (other ∷ others) → Q (Some (name ∷ names)) (Some (other ∷ others))) → (p q : Path) → Says old p → Says new q → Q p q
said_two old new Q some long some_new long_new each p q says says_new =
    said_names old (λ r. Q r q) some long (λ name names path. said_names new (λ r. Q (Some (name ∷ names)) r) some_new long_new (λ other others other_path. each name names other others path other_path) q says_new) p says

-- A directory that the way doesn't pass isn't on it.
pub not_passed : (t : Tree) (names : List (List ℕ)) (row : Row) → passes_row t names row ≡ false → row.kind ≡ Directory → Contains (passed t 1 names) row.inode → ⊥
not_passed t names row off directory = no_member (passed t 1 names) row.inode (sym (ap (λ (k : Kind). is_directory k && list_any (eqb row.inode) (passed t 1 names)) directory) ∙ off)

-- What `set_size` answers, and what it leaves.
use Rattle.std.proofs.Common.{◌≡◌, ℕ, ◌<◌, ◌≤◌, Bool, true, false, cond, nat_lt, List, [], ◌∷◌, ◌++◌, append_assoc, length, refl, ap, sym, ◌∙◌, subst, Option, Some, None}
use Rattle.std.specs.Option.{option_map, option_map_or}
use Rattle.std.proofs.lemmas.Option.{same_Some}
use Rattle.nv_region.specs.Region.{Region}
use Rattle.nv_super.specs.declared.kind.Kind.{Kind}
use Rattle.nv_super.specs.declared.kind.Kind.TheVariants.{File, Directory}
use Rattle.nv_alloc.specs.Taking.{all_blocks}
use Rattle.nv_names.specs.Names.{Names, name_at}
use Rattle.nv_scan.specs.declared.piece.Row.{Row}
use Rattle.nv_graph.specs.Read.{row_of}
use Rattle.nv_mounted.specs.Held.{Held, Store}
use Rattle.nv_mounted.specs.Mounted.{ShowsSound}
use Rattle.nv_tree.specs.declared.refusal.Refusal.{Refusal}
use Rattle.nv_tree.specs.declared.refusal.Refusal.TheVariants.{IsDirectory, Stopped, TooLarge}
use Rattle.nv_tree.specs.Path.{IsPath, Says}
use Rattle.nv_tree.specs.Tree.{Node, SameNode, Tree, is_directory}
use Rattle.nv_tree.specs.Calls.{with_size}
use Rattle.nv_tree.specs.Refusals.{Path, Tests, first_refusal, has_no_space, is_bad, is_dir, is_directory_at, is_missing, is_too_large, stat_tests, walk_tests, writing, IsRefusedBy}
use Rattle.nv_calls.specs.Mount.{Mount}
use Rattle.nv_paths.specs.Seen.{LeadsTo, node_of, tree_of}
use Rattle.nv_steps.specs.Sizes.{HasSize, SameBytes, sized}
use Rattle.nv_calls.specs.ChangesByNumber.{logs_inode_size, resize_inode_tests, resized_inode_blocks, set_size_inode_tests}
use Rattle.nv_calls.specs.SizeCall.{ShowsResizedLog, size_blocks}
use Rattle.nv_steps.specs.Steps.{RefusesStep}
use Rattle.nv_calls.specs.World.{world_of}
use Rattle.nv_calls.proofs.Numbered.{file_allows, file_refuses}
use Rattle.nv_calls.proofs.Tests.{space_allows, space_refuses, stat_first, stat_goes_on}
use Rattle.nv_paths.proofs.Refusing.{passed_before, refused_before}

-- ---- the tests before that of the space

-- those of `stat`, and then of the kind and of the size
abbrev pub front_tests : Tree → Path → ℕ → Tests
front_tests t p size = stat_tests t p ++ is_dir t p ∷ is_too_large size ∷ []

-- with that of the space
abbrev pub set_tests : Tree → Path → ℕ → Bool × Refusal → Tests
set_tests t p size space = is_bad p ∷ walk_tests t p ++ is_missing t p ∷ is_dir t p ∷ is_too_large size ∷ space ∷ []

pub all_tests : (t : Tree) (p : Path) (size : ℕ) (space : Bool × Refusal) → set_tests t p size space ≡ front_tests t p size ++ space ∷ []
all_tests t p size space = stat_first t p (is_dir t p ∷ is_too_large size ∷ space ∷ []) ∙ sym (append_assoc (stat_tests t p) (is_dir t p ∷ is_too_large size ∷ []) (space ∷ []))

-- whether the inode is a directory, by its row
dir_there : (t : Tree) (names : List (List ℕ)) (i : ℕ) (node : Node) → LeadsTo t names i node → is_dir t (Some names) ≡ (is_directory node.kind, IsDirectory)
dir_there t names i node led = ap (λ (b : Bool). (b, IsDirectory)) (
    ap (λ (o : Option ℕ). option_map_or (is_directory_at t) o false) led.leads ∙ ap (λ (o : Option Node). option_map_or (λ (n : Node). is_directory n.kind) o false) led.shows)

-- What refuses a file a size, where `stat` isn't refused.
pub front_is : (t : Tree) (p : Path) (text : List ℕ) (i : ℕ) (node : Node) (size : ℕ) → Says text p → ((names : List (List ℕ)) → IsPath text names → LeadsTo t names i node) → first_refusal (stat_tests t p) ≡ None
    → first_refusal (front_tests t p size) ≡ first_refusal ((is_directory node.kind, IsDirectory) ∷ is_too_large size ∷ [])
front_is t None text i node size says leads none = absurd (cc)
front_is t (Some names) text i node size says leads none =
    passed_before (stat_tests t (Some names)) (is_dir t (Some names) ∷ is_too_large size ∷ []) none ∙ ap (λ (test : Bool × Refusal). first_refusal (test ∷ is_too_large size ∷ [])) (dir_there t names i node (leads names says))

-- what isn't refused a size is a file
pub file_by : (k : Kind) (size : ℕ) → first_refusal ((is_directory k, IsDirectory) ∷ is_too_large size ∷ []) ≡ None → k ≡ File
file_by File size none = refl
file_by Directory size none = absurd (cc)

pub front_refused : (t : Tree) (p : Path) (size : ℕ) (e : Refusal) → first_refusal (stat_tests t p) ≡ Some e → first_refusal (front_tests t p size) ≡ Some e
front_refused t p size e h = refused_before (stat_tests t p) (is_dir t p ∷ is_too_large size ∷ []) e h

-- None of them answers `Stopped`.
pub front_goes_on : (t : Tree) (p : Path) (size : ℕ) → first_refusal (front_tests t p size) ≡ Some Stopped → ⊥
front_goes_on t p size e = by (first_refusal (stat_tests t p)) refl where
  two : (a b : Bool) → cond a (Some IsDirectory) (cond b (Some TooLarge) None) ≡ Some Stopped → ⊥
  two true b h = absurd (cc)
  two false true h = absurd (cc)
  two false false h = absurd (cc)

  by : (o : Option Refusal) → first_refusal (stat_tests t p) ≡ o → ⊥
  by None is = two (is_dir t p).0 (nat_lt 1073741824 size) (sym (passed_before (stat_tests t p) (is_dir t p ∷ is_too_large size ∷ []) is) ∙ e)
  by (Some r) is = stat_goes_on t p (is ∙ (let both : Some r ≡ Some Stopped = sym (front_refused t p size r is) ∙ e in both))

-- ---- why it is refused

module _ {P : Type 0} (region : P → Region) {n m : Mount P} (same : n ≡ m) (cpu size : ℕ) (passed : (tests : Tests) → first_refusal (writing (world_of m) cpu tests) ≡ first_refusal tests) (i : ℕ) where
  abbrev tests : Mount P → Option Refusal
  tests k = first_refusal (set_size_inode_tests (world_of k) (tree_of (region k.memory) k.rows) cpu i size (resized_inode_blocks k.rows i size))

  -- What refuses the file refuses the call.
  pub size_front : (e : Refusal) → first_refusal (resize_inode_tests (tree_of (region n.memory) n.rows) i size) ≡ Some e → tests m ≡ Some e
  size_front e h = subst (λ (k : Mount P). tests k ≡ Some e) same (file_refuses region same cpu size (resized_inode_blocks n.rows i size) passed i e h)

  module _ (row : Row) (is : row_of n.rows i ≡ Some row) (none : first_refusal (resize_inode_tests (tree_of (region n.memory) n.rows) i size) ≡ None) where
    at_last : tests n ≡ first_refusal (has_no_space (world_of n) (size_blocks row size) ∷ [])
    at_last =
        file_allows region same cpu size (resized_inode_blocks n.rows i size) passed i none
        ∙ ap (λ (o : Option Row). first_refusal (has_no_space (world_of n) (option_map_or (λ (r : Row). size_blocks r size) o 0) ∷ [])) is

    -- No test refuses it where there are enough blocks.
    pub size_allowed : size_blocks row size ≤ all_blocks n.free.pools → tests m ≡ None
    size_allowed enough = space_allows same tests (size_blocks row size) at_last enough

    -- Where its step was refused, so is the call.
    pub size_refused : (e : Refusal) → RefusesStep e (size_blocks row size) n.free → IsRefusedBy (tests m) e
    size_refused e refused = space_refuses same tests (size_blocks row size) at_last e refused

-- ---- what it leaves

-- The node has the size, and the bytes of before up to it.
pub resized_node : (R S : Region) {row new : Row} (size time : ℕ) → HasSize row (sized (node_of R row) size time) new → SameBytes R S row new size → SameNode (node_of S new) (with_size size time (node_of R row))
resized_node R S {row} {new} size time has bytes = record {
  kind = has.kind;
  mode = has.mode;
  owner = has.owner;
  group = has.group;
  size = has.size;
  links = has.links;
  time = has.time;
  count = ap (λ (n : Names). length n.names) has.names;
  names = λ q. ap (λ (n : Names). option_map (λ (y : ℕ × ℕ). y.0) (name_at n q)) has.names;
  bytes = λ x below. bytes x (subst (λ (z : ℕ). x < z) has.size below);
}

-- The log of the file has grown.
pub size_logged : {P : Type 0} (region : P → Region) {n m : Mount P} {cpu : ℕ} → n ≡ m → (S : Region) (row : Row) (size time i : ℕ) → row_of n.rows i ≡ Some row → row.inode ≡ i
    → ((st : Store) (g : Held) → ShowsSound (region n.memory) n.layout st → st row.inode ≡ Some g → ShowsResizedLog S n.layout n.free.pools cpu st row.inode g (node_of (region n.memory) row) size time)
    → logs_inode_size cpu size time i (region m.memory) m S
size_logged {P} region {n} {m} {cpu} same S row size time i is number grew =
    subst (λ (k : Mount P). logs_inode_size cpu size time i (region k.memory) k S) same (λ node held h shows sound holds.
    let one : node_of (region n.memory) row ≡ node = same_Some _ _ (sym (ap (option_map (node_of (region n.memory))) is) ∙ shows) in
    subst (λ (k : ℕ). ShowsResizedLog S n.layout n.free.pools cpu held k h node size time) number
    (subst (λ (nd : Node). ShowsResizedLog S n.layout n.free.pools cpu held row.inode h nd size time) one (grew held h sound (subst (λ (k : ℕ). held k ≡ Some h) (sym number) holds))))

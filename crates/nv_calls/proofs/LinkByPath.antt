-- What `link` answers and makes, by what the call does on the file and the directory that its paths lead to.
use Rattle.std.proofs.Common.{◌≡◌, ◌∙◌, ℕ, ◌+◌, ◌++◌, ◌∷◌, [], false, nat_le, is_none, is_some, List, ap, sym, subst, refl, Option, Some, None, Result, Ok}
use Rattle.std.specs.Option.{option_map_or}
use Rattle.std.proofs.lemmas.Option.{same_Some}
use Rattle.nv_region.specs.Region.{Region}
use Rattle.nv_super.specs.Layout.{most_links}
use Rattle.nv_entry.specs.declared.entry.Operation.TheVariants.{Add}
use Rattle.nv_graph.specs.Read.{row_of}
use Rattle.nv_tree.specs.declared.refusal.Refusal.{Refusal}
use Rattle.nv_tree.specs.declared.refusal.Refusal.TheVariants.{BadName, Exists, IsDirectory, LinkLimit, NotFound}
use Rattle.nv_tree.specs.Path.{IsPath, Says, last_name}
use Rattle.nv_tree.specs.Tree.{Node, Tree, found, last_in, walk}
use Rattle.nv_tree.proofs.Leads.{used_now}
use Rattle.nv_tree.specs.Calls.{edit, linked, links_at, on_ok, on_some, with_links, with_name}
use Rattle.nv_tree.specs.Refusals.{Path, Tests, first_refusal, has_no_space, is_directory_at, link_tests, refused_walk}
use Rattle.nv_steps.specs.NameEntries.{links_entries, name_entries}
use Rattle.nv_paths.specs.Directories.{name_tests, named_in}
use Rattle.nv_paths.specs.Seen.{LeadsTo, tree_of}
use Rattle.nv_paths.proofs.CreateTests.{last_is_name, long_text}
use Rattle.nv_paths.proofs.Directories.{found_there, name_passes}
use Rattle.nv_paths.proofs.LinkSpots.{said_both}
use Rattle.nv_paths.proofs.Walks.{walk_ends}
use Rattle.nv_calls.specs.LinkCalls.{link_blocks}
use Rattle.nv_calls.specs.Mount.{Mount}
use Rattle.nv_calls.specs.NameCalls.{ended_row, row_blocks}
use Rattle.nv_calls.specs.NamesByNumber.{entry_blocks, link_inode_blocks, link_inode_tests, linked_in}
use Rattle.nv_calls.specs.World.{world_of}
use Rattle.nv_calls.proofs.NamesByPath.{at_ended, under_writing}

-- ---- where the paths lead

-- told of a mount, by what it is equal to
pub same_found : {P : Type 0} (region : P → Region) {n m : Mount P} → n ≡ m → (i : ℕ) (text : List ℕ) → ((names : List (List ℕ)) → IsPath text names → found (tree_of (region n.memory) n.rows) names ≡ Some i)
    → (names : List (List ℕ)) → IsPath text names → found (tree_of (region m.memory) m.rows) names ≡ Some i
same_found {P} region same i text leads = subst (λ (k : Mount P). (names : List (List ℕ)) → IsPath text names → found (tree_of (region k.memory) k.rows) names ≡ Some i) same leads

pub same_walk : {P : Type 0} (region : P → Region) {n m : Mount P} → n ≡ m → (text : List ℕ) → ((names : List (List ℕ)) → IsPath text names → (d : ℕ) × (walk (tree_of (region n.memory) n.rows) 1 names ≡ Ok d))
    → (names : List (List ℕ)) → IsPath text names → (d : ℕ) × (walk (tree_of (region m.memory) m.rows) 1 names ≡ Ok d)
same_walk {P} region same text walked = subst (λ (k : Mount P). (names : List (List ℕ)) → IsPath text names → (d : ℕ) × (walk (tree_of (region k.memory) k.rows) 1 names ≡ Ok d)) same walked

-- What holds of a file, a directory and a name holds of where two paths lead.
pub at_linked : (t : Tree) (names others : List (List ℕ)) {i j d e : ℕ} {name : List ℕ} {node : Node} → found t names ≡ Some i → LeadsTo t names j node → walk t 1 others ≡ Ok d → walk t 1 others ≡ Ok e → name ≡ last_name others
    → (Q : ℕ → ℕ → List ℕ → Type 0) → (t i ≡ Some node → Q i d name) → Q j e (last_name others)
at_linked t names others {i} {j} {d} {e} {name} {node} leads led ended walked last Q holds =
    let one : i ≡ j = same_Some _ _ (sym leads ∙ led.leads) in
    at_ended t others ended walked last (Q j) (subst (λ (k : ℕ). Q k d name) one (holds (ap t one ∙ led.shows)))

-- ---- what it makes

pub linked_by_path : (t : Tree) (i d : ℕ) (name : List ℕ) (time : ℕ) (names others : List (List ℕ)) → found t names ≡ Some i → walk t 1 others ≡ Ok d → name ≡ last_name others → linked_in i d name time t ≡ linked names others time t
linked_by_path t i d name time names others leads ended last =
    ap (λ (q : List ℕ). linked_in i d q time t) last
    ∙ sym (ap (λ (o : Option ℕ). on_some o (λ k. on_ok (walk t 1 others) (λ e. edit e (with_name (last_name others) k time) (edit k (with_links (links_at t k + 1) time) t)) t) t) leads
    ∙ ap (λ (w : Result ℕ Refusal). on_ok w (λ e. edit e (with_name (last_name others) i time) (edit i (with_links (links_at t i + 1) time) t)) t) ended)

-- ---- why it is refused

-- what a path leads to is in use
in_use_there : (t : Tree) (names : List (List ℕ)) (i : ℕ) → found t names ≡ Some i → t i ≡ None → ⊥
in_use_there t [] i leads none = (let w = used_now t (Some 1) i leads in let clash : Some w.0 ≡ None = sym w.2 ∙ none in cc)
in_use_there t (name ∷ names) i leads none = (let w = used_now t (last_in t (walk t 1 (name ∷ names)) (name ∷ names)) i leads in let clash : Some w.0 ≡ None = sym w.2 ∙ none in cc)

-- the tests behind those of each writing call, by where both walks end and what the names stand for
abbrev link_list : Tree → Result ℕ Refusal → Result ℕ Refusal → Option ℕ → Option ℕ → Tests → Tests
link_list t w v o there more = (false, BadName) ∷ (false, BadName) ∷ refused_walk w ++ refused_walk v ++ (is_none o, NotFound) ∷ (option_map_or (is_directory_at t) o false, IsDirectory) ∷ (is_some there, Exists)
    ∷ (option_map_or (λ i. nat_le most_links (links_at t i)) o false, LinkLimit) ∷ more

abbrev link_told : Tree → Result ℕ Refusal → Result ℕ Refusal → Option ℕ → Option ℕ → Tests → Option Refusal
link_told t w v o there more = first_refusal (link_list t w v o there more)

module _ {P : Type 0} (region : P → Region) (m : Mount P) (cpu i d : ℕ) (old new name : List ℕ) (some : ((names : List (List ℕ)) × IsPath old names) × ((first : List ℕ) × (names : List (List ℕ)) × IsPath new (first ∷ names)))
    (walked : (names : List (List ℕ)) → IsPath old names → (e : ℕ) × (walk (tree_of (region m.memory) m.rows) 1 names ≡ Ok e)) (leads : (names : List (List ℕ)) → IsPath old names → found (tree_of (region m.memory) m.rows) names ≡ Some i)
    (ended : (names : List (List ℕ)) → IsPath new names → walk (tree_of (region m.memory) m.rows) 1 names ≡ Ok d) (last : (names : List (List ℕ)) → IsPath new names → name ≡ last_name names) where
  abbrev t : Tree
  t = tree_of (region m.memory) m.rows

  module _ (names : List (List ℕ)) (other : List ℕ) (others : List (List ℕ)) (path : IsPath old names) (other_path : IsPath new (other ∷ others)) where
    abbrev q : List ℕ
    q = last_name (other ∷ others)

    abbrev count : ℕ
    count = link_inode_blocks m.rows i d q

    abbrev space : Tests
    space = has_no_space (world_of m) count ∷ []

    blocks_there : link_blocks m.rows t (Some names) (Some (other ∷ others)) ≡ count
    blocks_there =
        ap (λ (o : Option ℕ). option_map_or (λ k. row_blocks (row_of m.rows k) (links_entries 0 0)) o 0 + row_blocks (ended_row m.rows (walk t 1 (other ∷ others))) (name_entries Add 0 q 0)) (leads names path)
        ∙ ap (λ (w : Result ℕ Refusal). row_blocks (row_of m.rows i) (links_entries 0 0) + row_blocks (ended_row m.rows w) (name_entries Add 0 q 0)) (ended (other ∷ others) other_path)

    -- the file's tests, where its number is that of an inode in use
    file_told : (there : Option ℕ) → (x : Option Node) → t i ≡ x → found t names ≡ Some i → link_told t (Ok 0) (Ok d) (Some i) there space ≡ first_refusal ((is_none x, NotFound) ∷ (is_directory_at t i, IsDirectory) ∷ (is_some there, Exists) ∷ (nat_le most_links (links_at t i), LinkLimit) ∷ space)
    file_told there None is found_it = absurd (in_use_there t names i found_it is)
    file_told there (Some node) is found_it = refl

    told_by : {w v : Result ℕ Refusal} {o there : Option ℕ} → walk t 1 names ≡ w → walk t 1 (other ∷ others) ≡ v → found t names ≡ o → found t (other ∷ others) ≡ there
        → link_told t (walk t 1 names) (walk t 1 (other ∷ others)) (found t names) (found t (other ∷ others)) space ≡ link_told t w v o there space
    told_by a b c e = λ k. link_told t (a k) (b k) (c k) (e k) space

    tests_there : first_refusal (link_tests (world_of m) t cpu (Some names) (Some (other ∷ others)) count) ≡ first_refusal (link_inode_tests (world_of m) t cpu i d q count)
    tests_there =
        let file : Tests = (is_none (t i), NotFound) ∷ (is_directory_at t i, IsDirectory) ∷ (is_some (named_in t d q), Exists) ∷ (nat_le most_links (links_at t i), LinkLimit) ∷ space in
        under_writing (world_of m) cpu (link_list t (walk t 1 names) (walk t 1 (other ∷ others)) (found t names) (found t (other ∷ others)) space) (name_tests t d q file) (
        told_by (walked names path).1 (ended (other ∷ others) other_path) (leads names path) (found_there t other others d (ended (other ∷ others) other_path))
        ∙ file_told (named_in t d q) (t i) refl (leads names path)
        ∙ sym (name_passes t d q file (last_is_name other others other_path.good) (walk_ends t 1 d other others (ended (other ∷ others) other_path))))

  pub link_by_path : (p r : Path) → Says old p → Says new r
      → first_refusal (link_tests (world_of m) t cpu p r (link_blocks m.rows t p r)) ≡ first_refusal (link_inode_tests (world_of m) t cpu i d name (link_inode_blocks m.rows i d name))
  link_by_path = said_both old new (λ (p r : Path). first_refusal (link_tests (world_of m) t cpu p r (link_blocks m.rows t p r)) ≡ first_refusal (link_inode_tests (world_of m) t cpu i d name (link_inode_blocks m.rows i d name))) some.0 some.1 (long_text new some.1) (λ names other others path other_path.
      ap (λ (k : ℕ). first_refusal (link_tests (world_of m) t cpu (Some names) (Some (other ∷ others)) k)) (blocks_there names other others path other_path)
      ∙ tests_there names other others path other_path
      ∙ ap (λ (x : List ℕ). first_refusal (link_inode_tests (world_of m) t cpu i d x (link_inode_blocks m.rows i d x))) (sym (last (other ∷ others) other_path)))

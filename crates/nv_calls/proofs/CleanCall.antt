-- What `clean` answers, and what it leaves.
use Rattle.std.proofs.Common.{◌≡◌, ◌⊎◌, inl, inr, ℕ, Bool, true, false, cond, List, [], ◌∷◌, ap, sym, ◌∙◌, subst, Option, Some, None, is_none}
use Rattle.std.specs.Option.{option_map}
use Rattle.nv_region.specs.Region.{Region}
use Rattle.nv_scan.specs.declared.piece.Row.{Row}
use Rattle.nv_graph.specs.Read.{row_of}
use Rattle.nv_mounted.specs.Held.{Held, Store}
use Rattle.nv_mounted.specs.Mounted.{ShowsSound}
use Rattle.nv_tree.specs.declared.refusal.Refusal.{Refusal}
use Rattle.nv_tree.specs.declared.refusal.Refusal.TheVariants.{Memory, NotFound, ReadOnly, Stopped}
use Rattle.nv_tree.specs.Tree.{SameTree}
use Rattle.nv_tree.specs.Refusals.{Path, clean_tests, first_refusal, stat_tests, IsRefusedBy}
use Rattle.nv_paths.specs.Seen.{node_of, tree_of}
use Rattle.nv_calls.specs.CleanCall.{IsKnown, ShowsCleaned, clean_inode_tests}
use Rattle.nv_calls.specs.Mount.{Mount}
use Rattle.nv_calls.specs.World.{world_of}

-- What the tests of `stat` say is said, where the mount may be written.
pub tests_said : {P : Type 0} (region : P → Region) {n m : Mount P} → n ≡ m → n.read_only ≡ false → (p : Path) (o : Option Refusal) → first_refusal (stat_tests (tree_of (region n.memory) n.rows) p) ≡ o
    → first_refusal (clean_tests (world_of m) (tree_of (region m.memory) m.rows) p) ≡ o
tests_said {P} region {n} {m} same writes p o said =
    subst (λ (k : Mount P). first_refusal (clean_tests (world_of k) (tree_of (region k.memory) k.rows) p) ≡ o) same
    (ap (λ (b : Bool). cond b (Some ReadOnly) (first_refusal (stat_tests (tree_of (region n.memory) n.rows) p))) writes ∙ said)

-- A read-only mount isn't a stopped one.
pub no_stop : (b : Bool) → first_refusal ((b, ReadOnly) ∷ []) ≡ Some Stopped → ⊥
no_stop true e = absurd (cc)
no_stop false e = absurd (cc)

-- the tree is as it was
pub tree_stays : {P : Type 0} (region : P → Region) {n m : Mount P} → n ≡ m → (S : Region) (rows : List Row) → SameTree (tree_of S rows) (tree_of (region n.memory) n.rows) → SameTree (tree_of S rows) (tree_of (region m.memory) m.rows)
tree_stays {P} region same S rows is = subst (λ (k : Mount P). SameTree (tree_of S rows) (tree_of (region k.memory) k.rows)) same is

-- why `clean_inode` is refused, and when it isn't
pub inode_missing : {P : Type 0} (region : P → Region) {n m : Mount P} → n ≡ m → n.read_only ≡ false → (i : ℕ) → row_of n.rows i ≡ None → first_refusal (clean_inode_tests (world_of m) (tree_of (region m.memory) m.rows) i) ≡ Some NotFound
inode_missing {P} region {n} {m} same writes i none =
    subst (λ (k : Mount P). first_refusal (clean_inode_tests (world_of k) (tree_of (region k.memory) k.rows) i) ≡ Some NotFound) same
    (ap (λ (b : Bool). cond b (Some ReadOnly) (first_refusal ((is_none (tree_of (region n.memory) n.rows i), NotFound) ∷ []))) writes
    ∙ ap (λ (o : Option Row). first_refusal ((is_none (option_map (node_of (region n.memory)) o), NotFound) ∷ [])) none)

pub inode_there : {P : Type 0} (region : P → Region) {n m : Mount P} → n ≡ m → n.read_only ≡ false → (i : ℕ) (row : Row) → row_of n.rows i ≡ Some row → first_refusal (clean_inode_tests (world_of m) (tree_of (region m.memory) m.rows) i) ≡ None
inode_there {P} region {n} {m} same writes i row there =
    subst (λ (k : Mount P). first_refusal (clean_inode_tests (world_of k) (tree_of (region k.memory) k.rows) i) ≡ None) same
    (ap (λ (b : Bool). cond b (Some ReadOnly) (first_refusal ((is_none (tree_of (region n.memory) n.rows i), NotFound) ∷ []))) writes
    ∙ ap (λ (o : Option Row). first_refusal ((is_none (option_map (node_of (region n.memory)) o), NotFound) ∷ [])) there)

-- Which page of the log of an inode went, by its number.
pub number_told : {P : Type 0} (region : P → Region) {n m : Mount P} → n ≡ m → (S : Region) (row : Row) (i : ℕ) (held : Store) (h : Held) (block : Option ℕ) → row.inode ≡ i
    → ((st : Store) (g : Held) → ShowsSound (region n.memory) n.layout st → st row.inode ≡ Some g → ShowsCleaned (region n.memory) S n.layout st row.inode g block)
    → ShowsSound (region m.memory) m.layout held → held i ≡ Some h → ShowsCleaned (region m.memory) S m.layout held i h block
number_told {P} region {n} {m} same S row i held h block number told sound is =
    subst (λ (k : Mount P). ShowsSound (region k.memory) k.layout held → ShowsCleaned (region k.memory) S k.layout held i h block) same
    (λ shows. subst (λ (k : ℕ). ShowsCleaned (region n.memory) S n.layout held k h block) number (told held h shows (subst (λ (k : ℕ). held k ≡ Some h) (sym number) is))) sound

-- What is known of a page is so of the row of the inode.
pub known_here : {P : Type 0} (region : P → Region) {n m : Mount P} → n ≡ m → {i j : ℕ} (known : Option ℕ) → i ≡ j → IsKnown (region m.memory) m.layout j known → IsKnown (region n.memory) n.layout i known
known_here {P} region {n} {m} same {i} {j} known number is = subst (λ (q : ℕ). IsKnown (region n.memory) n.layout q known) (sym number) (subst (λ (k : Mount P). IsKnown (region k.memory) k.layout j known) (sym same) is)

-- A step that was refused is so for memory, where no test holds, or since it was stopped.
pub step_refused : (first : Option Refusal) (e : Refusal) → first ≡ None → (e ≡ Memory) ⊎ (e ≡ Stopped) → IsRefusedBy first e
step_refused first e none (inl memory) = inl (memory, inl none)
step_refused first e none (inr stopped) = inr (inl stopped)

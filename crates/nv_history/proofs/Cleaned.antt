-- What `clean` leaves of a log, of whatever a region shows, is said of something: a mount without faults shows something.
use Rattle.std.proofs.Common.{◌≡◌, ℕ, Bool, true, false, cond, is_none, is_some, IsTrue, List, [], ◌∷◌, ◌++◌, Option, Some, None, Result, Ok, Err, IfOk, OnOk, refl, sym, ap, subst, ◌∙◌}
use Rattle.std.proofs.Math.Logic.{∥∥₁_map}
use Rattle.std.specs.List.{Contains}
use Rattle.std.specs.Option.{option_map}
use Rattle.nv_region.specs.Region.{Region}
use Rattle.nv_super.proofs.Members.{stands}
use Rattle.nv_scan.specs.declared.piece.Row.{Row}
use Rattle.nv_mounted.specs.Held.{Held, Store}
use Rattle.nv_mounted.specs.Mounted.{IsMounted, ShowsSound}
use Rattle.nv_graph.specs.Read.{row_of}
use Rattle.nv_rows.specs.Rows.{place_in}
use Rattle.nv_rows.proofs.Places.{at_place, numbered}
use Rattle.nv_tree.specs.Tree.{Node, Tree, found, in_use, last_in, walk}
use Rattle.nv_tree.specs.Refusals.{Path, Tests, clean_tests, first_refusal, is_bad, is_missing, stat_tests, target, walk_tests}
use Rattle.nv_tree.specs.declared.refusal.Refusal.{Refusal}
use Rattle.nv_tree.specs.declared.refusal.Refusal.TheVariants.{ReadOnly, Stopped}
use Rattle.nv_paths.specs.Seen.{LeadsTo, node_of, tree_of}
use Rattle.nv_calls.specs.CleanCall.{ShowsCleaned}
use Rattle.nv_calls.specs.Mount.{IsKept, Mount}
use Rattle.nv_calls.specs.World.{world_of}
use Rattle.nv_calls.proofs.Allowed.{first_passes, later_passes}
use Rattle.nv_calls.proofs.Mounts.{mounted_of_kept}
use Rattle.nv_history.specs.Called.{FindsPage, finds_page}

not_true : (b : Bool) → (IsTrue b → ⊥) → b ≡ false
not_true true never = absurd (never refl)
not_true false never = refl

in_use_there : (t : Tree) (o : Option ℕ) (i : ℕ) → in_use t o ≡ Some i → is_some (t i) ≡ true
in_use_there t None i is = absurd (cc)
in_use_there t (Some j) i is = by (is_some (t j)) refl is where
  by : (b : Bool) → is_some (t j) ≡ b → cond b (Some j) None ≡ Some i → is_some (t i) ≡ true
  by true used is = (let same : j ≡ i = cc in subst (λ (n : ℕ). is_some (t n) ≡ true) same used)
  by false used is = absurd (cc)

pub target_there : (t : Tree) (p : Path) (i : ℕ) → target t p ≡ Some i → is_some (t i) ≡ true
target_there t None i is = absurd (cc)
target_there t (Some []) i is = in_use_there t (Some 1) i is
target_there t (Some (name ∷ names)) i is = in_use_there t (last_in t (walk t 1 (name ∷ names)) (name ∷ names)) i is

-- Where no test of `stat` refuses a path, it leads to an inode.
leads_there : (t : Tree) (names : List (List ℕ)) → first_refusal (stat_tests t (Some names)) ≡ None → (i : ℕ) × (node : Node) × LeadsTo t names i node
leads_there t names none = by (found t names) refl where
  there : is_none (found t names) ≡ false
  there =
      let path = first_passes (is_bad (Some names)) (walk_tests t (Some names) ++ is_missing t (Some names) ∷ []) none in
      (first_passes (is_missing t (Some names)) [] (later_passes (walk_tests t (Some names)) (is_missing t (Some names) ∷ []) path.1)).0

  by : (o : Option ℕ) → found t names ≡ o → (i : ℕ) × (node : Node) × LeadsTo t names i node
  by None at = absurd (let no : true ≡ false = ap is_none (sym at) ∙ there in cc)
  by (Some i) at = with_node (t i) refl where
    with_node : (o : Option Node) → t i ≡ o → (i : ℕ) × (node : Node) × LeadsTo t names i node
    with_node None e = absurd (let no : false ≡ true = ap is_some (sym e) ∙ target_there t (Some names) i at in cc)
    with_node (Some node) e = (i, node, record { leads = at; shows = e })

-- What a tree of rows shows has a row.
pub row_there : (R : Region) (rows : List Row) (i : ℕ) (node : Node) → tree_of R rows i ≡ Some node → (row : Row) × Contains rows row × (row.inode ≡ i)
row_there R rows i node shows = by (row_of rows i) refl where
  by : (o : Option Row) → row_of rows i ≡ o → (row : Row) × Contains rows row × (row.inode ≡ i)
  by None e = absurd (let no : None ≡ Some node = ap (option_map (node_of R)) (sym e) ∙ shows in cc)
  by (Some row) e = (row, stands rows (place_in rows i) row (at_place rows i ∙ e), numbered rows i row e)

module _ {P : Type 0} (region : P → Region) (m n : Mount P) (answer : Result (Option ℕ) Refusal) where
  abbrev tree : Tree
  tree = tree_of (region m.memory) m.rows

  abbrev tests_of_clean : Path → Tests
  tests_of_clean p = clean_tests (world_of m) tree p

  -- What is said of whatever the region shows is said of something, since a mount without faults shows something.
  pub clean_logged : IsKept (region m.memory) m.sup m.layout m.rows m.free m.faults m.read_only m.stopped → (names : List (List ℕ)) → OnOk answer (first_refusal (tests_of_clean (Some names)) ≡ None) → (IsTrue m.stopped → answer ≡ Err Stopped)
      → ((i : ℕ) (node : Node) (held : Store) (h : Held) → LeadsTo tree names i node → ShowsSound (region m.memory) m.layout held → held i ≡ Some h → IfOk answer (ShowsCleaned (region m.memory) (region n.memory) m.layout held i h))
      → IfOk answer (λ found. finds_page found (region m.memory) m names (region n.memory))
  clean_logged kept names allowed stopped log = by answer refl allowed log where
    by : (r : Result (Option ℕ) Refusal) → answer ≡ r → OnOk r (first_refusal (tests_of_clean (Some names)) ≡ None)
        → ((i : ℕ) (node : Node) (held : Store) (h : Held) → LeadsTo tree names i node → ShowsSound (region m.memory) m.layout held → held i ≡ Some h → IfOk r (ShowsCleaned (region m.memory) (region n.memory) m.layout held i h))
        → IfOk r (λ found. finds_page found (region m.memory) m names (region n.memory))
    by (Err e) is allowed log = tt
    by (Ok found) is allowed log = ∥∥₁_map (mounted_of_kept kept runs passes.0) (λ w. holds w.0 w.1) where
      runs : m.stopped ≡ false
      runs = not_true m.stopped (λ stops. (let no : Ok found ≡ Err Stopped = sym is ∙ stopped stops in cc))

      passes : (m.read_only ≡ false) × (first_refusal (stat_tests tree (Some names)) ≡ None)
      passes = first_passes (m.read_only, ReadOnly) (stat_tests tree (Some names)) allowed

      holds : (held : Store) → IsMounted (region m.memory) m.layout held m.rows m.free.pools → FindsPage found (region m.memory) m names (region n.memory)
      holds held mounted =
          let led = leads_there tree names passes.1 in
          let leads = led.2 in
          let row = row_there (region m.memory) m.rows led.0 led.1 leads.shows in
          let keeps = mounted.keeps in
          let rows = keeps.in_rows in
          let told = rows.each row.0 row.1 in
          let there : held led.0 ≡ Some told.0 = subst (λ (i : ℕ). held i ≡ Some told.0) row.2 told.1 in
          record {
            inode = led.0;
            node = led.1;
            held = held;
            log = told.0;
            leads = leads;
            sound = mounted.sound;
            is = there;
            went = log led.0 led.1 held told.0 leads mounted.sound there;
          }

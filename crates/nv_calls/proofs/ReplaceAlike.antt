-- Of alike regions `replace` leaves alike regions.
use Rattle.std.proofs.Common.{◌≡◌, ◌≢◌, inl, inr, ℕ, ◌-◌, ◌≤◌, Bool, true, false, eqb, nat_lt, not, ◌&&◌, List, [], ◌∷◌, ◌++◌, append_assoc, length, Option, Some, None, Ok, refl, sym, ap, subst, ◌∙◌, arith}
use Rattle.std.specs.Prelude.{⊤}
use Rattle.std.specs.Option.{option_and_then, option_map, option_map_or}
use Rattle.std.proofs.Math.Logic.{∥∥₁_prop}
use Rattle.std.proofs.lemmas.Bool.{cases_eq, cases_lt, ne_eqb}
use Rattle.std.proofs.lemmas.Bool.Decides.{nat_tests}
use Rattle.nv_region.specs.Region.{Region}
use Rattle.nv_entry.specs.declared.entry.Entry.{Entry}
use Rattle.nv_entry.specs.declared.entry.Operation.TheVariants.{Remove}
use Rattle.nv_names.specs.Names.{found_in}
use Rattle.nv_scan.specs.declared.piece.Row.{Row}
use Rattle.nv_graph.specs.Read.{row_of}
use Rattle.nv_mounted.specs.Held.{Held, Store}
use Rattle.nv_mounted.specs.Mounted.{ShowsSound}
use Rattle.nv_tree.specs.Path.{last_name}
use Rattle.nv_tree.specs.Tree.{Node, SameTree, Tree, found, is_directory, name_in, walk}
use Rattle.nv_tree.specs.Calls.{edit, links_at, put_node, with_links, with_name, without_name}
use Rattle.nv_tree.specs.Refusals.{Path, count_at, first_refusal, has_no_space, is_bad_name, is_directory_at, is_into_itself, is_missing, rename_tests, walk_tests}
use Rattle.nv_tree.specs.Laws.{HasNoNames}
use Rattle.nv_tree.specs.Replace.{Replaces, are_one, is_over_directory, is_over_file, is_over_names, replace_tests, replaced}
use Rattle.nv_tree.proofs.Replaced.{refused_as_rename, replaced_unused}
use Rattle.nv_paths.specs.Seen.{node_of, tree_of}
use Rattle.nv_steps.specs.Across.{handed_entries}
use Rattle.nv_steps.specs.NameEntries.{links_entries, name_entries}
use Rattle.nv_steps.specs.Takes.{take_entries}
use Rattle.nv_calls.specs.Alike.{AreAlike, IsAllowed, IsFaultlessMount, KeepsAlike, ShowAlike, WasDone}
use Rattle.nv_calls.specs.Effects.{logs_replace, makes_replace}
use Rattle.nv_calls.specs.LinkCalls.{ShowsBothGrew}
use Rattle.nv_calls.specs.Mount.{Mount}
use Rattle.nv_calls.specs.RemoveCalls.{ShowsRemoved}
use Rattle.nv_calls.specs.ReplaceLogs.{ShowsBothLess, ShowsThreeGrew, TakesPlace, has_others}
use Rattle.nv_calls.specs.World.{world_of}
use Rattle.nv_tree.specs.declared.stat.Stat.{Stat}
use Rattle.nv_calls.proofs.Allowed.{directory_used, first_passes, found_used, leads_passes, named_passes, walk_passes, writing_passes}
use Rattle.nv_calls.proofs.CallsAlike.{LeadsThere, alike, by_first, by_held, files, finds, finish, held_there, leads_there, mounted, rename_alike, there, walks}
use Rattle.nv_calls.proofs.Decided.{both_decided, less_decided, removed_decided, three_decided}
use Rattle.nv_calls.proofs.ReplacedTree.{replaced_gone, replaced_less}
use Rattle.nv_calls.proofs.SameContents.{SameFiles, edit_same, links_same, name_same, no_name_same, put_same}
use Rattle.nv_calls.proofs.SeenAlike.{Alike}

-- ---- contents

-- three names changed in trees that hold the same files
three_same : (t u : Tree) → SameFiles t u → (d e i : ℕ) (old new : List ℕ) (time : ℕ)
    → SameFiles (edit e (with_name new i time) (edit d (without_name old time) (edit e (without_name new time) t))) (edit e (with_name new i time) (edit d (without_name old time) (edit e (without_name new time) u)))
three_same t u same d e i old new time =
    edit_same (edit d (without_name old time) (edit e (without_name new time) t)) (edit d (without_name old time) (edit e (without_name new time) u)) e (with_name new i time) (with_name new i time) (name_same new i time)
    (edit_same (edit e (without_name new time) t) (edit e (without_name new time) u) d (without_name old time) (without_name old time) (no_name_same old time)
    (edit_same t u e (without_name new time) (without_name new time) (no_name_same new time) same))

module _ {t u : Tree} {i j d e : ℕ} {first : List ℕ} {old : List (List ℕ)} {name : List ℕ} {new : List (List ℕ)} (time : ℕ) (r : Replaces t (first ∷ old) (name ∷ new) i j d e) (q : Replaces u (first ∷ old) (name ∷ new) i j d e) (same : SameFiles t u) (kinds : is_directory_at u j ≡ is_directory_at t j) (links_are : links_at u j ≡ links_at t j) where
  abbrev Kept : Type 0
  Kept = SameFiles (replaced (first ∷ old) (name ∷ new) time t) (replaced (first ∷ old) (name ∷ new) time u)

  by_trees : {v w : Tree} → replaced (first ∷ old) (name ∷ new) time t ≡ v → replaced (first ∷ old) (name ∷ new) time u ≡ w → SameFiles v w → Kept
  by_trees {v} {w} one two files = subst (λ (x : Tree). SameFiles x (replaced (first ∷ old) (name ∷ new) time u)) (sym one) (subst (λ (x : Tree). SameFiles v x) (sym two) files)

  pub replaced_contents : Kept
  replaced_contents = by (is_directory_at t j) refl where
    by : (b : Bool) → is_directory_at t j ≡ b → Kept
    by true is = by_trees (replaced_gone time r (inl is)) (replaced_gone time q (inl (kinds ∙ is))) (three_same (put_node j None t) (put_node j None u) (put_same t u j None None tt same) d e i (last_name (first ∷ old)) (last_name (name ∷ new)) time)
    by false is = elim (cases_lt 1 (links_at t j)) [
      | inl more ↦ by_trees (replaced_less time r is (links_at t j) refl more) (replaced_less time q (kinds ∙ is) (links_at t j) links_are more)
          (three_same (edit j (with_links (links_at t j - 1) time) t) (edit j (with_links (links_at t j - 1) time) u) (edit_same t u j (with_links (links_at t j - 1) time) (with_links (links_at t j - 1) time) (links_same (links_at t j - 1) (links_at t j - 1) time) same) d e i (last_name (first ∷ old)) (last_name (name ∷ new)) time)
      | inr few ↦ by_trees (replaced_gone time r (inr (is, few))) (replaced_gone time q (inr (kinds ∙ is, subst (λ (n : ℕ). n ≤ 1) (sym links_are) few))) (three_same (put_node j None t) (put_node j None u) (put_same t u j None None tt same) d e i (last_name (first ∷ old)) (last_name (name ∷ new)) time)
    ]

-- an inode of a tree of rows that has no names
no_names : (q : List ℕ) (xs : List (List ℕ × ℕ × ℕ)) → nat_lt 0 (length xs) ≡ false → found_in xs q ≡ None
no_names q [] off = refl
no_names q (x ∷ xs) off = absurd (let on : nat_lt 0 (length (x ∷ xs)) ≡ true = grind (arith, nat_tests) in let clash : true ≡ false = sym on ∙ off in cc)

bare : (R : Region) (rows : List Row) (j : ℕ) → nat_lt 0 (count_at (tree_of R rows) j) ≡ false → HasNoNames (tree_of R rows) j
bare R rows j none q = by (row_of rows j) refl where
  by : (o : Option Row) → row_of rows j ≡ o → name_in (tree_of R rows) j q ≡ None
  by None is = ap (λ (o : Option Row). option_and_then (λ (n : Node). n.names q) (option_map (node_of R) o)) is
  by (Some row) is =
      let off : nat_lt 0 (length row.names.names) ≡ false = ap (λ (o : Option Row). nat_lt 0 (option_map_or (λ (n : Node). n.count) (option_map (node_of R) o) 0)) (sym is) ∙ none in
      ap (λ (o : Option Row). option_and_then (λ (n : Node). n.names q) (option_map (node_of R) o)) is ∙ ap (λ (o : Option (ℕ × ℕ)). option_map (λ (x : ℕ × ℕ). x.0) o) (no_names q row.names.names off)

-- ---- the call, where both regions show what is held

module _ (held : Store) (R S T U : Region) (m k : Mount ⊤) (names : List (List ℕ)) (is : IsFaultlessMount R m) (other : IsFaultlessMount S k) (w : ShowAlike m.layout held R S) (cpu time : ℕ) (others : List (List ℕ))
    (a : WasDone (makes_replace time (Some others)) (logs_replace cpu time (Some others)) R m names T) (b : WasDone (makes_replace time (Some others)) (logs_replace cpu time (Some others)) S k names U) where
  abbrev t : Tree
  t = tree_of R m.rows

  abbrev u : Tree
  u = tree_of S k.rows

  sees : Alike t u
  sees = alike held R S T U m k names is other w

  -- where the new name is free, it is `rename`
  as_moved : found t others ≡ None → IsAllowed (λ R m p n. rename_tests (world_of m) (tree_of R m.rows) cpu p (Some others) n) R m names → AreAlike T U
  as_moved none allowed = rename_alike held R S T U m k names is other w cpu time (Some others) allowed
      (record { layout = a.layout; rows = a.rows; free = a.free; shown = a.shown; tree = subst (λ (v : Tree). SameTree (tree_of T a.rows) v) (replaced_unused t names others time none) a.tree; left = let logs = a.left in logs.unused none })
      (record { layout = b.layout; rows = b.rows; free = b.free; shown = b.shown; tree = subst (λ (v : Tree). SameTree (tree_of U b.rows) v) (replaced_unused u names others time none_there) b.tree; left = let logs = b.left in logs.unused none_there })
    where
      none_there : found u others ≡ None
      none_there = sym (finds held R S T U m k names is other w others) ∙ none

  -- where both paths lead to one inode, nothing changes
  as_one : (i : ℕ) → found t names ≡ Some i → found t others ≡ Some i → AreAlike T U
  as_one i led leads_too =
      let logs = a.left in
      let logs_there = b.left in
      let first : T ≡ R = logs.one i led leads_too in
      let second : U ≡ S = logs_there.one i (sym (finds held R S T U m k names is other w names) ∙ led) (sym (finds held R S T U m k names is other w others) ∙ leads_too) in
      ∣ (m.layout, held, subst (λ (x : Region). ShowAlike m.layout held x U) (sym first) (subst (λ (x : Region). ShowAlike m.layout held R x) (sym second) w)) ∣₁

  -- and else another inode goes, or loses a link
  module _ (i j d e : ℕ) (node from_node to_node : Node) (takes : TakesPlace t names others i j d e node) (takes_there : LeadsThere u others j node) (from_shows : t d ≡ Some from_node) (to_shows : t e ≡ Some to_node) (contents : SameFiles (replaced names others time t) (replaced names others time u)) where
    abbrev twin : Node
    twin = takes_there.other

    beside : TakesPlace u names others i j d e twin
    beside = record {
      moved = sym (finds held R S T U m k names is other w names) ∙ takes.moved;
      there = takes_there.leads;
      differ = takes.differ;
      from = sym (walks held R S T U m k names is other w names) ∙ takes.from;
      way = sym (walks held R S T U m k names is other w others) ∙ takes.way;
    }

    as_many : has_others twin ≡ has_others node
    as_many = ap (λ (x : Stat). not (is_directory x.kind) && nat_lt 1 x.links) takes_there.numbers

    abbrev less : ℕ → List Entry
    less n = links_entries (n - 1) time

    counted : less twin.links ≡ less node.links
    counted = ap (λ (x : Stat). less x.links) takes_there.numbers

    abbrev h : Held
    h = (held_there (mounted held R S T U m k names is other w) d from_node from_shows).0

    h_is : held d ≡ Some h
    h_is = (held_there (mounted held R S T U m k names is other w) d from_node from_shows).1

    abbrev g : Held
    g = (held_there (mounted held R S T U m k names is other w) e to_node to_shows).0

    g_is : held e ≡ Some g
    g_is = (held_there (mounted held R S T U m k names is other w) e to_node to_shows).1

    f_there : (f : Held) × (held j ≡ Some f)
    f_there = let led = takes.there in held_there (mounted held R S T U m k names is other w) j node led.shows

    abbrev f : Held
    f = f_there.0

    shows_there : ShowsSound S k.layout held
    shows_there = there held R S T U m k names is other w

    abbrev hand : List Entry
    hand = handed_entries i j (last_name others) time

    abbrev cut : List Entry
    cut = name_entries Remove i (last_name names) time

    abbrev take : List Entry
    take = take_entries i j (last_name names) (last_name others) time

    over : d ≢ e → (stays : Bool) → has_others node ≡ stays → AreAlike T U
    over apart true on =
        let logs = a.left in
        let logs_there = b.left in
        let across = logs.across in
        let across_there = logs_there.across in
        let first : ShowsThreeGrew T m.layout m.free.pools cpu held d h cut e g hand j f (less node.links) = across.more i j d e node held h g f takes apart w.first h_is g_is f_there.1 on in
        let second : ShowsThreeGrew U k.layout k.free.pools cpu held d h cut e g hand j f (less node.links) = subst (λ (es : List Entry). ShowsThreeGrew U k.layout k.free.pools cpu held d h cut e g hand j f es) counted (across_there.more i j d e twin held h g f beside apart shows_there h_is g_is f_there.1 (as_many ∙ on)) in
        finish held R S T U m k names is other w a b contents (three_decided m.layout m.free.pools cpu held d h cut e g hand j f (less node.links) T U first (by_first held R S T U m k names is other w (λ l pools. ShowsThreeGrew U l pools cpu held d h cut e g hand j f (less node.links)) second))
    over apart false off =
        let logs = a.left in
        let logs_there = b.left in
        let across = logs.across in
        let across_there = logs_there.across in
        let first : ShowsBothLess T m.layout m.free.pools cpu held d h cut e g hand j = across.last i j d e node held h g takes apart w.first h_is g_is off in
        let second : ShowsBothLess U k.layout k.free.pools cpu held d h cut e g hand j = across_there.last i j d e twin held h g beside apart shows_there h_is g_is (as_many ∙ off) in
        finish held R S T U m k names is other w a b contents (less_decided m.layout m.free.pools cpu held d h cut e g hand j T U first (by_first held R S T U m k names is other w (λ l pools. ShowsBothLess U l pools cpu held d h cut e g hand j) second))

    within : d ≡ e → (stays : Bool) → has_others node ≡ stays → AreAlike T U
    within one true on =
        let logs = a.left in
        let logs_there = b.left in
        let here = logs.within in
        let here_there = logs_there.within in
        let first : ShowsBothGrew T m.layout m.free.pools cpu held d h take j f (less node.links) = here.more i j d node held h f (subst (λ (c : ℕ). TakesPlace t names others i j d c node) (sym one) takes) w.first h_is f_there.1 on in
        let second : ShowsBothGrew U k.layout k.free.pools cpu held d h take j f (less node.links) = subst (λ (es : List Entry). ShowsBothGrew U k.layout k.free.pools cpu held d h take j f es) counted (here_there.more i j d twin held h f (subst (λ (c : ℕ). TakesPlace u names others i j d c twin) (sym one) beside) shows_there h_is f_there.1 (as_many ∙ on)) in
        finish held R S T U m k names is other w a b contents (both_decided m.layout m.free.pools cpu held d h take j f (less node.links) T U first (by_first held R S T U m k names is other w (λ l pools. ShowsBothGrew U l pools cpu held d h take j f (less node.links)) second))
    within one false off =
        let logs = a.left in
        let logs_there = b.left in
        let here = logs.within in
        let here_there = logs_there.within in
        let first : ShowsRemoved T m.layout m.free.pools cpu held d h take j = here.last i j d node held h (subst (λ (c : ℕ). TakesPlace t names others i j d c node) (sym one) takes) w.first h_is off in
        let second : ShowsRemoved U k.layout k.free.pools cpu held d h take j = here_there.last i j d twin held h (subst (λ (c : ℕ). TakesPlace u names others i j d c twin) (sym one) beside) shows_there h_is (as_many ∙ off) in
        finish held R S T U m k names is other w a b contents (removed_decided m.layout m.free.pools cpu held d h take j T U first (by_first held R S T U m k names is other w (λ l pools. ShowsRemoved U l pools cpu held d h take j) second))

    pub as_taken : AreAlike T U
    as_taken = elim (cases_eq d e) [ inl one ↦ within one (has_others node) refl | inr apart ↦ over apart (has_others node) refl ]

  replace_keeps : IsAllowed (λ R m p n. replace_tests (world_of m) (tree_of R m.rows) cpu p (Some others) n) R m names → AreAlike T U
  replace_keeps allowed =
      let space = has_no_space (world_of m) allowed.0 ∷ [] in
      let names_left = is_over_names t (Some names) (Some others) ∷ space in
      let file_left = is_over_file t (Some names) (Some others) ∷ names_left in
      let over_left = is_over_directory t (Some names) (Some others) ∷ file_left in
      let last = is_into_itself t (Some names) (Some others) ∷ over_left in
      let behind = is_missing t (Some names) ∷ last in
      let ways = walk_tests t (Some names) ++ walk_tests t (Some others) ++ behind in
      let one = named_passes names (is_bad_name (Some others) ∷ ways) (writing_passes (world_of m) cpu (is_bad_name (Some names) ∷ is_bad_name (Some others) ∷ ways) allowed.1) in
      let two = named_passes others ways one.3 in
      let from = walk_passes t names (walk_tests t (Some others) ++ behind) (ap first_refusal (sym (append_assoc (walk_tests t (Some names)) (walk_tests t (Some others)) behind)) ∙ two.3) in
      let way = walk_passes t others behind from.2 in
      let led = leads_passes t names last way.2 in
      let into = first_passes (is_into_itself t (Some names) (Some others)) over_left (first_passes (is_missing t (Some names)) last way.2).1 in
      let named = first_passes (is_over_names t (Some names) (Some others)) space (first_passes (is_over_file t (Some names) (Some others)) names_left (first_passes (is_over_directory t (Some names) (Some others)) file_left into.1).1).1 in
      let leads = led.2 in
      by allowed led.0 leads.leads from.0 way.0 from.1 way.1 one.0 one.1 two.0 two.1 one.2 two.2 named.0 (found t others) refl
    where
      by : IsAllowed (λ R m p n. replace_tests (world_of m) (tree_of R m.rows) cpu p (Some others) n) R m names → (i : ℕ) → found t names ≡ Some i → (d e : ℕ) → walk t 1 names ≡ Ok d → walk t 1 others ≡ Ok e → (first : List ℕ) (old : List (List ℕ)) (name : List ℕ) (new : List (List ℕ)) → names ≡ first ∷ old → others ≡ name ∷ new
          → (not (are_one t (Some names) (Some others)) && option_map_or (λ (q : ℕ). nat_lt 0 (count_at t q)) (found t others) false) ≡ false → (o : Option ℕ) → found t others ≡ o → AreAlike T U
      by allowed i led d e walked ended first old name new names_is others_is unnamed None none = as_moved none (allowed.0, sym (refused_as_rename (world_of m) t cpu (Some names) others allowed.0 none) ∙ allowed.1)
      by allowed i led d e walked ended first old name new names_is others_is unnamed (Some j) at = elim (cases_eq i j) [
        | inl one ↦ as_one i led (at ∙ ap (λ (q : ℕ). Some q) (sym one))
        | inr differ ↦ (
            let node = found_used t others j at in
            let from_used = directory_used t names first old d names_is walked in
            let to_used = directory_used t others name new e others_is ended in
            let two_inodes : are_one t (Some names) (Some others) ≡ false = ap (λ (o : Option ℕ). option_map_or (λ (q : ℕ). option_map_or (eqb q) (found t others) false) o false) led ∙ ap (λ (o : Option ℕ). option_map_or (eqb i) o false) at ∙ ne_eqb i j differ in
            let none : nat_lt 0 (count_at t j) ≡ false = sym (λ x. not (two_inodes x) && option_map_or (λ (q : ℕ). nat_lt 0 (count_at t q)) (at x) false) ∙ unnamed in
            let no_names_in = bare R m.rows j none in
            let takes : TakesPlace t names others i j d e node.0 = record { moved = led; there = record { leads = at; shows = node.1 }; differ = differ; from = walked; way = ended } in
            let r : Replaces t names others i j d e = record { from = walked; way = ended; moved = led; there = at; differ = differ; bare = no_names_in } in
            let q : Replaces u names others i j d e = record {
              from = sym (walks held R S T U m k names is other w names) ∙ walked;
              way = sym (walks held R S T U m k names is other w others) ∙ ended;
              moved = sym (finds held R S T U m k names is other w names) ∙ led;
              there = sym (finds held R S T U m k names is other w others) ∙ at;
              differ = differ;
              bare = λ name_of. sees.names j name_of ∙ no_names_in name_of;
            } in
            let both : (names, others) ≡ (first ∷ old, name ∷ new) = λ x. (names_is x, others_is x) in
            let contents : SameFiles (replaced (first ∷ old) (name ∷ new) time t) (replaced (first ∷ old) (name ∷ new) time u) = replaced_contents time (subst (λ (v : List (List ℕ) × List (List ℕ)). Replaces t v.0 v.1 i j d e) both r) (subst (λ (v : List (List ℕ) × List (List ℕ)). Replaces u v.0 v.1 i j d e) both q)
            (files held R S T U m k names is other w) (sees.kinds j) (sees.links j) in
            as_taken i j d e node.0 from_used.0 to_used.0 takes (leads_there t u sees others j node.0 (record { leads = at; shows = node.1 })) from_used.1 to_used.1
            (subst (λ (v : List (List ℕ) × List (List ℕ)). SameFiles (replaced v.0 v.1 time t) (replaced v.0 v.1 time u)) (sym both) contents))
      ]

-- ---- where only that both regions are alike is known

pub replaces_alike : (cpu time : ℕ) (q : Path) → KeepsAlike (λ R m p n. replace_tests (world_of m) (tree_of R m.rows) cpu p q n) (makes_replace time q) (logs_replace cpu time q)
replaces_alike cpu time None R S T U m k names known is other allowed a b = absurd a.left
replaces_alike cpu time (Some others) R S T U m k names known is other allowed a b = by_held R S m k (AreAlike T U) ∥∥₁_prop is known (λ held w. replace_keeps held R S T U m k names is other w cpu time others a b allowed)

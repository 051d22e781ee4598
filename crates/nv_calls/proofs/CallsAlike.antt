-- Of alike regions a call leaves alike regions: what it leaves is decided, and its tree has the same bytes.
use Rattle.std.proofs.Common.{◌≡◌, inl, inr, ℕ, ◌+◌, ◌-◌, ◌<◌, ◌≤◌, ◌/◌, List, [], ◌∷◌, ◌++◌, append_assoc, Option, Some, None, Ok, refl, sym, ap, subst, ◌∙◌, arith}
use Rattle.std.specs.Prelude.{⊤}
use Rattle.std.specs.Option.{option_map}
use Rattle.std.proofs.Math.Logic.{∥∥₁_elim, ∥∥₁_map, ∥∥₁_prop}
use Rattle.std.proofs.lemmas.Bool.{cases_eq, cases_lt}
use Rattle.nv_region.specs.Region.{Region}
use Rattle.nv_super.specs.declared.owners.Run.{Run}
use Rattle.nv_super.specs.declared.kind.Kind.{Kind}
use Rattle.nv_super.specs.Layout.{Layout}
use Rattle.nv_alloc.specs.Taking.{Takes}
use Rattle.nv_entry.specs.declared.entry.Operation.TheVariants.{Add, Remove}
use Rattle.nv_scan.specs.State.{block_of, size_of}
use Rattle.nv_scan.specs.declared.piece.Row.{Row}
use Rattle.nv_rows.proofs.Places.{numbered}
use Rattle.nv_outcome.specs.Outcome.{IsOutcome}
use Rattle.nv_outcome.specs.Same.{SameOutcome}
use Rattle.nv_graph.specs.Read.{row_of}
use Rattle.nv_mounted.specs.Held.{Held, Store, good_in}
use Rattle.nv_mounted.specs.Bytes.{byte_in, byte_of}
use Rattle.nv_mounted.specs.Mounted.{IsMounted, KeepsRow, ShowsSound, faultless_outcome}
use Rattle.nv_mounted.proofs.Closes as closes
use Rattle.nv_tree.specs.Path.{last_name}
use Rattle.nv_tree.specs.Tree.{Node, SameNodes, SameTree, Tree, found, walk}
use Rattle.nv_tree.specs.Calls.{links_at}
use Rattle.nv_tree.specs.Refusals.{Path, first_refusal, has_no_slot, has_no_space, is_bad, is_bad_name, is_dir, is_into_itself, is_missing, is_no_dir, is_there, is_too_large, has_most_links, has_names, walk_tests, create_tests, link_tests, rename_tests, rmdir_tests, set_attr_tests, set_size_tests, unlink_tests, write_tests}
use Rattle.nv_paths.specs.Seen.{LeadsTo, node_of, tree_of}
use Rattle.nv_paths.specs.Spots.{new_number}
use Rattle.nv_steps.specs.Attributes.{attributes}
use Rattle.nv_steps.specs.Moves.{move_entries}
use Rattle.nv_steps.specs.NameEntries.{links_entries, name_entries}
use Rattle.nv_steps.specs.Writes.{data_blocks, data_entries, plan_of}
use Rattle.nv_steps.specs.declared.planning.Plan.{Plan}
use Rattle.nv_calls.specs.Alike.{AreAlike, IsAllowed, IsFaultlessMount, KeepsAlike, ShowAlike, WasDone}
use Rattle.nv_calls.specs.Decided.{ShowSame}
use Rattle.nv_calls.specs.Effects.{Logs, LogsBytes, LogsUnlink, Makes, logs_attributes, logs_inode, logs_link, logs_removal, logs_rename, logs_size, makes_attributes, makes_bytes, makes_inode, makes_link, makes_removal, makes_rename, makes_size, makes_unlink}
use Rattle.nv_calls.specs.GrownLogs.{ShowsGrownLog}
use Rattle.nv_calls.specs.LinkCalls.{ShowsBothGrew}
use Rattle.nv_calls.specs.Mount.{Mount}
use Rattle.nv_calls.specs.NameCalls.{ShowsCreated}
use Rattle.nv_calls.specs.RemoveCalls.{ShowsRemoved}
use Rattle.nv_calls.specs.SizeCall.{ShowsResizedLog}
use Rattle.nv_tree.specs.Stat.{stat_of}
use Rattle.nv_calls.specs.World.{world_of}
use Rattle.nv_calls.specs.WriteCall.{ShowsLogWrite}
use Rattle.nv_tree.specs.declared.stat.Stat.{Stat}
use Rattle.nv_calls.proofs.Allowed.{directory_used, first_passes, leads_passes, named_passes, some_passes, walk_passes, writing_passes}
use Rattle.nv_calls.proofs.CreatedRows.{not_held}
use Rattle.nv_calls.proofs.Decided.{both_decided, created_decided, grown_decided, removed_decided, resized_decided, written_decided}
use Rattle.nv_calls.proofs.OneOutcome.{as_faultless, files_alike, one_outcome, same_layout, trees_alike}
use Rattle.nv_calls.proofs.RowChange.{row_there}
use Rattle.nv_calls.proofs.SameContents.{SameFiles, attributed_same, between, created_same, linked_same, removed_same, renamed_same, resized_same, unlinked_same, written_same}
use Rattle.nv_calls.proofs.SeenAlike.{Alike, found_alike, new_same, walk_alike}

-- ---- rows of what is held

-- a row for an inode that is held
record HasRow (R : Region) (l : Layout) (rows : List Row) (i : ℕ) (h : Held) : Type 0 where
  row : Row
  is : row_of rows i ≡ Some row
  keeps : KeepsRow l h row

module _ {R : Region} {l : Layout} {held : Store} {rows : List Row} {free : List (List Run)} (m : IsMounted R l held rows free) where
  -- what is held of the inode of a row
  row_held : (i : ℕ) (row : Row) → row_of rows i ≡ Some row → (h : Held) × (held i ≡ Some h) × KeepsRow l h row
  row_held i row is =
      let keeps = m.keeps in
      let in_rows = keeps.in_rows in
      let w = in_rows.each row (row_there rows i row is) in
      (w.0, ap held (sym (numbered rows i row is)) ∙ w.1, w.2)

  has_row : (i : ℕ) (h : Held) → held i ≡ Some h → HasRow R l rows i h
  has_row i h at = by (row_of rows i) refl where
    by : (o : Option Row) → row_of rows i ≡ o → HasRow R l rows i h
    by None none = absurd (let clash : Some h ≡ None = sym at ∙ not_held m i none in cc)
    by (Some row) is =
        let w = row_held i row is in
        let both : Some w.0 ≡ Some h = sym w.1 ∙ at in
        let same : w.0 ≡ h = cc in
        record { row = row; is = is; keeps = subst (λ (g : Held). KeepsRow l g row) same w.2 }

  -- what is held of an inode in use
  pub held_there : (i : ℕ) (node : Node) → tree_of R rows i ≡ Some node → (h : Held) × (held i ≡ Some h)
  held_there i node shows = by (row_of rows i) refl where
    by : (o : Option Row) → row_of rows i ≡ o → (h : Held) × (held i ≡ Some h)
    by None none = absurd (let clash : None ≡ Some node = ap (λ (o : Option Row). option_map (node_of R) o) (sym none) ∙ shows in cc)
    by (Some row) is = (let w = row_held i row is in (w.0, w.1))

-- ---- what two calls have left

-- two regions that show the same, and trees of them whose files have the same bytes
alike_after : (l a b : Layout) (T U : Region) (rows others : List Row) (free more : List (List Run)) (t u : Tree) → ShowSame l T U → IsOutcome T (faultless_outcome a rows free) → IsOutcome U (faultless_outcome b others more)
    → SameTree (tree_of T rows) t → SameTree (tree_of U others) u → SameFiles t u → AreAlike T U
alike_after l a b T U rows others free more t u shows known known_other seen seen_other files = ∥∥₁_map shows (λ v. (l, v.0, record { first = v.1; second = v.2; bytes = bytes v.0 v.1 v.2 })) where
  -- an outcome is by the layout that is shown
  shown_so : (V : Region) (held : Store) (k : Layout) (some : List Row) (lists : List (List Run)) → ShowsSound V l held → IsOutcome V (faultless_outcome k some lists) → IsOutcome V (faultless_outcome l some lists)
  shown_so V held k some lists sound is =
      subst (λ (x : Layout). IsOutcome V (faultless_outcome x some lists)) (same_layout l k some some lists lists (as_faultless sound (faultless_outcome k some lists) is)) is

  bytes : (held : Store) → ShowsSound T l held → ShowsSound U l held → (i x : ℕ) (h : Held) → held i ≡ Some h → x < size_of (good_in l h) → byte_of U l h x ≡ byte_of T l h x
  bytes held first second i x h at below =
      let is = shown_so T held a rows free first known in
      let other = shown_so U held b others more second known_other in
      let a = has_row (record { sound = first; keeps = closes.outcome_kept first (faultless_outcome l rows free) is }) i h at in
      let b = has_row (record { sound = second; keeps = closes.outcome_kept second (faultless_outcome l others more) other }) i h at in
      let mine : tree_of T rows i ≡ Some (node_of T a.row) = ap (λ (o : Option Row). option_map (node_of T) o) a.is in
      let theirs : tree_of U others i ≡ Some (node_of U b.row) = ap (λ (o : Option Row). option_map (node_of U) o) b.is in
      let one = subst (λ (o : Option Node). SameNodes o (t i)) mine (seen i) in
      let two = subst (λ (o : Option Node). SameNodes o (u i)) theirs (seen_other i) in
      let same = between (node_of T a.row) (node_of U b.row) (t i) (u i) one two (files i) in
      let told = a.keeps in
      let told_other = b.keeps in
      let numbers = told.numbers in
      ap (λ (o : Option ℕ). byte_in U o x) (sym (told_other.index (x / 4096)))
      ∙ sym (same.bytes x (subst (λ (n : ℕ). x < n) (sym numbers.size) below))
      ∙ ap (λ (o : Option ℕ). byte_in T o x) (told.index (x / 4096))

-- ---- one inode in two trees

-- the same inode of a tree that shows the same, with the same numbers
pub record LeadsThere (u : Tree) (names : List (List ℕ)) (i : ℕ) (node : Node) : Type 0 where
  pub other : Node
  pub leads : LeadsTo u names i other
  pub numbers : stat_of i other ≡ stat_of i node

pub leads_there : (t u : Tree) → Alike t u → (names : List (List ℕ)) (i : ℕ) (node : Node) → LeadsTo t names i node → LeadsThere u names i node
leads_there t u alike names i node leads = by (u i) refl where
  led : found u names ≡ Some i
  led = found_alike t u alike names ∙ leads.leads

  by : (o : Option Node) → u i ≡ o → LeadsThere u names i node
  by None none = absurd (let clash : None ≡ Some (stat_of i node) = ap (λ (o : Option Node). option_map (stat_of i) o) (sym none) ∙ alike.stats i ∙ ap (λ (o : Option Node). option_map (stat_of i) o) leads.shows in cc)
  by (Some b) is =
      let both : Some (stat_of i b) ≡ Some (stat_of i node) = ap (λ (o : Option Node). option_map (stat_of i) o) (sym is) ∙ alike.stats i ∙ ap (λ (o : Option Node). option_map (stat_of i) o) leads.shows in
      let same : stat_of i b ≡ stat_of i node = cc in
      record { other = b; leads = record { leads = led; shows = is }; numbers = same }

-- an inode with other numbers
abbrev numbered_as : Node → Stat → Node
numbered_as node x = record node { kind = x.kind; mode = x.mode; owner = x.owner; group = x.group; size = x.size; links = x.links; time = x.time }

-- a new size leaves the same of two inodes with the same numbers
as_node : (U : Region) (l : Layout) (pools : List (List Run)) (cpu : ℕ) (held : Store) (i : ℕ) (h : Held) (a b : Node) (bytes time : ℕ) → stat_of i b ≡ stat_of i a → ShowsResizedLog U l pools cpu held i h b bytes time → ShowsResizedLog U l pools cpu held i h a bytes time
as_node U l pools cpu held i h a b bytes time same known =
    ∥∥₁_map (subst (λ (x : Stat). ShowsResizedLog U l pools cpu held i h (numbered_as b x) bytes time) same known) (λ x. record { to = x.to; copied = x.copied; between = x.between; taken = x.taken; free = x.free; grew = x.grew; zeros = x.zeros })

-- ---- each call, where both regions show what is held

module _ (held : Store) (R S T U : Region) (m k : Mount ⊤) (names : List (List ℕ)) (is : IsFaultlessMount R m) (other : IsFaultlessMount S k) (w : ShowAlike m.layout held R S) where
  abbrev t : Tree
  t = tree_of R m.rows

  abbrev u : Tree
  u = tree_of S k.rows

  pub same : SameOutcome (faultless_outcome m.layout m.rows m.free.pools) (faultless_outcome k.layout k.rows k.free.pools)
  same = one_outcome w (faultless_outcome m.layout m.rows m.free.pools) (faultless_outcome k.layout k.rows k.free.pools) is other

  -- both have one layout
  pub laid : k.layout ≡ m.layout
  laid = same_layout m.layout k.layout m.rows k.rows m.free.pools k.free.pools same

  pub alike : Alike t u
  alike = trees_alike w (faultless_outcome m.layout m.rows m.free.pools) (faultless_outcome k.layout k.rows k.free.pools) is other

  pub files : SameFiles t u
  files = files_alike w (faultless_outcome m.layout m.rows m.free.pools) (faultless_outcome k.layout k.rows k.free.pools) is other

  pub mounted : IsMounted R m.layout held m.rows m.free.pools
  mounted = record { sound = w.first; keeps = closes.outcome_kept w.first (faultless_outcome m.layout m.rows m.free.pools) is }

  pub there : ShowsSound S k.layout held
  there = subst (λ (l : Layout). ShowsSound S l held) (sym laid) w.second

  -- what is said by the numbers and the free lists of the second mount is said by those of the first
  pub by_first : (P : Layout → List (List Run) → Type 0) → P k.layout k.free.pools → P m.layout m.free.pools
  by_first P p = subst (λ (l : Layout). P l m.free.pools) laid (subst (λ (pools : List (List Run)). P k.layout pools) same.free p)

  pub walks : (path : List (List ℕ)) → walk t 1 path ≡ walk u 1 path
  walks path = sym (walk_alike t u alike path 1)

  pub finds : (path : List (List ℕ)) → found t path ≡ found u path
  finds path = sym (found_alike t u alike path)

  links : (i : ℕ) → links_at t i ≡ links_at u i
  links i = sym (alike.links i)

  finish_by : (l : Layout) {makes : Makes ⊤} {logs others : Logs ⊤} → WasDone makes logs R m names T → WasDone makes others S k names U → SameFiles (makes R m names) (makes S k names) → ShowSame l T U → AreAlike T U
  finish_by l {makes} a b contents shows = alike_after l a.layout b.layout T U a.rows b.rows a.free b.free (makes R m names) (makes S k names) shows a.shown b.shown a.tree b.tree contents

  pub finish : {makes : Makes ⊤} {logs others : Logs ⊤} → WasDone makes logs R m names T → WasDone makes others S k names U → SameFiles (makes R m names) (makes S k names) → ShowSame m.layout T U → AreAlike T U
  finish a b contents shows = finish_by m.layout a b contents shows

  number : (cpu j : ℕ) → new_number m.layout m.rows cpu ≡ Some j → new_number k.layout k.rows cpu ≡ Some j
  number cpu j at = new_same m.layout k.layout m.rows k.rows laid same.rows cpu ∙ at

  -- ---- names that come

  create_alike : (kind : Kind) (cpu mode time : ℕ) → IsAllowed (λ R m p n. create_tests (world_of m) (tree_of R m.rows) cpu p n) R m names → WasDone (makes_inode kind cpu mode time) (logs_inode kind cpu mode time) R m names T → WasDone (makes_inode kind cpu mode time) (logs_inode kind cpu mode time) S k names U → AreAlike T U
  create_alike kind cpu mode time allowed a b =
      let last = has_no_space (world_of m) allowed.0 ∷ [] in
      let behind = is_there t (Some names) ∷ has_no_slot (world_of m) cpu ∷ last in
      let one = named_passes names (walk_tests t (Some names) ++ behind) (writing_passes (world_of m) cpu (is_bad_name (Some names) ∷ walk_tests t (Some names) ++ behind) allowed.1) in
      let way = walk_passes t names behind one.3 in
      let free = first_passes (is_there t (Some names)) (has_no_slot (world_of m) cpu ∷ last) way.2 in
      let unused = some_passes (new_number m.layout m.rows cpu) (first_passes (has_no_slot (world_of m) cpu) last free.1).0 in
      let used = directory_used t names one.0 one.1 way.0 one.2 way.1 in
      let h = held_there mounted way.0 used.0 used.1 in
      let first : ShowsCreated T m.layout m.free.pools cpu held kind mode time unused.0 way.0 h.0 (last_name names) = a.left way.0 unused.0 held h.0 way.1 unused.1 w.first h.1 in
      let second : ShowsCreated U k.layout k.free.pools cpu held kind mode time unused.0 way.0 h.0 (last_name names) = b.left way.0 unused.0 held h.0 (sym (walks names) ∙ way.1) (number cpu unused.0 unused.1) there h.1 in
      ∥∥₁_elim (created_decided m.layout m.free.pools cpu held kind mode time unused.0 way.0 h.0 (last_name names) T U first (by_first (λ l pools. ShowsCreated U l pools cpu held kind mode time unused.0 way.0 h.0 (last_name names)) second)) ∥∥₁_prop (λ v.
      finish_by v.0 a b (created_same t u files walks finds links kind (new_number m.layout m.rows cpu) (new_number k.layout k.rows cpu) (unused.1 ∙ sym (number cpu unused.0 unused.1)) names mode time) v.2)

  link_alike : (cpu time : ℕ) (q : Path) → IsAllowed (λ R m p n. link_tests (world_of m) (tree_of R m.rows) cpu p q n) R m names → WasDone (makes_link time q) (logs_link cpu time q) R m names T → WasDone (makes_link time q) (logs_link cpu time q) S k names U → AreAlike T U
  link_alike cpu time None allowed a b = absurd a.left
  link_alike cpu time (Some others) allowed a b =
      let last = is_dir t (Some names) ∷ is_there t (Some others) ∷ has_most_links t (Some names) ∷ has_no_space (world_of m) allowed.0 ∷ [] in
      let behind = is_missing t (Some names) ∷ last in
      let both = walk_tests t (Some names) ++ walk_tests t (Some others) ++ behind in
      let one = named_passes others both (first_passes (is_bad (Some names)) (is_bad_name (Some others) ∷ both) (writing_passes (world_of m) cpu (is_bad (Some names) ∷ is_bad_name (Some others) ∷ both) allowed.1)).1 in
      let from = walk_passes t names (walk_tests t (Some others) ++ behind) (ap first_refusal (sym (append_assoc (walk_tests t (Some names)) (walk_tests t (Some others)) behind)) ∙ one.3) in
      let way = walk_passes t others behind from.2 in
      let led = leads_passes t names last way.2 in
      let led_there = leads_there t u alike names led.0 led.1 led.2 in
      let used = directory_used t others one.0 one.1 way.0 one.2 way.1 in
      let h = held_there mounted way.0 used.0 used.1 in
      let shown = led.2 in
      let f = held_there mounted led.0 led.1 shown.shows in
      let entries = name_entries Add led.0 (last_name others) time in
      let first : ShowsBothGrew T m.layout m.free.pools cpu held led.0 f.0 (links_entries (led.1.links + 1) time) way.0 h.0 entries = a.left led.0 way.0 led.1 held f.0 h.0 led.2 way.1 w.first f.1 h.1 in
      let second : ShowsBothGrew U k.layout k.free.pools cpu held led.0 f.0 (links_entries (led_there.other.links + 1) time) way.0 h.0 entries = b.left led.0 way.0 led_there.other held f.0 h.0 led_there.leads (sym (walks others) ∙ way.1) there f.1 h.1 in
      let as_first : ShowsBothGrew U k.layout k.free.pools cpu held led.0 f.0 (links_entries (led.1.links + 1) time) way.0 h.0 entries = subst (λ (n : ℕ). ShowsBothGrew U k.layout k.free.pools cpu held led.0 f.0 (links_entries (n + 1) time) way.0 h.0 entries) (ap (λ (x : Stat). x.links) led_there.numbers) second in
      finish a b (linked_same t u files walks finds links names others time)
      (both_decided m.layout m.free.pools cpu held led.0 f.0 (links_entries (led.1.links + 1) time) way.0 h.0 entries T U first (by_first (λ l pools. ShowsBothGrew U l pools cpu held led.0 f.0 (links_entries (led.1.links + 1) time) way.0 h.0 entries) as_first))

  -- ---- names that go

  -- where the file stays, and where it goes with its last name
  unlink_alike : (cpu time : ℕ) → IsAllowed (λ R m p n. unlink_tests (world_of m) (tree_of R m.rows) cpu p n) R m names → WasDone (makes_unlink time) (LogsUnlink cpu time) R m names T → WasDone (makes_unlink time) (LogsUnlink cpu time) S k names U → AreAlike T U
  unlink_alike cpu time allowed a b =
      let last = is_dir t (Some names) ∷ has_no_space (world_of m) allowed.0 ∷ [] in
      let behind = is_missing t (Some names) ∷ last in
      let one = named_passes names (walk_tests t (Some names) ++ behind) (writing_passes (world_of m) cpu (is_bad_name (Some names) ∷ walk_tests t (Some names) ++ behind) allowed.1) in
      let way = walk_passes t names behind one.3 in
      let led = leads_passes t names last way.2 in
      let led_there = leads_there t u alike names led.0 led.1 led.2 in
      let used = directory_used t names one.0 one.1 way.0 one.2 way.1 in
      let h = held_there mounted way.0 used.0 used.1 in
      let shown = led.2 in
      let f = held_there mounted led.0 led.1 shown.shows in
      let entries = name_entries Remove led.0 (last_name names) time in
      let contents = unlinked_same t u files walks finds links names time in
      let walked = sym (walks names) ∙ way.1 in
      let logs = a.left in
      let logs_there = b.left in
      elim (cases_lt 1 led.1.links) [
        | inl more ↦ (
            let first : ShowsBothGrew T m.layout m.free.pools cpu held way.0 h.0 entries led.0 f.0 (links_entries (led.1.links - 1) time) = logs.more led.0 way.0 led.1 held h.0 f.0 led.2 way.1 w.first h.1 f.1 more in
            let second : ShowsBothGrew U k.layout k.free.pools cpu held way.0 h.0 entries led.0 f.0 (links_entries (led_there.other.links - 1) time) = logs_there.more led.0 way.0 led_there.other held h.0 f.0 led_there.leads walked there h.1 f.1 (subst (λ (n : ℕ). 1 < n) (sym (ap (λ (x : Stat). x.links) led_there.numbers)) more) in
            let as_first : ShowsBothGrew U k.layout k.free.pools cpu held way.0 h.0 entries led.0 f.0 (links_entries (led.1.links - 1) time) = subst (λ (n : ℕ). ShowsBothGrew U k.layout k.free.pools cpu held way.0 h.0 entries led.0 f.0 (links_entries (n - 1) time)) (ap (λ (x : Stat). x.links) led_there.numbers) second in
            finish a b contents
            (both_decided m.layout m.free.pools cpu held way.0 h.0 entries led.0 f.0 (links_entries (led.1.links - 1) time) T U first (by_first (λ l pools. ShowsBothGrew U l pools cpu held way.0 h.0 entries led.0 f.0 (links_entries (led.1.links - 1) time)) as_first)))
        | inr few ↦ (
            let first : ShowsRemoved T m.layout m.free.pools cpu held way.0 h.0 entries led.0 = logs.last led.0 way.0 led.1 held h.0 led.2 way.1 w.first h.1 few in
            let second : ShowsRemoved U k.layout k.free.pools cpu held way.0 h.0 entries led.0 = logs_there.last led.0 way.0 led_there.other held h.0 led_there.leads walked there h.1 (subst (λ (n : ℕ). n ≤ 1) (sym (ap (λ (x : Stat). x.links) led_there.numbers)) few) in
            finish a b contents
            (removed_decided m.layout m.free.pools cpu held way.0 h.0 entries led.0 T U first (by_first (λ l pools. ShowsRemoved U l pools cpu held way.0 h.0 entries led.0) second)))
      ]

  remove_alike : (cpu time : ℕ) → IsAllowed (λ R m p n. rmdir_tests (world_of m) (tree_of R m.rows) cpu p n) R m names → WasDone (makes_removal time) (logs_removal cpu time) R m names T → WasDone (makes_removal time) (logs_removal cpu time) S k names U → AreAlike T U
  remove_alike cpu time allowed a b =
      let last = is_no_dir t (Some names) ∷ has_names t (Some names) ∷ has_no_space (world_of m) allowed.0 ∷ [] in
      let behind = is_missing t (Some names) ∷ last in
      let one = named_passes names (walk_tests t (Some names) ++ behind) (writing_passes (world_of m) cpu (is_bad_name (Some names) ∷ walk_tests t (Some names) ++ behind) allowed.1) in
      let way = walk_passes t names behind one.3 in
      let led = leads_passes t names last way.2 in
      let led_there = leads_there t u alike names led.0 led.1 led.2 in
      let used = directory_used t names one.0 one.1 way.0 one.2 way.1 in
      let h = held_there mounted way.0 used.0 used.1 in
      let entries = name_entries Remove led.0 (last_name names) time in
      let first : ShowsRemoved T m.layout m.free.pools cpu held way.0 h.0 entries led.0 = a.left led.0 way.0 led.1 held h.0 led.2 way.1 w.first h.1 in
      let second : ShowsRemoved U k.layout k.free.pools cpu held way.0 h.0 entries led.0 = b.left led.0 way.0 led_there.other held h.0 led_there.leads (sym (walks names) ∙ way.1) there h.1 in
      finish a b (removed_same t u files walks finds links names time)
      (removed_decided m.layout m.free.pools cpu held way.0 h.0 entries led.0 T U first (by_first (λ l pools. ShowsRemoved U l pools cpu held way.0 h.0 entries led.0) second))

  -- ---- names that move

  pub rename_alike : (cpu time : ℕ) (q : Path) → IsAllowed (λ R m p n. rename_tests (world_of m) (tree_of R m.rows) cpu p q n) R m names → WasDone (makes_rename time q) (logs_rename cpu time q) R m names T → WasDone (makes_rename time q) (logs_rename cpu time q) S k names U → AreAlike T U
  rename_alike cpu time None allowed a b = absurd a.left
  rename_alike cpu time (Some others) allowed a b =
      let last = is_into_itself t (Some names) (Some others) ∷ is_there t (Some others) ∷ has_no_space (world_of m) allowed.0 ∷ [] in
      let behind = is_missing t (Some names) ∷ last in
      let ways = walk_tests t (Some names) ++ walk_tests t (Some others) ++ behind in
      let one = named_passes names (is_bad_name (Some others) ∷ ways) (writing_passes (world_of m) cpu (is_bad_name (Some names) ∷ is_bad_name (Some others) ∷ ways) allowed.1) in
      let two = named_passes others ways one.3 in
      let from = walk_passes t names (walk_tests t (Some others) ++ behind) (ap first_refusal (sym (append_assoc (walk_tests t (Some names)) (walk_tests t (Some others)) behind)) ∙ two.3) in
      let way = walk_passes t others behind from.2 in
      let led = leads_passes t names last way.2 in
      let led_there = leads_there t u alike names led.0 led.1 led.2 in
      let used = directory_used t names one.0 one.1 from.0 one.2 from.1 in
      let used_end = directory_used t others two.0 two.1 way.0 two.2 way.1 in
      let h = held_there mounted from.0 used.0 used.1 in
      let g = held_there mounted way.0 used_end.0 used_end.1 in
      let less = name_entries Remove led.0 (last_name names) time in
      let more = name_entries Add led.0 (last_name others) time in
      let both = move_entries led.0 (last_name names) (last_name others) time in
      let contents = renamed_same t u files walks finds links names others time in
      let left = sym (walks names) ∙ from.1 in
      let logs = a.left in
      let logs_there = b.left in
      elim (cases_eq from.0 way.0) [
        | inl one_place ↦ (
            let ends : walk t 1 others ≡ Ok from.0 = way.1 ∙ ap (λ (d : ℕ). Ok d) (sym one_place) in
            let first : ShowsGrownLog T m.layout m.free.pools cpu held from.0 h.0 both = logs.within led.0 from.0 led.1 held h.0 led.2 from.1 ends w.first h.1 in
            let second : ShowsGrownLog U k.layout k.free.pools cpu held from.0 h.0 both = logs_there.within led.0 from.0 led_there.other held h.0 led_there.leads left (sym (walks others) ∙ ends) there h.1 in
            finish a b contents (grown_decided m.layout m.free.pools cpu held from.0 h.0 both T U first (by_first (λ l pools. ShowsGrownLog U l pools cpu held from.0 h.0 both) second)))
        | inr apart ↦ (
            let first : ShowsBothGrew T m.layout m.free.pools cpu held from.0 h.0 less way.0 g.0 more = logs.across led.0 from.0 way.0 led.1 held h.0 g.0 led.2 from.1 way.1 apart w.first h.1 g.1 in
            let second : ShowsBothGrew U k.layout k.free.pools cpu held from.0 h.0 less way.0 g.0 more = logs_there.across led.0 from.0 way.0 led_there.other held h.0 g.0 led_there.leads left (sym (walks others) ∙ way.1) apart there h.1 g.1 in
            finish a b contents (both_decided m.layout m.free.pools cpu held from.0 h.0 less way.0 g.0 more T U first (by_first (λ l pools. ShowsBothGrew U l pools cpu held from.0 h.0 less way.0 g.0 more) second)))
      ]

  -- ---- one inode

  size_alike : (cpu bytes time : ℕ) → IsAllowed (λ R m p n. set_size_tests (world_of m) (tree_of R m.rows) cpu p bytes n) R m names → WasDone (makes_size bytes time) (logs_size cpu bytes time) R m names T → WasDone (makes_size bytes time) (logs_size cpu bytes time) S k names U → AreAlike T U
  size_alike cpu bytes time allowed a b =
      let last = is_dir t (Some names) ∷ is_too_large bytes ∷ has_no_space (world_of m) allowed.0 ∷ [] in
      let behind = is_missing t (Some names) ∷ last in
      let way = walk_passes t names behind (first_passes (is_bad (Some names)) (walk_tests t (Some names) ++ behind) (writing_passes (world_of m) cpu (is_bad (Some names) ∷ walk_tests t (Some names) ++ behind) allowed.1)).1 in
      let led = leads_passes t names last way.2 in
      let led_there = leads_there t u alike names led.0 led.1 led.2 in
      let shown = led.2 in
      let h = held_there mounted led.0 led.1 shown.shows in
      let first : ShowsResizedLog T m.layout m.free.pools cpu held led.0 h.0 led.1 bytes time = a.left led.0 led.1 held h.0 led.2 w.first h.1 in
      let second : ShowsResizedLog U k.layout k.free.pools cpu held led.0 h.0 led_there.other bytes time = b.left led.0 led_there.other held h.0 led_there.leads there h.1 in
      finish a b (resized_same t u files walks finds links names bytes time)
      (resized_decided m.layout m.free.pools cpu held led.0 h.0 led.1 bytes time T U first (by_first (λ l pools. ShowsResizedLog U l pools cpu held led.0 h.0 led.1 bytes time) (as_node U k.layout k.free.pools cpu held led.0 h.0 led.1 led_there.other bytes time led_there.numbers second)))

  attributes_alike : (cpu mode owner group time : ℕ) → IsAllowed (λ R m p n. set_attr_tests (world_of m) (tree_of R m.rows) cpu p n) R m names → WasDone (makes_attributes mode owner group time) (logs_attributes cpu mode owner group time) R m names T → WasDone (makes_attributes mode owner group time) (logs_attributes cpu mode owner group time) S k names U → AreAlike T U
  attributes_alike cpu mode owner group time allowed a b =
      let last = has_no_space (world_of m) allowed.0 ∷ [] in
      let behind = is_missing t (Some names) ∷ last in
      let way = walk_passes t names behind (first_passes (is_bad (Some names)) (walk_tests t (Some names) ++ behind) (writing_passes (world_of m) cpu (is_bad (Some names) ∷ walk_tests t (Some names) ++ behind) allowed.1)).1 in
      let led = leads_passes t names last way.2 in
      let led_there = leads_there t u alike names led.0 led.1 led.2 in
      let shown = led.2 in
      let h = held_there mounted led.0 led.1 shown.shows in
      let first : ShowsGrownLog T m.layout m.free.pools cpu held led.0 h.0 (attributes led.1.size mode owner group time) = a.left led.0 led.1 held h.0 led.2 w.first h.1 in
      let second : ShowsGrownLog U k.layout k.free.pools cpu held led.0 h.0 (attributes led_there.other.size mode owner group time) = b.left led.0 led_there.other held h.0 led_there.leads there h.1 in
      let as_first : ShowsGrownLog U k.layout k.free.pools cpu held led.0 h.0 (attributes led.1.size mode owner group time) = subst (λ (n : ℕ). ShowsGrownLog U k.layout k.free.pools cpu held led.0 h.0 (attributes n mode owner group time)) (ap (λ (x : Stat). x.size) led_there.numbers) second in
      finish a b (attributed_same t u files walks finds links names mode owner group time)
      (grown_decided m.layout m.free.pools cpu held led.0 h.0 (attributes led.1.size mode owner group time) T U first (by_first (λ l pools. ShowsGrownLog U l pools cpu held led.0 h.0 (attributes led.1.size mode owner group time)) as_first))

  -- a write that was told by the second mount, told by the first
  write_there : (cpu i : ℕ) (h : Held) (plan : Plan) → ShowsLogWrite U k cpu held i h plan → ShowsLogWrite U m cpu held i h plan
  write_there cpu i h plan known = ∥∥₁_map known (λ x. record {
    runs = x.runs;
    rest = x.rest;
    taken = subst (λ (pools : List (List Run)). Takes pools cpu (data_blocks plan) x.runs x.rest) same.free x.taken;
    grew = subst (λ (l : Layout). ShowsGrownLog U l x.rest cpu held i h (data_entries plan x.runs)) laid x.grew;
    zeros = x.zeros;
  })

  write_alike : (cpu offset count : ℕ) (bytes : List ℕ) (time : ℕ) → IsAllowed (λ R m p n. write_tests (world_of m) (tree_of R m.rows) cpu p (offset + count) n) R m names → WasDone (makes_bytes offset bytes time) (LogsBytes cpu offset count time) R m names T → WasDone (makes_bytes offset bytes time) (LogsBytes cpu offset count time) S k names U → AreAlike T U
  write_alike cpu offset count bytes time allowed a b =
      let last = is_dir t (Some names) ∷ is_too_large (offset + count) ∷ has_no_space (world_of m) allowed.0 ∷ [] in
      let behind = is_missing t (Some names) ∷ last in
      let way = walk_passes t names behind (first_passes (is_bad (Some names)) (walk_tests t (Some names) ++ behind) (writing_passes (world_of m) cpu (is_bad (Some names) ∷ walk_tests t (Some names) ++ behind) allowed.1)).1 in
      let led = leads_passes t names last way.2 in
      let led_there = leads_there t u alike names led.0 led.1 led.2 in
      let shown = led.2 in
      let h = held_there mounted led.0 led.1 shown.shows in
      let logs = a.left in
      let logs_there = b.left in
      let plan : Layout → ℕ → Plan = λ l size. plan_of (block_of (good_in l h.0)) size offset count time in
      elim (cases_lt 0 count) [
        | inl some ↦ (
            let first : ShowsLogWrite T m cpu held led.0 h.0 (plan m.layout led.1.size) = logs.some led.0 led.1 held h.0 led.2 w.first h.1 some in
            let second : ShowsLogWrite U k cpu held led.0 h.0 (plan k.layout led_there.other.size) = logs_there.some led.0 led_there.other held h.0 led_there.leads there h.1 some in
            let by_sup : ShowsLogWrite U k cpu held led.0 h.0 (plan m.layout led_there.other.size) = subst (λ (l : Layout). ShowsLogWrite U k cpu held led.0 h.0 (plan l led_there.other.size)) laid second in
            let by_size : ShowsLogWrite U k cpu held led.0 h.0 (plan m.layout led.1.size) = subst (λ (n : ℕ). ShowsLogWrite U k cpu held led.0 h.0 (plan m.layout n)) (ap (λ (x : Stat). x.size) led_there.numbers) by_sup in
            finish a b (written_same t u files walks finds links names offset bytes time) (written_decided m cpu held led.0 h.0 (plan m.layout led.1.size) T U first (write_there cpu led.0 h.0 (plan m.layout led.1.size) by_size)))
        | inr none ↦ (
            let zero : count ≡ 0 = omega (arith, none) in
            ∣ (m.layout, held, subst (λ (x : Region). ShowAlike m.layout held x U) (sym (logs.none zero)) (subst (λ (x : Region). ShowAlike m.layout held R x) (sym (logs_there.none zero)) w)) ∣₁)
      ]

-- ---- where only that both regions are alike is known

pub by_held : (R S : Region) (m k : Mount ⊤) (Left : Type 0) → IsProp Left → IsFaultlessMount R m → AreAlike R S → ((held : Store) → ShowAlike m.layout held R S → Left) → Left
by_held R S m k Left prop is known each = ∥∥₁_elim known prop (λ w. (let same = as_faultless w.2.first (faultless_outcome m.layout m.rows m.free.pools) is in
    each w.1 (subst (λ (l : Layout). ShowAlike l w.1 R S) (sym (same_layout w.0 m.layout m.rows m.rows m.free.pools m.free.pools same)) w.2)))

pub creates_alike : (kind : Kind) (cpu mode time : ℕ) → KeepsAlike (λ R m p n. create_tests (world_of m) (tree_of R m.rows) cpu p n) (makes_inode kind cpu mode time) (logs_inode kind cpu mode time)
creates_alike kind cpu mode time R S T U m k names known is other allowed a b = by_held R S m k (AreAlike T U) ∥∥₁_prop is known (λ held w. create_alike held R S T U m k names is other w kind cpu mode time allowed a b)

pub writes_alike : (cpu offset count : ℕ) (bytes : List ℕ) (time : ℕ) → KeepsAlike (λ R m p n. write_tests (world_of m) (tree_of R m.rows) cpu p (offset + count) n) (makes_bytes offset bytes time) (LogsBytes cpu offset count time)
writes_alike cpu offset count bytes time R S T U m k names known is other allowed a b = by_held R S m k (AreAlike T U) ∥∥₁_prop is known (λ held w. write_alike held R S T U m k names is other w cpu offset count bytes time allowed a b)

pub sizes_alike : (cpu bytes time : ℕ) → KeepsAlike (λ R m p n. set_size_tests (world_of m) (tree_of R m.rows) cpu p bytes n) (makes_size bytes time) (logs_size cpu bytes time)
sizes_alike cpu bytes time R S T U m k names known is other allowed a b = by_held R S m k (AreAlike T U) ∥∥₁_prop is known (λ held w. size_alike held R S T U m k names is other w cpu bytes time allowed a b)

pub attributes_alike_too : (cpu mode owner group time : ℕ) → KeepsAlike (λ R m p n. set_attr_tests (world_of m) (tree_of R m.rows) cpu p n) (makes_attributes mode owner group time) (logs_attributes cpu mode owner group time)
attributes_alike_too cpu mode owner group time R S T U m k names known is other allowed a b = by_held R S m k (AreAlike T U) ∥∥₁_prop is known (λ held w. attributes_alike held R S T U m k names is other w cpu mode owner group time allowed a b)

pub links_alike : (cpu time : ℕ) (q : Path) → KeepsAlike (λ R m p n. link_tests (world_of m) (tree_of R m.rows) cpu p q n) (makes_link time q) (logs_link cpu time q)
links_alike cpu time q R S T U m k names known is other allowed a b = by_held R S m k (AreAlike T U) ∥∥₁_prop is known (λ held w. link_alike held R S T U m k names is other w cpu time q allowed a b)

pub unlinks_alike : (cpu time : ℕ) → KeepsAlike (λ R m p n. unlink_tests (world_of m) (tree_of R m.rows) cpu p n) (makes_unlink time) (LogsUnlink cpu time)
unlinks_alike cpu time R S T U m k names known is other allowed a b = by_held R S m k (AreAlike T U) ∥∥₁_prop is known (λ held w. unlink_alike held R S T U m k names is other w cpu time allowed a b)

pub removes_alike : (cpu time : ℕ) → KeepsAlike (λ R m p n. rmdir_tests (world_of m) (tree_of R m.rows) cpu p n) (makes_removal time) (logs_removal cpu time)
removes_alike cpu time R S T U m k names known is other allowed a b = by_held R S m k (AreAlike T U) ∥∥₁_prop is known (λ held w. remove_alike held R S T U m k names is other w cpu time allowed a b)

pub renames_alike : (cpu time : ℕ) (q : Path) → KeepsAlike (λ R m p n. rename_tests (world_of m) (tree_of R m.rows) cpu p q n) (makes_rename time q) (logs_rename cpu time q)
renames_alike cpu time q R S T U m k names known is other allowed a b = by_held R S m k (AreAlike T U) ∥∥₁_prop is known (λ held w. rename_alike held R S T U m k names is other w cpu time q allowed a b)

-- Which words the calls with two words at their commit store, and which of the two first: told of paths, by what is said of rows.
use Rattle.std.proofs.Common.{◌≡◌, ◌≢◌, ℕ, ◌+◌, ◌<◌, false, List, slice_get, ap, sym, ◌∙◌, subst, Option, Some, None, Ok}
use Rattle.std.specs.List.{Contains}
use Rattle.std.specs.Option.{option_map_or}
use Rattle.std.proofs.Math.Logic.{∥∥₁_map}
use Rattle.std.proofs.lemmas.Option.{same_Some}
use Rattle.nv_region.specs.Region.{Region}
use Rattle.nv_super.specs.Layout.{Layout}
use Rattle.nv_super.proofs.Members.{stands}
use Rattle.nv_super.specs.declared.superblock.Super.{Super}
use Rattle.nv_steps.specs.Slots.{slot_in}
use Rattle.nv_journal.specs.InOrder.{FirstIsFirst}
use Rattle.nv_alloc.specs.FreeValue.{FreeLists}
use Rattle.nv_entry.specs.declared.entry.Entry.{Entry}
use Rattle.nv_entry.specs.declared.entry.Operation.TheVariants.{Remove}
use Rattle.nv_scan.specs.declared.piece.Row.{Row}
use Rattle.nv_rows.specs.Rows.{IsInUse, place_in, row_of}
use Rattle.nv_rows.proofs.Places.{at_place, numbered, own_row, row_in_use}
use Rattle.nv_mounted.specs.Held.{Held, Store}
use Rattle.nv_mounted.specs.Mounted.{ShowsSound}
use Rattle.nv_tree.specs.Path.{last_name}
use Rattle.nv_tree.specs.Tree.{Node, walk}
use Rattle.nv_tree.specs.Calls.{links_at}
use Rattle.nv_paths.specs.MoveSpots.{IsMoveSpot}
use Rattle.nv_paths.specs.Directories.{IsNamedIn}
use Rattle.nv_paths.specs.Seen.{LeadsTo, tree_of}
use Rattle.nv_paths.specs.Spots.{IsSpot, new_number}
use Rattle.nv_steps.specs.InOrder.{TailIsFirst, tail_address}
use Rattle.nv_steps.specs.NameEntries.{links_entries, name_entries}
use Rattle.nv_steps.specs.Steps.{ShowsRow}
use Rattle.nv_steps.specs.Stores.{Places, StoresIn, one_log, two_logs}
use Rattle.nv_calls.specs.Growing.{create_places}
use Rattle.nv_calls.specs.InOrder.{ShowsTailFirst, ShowsValidFirst}
use Rattle.nv_calls.specs.Mount.{IsKept, Mount}
use Rattle.nv_calls.specs.NamesByNumber.{StandsFor}
use Rattle.nv_calls.proofs.CreatedRows.{not_held}
use Rattle.nv_calls.proofs.InOrder.{first_as, rows_first, valid_as}
use Rattle.nv_calls.proofs.LinkedTree.{links_told}
use Rattle.nv_calls.proofs.Mounts.{mounted_of_kept}
use Rattle.nv_calls.proofs.NewNumbers.{new_unused}
use Rattle.nv_calls.proofs.OneRow.{shows_row}
use Rattle.nv_calls.proofs.Stores.{row_stores, rows_store}

module _ {P : Type 0} (region : P → Region) {n m : Mount P} (same : n ≡ m) (kept : IsKept (region n.memory) n.sup n.layout n.rows n.free n.faults n.read_only n.stopped) (now_runs : m.stopped ≡ false) (S : Region) (cpu : ℕ) where
  abbrev R : Region
  R = region n.memory

  abbrev l : Layout
  l = n.layout

  abbrev rows : List Row
  rows = n.rows

  abbrev free : FreeLists
  free = n.free

  runs : n.stopped ≡ false
  runs = ap (λ (q : Mount P). q.stopped) same ∙ now_runs

  there : (i : ℕ) (row : Row) → row_of rows i ≡ Some row → Contains rows row
  there i row at = stands rows (place_in rows i) row (at_place rows i ∙ at)

  -- a row has the links of the inode of its number
  links_are : (i : ℕ) (row : Row) → row_of rows i ≡ Some row → (k : ℕ) (node : Node) → tree_of R rows k ≡ Some node → row.inode ≡ k → row.numbers.links ≡ node.links
  links_are i row at k node shows one =
      sym (links_told R rows row (own_row rows i row at)) ∙ ap (λ (q : ℕ). links_at (tree_of R rows) q) one ∙ ap (λ (o : Option Node). option_map_or (λ (x : Node). x.links) o 0) shows

  -- ---- two rows, of inodes that are in use

  module _ (i j : ℕ) (used : IsInUse rows i) (other_used : IsInUse rows j) where
    abbrev one : Row
    one = (row_in_use rows i used).0

    abbrev other : Row
    other = (row_in_use rows j other_used).0

    one_at : row_of rows i ≡ Some one
    one_at = (row_in_use rows i used).1

    other_at : row_of rows j ≡ Some other
    other_at = (row_in_use rows j other_used).1

    one_there : slice_get rows (place_in rows i) ≡ Some one
    one_there = at_place rows i ∙ one_at

    other_there : slice_get rows (place_in rows j) ≡ Some other
    other_there = at_place rows j ∙ other_at

    two_store : (places : ℕ → ℕ → Places) → ((held : Store) (f g : Held) → ShowsRow R l held f one free → ShowsRow R l held g other free → StoresIn l held (places one.inode other.inode) R S)
        → (k d : ℕ) → one.inode ≡ k → other.inode ≡ d → (held : Store) → ShowsSound R l held → StoresIn l held (places k d) R S
    two_store places step k d one_is other_is held sound =
        let told : places one.inode other.inode ≡ places k d = λ t. places (one_is t) (other_is t) in
        subst (λ (p : Places). StoresIn l held p R S) told
        (rows_store kept runs S one other (there i one one_at) (there j other other_at) (places one.inode other.inode) held sound (λ f g seen beside. step held f g seen beside))

    two_order : (entries told : List Entry) (address : ℕ → ℕ) → ((held : Store) (f g : Held) → ShowsRow R l held f one free → ShowsRow R l held g other free → TailIsFirst R S l free.pools cpu one.inode one.tail entries (address other.inode))
        → (k d : ℕ) → one.inode ≡ k → other.inode ≡ d → entries ≡ told → (held : Store) (h : Held) → ShowsSound R l held → held k ≡ Some h → ShowsTailFirst R S l free.pools cpu k h told (address d)
    two_order entries told address step k d one_is other_is as_told held h sound is =
        first_as R h one_is as_told (ap address other_is)
        (rows_first kept runs S one other (there i one one_at) (there j other other_at) cpu entries (address other.inode) held h sound (ap held one_is ∙ is) (λ f g seen beside. step held f g seen beside))

    -- `link`: of the file, and of the directory
    module _ (time : ℕ) where
      file_is : one.inode ≡ i
      file_is = numbered rows i one one_at

      directory_is : other.inode ≡ j
      directory_is = numbered rows j other other_at

      pub link_stored : ((file directory : Row) (held : Store) (f h : Held) → row_of rows i ≡ Some file → row_of rows j ≡ Some directory → ShowsRow R l held f file free → ShowsRow R l held h directory free → StoresIn l held (two_logs l cpu file.inode directory.inode) R S)
          → (held : Store) → ShowsSound (region m.memory) m.layout held → StoresIn m.layout held (two_logs m.layout cpu i j) (region m.memory) S
      link_stored step held =
          subst (λ (q : Mount P). ShowsSound (region q.memory) q.layout held → StoresIn q.layout held (two_logs q.layout cpu i j) (region q.memory) S) same
          (λ sound. two_store (two_logs l cpu) (λ st f h seen beside. step one other st f h one_at other_at seen beside) i j file_is directory_is held sound)

      -- The file's tail is stored first.
      pub link_ordered : ((file directory : Row) (held : Store) (f h : Held) → row_of rows i ≡ Some file → row_of rows j ≡ Some directory → ShowsRow R l held f file free → ShowsRow R l held h directory free → TailIsFirst R S l free.pools cpu file.inode file.tail (links_entries (file.numbers.links + 1) time) (tail_address l directory.inode))
          → (node : Node) (held : Store) (f : Held) → tree_of (region m.memory) m.rows i ≡ Some node → ShowsSound (region m.memory) m.layout held → held i ≡ Some f
          → ShowsTailFirst (region m.memory) S m.layout m.free.pools cpu i f (links_entries (node.links + 1) time) (tail_address m.layout j)
      link_ordered step node held f =
          subst (λ (q : Mount P). tree_of (region q.memory) q.rows i ≡ Some node → ShowsSound (region q.memory) q.layout held → held i ≡ Some f
          → ShowsTailFirst (region q.memory) S q.layout q.free.pools cpu i f (links_entries (node.links + 1) time) (tail_address q.layout j)) same
          (λ shows sound is.
          two_order (links_entries (one.numbers.links + 1) time) (links_entries (node.links + 1) time) (tail_address l) (λ st a b seen beside. step one other st a b one_at other_at seen beside) i j file_is directory_is
          (ap (λ (q : ℕ). links_entries (q + 1) time) (links_are i one one_at i node shows file_is)) held f sound is)

    -- `rmdir` and `unlink`: of the directory, and of the inode that loses its name, where a condition on its links holds
    module _ (time : ℕ) (name : List ℕ) (spot : IsNamedIn (tree_of R rows) rows i (place_in rows i) name (place_in rows j)) (Links : ℕ → Type 0) where
      parent_is : one.inode ≡ i
      parent_is = numbered rows i one one_at

      gone_is : (k : ℕ) (node : Node) → StandsFor (tree_of R rows) i name k node → other.inode ≡ k
      gone_is k node led = same_Some _ _ (sym (spot.leads other other_there) ∙ led.leads)

      links_of : (k : ℕ) (node : Node) → StandsFor (tree_of R rows) i name k node → Links node.links → Links other.numbers.links
      links_of k node led = subst Links (sym (links_are j other other_at k node led.shows (gone_is k node led)))

      pub gone_stored : (places : Layout → ℕ → ℕ → Places)
          → ((row gone : Row) (held : Store) (h f : Held) → row_of rows i ≡ Some row → row_of rows j ≡ Some gone → ShowsRow R l held h row free → ShowsRow R l held f gone free → Links gone.numbers.links → StoresIn l held (places l row.inode gone.inode) R S)
          → (k : ℕ) (node : Node) (held : Store) → StandsFor (tree_of (region m.memory) m.rows) i name k node → ShowsSound (region m.memory) m.layout held → Links node.links → StoresIn m.layout held (places m.layout i k) (region m.memory) S
      gone_stored places step k node held =
          subst (λ (q : Mount P). StandsFor (tree_of (region q.memory) q.rows) i name k node → ShowsSound (region q.memory) q.layout held → Links node.links → StoresIn q.layout held (places q.layout i k) (region q.memory) S) same
          (λ led sound told. two_store (places l) (λ st a b seen beside. step one other st a b one_at other_at seen beside (links_of k node led told)) i k parent_is (gone_is k node led) held sound)

      -- The directory's tail is stored before a word of the inode's slot.
      pub gone_ordered : (word_of : Layout → ℕ → ℕ)
          → ((row gone : Row) (held : Store) (h f : Held) → row_of rows i ≡ Some row → row_of rows j ≡ Some gone → ShowsRow R l held h row free → ShowsRow R l held f gone free → Links gone.numbers.links → TailIsFirst R S l free.pools cpu row.inode row.tail (name_entries Remove gone.inode name time) (word_of l gone.inode))
          → (k : ℕ) (node : Node) (held : Store) (h : Held) → StandsFor (tree_of (region m.memory) m.rows) i name k node → ShowsSound (region m.memory) m.layout held → held i ≡ Some h → Links node.links
          → ShowsTailFirst (region m.memory) S m.layout m.free.pools cpu i h (name_entries Remove k name time) (word_of m.layout k)
      gone_ordered word_of step k node held h =
          subst (λ (q : Mount P). StandsFor (tree_of (region q.memory) q.rows) i name k node → ShowsSound (region q.memory) q.layout held → held i ≡ Some h → Links node.links
          → ShowsTailFirst (region q.memory) S q.layout q.free.pools cpu i h (name_entries Remove k name time) (word_of q.layout k)) same
          (λ led sound is told.
          let gone = gone_is k node led in
          two_order (name_entries Remove other.inode name time) (name_entries Remove k name time) (word_of l) (λ st a b seen beside. step one other st a b one_at other_at seen beside (links_of k node led told)) i k parent_is gone
          (ap (λ (q : ℕ). name_entries Remove q name time) gone) held h sound is)

    -- `rename`: of the old directory, and of the new one
    module _ (t : ℕ) (moved_used : IsInUse rows t) (time : ℕ) (name new : List ℕ) (names others : List (List ℕ)) (spot : IsMoveSpot (tree_of R rows) rows names others (place_in rows i) name (place_in rows t) (place_in rows j) new) where
      abbrev moved : Row
      moved = (row_in_use rows t moved_used).0

      moved_at : row_of rows t ≡ Some moved
      moved_at = (row_in_use rows t moved_used).1

      from_is : (d : ℕ) → walk (tree_of R rows) 1 names ≡ Ok d → one.inode ≡ d
      from_is d walked =
          let from = spot.from in
          let ends : Ok one.inode ≡ Ok d = sym (from.directory one one_there).0 ∙ walked in
          cc

      to_is : (e : ℕ) → walk (tree_of R rows) 1 others ≡ Ok e → other.inode ≡ e
      to_is e ended =
          let free_name = spot.spot in
          let in_directory = free_name.directory in
          let ends : Ok other.inode ≡ Ok e = sym (in_directory.row other other_there).0 ∙ ended in
          cc

      apart : (d e : ℕ) → one.inode ≡ d → other.inode ≡ e → d ≢ e → place_in rows i ≢ place_in rows j
      apart d e from to differ p = differ (sym from ∙ ap (λ (r : Row). r.inode) (same_Some _ _ (sym one_there ∙ ap (slice_get rows) p ∙ other_there)) ∙ to)

      pub rename_stored : ((from to inode : Row) (held : Store) (h k : Held) → row_of rows i ≡ Some from → row_of rows j ≡ Some to → row_of rows t ≡ Some inode → ShowsRow R l held h from free → ShowsRow R l held k to free → place_in rows i ≢ place_in rows j → StoresIn l held (two_logs l cpu from.inode to.inode) R S)
          → (d e : ℕ) (held : Store) → walk (tree_of (region m.memory) m.rows) 1 names ≡ Ok d → walk (tree_of (region m.memory) m.rows) 1 others ≡ Ok e → d ≢ e → ShowsSound (region m.memory) m.layout held → StoresIn m.layout held (two_logs m.layout cpu d e) (region m.memory) S
      rename_stored step d e held =
          subst (λ (q : Mount P). walk (tree_of (region q.memory) q.rows) 1 names ≡ Ok d → walk (tree_of (region q.memory) q.rows) 1 others ≡ Ok e → d ≢ e → ShowsSound (region q.memory) q.layout held → StoresIn q.layout held (two_logs q.layout cpu d e) (region q.memory) S) same
          (λ walked ended differ sound.
          let from = from_is d walked in
          let to = to_is e ended in
          two_store (two_logs l cpu) (λ st a b seen beside. step one other moved st a b one_at other_at moved_at seen beside (apart d e from to differ)) d e from to held sound)

      -- The old directory's tail is stored first.
      pub rename_ordered : ((from to inode : Row) (held : Store) (h k : Held) → row_of rows i ≡ Some from → row_of rows j ≡ Some to → row_of rows t ≡ Some inode → ShowsRow R l held h from free → ShowsRow R l held k to free → place_in rows i ≢ place_in rows j
          → TailIsFirst R S l free.pools cpu from.inode from.tail (name_entries Remove inode.inode name time) (tail_address l to.inode))
          → (k d e : ℕ) (node : Node) (held : Store) (h : Held) → LeadsTo (tree_of (region m.memory) m.rows) names k node → walk (tree_of (region m.memory) m.rows) 1 names ≡ Ok d → walk (tree_of (region m.memory) m.rows) 1 others ≡ Ok e → d ≢ e → ShowsSound (region m.memory) m.layout held → held d ≡ Some h
          → ShowsTailFirst (region m.memory) S m.layout m.free.pools cpu d h (name_entries Remove k (last_name names) time) (tail_address m.layout e)
      rename_ordered step k d e node held h =
          subst (λ (q : Mount P). LeadsTo (tree_of (region q.memory) q.rows) names k node → walk (tree_of (region q.memory) q.rows) 1 names ≡ Ok d → walk (tree_of (region q.memory) q.rows) 1 others ≡ Ok e → d ≢ e → ShowsSound (region q.memory) q.layout held → held d ≡ Some h
          → ShowsTailFirst (region q.memory) S q.layout q.free.pools cpu d h (name_entries Remove k (last_name names) time) (tail_address q.layout e)) same
          (λ led walked ended differ sound is.
          let from = from_is d walked in
          let to = to_is e ended in
          let old = spot.from in
          let inode : moved.inode ≡ k = same_Some _ _ (sym (old.leads moved (at_place rows t ∙ moved_at)) ∙ led.leads) in
          let entries : name_entries Remove moved.inode name time ≡ name_entries Remove k (last_name names) time = λ p. name_entries Remove (inode p) (old.name_is p) time in
          two_order (name_entries Remove moved.inode name time) (name_entries Remove k (last_name names) time) (tail_address l) (λ st a b seen beside. step one other moved st a b one_at other_at moved_at seen beside (apart d e from to differ)) d e from to entries held h sound is)

      -- Within one directory its log alone is stored.
      pub within_stored : ((to : Row) (held : Store) (h : Held) → row_of rows j ≡ Some to → ShowsRow R l held h to free → i ≡ j → StoresIn l held (one_log l to.inode) R S)
          → (d : ℕ) (held : Store) → walk (tree_of (region m.memory) m.rows) 1 names ≡ Ok d → walk (tree_of (region m.memory) m.rows) 1 others ≡ Ok d → ShowsSound (region m.memory) m.layout held → StoresIn m.layout held (one_log m.layout d) (region m.memory) S
      within_stored step d held =
          subst (λ (q : Mount P). walk (tree_of (region q.memory) q.rows) 1 names ≡ Ok d → walk (tree_of (region q.memory) q.rows) 1 others ≡ Ok d → ShowsSound (region q.memory) q.layout held → StoresIn q.layout held (one_log q.layout d) (region q.memory) S) same
          (λ walked ended sound.
          let to = to_is d ended in
          let within : i ≡ j = sym (numbered rows i one one_at) ∙ from_is d walked ∙ sym to ∙ numbered rows j other other_at in
          subst (λ (k : ℕ). StoresIn l held (one_log l k) R S) to (row_stores kept runs S other (there j other other_at) (one_log l other.inode) held sound (λ mounted h seen. step other held h other_at seen within)))

  -- ---- `create` and `mkdir`: of the directory, and the number of the new inode

  module _ (now_writes : m.read_only ≡ false) (i j : ℕ) (used : IsInUse rows i) (now_low : cpu < m.sup.cpus) (name : List ℕ) (spot : IsSpot rows l cpu i (place_in rows i) name j) where
    abbrev directory : Row
    directory = (row_in_use rows i used).0

    directory_at : row_of rows i ≡ Some directory
    directory_at = (row_in_use rows i used).1

    writes : n.read_only ≡ false
    writes = ap (λ (q : Mount P). q.read_only) same ∙ now_writes

    unused : row_of rows j ≡ None
    unused = new_unused kept runs writes cpu j (subst (λ (s : Super). cpu < s.cpus) (sym kept.tables) (subst (λ (q : Mount P). cpu < q.sup.cpus) (sym same) now_low)) spot.unused

    named_is : directory.inode ≡ i
    named_is = numbered rows i directory directory_at

    number_is : (k : ℕ) → new_number l rows cpu ≡ Some k → j ≡ k
    number_is k number = same_Some _ _ (sym spot.unused ∙ number)

    pub create_stored : ((row : Row) (held : Store) (h : Held) → row_of rows i ≡ Some row → ShowsRow R l held h row free → held j ≡ None → StoresIn l held (create_places l cpu j row.inode) R S)
        → (k : ℕ) (held : Store) → new_number m.layout m.rows cpu ≡ Some k → ShowsSound (region m.memory) m.layout held → StoresIn m.layout held (create_places m.layout cpu k i) (region m.memory) S
    create_stored step k held =
        subst (λ (q : Mount P). new_number q.layout q.rows cpu ≡ Some k → ShowsSound (region q.memory) q.layout held → StoresIn q.layout held (create_places q.layout cpu k i) (region q.memory) S) same
        (λ number sound.
        let inode = number_is k number in
        let places : create_places l cpu j directory.inode ≡ create_places l cpu k i = λ p. create_places l cpu (inode p) (named_is p) in
        subst (λ (p : Places). StoresIn l held p R S) places
        (row_stores kept runs S directory (there i directory directory_at) (create_places l cpu j directory.inode) held sound (λ mounted h seen. step directory held h directory_at seen (not_held mounted j unused))))

    -- The new inode's valid word is stored first, in the slot that it has then.
    pub create_ordered : (grown : Layout) → ((row : Row) (held : Store) (h : Held) → row_of rows i ≡ Some row → ShowsRow R l held h row free → held j ≡ None → FirstIsFirst R (slot_in grown j) 1 (tail_address grown row.inode) S)
        → (k : ℕ) → new_number m.layout m.rows cpu ≡ Some k → ShowsValidFirst (region m.memory) S grown k i
    create_ordered grown step k =
        subst (λ (q : Mount P). new_number q.layout q.rows cpu ≡ Some k → ShowsValidFirst (region q.memory) S grown k i) same
        (λ number. valid_as R S grown (number_is k number) named_is (∥∥₁_map (mounted_of_kept kept runs writes) (λ w.
        let v = shows_row w.1 kept.lists directory (there i directory directory_at) in
        step directory w.0 v.0 directory_at v.1 (not_held w.1 j unused))))

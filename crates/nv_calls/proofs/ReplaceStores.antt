-- Which words `replace` stores, and which of them first: told of paths, by what is said of rows.
use Rattle.std.proofs.Common.{◌≡◌, ◌≢◌, ℕ, ◌%◌, Bool, false, List, refl, ap, sym, ◌∙◌, subst, Option, Some, None, Ok}
use Rattle.std.specs.List.{Contains}
use Rattle.std.specs.Option.{option_map, option_map_or}
use Rattle.std.proofs.Math.Logic.{∥∥₁_map}
use Rattle.std.proofs.lemmas.Option.{same_Some}
use Rattle.nv_region.specs.Region.{Region}
use Rattle.nv_super.proofs.Members.{stands}
use Rattle.nv_super.specs.Layout.{Layout}
use Rattle.nv_alloc.specs.FreeValue.{FreeLists}
use Rattle.nv_entry.specs.declared.entry.Operation.TheVariants.{Remove}
use Rattle.nv_logpage.specs.Append.{needed}
use Rattle.nv_scan.specs.declared.piece.Row.{Row}
use Rattle.nv_rows.specs.Rows.{IsInUse, place_in, row_of}
use Rattle.nv_rows.proofs.Places.{at_place, numbered, row_in_use}
use Rattle.nv_mounted.specs.Held.{Held, Store}
use Rattle.nv_mounted.specs.Mounted.{ShowsSound}
use Rattle.nv_tree.specs.Path.{last_name}
use Rattle.nv_tree.specs.Tree.{Node, Tree, found, walk}
use Rattle.nv_paths.specs.ReplaceSpots.{IsReplaceSpot}
use Rattle.nv_paths.specs.Seen.{node_of, tree_of}
use Rattle.nv_steps.specs.Across.{handed_entries}
use Rattle.nv_steps.specs.InOrder.{TailIsFirst, TailIsNext, tail_address}
use Rattle.nv_steps.specs.NameEntries.{name_entries}
use Rattle.nv_steps.specs.Steps.{ShowsRow}
use Rattle.nv_steps.specs.Stores.{Places, StoresIn}
use Rattle.nv_steps.specs.Takes.{take_entries}
use Rattle.nv_calls.specs.InOrder.{ShowsTailFirst}
use Rattle.nv_calls.specs.Mount.{IsKept, Mount}
use Rattle.nv_calls.specs.ReplaceBlocks.{is_named_twice}
use Rattle.nv_calls.specs.ReplaceCalls.{HandsInOrder, keeps_others, keeps_others_at}
use Rattle.nv_calls.specs.ReplaceLogs.{TakesPlace, has_others}
use Rattle.nv_calls.specs.ReplaceStores.{ShowsHandsInOrder, last_word, replace_places}
use Rattle.nv_calls.proofs.InOrder.{first_as, rows_first}
use Rattle.nv_calls.proofs.Mounts.{mounted_with}
use Rattle.nv_calls.proofs.OneRow.{shows_row}
use Rattle.nv_calls.proofs.Stores.{row_stores}

module _ {P : Type 0} (region : P → Region) {n m : Mount P} (same : n ≡ m) (kept : IsKept (region n.memory) n.sup n.layout n.rows n.free n.faults n.read_only n.stopped) (now_runs : m.stopped ≡ false) (S : Region) (cpu i j t : ℕ) (used : IsInUse n.rows i) (other_used : IsInUse n.rows j) (moved_used : IsInUse n.rows t)
    (there : Option ℕ) (known : (k : ℕ) → there ≡ Some k → IsInUse n.rows k) (time : ℕ) (name new : List ℕ) (names others : List (List ℕ)) (spot : IsReplaceSpot (tree_of (region n.memory) n.rows) n.rows names others (place_in n.rows i) name (place_in n.rows t) (place_in n.rows j) new there) where
  abbrev R : Region
  R = region n.memory

  abbrev l : Layout
  l = n.layout

  abbrev rows : List Row
  rows = n.rows

  abbrev free : FreeLists
  free = n.free

  abbrev seen_tree : Tree
  seen_tree = tree_of R rows

  runs : n.stopped ≡ false
  runs = ap (λ (q : Mount P). q.stopped) same ∙ now_runs

  in_rows : (k : ℕ) (row : Row) → row_of rows k ≡ Some row → Contains rows row
  in_rows k row at = stands rows (place_in rows k) row (at_place rows k ∙ at)

  abbrev from : Row
  from = (row_in_use rows i used).0

  abbrev to : Row
  to = (row_in_use rows j other_used).0

  abbrev moved : Row
  moved = (row_in_use rows t moved_used).0

  from_at : row_of rows i ≡ Some from
  from_at = (row_in_use rows i used).1

  to_at : row_of rows j ≡ Some to
  to_at = (row_in_use rows j other_used).1

  moved_at : row_of rows t ≡ Some moved
  moved_at = (row_in_use rows t moved_used).1

  -- ---- by what is said of the paths

  from_is : (d : ℕ) → walk seen_tree 1 names ≡ Ok d → from.inode ≡ d
  from_is d walked =
      let way = spot.way in
      let named = way.from in
      let both : Ok from.inode ≡ Ok d = sym (named.directory from (at_place rows i ∙ from_at)).0 ∙ walked in
      cc

  to_is : (e : ℕ) → walk seen_tree 1 others ≡ Ok e → to.inode ≡ e
  to_is e ended =
      let way = spot.way in
      let ends = way.to in
      let both : Ok to.inode ≡ Ok e = sym (ends.row to (at_place rows j ∙ to_at)).0 ∙ ended in
      cc

  moved_is : (a : ℕ) → found seen_tree names ≡ Some a → t ≡ a
  moved_is a led =
      let way = spot.way in
      let named = way.from in
      sym (numbered rows t moved moved_at) ∙ same_Some _ _ (sym (named.leads moved (at_place rows t ∙ moved_at)) ∙ led)

  name_is : name ≡ last_name names
  name_is = let way = spot.way in let named = way.from in named.name_is

  new_is : new ≡ last_name others
  new_is = let way = spot.way in let ends = way.to in ends.name_is

  row_named : (o : Option Row) → option_map_or has_others (option_map (node_of R) o) false ≡ option_map_or keeps_others o false
  row_named None = refl
  row_named (Some row) = refl

  named_twice : (o : Option ℕ) → option_map_or (λ k. option_map_or has_others (seen_tree k) false) o false ≡ keeps_others_at rows o
  named_twice None = refl
  named_twice (Some k) = row_named (row_of rows k)

  twice : is_named_twice seen_tree (Some others) ≡ keeps_others_at rows there
  twice = ap (λ (o : Option ℕ). option_map_or (λ k. option_map_or has_others (seen_tree k) false) o false) spot.leads ∙ named_twice there

  -- ---- the words

  abbrev Stored : Type 0
  Stored = (one two : Row) (held : Store) (h k : Held) → row_of rows i ≡ Some one → row_of rows j ≡ Some two → ShowsRow R l held h one free → ShowsRow R l held k two free
      → ((q : ℕ) (row : Row) → there ≡ Some q → row_of rows q ≡ Some row → (f : Held) × ShowsRow R l held f row free) → StoresIn l held (replace_places l cpu one.inode two.inode t there (keeps_others_at rows there)) R S

  stored_here : Stored → (a d e : ℕ) (held : Store) → found seen_tree names ≡ Some a → walk seen_tree 1 names ≡ Ok d → walk seen_tree 1 others ≡ Ok e → ShowsSound R l held
      → StoresIn l held (replace_places l cpu d e a (found seen_tree others) (is_named_twice seen_tree (Some others))) R S
  stored_here step a d e held led walked ended sound =
      let first = from_is d walked in
      let second = to_is e ended in
      let third = moved_is a led in
      let leads = sym spot.leads in
      let told : replace_places l cpu from.inode to.inode t there (keeps_others_at rows there) ≡ replace_places l cpu d e a (found seen_tree others) (is_named_twice seen_tree (Some others)) = λ x. replace_places l cpu (first x) (second x) (third x) (leads x) (sym twice x) in
      subst (λ (p : Places). StoresIn l held p R S) told
      (row_stores kept runs S from (in_rows i from from_at) (replace_places l cpu from.inode to.inode t there (keeps_others_at rows there)) held sound (λ mounted f seen.
      let u = shows_row {free = free} mounted kept.lists to (in_rows j to to_at) in
      step from to held f u.0 from_at to_at seen u.1 (λ q row is row_is. (let z = shows_row {free = free} mounted kept.lists row (in_rows q row row_is) in (z.0, z.1)))))

  pub replace_stored : Stored → (a d e : ℕ) (held : Store) → found (tree_of (region m.memory) m.rows) names ≡ Some a → walk (tree_of (region m.memory) m.rows) 1 names ≡ Ok d → walk (tree_of (region m.memory) m.rows) 1 others ≡ Ok e → ShowsSound (region m.memory) m.layout held
      → StoresIn m.layout held (replace_places m.layout cpu d e a (found (tree_of (region m.memory) m.rows) others) (is_named_twice (tree_of (region m.memory) m.rows) (Some others))) (region m.memory) S
  replace_stored step a d e held =
      subst (λ (q : Mount P). found (tree_of (region q.memory) q.rows) names ≡ Some a → walk (tree_of (region q.memory) q.rows) 1 names ≡ Ok d → walk (tree_of (region q.memory) q.rows) 1 others ≡ Ok e → ShowsSound (region q.memory) q.layout held
      → StoresIn q.layout held (replace_places q.layout cpu d e a (found (tree_of (region q.memory) q.rows) others) (is_named_twice (tree_of (region q.memory) q.rows) (Some others))) (region q.memory) S) same (stored_here step a d e held)

  -- ---- which is first: where the new name is free

  abbrev Freed : Type 0
  Freed = (one two : Row) (held : Store) (h k : Held) → row_of rows i ≡ Some one → row_of rows j ≡ Some two → ShowsRow R l held h one free → ShowsRow R l held k two free → there ≡ None → i ≢ j
      → TailIsFirst R S l free.pools cpu one.inode one.tail (name_entries Remove t name time) (tail_address l two.inode)

  freed_here : Freed → (a d e : ℕ) (held : Store) (h : Held) → found seen_tree names ≡ Some a → found seen_tree others ≡ None → walk seen_tree 1 names ≡ Ok d → walk seen_tree 1 others ≡ Ok e → d ≢ e → ShowsSound R l held → held d ≡ Some h
      → ShowsTailFirst R S l free.pools cpu d h (name_entries Remove a (last_name names) time) (tail_address l e)
  freed_here step a d e held h led none walked ended differ sound is =
      let first = from_is d walked in
      let second = to_is e ended in
      let third = moved_is a led in
      let numbers : i ≢ j = λ p. differ (sym first ∙ numbered rows i from from_at ∙ p ∙ sym (numbered rows j to to_at) ∙ second) in
      let entries : name_entries Remove t name time ≡ name_entries Remove a (last_name names) time = λ x. name_entries Remove (third x) (name_is x) time in
      first_as R h first entries (ap (tail_address l) second)
      (rows_first kept runs S from to (in_rows i from from_at) (in_rows j to to_at) cpu (name_entries Remove t name time) (tail_address l to.inode) held h sound (ap held first ∙ is) (λ f g seen beside. step from to held f g from_at to_at seen beside (sym spot.leads ∙ none) numbers))

  pub free_ordered : Freed → (a d e : ℕ) (held : Store) (h : Held) → found (tree_of (region m.memory) m.rows) names ≡ Some a → found (tree_of (region m.memory) m.rows) others ≡ None → walk (tree_of (region m.memory) m.rows) 1 names ≡ Ok d → walk (tree_of (region m.memory) m.rows) 1 others ≡ Ok e → d ≢ e
      → ShowsSound (region m.memory) m.layout held → held d ≡ Some h → ShowsTailFirst (region m.memory) S m.layout m.free.pools cpu d h (name_entries Remove a (last_name names) time) (tail_address m.layout e)
  free_ordered step a d e held h =
      subst (λ (q : Mount P). found (tree_of (region q.memory) q.rows) names ≡ Some a → found (tree_of (region q.memory) q.rows) others ≡ None → walk (tree_of (region q.memory) q.rows) 1 names ≡ Ok d → walk (tree_of (region q.memory) q.rows) 1 others ≡ Ok e → d ≢ e
      → ShowsSound (region q.memory) q.layout held → held d ≡ Some h → ShowsTailFirst (region q.memory) S q.layout q.free.pools cpu d h (name_entries Remove a (last_name names) time) (tail_address q.layout e)) same (freed_here step a d e held h)

  -- ---- where it stands for another inode

  module _ {a b d e : ℕ} {node : Node} (takes : TakesPlace seen_tree names others a b d e node) where
    is_there : there ≡ Some b
    is_there = let led = takes.there in sym spot.leads ∙ led.leads

    abbrev had : Row
    had = (row_in_use rows b (known b is_there)).0

    had_at : row_of rows b ≡ Some had
    had_at = (row_in_use rows b (known b is_there)).1

    stays : keeps_others had ≡ has_others node
    stays = let led = takes.there in ap has_others (same_Some _ _ (sym (ap (option_map (node_of R)) had_at) ∙ led.shows))

    had_apart : b ≢ t
    had_apart p = takes.differ (sym (moved_is a takes.moved) ∙ sym p)

  abbrev Within : Type 0
  Within = (row file : Row) (q : ℕ) (held : Store) (h f : Held) → row_of rows j ≡ Some row → row_of rows q ≡ Some file → ShowsRow R l held h row free → ShowsRow R l held f file free → there ≡ Some q → q ≢ t → i ≡ j
      → TailIsFirst R S l free.pools cpu row.inode row.tail (take_entries t q name new time) (last_word l q (keeps_others file))

  within_here : Within → (a b d : ℕ) (node : Node) (held : Store) (h : Held) → TakesPlace seen_tree names others a b d d node → ShowsSound R l held → held d ≡ Some h
      → ShowsTailFirst R S l free.pools cpu d h (take_entries a b (last_name names) (last_name others) time) (last_word l b (has_others node))
  within_here step a b d node held h takes sound is =
      let first = from_is d takes.from in
      let second = to_is d takes.way in
      let third = moved_is a takes.moved in
      let one_directory : i ≡ j = sym (numbered rows i from from_at) ∙ first ∙ sym second ∙ numbered rows j to to_at in
      let entries : take_entries t b name new time ≡ take_entries a b (last_name names) (last_name others) time = λ x. take_entries (third x) b (name_is x) (new_is x) time in
      first_as R h second entries (ap (λ (c : Bool). last_word l b c) (stays takes))
      (rows_first kept runs S to (had takes) (in_rows j to to_at) (in_rows b (had takes) (had_at takes)) cpu (take_entries t b name new time) (last_word l b (keeps_others (had takes))) held h sound (ap held second ∙ is)
      (λ f g seen beside. step to (had takes) b held f g to_at (had_at takes) seen beside (is_there takes) (had_apart takes) one_directory))

  pub within_ordered : Within → (a b d : ℕ) (node : Node) (held : Store) (h : Held) → TakesPlace (tree_of (region m.memory) m.rows) names others a b d d node → ShowsSound (region m.memory) m.layout held → held d ≡ Some h
      → ShowsTailFirst (region m.memory) S m.layout m.free.pools cpu d h (take_entries a b (last_name names) (last_name others) time) (last_word m.layout b (has_others node))
  within_ordered step a b d node held h =
      subst (λ (q : Mount P). TakesPlace (tree_of (region q.memory) q.rows) names others a b d d node → ShowsSound (region q.memory) q.layout held → held d ≡ Some h
      → ShowsTailFirst (region q.memory) S q.layout q.free.pools cpu d h (take_entries a b (last_name names) (last_name others) time) (last_word q.layout b (has_others node))) same (within_here step a b d node held h)

  -- ---- in another directory

  abbrev Over : Type 0
  Over = (one two file : Row) (q : ℕ) (held : Store) (h k f : Held) → row_of rows i ≡ Some one → row_of rows j ≡ Some two → row_of rows q ≡ Some file → ShowsRow R l held h one free → ShowsRow R l held k two free → ShowsRow R l held f file free → there ≡ Some q → q ≢ t → i ≢ j
      → HandsInOrder R S l free cpu one two t q name new time (last_word l q (keeps_others file))

  over_here : Over → (a b d e : ℕ) (node : Node) (held : Store) (h k : Held) → TakesPlace seen_tree names others a b d e node → d ≢ e → ShowsSound R l held → held d ≡ Some h → held e ≡ Some k
      → ShowsHandsInOrder R S l free.pools cpu d h e k a b (last_name names) (last_name others) time (last_word l b (has_others node))
  over_here step a b d e node held h k takes differ sound is other_is =
      let first = from_is d takes.from in
      let second = to_is e takes.way in
      let third = moved_is a takes.moved in
      let told_stays = stays takes in
      let numbers : i ≢ j = λ p. differ (sym first ∙ numbered rows i from from_at ∙ p ∙ sym (numbered rows j to to_at) ∙ second) in
      let all : (from.inode, to.inode, t, name, new, keeps_others (had takes)) ≡ (d, e, a, last_name names, last_name others, has_others node) = λ x. (first x, second x, third x, name_is x, new_is x, told_stays x) in
      subst (λ (z : ℕ × ℕ × ℕ × List ℕ × List ℕ × Bool). ShowsHandsInOrder R S l free.pools cpu z.0 h z.1 k z.2 b z.3 z.4 time (last_word l b z.5)) all
      (∥∥₁_map (mounted_with kept runs held sound) (λ mounted.
      let v = shows_row {free = free} mounted kept.lists from (in_rows i from from_at) in
      let u = shows_row {free = free} mounted kept.lists to (in_rows j to to_at) in
      let w = shows_row {free = free} mounted kept.lists (had takes) (in_rows b (had takes) (had_at takes)) in
      let seen = v.1 in
      let beside = u.1 in
      let told = seen.told in
      let told_beside = beside.told in
      let tail_is : from.tail ≡ h.tail = told.tail ∙ ap (λ (g : Held). g.tail) (same_Some _ _ (sym seen.holds ∙ ap held first ∙ is)) in
      let other_tail_is : to.tail ≡ k.tail = told_beside.tail ∙ ap (λ (g : Held). g.tail) (same_Some _ _ (sym beside.holds ∙ ap held second ∙ other_is)) in
      let tails : (from.tail, to.tail) ≡ (h.tail, k.tail) = λ x. (tail_is x, other_tail_is x) in
      subst (λ (y : ℕ × ℕ). TailIsFirst R S l free.pools cpu from.inode y.0 (name_entries Remove t name time) (tail_address l to.inode) × TailIsNext R S l free.pools cpu (needed (y.0 % 4096) (name_entries Remove t name time)) to.inode y.1 (handed_entries t b new time) (last_word l b (keeps_others (had takes)))) tails
      (step from to (had takes) b held v.0 u.0 w.0 from_at to_at (had_at takes) v.1 u.1 w.1 (is_there takes) (had_apart takes) numbers)))

  pub over_ordered : Over → (a b d e : ℕ) (node : Node) (held : Store) (h k : Held) → TakesPlace (tree_of (region m.memory) m.rows) names others a b d e node → d ≢ e → ShowsSound (region m.memory) m.layout held → held d ≡ Some h → held e ≡ Some k
      → ShowsHandsInOrder (region m.memory) S m.layout m.free.pools cpu d h e k a b (last_name names) (last_name others) time (last_word m.layout b (has_others node))
  over_ordered step a b d e node held h k =
      subst (λ (q : Mount P). TakesPlace (tree_of (region q.memory) q.rows) names others a b d e node → d ≢ e → ShowsSound (region q.memory) q.layout held → held d ≡ Some h → held e ≡ Some k
      → ShowsHandsInOrder (region q.memory) S q.layout q.free.pools cpu d h e k a b (last_name names) (last_name others) time (last_word q.layout b (has_others node))) same (over_here step a b d e node held h k)

  -- ---- where both paths lead to one inode

  pub one_inode : (a : ℕ) → found (tree_of (region m.memory) m.rows) names ≡ Some a → found (tree_of (region m.memory) m.rows) others ≡ Some a → there ≡ Some t
  one_inode a =
      subst (λ (q : Mount P). found (tree_of (region q.memory) q.rows) names ≡ Some a → found (tree_of (region q.memory) q.rows) others ≡ Some a → there ≡ Some t) same
      (λ led leads_too. sym spot.leads ∙ leads_too ∙ ap (λ (k : ℕ). Some k) (sym (moved_is a led)))

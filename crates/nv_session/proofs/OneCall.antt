-- A call that writes prints one text: its tests are those of the region and of what came to the recovery.
use Rattle.std.proofs.Common.{◌≡◌, inl, inr, ℕ, ◌+◌, ◌%◌, ◌<◌, Bool, true, false, not, cond, nat_lt, nat_le, nat_eq, ◌&&◌, is_none, is_some, List, [], ◌∷◌, ◌++◌, append_assoc, length, Option, Some, None, Result, Ok, Err, refl, sym, ap, subst, ◌∙◌, arith}
use Rattle.std.specs.Prelude.{⊤, eqb}
use Rattle.std.specs.List.{list_any}
use Rattle.std.specs.Option.{option_and_then, option_map, option_map_or}
use Rattle.std.proofs.lemmas.Bool.{cases_lt}
use Rattle.std.proofs.lemmas.Bool.Decides.{nat_tests}
use Rattle.nv_region.specs.Region.{Region}
use Rattle.nv_super.specs.declared.owners.Run.{Run}
use Rattle.nv_alloc.specs.Taking.{all_blocks}
use Rattle.nv_alloc.proofs.Singly.{takes_once}
use Rattle.nv_entry.specs.declared.entry.Operation.TheVariants.{Add}
use Rattle.nv_entry.specs.declared.entry.Entry.{Entry}
use Rattle.nv_radix.specs.Pages.{block_at}
use Rattle.nv_scan.specs.declared.piece.Row.{Row}
use Rattle.nv_outcome.specs.Same.{SameRow, SameRows}
use Rattle.nv_outcome.proofs.OnlyOne.{same_outcome}
use Rattle.nv_graph.specs.Read.{row_of}
use Rattle.nv_tree.specs.Path.{last_name}
use Rattle.nv_tree.specs.Calls.{links_at}
use Rattle.nv_tree.specs.Tree.{Tree, found, in_use, last_in, walk}
use Rattle.nv_tree.specs.Refusals.{Path, Tests, World, first_refusal, refusal_word, target, writing, count_at, is_bad, is_dir, is_directory_at, is_missing, is_too_large, has_no_space, passes, walk_tests, clean_tests, create_tests, write_tests, set_size_tests, set_attr_tests, link_tests, unlink_tests, rmdir_tests, rename_tests}
use Rattle.nv_tree.specs.declared.refusal.Refusal.{Refusal}
use Rattle.nv_tree.specs.declared.refusal.Refusal.TheVariants.{BadCpu, ReadOnly}
use Rattle.nv_tree.proofs.Texts.{says_one}
use Rattle.nv_text.specs.Answers.{refused_line}
use Rattle.nv_steps.specs.Attributes.{attributes}
use Rattle.nv_calls.specs.AttributesCall.{attributes_blocks}
use Rattle.nv_calls.specs.LinkCalls.{link_blocks, links_blocks}
use Rattle.nv_steps.specs.NameEntries.{links_entries, name_entries}
use Rattle.nv_calls.specs.Mount.{Mount, has_faults}
use Rattle.nv_calls.specs.MoveCalls.{end_together, rename_blocks}
use Rattle.nv_steps.specs.Moves.{move_entries}
use Rattle.nv_calls.specs.NameCalls.{create_blocks, ended_row, name_blocks, row_blocks, table_growth}
use Rattle.nv_paths.specs.Seen.{node_of, tree_of}
use Rattle.nv_steps.specs.Sizes.{blocks_from, end_block}
use Rattle.nv_calls.specs.SizeCall.{resized_blocks, size_blocks}
use Rattle.nv_calls.specs.UnlinkCalls.{has_more_links, unlink_blocks}
use Rattle.nv_paths.specs.Spots.{new_number}
use Rattle.nv_calls.specs.World.{world_of}
use Rattle.nv_calls.specs.WriteCall.{WriteNeeds}
use Rattle.nv_steps.specs.Writes.{NeedsBlocks, data_blocks, data_entries, plan_of}
use Rattle.nv_steps.proofs.Takes.{takes_less}
use Rattle.nv_logpage.specs.Append.{needed}
use Rattle.nv_calls.specs.Effects.{Makes, Logs}
use Rattle.nv_history.proofs.Cleaned.{target_there}
use Rattle.nv_session.specs.Calls.{Asks, Asked, asks_create, asks_write, asks_size, asks_attributes, asks_link, asks_unlink, asks_remove, asks_rename, asks_clean, seen_in}
use Rattle.nv_session.specs.Machine.{State, CallsMounted}
use Rattle.nv_calls.proofs.Allowed.{first_passes, later_passes}
use Rattle.nv_calls.proofs.SeenAlike.{Alike, AreSame, alike_here, rows_at, new_same, unused_same, walk_alike, found_alike, passed_alike, directory_alike}

-- Two mounts that nobody can tell apart by what the tests of calls look at.
pub record SameSeen (m k : Mount ⊤) : Type 0 where
  pub sup : k.sup ≡ m.sup
  pub layout : k.layout ≡ m.layout
  pub rows : SameRows m.rows k.rows
  pub pools : k.free.pools ≡ m.free.pools
  pub read_only : k.read_only ≡ m.read_only

-- what is asked of one region twice
pub same_seen : (asks : Asks) (R S : Region) (path : List ℕ) (a b : Asked asks R S path) → SameSeen (seen_in a) (seen_in b)
same_seen asks R S path a b =
    let here = same_outcome S a.here b.here a.of_here b.of_here in
    let shown = same_outcome R a.shown b.shown a.of_shown b.of_shown in
    record { sup = here.sup; layout = λ i. record { sup = here.sup i; chains = here.tables i }; rows = here.rows; pools = here.free; read_only = ap has_faults shown.faults }

-- two tests of the inode that a path leads to
on_target : (f g : ℕ → Bool) → ((i : ℕ) → g i ≡ f i) → (o : Option ℕ) → option_map_or g o false ≡ option_map_or f o false
on_target f g same None = refl
on_target f g same (Some i) = same i

module _ (S U : Region) (m k : Mount ⊤) (same : SameSeen m k) (alike : Alike (tree_of S m.rows) (tree_of U k.rows)) where
  -- ---- what stands beside the tree

  number_same : (cpu : ℕ) → new_number k.layout k.rows cpu ≡ new_number m.layout m.rows cpu
  number_same cpu = new_same m.layout k.layout m.rows k.rows same.layout same.rows cpu

  world_same : world_of k ≡ world_of m
  world_same = λ i. record { cpus = (same.sup i).cpus; read_only = same.read_only i; unused = λ cpu. number_same cpu i; free = all_blocks (same.pools i) }

  -- ---- how many blocks are needed

  by_rows : (f : Row → ℕ) → ((a b : Row) → SameRow a b → f b ≡ f a) → (o : Option ℕ) → option_map_or f (option_and_then (row_of k.rows) o) 0 ≡ option_map_or f (option_and_then (row_of m.rows) o) 0
  by_rows f keeps None = refl
  by_rows f keeps (Some i) = by (row_of m.rows i) (row_of k.rows i) (rows_at m.rows k.rows same.rows i) where
    by : (a b : Option Row) → AreSame a b → option_map_or f b 0 ≡ option_map_or f a 0
    by None None s = refl
    by None (Some b) s = absurd s
    by (Some a) None s = absurd s
    by (Some a) (Some b) s = keeps a b s

  target_same : (p : Path) → target (tree_of U k.rows) p ≡ target (tree_of S m.rows) p
  target_same None = refl
  target_same (Some names) = found_alike (tree_of S m.rows) (tree_of U k.rows) alike names

  rows_needed : (a b : Option Row) → AreSame a b → (e : List Entry) → row_blocks b e ≡ row_blocks a e
  rows_needed None None s e = refl
  rows_needed None (Some b) s e = absurd s
  rows_needed (Some a) None s e = absurd s
  rows_needed (Some a) (Some b) s e = ap (λ (x : ℕ). row_blocks (Some (record b { tail = x })) e) s.tail

  ended_needs : (names : List (List ℕ)) (e : List Entry) → row_blocks (ended_row k.rows (walk (tree_of U k.rows) 1 names)) e ≡ row_blocks (ended_row m.rows (walk (tree_of S m.rows) 1 names)) e
  ended_needs names e = ap (λ (r : Result ℕ Refusal). row_blocks (ended_row k.rows r) e) (walk_alike (tree_of S m.rows) (tree_of U k.rows) alike names 1) ∙ by (walk (tree_of S m.rows) 1 names) where
    by : (r : Result ℕ Refusal) → row_blocks (ended_row k.rows r) e ≡ row_blocks (ended_row m.rows r) e
    by (Err r) = refl
    by (Ok d) = rows_needed (row_of m.rows d) (row_of k.rows d) (rows_at m.rows k.rows same.rows d) e

  name_needs : (p : Path) → name_blocks k.rows (tree_of U k.rows) p ≡ name_blocks m.rows (tree_of S m.rows) p
  name_needs None = refl
  name_needs (Some names) = ended_needs names (name_entries Add 0 (last_name names) 0)

  growth_same : (cpu : ℕ) → table_growth k.layout k.rows cpu ≡ table_growth m.layout m.rows cpu
  growth_same cpu = λ i. cond (eqb (same.layout i).sup.version 2 && is_none (unused_same m.layout k.layout m.rows k.rows same.layout same.rows cpu i)) 1 0

  create_needs : (cpu : ℕ) (p : Path) → create_blocks k.layout k.rows cpu (tree_of U k.rows) p ≡ create_blocks m.layout m.rows cpu (tree_of S m.rows) p
  create_needs cpu p = λ i. growth_same cpu i + (1 + name_needs p i)

  links_needs : (p : Path) → links_blocks k.rows (tree_of U k.rows) p ≡ links_blocks m.rows (tree_of S m.rows) p
  links_needs p = ap (λ (o : Option ℕ). option_map_or (λ i. row_blocks (row_of k.rows i) (links_entries 0 0)) o 0) (target_same p) ∙ by (target (tree_of S m.rows) p) where
    by : (o : Option ℕ) → option_map_or (λ i. row_blocks (row_of k.rows i) (links_entries 0 0)) o 0 ≡ option_map_or (λ i. row_blocks (row_of m.rows i) (links_entries 0 0)) o 0
    by None = refl
    by (Some i) = rows_needed (row_of m.rows i) (row_of k.rows i) (rows_at m.rows k.rows same.rows i) (links_entries 0 0)

  link_needs : (p q : Path) → link_blocks k.rows (tree_of U k.rows) p q ≡ link_blocks m.rows (tree_of S m.rows) p q
  link_needs p q = λ i. links_needs p i + name_needs q i

  more_links : (p : Path) → has_more_links (tree_of U k.rows) p ≡ has_more_links (tree_of S m.rows) p
  more_links p = ap (λ (o : Option ℕ). option_map_or (λ i. nat_lt 1 (links_at (tree_of U k.rows) i)) o false) (target_same p)
      ∙ on_target (λ i. nat_lt 1 (links_at (tree_of S m.rows) i)) (λ i. nat_lt 1 (links_at (tree_of U k.rows) i)) (λ i. ap (nat_lt 1) (alike.links i)) (target (tree_of S m.rows) p)

  unlink_needs : (p : Path) → unlink_blocks k.rows (tree_of U k.rows) p ≡ unlink_blocks m.rows (tree_of S m.rows) p
  unlink_needs p = λ i. name_needs p i + cond (more_links p i) (links_needs p i) 0

  rename_needs : (p q : Path) → rename_blocks k.rows (tree_of U k.rows) p q ≡ rename_blocks m.rows (tree_of S m.rows) p q
  rename_needs None q = refl
  rename_needs (Some names) None = refl
  rename_needs (Some names) (Some others) = λ i. cond (end_together (walk_alike (tree_of S m.rows) (tree_of U k.rows) alike names 1 i) (walk_alike (tree_of S m.rows) (tree_of U k.rows) alike others 1 i))
      (ended_needs names (move_entries 0 (last_name names) (last_name others) 0) i) (name_needs (Some names) i + name_needs (Some others) i)

  size_needs : (p : Path) (size : ℕ) → resized_blocks k.rows (tree_of U k.rows) p size ≡ resized_blocks m.rows (tree_of S m.rows) p size
  size_needs p size = ap (λ (o : Option ℕ). option_map_or (λ (row : Row). size_blocks row size) (option_and_then (row_of k.rows) o) 0) (target_same p)
      ∙ by_rows (λ (row : Row). size_blocks row size) (λ a b s i. blocks_from (s.tail i) (record { mode = 0; size = 0; time = 0; owner = 0; group = 0 }) (end_block (λ q. s.index q i) ((s.numbers i).size) size)) (target (tree_of S m.rows) p)

  abbrev attributes_row : Row → ℕ
  attributes_row row = row_blocks (Some row) (attributes row.numbers.size 0 0 0 0)

  attributes_needs : (p : Path) → attributes_blocks k.rows (tree_of U k.rows) p ≡ attributes_blocks m.rows (tree_of S m.rows) p
  attributes_needs p = ap (λ (o : Option ℕ). option_map_or attributes_row (option_and_then (row_of k.rows) o) 0) (target_same p)
      ∙ by_rows attributes_row (λ a b s i. attributes_row (record b { tail = s.tail i; numbers = s.numbers i })) (target (tree_of S m.rows) p)

  -- ---- the tests of a call

  module _ (w : World) (cpu : ℕ) where
    create_front : (p : Path) (n : ℕ) → first_refusal (create_tests w (tree_of U k.rows) cpu p n) ≡ first_refusal (create_tests w (tree_of S m.rows) cpu p n)
    create_front None n = refl
    create_front (Some names) n = rw (walk_alike (tree_of S m.rows) (tree_of U k.rows) alike names 1, found_alike (tree_of S m.rows) (tree_of U k.rows) alike names) refl

    size_front : (p : Path) (size n : ℕ) → first_refusal (set_size_tests w (tree_of U k.rows) cpu p size n) ≡ first_refusal (set_size_tests w (tree_of S m.rows) cpu p size n)
    size_front None size n = refl
    size_front (Some names) size n = rw (walk_alike (tree_of S m.rows) (tree_of U k.rows) alike names 1, found_alike (tree_of S m.rows) (tree_of U k.rows) alike names, directory_alike (tree_of S m.rows) (tree_of U k.rows) alike (found (tree_of S m.rows) names)) refl

    write_front : (p : Path) (end n : ℕ) → first_refusal (write_tests w (tree_of U k.rows) cpu p end n) ≡ first_refusal (write_tests w (tree_of S m.rows) cpu p end n)
    write_front None end n = refl
    write_front (Some names) end n = rw (walk_alike (tree_of S m.rows) (tree_of U k.rows) alike names 1, found_alike (tree_of S m.rows) (tree_of U k.rows) alike names, directory_alike (tree_of S m.rows) (tree_of U k.rows) alike (found (tree_of S m.rows) names)) refl

    attributes_front : (p : Path) (n : ℕ) → first_refusal (set_attr_tests w (tree_of U k.rows) cpu p n) ≡ first_refusal (set_attr_tests w (tree_of S m.rows) cpu p n)
    attributes_front None n = refl
    attributes_front (Some names) n = rw (walk_alike (tree_of S m.rows) (tree_of U k.rows) alike names 1, found_alike (tree_of S m.rows) (tree_of U k.rows) alike names) refl

    most_links : (o : Option ℕ) → option_map_or (λ i. nat_le 1000 (links_at (tree_of U k.rows) i)) o false ≡ option_map_or (λ i. nat_le 1000 (links_at (tree_of S m.rows) i)) o false
    most_links = on_target (λ i. nat_le 1000 (links_at (tree_of S m.rows) i)) (λ i. nat_le 1000 (links_at (tree_of U k.rows) i)) (λ i. ap (nat_le 1000) (alike.links i))

    some_names : (o : Option ℕ) → option_map_or (λ i. nat_lt 0 (count_at (tree_of U k.rows) i)) o false ≡ option_map_or (λ i. nat_lt 0 (count_at (tree_of S m.rows) i)) o false
    some_names = on_target (λ i. nat_lt 0 (count_at (tree_of S m.rows) i)) (λ i. nat_lt 0 (count_at (tree_of U k.rows) i)) alike.named

    passes_same : (q : Path) (i : ℕ) → passes (tree_of U k.rows) q i ≡ passes (tree_of S m.rows) q i
    passes_same None i = refl
    passes_same (Some names) i = ap (list_any (eqb i)) (passed_alike (tree_of S m.rows) (tree_of U k.rows) alike names 1)

    into_itself : (q : Path) (o : Option ℕ) → option_map_or (λ i. is_directory_at (tree_of U k.rows) i && passes (tree_of U k.rows) q i) o false ≡ option_map_or (λ i. is_directory_at (tree_of S m.rows) i && passes (tree_of S m.rows) q i) o false
    into_itself q = on_target (λ i. is_directory_at (tree_of S m.rows) i && passes (tree_of S m.rows) q i) (λ i. is_directory_at (tree_of U k.rows) i && passes (tree_of U k.rows) q i) (λ i j. alike.kinds i j && passes_same q i j)

    link_front : (p q : Path) (n : ℕ) → first_refusal (link_tests w (tree_of U k.rows) cpu p q n) ≡ first_refusal (link_tests w (tree_of S m.rows) cpu p q n)
    link_front None q n = refl
    link_front (Some names) None n = refl
    link_front (Some names) (Some []) n = refl
    link_front (Some names) (Some (other ∷ others)) n = rw (found_alike (tree_of S m.rows) (tree_of U k.rows) alike names, found_alike (tree_of S m.rows) (tree_of U k.rows) alike (other ∷ others), walk_alike (tree_of S m.rows) (tree_of U k.rows) alike names 1, walk_alike (tree_of S m.rows) (tree_of U k.rows) alike (other ∷ others) 1, directory_alike (tree_of S m.rows) (tree_of U k.rows) alike (found (tree_of S m.rows) names), most_links (found (tree_of S m.rows) names)) refl

    unlink_front : (p : Path) (n : ℕ) → first_refusal (unlink_tests w (tree_of U k.rows) cpu p n) ≡ first_refusal (unlink_tests w (tree_of S m.rows) cpu p n)
    unlink_front None n = refl
    unlink_front (Some names) n = rw (walk_alike (tree_of S m.rows) (tree_of U k.rows) alike names 1, found_alike (tree_of S m.rows) (tree_of U k.rows) alike names, directory_alike (tree_of S m.rows) (tree_of U k.rows) alike (found (tree_of S m.rows) names)) refl

    remove_front : (p : Path) (n : ℕ) → first_refusal (rmdir_tests w (tree_of U k.rows) cpu p n) ≡ first_refusal (rmdir_tests w (tree_of S m.rows) cpu p n)
    remove_front None n = refl
    remove_front (Some names) n = rw (walk_alike (tree_of S m.rows) (tree_of U k.rows) alike names 1, found_alike (tree_of S m.rows) (tree_of U k.rows) alike names, directory_alike (tree_of S m.rows) (tree_of U k.rows) alike (found (tree_of S m.rows) names), some_names (found (tree_of S m.rows) names)) refl

    rename_front : (p q : Path) (n : ℕ) → first_refusal (rename_tests w (tree_of U k.rows) cpu p q n) ≡ first_refusal (rename_tests w (tree_of S m.rows) cpu p q n)
    rename_front None q n = refl
    rename_front (Some []) q n = refl
    rename_front (Some (name ∷ names)) None n = refl
    rename_front (Some (name ∷ names)) (Some []) n = refl
    rename_front (Some (name ∷ names)) (Some (other ∷ others)) n = rw (found_alike (tree_of S m.rows) (tree_of U k.rows) alike (name ∷ names), found_alike (tree_of S m.rows) (tree_of U k.rows) alike (other ∷ others), walk_alike (tree_of S m.rows) (tree_of U k.rows) alike (name ∷ names) 1, walk_alike (tree_of S m.rows) (tree_of U k.rows) alike (other ∷ others) 1, into_itself (Some (other ∷ others)) (found (tree_of S m.rows) (name ∷ names))) refl

  pub create_one : (cpu : ℕ) (p : Path) (tests others : Tests) → asks_create cpu S m p tests → asks_create cpu U k p others → first_refusal others ≡ first_refusal tests
  create_one cpu p tests others is other = ap first_refusal other
      ∙ ap (λ (w : World). first_refusal (create_tests w (tree_of U k.rows) cpu p (create_blocks k.layout k.rows cpu (tree_of U k.rows) p))) world_same
      ∙ ap (λ (n : ℕ). first_refusal (create_tests (world_of m) (tree_of U k.rows) cpu p n)) (create_needs cpu p) ∙ create_front (world_of m) cpu p _ ∙ ap first_refusal (sym is)

  pub size_one : (cpu size : ℕ) (p : Path) (tests others : Tests) → asks_size cpu size S m p tests → asks_size cpu size U k p others → first_refusal others ≡ first_refusal tests
  size_one cpu size p tests others is other = ap first_refusal other
      ∙ ap (λ (w : World). first_refusal (set_size_tests w (tree_of U k.rows) cpu p size (resized_blocks k.rows (tree_of U k.rows) p size))) world_same
      ∙ ap (λ (n : ℕ). first_refusal (set_size_tests (world_of m) (tree_of U k.rows) cpu p size n)) (size_needs p size) ∙ size_front (world_of m) cpu p size _ ∙ ap first_refusal (sym is)

  pub attributes_one : (cpu : ℕ) (p : Path) (tests others : Tests) → asks_attributes cpu S m p tests → asks_attributes cpu U k p others → first_refusal others ≡ first_refusal tests
  attributes_one cpu p tests others is other = ap first_refusal other
      ∙ ap (λ (w : World). first_refusal (set_attr_tests w (tree_of U k.rows) cpu p (attributes_blocks k.rows (tree_of U k.rows) p))) world_same
      ∙ ap (λ (n : ℕ). first_refusal (set_attr_tests (world_of m) (tree_of U k.rows) cpu p n)) (attributes_needs p) ∙ attributes_front (world_of m) cpu p _ ∙ ap first_refusal (sym is)

  pub link_one : (cpu : ℕ) (q p : Path) (tests others : Tests) → asks_link cpu q S m p tests → asks_link cpu q U k p others → first_refusal others ≡ first_refusal tests
  link_one cpu q p tests others is other = ap first_refusal other
      ∙ ap (λ (w : World). first_refusal (link_tests w (tree_of U k.rows) cpu p q (link_blocks k.rows (tree_of U k.rows) p q))) world_same
      ∙ ap (λ (n : ℕ). first_refusal (link_tests (world_of m) (tree_of U k.rows) cpu p q n)) (link_needs p q) ∙ link_front (world_of m) cpu p q _ ∙ ap first_refusal (sym is)

  pub unlink_one : (cpu : ℕ) (p : Path) (tests others : Tests) → asks_unlink cpu S m p tests → asks_unlink cpu U k p others → first_refusal others ≡ first_refusal tests
  unlink_one cpu p tests others is other = ap first_refusal other
      ∙ ap (λ (w : World). first_refusal (unlink_tests w (tree_of U k.rows) cpu p (unlink_blocks k.rows (tree_of U k.rows) p))) world_same
      ∙ ap (λ (n : ℕ). first_refusal (unlink_tests (world_of m) (tree_of U k.rows) cpu p n)) (unlink_needs p) ∙ unlink_front (world_of m) cpu p _ ∙ ap first_refusal (sym is)

  pub remove_one : (cpu : ℕ) (p : Path) (tests others : Tests) → asks_remove cpu S m p tests → asks_remove cpu U k p others → first_refusal others ≡ first_refusal tests
  remove_one cpu p tests others is other = ap first_refusal other
      ∙ ap (λ (w : World). first_refusal (rmdir_tests w (tree_of U k.rows) cpu p (name_blocks k.rows (tree_of U k.rows) p))) world_same
      ∙ ap (λ (n : ℕ). first_refusal (rmdir_tests (world_of m) (tree_of U k.rows) cpu p n)) (name_needs p) ∙ remove_front (world_of m) cpu p _ ∙ ap first_refusal (sym is)

  pub rename_one : (cpu : ℕ) (q p : Path) (tests others : Tests) → asks_rename cpu q S m p tests → asks_rename cpu q U k p others → first_refusal others ≡ first_refusal tests
  rename_one cpu q p tests others is other = ap first_refusal other
      ∙ ap (λ (w : World). first_refusal (rename_tests w (tree_of U k.rows) cpu p q (rename_blocks k.rows (tree_of U k.rows) p q))) world_same
      ∙ ap (λ (n : ℕ). first_refusal (rename_tests (world_of m) (tree_of U k.rows) cpu p q n)) (rename_needs p q) ∙ rename_front (world_of m) cpu p q _ ∙ ap first_refusal (sym is)

  clean_front : (w : World) (p : Path) → first_refusal (clean_tests w (tree_of U k.rows) p) ≡ first_refusal (clean_tests w (tree_of S m.rows) p)
  clean_front w None = refl
  clean_front w (Some names) = rw (walk_alike (tree_of S m.rows) (tree_of U k.rows) alike names 1, found_alike (tree_of S m.rows) (tree_of U k.rows) alike names) refl

  pub clean_one : (p : Path) (tests others : Tests) → asks_clean S m p tests → asks_clean U k p others → first_refusal others ≡ first_refusal tests
  clean_one p tests others is other = ap first_refusal other
      ∙ ap (λ (w : World). first_refusal (clean_tests w (tree_of U k.rows) p)) world_same ∙ clean_front (world_of m) p ∙ ap first_refusal (sym is)

  -- ---- a write

  -- what a write needs of the one it needs of the other
  needs_too : (cpu : ℕ) (p : Path) (offset bytes time count : ℕ) → WriteNeeds U k cpu p offset bytes time count → WriteNeeds S m cpu p offset bytes time count
  needs_too cpu p offset bytes time count needs = record {
    none = needs.none;
    some = λ pos row is. by pos row is (target (tree_of S m.rows) p) refl;
  } where
    moved : (a b : Row) → SameRow a b → NeedsBlocks k.free.pools cpu b.tail (plan_of (block_at b.index) b.numbers.size offset bytes time) count → NeedsBlocks m.free.pools cpu a.tail (plan_of (block_at a.index) a.numbers.size offset bytes time) count
    moved a b s n =
        let index : block_at b.index ≡ block_at a.index = λ i q. s.index q i in
        let size : b.numbers.size ≡ a.numbers.size = λ i. (s.numbers i).size in
        subst (λ (pools : List (List Run)). NeedsBlocks pools cpu a.tail (plan_of (block_at a.index) a.numbers.size offset bytes time) count) same.pools
        (subst (λ (tail : ℕ). NeedsBlocks k.free.pools cpu tail (plan_of (block_at a.index) a.numbers.size offset bytes time) count) s.tail
        (subst (λ (z : ℕ). NeedsBlocks k.free.pools cpu b.tail (plan_of (block_at a.index) z offset bytes time) count) size
        (subst (λ (f : ℕ → Option ℕ). NeedsBlocks k.free.pools cpu b.tail (plan_of f b.numbers.size offset bytes time) count) index n)))

    by : 0 < bytes → (row : Row) → option_and_then (row_of m.rows) (target (tree_of S m.rows) p) ≡ Some row → (o : Option ℕ) → target (tree_of S m.rows) p ≡ o → NeedsBlocks m.free.pools cpu row.tail (plan_of (block_at row.index) row.numbers.size offset bytes time) count
    by pos row is None at = absurd (let none : None ≡ Some row = ap (option_and_then (row_of m.rows)) (sym at) ∙ is in cc)
    by pos row is (Some i) at = there (row_of m.rows i) (row_of k.rows i) (rows_at m.rows k.rows same.rows i) refl (ap (option_and_then (row_of m.rows)) (sym at) ∙ is) where
      there : (a b : Option Row) → AreSame a b → row_of k.rows i ≡ b → a ≡ Some row → NeedsBlocks m.free.pools cpu row.tail (plan_of (block_at row.index) row.numbers.size offset bytes time) count
      there None None s e h = absurd (cc)
      there None (Some b) s e h = absurd s
      there (Some a) None s e h = absurd s
      there (Some a) (Some b) s e h =
          let one : a ≡ row = cc in
          subst (λ (r : Row). NeedsBlocks m.free.pools cpu r.tail (plan_of (block_at r.index) r.numbers.size offset bytes time) count) one
          (moved a b s (needs.some pos b (ap (option_and_then (row_of k.rows)) (target_same p ∙ at) ∙ e)))

-- where the tests in front pass, those behind decide
after_front : (a b c : Tests) → (first_refusal a ≡ None → first_refusal b ≡ first_refusal c) → first_refusal (a ++ b) ≡ first_refusal (a ++ c)
after_front [] b c same = same refl
after_front (x ∷ a) b c same = by x.0 same (after_front a b c) where
  by : (t : Bool) → (cond t (Some x.1) (first_refusal a) ≡ None → first_refusal b ≡ first_refusal c) → ((first_refusal a ≡ None → first_refusal b ≡ first_refusal c) → first_refusal (a ++ b) ≡ first_refusal (a ++ c))
      → cond t (Some x.1) (first_refusal (a ++ b)) ≡ cond t (Some x.1) (first_refusal (a ++ c))
  by true same rest = refl
  by false same rest = rest same

needs_one : (pools : List (List Run)) (cpu tail : ℕ) (mapped : ℕ → Option ℕ) (size offset bytes time a b : ℕ) → cpu < length pools → NeedsBlocks pools cpu tail (plan_of mapped size offset bytes time) a → NeedsBlocks pools cpu tail (plan_of mapped size offset bytes time) b → a ≡ b
needs_one pools cpu tail mapped size offset bytes time a b inside (inl p) (inl q) = p.1 ∙ sym q.1
needs_one pools cpu tail mapped size offset bytes time a b inside (inl p) (inr q) = absurd (let less = takes_less pools cpu _ q.0 q.1 inside q.2 in let few = p.0 in omega (arith, less, few))
needs_one pools cpu tail mapped size offset bytes time a b inside (inr p) (inl q) = absurd (let less = takes_less pools cpu _ p.0 p.1 inside p.2 in let few = q.0 in omega (arith, less, few))
needs_one pools cpu tail mapped size offset bytes time a b inside (inr p) (inr q) =
    let runs : p.0 ≡ q.0 = (takes_once pools cpu _ p.0 q.0 p.1 q.1 p.2 q.2).0 in
    p.3 ∙ ap (λ (r : List Run). data_blocks (plan_of mapped size offset bytes time) + needed (tail % 4096) (data_entries (plan_of mapped size offset bytes time) r)) runs ∙ sym q.3

-- how many blocks a write needs is decided, where the tests in front pass
write_counts : (S : Region) (m : Mount ⊤) (cpu : ℕ) (p : Path) (offset bytes time a b : ℕ) → cpu < length m.free.pools → is_none (target (tree_of S m.rows) p) ≡ false → WriteNeeds S m cpu p offset bytes time a → WriteNeeds S m cpu p offset bytes time b → a ≡ b
write_counts S m cpu p offset bytes time a b inside there na nb = elim (cases_lt 0 bytes) [
  | inl pos ↦ by pos (target (tree_of S m.rows) p) refl
  | inr zero ↦ (let none : bytes ≡ 0 = omega (arith, zero) in na.none none ∙ sym (nb.none none))
] where
  by : 0 < bytes → (o : Option ℕ) → target (tree_of S m.rows) p ≡ o → a ≡ b
  by pos None at = absurd (let no : true ≡ false = ap is_none (sym at) ∙ there in cc)
  by pos (Some i) at = with_row (row_of m.rows i) refl where
    with_row : (o : Option Row) → row_of m.rows i ≡ o → a ≡ b
    with_row None e = absurd (let no : false ≡ true = ap (λ (o : Option Row). is_some (option_map (node_of S) o)) (sym e) ∙ target_there (tree_of S m.rows) p i at in cc)
    with_row (Some row) e =
        let is : option_and_then (row_of m.rows) (target (tree_of S m.rows) p) ≡ Some row = ap (option_and_then (row_of m.rows)) at ∙ e in
        needs_one m.free.pools cpu row.tail (block_at row.index) row.numbers.size offset bytes time a b inside (na.some pos row is) (nb.some pos row is)

below : (a b : ℕ) → not (nat_lt a b) ≡ false → a < b
below a b e = elim (cases_lt a b) [ inl less ↦ less | inr more ↦ absurd (let off : nat_lt a b ≡ false = grind (arith, nat_tests) in let no : true ≡ false = sym (ap not off) ∙ e in cc) ]

module _ (S : Region) (m : Mount ⊤) (cpu : ℕ) (p : Path) (end : ℕ) where
  -- the tests of a write before that for space
  abbrev behind_walk : Tests
  behind_walk = is_missing (tree_of S m.rows) p ∷ is_dir (tree_of S m.rows) p ∷ is_too_large end ∷ []

  abbrev front : Tests
  front = writing (world_of m) cpu (is_bad p ∷ walk_tests (tree_of S m.rows) p ++ behind_walk)

  whole : (n : ℕ) → write_tests (world_of m) (tree_of S m.rows) cpu p end n ≡ front ++ has_no_space (world_of m) n ∷ []
  whole n = ap (λ (l : Tests). writing (world_of m) cpu (is_bad p ∷ l)) (sym (append_assoc (walk_tests (tree_of S m.rows) p) behind_walk (has_no_space (world_of m) n ∷ [])))

  front_passes : first_refusal front ≡ None → (cpu < m.sup.cpus) × (is_none (target (tree_of S m.rows) p) ≡ false)
  front_passes none =
      let one = first_passes (not (nat_lt cpu m.sup.cpus), BadCpu) ((m.read_only, ReadOnly) ∷ is_bad p ∷ walk_tests (tree_of S m.rows) p ++ behind_walk) none in
      let two = first_passes (m.read_only, ReadOnly) (is_bad p ∷ walk_tests (tree_of S m.rows) p ++ behind_walk) one.1 in
      let three = first_passes (is_bad p) (walk_tests (tree_of S m.rows) p ++ behind_walk) two.1 in
      let four = first_passes (is_missing (tree_of S m.rows) p) (is_dir (tree_of S m.rows) p ∷ is_too_large end ∷ []) (later_passes (walk_tests (tree_of S m.rows) p) behind_walk three.1) in
      (below cpu m.sup.cpus one.0, four.0)

pub write_one : (S U : Region) (m k : Mount ⊤) → SameSeen m k → Alike (tree_of S m.rows) (tree_of U k.rows) → length m.free.pools ≡ m.sup.cpus → (cpu offset bytes time : ℕ) (p : Path) (tests others : Tests) → asks_write cpu offset bytes time S m p tests → asks_write cpu offset bytes time U k p others → first_refusal others ≡ first_refusal tests
write_one S U m k same alike count cpu offset bytes time p tests others (a, needs, is) (b, more, other) =
    ap first_refusal other
    ∙ ap (λ (w : World). first_refusal (write_tests w (tree_of U k.rows) cpu p (offset + bytes) b)) (world_same S U m k same alike)
    ∙ write_front S U m k same alike (world_of m) cpu p (offset + bytes) b
    ∙ ap first_refusal (whole S m cpu p (offset + bytes) b)
    ∙ after_front (front S m cpu p (offset + bytes)) _ _ (λ none. ap (λ (n : ℕ). first_refusal (has_no_space (world_of m) n ∷ [])) (same_counts none))
    ∙ sym (ap first_refusal (whole S m cpu p (offset + bytes) a))
    ∙ ap first_refusal (sym is) where
      same_counts : first_refusal (front S m cpu p (offset + bytes)) ≡ None → b ≡ a
      same_counts none = (let passes = front_passes S m cpu p (offset + bytes) none in
          write_counts S m cpu p offset bytes time b a (subst (λ (n : ℕ). cpu < n) (sym count) passes.0) passes.1 (needs_too S U m k same alike cpu p offset bytes time b more) needs)

-- ---- the text of a call

-- the tests say one thing of mounts that nobody can tell apart, of which the trees show the same
abbrev pub AskedOnce : Asks → Type 0
AskedOnce asks = (S U : Region) (m k : Mount ⊤) → SameSeen m k → Alike (tree_of S m.rows) (tree_of U k.rows) → length m.free.pools ≡ m.sup.cpus → (p : Path) (tests others : Tests) → asks S m p tests → asks U k p others → first_refusal others ≡ first_refusal tests

-- and what is left of the logs of such mounts is answered by one line
abbrev pub AnsweredOnce : {A : Type 0} → (A → List ℕ) → (A → Logs ⊤) → Type 0
AnsweredOnce {A} line logs = (S : Region) (m k : Mount ⊤) → SameSeen m k → (names : List (List ℕ)) (T U : Region) (x y : A) → logs x S m names T → logs y S k names U → line x ≡ line y

module _ {A : Type 0} (grows : Option ℕ) (line : A → List ℕ) (asks : Asks) (makes : Makes ⊤) (logs : A → Logs ⊤) (path : List ℕ) (one : AskedOnce asks) (answered : AnsweredOnce line logs) where
  asked_one : (R S : Region) (a b : Asked asks R S path) → first_refusal b.tests ≡ first_refusal a.tests
  asked_one R S a b = one S S (seen_in a) (seen_in b) (same_seen asks R S path a b) (let same = same_seen asks R S path a b in alike_here S a.here.rows b.here.rows same.rows) a.of_here.free.pools a.path_is a.tests b.tests a.are
      (subst (λ (p : Path). asks S (seen_in b) p b.tests) (says_one path b.path_is a.path_is b.says a.says) b.are)

  pub called_text : (mounted region : Option Region) (old m n : State) (s t : List ℕ) → CallsMounted grows asks makes logs line path mounted region old s m → CallsMounted grows asks makes logs line path mounted region old t n → s ≡ t
  called_text None region old m n s t p q = p.0 ∙ sym q.0
  called_text (Some R) None old m n s t p q = absurd p
  called_text (Some R) (Some S) old m n s t (inl p) (inl q) =
      let tests = asked_one R S p.0 q.0 in
      let first = p.1.1 in
      let other = q.1.1 in
      let same : p.1.0 ≡ q.1.0 = (let both : Some p.1.0 ≡ Some q.1.0 = sym first ∙ sym tests ∙ other in cc) in
      p.1.2 ∙ ap (λ (r : Refusal). refused_line (refusal_word r)) same ∙ sym q.1.2
  called_text (Some R) (Some S) old m n s t (inl p) (inr q) = absurd (let clash : Some p.1.0 ≡ None = sym p.1.1 ∙ sym (asked_one R S p.0 q.0) ∙ q.1 in cc)
  called_text (Some R) (Some S) old m n s t (inr p) (inl q) = absurd (let clash : Some q.1.0 ≡ None = sym q.1.1 ∙ asked_one R S p.0 q.0 ∙ p.1 in cc)
  called_text (Some R) (Some S) old m n s t (inr p) (inr q) =
      let asked = p.0 in
      let other = q.0 in
      let names : q.2 ≡ p.2 = (let both : Some q.2 ≡ Some p.2 = sym q.3 ∙ says_one path other.path_is asked.path_is other.says asked.says ∙ p.3 in cc) in
      p.8 ∙ answered S (seen_in asked) (seen_in other) (same_seen asks R S path asked other) p.2 p.4 q.4 p.6 q.6 p.7 (subst (λ (ns : List (List ℕ)). logs q.6 S (seen_in other) ns q.4) names q.7) ∙ sym q.8

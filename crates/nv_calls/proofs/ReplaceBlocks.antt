-- How many blocks `replace` takes, by the rows, and why it is refused.
use Rattle.std.proofs.Common.{◌≡◌, ◌≢◌, ℕ, ◌+◌, ◌%◌, ◌≤◌, cond, eqb, inl, inr, nat_eq, Bool, true, false, List, [], ◌∷◌, slice_get, ap, sym, ◌∙◌, subst, refl, Option, Some, None, Ok}
use Rattle.std.specs.Option.{option_and_then, option_map, option_map_or}
use Rattle.std.proofs.lemmas.Bool.{cases_eq, eq-eqb, ne_eqb}
use Rattle.nv_region.specs.Region.{Region}
use Rattle.nv_super.specs.Order.{Rises}
use Rattle.nv_alloc.specs.Taking.{all_blocks}
use Rattle.nv_entry.specs.declared.entry.Operation.TheVariants.{Add, Remove}
use Rattle.nv_logpage.specs.Append.{needed}
use Rattle.nv_scan.specs.declared.piece.Row.{Row}
use Rattle.nv_rows.proofs.Places.{numbered}
use Rattle.nv_cross_check.specs.Cross.{row_key}
use Rattle.nv_graph.specs.Read.{row_of}
use Rattle.nv_tree.specs.declared.refusal.Refusal.{Refusal}
use Rattle.nv_tree.specs.Path.{IsPath, Says, last_name}
use Rattle.nv_tree.specs.Tree.{Tree, found, walk}
use Rattle.nv_tree.specs.Refusals.{IsRefusedBy, Path, Tests, first_refusal, has_no_space, writing}
use Rattle.nv_tree.specs.Replace.{are_one, replace_tests}
use Rattle.nv_paths.specs.ReplaceSpots.{IsReplaceSpot, replace_spot_tests}
use Rattle.nv_paths.specs.Seen.{node_of, tree_of}
use Rattle.nv_steps.specs.Across.{handed_entries}
use Rattle.nv_steps.specs.NameEntries.{links_entries, name_entries}
use Rattle.nv_steps.specs.Steps.{RefusesStep}
use Rattle.nv_steps.specs.Takes.{take_entries}
use Rattle.nv_steps.proofs.RowOf.{row_at}
use Rattle.nv_calls.specs.LinkCalls.{links_blocks}
use Rattle.nv_calls.specs.Mount.{Mount}
use Rattle.nv_calls.specs.MoveCalls.{end_together, rename_blocks}
use Rattle.nv_calls.specs.NameCalls.{ended_row, row_blocks}
use Rattle.nv_calls.specs.ReplaceBlocks.{is_named_twice, names_blocks, replace_blocks, taken_blocks}
use Rattle.nv_calls.specs.ReplaceCalls.{keeps_others, replace_count, replace_here_blocks, replace_over_blocks}
use Rattle.nv_calls.specs.ReplaceLogs.{has_others}
use Rattle.nv_calls.specs.World.{world_of}
use Rattle.nv_calls.proofs.MoveCall.{blocks_by, places_tests}
use Rattle.nv_calls.proofs.ReplaceTests.{replace_allows}
use Rattle.nv_calls.proofs.Tests.{space_allows, space_refuses}

-- a number added behind a choice
added : (b : Bool) (x y n : ℕ) → cond b x y + n ≡ cond b (x + n) (y + n)
added true x y n = refl
added false x y n = refl

number_test : (a i j : ℕ) → a ≡ j → i ≢ j → nat_eq a i ≡ false
number_test a i j is differ = ne_eqb a i (λ e. differ (sym e ∙ is))

module _ (R : Region) (rows : List Row) {place source end : ℕ} {name other : List ℕ} {there : Option ℕ} (first_old : List ℕ) (old : List (List ℕ)) (first : List ℕ) (rest : List (List ℕ)) (spot : IsReplaceSpot (tree_of R rows) rows (first_old ∷ old) (first ∷ rest) place name source end other there)
    (rising : Rises row_key rows) (from to moved : Row) (at : slice_get rows place ≡ Some from) (to_at : slice_get rows end ≡ Some to) (moved_at : slice_get rows source ≡ Some moved) (time : ℕ) where
  abbrev t : Tree
  t = tree_of R rows

  abbrev i : ℕ
  i = moved.inode

  abbrev names : List (List ℕ)
  names = first_old ∷ old

  abbrev others : List (List ℕ)
  others = first ∷ rest

  walked : walk t 1 names ≡ Ok from.inode
  walked = let way = spot.way in let named = way.from in (named.directory from at).0

  ended : walk t 1 others ≡ Ok to.inode
  ended = let way = spot.way in let ends = way.to in (ends.row to to_at).0

  name_is : name ≡ last_name names
  name_is = let way = spot.way in let named = way.from in named.name_is

  other_is : other ≡ last_name others
  other_is = let way = spot.way in let ends = way.to in ends.name_is

  -- where no inode in use has the new name
  free_count : there ≡ None → replace_blocks rows t (Some names) (Some others) ≡ replace_count place end from to None i name other time
  free_count none =
      ap (λ (o : Option ℕ). option_map_or (λ j. taken_blocks rows t names others) o (rename_blocks rows t (Some names) (Some others))) (spot.leads ∙ none)
      ∙ blocks_by rows t place end from to names others i time name other rising at to_at walked (row_at rows place from rising at) ended (row_at rows end to rising to_at) name_is other_is

  module _ (j : ℕ) (is : there ≡ Some j) (had : Row) (had_at : row_of rows j ≡ Some had) where
    abbrev of_links : ℕ
    of_links = cond (keeps_others had) (needed (had.tail % 4096) (links_entries 0 0)) 0

    leads : found t others ≡ Some j
    leads = spot.leads ∙ is

    moves : found t names ≡ Some i
    moves = let way = spot.way in let named = way.from in named.leads moved moved_at

    number : had.inode ≡ j
    number = numbered rows j had had_at

    one_test : are_one t (Some names) (Some others) ≡ eqb i j
    one_test =
        ap (λ (o : Option ℕ). option_map_or (λ k. option_map_or (eqb k) (found t others) false) o false) moves
        ∙ ap (λ (o : Option ℕ). option_map_or (eqb i) o false) leads

    twice : is_named_twice t (Some others) ≡ keeps_others had
    twice =
        ap (λ (o : Option ℕ). option_map_or (λ k. option_map_or has_others (t k) false) o false) leads
        ∙ ap (λ (o : Option Row). option_map_or has_others (option_map (node_of R) o) false) had_at

    links_are : links_blocks rows t (Some others) ≡ needed (had.tail % 4096) (links_entries 0 0)
    links_are =
        ap (λ (o : Option ℕ). option_map_or (λ k. row_blocks (row_of rows k) (links_entries 0 0)) o 0) leads
        ∙ ap (λ (o : Option Row). row_blocks o (links_entries 0 0)) had_at

    names_are : names_blocks rows t names others ≡ cond (nat_eq place end) (needed (from.tail % 4096) (take_entries i had.inode name other time)) (needed (from.tail % 4096) (name_entries Remove i name time) + needed (to.tail % 4096) (handed_entries i had.inode other time))
    names_are =
        (λ k. cond (end_together (walked k) (ended k)) (row_blocks (ended_row rows (walked k)) (take_entries 0 0 (last_name names) (last_name others) 0)) (row_blocks (ended_row rows (walked k)) (name_entries Add 0 (last_name names) 0) + row_blocks (ended_row rows (ended k)) (handed_entries 0 0 (last_name others) 0)))
        ∙ (λ k. cond (nat_eq from.inode to.inode) (row_blocks (row_at rows place from rising at k) (take_entries 0 0 (last_name names) (last_name others) 0)) (row_blocks (row_at rows place from rising at k) (name_entries Add 0 (last_name names) 0) + row_blocks (row_at rows end to rising to_at k) (handed_entries 0 0 (last_name others) 0)))
        ∙ (λ k. cond (nat_eq from.inode to.inode) (needed (from.tail % 4096) (take_entries 0 0 (sym name_is k) (sym other_is k) 0)) (needed (from.tail % 4096) (name_entries Add 0 (sym name_is k) 0) + needed (to.tail % 4096) (handed_entries 0 0 (sym other_is k) 0)))
        ∙ ap (λ (b : Bool). cond b (needed (from.tail % 4096) (take_entries i had.inode name other time)) (needed (from.tail % 4096) (name_entries Remove i name time) + needed (to.tail % 4096) (handed_entries i had.inode other time))) (places_tests rows place end from to rising at to_at)

    abbrev here_count : ℕ
    here_count = replace_here_blocks from had i name other time

    abbrev over_count : ℕ
    over_count = replace_over_blocks from to had i name other time

    abbrev said_count : ℕ
    said_count = names_blocks rows t names others + cond (is_named_twice t (Some others)) (links_blocks rows t (Some others)) 0

    said_is : said_count ≡ cond (nat_eq place end) here_count over_count
    said_is =
        (λ k. names_are k + cond (twice k) (links_are k) 0)
        ∙ added (nat_eq place end) (needed (from.tail % 4096) (take_entries i had.inode name other time)) (needed (from.tail % 4096) (name_entries Remove i name time) + needed (to.tail % 4096) (handed_entries i had.inode other time)) of_links

    taken_count : replace_blocks rows t (Some names) (Some others) ≡ replace_count place end from to (Some had) i name other time
    taken_count = ap (λ (o : Option ℕ). option_map_or (λ k. taken_blocks rows t names others) o (rename_blocks rows t (Some names) (Some others))) leads ∙ elim (cases_eq i j) [
      | inl same ↦ ap (λ (b : Bool). cond b 0 said_count) (one_test ∙ eq-eqb i j same) ∙ sym (ap (λ (b : Bool). cond b 0 (cond (nat_eq place end) here_count over_count)) (eq-eqb had.inode i (number ∙ sym same)))
      | inr differ ↦ ap (λ (b : Bool). cond b 0 said_count) (one_test ∙ ne_eqb i j differ) ∙ said_is ∙ sym (ap (λ (b : Bool). cond b 0 (cond (nat_eq place end) here_count over_count)) (number_test had.inode i j number differ))
    ]

  -- What it takes.
  count_is : ((j : ℕ) → there ≡ Some j → (had : Row) × (row_of rows j ≡ Some had)) → replace_blocks rows t (Some names) (Some others) ≡ replace_count place end from to (option_and_then (row_of rows) there) i name other time
  count_is known = by there refl where
    by : (o : Option ℕ) → there ≡ o → replace_blocks rows t (Some names) (Some others) ≡ replace_count place end from to (option_and_then (row_of rows) there) i name other time
    by None none = free_count none ∙ ap (λ (x : Option ℕ). replace_count place end from to (option_and_then (row_of rows) x) i name other time) (sym none)
    by (Some j) is =
        let w = known j is in
        taken_count j is w.0 w.1 ∙ ap (λ (x : Option Row). replace_count place end from to x i name other time) (sym w.1) ∙ ap (λ (x : Option ℕ). replace_count place end from to (option_and_then (row_of rows) x) i name other time) (sym is)

-- ---- why it is refused

module _ {P : Type 0} (region : P → Region) {n m : Mount P} (same : n ≡ m) (cpu : ℕ) (passed : (tests : Tests) → first_refusal (writing (world_of m) cpu tests) ≡ first_refusal tests) (place source end : ℕ) (there : Option ℕ) (from to moved : Row) (rising : Rises row_key n.rows) (at : slice_get n.rows place ≡ Some from) (to_at : slice_get n.rows end ≡ Some to)
    (moved_at : slice_get n.rows source ≡ Some moved) (known : (j : ℕ) → there ≡ Some j → (had : Row) × (row_of n.rows j ≡ Some had)) (name other : List ℕ) (time : ℕ) (old new : List ℕ)
    (spot : (names others : List (List ℕ)) → IsPath old names → IsPath new others → IsReplaceSpot (tree_of (region n.memory) n.rows) n.rows names others place name source end other there)
    (p q : Path) (says : Says old p) (says_new : Says new q) (none : first_refusal (replace_spot_tests (tree_of (region n.memory) n.rows) p q) ≡ None) where
  abbrev tests : Mount P → Option Refusal
  tests k = first_refusal (replace_tests (world_of k) (tree_of (region k.memory) k.rows) cpu p q (replace_blocks k.rows (tree_of (region k.memory) k.rows) p q))

  abbrev count : ℕ
  count = replace_count place end from to (option_and_then (row_of n.rows) there) moved.inode name other time

  blocks_there : (p q : Path) → Says old p → Says new q → first_refusal (replace_spot_tests (tree_of (region n.memory) n.rows) p q) ≡ None → replace_blocks n.rows (tree_of (region n.memory) n.rows) p q ≡ count
  blocks_there None q says says_new none = absurd (cc)
  blocks_there (Some []) q says says_new none = absurd (cc)
  blocks_there (Some (x ∷ xs)) None says says_new none = absurd (cc)
  blocks_there (Some (x ∷ xs)) (Some []) says says_new none = absurd (cc)
  blocks_there (Some (x ∷ xs)) (Some (y ∷ ys)) says says_new none = count_is (region n.memory) n.rows x xs y ys (spot (x ∷ xs) (y ∷ ys) says says_new) rising from to moved at to_at moved_at time known

  at_last : tests n ≡ first_refusal (has_no_space (world_of n) count ∷ [])
  at_last =
      let passed_here : (ts : Tests) → first_refusal (writing (world_of n) cpu ts) ≡ first_refusal ts = λ ts. subst (λ (k : Mount P). first_refusal (writing (world_of k) cpu ts) ≡ first_refusal ts) (sym same) (passed ts) in
      replace_allows (world_of n) (tree_of (region n.memory) n.rows) cpu passed_here p q (replace_blocks n.rows (tree_of (region n.memory) n.rows) p q) none ∙ ap (λ (k : ℕ). first_refusal (has_no_space (world_of n) k ∷ [])) (blocks_there p q says says_new none)

  -- No test refuses it where there are enough blocks.
  pub replace_allowed : count ≤ all_blocks n.free.pools → tests m ≡ None
  replace_allowed = space_allows same tests count at_last

  -- Where its step was refused, so is the call.
  pub replace_refused : (e : Refusal) → RefusesStep e count n.free → IsRefusedBy (tests m) e
  replace_refused = space_refuses same tests count at_last

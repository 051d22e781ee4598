-- Trees of the same rows, in two regions: what tells no bytes of files tells the same.
use Rattle.std.proofs.Common.{◌≡◌, ◌∙◌, ℕ, Bool, inl, inr, is_some, cond, List, [], ◌∷◌, Option, Some, None, Result, Ok, Err, refl, sym, ap}
use Rattle.std.specs.Prelude.{false}
use Rattle.std.specs.Option.{option_map, option_and_then, option_map_or}
use Rattle.nv_region.specs.Region.{Region}
use Rattle.nv_scan.specs.declared.piece.Row.{Row}
use Rattle.nv_rows.specs.Rows.{row_of}
use Rattle.nv_tree.specs.Path.{last_name}
use Rattle.nv_tree.specs.Tree.{Node, Tree, walk, found, as_directory, and_then, or_not_found, name_in, in_use, last_in, is_directory}
use Rattle.nv_tree.specs.Refusals.{Path, first_refusal, is_directory_at, list_tests, stat_tests}
use Rattle.nv_tree.specs.declared.refusal.Refusal.{Refusal}
use Rattle.nv_paths.specs.Seen.{node_of, tree_of}
use Rattle.nv_tree.specs.Stat.{stat_of, IsStat}
use Rattle.nv_calls.specs.Listing.{ListsNamesIn}
use Rattle.nv_session.specs.Machine.{TellsStat, TellsNames}
use Rattle.nv_looks.specs.Looking.{ListsNames, TellsNumbers, call_status}

module _ (R S : Region) (rows : List Row) where
  abbrev t : Tree
  t = tree_of S rows

  abbrev u : Tree
  u = tree_of R rows

  -- ---- one inode

  dirs : (i : ℕ) → as_directory i (u i) ≡ as_directory i (t i)
  dirs i = by (row_of rows i) where
    by : (o : Option Row) → as_directory i (option_map (node_of R) o) ≡ as_directory i (option_map (node_of S) o)
    by None = refl
    by (Some row) = refl

  used : (i : ℕ) → is_some (u i) ≡ is_some (t i)
  used i = by (row_of rows i) where
    by : (o : Option Row) → is_some (option_map (node_of R) o) ≡ is_some (option_map (node_of S) o)
    by None = refl
    by (Some row) = refl

  names_of : (i : ℕ) (name : List ℕ) → name_in u i name ≡ name_in t i name
  names_of i name = by (row_of rows i) where
    by : (o : Option Row) → option_and_then (λ (node : Node). node.names name) (option_map (node_of R) o) ≡ option_and_then (λ (node : Node). node.names name) (option_map (node_of S) o)
    by None = refl
    by (Some row) = refl

  kinds : (i : ℕ) → is_directory_at u i ≡ is_directory_at t i
  kinds i = by (row_of rows i) where
    by : (o : Option Row) → option_map_or (λ (node : Node). is_directory node.kind) (option_map (node_of R) o) false ≡ option_map_or (λ (node : Node). is_directory node.kind) (option_map (node_of S) o) false
    by None = refl
    by (Some row) = refl

  stats : (i : ℕ) → option_map (stat_of i) (u i) ≡ option_map (stat_of i) (t i)
  stats i = by (row_of rows i) where
    by : (o : Option Row) → option_map (stat_of i) (option_map (node_of R) o) ≡ option_map (stat_of i) (option_map (node_of S) o)
    by None = refl
    by (Some row) = refl

  -- ---- paths

  step : (name next : List ℕ) (rest : List (List ℕ)) → ((i : ℕ) → walk u i (next ∷ rest) ≡ walk t i (next ∷ rest)) → (r : Result ℕ Refusal)
      → and_then r (λ e. and_then (or_not_found (name_in u e name)) (λ i. walk u i (next ∷ rest))) ≡ and_then r (λ e. and_then (or_not_found (name_in t e name)) (λ i. walk t i (next ∷ rest)))
  step name next rest on (Err e) = refl
  step name next rest on (Ok e) = ap (λ o. and_then (or_not_found o) (λ i. walk u i (next ∷ rest))) (names_of e name) ∙ by (name_in t e name) where
    by : (o : Option ℕ) → and_then (or_not_found o) (λ i. walk u i (next ∷ rest)) ≡ and_then (or_not_found o) (λ i. walk t i (next ∷ rest))
    by None = refl
    by (Some i) = on i

  walks : (names : List (List ℕ)) (d : ℕ) → walk u d names ≡ walk t d names
  walks [] d = refl
  walks (name ∷ []) d = dirs d
  walks (name ∷ next ∷ rest) d = ap (λ r. and_then r (λ e. and_then (or_not_found (name_in u e name)) (λ i. walk u i (next ∷ rest)))) (dirs d) ∙ step name next rest (walks (next ∷ rest)) (as_directory d (t d))

  in_use_too : (o : Option ℕ) → in_use u o ≡ in_use t o
  in_use_too None = refl
  in_use_too (Some i) = ap (λ b. cond b (Some i) None) (used i)

  last : (names : List (List ℕ)) (r : Result ℕ Refusal) → last_in u r names ≡ last_in t r names
  last names (Err e) = refl
  last names (Ok d) = names_of d (last_name names)

  leads : (names : List (List ℕ)) → found u names ≡ found t names
  leads [] = in_use_too (Some 1)
  leads (name ∷ names) = ap (in_use u) (ap (λ r. last_in u r (name ∷ names)) (walks (name ∷ names) 1) ∙ last (name ∷ names) (walk t 1 (name ∷ names))) ∙ in_use_too (last_in t (walk t 1 (name ∷ names)) (name ∷ names))

  directories : (o : Option ℕ) → option_map_or (is_directory_at u) o false ≡ option_map_or (is_directory_at t) o false
  directories None = refl
  directories (Some i) = kinds i

  -- ---- tests

  same_stat_tests : (p : Path) → first_refusal (stat_tests u p) ≡ first_refusal (stat_tests t p)
  same_stat_tests None = refl
  same_stat_tests (Some names) = rw (walks names 1, leads names) refl

  same_list_tests : (p : Path) → first_refusal (list_tests u p) ≡ first_refusal (list_tests t p)
  same_list_tests None = refl
  same_list_tests (Some names) = rw (walks names 1, leads names, directories (found t names)) refl

  -- ---- what is told

  tells_names : (p : Path) (text : List ℕ) → TellsNames t p text → TellsNames u p text
  tells_names p text (inl refused) = inl (refused.0, same_list_tests p ∙ refused.1, refused.2)
  tells_names p text (inr told) =
      let names = told.0 in
      let listed = told.4 in
      let d = listed.directory in
      let there : ListsNamesIn u names told.3 = record {
        directory = d;
        leads = leads names ∙ listed.leads;
        lists = record {
          rising = listed.lists.rising;
          each = λ x c. names_of d x.0 ∙ listed.lists.each x c;
          all = λ x is. listed.lists.all x (sym (names_of d x.0) ∙ is);
        };
      } in
      inr (names, told.1, same_list_tests p ∙ told.2, told.3, there, told.5)

  tells_stat : (p : Path) (text : List ℕ) → TellsStat t p text → TellsStat u p text
  tells_stat p text (inl refused) = inl (refused.0, same_stat_tests p ∙ refused.1, refused.2)
  tells_stat p text (inr told) =
      let names = told.0 in
      let stat = told.3 in
      let there : IsStat u names stat = record { leads = leads names ∙ told.4.leads; shows = stats stat.inode ∙ told.4.shows } in
      inr (names, told.1, same_stat_tests p ∙ told.2, stat, there, told.5)

  pub lists_anywhere : (path text : List ℕ) (status : ℕ) → ListsNames path t text status → ListsNames path u text status
  lists_anywhere path text status told = (told.0, told.1, tells_names told.0 text told.2, told.3 ∙ ap call_status (sym (same_list_tests told.0)))

  pub numbers_anywhere : (path text : List ℕ) (status : ℕ) → TellsNumbers path t text status → TellsNumbers path u text status
  numbers_anywhere path text status told = (told.0, told.1, tells_stat told.0 text told.2, told.3 ∙ ap call_status (sym (same_stat_tests told.0)))

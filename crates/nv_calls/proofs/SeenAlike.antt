-- Trees of the rows of two regions that show the same: paths lead to the same inodes, and the calls that read answer the same.
use Rattle.std.proofs.Common.{◌≡◌, ℕ, ◌<◌, ◌-◌, ◌/◌, min, Bool, true, false, not, ◌&&◌, is_none, is_some, cond, nat_eq, nat_lt, List, [], ◌∷◌, length, map, Option, Some, None, Result, Ok, Err, refl, sym, ap, subst, ◌∙◌, arith}
use Rattle.std.proofs.lemmas.Bool.Decides.{nat_tests}
use Rattle.std.specs.Cmp.Lexicographic.{bytes_decides}
use Rattle.std.specs.List.{find, range_with_len}
use Rattle.std.specs.Option.{option_map, option_and_then, option_map_or}
use Rattle.nv_region.specs.Region.{Region}
use Rattle.nv_super.specs.Layout.{Layout}
use Rattle.nv_super.specs.Order.{Lists}
use Rattle.nv_super.proofs.Rising.{Lists-only}
use Rattle.nv_names.specs.Names.{Names, found_in, name_at}
use Rattle.nv_radix.specs.Pages.{block_at}
use Rattle.nv_scan.specs.declared.piece.Row.{Row}
use Rattle.nv_rows.specs.Unused.{numbers_in_table, unused_number}
use Rattle.nv_outcome.specs.Same.{SameRow, SameRows}
use Rattle.nv_graph.specs.Read.{row_of}
use Rattle.nv_mounted.specs.Bytes.{byte_in}
use Rattle.nv_tree.specs.Path.{last_name}
use Rattle.nv_tree.specs.Tree.{Node, SameNode, Tree, walk, found, passed, as_directory, and_then, or_not_found, name_in, in_use, last_in, is_directory}
use Rattle.nv_tree.specs.Refusals.{count_at, is_directory_at}
use Rattle.nv_tree.specs.declared.refusal.Refusal.{Refusal}
use Rattle.nv_tree.specs.declared.refusal.Refusal.TheVariants.{NotDirectory}
use Rattle.nv_tree.specs.Calls.{bytes_read, links_at}
use Rattle.nv_tree.proofs.Alike.{read_alike}
use Rattle.nv_paths.specs.Spots.{new_number, or_next}
use Rattle.nv_paths.specs.Seen.{node_of, tree_of}
use Rattle.nv_tree.specs.Stat.{stat_of, IsStat}
use Rattle.nv_calls.specs.Listing.{ListsNamesIn}
use Rattle.nv_calls.specs.Reading.{IsRead}
use Rattle.nv_tree.specs.declared.stat.Stat.{Stat}
use Rattle.nv_calls.proofs.SameContents.{SameContents, SameFiles}

-- all that the calls that read, and the tests of those that write, see of a tree
pub record Alike (t u : Tree) : Type 0 where
  pub dirs : (i : ℕ) → as_directory i (u i) ≡ as_directory i (t i)
  pub used : (i : ℕ) → is_some (u i) ≡ is_some (t i)
  pub names : (i : ℕ) (name : List ℕ) → name_in u i name ≡ name_in t i name
  pub kinds : (i : ℕ) → is_directory_at u i ≡ is_directory_at t i
  pub stats : (i : ℕ) → option_map (stat_of i) (u i) ≡ option_map (stat_of i) (t i)
  pub bytes : (i offset count : ℕ) → option_map (bytes_read offset count) (u i) ≡ option_map (bytes_read offset count) (t i)
  pub links : (i : ℕ) → links_at u i ≡ links_at t i
  pub named : (i : ℕ) → nat_lt 0 (count_at u i) ≡ nat_lt 0 (count_at t i)

-- ---- rows

abbrev pub AreSame : Option Row → Option Row → Type 0
AreSame None None = Unit {0}
AreSame None (Some b) = ⊥
AreSame (Some a) None = ⊥
AreSame (Some a) (Some b) = SameRow a b

pub rows_at : (xs ys : List Row) → SameRows xs ys → (i : ℕ) → AreSame (row_of xs i) (row_of ys i)
rows_at [] [] same i = tt
rows_at [] (y ∷ ys) same i = absurd same
rows_at (x ∷ xs) [] same i = absurd same
rows_at (x ∷ xs) (y ∷ ys) same i = subst (λ n. AreSame (cond (nat_eq x.inode i) (Some x) (row_of xs i)) (cond (nat_eq n i) (Some y) (row_of ys i))) (sym same.0.inode) (at (nat_eq x.inode i) (rows_at xs ys same.1 i)) where
  at : (b : Bool) → AreSame (row_of xs i) (row_of ys i) → AreSame (cond b (Some x) (row_of xs i)) (cond b (Some y) (row_of ys i))
  at true rest = same.0
  at false rest = rest

-- An index has a name where another has one, if each name stands for the same in both.
has_some : (a b : Names) → ((q : List ℕ) → name_at b q ≡ name_at a q) → nat_lt 0 (length b.names) ≡ nat_lt 0 (length a.names)
has_some a b same = by a.names b.names same where
  first : (e : List ℕ × ℕ × ℕ) (es : List (List ℕ × ℕ × ℕ)) → found_in (e ∷ es) e.0 ≡ Some (e.1, e.2)
  first e es = ap (λ (is : Bool). cond is (Some (e.1, e.2)) (found_in es e.0)) ((bytes_decides e.0 e.0).1 refl)

  some : (n : ℕ) → 0 < n → nat_lt 0 n ≡ true
  some n above = grind (arith, nat_tests)

  by : (xs ys : List (List ℕ × ℕ × ℕ)) → ((q : List ℕ) → found_in ys q ≡ found_in xs q) → nat_lt 0 (length ys) ≡ nat_lt 0 (length xs)
  by [] [] same = refl
  by [] (y ∷ ys) same = absurd (let none : Some (y.1, y.2) ≡ None = sym (first y ys) ∙ same y.0 in cc)
  by (x ∷ xs) [] same = absurd (let none : None ≡ Some (x.1, x.2) = same x.0 ∙ first x xs in cc)
  by (x ∷ xs) (y ∷ ys) same = some (length (y ∷ ys)) (omega arith) ∙ sym (some (length (x ∷ xs)) (omega arith))

-- Rows of one region, and the same of another.
module _ (R S : Region) where
  abbrev first : Option Row → Option Node
  first o = option_map (node_of R) o

  abbrev second : Option Row → Option Node
  second o = option_map (node_of S) o

  -- the bytes of a row's file, below its size, are the same in both regions
  abbrev pub HasBytes : Option Row → Type 0
  HasBytes None = Unit {0}
  HasBytes (Some a) = (x : ℕ) → x < a.numbers.size → byte_in S (block_at a.index (x / 4096)) x ≡ byte_in R (block_at a.index (x / 4096)) x

  dirs_at : (i : ℕ) (a b : Option Row) → AreSame a b → as_directory i (second b) ≡ as_directory i (first a)
  dirs_at i None None same = refl
  dirs_at i None (Some b) same = absurd same
  dirs_at i (Some a) None same = absurd same
  dirs_at i (Some a) (Some b) same = ap (λ k. cond (is_directory k) (Ok i) (Err NotDirectory)) same.kind

  used_at : (a b : Option Row) → AreSame a b → is_some (second b) ≡ is_some (first a)
  used_at None None same = refl
  used_at None (Some b) same = absurd same
  used_at (Some a) None same = absurd same
  used_at (Some a) (Some b) same = refl

  names_at : (name : List ℕ) (a b : Option Row) → AreSame a b → option_and_then (λ (node : Node). node.names name) (second b) ≡ option_and_then (λ (node : Node). node.names name) (first a)
  names_at name None None same = refl
  names_at name None (Some b) same = absurd same
  names_at name (Some a) None same = absurd same
  names_at name (Some a) (Some b) same = ap (option_map (λ (x : ℕ × ℕ). x.0)) (same.names name)

  kinds_at : (a b : Option Row) → AreSame a b → option_map_or (λ (node : Node). is_directory node.kind) (second b) false ≡ option_map_or (λ (node : Node). is_directory node.kind) (first a) false
  kinds_at None None same = refl
  kinds_at None (Some b) same = absurd same
  kinds_at (Some a) None same = absurd same
  kinds_at (Some a) (Some b) same = ap is_directory same.kind

  stats_at : (i : ℕ) (a b : Option Row) → AreSame a b → option_map (stat_of i) (second b) ≡ option_map (stat_of i) (first a)
  stats_at i None None same = refl
  stats_at i None (Some b) same = absurd same
  stats_at i (Some a) None same = absurd same
  stats_at i (Some a) (Some b) same = λ j. Some (record {
    inode = i;
    kind = same.kind j;
    mode = (same.numbers j).mode;
    owner = (same.numbers j).owner;
    group = (same.numbers j).group;
    size = (same.numbers j).size;
    links = (same.numbers j).links;
    time = (same.numbers j).time;
  })

  as_in_first : (a : Row) → HasBytes (Some a) → SameNode (node_of S a) (node_of R a)
  as_in_first a same = record { kind = refl; mode = refl; owner = refl; group = refl; size = refl; links = refl; time = refl; count = refl; names = λ name. refl; bytes = same }

  -- what is read of a row, by its index and its size
  abbrev read_of : Region → ℕ → ℕ → (ℕ → Option ℕ) → ℕ → List ℕ
  read_of Q offset count index size = map (λ x. byte_in Q (index (x / 4096)) x) (range_with_len offset (min count (size - offset)))

  bytes_at : (offset count : ℕ) (a b : Option Row) → AreSame a b → HasBytes a → option_map (bytes_read offset count) (second b) ≡ option_map (bytes_read offset count) (first a)
  bytes_at offset count None None same bytes = refl
  bytes_at offset count None (Some b) same bytes = absurd same
  bytes_at offset count (Some a) None same bytes = absurd same
  bytes_at offset count (Some a) (Some b) same bytes =
      let as_first : bytes_read offset count (node_of S b) ≡ bytes_read offset count (node_of S a) = (λ j. read_of S offset count (λ p. same.index p j) ((same.numbers j).size)) in
      ap (λ (l : List ℕ). Some l) (as_first ∙ read_alike offset count (node_of S a) (node_of R a) (as_in_first a bytes))

  links_of_at : (a b : Option Row) → AreSame a b → option_map_or (λ (node : Node). node.links) (second b) 0 ≡ option_map_or (λ (node : Node). node.links) (first a) 0
  links_of_at None None same = refl
  links_of_at None (Some b) same = absurd same
  links_of_at (Some a) None same = absurd same
  links_of_at (Some a) (Some b) same = λ j. (same.numbers j).links

  named_at : (a b : Option Row) → AreSame a b → nat_lt 0 (option_map_or (λ (node : Node). node.count) (second b) 0) ≡ nat_lt 0 (option_map_or (λ (node : Node). node.count) (first a) 0)
  named_at None None same = refl
  named_at None (Some b) same = absurd same
  named_at (Some a) None same = absurd same
  named_at (Some a) (Some b) same = has_some a.names b.names same.names

  -- rows that say the same show trees that are alike
  pub alike_rows : (xs ys : List Row) → SameRows xs ys → ((i : ℕ) → HasBytes (row_of xs i)) → Alike (tree_of R xs) (tree_of S ys)
  alike_rows xs ys same bytes = record {
    dirs = λ i. dirs_at i _ _ (rows_at xs ys same i);
    used = λ i. used_at _ _ (rows_at xs ys same i);
    names = λ i name. names_at name _ _ (rows_at xs ys same i);
    kinds = λ i. kinds_at _ _ (rows_at xs ys same i);
    stats = λ i. stats_at i _ _ (rows_at xs ys same i);
    bytes = λ i offset count. bytes_at offset count _ _ (rows_at xs ys same i) (bytes i);
    links = λ i. links_of_at _ _ (rows_at xs ys same i);
    named = λ i. named_at _ _ (rows_at xs ys same i);
  }

  contents_at : (a b : Option Row) → AreSame a b → HasBytes a → SameContents (first a) (second b)
  contents_at None None same bytes = tt
  contents_at None (Some b) same bytes = absurd same
  contents_at (Some a) None same bytes = absurd same
  contents_at (Some a) (Some b) same bytes = record {
    size = (let e : b.numbers.size ≡ a.numbers.size = (λ j. (same.numbers j).size) in sym e);
    bytes = λ x below. sym (bytes x below) ∙ ap (λ (o : Option ℕ). byte_in S o x) (sym (same.index (x / 4096)));
  }

  -- and their files have the same bytes
  pub files_rows : (xs ys : List Row) → SameRows xs ys → ((i : ℕ) → HasBytes (row_of xs i)) → SameFiles (tree_of R xs) (tree_of S ys)
  files_rows xs ys same bytes i = contents_at (row_of xs i) (row_of ys i) (rows_at xs ys same i) (bytes i)

-- the same of one region
pub alike_here : (R : Region) (xs ys : List Row) → SameRows xs ys → Alike (tree_of R xs) (tree_of R ys)
alike_here R xs ys same = alike_rows R R xs ys same (λ i. still (row_of xs i)) where
  still : (o : Option Row) → HasBytes R R o
  still None = tt
  still (Some a) = λ x below. refl

-- an inode has a row in both or in none, so the lowest unused number is one
unused_at : (xs ys : List Row) → SameRows xs ys → (i : ℕ) → is_none (row_of ys i) ≡ is_none (row_of xs i)
unused_at xs ys same i = by (row_of xs i) (row_of ys i) (rows_at xs ys same i) where
  by : (a b : Option Row) → AreSame a b → is_none b ≡ is_none a
  by None None s = refl
  by None (Some b) s = absurd s
  by (Some a) None s = absurd s
  by (Some a) (Some b) s = refl

pub unused_same : (l k : Layout) (xs ys : List Row) → k ≡ l → SameRows xs ys → (cpu : ℕ) → unused_number k ys cpu ≡ unused_number l xs cpu
unused_same l k xs ys laid same cpu = ap (λ (x : Layout). unused_number x ys cpu) laid ∙ (λ i. find (λ x. not (nat_eq x 0) && unused_at xs ys same x i) (numbers_in_table l cpu))

pub new_same : (l k : Layout) (xs ys : List Row) → k ≡ l → SameRows xs ys → (cpu : ℕ) → new_number k ys cpu ≡ new_number l xs cpu
new_same l k xs ys laid same cpu = λ i. or_next (laid i) cpu (unused_same l k xs ys laid same cpu i)

-- ---- paths

module _ (t u : Tree) (alike : Alike t u) where
  step_alike : (name next : List ℕ) (rest : List (List ℕ)) → ((i : ℕ) → walk u i (next ∷ rest) ≡ walk t i (next ∷ rest)) → (r : Result ℕ Refusal)
      → and_then r (λ e. and_then (or_not_found (name_in u e name)) (λ i. walk u i (next ∷ rest))) ≡ and_then r (λ e. and_then (or_not_found (name_in t e name)) (λ i. walk t i (next ∷ rest)))
  step_alike name next rest on (Err e) = refl
  step_alike name next rest on (Ok e) = ap (λ o. and_then (or_not_found o) (λ i. walk u i (next ∷ rest))) (alike.names e name) ∙ by (name_in t e name) where
    by : (o : Option ℕ) → and_then (or_not_found o) (λ i. walk u i (next ∷ rest)) ≡ and_then (or_not_found o) (λ i. walk t i (next ∷ rest))
    by None = refl
    by (Some i) = on i

  pub walk_alike : (names : List (List ℕ)) (d : ℕ) → walk u d names ≡ walk t d names
  walk_alike [] d = refl
  walk_alike (name ∷ []) d = alike.dirs d
  walk_alike (name ∷ next ∷ rest) d = ap (λ r. and_then r (λ e. and_then (or_not_found (name_in u e name)) (λ i. walk u i (next ∷ rest)))) (alike.dirs d) ∙ step_alike name next rest (walk_alike (next ∷ rest)) (as_directory d (t d))

  pub passed_alike : (names : List (List ℕ)) (d : ℕ) → passed u d names ≡ passed t d names
  passed_alike [] d = refl
  passed_alike (name ∷ []) d = refl
  passed_alike (name ∷ next ∷ rest) d = ap (λ (o : Option ℕ). d ∷ option_map_or (λ i. passed u i (next ∷ rest)) o []) (alike.names d name) ∙ by (name_in t d name) (passed_alike (next ∷ rest)) where
    by : (o : Option ℕ) → ((i : ℕ) → passed u i (next ∷ rest) ≡ passed t i (next ∷ rest)) → d ∷ option_map_or (λ i. passed u i (next ∷ rest)) o [] ≡ d ∷ option_map_or (λ i. passed t i (next ∷ rest)) o []
    by None on = refl
    by (Some i) on = ap (λ (l : List ℕ). d ∷ l) (on i)

  in_use_alike : (o : Option ℕ) → in_use u o ≡ in_use t o
  in_use_alike None = refl
  in_use_alike (Some i) = ap (λ b. cond b (Some i) None) (alike.used i)

  last_alike : (names : List (List ℕ)) (r : Result ℕ Refusal) → last_in u r names ≡ last_in t r names
  last_alike names (Err e) = refl
  last_alike names (Ok d) = alike.names d (last_name names)

  pub found_alike : (names : List (List ℕ)) → found u names ≡ found t names
  found_alike [] = in_use_alike (Some 1)
  found_alike (name ∷ names) = ap (in_use u) (ap (λ r. last_in u r (name ∷ names)) (walk_alike (name ∷ names) 1) ∙ last_alike (name ∷ names) (walk t 1 (name ∷ names))) ∙ in_use_alike (last_in t (walk t 1 (name ∷ names)) (name ∷ names))

  pub directory_alike : (o : Option ℕ) → option_map_or (is_directory_at u) o false ≡ option_map_or (is_directory_at t) o false
  directory_alike None = refl
  directory_alike (Some i) = alike.kinds i

  -- ---- what the calls that read answer

  pub stats_one : (names : List (List ℕ)) (a b : Stat) → IsStat t names a → IsStat u names b → a ≡ b
  stats_one names a b p q =
      let e : a.inode ≡ b.inode = (let s : Some a.inode ≡ Some b.inode = sym p.leads ∙ sym (found_alike names) ∙ q.leads in cc) in
      let s : Some a ≡ Some b = sym p.shows ∙ sym (alike.stats a.inode) ∙ subst (λ i. option_map (stat_of i) (u i) ≡ Some b) (sym e) q.shows in
      cc

  pub lines_one : (names : List (List ℕ)) (a b : List (List ℕ × ℕ)) → ListsNamesIn t names a → ListsNamesIn u names b → a ≡ b
  lines_one names a b p q =
      let e : p.directory ≡ q.directory = (let s : Some p.directory ≡ Some q.directory = sym p.leads ∙ sym (found_alike names) ∙ q.leads in cc) in
      let there : Lists (λ (x : List ℕ × ℕ). x.0) (λ x. name_in u p.directory x.0 ≡ Some x.1) b = subst (λ d. Lists (λ (x : List ℕ × ℕ). x.0) (λ x. name_in u d x.0 ≡ Some x.1) b) (sym e) q.lists in
      Lists-only (λ (x : List ℕ × ℕ). x.0) (λ x. name_in t p.directory x.0 ≡ Some x.1) a b p.lists (record {
        rising = there.rising;
        each = λ x c. sym (alike.names p.directory x.0) ∙ there.each x c;
        all = λ x is. there.all x (alike.names p.directory x.0 ∙ is);
      })

  pub reads_one : (names : List (List ℕ)) (offset count : ℕ) (a b : List ℕ) → IsRead t names offset count a → IsRead u names offset count b → a ≡ b
  reads_one names offset count a b p q =
      let part : Node → List ℕ = bytes_read offset count in
      let e : p.inode ≡ q.inode = (let s : Some p.inode ≡ Some q.inode = sym p.leads.leads ∙ sym (found_alike names) ∙ q.leads.leads in cc) in
      let there : option_map part (u p.inode) ≡ Some b = subst (λ i. option_map part (u i) ≡ Some b) (sym e) (ap (option_map part) q.leads.shows ∙ ap (λ x. Some x) (sym q.is)) in
      let s : Some a ≡ Some b = ap (λ x. Some x) p.is ∙ sym (ap (option_map part) p.leads.shows) ∙ sym (alike.bytes p.inode offset count) ∙ there in
      cc

-- Where paths lead among rows: a step of a walk, where it is refused, and its end.
use Rattle.std.proofs.Common.{◌≡◌, ℕ, ◌<◌, Bool, eqb, true, false, is_some, cond, All, List, [], ◌∷◌, length, refl, sym, ◌∙◌, ap, subst, arith, Option, Some, None, Result, Ok, Err, IfErr}
use Rattle.std.specs.Option.{option_map, option_and_then}
use Rattle.std.specs.Result.{result_map_both}
use Rattle.std.proofs.lemmas.List.Elements.{All-head, All-tail}
use Rattle.nv_region.specs.Region.{Region}
use Rattle.nv_names.specs.Names.{name_at}
use Rattle.nv_scan.specs.declared.piece.Row.{Row}
use Rattle.nv_tree.specs.declared.refusal.Refusal.{Refusal}
use Rattle.nv_tree.specs.declared.refusal.Refusal.TheVariants.{NotFound, NotDirectory}
use Rattle.nv_tree.specs.Path.{IsPathName, spelled, IsPath, last_name}
use Rattle.nv_tree.specs.Names.{Spells}
use Rattle.nv_tree.specs.Tree.{Node, Tree, walk, found, as_directory, and_then, or_not_found, name_in, in_use, is_directory, last_in}
use Rattle.nv_tree.proofs.Spelled.{has_no_bytes, one_spelling}
use Rattle.nv_graph.specs.Read.{row_of}
use Rattle.nv_paths.specs.Seen.{node_of, tree_of}

-- ---- a text of names, cut behind its first

-- names whose first is cut off, with the text of the others
pub record Cut (first others : List ℕ) (left : List (List ℕ)) : Type 0 where
  pub names : List (List ℕ)
  pub is : left ≡ first ∷ names
  pub rest : Spells others names

pub cut : (rest first others : List ℕ) (left : List (List ℕ)) → 0 < length rest
    → ((name : List ℕ) (names : List (List ℕ)) → All IsPathName (name ∷ names) → rest ≡ spelled (name ∷ names) → (first ≡ name) × (others ≡ spelled names))
    → Spells rest left → Cut first others left
cut rest first others [] some split s = let e = ap length s.spells in absurd (omega (arith, some, e))
cut rest first others (name ∷ names) some split s =
    let e = split name names s.good s.spells in
    record {
      names = names;
      is = ap (λ n. n ∷ names) (sym e.0);
      rest = record { spells = e.1; good = All-tail IsPathName name names s.good };
    }

-- a text without bytes spells no name
pub no_names : (others : List ℕ) (b : Bool) → b ≡ eqb (length others) 0 → b ≡ true → (names : List (List ℕ)) → Spells others names → names ≡ []
no_names others b is none names s = let empty = has_no_bytes others b is none in one_spelling names [] s.good empty.good (sym s.spells ∙ empty.spells)

-- a text with a byte spells a name
pub some_names : (rest : List ℕ) (names : List (List ℕ)) → 0 < length rest → Spells rest names → (next : List ℕ) × (others : List (List ℕ)) × (names ≡ next ∷ others)
some_names rest [] some s = let e = ap length s.spells in absurd (omega (arith, some, e))
some_names rest (next ∷ others) some s = (next, others, refl)

-- ---- one step of a walk

-- a walk's refusal, by its answer
pub refused_so : {A : Type 0} (r : Result A Refusal) (f : A → ℕ) (w : Result ℕ Refusal) → result_map_both f (λ y. y) r ≡ w → IfErr r (λ e. w ≡ Err e)
refused_so (Ok a) f w told = tt
refused_so (Err e) f w told = sym told

-- a refusal handed on
pub told_refused : {A : Type 0} (r : Result A Refusal) (f : A → ℕ) (e x : Refusal) (w : Result ℕ Refusal) → r ≡ Err x → x ≡ e → w ≡ Err e → result_map_both f (λ y. y) r ≡ w
told_refused r f e x w is same refused = rw (is, same) (sym refused)

pub walk_refused : (t : Tree) (d : ℕ) (name : List ℕ) (names : List (List ℕ)) (e : Refusal) → as_directory d (t d) ≡ Err e → walk t d (name ∷ names) ≡ Err e
walk_refused t d name [] e refused = refused
walk_refused t d name (next ∷ names) e refused = rw refused refl

pub walk_lost : (t : Tree) (d : ℕ) (name next : List ℕ) (names : List (List ℕ)) → as_directory d (t d) ≡ Ok d → name_in t d name ≡ None → walk t d (name ∷ next ∷ names) ≡ Err NotFound
walk_lost t d name next names here none = rw here (rw none refl)

walk_on : (t : Tree) (d i : ℕ) (name next : List ℕ) (names : List (List ℕ)) → as_directory d (t d) ≡ Ok d → name_in t d name ≡ Some i → walk t d (name ∷ next ∷ names) ≡ walk t i (next ∷ names)
walk_on t d i name next names here is = rw here (rw is refl)

abbrev or_no_directory : ℕ → Bool → Result ℕ Refusal
or_no_directory d b = cond b (Ok d) (Err NotDirectory)

-- where the names go on behind the first
pub goes_on : (t : Tree) (d i : ℕ) (left : List (List ℕ)) (name : List ℕ) (names : List (List ℕ)) (next : List ℕ) (others : List (List ℕ)) → left ≡ name ∷ names → names ≡ next ∷ others
    → as_directory d (t d) ≡ Ok d → name_in t d name ≡ Some i → walk t d left ≡ walk t i names
goes_on t d i left name names next others is more here named = rw (is, more) (walk_on t d i name next others here named)

pub same_last : (left : List (List ℕ)) (name : List ℕ) (names : List (List ℕ)) (next : List ℕ) (others : List (List ℕ)) → left ≡ name ∷ names → names ≡ next ∷ others → last_name left ≡ last_name names
same_last left name names next others is more = rw (is, more) refl

-- a number that is a directory is that number
pub same_number : (d e : ℕ) (o : Option Node) → as_directory d o ≡ Ok e → d ≡ e
same_number d e None ok = absurd (cc)
same_number d e (Some node) ok = by (is_directory node.kind) ok where
  by : (b : Bool) → or_no_directory d b ≡ Ok e → d ≡ e
  by true ok = cc
  by false ok = absurd (cc)

-- where steps lead
ends_by : (t : Tree) (e : ℕ) (name : List ℕ) (next : ℕ → Result ℕ Refusal) → ((i : ℕ) → next i ≡ Ok e → as_directory e (t e) ≡ Ok e) → (r : Result ℕ Refusal)
    → and_then r (λ j. and_then (or_not_found (name_in t j name)) next) ≡ Ok e → as_directory e (t e) ≡ Ok e
ends_by t e name next ends (Err r) ok = absurd (cc)
ends_by t e name next ends (Ok j) ok = by (name_in t j name) ok where
  by : (o : Option ℕ) → and_then (or_not_found o) next ≡ Ok e → as_directory e (t e) ≡ Ok e
  by None ok = absurd (cc)
  by (Some i) ok = ends i ok

-- a walk ends in a directory
pub walk_ends : (t : Tree) (d e : ℕ) (name : List ℕ) (names : List (List ℕ)) → walk t d (name ∷ names) ≡ Ok e → as_directory e (t e) ≡ Ok e
walk_ends t d e name [] ok = let same = same_number d e (t d) ok in subst (λ j. as_directory j (t j) ≡ Ok j) same (ok ∙ ap (λ j. or_no_directory j true) (sym same))
walk_ends t d e name (next ∷ names) ok = ends_by t e name (λ i. walk t i (next ∷ names)) (λ i is. walk_ends t i e next names is) (as_directory d (t d)) ok

-- ---- names in rows

-- what a name stands for in a directory with a row
pub name_in_row : (R : Region) (rows : List Row) (d : ℕ) (row : Row) (name : List ℕ) (o : Option (ℕ × ℕ)) → row_of rows d ≡ Some row → name_at row.names name ≡ o
    → name_in (tree_of R rows) d name ≡ option_map (λ x. x.0) o
name_in_row R rows d row name o is named = rw is (rw named refl)

-- a number in use has a row
pub rows_in_use : (R : Region) (rows : List Row) (o : Option ℕ) → option_and_then (row_of rows) (in_use (tree_of R rows) o) ≡ option_and_then (row_of rows) o
rows_in_use R rows None = refl
rows_in_use R rows (Some i) = by (row_of rows i) refl where
  by : (o : Option Row) → row_of rows i ≡ o → option_and_then (row_of rows) (cond (is_some (option_map (node_of R) o)) (Some i) None) ≡ row_of rows i
  by None e = sym e
  by (Some row) e = refl

-- ---- paths

-- the path of one byte
pub one_byte : (text : List ℕ) (names : List (List ℕ)) → IsPath text names → length text ≡ 1 → names ≡ []
one_byte text [] p one = refl
one_byte text ([] ∷ names) p one = let some = (All-head IsPathName [] names p.good).fits.some in absurd (omega (arith, some))
one_byte text ((b ∷ name) ∷ names) p one = let e = ap length p.spells in absurd (omega (arith, e, one))

-- a longer path has names
pub longer : (text : List ℕ) (names : List (List ℕ)) → IsPath text names → (length text ≡ 1 → ⊥) → (name : List ℕ) × (others : List (List ℕ)) × (names ≡ name ∷ others) × Spells text names
longer text [] p long = let e = ap length p.spells in absurd (long e)
longer text (name ∷ names) p long = (name, names, refl, record { spells = p.spells; good = p.good })

-- what the last name stands for, by the directory where the walk ended
pub found_below : (R : Region) (rows : List Row) (text name : List ℕ) (names : List (List ℕ)) (d : ℕ) (row : Row) (o : Option (ℕ × ℕ)) → IsPath text names → (length text ≡ 1 → ⊥)
    → walk (tree_of R rows) 1 names ≡ Ok d → row_of rows d ≡ Some row → name ≡ last_name names → name_at row.names name ≡ o
    → option_and_then (row_of rows) (found (tree_of R rows) names) ≡ option_and_then (row_of rows) (option_map (λ x. x.0) o)
found_below R rows text name [] d row o p long walked is last named = absurd (long (ap length p.spells))
found_below R rows text name (first ∷ names) d row o p long walked is last named =
    let stands : name_in (tree_of R rows) d (last_name (first ∷ names)) ≡ option_map (λ (x : ℕ × ℕ). x.0) o = ap (name_in (tree_of R rows) d) (sym last) ∙ name_in_row R rows d row name o is named in
    rows_in_use R rows (last_in (tree_of R rows) (walk (tree_of R rows) 1 (first ∷ names)) (first ∷ names))
    ∙ ap (λ r. option_and_then (row_of rows) (last_in (tree_of R rows) r (first ∷ names))) walked
    ∙ ap (option_and_then (row_of rows)) stands

-- Why `replace` is refused where it looks for its inodes and its directories.
use Rattle.std.proofs.Common.{◌≡◌, ◌≢◌, ℕ, suc, Bool, true, false, not, ◌&&◌, nat_lt, eqb, List, [], ◌∷◌, length, refl, ap, sym, ◌∙◌, arith, Option, Some, None, is_some}
use Rattle.std.specs.Option.{option_map, option_map_or}
use Rattle.std.proofs.lemmas.Bool.Decides.{nat_tests}
use Rattle.nv_region.specs.Region.{Region}
use Rattle.nv_super.specs.declared.kind.Kind.{Kind}
use Rattle.nv_super.specs.declared.kind.Kind.TheVariants.{File, Directory}
use Rattle.nv_names.specs.Names.{found_in}
use Rattle.nv_scan.specs.declared.piece.Row.{Row}
use Rattle.nv_graph.specs.Read.{row_of}
use Rattle.nv_tree.specs.declared.refusal.Refusal.{Refusal}
use Rattle.nv_tree.specs.declared.refusal.Refusal.TheVariants.{IsDirectory, NotDirectory, NotEmpty}
use Rattle.nv_tree.specs.Tree.{Node, Tree, is_directory}
use Rattle.nv_tree.specs.Refusals.{Path, Tests, count_at, first_refusal, is_directory_at, target}
use Rattle.nv_tree.specs.Replace.{are_one, at_directory, is_over_directory, is_over_file, is_over_names}
use Rattle.nv_paths.specs.MoveSpots.{move_tests}
use Rattle.nv_paths.specs.ReplaceSpots.{replace_spot_tests}
use Rattle.nv_paths.specs.Seen.{node_of, tree_of}
use Rattle.nv_paths.proofs.MoveSpots.{more_allows, more_refuses}

-- the tests of what stands where the move ends
abbrev over_tests : Tree → Path → Path → Tests
over_tests t p q = is_over_directory t p q ∷ is_over_file t p q ∷ is_over_names t p q ∷ []

abbrev over_told : Bool → Bool → Bool → Option Refusal
over_told a b c = first_refusal ((a, IsDirectory) ∷ (b, NotDirectory) ∷ (c, NotEmpty) ∷ [])

-- what refuses a move refuses it
pub replace_refused : (t : Tree) (p q : Path) (e : Refusal) → first_refusal (move_tests t p q) ≡ Some e → first_refusal (replace_spot_tests t p q) ≡ Some e
replace_refused t p q e h = more_refuses t p q (over_tests t p q) e h

never : (a : Bool) → (a && false) ≡ false
never true = refl
never false = refl

-- Where the second path leads to no inode, there is nothing more to test.
pub nothing_over : (t : Tree) (p q : Path) → first_refusal (move_tests t p q) ≡ None → target t q ≡ None → first_refusal (replace_spot_tests t p q) ≡ None
nothing_over t p q passed none =
    let directory : at_directory t q ≡ false = ap (λ (o : Option ℕ). option_map_or (is_directory_at t) o false) none in
    let some : is_some (target t q) ≡ false = ap (λ (o : Option ℕ). is_some o) none in
    let names : option_map_or (λ i. nat_lt 0 (count_at t i)) (target t q) false ≡ false = ap (λ (o : Option ℕ). option_map_or (λ i. nat_lt 0 (count_at t i)) o false) none in
    let a : (not (at_directory t p) && at_directory t q) ≡ false = (λ k. not (at_directory t p) && directory k) ∙ never (not (at_directory t p)) in
    let b : (at_directory t p && (is_some (target t q) && not (at_directory t q))) ≡ false = (λ k. at_directory t p && (some k && not (at_directory t q))) ∙ never (at_directory t p) in
    let c : (not (are_one t p q) && option_map_or (λ i. nat_lt 0 (count_at t i)) (target t q) false) ≡ false = (λ k. not (are_one t p q) && names k) ∙ never (not (are_one t p q)) in
    more_allows t p q (over_tests t p q) passed ∙ (λ k. over_told (a k) (b k) (c k))

turned : (a b : Bool) → (a && not b) ≡ (not b && a)
turned true true = refl
turned true false = refl
turned false true = refl
turned false false = refl

module _ (R : Region) (rows : List Row) (p q : Path) (moved there : Row) (held : row_of rows moved.inode ≡ Some moved) (there_held : row_of rows there.inode ≡ Some there) (leads : target (tree_of R rows) p ≡ Some moved.inode) (leads_too : target (tree_of R rows) q ≡ Some there.inode)
    (passed : first_refusal (move_tests (tree_of R rows) p q) ≡ None) where
  abbrev t : Tree
  t = tree_of R rows

  shown : t moved.inode ≡ Some (node_of R moved)
  shown = ap (λ (o : Option Row). option_map (node_of R) o) held

  there_shown : t there.inode ≡ Some (node_of R there)
  there_shown = ap (λ (o : Option Row). option_map (node_of R) o) there_held

  at_first : at_directory t p ≡ is_directory moved.kind
  at_first = ap (λ (o : Option ℕ). option_map_or (is_directory_at t) o false) leads ∙ ap (λ (o : Option Node). option_map_or (λ (node : Node). is_directory node.kind) o false) shown

  at_second : at_directory t q ≡ is_directory there.kind
  at_second = ap (λ (o : Option ℕ). option_map_or (is_directory_at t) o false) leads_too ∙ ap (λ (o : Option Node). option_map_or (λ (node : Node). is_directory node.kind) o false) there_shown

  one : are_one t p q ≡ eqb moved.inode there.inode
  one = ap (λ (o : Option ℕ). option_map_or (λ i. option_map_or (eqb i) (target t q) false) o false) leads ∙ ap (λ (o : Option ℕ). option_map_or (eqb moved.inode) o false) leads_too

  some : is_some (target t q) ≡ true
  some = ap (λ (o : Option ℕ). is_some o) leads_too

  counts : option_map_or (λ i. nat_lt 0 (count_at t i)) (target t q) false ≡ nat_lt 0 (length there.names.names)
  counts = ap (λ (o : Option ℕ). option_map_or (λ i. nat_lt 0 (count_at t i)) o false) leads_too ∙ ap (λ (o : Option Node). nat_lt 0 (option_map_or (λ (node : Node). node.count) o 0)) there_shown

  abbrev A : Bool
  A = not (is_directory moved.kind) && is_directory there.kind

  abbrev B : Bool
  B = not (is_directory there.kind) && is_directory moved.kind

  abbrev C : Bool
  C = not (eqb moved.inode there.inode) && nat_lt 0 (length there.names.names)

  told : {a b c : Bool} → A ≡ a → B ≡ b → C ≡ c → first_refusal (replace_spot_tests t p q) ≡ over_told a b c
  told {a} {b} {c} first second third =
      let x : (not (at_directory t p) && at_directory t q) ≡ a = (λ k. not (at_first k) && at_second k) ∙ first in
      let y : (at_directory t p && (is_some (target t q) && not (at_directory t q))) ≡ b = (λ k. at_first k && (some k && not (at_second k))) ∙ turned (is_directory moved.kind) (is_directory there.kind) ∙ second in
      let z : (not (are_one t p q) && option_map_or (λ i. nat_lt 0 (count_at t i)) (target t q) false) ≡ c = (λ k. not (one k) && counts k) ∙ third in
      more_allows t p q (over_tests t p q) passed ∙ (λ k. over_told (x k) (y k) (z k))

  pub over_directory : A ≡ true → first_refusal (replace_spot_tests t p q) ≡ Some IsDirectory
  over_directory first = told first refl refl

  pub over_file : A ≡ false → B ≡ true → first_refusal (replace_spot_tests t p q) ≡ Some NotDirectory
  over_file first second = told first second refl

  pub over_names : A ≡ false → B ≡ false → C ≡ true → first_refusal (replace_spot_tests t p q) ≡ Some NotEmpty
  over_names first second third = told first second third

  pub nothing_against : A ≡ false → B ≡ false → C ≡ false → first_refusal (replace_spot_tests t p q) ≡ None
  nothing_against first second third = told first second third

-- two that are both directories, or neither
pub same_kind : (a b : Kind) → (not (is_directory a) && is_directory b) ≡ false → (not (is_directory b) && is_directory a) ≡ false → b ≡ a
same_kind File File x y = refl
same_kind File Directory x y = absurd (cc)
same_kind Directory File x y = absurd (cc)
same_kind Directory Directory x y = refl

no_names : (es : List (List ℕ × ℕ × ℕ)) (q : List ℕ) → nat_lt 0 (length es) ≡ false → found_in es q ≡ None
no_names [] q none = refl
no_names (e ∷ es) q none = absurd (some (length es) none) where
  some : (n : ℕ) → nat_lt 0 (suc n) ≡ false → ⊥
  some n test = grind (arith, nat_tests)

-- another without names
pub bare_other : (i j : ℕ) (es : List (List ℕ × ℕ × ℕ)) (q : List ℕ) → (not (eqb i j) && nat_lt 0 (length es)) ≡ false → j ≢ i → found_in es q ≡ None
bare_other i j es q test other = by (eqb i j) refl (nat_lt 0 (length es)) refl test where
  by : (a : Bool) → eqb i j ≡ a → (b : Bool) → nat_lt 0 (length es) ≡ b → (not a && b) ≡ false → found_in es q ≡ None
  by true same b is e = absurd (let one : i ≡ j = grind (arith, nat_tests) in other (sym one))
  by false same true is e = absurd (cc)
  by false same false is e = no_names es q is

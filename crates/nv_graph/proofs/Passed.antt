-- What holds of a tree where the tests of a call refuse nothing.
use Rattle.std.proofs.Common.{◌≡◌, ℕ, Bool, true, false, not, ◌&&◌, nat_lt, is_some, is_none, List, [], ◌∷◌, ◌++◌, Option, Some, None, Result, Ok, Err, refl, sym, ◌∙◌, ap}
use Rattle.std.specs.Option.{option_map_or}
use Rattle.nv_super.specs.declared.kind.Kind.{Kind}
use Rattle.nv_super.specs.declared.kind.Kind.TheVariants.{File, Directory}
use Rattle.nv_tree.specs.declared.refusal.Refusal.{Refusal}
use Rattle.nv_tree.specs.declared.refusal.Refusal.TheVariants.{BadCpu, ReadOnly}
use Rattle.nv_tree.specs.Path.{last_name}
use Rattle.nv_tree.specs.Tree.{Node, Tree, found, in_use, is_directory, last_in, name_in, walk}
use Rattle.nv_tree.specs.Refusals.{Path, Tests, World, count_at, create_tests, first_refusal, has_most_links, has_names, has_no_slot, has_no_space, is_bad, is_bad_name, is_dir, is_directory_at, is_into_itself, is_missing, is_no_dir, is_there, link_tests, passes, refused_walk, rename_tests, rmdir_tests, unlink_tests, walk_tests, writing}
use Rattle.nv_tree.specs.Replace.{are_one, is_over_directory, is_over_file, is_over_names, replace_tests}
use Rattle.nv_tree.proofs.Cuts.{last_stood}
use Rattle.nv_tree.proofs.Effects.{found_used}

-- ---- tests, one after the other

test_off : (b : Bool) (r : Refusal) (tests : Tests) → first_refusal ((b, r) ∷ tests) ≡ None → (b ≡ false) × (first_refusal tests ≡ None)
test_off true r tests none = absurd (cc)
test_off false r tests none = (refl, none)

-- the first of several, by itself
off : (x : Bool × Refusal) (tests : Tests) → first_refusal (x ∷ tests) ≡ None → (x.0 ≡ false) × (first_refusal tests ≡ None)
off x tests none = test_off x.0 x.1 tests none

walk_off : (w : Result ℕ Refusal) (tests : Tests) → first_refusal (refused_walk w ++ tests) ≡ None → (d : ℕ) × (w ≡ Ok d) × (first_refusal tests ≡ None)
walk_off (Err r) tests none = absurd (cc)
walk_off (Ok d) tests none = (d, refl, none)

-- of two ways, one after the other
walks_off : (v w : Result ℕ Refusal) (tests : Tests) → first_refusal (refused_walk v ++ refused_walk w ++ tests) ≡ None → (d : ℕ) × (e : ℕ) × (v ≡ Ok d) × (w ≡ Ok e) × (first_refusal tests ≡ None)
walks_off (Err r) w tests none = absurd (cc)
walks_off (Ok d) (Err r) tests none = absurd (cc)
walks_off (Ok d) (Ok e) tests none = (d, e, refl, refl, none)

writing_off : (w : World) (cpu : ℕ) (tests : Tests) → first_refusal (writing w cpu tests) ≡ None → first_refusal tests ≡ None
writing_off w cpu tests none = (test_off w.read_only ReadOnly tests (test_off (not (nat_lt cpu w.cpus)) BadCpu ((w.read_only, ReadOnly) ∷ tests) none).1).1

some_there : (o : Option ℕ) → is_none o ≡ false → (i : ℕ) × (o ≡ Some i)
some_there None off = absurd (cc)
some_there (Some i) off = (i, refl)

none_there : (o : Option ℕ) → is_some o ≡ false → o ≡ None
none_there None off = refl
none_there (Some i) off = absurd (cc)

on_found : (o : Option ℕ) (i : ℕ) (f : ℕ → Bool) → o ≡ Some i → option_map_or f o false ≡ false → f i ≡ false
on_found o i f is off = ap (λ p. option_map_or f p false) (sym is) ∙ off

-- ---- kinds

kind_at : (t : Tree) (i : ℕ) (a : Node) → t i ≡ Some a → (b : Bool) → is_directory_at t i ≡ b → is_directory a.kind ≡ b
kind_at t i a is b said = ap (λ (o : Option Node). option_map_or (λ (n : Node). is_directory n.kind) o false) (sym is) ∙ said

pub file_kind : (k : Kind) → is_directory k ≡ false → k ≡ File
file_kind File off = refl
file_kind Directory off = absurd (cc)

pub directory_kind : (k : Kind) → is_directory k ≡ true → k ≡ Directory
directory_kind File on = absurd (cc)
directory_kind Directory on = refl

-- ---- what stands at the ends of a path

-- a name stands for an inode in use
pub record Stands (t : Tree) (names : List (List ℕ)) (d i : ℕ) : Type 0 where
  pub way : walk t 1 names ≡ Ok d
  pub leads : found t names ≡ Some i
  pub name : name_in t d (last_name names) ≡ Some i
  pub node : Node
  pub used : t i ≡ Some node

-- a directory on whose name nothing in use stands
pub record Lacks (t : Tree) (names : List (List ℕ)) (d : ℕ) : Type 0 where
  pub way : walk t 1 names ≡ Ok d
  pub unused : in_use t (name_in t d (last_name names)) ≡ None

stands : (t : Tree) (name : List ℕ) (names : List (List ℕ)) (d i : ℕ) → walk t 1 (name ∷ names) ≡ Ok d → found t (name ∷ names) ≡ Some i → Stands t (name ∷ names) d i
stands t name names d i way leads =
    let last = last_stood t name names d i way leads in
    record { way = way; leads = leads; name = last.1; node = last.0; used = last.2 }

lacks : (t : Tree) (name : List ℕ) (names : List (List ℕ)) (d : ℕ) → walk t 1 (name ∷ names) ≡ Ok d → found t (name ∷ names) ≡ None → Lacks t (name ∷ names) d
lacks t name names d way none = record { way = way; unused = ap (λ r. in_use t (last_in t r (name ∷ names))) (sym way) ∙ none }

-- ---- each call

pub record Creates (w : World) (t : Tree) (cpu : ℕ) (names : List (List ℕ)) : Type 0 where
  pub first : List ℕ
  pub rest : List (List ℕ)
  pub are : names ≡ first ∷ rest
  pub directory : ℕ
  pub lacks : Lacks t (first ∷ rest) directory
  pub inode : ℕ
  pub unused : w.unused cpu ≡ Some inode

pub creates : (w : World) (t : Tree) (cpu : ℕ) (names : List (List ℕ)) (needed : ℕ) → first_refusal (create_tests w t cpu (Some names) needed) ≡ None → Creates w t cpu names
creates w t cpu [] needed none = absurd (let left = writing_off w cpu (is_bad_name (Some []) ∷ is_there t (Some []) ∷ has_no_slot w cpu ∷ has_no_space w needed ∷ []) none in cc)
creates w t cpu (name ∷ names) needed none =
    let p : Path = Some (name ∷ names) in
    let slots : Tests = has_no_slot w cpu ∷ has_no_space w needed ∷ [] in
    let way = walk_off (walk t 1 (name ∷ names)) (is_there t p ∷ slots) (writing_off w cpu (is_bad_name p ∷ walk_tests t p ++ is_there t p ∷ slots) none) in
    let there = off (is_there t p) slots way.2 in
    let slot = off (has_no_slot w cpu) (has_no_space w needed ∷ []) there.1 in
    let number = some_there (w.unused cpu) slot.0 in
    record {
      first = name;
      rest = names;
      are = refl;
      directory = way.0;
      lacks = lacks t name names way.0 way.1 (none_there (found t (name ∷ names)) there.0);
      inode = number.0;
      unused = number.1;
    }

-- `unlink` and `rmdir`: an inode by its name, of a kind
pub record Names (t : Tree) (names : List (List ℕ)) (is_dir : Bool) : Type 0 where
  pub first : List ℕ
  pub rest : List (List ℕ)
  pub are : names ≡ first ∷ rest
  pub directory : ℕ
  pub inode : ℕ
  pub stands : Stands t (first ∷ rest) directory inode
  pub kind : is_directory stands.node.kind ≡ is_dir

pub unlinks : (w : World) (t : Tree) (cpu : ℕ) (names : List (List ℕ)) (needed : ℕ) → first_refusal (unlink_tests w t cpu (Some names) needed) ≡ None → Names t names false
unlinks w t cpu [] needed none = absurd (let left = writing_off w cpu (is_bad_name (Some []) ∷ is_missing t (Some []) ∷ is_dir t (Some []) ∷ has_no_space w needed ∷ []) none in cc)
unlinks w t cpu (name ∷ names) needed none =
    let p : Path = Some (name ∷ names) in
    let kinds : Tests = is_dir t p ∷ has_no_space w needed ∷ [] in
    let way = walk_off (walk t 1 (name ∷ names)) (is_missing t p ∷ kinds) (writing_off w cpu (is_bad_name p ∷ walk_tests t p ++ is_missing t p ∷ kinds) none) in
    let missing = off (is_missing t p) kinds way.2 in
    let led = some_there (found t (name ∷ names)) missing.0 in
    let file = off (is_dir t p) (has_no_space w needed ∷ []) missing.1 in
    let s = stands t name names way.0 led.0 way.1 led.1 in
    record {
      first = name;
      rest = names;
      are = refl;
      directory = way.0;
      inode = led.0;
      stands = s;
      kind = kind_at t led.0 s.node s.used false (on_found (found t (name ∷ names)) led.0 (is_directory_at t) led.1 file.0);
    }

flipped : (b : Bool) → not b ≡ false → b ≡ true
flipped true off = refl
flipped false off = absurd (cc)

-- a directory without names by its count
pub record Removes (t : Tree) (names : List (List ℕ)) : Type 0 where
  pub named : Names t names true
  pub few : nat_lt 0 (count_at t named.inode) ≡ false

pub removes : (w : World) (t : Tree) (cpu : ℕ) (names : List (List ℕ)) (needed : ℕ) → first_refusal (rmdir_tests w t cpu (Some names) needed) ≡ None → Removes t names
removes w t cpu [] needed none = absurd (let left = writing_off w cpu (is_bad_name (Some []) ∷ is_missing t (Some []) ∷ is_no_dir t (Some []) ∷ has_names t (Some []) ∷ has_no_space w needed ∷ []) none in cc)
removes w t cpu (name ∷ names) needed none =
    let p : Path = Some (name ∷ names) in
    let counts : Tests = has_names t p ∷ has_no_space w needed ∷ [] in
    let way = walk_off (walk t 1 (name ∷ names)) (is_missing t p ∷ is_no_dir t p ∷ counts) (writing_off w cpu (is_bad_name p ∷ walk_tests t p ++ is_missing t p ∷ is_no_dir t p ∷ counts) none) in
    let missing = off (is_missing t p) (is_no_dir t p ∷ counts) way.2 in
    let led = some_there (found t (name ∷ names)) missing.0 in
    let kind = off (is_no_dir t p) counts missing.1 in
    let few = off (has_names t p) (has_no_space w needed ∷ []) kind.1 in
    let s = stands t name names way.0 led.0 way.1 led.1 in
    let is_dir = ap (λ p. option_map_or (is_directory_at t) p false) (sym led.1) ∙ flipped (option_map_or (is_directory_at t) (found t (name ∷ names)) false) kind.0 in
    record {
      named = record {
        first = name;
        rest = names;
        are = refl;
        directory = way.0;
        inode = led.0;
        stands = s;
        kind = kind_at t led.0 s.node s.used true is_dir;
      };
      few = on_found (found t (name ∷ names)) led.0 (λ i. nat_lt 0 (count_at t i)) led.1 few.0;
    }

-- a file, and a directory for its further name
pub record Links (t : Tree) (old new : List (List ℕ)) : Type 0 where
  pub inode : ℕ
  pub leads : found t old ≡ Some inode
  pub node : Node
  pub used : t inode ≡ Some node
  pub kind : is_directory node.kind ≡ false
  pub first : List ℕ
  pub rest : List (List ℕ)
  pub are : new ≡ first ∷ rest
  pub directory : ℕ
  pub lacks : Lacks t (first ∷ rest) directory

pub links : (w : World) (t : Tree) (cpu : ℕ) (old new : List (List ℕ)) (needed : ℕ) → first_refusal (link_tests w t cpu (Some old) (Some new) needed) ≡ None → Links t old new
links w t cpu old [] needed none =
    absurd (let left = writing_off w cpu (is_bad (Some old) ∷ is_bad_name (Some []) ∷ walk_tests t (Some old) ++ walk_tests t (Some []) ++ is_missing t (Some old) ∷ is_dir t (Some old) ∷ is_there t (Some []) ∷ has_most_links t (Some old) ∷ has_no_space w needed ∷ []) none in cc)
links w t cpu old (name ∷ names) needed none =
    let p : Path = Some old in
    let q : Path = Some (name ∷ names) in
    let last : Tests = has_most_links t p ∷ has_no_space w needed ∷ [] in
    let tests : Tests = is_missing t p ∷ is_dir t p ∷ is_there t q ∷ last in
    let ways = walks_off (walk t 1 old) (walk t 1 (name ∷ names)) tests (writing_off w cpu (is_bad p ∷ is_bad_name q ∷ walk_tests t p ++ walk_tests t q ++ tests) none) in
    let missing = off (is_missing t p) (is_dir t p ∷ is_there t q ∷ last) ways.4 in
    let led = some_there (found t old) missing.0 in
    let file = off (is_dir t p) (is_there t q ∷ last) missing.1 in
    let there = off (is_there t q) last file.1 in
    let used = found_used t old led.0 led.1 in
    record {
      inode = led.0;
      leads = led.1;
      node = used.0;
      used = used.1;
      kind = kind_at t led.0 used.0 used.1 false (on_found (found t old) led.0 (is_directory_at t) led.1 file.0);
      first = name;
      rest = names;
      are = refl;
      directory = ways.1;
      lacks = lacks t name names ways.1 ways.3 (none_there (found t (name ∷ names)) there.0);
    }

-- an inode by its name, and a directory for its new one, to which no way leads that passes it
pub record Renames (t : Tree) (old new : List (List ℕ)) : Type 0 where
  pub first : List ℕ
  pub rest : List (List ℕ)
  pub from_is : old ≡ first ∷ rest
  pub from : ℕ
  pub inode : ℕ
  pub stands : Stands t (first ∷ rest) from inode
  pub next : List ℕ
  pub others : List (List ℕ)
  pub to_is : new ≡ next ∷ others
  pub to : ℕ
  pub lacks : Lacks t (next ∷ others) to
  pub past : is_directory_at t inode && passes t (Some (next ∷ others)) inode ≡ false

-- the tests of a rename behind the first of its own
abbrev rename_rest : World → Tree → Path → Path → ℕ → Tests
rename_rest w t p q needed = is_bad_name q ∷ walk_tests t p ++ walk_tests t q ++ is_missing t p ∷ is_into_itself t p q ∷ is_there t q ∷ has_no_space w needed ∷ []

pub renames : (w : World) (t : Tree) (cpu : ℕ) (old new : List (List ℕ)) (needed : ℕ) → first_refusal (rename_tests w t cpu (Some old) (Some new) needed) ≡ None → Renames t old new
renames w t cpu [] new needed none = absurd (let left = writing_off w cpu (is_bad_name (Some []) ∷ rename_rest w t (Some []) (Some new) needed) none in cc)
renames w t cpu (first ∷ rest) [] needed none = absurd (let left = writing_off w cpu (is_bad_name (Some (first ∷ rest)) ∷ rename_rest w t (Some (first ∷ rest)) (Some []) needed) none in cc)
renames w t cpu (first ∷ rest) (next ∷ others) needed none =
    let p : Path = Some (first ∷ rest) in
    let q : Path = Some (next ∷ others) in
    let last : Tests = is_there t q ∷ has_no_space w needed ∷ [] in
    let tests : Tests = is_missing t p ∷ is_into_itself t p q ∷ last in
    let ways = walks_off (walk t 1 (first ∷ rest)) (walk t 1 (next ∷ others)) tests (writing_off w cpu (is_bad_name p ∷ rename_rest w t p q needed) none) in
    let missing = off (is_missing t p) (is_into_itself t p q ∷ last) ways.4 in
    let led = some_there (found t (first ∷ rest)) missing.0 in
    let into = off (is_into_itself t p q) last missing.1 in
    let there = off (is_there t q) (has_no_space w needed ∷ []) into.1 in
    record {
      first = first;
      rest = rest;
      from_is = refl;
      from = ways.0;
      inode = led.0;
      stands = stands t first rest ways.0 led.0 ways.2 led.1;
      next = next;
      others = others;
      to_is = refl;
      to = ways.1;
      lacks = lacks t next others ways.1 ways.3 (none_there (found t (next ∷ others)) there.0);
      past = on_found (found t (first ∷ rest)) led.0 (λ i. is_directory_at t i && passes t (Some (next ∷ others)) i) led.1 into.0;
    }

-- `replace` of an inode by a name that stands for another: what `rename` wants of the old path, and the other has no names by its count
pub record Replacing (t : Tree) (old new : List (List ℕ)) : Type 0 where
  pub first : List ℕ
  pub rest : List (List ℕ)
  pub from_is : old ≡ first ∷ rest
  pub from : ℕ
  pub inode : ℕ
  pub stands : Stands t (first ∷ rest) from inode
  pub next : List ℕ
  pub others : List (List ℕ)
  pub to_is : new ≡ next ∷ others
  pub to : ℕ
  pub way : walk t 1 (next ∷ others) ≡ Ok to
  pub past : is_directory_at t inode && passes t (Some (next ∷ others)) inode ≡ false
  pub few : not (are_one t (Some (first ∷ rest)) (Some (next ∷ others))) && option_map_or (λ i. nat_lt 0 (count_at t i)) (found t (next ∷ others)) false ≡ false

-- the tests of a replace behind the first of its own
abbrev replace_rest : World → Tree → Path → Path → ℕ → Tests
replace_rest w t p q needed = is_bad_name q ∷ walk_tests t p ++ walk_tests t q ++ is_missing t p ∷ is_into_itself t p q ∷ is_over_directory t p q ∷ is_over_file t p q ∷ is_over_names t p q ∷ has_no_space w needed ∷ []

pub replacing : (w : World) (t : Tree) (cpu : ℕ) (old new : List (List ℕ)) (needed : ℕ) → first_refusal (replace_tests w t cpu (Some old) (Some new) needed) ≡ None → Replacing t old new
replacing w t cpu [] new needed none = absurd (let left = writing_off w cpu (is_bad_name (Some []) ∷ replace_rest w t (Some []) (Some new) needed) none in cc)
replacing w t cpu (first ∷ rest) [] needed none = absurd (let left = writing_off w cpu (is_bad_name (Some (first ∷ rest)) ∷ replace_rest w t (Some (first ∷ rest)) (Some []) needed) none in cc)
replacing w t cpu (first ∷ rest) (next ∷ others) needed none =
    let p : Path = Some (first ∷ rest) in
    let q : Path = Some (next ∷ others) in
    let names : Tests = is_over_names t p q ∷ has_no_space w needed ∷ [] in
    let kinds : Tests = is_over_directory t p q ∷ is_over_file t p q ∷ names in
    let tests : Tests = is_missing t p ∷ is_into_itself t p q ∷ kinds in
    let ways = walks_off (walk t 1 (first ∷ rest)) (walk t 1 (next ∷ others)) tests (writing_off w cpu (is_bad_name p ∷ replace_rest w t p q needed) none) in
    let missing = off (is_missing t p) (is_into_itself t p q ∷ kinds) ways.4 in
    let led = some_there (found t (first ∷ rest)) missing.0 in
    let into = off (is_into_itself t p q) kinds missing.1 in
    let over_directory = off (is_over_directory t p q) (is_over_file t p q ∷ names) into.1 in
    let over_file = off (is_over_file t p q) names over_directory.1 in
    let over_names = off (is_over_names t p q) (has_no_space w needed ∷ []) over_file.1 in
    record {
      first = first;
      rest = rest;
      from_is = refl;
      from = ways.0;
      inode = led.0;
      stands = stands t first rest ways.0 led.0 ways.2 led.1;
      next = next;
      others = others;
      to_is = refl;
      to = ways.1;
      way = ways.3;
      past = on_found (found t (first ∷ rest)) led.0 (λ i. is_directory_at t i && passes t (Some (next ∷ others)) i) led.1 into.0;
      few = over_names.0;
    }

-- What `replace` makes of a tree.
use Rattle.std.proofs.Common.{◌≡◌, ◌≢◌, ℕ, ◌-◌, ◌<◌, ◌≤◌, Bool, true, false, not, nat_le, nat_lt, ◌&&◌, cond, eqb, is_some, List, [], ◌∷◌, ◌++◌, Option, Some, None, Ok, refl, sym, ◌∙◌, ap, subst, inl, inr, arith}
use Rattle.std.specs.Option.{option_map, option_map_or}
use Rattle.std.proofs.lemmas.Bool.{eq-eqb, le-leb, ne_eqb}
use Rattle.std.proofs.lemmas.Bool.Decides.{leb_tells}
use Rattle.nv_tree.specs.declared.refusal.Refusal.{Refusal}
use Rattle.nv_tree.specs.declared.refusal.Refusal.TheVariants.{NotDirectory, IsDirectory, NotEmpty, ReadOnly, BadCpu}
use Rattle.nv_tree.specs.Path.{last_name}
use Rattle.nv_tree.specs.Tree.{Node, Tree, SameTree, in_use, name_in, walk, found}
use Rattle.nv_tree.specs.Calls.{put_node, edit, with_name, without_name, with_links, on_some, on_ok, links_at, released, unlinked, removed, renamed}
use Rattle.nv_tree.specs.Refusals.{Tests, Path, World, count_at, first_refusal, has_no_space, is_bad_name, is_directory_at, is_into_itself, is_missing, is_there, rename_tests, target, walk_tests}
use Rattle.nv_tree.specs.Laws.{HasNoNames, SetsName}
use Rattle.nv_tree.specs.Replace.{Replaces, are_one, at_directory, is_over_directory, is_over_file, is_over_names, replaced, replace_tests, vacated}
use Rattle.nv_tree.proofs.Alike.{count_alike, directory_alike, mapped}
use Rattle.nv_tree.proofs.Cuts.{CutsName, cut_found, cut_walk, last_stood, named_differs}
use Rattle.nv_tree.proofs.Effects.{removed_names, renamed_names, unlinked_names}
use Rattle.nv_tree.proofs.Kept.{removed_kept, renamed_kept, unlinked_kept}
use Rattle.nv_tree.proofs.Leads.{GrowsName, StaysInUse, edit_stays, path_grows, walk_ends}
use Rattle.nv_tree.proofs.Named.{edit_leaves, name_cut, name_set}
use Rattle.nv_tree.proofs.Tested.{and_test, and_tests, behind, into_itself_alike, missing_alike, target_alike, test, walks_alike}

-- ---- where the new path leads nowhere, or to the same inode

no_number : {A : Type 0} (f : ℕ → A) (d : A) (o : Option ℕ) → option_map_or (λ (i : ℕ). d) o d ≡ d
no_number f d None = refl
no_number f d (Some i) = refl

vacant : (t : Tree) (new : List (List ℕ)) (time : ℕ) → found t new ≡ None → vacated new time t ≡ t
vacant t new time none =
    let away : removed new time t ≡ t = ap (λ o. on_some o (λ i. on_ok (walk t 1 new) (λ d. edit d (without_name (last_name new) time) (put_node i None t)) t) t) none in
    let less : unlinked new time t ≡ t = ap (λ o. on_some o (λ i. on_ok (walk t 1 new) (λ d. edit d (without_name (last_name new) time) (released i time t)) t) t) none in
    ap (λ (b : Bool). cond b (removed new time t) (unlinked new time t)) (ap (λ o. option_map_or (is_directory_at t) o false) none) ∙ less

no_one : (t : Tree) (p : Path) (new : List (List ℕ)) → found t new ≡ None → are_one t p (Some new) ≡ false
no_one t p new none = ap (λ o. option_map_or (λ i. option_map_or (eqb i) o false) (target t p) false) none ∙ no_number (λ (i : ℕ). false) false (target t p)

pub replaced_unused : (t : Tree) (old new : List (List ℕ)) (time : ℕ) → found t new ≡ None → replaced old new time t ≡ renamed old new time t
replaced_unused t old new time none =
    ap (λ (b : Bool). cond b t (renamed old new time (vacated new time t))) (no_one t (Some old) new none) ∙ ap (renamed old new time) (vacant t new time none)

pub replaced_one : (t : Tree) (old new : List (List ℕ)) (i time : ℕ) → found t old ≡ Some i → found t new ≡ Some i → replaced old new time t ≡ t
replaced_one t old new i time from to =
    let first = ap (λ o. option_map_or (λ k. option_map_or (eqb k) (found t new) false) o false) from in
    let second = ap (λ o. option_map_or (eqb i) o false) to in
    ap (λ (b : Bool). cond b t (renamed old new time (vacated new time t))) (first ∙ second ∙ eq-eqb i i refl)

-- ---- the tests of both, where the new path leads nowhere

and_off : (b c : Bool) → c ≡ false → b && c ≡ false
and_off true c off = off
and_off false c off = refl

front_same : (xs ys zs : Tests) → first_refusal ys ≡ first_refusal zs → first_refusal (xs ++ ys) ≡ first_refusal (xs ++ zs)
front_same [] ys zs same = same
front_same (x ∷ xs) ys zs same = ap (λ (o : Option Refusal). cond x.0 (Some x.1) o) (front_same xs ys zs same)

one_same : (x : Bool × Refusal) (ys zs : Tests) → first_refusal ys ≡ first_refusal zs → first_refusal (x ∷ ys) ≡ first_refusal (x ∷ zs)
one_same x ys zs same = ap (λ (o : Option Refusal). cond x.0 (Some x.1) o) same

passes_by : (x : Bool × Refusal) (ys : Tests) → x.0 ≡ false → first_refusal (x ∷ ys) ≡ first_refusal ys
passes_by x ys off = ap (λ (b : Bool). cond b (Some x.1) (first_refusal ys)) off

same_fronts : (a b c d : Bool × Refusal) (xs : Tests) (m k : Bool × Refusal) (ys zs : Tests) → first_refusal ys ≡ first_refusal zs → first_refusal (a ∷ b ∷ c ∷ d ∷ xs ++ m ∷ k ∷ ys) ≡ first_refusal (a ∷ b ∷ c ∷ d ∷ xs ++ m ∷ k ∷ zs)
same_fronts a b c d xs m k ys zs same =
    let inner : first_refusal (xs ++ m ∷ k ∷ ys) ≡ first_refusal (xs ++ m ∷ k ∷ zs) = front_same xs (m ∷ k ∷ ys) (m ∷ k ∷ zs) (one_same m (k ∷ ys) (k ∷ zs) (one_same k ys zs same)) in
    one_same a (b ∷ c ∷ d ∷ xs ++ m ∷ k ∷ ys) (b ∷ c ∷ d ∷ xs ++ m ∷ k ∷ zs)
    (one_same b (c ∷ d ∷ xs ++ m ∷ k ∷ ys) (c ∷ d ∷ xs ++ m ∷ k ∷ zs)
    (one_same c (d ∷ xs ++ m ∷ k ∷ ys) (d ∷ xs ++ m ∷ k ∷ zs)
    (one_same d (xs ++ m ∷ k ∷ ys) (xs ++ m ∷ k ∷ zs) inner)))

pub refused_as_rename : (w : World) (t : Tree) (cpu : ℕ) (p : Path) (new : List (List ℕ)) (needed : ℕ) → found t new ≡ None
    → first_refusal (replace_tests w t cpu p (Some new) needed) ≡ first_refusal (rename_tests w t cpu p (Some new) needed)
refused_as_rename w t cpu p new needed none =
    same_fronts (not (nat_lt cpu w.cpus), BadCpu) (w.read_only, ReadOnly) (is_bad_name p) (is_bad_name (Some new)) (walk_tests t p ++ walk_tests t (Some new)) (is_missing t p) (is_into_itself t p (Some new))
    (is_over_directory t p (Some new) ∷ is_over_file t p (Some new) ∷ is_over_names t p (Some new) ∷ has_no_space w needed ∷ []) (is_there t (Some new) ∷ has_no_space w needed ∷ []) behind_all
  where
    at_none : {A : Type 0} (f : ℕ → A) (d : A) → option_map_or f (found t new) d ≡ d
    at_none f d = ap (λ o. option_map_or f o d) none

    behind_all : first_refusal (is_over_directory t p (Some new) ∷ is_over_file t p (Some new) ∷ is_over_names t p (Some new) ∷ has_no_space w needed ∷ []) ≡ first_refusal (is_there t (Some new) ∷ has_no_space w needed ∷ [])
    behind_all =
        passes_by (is_over_directory t p (Some new)) (is_over_file t p (Some new) ∷ is_over_names t p (Some new) ∷ has_no_space w needed ∷ []) (and_off (not (at_directory t p)) (at_directory t (Some new)) (at_none (is_directory_at t) false))
        ∙ passes_by (is_over_file t p (Some new)) (is_over_names t p (Some new) ∷ has_no_space w needed ∷ []) (and_off (at_directory t p) (is_some (found t new) && not (at_directory t (Some new))) (ap (λ (o : Option ℕ). is_some o && not (at_directory t (Some new))) none))
        ∙ passes_by (is_over_names t p (Some new)) (has_no_space w needed ∷ []) (and_off (not (are_one t p (Some new))) (option_map_or (λ i. nat_lt 0 (count_at t i)) (found t new) false) (at_none (λ i. nat_lt 0 (count_at t i)) false))
        ∙ sym (passes_by (is_there t (Some new)) (has_no_space w needed ∷ []) (ap is_some none))

-- ---- trees that nobody can tell apart

module _ (t u : Tree) (same : SameTree t u) where
  one_alike : (p q : Path) → are_one t p q ≡ are_one u p q
  one_alike p q = mapped (λ i. option_map_or (eqb i) (target t q) false) (λ i. option_map_or (eqb i) (target u q) false) false (λ i. ap (λ o. option_map_or (eqb i) o false) (target_alike t u same q)) (target t p) (target u p) (target_alike t u same p)

  at_alike : (p : Path) → at_directory t p ≡ at_directory u p
  at_alike p = mapped (is_directory_at t) (is_directory_at u) false (directory_alike t u same) (target t p) (target u p) (target_alike t u same p)

  vacated_kept : (new : List (List ℕ)) (time : ℕ) → SameTree (vacated new time t) (vacated new time u)
  vacated_kept new time = subst (λ b. SameTree (vacated new time t) (cond b (removed new time u) (unlinked new time u))) (at_alike (Some new)) (by (at_directory t (Some new)))
    where
      by : (b : Bool) → SameTree (cond b (removed new time t) (unlinked new time t)) (cond b (removed new time u) (unlinked new time u))
      by true = removed_kept new time t u same
      by false = unlinked_kept new time t u same

  pub replaced_kept : (old new : List (List ℕ)) (time : ℕ) → SameTree (replaced old new time t) (replaced old new time u)
  replaced_kept old new time = subst (λ b. SameTree (replaced old new time t) (cond b u (renamed old new time (vacated new time u)))) (one_alike (Some old) (Some new)) (by (are_one t (Some old) (Some new)))
    where
      by : (b : Bool) → SameTree (cond b t (renamed old new time (vacated new time t))) (cond b u (renamed old new time (vacated new time u)))
      by true = same
      by false = renamed_kept old new time (vacated new time t) (vacated new time u) (vacated_kept new time)

  over_directory_alike : (p q : Path) → is_over_directory t p q ≡ is_over_directory u p q
  over_directory_alike p q = ap (λ b. test IsDirectory (not b && at_directory t q)) (at_alike p) ∙ ap (λ b. test IsDirectory (not (at_directory u p) && b)) (at_alike q)

  over_file_alike : (p q : Path) → is_over_file t p q ≡ is_over_file u p q
  over_file_alike p q =
      ap (λ b. test NotDirectory (b && (is_some (target t q) && not (at_directory t q)))) (at_alike p)
      ∙ ap (λ (o : Option ℕ). test NotDirectory (at_directory u p && (is_some o && not (at_directory t q)))) (target_alike t u same q)
      ∙ ap (λ b. test NotDirectory (at_directory u p && (is_some (target u q) && not b))) (at_alike q)

  over_names_alike : (p q : Path) → is_over_names t p q ≡ is_over_names u p q
  over_names_alike p q =
      ap (λ b. test NotEmpty (not b && option_map_or (λ i. nat_lt 0 (count_at t i)) (target t q) false)) (one_alike p q)
      ∙ ap (λ b. test NotEmpty (not (are_one u p q) && b)) (mapped (λ i. nat_lt 0 (count_at t i)) (λ i. nat_lt 0 (count_at u i)) false (λ i. ap (nat_lt 0) (count_alike t u same i)) (target t q) (target u q) (target_alike t u same q))

  pub replace_alike : (w : World) (cpu : ℕ) (p q : Path) (needed : ℕ) → replace_tests w t cpu p q needed ≡ replace_tests w u cpu p q needed
  replace_alike w cpu p q needed = behind w cpu (and_test refl (and_test refl (and_tests (and_tests (walks_alike t u same p) (walks_alike t u same q))
      (and_test (missing_alike t u same p) (and_test (into_itself_alike t u same p q) (and_test (over_directory_alike p q) (and_test (over_file_alike p q) (and_test (over_names_alike p q) refl))))))))

-- ---- another inode's place

more_than_one : (n : ℕ) → 1 < n → nat_le n 1 ≡ false
more_than_one n more = elim (leb_tells n 1) [ inl low ↦ absurd (let few = low.1 in omega (arith, few, more)) | inr high ↦ high.0 ]

-- an inode beside the one that is edited
off_edit : (t : Tree) (k : ℕ) (f : Node → Node) (j : ℕ) → j ≢ k → edit k f t j ≡ t j
off_edit t k f j ne = ap (λ b. cond b (option_map f (t k)) (t j)) (ne_eqb j k ne)

module _ {t : Tree} {i j d e : ℕ} {first : List ℕ} {old : List (List ℕ)} {name : List ℕ} {new : List (List ℕ)} (time : ℕ) (r : Replaces t (first ∷ old) (name ∷ new) i j d e) where
  abbrev from_path : List (List ℕ)
  from_path = first ∷ old

  abbrev to_path : List (List ℕ)
  to_path = name ∷ new

  abbrev old_name : List ℕ
  old_name = last_name (first ∷ old)

  abbrev new_name : List ℕ
  new_name = last_name (name ∷ new)

  -- the tree before a name of e is cut
  before : Bool → Tree
  before b = cond b (put_node j None t) (released j time t)

  gone : Tree
  gone = edit e (without_name new_name time) (before (is_directory_at t j))

  without : Tree
  without = edit d (without_name old_name time) gone

  after : Tree
  after = edit e (with_name new_name i time) without

  vacated_is : vacated to_path time t ≡ gone
  unfolding gone before
  vacated_is =
      let away : removed to_path time t ≡ edit e (without_name new_name time) (put_node j None t) =
      ap (λ o. on_some o (λ k. on_ok (walk t 1 to_path) (λ c. edit c (without_name new_name time) (put_node k None t)) t) t) r.there
      ∙ ap (λ x. on_ok x (λ c. edit c (without_name new_name time) (put_node j None t)) t) r.way in
      let less : unlinked to_path time t ≡ edit e (without_name new_name time) (released j time t) =
      ap (λ o. on_some o (λ k. on_ok (walk t 1 to_path) (λ c. edit c (without_name new_name time) (released k time t)) t) t) r.there
      ∙ ap (λ x. on_ok x (λ c. edit c (without_name new_name time) (released j time t)) t) r.way in
      ap (λ o. cond (option_map_or (is_directory_at t) o false) (removed to_path time t) (unlinked to_path time t)) r.there ∙ chosen away less (is_directory_at t j)
    where
      chosen : removed to_path time t ≡ edit e (without_name new_name time) (put_node j None t) → unlinked to_path time t ≡ edit e (without_name new_name time) (released j time t) → (b : Bool)
          → cond b (removed to_path time t) (unlinked to_path time t) ≡ edit e (without_name new_name time) (cond b (put_node j None t) (released j time t))
      chosen away less true = away
      chosen away less false = less

  -- what the paths' last names stood for
  old_stood : name_in t d old_name ≡ Some i
  old_stood = (last_stood t first old d i r.from r.moved).1

  new_stood : name_in t e new_name ≡ Some j
  new_stood = (last_stood t name new e j r.way r.there).1

  d_differs : d ≢ j
  d_differs = named_differs t j d i old_name r.bare old_stood

  e_differs : e ≢ j
  e_differs = named_differs t j e j new_name r.bare new_stood

  gone_sets : SetsName t e new_name None gone
  gone_sets = subst (λ (u : Tree). SetsName t e new_name None u) vacated_is (by (at_directory t (Some to_path)))
    where
      by : (b : Bool) → SetsName t e new_name None (cond b (removed to_path time t) (unlinked to_path time t))
      by true = removed_names t j e to_path time r.there r.way r.bare
      by false = unlinked_names t j e to_path time r.there r.way r.bare

  released_at : (k : ℕ) → k ≢ j → released j time t k ≡ t k
  released_at k ne = by (nat_le (links_at t j) 1)
    where
      by : (b : Bool) → cond b (put_node j None t) (edit j (with_links (links_at t j - 1) time) t) k ≡ t k
      by true = ap (λ b. cond b None (t k)) (ne_eqb k j ne)
      by false = off_edit t j (with_links (links_at t j - 1) time) k ne

  before_at : (b : Bool) (k : ℕ) → k ≢ j → before b k ≡ t k
  unfolding before
  before_at true k ne = ap (λ b. cond b None (t k)) (ne_eqb k j ne)
  before_at false k ne = released_at k ne

  gone_kept : (k : ℕ) (a : Node) → k ≢ j → t k ≡ Some a → (b : Node) × (gone k ≡ Some b) × (a.kind ≡ b.kind)
  unfolding gone
  gone_kept k a ne used = (edit_stays (before (is_directory_at t j)) e (without_name new_name time) (λ c. refl)).stays k a (before_at (is_directory_at t j) k ne ∙ used)

  gone_cuts : CutsName t e new_name j gone
  gone_cuts = record { stood = new_stood; bare = r.bare; cuts = gone_sets; kept = gone_kept }

  -- where the paths lead once the new name is gone
  gone_from : walk gone 1 from_path ≡ Ok d
  gone_from = cut_walk t e new_name j gone gone_cuts 1 from_path d d_differs r.from

  gone_way : walk gone 1 to_path ≡ Ok e
  gone_way = cut_walk t e new_name j gone gone_cuts 1 to_path e e_differs r.way

  gone_moved : found gone from_path ≡ Some i
  gone_moved = cut_found t e new_name j gone gone_cuts first old d i r.differ r.from r.moved

  not_one : are_one t (Some from_path) (Some to_path) ≡ false
  not_one =
      ap (λ o. option_map_or (λ k. option_map_or (eqb k) (found t to_path) false) o false) r.moved
      ∙ ap (λ o. option_map_or (eqb i) o false) r.there ∙ ne_eqb i j r.differ

  replaced_renamed : replaced from_path to_path time t ≡ renamed from_path to_path time gone
  replaced_renamed = ap (λ (b : Bool). cond b t (renamed from_path to_path time (vacated to_path time t))) not_one ∙ ap (renamed from_path to_path time) vacated_is

  pub replaced_names : (gone : Tree) × (without : Tree) × SetsName t e new_name None gone × SetsName gone d old_name None without × SetsName without e new_name (Some i) (replaced from_path to_path time t)
  replaced_names =
      let x = renamed_names gone from_path i d e name new time gone_moved gone_from gone_way in
      (gone, x.0, gone_sets, x.1, subst (λ (u : Tree). SetsName x.0 e new_name (Some i) u) (sym replaced_renamed) x.2)

  replaced_is : replaced from_path to_path time t ≡ after
  unfolding after without
  replaced_is =
      let cut : ℕ → Tree = λ k. edit k (without_name old_name time) gone in
      let made : ℕ → ℕ → ℕ → Tree = λ m k l. edit l (with_name new_name m time) (cut k) in
      replaced_renamed
      ∙ ap (λ o. on_some o (λ m. on_ok (walk gone 1 from_path) (λ k. on_ok (walk gone 1 to_path) (made m k) gone) gone) gone) gone_moved
      ∙ ap (λ x. on_ok x (λ k. on_ok (walk gone 1 to_path) (made i k) gone) gone) gone_from
      ∙ ap (λ x. on_ok x (made i d) gone) gone_way

  -- an inode beside the one that was there shows what names and times don't change
  pub beside : {A : Type 0} (p : Node → A) → ((q : List ℕ) (m stamp : ℕ) (a : Node) → p (with_name q m stamp a) ≡ p a) → ((q : List ℕ) (stamp : ℕ) (a : Node) → p (without_name q stamp a) ≡ p a)
      → (k : ℕ) → k ≢ j → option_map p (replaced from_path to_path time t k) ≡ option_map p (t k)
  unfolding after without gone
  beside p more less k ne =
      ap (λ (u : Tree). option_map p (u k)) replaced_is
      ∙ edit_leaves p without e (with_name new_name i time) (more new_name i time) k
      ∙ edit_leaves p gone d (without_name old_name time) (less old_name time) k
      ∙ edit_leaves p (before (is_directory_at t j)) e (without_name new_name time) (less new_name time) k
      ∙ ap (option_map p) (before_at (is_directory_at t j) k ne)

  -- ---- the inode that was there

  after_there : after j ≡ before (is_directory_at t j) j
  unfolding after without gone
  after_there =
      off_edit without e (with_name new_name i time) j (λ at. e_differs (sym at))
      ∙ off_edit gone d (without_name old_name time) j (λ at. d_differs (sym at))
      ∙ off_edit (before (is_directory_at t j)) e (without_name new_name time) j (λ at. e_differs (sym at))

  put_away : put_node j None t j ≡ None
  put_away = ap (λ b. cond b None (t j)) (eq-eqb j j refl)

  pub directory_gone : is_directory_at t j ≡ true → replaced from_path to_path time t j ≡ None
  unfolding before
  directory_gone is = ap (λ (u : Tree). u j) replaced_is ∙ after_there ∙ ap (λ b. cond b (put_node j None t) (released j time t) j) is ∙ put_away

  file_released : is_directory_at t j ≡ false → replaced from_path to_path time t j ≡ released j time t j
  unfolding before
  file_released is = ap (λ (u : Tree). u j) replaced_is ∙ after_there ∙ ap (λ b. cond b (put_node j None t) (released j time t) j) is

  pub last_gone : is_directory_at t j ≡ false → links_at t j ≤ 1 → replaced from_path to_path time t j ≡ None
  last_gone is few = file_released is ∙ ap (λ b. cond b (put_node j None t) (edit j (with_links (links_at t j - 1) time) t) j) (le-leb (links_at t j) 1 few) ∙ put_away

  pub more_left : (node : Node) → is_directory_at t j ≡ false → t j ≡ Some node → 1 < node.links → replaced from_path to_path time t j ≡ Some (with_links (node.links - 1) time node)
  more_left node is there more =
      let count : links_at t j ≡ node.links = ap (λ o. option_map_or (λ (n : Node). n.links) o 0) there in
      file_released is
      ∙ ap (λ b. cond b (put_node j None t) (edit j (with_links (links_at t j - 1) time) t) j) (more_than_one (links_at t j) (subst (λ n. 1 < n) (sym count) more))
      ∙ ap (λ b. cond b (option_map (with_links (links_at t j - 1) time) (t j)) (t j)) (eq-eqb j j refl)
      ∙ ap (option_map (with_links (links_at t j - 1) time)) there
      ∙ ap (λ n. Some (with_links (n - 1) time node)) count

  -- ---- the new path

  module _ (bare : HasNoNames t i) where
    gone_bare : HasNoNames gone i
    gone_bare q = gone_sets.others i q (λ at key. named_differs t i e j new_name bare new_stood (sym at)) ∙ bare q

    old_still : name_in gone d old_name ≡ Some i
    old_still = gone_sets.others d old_name (λ at key. other at key) ∙ old_stood
      where
        other : d ≡ e → old_name ≡ new_name → ⊥
        other at key =
            let was : name_in t d old_name ≡ Some j = ap (λ k. name_in t k old_name) at ∙ ap (λ q. name_in t e q) key ∙ new_stood in
            let is = old_stood in
            let same : i ≡ j = cc in
            r.differ same

    -- the tree without the old name, and then with the new one
    stays : StaysInUse gone without
    unfolding without
    stays = edit_stays gone d (without_name old_name time) (λ c. refl)

    grows_use : StaysInUse without after
    unfolding after
    grows_use = edit_stays without e (with_name new_name i time) (λ c. refl)

    old_cut : SetsName gone d old_name None without
    unfolding without
    old_cut = name_cut gone d old_name time

    without_cuts : CutsName gone d old_name i without
    without_cuts = record { stood = old_still; bare = gone_bare; cuts = old_cut; kept = λ k a ne used. stays.stays k a used }

    without_way : walk without 1 to_path ≡ Ok e
    without_way = cut_walk gone d old_name i without without_cuts 1 to_path e (named_differs t i e j new_name bare new_stood) gone_way

    unnamed : name_in without e new_name ≡ None
    unnamed = old_cut.others e new_name (λ at key. other at key) ∙ gone_sets.here
      where
        other : e ≡ d → new_name ≡ old_name → ⊥
        other at key =
            let was : name_in gone e new_name ≡ Some i = ap (λ k. name_in gone k new_name) at ∙ ap (λ q. name_in gone d q) key ∙ old_still in
            let none = gone_sets.here in
            absurd (cc)

    named : SetsName without e new_name (Some i) after
    unfolding after
    named = let a = walk_ends without 1 name new e without_way in name_set without e a.0 new_name i time a.1

    grows : GrowsName without e new_name i after
    grows = record { sets = named; kept = grows_use; free = ap (in_use without) unnamed }

    pub replaced_found : found (replaced from_path to_path time t) to_path ≡ Some i
    replaced_found =
        let a = last_stood t first old d i r.from r.moved in
        let b = gone_kept i a.0 r.differ a.2 in
        let c = stays.stays i b.0 b.1 in
        let x = grows_use.stays i c.0 c.1 in
        ap (λ (u : Tree). found u to_path) replaced_is ∙ path_grows without e i after name new grows x.0 x.1 without_way

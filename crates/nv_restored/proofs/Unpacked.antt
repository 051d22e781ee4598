-- What all steps for the members of an archive make: the same tree but for numbers.
use Rattle.std.proofs.Common.{◌≡◌, ℕ, zero, suc, ◌+◌, ◌<◌, ◌≤◌, ◌⊎◌, Bool, true, false, nat_lt, ◌==◌, ◌&&◌, cond, List, [], ◌∷◌, ◌++◌, length, map, codes, Option, Some, None, refl, sym, ◌∙◌, ap, subst, inl, inr, arith}
use Rattle.std.specs.List.{filter, slice_get}
use Rattle.std.specs.Option.{option_map_or}
use Rattle.std.proofs.lemmas.Bool.{cases_lt, eqb-true}
use Rattle.std.proofs.lemmas.Bool.Decides.{eqb_tells}
use Rattle.std.proofs.lemmas.List.Elements.{All-nil}
use Rattle.nv_super.specs.declared.superblock.Super.{Super}
use Rattle.nv_super.specs.declared.kind.Kind.{Kind}
use Rattle.nv_super.specs.declared.kind.Kind.TheVariants as kinds
use Rattle.nv_tree.specs.Path.{IsPathName, path_text, spelled}
use Rattle.nv_tree.specs.Tree.{Node, Tree, SameTree}
use Rattle.nv_tree.specs.Calls.{attributed}
use Rattle.nv_tree.proofs.Leads.{in_use_at}
use Rattle.nv_tree.proofs.Same.{same_symmetric, same_transitive}
use Rattle.nv_tree.proofs.Texts.{root_path}
use Rattle.nv_restored.specs.Restored.{IsRestored}
use Rattle.nv_restored.specs.Orderly.{IsEmpty, IsOrderly}
use Rattle.nv_restored.specs.Numbers.{HasNumbersFor}
use Rattle.nv_members.specs.Members.{AreMembers}
use Rattle.nv_members.specs.declared.member.Member.{Member}
use Rattle.nv_untar.specs.declared.item.Item.{Item as ItemValue}
use Rattle.nv_untar.specs.Items.{Item, item_of}
use Rattle.nv_unpack.specs.Steps.{is_directory_item, is_directory_kind, item_in}
use Rattle.nv_history.specs.Said.{Said, SetAttributes}
use Rattle.nv_unpack.specs.Places.{place}
use Rattle.nv_unpack.specs.declared.maker.Maker.{Maker}
use Rattle.nv_unpack.specs.Calls.{IsDirectoryAt, MakesDirectory, attributes_call}
use Rattle.nv_unpack.specs.Ways.{ends_above}
use Rattle.nv_unpack.specs.Making.{AreSteps, IsStep, none, more}
use Rattle.nv_tar.specs.Archive.{ArePaths}
use Rattle.nv_roundtrip.specs.Archives.{item_at, item_kind, items_from, items_of, one_item}
use Rattle.nv_restored.proofs.Contents.{IsFilled, filled_stable}
use Rattle.nv_restored.proofs.Stages.{IsStage, one_node, root_place}
use Rattle.nv_restored.proofs.Making.{stage_alike}
use Rattle.nv_restored.proofs.Ways.{IsTextOf, way_at}
use Rattle.nv_restored.proofs.Attributes.{IsSet, directory_set, file_passed, none_set}
use Rattle.nv_restored.proofs.Begins.{first_stage, first_table}
use Rattle.nv_restored.proofs.Same.{all_reached, all_within, path_of_names, same_by_paths}
use Rattle.nv_restored.proofs.Texts.{directory_place}
use Rattle.nv_restored.proofs.Saids.{AreSaid, by_names, more_said, no_way, none_said}
use Rattle.nv_restored.proofs.Items.{CallsFor, MakesItem, directory_step, file_step, item_for, link_step, text, texts}

-- ---- lists

first_item : (x y : Item) (xs ys : List Item) → x ∷ xs ≡ y ∷ ys → x ≡ y
first_item x y xs ys h = cc

other_items : (x y : Item) (xs ys : List Item) → x ∷ xs ≡ y ∷ ys → xs ≡ ys
other_items x y xs ys h = cc

-- the values of a front of items
record IsValue (values : List ItemValue) (item : Item) (items : List Item) : Type 0 where
  value : ItemValue
  others : List ItemValue
  whole : values ≡ value ∷ others
  is : item_of value ≡ item
  are : map item_of others ≡ items

value_of : (values : List ItemValue) (item : Item) (items : List Item) → map item_of values ≡ item ∷ items → IsValue values item items
value_of [] item items h = absurd (cc)
value_of (value ∷ values) item items h = record { value = value; others = values; whole = refl; is = first_item (item_of value) item (map item_of values) items h; are = other_items (item_of value) item (map item_of values) items h }

no_values : (values : List ItemValue) → map item_of values ≡ [] → values ≡ []
no_values [] h = refl
no_values (value ∷ values) h = absurd (cc)

first_member : (members : List Member) (m : Member) → slice_get members 0 ≡ Some m → (ms : List Member) × (members ≡ m ∷ ms)
first_member [] m h = absurd (cc)
first_member (x ∷ ms) m h = let same : x ≡ m = cc in (ms, ap (λ (y : Member). y ∷ ms) same)

inside : (members : List Member) (k : ℕ) (m : Member) → slice_get members k ≡ Some m → k < length members
inside [] k m h = absurd (cc)
inside (x ∷ members) zero m h = omega arith
inside (x ∷ members) (suc k) m h = let below = inside members k m h in omega (arith, below)

-- ---- steps

-- what a function takes
abbrev Taken : {A B : Type 0} → (A → B) → Type 0
Taken {A} f = A

-- a step
abbrev pub Step : Type 0
Step = Taken item_in

one_step : (sup : Super) (base : List ℕ) (maker : Maker) (step : Step) (steps : List Step) (v u : Tree) → AreSteps sup base maker (step ∷ steps) v u → (w : Tree) × IsStep sup base maker step v w × AreSteps sup base maker steps w u
one_step sup base maker step steps v u (more x xs t w y is rest) = (w, is, rest)

no_steps : (sup : Super) (base : List ℕ) (maker : Maker) (v u : Tree) → AreSteps sup base maker [] v u → v ≡ u
no_steps sup base maker v u (none t) = refl

ends_nowhere : (k : ℕ) → ends_above (47 ∷ []) k ≡ true → ⊥
ends_nowhere zero h = absurd (cc)
ends_nowhere (suc k) h = by (nat_lt 0 (suc k)) h
  where
    by : (x : Bool) → (x && false) ≡ true → ⊥
    by true is = cc
    by false is = cc

-- a step that makes an item
abbrev pub IsMakeStep : Super → Maker → ItemValue → Tree → Tree → Type 0
IsMakeStep sup maker value v w = MakesItem sup maker (place (codes "/") (item_of value).path) (place (codes "/") (item_of value).link) (item_of value) v w

-- a step that sets the attributes of one
pub record IsSetStep (sup : Super) (value : ItemValue) (v w : Tree) : Type 0 where
  pub cpu : ℕ
  pub all : List Said
  pub are : all ≡ attributes_call cpu (place (codes "/") (item_of value).path) (item_of value) ∷ []
  pub made : AreSaid sup all v w

kind_differs : kinds.File ≡ kinds.Directory → ⊥
kind_differs h = cc

module _ (t : Tree) (members : List Member) (are : AreMembers t 1 false members) (orderly : IsOrderly t) (lost : List ℕ) (paths : List (List ℕ)) (are_paths : ArePaths (codes ".") lost members paths) where
  -- its step makes this of a member
  abbrev IsFor : ℕ → Member → Node → Super → Maker → Tree → Tree → Type 0
  IsFor k m a sup maker v w = CallsFor t members are orderly lost paths are_paths sup maker m.kind (m.first == k) k m a v w

  for_member : (sup : Super) (maker : Maker) (k : ℕ) (m : Member) (a : Node) (value : ItemValue) (v w : Tree) → item_of value ≡ item_at paths k m a → IsMakeStep sup maker value v w → IsFor k m a sup maker v w
  for_member sup maker k m a value v w is step = subst (λ (x : Item). MakesItem sup maker (place (codes "/") x.path) (place (codes "/") x.link) x v w) is step

  -- ---- the root

  root_stays : (sup : Super) (maker : Maker) (m : Member) (a : Node) (v w : Tree) → IsEmpty v → slice_get members 0 ≡ Some m → m.parent ≡ None → m.kind ≡ kinds.Directory → IsFor 0 m a sup maker v w → SameTree w v
  root_stays sup maker m a v w empty at no_parent kind f =
      let calls : CallsFor t members are orderly lost paths are_paths sup maker kinds.Directory (m.first == 0) 0 m a v w = subst (λ (x : Kind). CallsFor t members are orderly lost paths are_paths sup maker x (m.first == 0) 0 m a v w) kind f in
      let says : slice_text ≡ 46 ∷ [] = subst (λ (o : Option ℕ). IsTextOf (text t members are orderly lost paths are_paths) 0 o m) no_parent (texts t members are orderly lost paths are_paths 0 m at) in
      let there : place (codes "/") (slice_text ++ codes "/") ≡ 47 ∷ [] = ap (λ (x : List ℕ). place (codes "/") (x ++ codes "/")) says ∙ directory_place [] (All-nil IsPathName) in
      let here : MakesItem sup maker (47 ∷ []) (place (codes "/") []) (item_for t members are orderly lost paths are_paths kinds.Directory (m.first == 0) 0 m a) v w =
      subst (λ (x : List ℕ). MakesItem sup maker x (place (codes "/") []) (item_for t members are orderly lost paths are_paths kinds.Directory (m.first == 0) 0 m a) v w) there calls in
      let same = no_way sup maker a.time (47 ∷ []) v (λ k ends. absurd (ends_nowhere k ends)) 1 v here.tree refl here.leads in
      let now = subst (λ (x : Tree). (all : List Said) × MakesDirectory x here.cpu (47 ∷ []) (item_for t members are orderly lost paths are_paths kinds.Directory (m.first == 0) 0 m a) all × AreSaid sup all x w) same (here.all, here.makes, here.made) in
      none_said sup v w (subst (λ (x : List Said). AreSaid sup x v w) (own here.cpu now.0 now.1) now.2)
    where
      slice_text : List ℕ
      slice_text = text t members are orderly lost paths are_paths 0

      root_there : IsDirectoryAt v (47 ∷ [])
      root_there = let r = empty.root in ([], 1, r.0, root_path (47 ∷ []) refl, record { leads = in_use_at v 1 r.0 r.1; shows = r.1 }, r.2)

      own : (cpu : ℕ) (these : List Said) → MakesDirectory v cpu (47 ∷ []) (item_for t members are orderly lost paths are_paths kinds.Directory (m.first == 0) 0 m a) these → these ≡ []
      own cpu these (inl is) = is.1
      own cpu these (inr is) = absurd (is.0 root_there)

  -- ---- the members behind it

  module _ (sup : Super) (maker : Maker) (room : HasNumbersFor sup maker (length members)) (make set : ItemValue → Step) (is_make : (value : ItemValue) (v w : Tree) → IsStep sup (codes "/") maker (make value) v w → IsMakeStep sup maker value v w) (is_set : (value : ItemValue) (v w : Tree) → IsStep sup (codes "/") maker (set value) v w → IsSetStep sup value v w) where
    member_made : (k : ℕ) (m : Member) (a : Node) (f : ℕ → Option ℕ) (v w : Tree) → 1 ≤ k → slice_get members k ≡ Some m → t m.inode ≡ Some a → IsStage t members (IsFilled t) k f v → IsFor k m a sup maker v w → (g : ℕ → Option ℕ) × IsStage t members (IsFilled t) (suc k) g w
    member_made k m a f v w behind at shows stage is = by m.parent refl
      where
        within : k < length members
        within = inside members k m at

        by_kind : (p : ℕ) → m.parent ≡ Some p → (kind : Kind) → m.kind ≡ kind → (first : Bool) → (m.first == k) ≡ first → CallsFor t members are orderly lost paths are_paths sup maker kind first k m a v w → (g : ℕ → Option ℕ) × IsStage t members (IsFilled t) (suc k) g w
        by_kind p hangs kinds.Directory kind first one calls = directory_step t members are orderly lost paths are_paths sup maker room k f v w stage m p at hangs within a shows first kind calls
        by_kind p hangs kinds.File kind true one calls = file_step t members are orderly lost paths are_paths sup maker room k f v w stage m p at hangs within a shows kind (eqb-true m.first k one) calls
        by_kind p hangs kinds.File kind false one calls = link_step t members are orderly lost paths are_paths sup maker room k f v w stage m p at hangs within a shows kind (earlier (eqb_tells m.first k)) calls
          where
            earlier : (((m.first == k) ≡ true) × (m.first ≡ k)) ⊎ (((m.first == k) ≡ false) × (m.first ≡ k → ⊥)) → m.first < k
            earlier (inl same) = let never : true ≡ false = sym same.0 ∙ one in absurd (cc)
            earlier (inr other) = let low = (are.each k m at).earlier in by_less (cases_lt m.first k)
              where
                by_less : (m.first < k) ⊎ (k ≤ m.first) → m.first < k
                by_less (inl less) = less
                by_less (inr past) = let low = (are.each k m at).earlier in absurd (other.1 (omega (arith, past, low)))

        by : (o : Option ℕ) → m.parent ≡ o → (g : ℕ → Option ℕ) × IsStage t members (IsFilled t) (suc k) g w
        by None none_is = let first = (root_place t members are orderly k m at none_is).0 in absurd (omega (arith, first, behind))
        by (Some p) hangs = by_kind p hangs m.kind refl (m.first == k) refl is

    -- a later stage, and the steps that are left
    record IsLater (count : ℕ) (rest : List Step) (u : Tree) : Type 0 where
      f : ℕ → Option ℕ
      v : Tree
      stage : IsStage t members (IsFilled t) count f v
      steps : AreSteps sup (codes "/") maker rest v u

    all_made : (ms : List Member) (values : List ItemValue) (k : ℕ) → 1 ≤ k → ((j q : ℕ) (m : Member) → q ≡ k + j → slice_get ms j ≡ Some m → slice_get members q ≡ Some m) → map item_of values ≡ items_from t paths k ms → (rest : List Step) (f : ℕ → Option ℕ) (v u : Tree)
        → IsStage t members (IsFilled t) k f v → AreSteps sup (codes "/") maker (map make values ++ rest) v u → IsLater (k + length ms) rest u
    all_made [] values k behind place_of are_items rest f v u stage steps =
        record {
          f = f;
          v = v;
          stage = subst (λ (n : ℕ). IsStage t members (IsFilled t) n f v) (omega arith) stage;
          steps = subst (λ (x : List ItemValue). AreSteps sup (codes "/") maker (map make x ++ rest) v u) (no_values values are_items) steps;
        }
    all_made (m ∷ ms) values k behind place_of are_items rest f v u stage steps =
        let at = place_of 0 k m (omega arith) refl in
        let shown = are.each k m at in
        let one : one_item t paths k m ≡ item_at paths k m shown.node ∷ [] = ap (λ (o : Option Node). option_map_or (λ (n : Node). item_at paths k m n ∷ []) o []) shown.shows in
        let x = value_of values (item_at paths k m shown.node) (items_from t paths (suc k) ms) (are_items ∙ ap (λ (l : List Item). l ++ items_from t paths (suc k) ms) one) in
        let first = one_step sup (codes "/") maker (make x.value) (map make x.others ++ rest) v u (subst (λ (xs : List ItemValue). AreSteps sup (codes "/") maker (map make xs ++ rest) v u) x.whole steps) in
        let made = member_made k m shown.node f v first.0 behind at shown.shows stage (for_member sup maker k m shown.node x.value v first.0 x.is (is_make x.value v first.0 first.1)) in
        let later = all_made ms x.others (suc k) (omega arith) (λ j q n is there. place_of (suc j) q n (omega (arith, is)) there) x.are rest made.0 first.0 u made.1 first.2 in
        record { f = later.f; v = later.v; stage = subst (λ (n : ℕ). IsStage t members (IsFilled t) n later.f later.v) (omega arith) later.stage; steps = later.steps }

    -- ---- the attributes of directories

    all_set : (ms : List Member) (values : List ItemValue) (k : ℕ) → ((j q : ℕ) (m : Member) → q ≡ k + j → slice_get ms j ≡ Some m → slice_get members q ≡ Some m) → map item_of values ≡ items_from t paths k ms → (f : ℕ → Option ℕ) (v u : Tree)
        → IsStage t members (IsSet t members k) (length members) f v → AreSteps sup (codes "/") maker (map set (filter is_directory_item values)) v u → IsStage t members (IsSet t members (k + length ms)) (length members) f u
    all_set [] values k place_of are_items f v u stage steps =
        let same = no_steps sup (codes "/") maker v u (subst (λ (x : List ItemValue). AreSteps sup (codes "/") maker (map set (filter is_directory_item x)) v u) (no_values values are_items) steps) in
        subst (λ (x : Tree). IsStage t members (IsSet t members (k + 0)) (length members) f x) same (subst (λ (n : ℕ). IsStage t members (IsSet t members n) (length members) f v) (omega arith) stage)
    all_set (m ∷ ms) values k place_of are_items f v u stage steps =
        let at = place_of 0 k m (omega arith) refl in
        let shown = are.each k m at in
        let one : one_item t paths k m ≡ item_at paths k m shown.node ∷ [] = ap (λ (o : Option Node). option_map_or (λ (n : Node). item_at paths k m n ∷ []) o []) shown.shows in
        let x = value_of values (item_at paths k m shown.node) (items_from t paths (suc k) ms) (are_items ∙ ap (λ (l : List Item). l ++ items_from t paths (suc k) ms) one) in
        let these = subst (λ (xs : List ItemValue). AreSteps sup (codes "/") maker (map set (filter is_directory_item xs)) v u) x.whole steps in
        let kind_is : x.value.kind ≡ item_kind m.kind (m.first == k) = ap (λ (i : Item). i.kind) x.is in
        subst (λ (n : ℕ). IsStage t members (IsSet t members n) (length members) f u) (omega arith)
        (by_kind k m shown.node x.value x.others v at shown.shows shown.kind x.is stage m.kind refl (m.first == k) kind_is these
        (λ w stage_now left. all_set ms x.others (suc k) (λ j q n is there. place_of (suc j) q n (omega (arith, is)) there) x.are f w u stage_now left))
      where
        by_kind : (k : ℕ) (m : Member) (a : Node) (value : ItemValue) (others : List ItemValue) (v : Tree) → slice_get members k ≡ Some m → t m.inode ≡ Some a → m.kind ≡ a.kind → item_of value ≡ item_at paths k m a → IsStage t members (IsSet t members k) (length members) f v
            → (kind : Kind) → m.kind ≡ kind → (first : Bool) → value.kind ≡ item_kind kind first → AreSteps sup (codes "/") maker (map set (filter is_directory_item (value ∷ others))) v u
            → ((w : Tree) → IsStage t members (IsSet t members (suc k)) (length members) f w → AreSteps sup (codes "/") maker (map set (filter is_directory_item others)) w u → IsStage t members (IsSet t members (suc k + length ms)) (length members) f u)
            → IsStage t members (IsSet t members (suc k + length ms)) (length members) f u
        by_kind k m a value others v at shows node_kind item_is stage kinds.File kind first value_kind steps go =
            let passes : is_directory_item value ≡ false = ap is_directory_kind value_kind ∙ by_first first in
            let left = subst (λ (b : Bool). AreSteps sup (codes "/") maker (map set (cond b (value ∷ filter is_directory_item others) (filter is_directory_item others))) v u) passes steps in
            go v (file_passed t members are orderly (text t members are orderly lost paths are_paths) (texts t members are orderly lost paths are_paths) (length members) f v k m at (λ d. kind_differs (sym kind ∙ d)) stage) left
          where
            by_first : (b : Bool) → is_directory_kind (item_kind kinds.File b) ≡ false
            by_first true = refl
            by_first false = refl
        by_kind k m a value others v at shows node_kind item_is stage kinds.Directory kind first value_kind steps go =
            let passes : is_directory_item value ≡ true = ap is_directory_kind value_kind in
            let left = subst (λ (b : Bool). AreSteps sup (codes "/") maker (map set (cond b (value ∷ filter is_directory_item others) (filter is_directory_item others))) v u) passes steps in
            let now = one_step sup (codes "/") maker (set value) (map set (filter is_directory_item others)) v u left in
            let below = inside members k m at in
            let w = way_at t members are orderly (text t members are orderly lost paths are_paths) (texts t members are orderly lost paths are_paths) (IsSet t members k) (length members) f v stage k m below at in
            let short : length (spelled w.names) ≤ 4096 = (let long = w.long in let fits = (are.each k m at).short in omega (arith, long, fits)) in
            let item : Item = item_for t members are orderly lost paths are_paths kinds.Directory (m.first == k) k m a in
            let item_now : item_of value ≡ item = item_is ∙ ap (λ (x : Kind). item_for t members are orderly lost paths are_paths x (m.first == k) k m a) kind in
            let there : place (codes "/") item.path ≡ path_text w.names = ap (λ (x : List ℕ). place (codes "/") (x ++ codes "/")) w.says ∙ directory_place w.names w.good in
            let step = is_set value v now.0 now.1 in
            let says : step.all ≡ SetAttributes step.cpu (path_text w.names) a.mode a.owner a.group a.time ∷ [] =
            step.are ∙ ap (λ (i : Item). SetAttributes step.cpu (place (codes "/") i.path) i.mode i.owner i.group i.time ∷ []) item_now ∙ ap (λ (p : List ℕ). SetAttributes step.cpu p a.mode a.owner a.group a.time ∷ []) there in
            let x = more_said sup (SetAttributes step.cpu (path_text w.names) a.mode a.owner a.group a.time) [] v now.0 refl (subst (λ (c : List Said). AreSaid sup c v now.0) says step.made) in
            let set = by_names (path_text w.names) w.names (λ r. attributed r a.mode a.owner a.group a.time v) x.0 (path_of_names w.names w.good short) x.1 in
            go now.0 (directory_set t members are orderly (text t members are orderly lost paths are_paths) (texts t members are orderly lost paths are_paths) (length members) f v k m a w.names now.0 below at kind shows (sym node_kind ∙ kind) w.good w.says
            (same_transitive now.0 x.0 (attributed w.names a.mode a.owner a.group a.time v) (none_said sup x.0 now.0 x.2) set) stage) now.2

    -- ---- all steps

    restored : (values : List ItemValue) (v u : Tree) → IsEmpty v → map item_of values ≡ items_of t paths members → AreSteps sup (codes "/") maker (map make values ++ map set (filter is_directory_item values)) v u → IsRestored t u
    restored values v u empty are_items steps =
        let r = are.begins in
        let ms = first_member members r.0 r.1 in
        let o = orderly.root in
        let shown = are.each 0 r.0 r.1 in
        let kind : r.0.kind ≡ kinds.Directory = shown.kind ∙ ap (λ (x : Node). x.kind) (one_node shown.node o.0 (sym shown.shows ∙ ap t r.3 ∙ o.1)) ∙ o.2 in
        let one : one_item t paths 0 r.0 ≡ item_at paths 0 r.0 shown.node ∷ [] = ap (λ (x : Option Node). option_map_or (λ (n : Node). item_at paths 0 r.0 n ∷ []) x []) shown.shows in
        let x = value_of values (item_at paths 0 r.0 shown.node) (items_from t paths 1 ms.0) (are_items ∙ ap (λ (l : List Member). items_from t paths 0 l) ms.1 ∙ ap (λ (l : List Item). l ++ items_from t paths 1 ms.0) one) in
        let behind : List Step = map set (filter is_directory_item values) in
        let first = one_step sup (codes "/") maker (make x.value) (map make x.others ++ behind) v u (subst (λ (xs : List ItemValue). AreSteps sup (codes "/") maker (map make xs ++ behind) v u) x.whole steps) in
        let stays = root_stays sup maker r.0 shown.node v first.0 empty r.1 r.2 kind (for_member sup maker 0 r.0 shown.node x.value v first.0 x.is (is_make x.value v first.0 first.1)) in
        let begun : IsStage t members (IsFilled t) 1 first_table first.0 = stage_alike t members are orderly (IsFilled t) 1 first_table v first.0 (filled_stable t) (same_symmetric first.0 v stays) stays (first_stage t members are orderly v empty) in
        let later = all_made ms.0 x.others 1 (omega arith) (λ j q m is there. let place_is : q ≡ suc j = omega (arith, is) in ap (λ (l : List Member). slice_get l q) ms.1 ∙ ap (slice_get (r.0 ∷ ms.0)) place_is ∙ there) x.are behind first_table first.0 u begun first.2 in
        let count : 1 + length ms.0 ≡ length members = omega (arith, ap (length {A = Member}) ms.1) in
        let whole : IsStage t members (IsFilled t) (length members) later.f later.v = subst (λ (n : ℕ). IsStage t members (IsFilled t) n later.f later.v) count later.stage in
        let bare = none_set t members are orderly (text t members are orderly lost paths are_paths) (texts t members are orderly lost paths are_paths) (length members) later.f later.v whole in
        let set = all_set members values 0 (λ j q m is there. let place_is : q ≡ j = omega (arith, is) in ap (slice_get members) place_is ∙ there) are_items later.f later.v u bare later.steps in
        let last : IsStage t members (IsSet t members (length members)) (length members) later.f u = subst (λ (n : ℕ). IsStage t members (IsSet t members n) (length members) later.f u) (omega arith) set in
        record { same = same_by_paths t members are orderly (text t members are orderly lost paths are_paths) (texts t members are orderly lost paths are_paths) (length members) (λ k m at. inside members k m at) later.f u last; reached = all_reached t members are orderly (text t members are orderly lost paths are_paths) (texts t members are orderly lost paths are_paths) (length members) (λ k m at. inside members k m at) later.f u last; links = last.links; within = all_within t members are orderly (text t members are orderly lost paths are_paths) (texts t members are orderly lost paths are_paths) (length members) (λ k m at. inside members k m at) later.f u last }

-- the same, with the steps first
pub steps_unpacked : (t : Tree) (members : List Member) (are : AreMembers t 1 false members) (orderly : IsOrderly t) (lost : List ℕ) (paths : List (List ℕ)) (are_paths : ArePaths (codes ".") lost members paths) (sup : Super) (maker : Maker) → HasNumbersFor sup maker (length members)
    → (values : List ItemValue) (v u : Tree) → IsEmpty v → map item_of values ≡ items_of t paths members → (make set : ItemValue → Step) → AreSteps sup (codes "/") maker (map make values ++ map set (filter is_directory_item values)) v u
    → ((value : ItemValue) (v w : Tree) → IsStep sup (codes "/") maker (make value) v w → IsMakeStep sup maker value v w) → ((value : ItemValue) (v w : Tree) → IsStep sup (codes "/") maker (set value) v w → IsSetStep sup value v w) → IsRestored t u
steps_unpacked t members are orderly lost paths are_paths sup maker numbers values v u empty is make set steps is_make is_set = restored t members are orderly lost paths are_paths sup maker numbers make set is_make is_set values v u empty is steps

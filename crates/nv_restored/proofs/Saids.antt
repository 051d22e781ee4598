-- What calls make of a tree, by what they say.
use Rattle.std.proofs.Common.{◌≡◌, ℕ, Bool, true, false, not, nat_eq, is_none, ◌&&◌, cond, List, [], ◌∷◌, take, map, Option, Some, None, refl, sym, ◌∙◌, ap, subst}
use Rattle.std.specs.List.{find}
use Rattle.nv_super.specs.declared.superblock.Super.{Super}
use Rattle.nv_super.specs.declared.kind.Kind.TheVariants as kinds
use Rattle.nv_tree.specs.Path.{IsPath}
use Rattle.nv_tree.specs.Tree.{Node, Tree, SameTree, found}
use Rattle.nv_tree.specs.Calls.{attributed, created, linked, removed, renamed, resized, unlinked, written}
use Rattle.nv_tree.proofs.Texts.{says_one}
use Rattle.nv_history.specs.declared.calls.Call.{Call}
use Rattle.nv_history.specs.declared.calls.Call.TheVariants as calls
use Rattle.nv_history.specs.Making.{AreMade, none, more, ByPath, ByPaths, IsMadeBy, is_unused_in, is_upgrade, lowest_unused, most_numbers}
use Rattle.nv_history.proofs.MadeTrees.{behind_same}
use Rattle.nv_history.specs.Said.{Said, said, Create, MakeDirectory, Write, SetSize, SetAttributes, Link, Unlink, RemoveDirectory, Rename, Clean, Upgrade}
use Rattle.nv_unpack.specs.declared.maker.Maker.{Maker}
use Rattle.nv_unpack.specs.Ways.{MakesWay, ends_above}
use Rattle.nv_unpack.specs.Ways as ways
use Rattle.nv_changes.specs.Calls.{IsThere}

-- ---- unused numbers

found_passes : (p : ℕ → Bool) (xs : List ℕ) (n : ℕ) → find p xs ≡ Some n → p n ≡ true
found_passes p [] n h = absurd (cc)
found_passes p (x ∷ xs) n h = by (p x) refl h (found_passes p xs n)
  where
    by : (b : Bool) → p x ≡ b → cond b (Some x) (find p xs) ≡ Some n → (find p xs ≡ Some n → p n ≡ true) → p n ≡ true
    by true passes is rest = let same : x ≡ n = cc in ap p (sym same) ∙ passes
    by false fails is rest = rest is

none_there : (o : Option Node) → is_none o ≡ true → o ≡ None
none_there None h = refl
none_there (Some a) h = absurd (cc)

both_hold : (x y : Bool) → (x && y) ≡ true → y ≡ true
both_hold true y h = h
both_hold false y h = absurd (cc)

pub lowest_is_unused : (sup : Super) (v : Tree) (cpu n : ℕ) → lowest_unused sup v cpu ≡ Some n → v n ≡ None
lowest_is_unused sup v cpu n is = none_there (v n) (both_hold (not (nat_eq n 0)) (is_none (v n)) (found_passes (is_unused_in v) (most_numbers sup cpu) n is))

-- ---- calls

-- what a call makes, by what it says
abbrev pub SaidMakes : Super → Said → Tree → Tree → Type 0
SaidMakes sup (Create cpu path mode time) t u = ByPath path (λ names. created kinds.File (lowest_unused sup t cpu) names mode time t) u
SaidMakes sup (MakeDirectory cpu path mode time) t u = ByPath path (λ names. created kinds.Directory (lowest_unused sup t cpu) names mode time t) u
SaidMakes sup (Write cpu path offset bytes time) t u = ByPath path (λ names. written names offset bytes time t) u
SaidMakes sup (SetSize cpu path size time) t u = ByPath path (λ names. resized names size time t) u
SaidMakes sup (SetAttributes cpu path mode owner group time) t u = ByPath path (λ names. attributed names mode owner group time t) u
SaidMakes sup (Link cpu old new time) t u = ByPaths old new (λ names others. linked names others time t) u
SaidMakes sup (Unlink cpu path time) t u = ByPath path (λ names. unlinked names time t) u
SaidMakes sup (RemoveDirectory cpu path time) t u = ByPath path (λ names. removed names time t) u
SaidMakes sup (Rename cpu old new time) t u = ByPaths old new (λ names others. renamed names others time t) u
SaidMakes sup (Clean path) t u = ByPath path (λ names. t) u
SaidMakes sup Upgrade t u = SameTree u t

said_makes : (sup : Super) (call : Call) (t u : Tree) → IsMadeBy sup call t u → SaidMakes sup (said call) t u
said_makes sup (calls.Create cpu path mode time) t u h = h
said_makes sup (calls.MakeDirectory cpu path mode time) t u h = h
said_makes sup (calls.Write cpu path offset content time) t u h = h
said_makes sup (calls.SetSize cpu path size time) t u h = h
said_makes sup (calls.SetAttributes cpu path mode owner group time) t u h = h
said_makes sup (calls.Link cpu old new time) t u h = h
said_makes sup (calls.Unlink cpu path time) t u h = h
said_makes sup (calls.RemoveDirectory cpu path time) t u h = h
said_makes sup (calls.Rename cpu old new time) t u h = h
said_makes sup (calls.Clean path) t u h = h
said_makes sup calls.Upgrade t u h = h

-- The second tree is made by calls that say this.
pub record AreSaid (sup : Super) (all : List Said) (t u : Tree) : Type 0 where
  pub calls : List Call
  pub say : map said calls ≡ all
  pub made : AreMade sup calls t u

first_of_both : (x y : Said) (xs ys : List Said) → x ∷ xs ≡ y ∷ ys → x ≡ y
first_of_both x y xs ys h = cc

rest_of_both : (x y : Said) (xs ys : List Said) → x ∷ xs ≡ y ∷ ys → xs ≡ ys
rest_of_both x y xs ys h = cc

no_calls : (sup : Super) (calls : List Call) (t u : Tree) → map said calls ≡ [] → AreMade sup calls t u → SameTree u t
no_calls sup [] t u say (none _ _ _ same) = same
no_calls sup (call ∷ calls) t u say made = absurd (cc)

pub none_said : (sup : Super) (t u : Tree) → AreSaid sup [] t u → SameTree u t
none_said sup t u h = no_calls sup h.calls t u h.say h.made

-- by a call that isn't `upgrade`
one_call : (sup : Super) (calls : List Call) (one : Said) (all : List Said) (t u : Tree) → map said calls ≡ one ∷ all → is_upgrade one ≡ false → AreMade sup calls t u → (v : Tree) × SaidMakes sup one t v × AreSaid sup all v u
one_call sup [] one all t u say stays made = absurd (cc)
one_call sup (call ∷ calls) one all t u say stays (more _ _ _ _ v _ first rest) =
    let begins = first_of_both (said call) one (map said calls) all say in
    let same = behind_same sup (said call) (ap is_upgrade begins ∙ stays) in (
      v,
      subst (λ (z : Said). SaidMakes sup z t v) begins (said_makes sup call t v first),
      record { calls = calls; say = rest_of_both (said call) one (map said calls) all say; made = subst (λ (x : Super). AreMade x calls v u) same rest },
    )

pub more_said : (sup : Super) (one : Said) (all : List Said) (t u : Tree) → is_upgrade one ≡ false → AreSaid sup (one ∷ all) t u → (v : Tree) × SaidMakes sup one t v × AreSaid sup all v u
more_said sup one all t u stays h = one_call sup h.calls one all t u h.say stays h.made

-- ---- paths

one_path : (text : List ℕ) (a b : List (List ℕ)) → IsPath text a → IsPath text b → a ≡ b
one_path text a b is other = let same : Some a ≡ Some b = says_one text (Some a) (Some b) is other in cc

-- what a call makes by a text, where the names are known
pub by_names : (text : List ℕ) (names : List (List ℕ)) (made : List (List ℕ) → Tree) (u : Tree) → IsPath text names → ByPath text made u → SameTree u (made names)
by_names text names made u is h = subst (λ (x : List (List ℕ)). SameTree u (made x)) (one_path text h.0 names h.1 is) h.2

pub by_both : (old new : List ℕ) (a b : List (List ℕ)) (made : List (List ℕ) → List (List ℕ) → Tree) (u : Tree) → IsPath old a → IsPath new b → ByPaths old new made u → SameTree u (made a b)
by_both old new a b made u is other h =
    subst (λ (x : List (List ℕ)). SameTree u (made a x)) (one_path new h.1 b h.3 other) (subst (λ (x : List (List ℕ)). SameTree u (made x h.1)) (one_path old h.0 a h.2 is) h.4)

pub not_there : (v : Tree) (text : List ℕ) (names : List (List ℕ)) → IsPath text names → found v names ≡ None → IsThere v text → ⊥
not_there v text names is nowhere h =
    let same = one_path text h.0 names h.2 is in
    let never : None ≡ Some h.1 = sym nowhere ∙ ap (found v) (sym same) ∙ h.3 in
    cc

-- ---- the way to a place

-- where each directory above is there, none is made
pub no_way : (sup : Super) (maker : Maker) (time : ℕ) (text : List ℕ) (v : Tree) → ((k : ℕ) → ends_above text k ≡ true → IsThere v (take k text)) → (n : ℕ) (t w : Tree) → t ≡ v → MakesWay sup maker time text n t w → w ≡ v
no_way sup maker time text v there n t w is (ways.none x) = is
no_way sup maker time text v there n t w is (ways.passes k x y why rest) = no_way sup maker time text v there k x y is rest
no_way sup maker time text v there n t w is (ways.makes k x y z calls asks made rest) =
    let same = no_way sup maker time text v there k x y is rest in
    absurd (asks.1 (subst (λ (q : Tree). IsThere q (take k text)) (sym same) (there k asks.0)))

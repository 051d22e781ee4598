-- What calls make of trees that nobody can tell apart, and one call more.
use Rattle.std.proofs.Common.{◌≡◌, ℕ, Bool, true, false, not, nat_eq, ◌==◌, ◌&&◌, ◌||◌, is_none, List, [], ◌∷◌, ◌++◌, take, zero, suc, refl, ◌∙◌, ap, subst, Option, Some, None}
use Rattle.std.specs.List.{find}
use Rattle.nv_super.specs.declared.superblock.Super.{Super}
use Rattle.nv_super.specs.declared.kind.Kind.{Kind}
use Rattle.nv_super.specs.declared.kind.Kind.TheVariants.{File, Directory}
use Rattle.nv_bytes.specs.Data.{data_bytes}
use Rattle.nv_tree.specs.Path.{IsPath}
use Rattle.nv_tree.specs.Tree.{Node, Tree, SameNodes, SameTree}
use Rattle.nv_tree.specs.Calls.{attributed, created, linked, removed, renamed, resized, unlinked, written}
use Rattle.nv_tree.specs.Refusals.{Path}
use Rattle.nv_tree.proofs.Kept.{attributed_kept, created_kept, linked_kept, removed_kept, renamed_kept, resized_kept, unlinked_kept, written_kept}
use Rattle.nv_tree.proofs.Same.{same_itself, same_symmetric, same_transitive}
use Rattle.nv_tree.proofs.Texts.{says_one}
use Rattle.nv_history.specs.declared.calls.Call.{Call}
use Rattle.nv_history.specs.declared.calls.Call.TheVariants.{Create, MakeDirectory, Write, SetSize, SetAttributes, Link, Unlink, RemoveDirectory, Rename, Clean, Upgrade}
use Rattle.nv_history.specs.Said as saids
use Rattle.nv_history.specs.Said.{Said, said}
use Rattle.nv_history.specs.Making.{AreMade, none, more, ByPath, ByPaths, IsMadeBy, grow_tables, grows_tables, has_upgrade, is_unused_in, is_upgrade, lowest_unused, most_numbers, super_behind, supers_behind}

-- ---- unused numbers

pub same_find : (p q : ℕ → Bool) → ((i : ℕ) → p i ≡ q i) → (numbers : List ℕ) → find p numbers ≡ find q numbers
same_find p q each numbers = let same : p ≡ q = λ k i. each i k in ap (λ (test : ℕ → Bool). find test numbers) same

none_alike : (o p : Option Node) → SameNodes o p → is_none o ≡ is_none p
none_alike None None same = refl
none_alike (Some a) (Some b) same = refl
none_alike None (Some b) same = absurd same
none_alike (Some a) None same = absurd same

lowest_alike : (s : Super) (t u : Tree) (cpu : ℕ) → SameTree t u → lowest_unused s t cpu ≡ lowest_unused s u cpu
lowest_alike s t u cpu same = same_find (is_unused_in t) (is_unused_in u) (λ i. ap (λ b. not (nat_eq i 0) && b) (none_alike (t i) (u i) (same i))) (most_numbers s cpu)

-- ---- one call

by_alike : (text : List ℕ) (f g : List (List ℕ) → Tree) (u w : Tree) → ((names : List (List ℕ)) → SameTree (f names) (g names)) → SameTree w u → ByPath text f u → ByPath text g w
by_alike text f g u w keeps same m = (m.0, m.1, same_transitive w u (g m.0) same (same_transitive u (f m.0) (g m.0) m.2 (keeps m.0)))

both_alike : (old new : List ℕ) (f g : List (List ℕ) → List (List ℕ) → Tree) (u w : Tree) → ((names others : List (List ℕ)) → SameTree (f names others) (g names others)) → SameTree w u → ByPaths old new f u → ByPaths old new g w
both_alike old new f g u w keeps same m = (m.0, m.1, m.2, m.3, same_transitive w u (g m.0 m.1) same (same_transitive u (f m.0 m.1) (g m.0 m.1) m.4 (keeps m.0 m.1)))

created_alike : (s : Super) (kind : Kind) (cpu mode time : ℕ) (t v : Tree) → SameTree t v → (names : List (List ℕ)) → SameTree (created kind (lowest_unused s t cpu) names mode time t) (created kind (lowest_unused s v cpu) names mode time v)
created_alike s kind cpu mode time t v same names =
    subst (λ (o : Option ℕ). SameTree (created kind (lowest_unused s t cpu) names mode time t) (created kind o names mode time v)) (lowest_alike s t v cpu same)
    (created_kept kind (lowest_unused s t cpu) names mode time t v same)

-- Of trees that nobody can tell apart a call makes such trees.
pub made_alike : (s : Super) (call : Call) (t v u w : Tree) → SameTree t v → SameTree w u → IsMadeBy s call t u → IsMadeBy s call v w
made_alike s (Create cpu path mode time) t v u w same shown m =
    by_alike path.now (λ names. created File (lowest_unused s t cpu) names mode time t) (λ names. created File (lowest_unused s v cpu) names mode time v) u w (created_alike s File cpu mode time t v same) shown m
made_alike s (MakeDirectory cpu path mode time) t v u w same shown m =
    by_alike path.now (λ names. created Directory (lowest_unused s t cpu) names mode time t) (λ names. created Directory (lowest_unused s v cpu) names mode time v) u w (created_alike s Directory cpu mode time t v same) shown m
made_alike s (Write cpu path offset content time) t v u w same shown m =
    by_alike path.now (λ names. written names offset (data_bytes content) time t) (λ names. written names offset (data_bytes content) time v) u w (λ names. written_kept names offset (data_bytes content) time t v same) shown m
made_alike s (SetSize cpu path size time) t v u w same shown m =
    by_alike path.now (λ names. resized names size time t) (λ names. resized names size time v) u w (λ names. resized_kept names size time t v same) shown m
made_alike s (SetAttributes cpu path mode owner group time) t v u w same shown m =
    by_alike path.now (λ names. attributed names mode owner group time t) (λ names. attributed names mode owner group time v) u w (λ names. attributed_kept names mode owner group time t v same) shown m
made_alike s (Link cpu old new time) t v u w same shown m =
    both_alike old.now new.now (λ names others. linked names others time t) (λ names others. linked names others time v) u w (λ names others. linked_kept names others time t v same) shown m
made_alike s (Unlink cpu path time) t v u w same shown m =
    by_alike path.now (λ names. unlinked names time t) (λ names. unlinked names time v) u w (λ names. unlinked_kept names time t v same) shown m
made_alike s (RemoveDirectory cpu path time) t v u w same shown m =
    by_alike path.now (λ names. removed names time t) (λ names. removed names time v) u w (λ names. removed_kept names time t v same) shown m
made_alike s (Rename cpu old new time) t v u w same shown m =
    both_alike old.now new.now (λ names others. renamed names others time t) (λ names others. renamed names others time v) u w (λ names others. renamed_kept names others time t v same) shown m
made_alike s (Clean path) t v u w same shown m = by_alike path.now (λ names. t) (λ names. v) u w (λ names. same) shown m
made_alike s Upgrade t v u w same shown m = same_transitive w u v shown (same_transitive u t v m same)

names_one : (text : List ℕ) (a b : List (List ℕ)) → IsPath text a → IsPath text b → a ≡ b
names_one text a b first second = let one : ◌≡◌ {A = Path} (Some a) (Some b) = says_one text (Some a) (Some b) first second in cc

by_once : (text : List ℕ) (f : List (List ℕ) → Tree) (u w : Tree) → ByPath text f u → ByPath text f w → SameTree u w
by_once text f u w m n =
    let here : SameTree u (f n.0) = subst (λ (names : List (List ℕ)). SameTree u (f names)) (names_one text m.0 n.0 m.1 n.1) m.2 in
    same_transitive u (f n.0) w here (same_symmetric w (f n.0) n.2)

both_once : (old new : List ℕ) (f : List (List ℕ) → List (List ℕ) → Tree) (u w : Tree) → ByPaths old new f u → ByPaths old new f w → SameTree u w
both_once old new f u w m n =
    let first : SameTree u (f n.0 m.1) = subst (λ (names : List (List ℕ)). SameTree u (f names m.1)) (names_one old m.0 n.0 m.2 n.2) m.4 in
    let here : SameTree u (f n.0 n.1) = subst (λ (others : List (List ℕ)). SameTree u (f n.0 others)) (names_one new m.1 n.1 m.3 n.3) first in
    same_transitive u (f n.0 n.1) w here (same_symmetric w (f n.0 n.1) n.4)

made_once : (s : Super) (call : Call) (t u w : Tree) → IsMadeBy s call t u → IsMadeBy s call t w → SameTree u w
made_once s (Create cpu path mode time) t u w m n = by_once path.now (λ names. created File (lowest_unused s t cpu) names mode time t) u w m n
made_once s (MakeDirectory cpu path mode time) t u w m n = by_once path.now (λ names. created Directory (lowest_unused s t cpu) names mode time t) u w m n
made_once s (Write cpu path offset content time) t u w m n = by_once path.now (λ names. written names offset (data_bytes content) time t) u w m n
made_once s (SetSize cpu path size time) t u w m n = by_once path.now (λ names. resized names size time t) u w m n
made_once s (SetAttributes cpu path mode owner group time) t u w m n = by_once path.now (λ names. attributed names mode owner group time t) u w m n
made_once s (Link cpu old new time) t u w m n = both_once old.now new.now (λ names others. linked names others time t) u w m n
made_once s (Unlink cpu path time) t u w m n = by_once path.now (λ names. unlinked names time t) u w m n
made_once s (RemoveDirectory cpu path time) t u w m n = by_once path.now (λ names. removed names time t) u w m n
made_once s (Rename cpu old new time) t u w m n = both_once old.now new.now (λ names others. renamed names others time t) u w m n
made_once s (Clean path) t u w m n = by_once path.now (λ names. t) u w m n
made_once s Upgrade t u w m n = same_transitive u t w m (same_symmetric w t n)

-- ---- the superblock and the tables

either_off : (a b : Bool) → (a || b) ≡ false → (a ≡ false) × (b ≡ false)
either_off true b off = absurd (cc)
either_off false b off = (refl, off)

both_off : (a b : Bool) → a ≡ false → b ≡ false → (a || b) ≡ false
both_off true b off too = absurd (cc)
both_off false b off too = too

-- a call but `upgrade` keeps the superblock
pub behind_same : (s : Super) (call : Said) → is_upgrade call ≡ false → super_behind s call ≡ s
behind_same s (saids.Create cpu path mode time) off = refl
behind_same s (saids.MakeDirectory cpu path mode time) off = refl
behind_same s (saids.Write cpu path offset bytes time) off = refl
behind_same s (saids.SetSize cpu path size time) off = refl
behind_same s (saids.SetAttributes cpu path mode owner group time) off = refl
behind_same s (saids.Link cpu old new time) off = refl
behind_same s (saids.Unlink cpu path time) off = refl
behind_same s (saids.RemoveDirectory cpu path time) off = refl
behind_same s (saids.Rename cpu old new time) off = refl
behind_same s (saids.Clean path) off = refl
behind_same s saids.Upgrade off = absurd (cc)

-- and so do several
pub super_stays : (s : Super) (calls : List Call) → has_upgrade calls ≡ false → supers_behind s calls ≡ s
super_stays s [] off = refl
super_stays s (call ∷ calls) off =
    let parts = either_off (is_upgrade (said call)) (has_upgrade calls) off in
    ap (λ (x : Super). supers_behind x calls) (behind_same s (said call) parts.0) ∙ super_stays s calls parts.1

-- and so does a front of them
pub front_stays : (s : Super) (calls : List Call) (n : ℕ) → has_upgrade calls ≡ false → supers_behind s (take n calls) ≡ s
front_stays s calls zero off = refl
front_stays s [] (suc n) off = refl
front_stays s (call ∷ calls) (suc n) off =
    let parts = either_off (is_upgrade (said call)) (has_upgrade calls) off in
    ap (λ (x : Super). supers_behind x (take n calls)) (behind_same s (said call) parts.0) ∙ front_stays s calls n parts.1

-- in version 1 a call lets no table grow
fixed_call : (s : Super) (call : Said) → (s.version == 2) ≡ false → grows_tables s call ≡ false
fixed_call s (saids.Create cpu path mode time) off = off
fixed_call s (saids.MakeDirectory cpu path mode time) off = off
fixed_call s (saids.Write cpu path offset bytes time) off = refl
fixed_call s (saids.SetSize cpu path size time) off = refl
fixed_call s (saids.SetAttributes cpu path mode owner group time) off = refl
fixed_call s (saids.Link cpu old new time) off = refl
fixed_call s (saids.Unlink cpu path time) off = refl
fixed_call s (saids.RemoveDirectory cpu path time) off = refl
fixed_call s (saids.Rename cpu old new time) off = refl
fixed_call s (saids.Clean path) off = refl
fixed_call s saids.Upgrade off = refl

none_grow : (s : Super) (calls : List Call) → (s.version == 2) ≡ false → has_upgrade calls ≡ false → grow_tables s calls ≡ false
none_grow s [] fixed off = refl
none_grow s (call ∷ calls) fixed off =
    let parts = either_off (is_upgrade (said call)) (has_upgrade calls) off in
    both_off (grows_tables s (said call)) (grow_tables (super_behind s (said call)) calls) (fixed_call s (said call) fixed)
    (ap (λ (x : Super). grow_tables x calls) (behind_same s (said call) parts.0) ∙ none_grow s calls fixed parts.1)

pub version_1_stays : (s : Super) (calls : List Call) → s.version ≡ 1 → has_upgrade calls ≡ false → grow_tables s calls ≡ false
version_1_stays s calls one off = none_grow s calls (ap (λ (v : ℕ). v == 2) one) off

-- where none of several is `upgrade`, neither is one of those in front of the last, nor the last
pub plain_more : (calls : List Call) (call : Call) → has_upgrade (calls ++ call ∷ []) ≡ false → (has_upgrade calls ≡ false) × (is_upgrade (said call) ≡ false)
plain_more [] call off = (refl, (either_off (is_upgrade (said call)) false off).0)
plain_more (first ∷ calls) call off =
    let parts = either_off (is_upgrade (said first)) (has_upgrade (calls ++ call ∷ [])) off in
    let rest = plain_more calls call parts.1 in
    (both_off (is_upgrade (said first)) (has_upgrade calls) parts.0 rest.0, rest.1)

-- where none of several lets a table grow, neither does one of those in front of the last, nor the last by the superblock that they leave
pub fixed_more : (s : Super) (calls : List Call) (call : Call) → grow_tables s (calls ++ call ∷ []) ≡ false → (grow_tables s calls ≡ false) × (grows_tables (supers_behind s calls) (said call) ≡ false)
fixed_more s [] call off = (refl, (either_off (grows_tables s (said call)) false off).0)
fixed_more s (first ∷ calls) call off =
    let parts = either_off (grows_tables s (said first)) (grow_tables (super_behind s (said first)) (calls ++ call ∷ [])) off in
    let rest = fixed_more (super_behind s (said first)) calls call parts.1 in
    (both_off (grows_tables s (said first)) (grow_tables (super_behind s (said first)) calls) parts.0 rest.0, rest.1)

-- where none of several lets a table grow, no front of them does
pub front_fixed : (s : Super) (calls : List Call) (n : ℕ) → grow_tables s calls ≡ false → grow_tables s (take n calls) ≡ false
front_fixed s calls zero off = refl
front_fixed s [] (suc n) off = refl
front_fixed s (call ∷ calls) (suc n) off =
    let parts = either_off (grows_tables s (said call)) (grow_tables (super_behind s (said call)) calls) off in
    both_off (grows_tables s (said call)) (grow_tables (super_behind s (said call)) (take n calls)) parts.0 (front_fixed (super_behind s (said call)) calls n parts.1)

-- one call more
pub behind_more : (s : Super) (calls : List Call) (call : Call) → supers_behind s (calls ++ call ∷ []) ≡ super_behind (supers_behind s calls) (said call)
behind_more s [] call = refl
behind_more s (first ∷ calls) call = behind_more (super_behind s (said first)) calls call

-- ---- a run of calls

-- what a run makes nobody can tell from another tree
pub made_shown : {s : Super} {calls : List Call} {t u : Tree} → AreMade s calls t u → (w : Tree) → SameTree w u → AreMade s calls t w
made_shown (none s t u same) w shown = none s t w (same_transitive w u t shown same)
made_shown (more call calls s t v u first rest) w shown = more call calls s t v w first (made_shown rest w shown)

-- one call more
pub one_more : {s : Super} {calls : List Call} {t v : Tree} → AreMade s calls t v → (call : Call) (u : Tree) → IsMadeBy (supers_behind s calls) call v u → AreMade s (calls ++ call ∷ []) t u
one_more (none s t v same) call u last = more call [] s t u u (made_alike s call v t u u same (same_itself u) last) (none (super_behind s (said call)) u u (same_itself u))
one_more (more first calls s t x v made rest) call u last = more first (calls ++ call ∷ []) s t x u made (one_more rest call u last)

-- of trees that nobody can tell apart a run makes such trees
pub one_tree : {s : Super} {calls : List Call} {t u v w : Tree} → AreMade s calls t u → SameTree t v → AreMade s calls v w → SameTree u w
one_tree (none s t u first) same (none s' v w second) = same_transitive u t w first (same_transitive t v w same (same_symmetric w v second))
one_tree (more call calls s t x u first rest) same (more call' calls' s' v y w second next) = one_tree rest (made_once s call v x y (made_alike s call t v x x same (same_itself x) first) second) next

-- What `stat` tells of a path: where it leads to, and with which mode, owner and group.
use Rattle.std.proofs.Common.{◌≡◌, ◌∙◌, ℕ, List, [], ◌∷◌, Some, None, Result, Ok, Err, refl, sym, ap}
use Rattle.std.specs.Option.{option_map}
use Rattle.nv_tree.specs.declared.refusal.Refusal.{Refusal}
use Rattle.nv_tree.specs.declared.refusal.Refusal.TheVariants.{BadName}
use Rattle.nv_tree.specs.Path.{IsPath, Says}
use Rattle.nv_tree.specs.Tree.{Tree, found, in_use, last_in, walk}
use Rattle.nv_tree.specs.Refusals.{Path, first_refusal, stat_tests}
use Rattle.nv_tree.proofs.Texts.{text_says}
use Rattle.nv_paths.proofs.Targets.{allowed_by}
use Rattle.nv_tree.specs.Stat.{IsStat, stat_of}
use Rattle.nv_tree.specs.declared.stat.Stat.{Stat}
use Rattle.nv_changes.specs.Calls.{HasAttributes, IsThere}

some_same : {A : Type 0} (a b : A) → Some a ≡ Some b → a ≡ b
some_same a b same = cc

-- no test refuses a path that leads to an inode
leads_passes : (t : Tree) (names : List (List ℕ)) (i : ℕ) → found t names ≡ Some i → first_refusal (stat_tests t (Some names)) ≡ None
leads_passes t [] i e = allowed_by t [] 1 i refl e
leads_passes t (name ∷ names) i e = by (walk t 1 (name ∷ names)) refl e
  where
    by : (w : Result ℕ Refusal) → walk t 1 (name ∷ names) ≡ w → in_use t (last_in t w (name ∷ names)) ≡ Some i → first_refusal (stat_tests t (Some (name ∷ names))) ≡ None
    by (Ok d) walked there = allowed_by t (name ∷ names) d i walked e
    by (Err r) walked there = absurd (cc)

abbrev Refuses : Tree → List ℕ → Refusal → Type 0
Refuses t text e = (p : Path) → Says text p → first_refusal (stat_tests t p) ≡ Some e

refuses_none : (t : Tree) (text : List ℕ) (e : Refusal) (names : List (List ℕ)) (i : ℕ) → Refuses t text e → IsPath text names → found t names ≡ Some i → ⊥
refuses_none t text e names i refused path leads = let never : Some e ≡ None = sym (refused (Some names) path) ∙ leads_passes t names i leads in cc

pub stat_attributes : (t : Tree) (text : List ℕ) (s : Stat) → ((names : List (List ℕ)) → IsPath text names → IsStat t names s) → HasAttributes t text s.mode s.owner s.group
stat_attributes t text s ok names i node path leads =
    let st = ok names path in
    let same : s.inode ≡ i = some_same s.inode i (sym st.leads ∙ leads.leads) in
    let here : t s.inode ≡ Some node = ap t same ∙ leads.shows in
    let told : s ≡ stat_of s.inode node = some_same s (stat_of s.inode node) (sym st.shows ∙ ap (option_map (stat_of s.inode)) here) in
    (ap (λ (x : Stat). x.mode) told, ap (λ (x : Stat). x.owner) told, ap (λ (x : Stat). x.group) told)

pub none_attributes : (t : Tree) (text : List ℕ) (e : Refusal) (mode owner group : ℕ) → Refuses t text e → HasAttributes t text mode owner group
none_attributes t text e mode owner group refused names i node path leads = absurd (refuses_none t text e names i refused path leads.leads)

pub stat_there : (t : Tree) (text : List ℕ) (s : Stat) → ((names : List (List ℕ)) → IsPath text names → IsStat t names s) → ((p : Path) → Says text p → first_refusal (stat_tests t p) ≡ None) → IsThere t text
stat_there t text s ok passes = (let w = text_says text in by w.0 w.1) where
  by : (p : Path) → Says text p → IsThere t text
  by None says = absurd (let never : Some BadName ≡ None = passes None says in cc)
  by (Some names) says = (names, s.inode, says, (ok names says).leads)

pub refused_not_there : (t : Tree) (text : List ℕ) (e : Refusal) → Refuses t text e → ¬ IsThere t text
refused_not_there t text e refused there = refuses_none t text e there.0 there.1 refused there.2 there.3

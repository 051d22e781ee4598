-- Whether a path leads to a directory, by what `stat` tells of it.
use Rattle.std.proofs.Common.{◌≡◌, ◌∙◌, ℕ, List, Option, Some, None, refl, sym, ap}
use Rattle.std.specs.Option.{option_map}
use Rattle.nv_super.specs.declared.kind.Kind.TheVariants.{Directory}
use Rattle.nv_tree.specs.declared.refusal.Refusal.{Refusal}
use Rattle.nv_tree.specs.Path.{IsPath, Says}
use Rattle.nv_tree.specs.Tree.{Node, Tree}
use Rattle.nv_tree.specs.Refusals.{Path, first_refusal, stat_tests}
use Rattle.nv_tree.specs.Stat.{IsStat, stat_of}
use Rattle.nv_tree.specs.declared.stat.Stat.{Stat}
use Rattle.nv_changes.proofs.Standing.{refused_not_there, stat_there}
use Rattle.nv_unpack.specs.Calls.{IsDirectoryAt}

some_same : {A : Type 0} (a b : A) → Some a ≡ Some b → a ≡ b
some_same a b same = cc

node_told : (t : Tree) (s : Stat) (o : Option Node) → t s.inode ≡ o → option_map (stat_of s.inode) (t s.inode) ≡ Some s → (node : Node) × (t s.inode ≡ Some node) × (s ≡ stat_of s.inode node)
node_told t s None at shows = absurd (let never : None ≡ Some s = sym (ap (option_map (stat_of s.inode)) at) ∙ shows in cc)
node_told t s (Some node) at shows = (node, at, some_same s (stat_of s.inode node) (sym shows ∙ ap (option_map (stat_of s.inode)) at))

module _ (t : Tree) (text : List ℕ) (s : Stat) (ok : (names : List (List ℕ)) → IsPath text names → IsStat t names s) where
  pub directory_told : ((p : Path) → Says text p → first_refusal (stat_tests t p) ≡ None) → s.kind ≡ Directory → IsDirectoryAt t text
  directory_told passes is =
      let there = stat_there t text s ok passes in
      let st = ok there.0 there.2 in
      let w = node_told t s (t s.inode) refl st.shows in
      (there.0, s.inode, w.0, there.2, record { leads = st.leads; shows = w.1 }, sym (ap (λ (x : Stat). x.kind) w.2) ∙ is)

  pub told_directory : IsDirectoryAt t text → s.kind ≡ Directory
  told_directory there =
      let st = ok there.0 there.3 in
      let same : s.inode ≡ there.1 = some_same s.inode there.1 (sym st.leads ∙ there.4.leads) in
      let here : t s.inode ≡ Some there.2 = ap t same ∙ there.4.shows in
      let told : s ≡ stat_of s.inode there.2 = some_same s (stat_of s.inode there.2) (sym st.shows ∙ ap (option_map (stat_of s.inode)) here) in
      ap (λ (x : Stat). x.kind) told ∙ there.5

pub refused_no_directory : (t : Tree) (text : List ℕ) (e : Refusal) → ((p : Path) → Says text p → first_refusal (stat_tests t p) ≡ Some e) → ¬ IsDirectoryAt t text
refused_no_directory t text e refused there = refused_not_there t text e refused (there.0, there.1, there.3, there.4.leads)

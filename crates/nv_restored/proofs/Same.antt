-- The whole copy is the same tree but for numbers, and a path leads to each of its inodes.
use Rattle.std.proofs.Common.{◌≡◌, ℕ, ◌<◌, ◌≤◌, false, All, List, [], ◌∷◌, ◌++◌, length, Option, Some, refl, sym, ◌∙◌, ap, arith}
use Rattle.std.specs.List.{slice_get}
use Rattle.std.proofs.lemmas.List.{length-append}
use Rattle.std.proofs.lemmas.List.Elements.{All-push}
use Rattle.nv_super.specs.declared.kind.Kind.{Kind}
use Rattle.nv_super.specs.declared.kind.Kind.TheVariants.{File, Directory}
use Rattle.nv_tree.specs.Path.{IsPath, IsPathName, path_text, spelled}
use Rattle.nv_tree.specs.Tree.{Node, Tree, found, in_use}
use Rattle.nv_tree.proofs.Leads.{in_use_at}
use Rattle.nv_restored.specs.Links.{IsWithinReach}
use Rattle.nv_restored.specs.Same.{IsReached, IsSameByPaths, JoinsIn, LeadsIn, ShowsIn, ShowsSame}
use Rattle.nv_restored.specs.Orderly.{IsOrderly}
use Rattle.nv_members.specs.Members.{AreMembers}
use Rattle.nv_members.specs.declared.member.Member.{Member}
use Rattle.nv_restored.proofs.Stages.{IsStage, files_differ, one_member, one_node, one_number, stands_of}
use Rattle.nv_restored.proofs.Walks.{found_more}
use Rattle.nv_restored.proofs.Ways.{IsTextOf, copied_directory, spelled_more, way_at}
use Rattle.nv_restored.proofs.Attributes.{IsSet}
use Rattle.nv_restored.proofs.Back.{found_back, found_on}

pub path_of_names : (names : List (List ℕ)) → All IsPathName names → length (spelled names) ≤ 4096 → IsPath (path_text names) names
path_of_names [] good short = record { spells = refl; short = omega arith; good = good }
path_of_names (n ∷ names) good short = record { spells = refl; short = short; good = good }

module _ (t : Tree) (members : List Member) (are : AreMembers t 1 false members) (orderly : IsOrderly t) (text : ℕ → List ℕ) (texts : (k : ℕ) (m : Member) → slice_get members k ≡ Some m → IsTextOf text k m.parent m) (count : ℕ) (whole : (k : ℕ) (m : Member) → slice_get members k ≡ Some m → k < count) (f : ℕ → Option ℕ) (u : Tree) (stage : IsStage t members (IsSet t members count) count f u) where
  leads : LeadsIn t u
  leads said names i path led = let r = found_on t members are orderly text texts count whole (IsSet t members count) f u stage said names i path led in (r.0, r.2)

  back : LeadsIn u t
  back said names j path led = let r = found_back t members are orderly text texts count whole (IsSet t members count) f u stage names j led in (r.0, r.2)

  shown_by : (i : ℕ) (a b : Node) → IsSet t members count i b → t i ≡ Some a → a.kind ≡ b.kind → (k : ℕ) (m : Member) → slice_get members k ≡ Some m → m.inode ≡ i → (kind : Kind) → a.kind ≡ kind → ShowsSame a b
  shown_by i a b set shows kinds k m at of File is =
      let both = set.0 a shows is in
      record {
        kind = kinds;
        mode = both.0.mode;
        owner = both.0.owner;
        group = both.0.group;
        time = both.0.time;
        size = λ file. both.1.size;
        bytes = λ file. both.1.bytes;
      }
  shown_by i a b set shows kinds k m at of Directory is =
      let shown = are.each k m at in
      let kind : m.kind ≡ Directory = shown.kind ∙ ap (λ (y : Node). y.kind) (one_node shown.node a (sym shown.shows ∙ ap t of ∙ shows)) ∙ is in
      let same = set.1 k m (whole k m at) at kind of a shows in
      record {
        kind = kinds;
        mode = same.mode;
        owner = same.owner;
        group = same.group;
        time = same.time;
        size = λ file. absurd (files_differ (sym file ∙ is));
        bytes = λ file. absurd (files_differ (sym file ∙ is));
      }

  shows : ShowsIn t u
  shows said names i j a b path led other a_is b_is =
      let r = found_on t members are orderly text texts count whole (IsSet t members count) f u stage said names i path led in
      let number : r.0 ≡ j = one_number r.0 j (sym r.2 ∙ other) in
      let is : f i ≡ Some j = r.1 ∙ ap (λ (y : ℕ). Some y) number in
      let x = stage.copy.nodes i j is in
      let k = stage.from i j is in
      shown_by i a b (stage.holds i j b is b_is) a_is (ap (λ (y : Node). y.kind) (one_node a x.0 (sym a_is ∙ x.2)) ∙ x.4 ∙ ap (λ (y : Node). y.kind) (one_node x.1 b (sym x.3 ∙ b_is))) k.0 k.1 k.3 k.4 a.kind refl

  joins : JoinsIn t u
  joins said names other others i path next led also =
      let r = found_on t members are orderly text texts count whole (IsSet t members count) f u stage said names i path led in
      let s = found_on t members are orderly text texts count whole (IsSet t members count) f u stage other others i next also in
      r.2 ∙ sym r.1 ∙ s.1 ∙ sym s.2

  parts : JoinsIn u t
  parts said names other others j path next led also =
      let r = found_back t members are orderly text texts count whole (IsSet t members count) f u stage names j led in
      let s = found_back t members are orderly text texts count whole (IsSet t members count) f u stage others j also in
      r.2 ∙ ap (λ (y : ℕ). Some y) (stage.copy.one r.0 s.0 j r.1 s.1) ∙ sym s.2

  pub same_by_paths : IsSameByPaths t u
  same_by_paths = record { leads = leads; back = back; shows = shows; joins = joins; parts = parts }

  pub all_within : IsWithinReach u
  all_within e j q is =
      let o = stage.copy.only e j q is in
      let made = o.4 in
      let s = stands_of t members are orderly made.place made.member made.p made.at made.hangs in
      let w = way_at t members are orderly text texts (IsSet t members count) count f u stage made.p s.directory (whole made.p s.directory s.there) s.there in
      let d_is : s.directory ≡ made.directory = one_member s.directory made.directory (sym s.there ∙ made.there) in
      let number : w.number ≡ e = one_number w.number e (sym w.of ∙ ap f (ap (λ (x : Member). x.inode) d_is ∙ made.of) ∙ o.2) in
      let led : found u w.names ≡ Some e = w.leads ∙ ap (λ (y : ℕ). Some y) number in
      let d = copied_directory t members are orderly text texts (IsSet t members count) count f u stage made.p s.directory e s.there s.kind (ap f (ap (λ (x : Member). x.inode) d_is ∙ made.of) ∙ o.2) in
      let x = stage.copy.nodes o.1 j o.3 in
      let fits = (are.each made.place made.member made.at).short in
      let long = w.long in
      let more = s.length in
      let name = ap (length {A = ℕ}) made.name in
      let total = ap (length {A = ℕ}) (spelled_more w.names q) ∙ length-append (spelled w.names) (47 ∷ q) in
      let good : All IsPathName (w.names ++ q ∷ []) = All-push IsPathName w.names q w.good (orderly.names o.0 o.1 q o.5) in (
        path_text (w.names ++ q ∷ []),
        w.names,
        path_of_names (w.names ++ q ∷ []) good (omega (arith, fits, long, more, name, total)),
        led,
        found_more u w.names q e d.0 led d.1 d.2 ∙ ap (in_use u) is ∙ in_use_at u j x.1 x.3,
      )

  pub all_reached : IsReached u
  all_reached j b there =
      let i = stage.copy.used j b there in
      let k = stage.from i.0 j i.1 in
      let w = way_at t members are orderly text texts (IsSet t members count) count f u stage k.0 k.1 k.2 k.3 in
      let number : w.number ≡ j = one_number w.number j (sym w.of ∙ ap f k.4 ∙ i.1) in
      let long = w.long in
      let short = (are.each k.0 k.1 k.3).short in
      (path_text w.names, w.names, path_of_names w.names w.good (omega (arith, long, short)), w.leads ∙ ap (λ (y : ℕ). Some y) number)

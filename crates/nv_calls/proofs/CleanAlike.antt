-- Of alike regions `clean` answers one thing, and leaves alike regions: of the pages that a log can do without one is the first.
use Rattle.std.proofs.Common.{◌≡◌, inl, inr, ℕ, get_or, List, [], ◌∷◌, ◌++◌, Option, Some, None, refl, sym, ap, subst, ◌∙◌, arith}
use Rattle.std.specs.Prelude.{⊤}
use Rattle.std.proofs.Math.Logic.{∥∥₁_elim, ∥∥₁_map, ∥∥₁_prop}
use Rattle.std.proofs.Math.Nat.{ℕ_set}
use Rattle.std.proofs.Props.{props}
use Rattle.std.proofs.lemmas.Bool.{cases_lt}
use Rattle.nv_region.specs.Region.{Region}
use Rattle.nv_deadpages.specs.Dead.{IsFirstDead}
use Rattle.nv_mounted.specs.Held.{Held, Store, with_inode}
use Rattle.nv_mounted.specs.Cleaned.{cleaned}
use Rattle.nv_mounted.specs.Mounted.{ShowsSound}
use Rattle.nv_tree.specs.Refusals.{clean_tests, is_bad, is_missing, stat_tests, walk_tests}
use Rattle.nv_tree.specs.declared.refusal.Refusal.TheVariants.{ReadOnly}
use Rattle.nv_paths.specs.Seen.{tree_of}
use Rattle.nv_calls.specs.Alike.{AreAlike, IsAllowed, IsFaultlessMount, KeepsAlike, ShowAlike, WasDone}
use Rattle.nv_calls.specs.CleanCall.{ShowsCleaned}
use Rattle.nv_calls.specs.Decided.{ShowSame}
use Rattle.nv_calls.specs.Effects.{logs_clean, makes_no_change}
use Rattle.nv_calls.specs.Mount.{Mount}
use Rattle.nv_calls.specs.World.{world_of}
use Rattle.nv_calls.proofs.Allowed.{first_passes, leads_passes, walk_passes}
use Rattle.nv_calls.proofs.CallsAlike.{alike, by_held, files, finish, held_there, laid, leads_there, mounted, there}
use Rattle.nv_super.specs.Layout.{Layout}

module _ (l : Layout) (i : ℕ) (h : Held) where
  first_one : (j k : ℕ) → IsFirstDead l.sup h.kind i h.created h.entries h.pages (Some j) → IsFirstDead l.sup h.kind i h.created h.entries h.pages (Some k) → j ≡ k
  first_one j k p q = elim (cases_lt j k) [
    | inl before ↦ absurd (q.1 j before p.0)
    | inr behind ↦ elim (cases_lt k j) [ inl after ↦ absurd (p.1 k after q.0) | inr same ↦ omega (arith, behind, same) ]
  ]

  module _ (R S T U : Region) (held : Store) where
    -- what is found is one thing
    pub went_one : (x y : Option ℕ) → ShowsCleaned R T l held i h x → ShowsCleaned S U l held i h y → x ≡ y
    went_one None None p q = refl
    went_one None (Some c) p q = absurd (∥∥₁_elim q (hlevel props) (λ w. (let went = w.1 in let first = went.first in p.0 w.0 first.0)))
    went_one (Some b) None p q = absurd (∥∥₁_elim p (hlevel props) (λ w. (let went = w.1 in let first = went.first in q.0 w.0 first.0)))
    went_one (Some b) (Some c) p q = ap (λ (n : ℕ). Some n) (∥∥₁_elim p same (λ v. ∥∥₁_elim q same (λ w. (
        let one = v.1 in
        let other = w.1 in
        one.block ∙ ap (λ (k : ℕ). get_or h.pages k 0) (first_one v.0 w.0 one.first other.first) ∙ sym other.block)))) where
          same : IsProp (b ≡ c)
          same = hlevel (props, ℕ_set)

    -- and where a page went, what is shown then is so too
    went_same : (b : ℕ) → ShowsCleaned R T l held i h (Some b) → ShowsCleaned S U l held i h (Some b) → ShowSame l T U
    went_same b p q = ∥∥₁_elim p ∥∥₁_prop (λ v. ∥∥₁_map q (λ w. (
        let one = v.1 in
        let other = w.1 in
        (with_inode held i (Some (cleaned h v.0)), one.sound, subst (λ (k : ℕ). ShowsSound U l (with_inode held i (Some (cleaned h k)))) (sym (first_one v.0 w.0 one.first other.first)) other.sound))))

module _ (held : Store) (R S T U : Region) (m k : Mount ⊤) (names : List (List ℕ)) (is : IsFaultlessMount R m) (other : IsFaultlessMount S k) (w : ShowAlike m.layout held R S) (x y : Option ℕ)
    (allowed : IsAllowed (λ R m p n. clean_tests (world_of m) (tree_of R m.rows) p) R m names) (a : WasDone makes_no_change (logs_clean x) R m names T) (b : WasDone makes_no_change (logs_clean y) S k names U) where
  -- what is left of the log of the inode that the path leads to
  record Cleaned : Type 0 where
    i : ℕ
    h : Held
    first : ShowsCleaned R T m.layout held i h x
    second : ShowsCleaned S U m.layout held i h y

  both : Cleaned
  both =
      let t = tree_of R m.rows in
      let u = tree_of S k.rows in
      let behind = is_missing t (Some names) ∷ [] in
      let way = walk_passes t names behind (first_passes (is_bad (Some names)) (walk_tests t (Some names) ++ behind) (first_passes (m.read_only, ReadOnly) (stat_tests t (Some names)) allowed.1).1).1 in
      let led = leads_passes t names [] way.2 in
      let led_there = leads_there t u (alike held R S T U m k names is other w) names led.0 led.1 led.2 in
      let shown = led.2 in
      let h = held_there (mounted held R S T U m k names is other w) led.0 led.1 shown.shows in
      record {
        i = led.0;
        h = h.0;
        first = a.left led.0 led.1 held h.0 led.2 w.first h.1;
        second = subst (λ (l : Layout). ShowsCleaned S U l held led.0 h.0 y) (laid held R S T U m k names is other w) (b.left led.0 led_there.other held h.0 led_there.leads (there held R S T U m k names is other w) h.1);
      }

  answer_one : x ≡ y
  answer_one = let c = both in went_one m.layout c.i c.h R S T U held x y c.first c.second

  left_alike : (z : Option ℕ) → ShowsCleaned R T m.layout held both.i both.h z → ShowsCleaned S U m.layout held both.i both.h z → AreAlike T U
  left_alike None p q = ∣ (m.layout, held, subst (λ (Q : Region). ShowAlike m.layout held Q U) (sym p.1) (subst (λ (Q : Region). ShowAlike m.layout held R Q) (sym q.1) w)) ∣₁
  left_alike (Some z) p q = finish held R S T U m k names is other w a b (files held R S T U m k names is other w) (went_same m.layout both.i both.h R S T U held z p q)

  clean_alike : AreAlike T U
  clean_alike = let c = both in left_alike x c.first (subst (λ (z : Option ℕ). ShowsCleaned S U m.layout held c.i c.h z) (sym answer_one) c.second)

module _ (x y : Option ℕ) (R S T U : Region) (m k : Mount ⊤) (names : List (List ℕ)) (known : AreAlike R S) (is : IsFaultlessMount R m) (other : IsFaultlessMount S k) (allowed : IsAllowed (λ R m p n. clean_tests (world_of m) (tree_of R m.rows) p) R m names)
    (a : WasDone makes_no_change (logs_clean x) R m names T) (b : WasDone makes_no_change (logs_clean y) S k names U) where
  answers_prop : IsProp (x ≡ y)
  answers_prop = hlevel (props, ℕ_set)

  pub cleans_answer : x ≡ y
  cleans_answer = by_held R S m k (x ≡ y) answers_prop is known (λ held w. answer_one held R S T U m k names is other w x y allowed a b)

  pub cleans_leave : AreAlike T U
  cleans_leave = by_held R S m k (AreAlike T U) ∥∥₁_prop is known (λ held w. clean_alike held R S T U m k names is other w x y allowed a b)

pub cleans_alike : (x : Option ℕ) → KeepsAlike (λ R m p n. clean_tests (world_of m) (tree_of R m.rows) p) makes_no_change (logs_clean x)
cleans_alike x R S T U m k names known is other allowed a b = cleans_leave x x R S T U m k names known is other allowed a b

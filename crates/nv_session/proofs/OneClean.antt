-- `clean` answers one thing of a region, which shows one thing.
use Rattle.std.proofs.Common.{◌≡◌, inl, inr, ℕ, get_or, List, Option, Some, None, refl, sym, ap, subst, ◌∙◌, arith}
use Rattle.std.proofs.Math.Logic.{∥∥₁_elim}
use Rattle.std.proofs.Math.Nat.{ℕ_set}
use Rattle.std.proofs.Props.{props}
use Rattle.std.specs.Prelude.{⊤}
use Rattle.std.proofs.lemmas.Bool.{cases_lt}
use Rattle.nv_region.specs.Region.{Region}
use Rattle.nv_super.specs.Layout.{Layout}
use Rattle.nv_commit.proofs.Left.{one_held}
use Rattle.nv_deadpages.specs.Dead.{IsFirstDead}
use Rattle.nv_mounted.specs.Held.{Held, Store}
use Rattle.nv_mounted.specs.Mounted.{ShowsSound}
use Rattle.nv_calls.specs.CleanCall.{ShowsCleaned}
use Rattle.nv_calls.specs.Mount.{Mount}
use Rattle.nv_paths.specs.Seen.{tree_of}
use Rattle.nv_text.specs.Answers.{cleaned_line}
use Rattle.nv_history.specs.Called.{FindsPage, finds_page}
use Rattle.nv_calls.proofs.CleanAlike.{went_one}
use Rattle.nv_calls.proofs.SeenAlike.{alike_here, found_alike}
use Rattle.nv_session.proofs.OneCall.{AnsweredOnce, SameSeen}

-- what is found of one region twice, by mounts that nobody can tell apart
found_one : (S : Region) (m k : Mount ⊤) → SameSeen m k → (names : List (List ℕ)) (T U : Region) (x y : Option ℕ) → FindsPage x S m names T → FindsPage y S k names U → x ≡ y
found_one S m k same names T U x y p q =
    let first = p.leads in
    let second = q.leads in
    let one = p.sound in
    let other : ShowsSound S m.layout q.held = subst (λ (l : Layout). ShowsSound S l q.held) same.layout q.sound in
    let number : q.inode ≡ p.inode = (let both : Some q.inode ≡ Some p.inode = sym second.leads ∙ found_alike (tree_of S m.rows) (tree_of S k.rows) (alike_here S m.rows k.rows same.rows) names ∙ first.leads in cc) in
    let held : q.held ≡ p.held = one_held other.shows one.shows in
    let log : q.log ≡ p.log = (let both : Some q.log ≡ Some p.log = sym q.is ∙ (λ t. held t (number t)) ∙ p.is in cc) in
    went_one m.layout p.inode p.log S S T U p.held x y p.went
    (subst (λ (h : Held). ShowsCleaned S U m.layout p.held p.inode h y) log
    (subst (λ (i : ℕ). ShowsCleaned S U m.layout p.held i q.log y) number
    (subst (λ (st : Store). ShowsCleaned S U m.layout st q.inode q.log y) held
    (subst (λ (l : Layout). ShowsCleaned S U l q.held q.inode q.log y) same.layout q.went))))

-- so its line is one
pub clean_answered : AnsweredOnce cleaned_line finds_page
clean_answered S m k same names T U x y p q = ∥∥₁_elim p one (λ v. ∥∥₁_elim q one (λ w. ap cleaned_line (found_one S m k same names T U x y v w))) where
  one : IsProp (cleaned_line x ≡ cleaned_line y)
  one = texts_prop (cleaned_line x) (cleaned_line y) where
    texts_prop : (a b : List ℕ) → IsProp (a ≡ b)
    texts_prop a b = hlevel (props, ℕ_set)

-- A file call that writes, of two states that are alike: one text, and alike states.
use Rattle.std.proofs.Common.{◌≡◌, inl, inr, ℕ, ◌+◌, false, List, [], ◌∷◌, length, replicate, Option, Some, None, refl, sym, ap, subst, ◌∙◌}
use Rattle.std.specs.Prelude.{⊤}
use Rattle.std.proofs.Math.Logic.{∥∥₁_elim, ∥∥₁_map, ∥∥₁_prop}
use Rattle.std.proofs.Math.Nat.{ℕ_set}
use Rattle.std.proofs.Props.{props}
use Rattle.nv_region.specs.Region.{Region}
use Rattle.nv_super.specs.declared.superblock.Super.{Super}
use Rattle.nv_super.specs.Layout.{Layout}
use Rattle.nv_super.specs.declared.kind.Kind.{Kind}
use Rattle.nv_journal.specs.Undo.{undone}
use Rattle.nv_outcome.specs.Outcome.{Outcome}
use Rattle.nv_outcome.specs.Same.{SameOutcome}
use Rattle.nv_outcome.proofs.OnlyOne.{same_outcome}
use Rattle.nv_commit.proofs.Left.{one_held}
use Rattle.nv_mounted.specs.Held.{Held, Store}
use Rattle.nv_mounted.specs.Mounted.{ShowsSound, outcome_layout}
use Rattle.nv_tree.specs.Tree.{Node, Tree}
use Rattle.nv_tree.specs.Refusals.{Path, Tests, first_refusal, refusal_word, clean_tests, create_tests, link_tests, rename_tests, rmdir_tests, set_attr_tests, set_size_tests, stat_tests, unlink_tests, write_tests}
use Rattle.nv_tree.specs.declared.refusal.Refusal.{Refusal}
use Rattle.nv_tree.specs.declared.refusal.Refusal.TheVariants.{ReadOnly}
use Rattle.nv_tree.proofs.Texts.{says_one}
use Rattle.nv_text.specs.Answers.{cleaned_line, ok_line, refused_line}
use Rattle.nv_paths.specs.Seen.{LeadsTo, tree_of}
use Rattle.nv_calls.specs.Alike.{AreAlike, IsAllowed, IsFaultlessMount, KeepsAlike, WasDone}
use Rattle.nv_calls.specs.AttributesCall.{attributes_blocks}
use Rattle.nv_calls.specs.CleanCall.{ShowsCleaned}
use Rattle.nv_calls.specs.Effects.{Logs, LogsBytes, LogsUnlink, Makes, logs_attributes, logs_clean, logs_inode, logs_link, logs_removal, logs_rename, logs_size, makes_attributes, makes_bytes, makes_inode, makes_link, makes_no_change, makes_removal, makes_rename, makes_size, makes_unlink}
use Rattle.nv_calls.specs.LinkCalls.{link_blocks}
use Rattle.nv_calls.specs.Mount.{Mount, has_faults}
use Rattle.nv_calls.specs.MoveCalls.{rename_blocks}
use Rattle.nv_calls.specs.NameCalls.{create_blocks, name_blocks}
use Rattle.nv_calls.specs.SizeCall.{resized_blocks}
use Rattle.nv_calls.specs.UnlinkCalls.{unlink_blocks}
use Rattle.nv_calls.specs.World.{world_of}
use Rattle.nv_calls.proofs.Allowed.{first_passes}
use Rattle.nv_calls.proofs.CallsAlike.{attributes_alike_too, creates_alike, links_alike, removes_alike, renames_alike, sizes_alike, unlinks_alike, writes_alike}
use Rattle.nv_calls.proofs.CleanAlike.{cleans_answer, cleans_leave}
use Rattle.nv_calls.proofs.OneOutcome.{alike_faultless, faultless_bare, second_faultless}
use Rattle.nv_calls.proofs.SeenAlike.{Alike}
use Rattle.nv_session.specs.Alike.{AlikeStates, IsLeftOf, SeemSame}
use Rattle.nv_history.specs.Called.{FindsPage, finds_page}
use Rattle.nv_session.specs.Calls.{Asked, Asks, LeavesTables, LeavesTreeBy, asks_attributes, asks_clean, asks_create, asks_link, asks_remove, asks_rename, asks_size, asks_unlink, asks_write, mounted_as, seen_in}
use Rattle.nv_session.specs.Machine.{State, Calls, CallsByTwo, CallsMounted, CallsTelling, DoesCall, MayStop, RefusesCall}
use Rattle.nv_history.proofs.OneCall.{can_write}
use Rattle.nv_session.proofs.OneCall.{AskedOnce, SameSeen}
use Rattle.nv_session.proofs.SeemSame.{seen_one, sound_alike, trees_seem}

texts_prop : (s t : List ℕ) → IsProp (s ≡ t)
texts_prop s t = hlevel (props, ℕ_set)

never_prop : IsProp ⊥
never_prop = hlevel props

-- ---- what a call asks

-- a call that no test refuses is one of a mount that can be written
abbrev pub AsksToWrite : Asks → Type 0
AsksToWrite asks = (S : Region) (m : Mount ⊤) (p : Path) (tests : Tests) → asks S m p tests → first_refusal tests ≡ None → m.read_only ≡ false

-- What is left by two calls that were done, of alike regions: their answers are told by one line, and the regions are alike.
abbrev pub LeavesOnce : {A : Type 0} → (A → List ℕ) → Asks → Makes ⊤ → (A → Logs ⊤) → Type 0
LeavesOnce {A} line asks makes logs = (S Q T U : Region) (m k : Mount ⊤) (names : List (List ℕ)) (x y : A) (tests : Tests) → AreAlike S Q → IsFaultlessMount S m → IsFaultlessMount Q k → asks S m (Some names) tests → first_refusal tests ≡ None
    → WasDone makes (logs x) S m names T → WasDone makes (logs y) Q k names U → (line x ≡ line y) × AreAlike T U

module _ {asks : Asks} {R S Q P : Region} {path : List ℕ} (a : Asked asks R S path) (b : Asked asks Q P path) (mounted : SeemSame (Some R) (Some Q)) (region : SeemSame (Some S) (Some P)) where
  seen_same : SameSeen (seen_in a) (seen_in b)
  seen_same =
      let here = seen_one S P region a.here b.here a.of_here b.of_here in
      let shown = seen_one R Q mounted a.shown b.shown a.of_shown b.of_shown in
      record { sup = here.sup; layout = λ i. record { sup = here.sup i; chains = here.tables i }; rows = here.rows; pools = here.free; read_only = ap has_faults shown.faults }

  -- the same tests hold
  asked_alike : AskedOnce asks → Alike (tree_of S a.here.rows) (tree_of P b.here.rows) → first_refusal b.tests ≡ first_refusal a.tests
  asked_alike one alike = one S P (seen_in a) (seen_in b) seen_same alike a.of_here.free.pools a.path_is a.tests b.tests a.are
      (subst (λ (p : Path). asks P (seen_in b) p b.tests) (says_one path b.path_is a.path_is b.says a.says) b.are)

-- what a call left, as what was done
was_done : {A : Type 0} (Laid : Layout → Type 0) (makes : Makes ⊤) (logs : A → Logs ⊤) (S T : Region) (m : Mount ⊤) (names : List (List ℕ)) (x : A) → LeavesTreeBy Laid S T m (makes S m names) → logs x S m names T → WasDone makes (logs x) S m names T
was_done Laid makes logs S T m names x left l = record {
  layout = outcome_layout left.after;
  rows = left.after.rows;
  free = left.after.free;
  shown = faultless_bare T left.after left.shown left.faultless left.own;
  tree = left.tree;
  left = l;
}

-- what is left is its own undone region
own_left : (Laid : Layout → Type 0) (S T : Region) (m : Mount ⊤) (t : Tree) → LeavesTreeBy Laid S T m t → IsLeftOf (Some T) (Some T)
own_left Laid S T m t left o is =
    let same = same_outcome T left.after o left.shown is in
    sym left.own ∙ ap (λ (s : Super). undone s T) (sym same.sup)

-- ---- the call

module _ {A : Type 0} (grows : Option ℕ) (line : A → List ℕ) (asks : Asks) (makes : Makes ⊤) (logs : A → Logs ⊤) (path : List ℕ) (one : AskedOnce asks) (writes : AsksToWrite asks) (leaves : LeavesOnce line asks makes logs) (old other : State) (states : AlikeStates old other) where
  module _ (R S Q P : Region) (mounted : SeemSame (Some R) (Some Q)) (region : SeemSame (Some S) (Some P)) (left : IsLeftOf (Some R) (Some S)) (m n : State) (s t : List ℕ) where
    both_refused : RefusesCall asks R S path old s m → RefusesCall asks Q P path other t n → (s ≡ t) × AlikeStates m n
    both_refused p q = (
      ∥∥₁_elim (trees_seem S P region p.0.here q.0.here p.0.of_here q.0.of_here) (texts_prop s t) (λ alike.
          let first = p.1.1 in
          let second = q.1.1 in
          let same : p.1.0 ≡ q.1.0 = (let both : Some p.1.0 ≡ Some q.1.0 = sym first ∙ sym (asked_alike p.0 q.0 mounted region one alike) ∙ second in cc) in
          p.1.2 ∙ ap (λ (r : Refusal). refused_line (refusal_word r)) same ∙ sym q.1.2),
      subst (λ (x : State). AlikeStates x n) (sym p.2) (subst (λ (x : State). AlikeStates old x) (sym q.2) states),
    )

    first_refused : RefusesCall asks R S path old s m → DoesCall grows asks makes logs line Q P path other t n → ⊥
    first_refused p q = ∥∥₁_elim (trees_seem S P region p.0.here q.0.here p.0.of_here q.0.of_here) never_prop (λ alike. (let clash : Some p.1.0 ≡ None = sym p.1.1 ∙ sym (asked_alike p.0 q.0 mounted region one alike) ∙ q.1 in cc))

    second_refused : DoesCall grows asks makes logs line R S path old s m → RefusesCall asks Q P path other t n → ⊥
    second_refused p q = ∥∥₁_elim (trees_seem S P region p.0.here q.0.here p.0.of_here q.0.of_here) never_prop (λ alike. (let clash : Some q.1.0 ≡ None = sym q.1.1 ∙ asked_alike p.0 q.0 mounted region one alike ∙ p.1 in cc))

    module _ (p : DoesCall grows asks makes logs line R S path old s m) (q : DoesCall grows asks makes logs line Q P path other t n) where
      abbrev a : Asked asks R S path
      a = p.0

      abbrev b : Asked asks Q P path
      b = q.0

      same_names : q.2 ≡ p.2
      same_names = let both : Some q.2 ≡ Some p.2 = sym q.3 ∙ says_one path b.path_is a.path_is b.says a.says ∙ p.3 in cc

      asked : asks S (seen_in a) (Some p.2) a.tests
      asked = subst (λ (x : Path). asks S (seen_in a) x a.tests) p.3 a.are

      alike_here : AreAlike S P
      alike_here = sound_alike R S P a.shown a.of_shown (writes S (seen_in a) (Some p.2) a.tests asked p.1) (left a.shown a.of_shown) region

      done : WasDone makes (logs q.6) P (seen_in b) p.2 q.4
      done = subst (λ (ns : List (List ℕ)). WasDone makes (logs q.6) P (seen_in b) ns q.4) same_names (was_done (LeavesTables grows (seen_in b)) makes logs P q.4 (seen_in b) q.2 q.6 q.5 q.7)

      both_left : (line p.6 ≡ line q.6) × AreAlike p.4 q.4
      both_left = leaves S P p.4 q.4 (seen_in a) (seen_in b) p.2 p.6 q.6 a.tests alike_here (alike_faultless S P alike_here a.here a.of_here) (second_faultless S P alike_here b.here b.of_here) asked p.1 (was_done (LeavesTables grows (seen_in a)) makes logs S p.4 (seen_in a) p.2 p.6 p.5 p.7) done

      after : AlikeStates (record old { region = Some p.4; mounted = Some p.4 }) (record other { region = Some q.4; mounted = Some q.4 })
      after = record {
        region = inr both_left.1;
        mounted = inr both_left.1;
        time = states.time;
        last = states.last;
        armed = states.armed;
        first_left = own_left (LeavesTables grows (seen_in a)) S p.4 (seen_in a) (makes S (seen_in a) p.2) p.5;
        second_left = own_left (LeavesTables grows (seen_in b)) P q.4 (seen_in b) (makes P (seen_in b) q.2) q.5;
      }

      both_done : (s ≡ t) × AlikeStates m n
      both_done = (
        p.8 ∙ both_left.0 ∙ sym q.8,
        subst (λ (x : State). AlikeStates x n) (sym p.9) (subst (λ (x : State). AlikeStates (record old { region = Some p.4; mounted = Some p.4 }) x) (sym q.9) after),
      )

  pub called_alike : (mounted others region another : Option Region) → SeemSame mounted others → SeemSame region another → IsLeftOf mounted region → (m n : State) (s t : List ℕ)
      → CallsMounted grows asks makes logs line path mounted region old s m → CallsMounted grows asks makes logs line path others another other t n → (s ≡ t) × AlikeStates m n
  called_alike None None region another seem seem_region left m n s t p q = (p.0 ∙ sym q.0, subst (λ (x : State). AlikeStates x n) (sym p.1) (subst (λ (x : State). AlikeStates old x) (sym q.1) states))
  called_alike None (Some Q) region another seem seem_region left m n s t p q = absurd seem
  called_alike (Some R) None region another seem seem_region left m n s t p q = absurd seem
  called_alike (Some R) (Some Q) None another seem seem_region left m n s t p q = absurd p
  called_alike (Some R) (Some Q) (Some S) None seem seem_region left m n s t p q = absurd q
  called_alike (Some R) (Some Q) (Some S) (Some P) seem seem_region left m n s t (inl p) (inl q) = both_refused R S Q P seem seem_region left m n s t p q
  called_alike (Some R) (Some Q) (Some S) (Some P) seem seem_region left m n s t (inl p) (inr q) = absurd (first_refused R S Q P seem seem_region left m n s t p q)
  called_alike (Some R) (Some Q) (Some S) (Some P) seem seem_region left m n s t (inr p) (inl q) = absurd (second_refused R S Q P seem seem_region left m n s t p q)
  called_alike (Some R) (Some Q) (Some S) (Some P) seem seem_region left m n s t (inr p) (inr q) = both_done R S Q P seem seem_region left m n s t p q

  pub telling_alike : (stops others : Logs ⊤) (m n : State) (s t : List ℕ) → CallsTelling grows line false asks makes logs stops path old s m → CallsTelling grows line false asks makes logs others path other t n → (s ≡ t) × AlikeStates m n
  telling_alike stops others m n s t (inl p) (inl q) = called_alike old.mounted other.mounted old.region other.region states.mounted states.region states.first_left m n s t p q
  telling_alike stops others m n s t (inl p) (inr q) = absurd (let never = q.0 in cc)
  telling_alike stops others m n s t (inr p) q = absurd (let never = p.0 in cc)

-- ---- what each call asks, and what it leaves

-- where there is nothing to answer
ok_once : (asks : Asks) (makes : Makes ⊤) (logs : Logs ⊤) (tests : Region → Mount ⊤ → Path → ℕ → Tests) → ((S : Region) (m : Mount ⊤) (names : List (List ℕ)) (all : Tests) → asks S m (Some names) all → first_refusal all ≡ None → IsAllowed tests S m names) → KeepsAlike tests makes logs
    → LeavesOnce (λ (done : Unit {0}). ok_line) asks makes (λ done. logs)
ok_once asks makes logs tests allowed keeps S Q T U m k names x y all known is other asked none a b = (refl, keeps S Q T U m k names known is other (allowed S m names all asked none) a b)

pub create_writes : (cpu : ℕ) → AsksToWrite (asks_create cpu)
create_writes cpu S m p tests is none = can_write (world_of m) cpu _ tests is none

pub create_leaves : (kind : Kind) (cpu mode time : ℕ) → LeavesOnce (λ (done : Unit {0}). ok_line) (asks_create cpu) (makes_inode kind cpu mode time) (λ done. logs_inode kind cpu mode time)
create_leaves kind cpu mode time = ok_once (asks_create cpu) (makes_inode kind cpu mode time) (logs_inode kind cpu mode time) (λ R m p n. create_tests (world_of m) (tree_of R m.rows) cpu p n)
    (λ S m names all is none. (create_blocks m.layout m.rows cpu (tree_of S m.rows) (Some names), ap first_refusal (sym is) ∙ none)) (creates_alike kind cpu mode time)

pub write_writes : (cpu offset count time : ℕ) → AsksToWrite (asks_write cpu offset count time)
write_writes cpu offset count time S m p tests is none = can_write (world_of m) cpu _ tests is.2 none

pub write_leaves : (cpu offset count : ℕ) (bytes : List ℕ) (time : ℕ) → LeavesOnce (λ (done : Unit {0}). ok_line) (asks_write cpu offset count time) (makes_bytes offset bytes time) (λ done. LogsBytes cpu offset count time)
write_leaves cpu offset count bytes time = ok_once (asks_write cpu offset count time) (makes_bytes offset bytes time) (LogsBytes cpu offset count time) (λ R m p n. write_tests (world_of m) (tree_of R m.rows) cpu p (offset + count) n)
    (λ S m names all is none. (is.0, ap first_refusal (sym is.2) ∙ none)) (writes_alike cpu offset count bytes time)

pub size_writes : (cpu bytes : ℕ) → AsksToWrite (asks_size cpu bytes)
size_writes cpu bytes S m p tests is none = can_write (world_of m) cpu _ tests is none

pub size_leaves : (cpu bytes time : ℕ) → LeavesOnce (λ (done : Unit {0}). ok_line) (asks_size cpu bytes) (makes_size bytes time) (λ done. logs_size cpu bytes time)
size_leaves cpu bytes time = ok_once (asks_size cpu bytes) (makes_size bytes time) (logs_size cpu bytes time) (λ R m p n. set_size_tests (world_of m) (tree_of R m.rows) cpu p bytes n)
    (λ S m names all is none. (resized_blocks m.rows (tree_of S m.rows) (Some names) bytes, ap first_refusal (sym is) ∙ none)) (sizes_alike cpu bytes time)

pub attributes_write : (cpu : ℕ) → AsksToWrite (asks_attributes cpu)
attributes_write cpu S m p tests is none = can_write (world_of m) cpu _ tests is none

pub attributes_leave : (cpu mode owner group time : ℕ) → LeavesOnce (λ (done : Unit {0}). ok_line) (asks_attributes cpu) (makes_attributes mode owner group time) (λ done. logs_attributes cpu mode owner group time)
attributes_leave cpu mode owner group time = ok_once (asks_attributes cpu) (makes_attributes mode owner group time) (logs_attributes cpu mode owner group time) (λ R m p n. set_attr_tests (world_of m) (tree_of R m.rows) cpu p n)
    (λ S m names all is none. (attributes_blocks m.rows (tree_of S m.rows) (Some names), ap first_refusal (sym is) ∙ none)) (attributes_alike_too cpu mode owner group time)

pub link_writes : (cpu : ℕ) (q : Path) → AsksToWrite (asks_link cpu q)
link_writes cpu q S m p tests is none = can_write (world_of m) cpu _ tests is none

pub link_leaves : (cpu time : ℕ) (q : Path) → LeavesOnce (λ (done : Unit {0}). ok_line) (asks_link cpu q) (makes_link time q) (λ done. logs_link cpu time q)
link_leaves cpu time q = ok_once (asks_link cpu q) (makes_link time q) (logs_link cpu time q) (λ R m p n. link_tests (world_of m) (tree_of R m.rows) cpu p q n)
    (λ S m names all is none. (link_blocks m.rows (tree_of S m.rows) (Some names) q, ap first_refusal (sym is) ∙ none)) (links_alike cpu time q)

pub unlink_writes : (cpu : ℕ) → AsksToWrite (asks_unlink cpu)
unlink_writes cpu S m p tests is none = can_write (world_of m) cpu _ tests is none

pub unlink_leaves : (cpu time : ℕ) → LeavesOnce (λ (done : Unit {0}). ok_line) (asks_unlink cpu) (makes_unlink time) (λ done. LogsUnlink cpu time)
unlink_leaves cpu time = ok_once (asks_unlink cpu) (makes_unlink time) (LogsUnlink cpu time) (λ R m p n. unlink_tests (world_of m) (tree_of R m.rows) cpu p n)
    (λ S m names all is none. (unlink_blocks m.rows (tree_of S m.rows) (Some names), ap first_refusal (sym is) ∙ none)) (unlinks_alike cpu time)

pub remove_writes : (cpu : ℕ) → AsksToWrite (asks_remove cpu)
remove_writes cpu S m p tests is none = can_write (world_of m) cpu _ tests is none

pub remove_leaves : (cpu time : ℕ) → LeavesOnce (λ (done : Unit {0}). ok_line) (asks_remove cpu) (makes_removal time) (λ done. logs_removal cpu time)
remove_leaves cpu time = ok_once (asks_remove cpu) (makes_removal time) (logs_removal cpu time) (λ R m p n. rmdir_tests (world_of m) (tree_of R m.rows) cpu p n)
    (λ S m names all is none. (name_blocks m.rows (tree_of S m.rows) (Some names), ap first_refusal (sym is) ∙ none)) (removes_alike cpu time)

pub rename_writes : (cpu : ℕ) (q : Path) → AsksToWrite (asks_rename cpu q)
rename_writes cpu q S m p tests is none = can_write (world_of m) cpu _ tests is none

pub rename_leaves : (cpu time : ℕ) (q : Path) → LeavesOnce (λ (done : Unit {0}). ok_line) (asks_rename cpu q) (makes_rename time q) (λ done. logs_rename cpu time q)
rename_leaves cpu time q = ok_once (asks_rename cpu q) (makes_rename time q) (logs_rename cpu time q) (λ R m p n. rename_tests (world_of m) (tree_of R m.rows) cpu p q n)
    (λ S m names all is none. (rename_blocks m.rows (tree_of S m.rows) (Some names) q, ap first_refusal (sym is) ∙ none)) (renames_alike cpu time q)

-- ---- clean

pub clean_writes : AsksToWrite asks_clean
clean_writes S m p tests is none = (first_passes (m.read_only, ReadOnly) (stat_tests (tree_of S m.rows) p) (ap first_refusal (sym is) ∙ none)).0

-- what was found is so for all that the region shows
found_logs : (x : Option ℕ) (S T : Region) (m : Mount ⊤) (names : List (List ℕ)) → FindsPage x S m names T → logs_clean x S m names T
found_logs x S T m names f i node held h leads sound at =
    let led = f.leads in
    let mine = f.sound in
    let number : f.inode ≡ i = (let both : Some f.inode ≡ Some i = sym led.leads ∙ leads.leads in cc) in
    let store : f.held ≡ held = one_held mine.shows sound.shows in
    let log : f.log ≡ h = (let both : Some f.log ≡ Some h = sym f.is ∙ (λ j. store j (number j)) ∙ at in cc) in
    subst (λ (g : Held). ShowsCleaned S T m.layout held i g x) log
    (subst (λ (n : ℕ). ShowsCleaned S T m.layout held n f.log x) number
    (subst (λ (st : Store). ShowsCleaned S T m.layout st f.inode f.log x) store f.went))

with_logs : (x : Option ℕ) (S T : Region) (m : Mount ⊤) (names : List (List ℕ)) → WasDone makes_no_change (finds_page x) S m names T → ∥ (WasDone makes_no_change (logs_clean x) S m names T) ∥₁
with_logs x S T m names a = ∥∥₁_map a.left (λ f. record { layout = a.layout; rows = a.rows; free = a.free; shown = a.shown; tree = a.tree; left = found_logs x S T m names f })

pub clean_leaves : LeavesOnce cleaned_line asks_clean makes_no_change finds_page
clean_leaves S Q T U m k names x y tests known is other asked none a b =
    let allowed : IsAllowed (λ R m p n. clean_tests (world_of m) (tree_of R m.rows) p) S m names = (0, ap first_refusal (sym asked) ∙ none) in
    let first = with_logs x S T m names a in
    let second = with_logs y Q U k names b in (
      ∥∥₁_elim first (texts_prop (cleaned_line x) (cleaned_line y)) (λ v. ∥∥₁_elim second (texts_prop (cleaned_line x) (cleaned_line y)) (λ w. ap cleaned_line (cleans_answer x y S Q T U m k names known is other allowed v w))),
      ∥∥₁_elim first ∥∥₁_prop (λ v. ∥∥₁_elim second ∥∥₁_prop (λ w. cleans_leave x y S Q T U m k names known is other allowed v w)),
    )

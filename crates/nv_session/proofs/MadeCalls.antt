-- What a call leaves, for each state that the session stands for, by what nv_history says of the call.
use Rattle.std.proofs.Common.{◌≡◌, ◌⊎◌, inl, inr, ℕ, ◌+◌, Bool, true, false, not, IsTrue, List, [], length, Option, Some, None, Result, Ok, Err, IfOk, OnOk, refl, sym, ap, subst, ◌∙◌}
use Rattle.std.specs.Prelude.{⊤, MatchResult, codes, replicate}
use Rattle.std.proofs.Math.Logic.{∥∥₁_map}
use Rattle.std.proofs.lemmas.List.{length-replicate}
use Rattle.std.proofs.lemmas.Result.{IfOk-weaker}
use Rattle.nv_region.specs.Region.{Region}
use Rattle.nv_region.specs.RegionState.{RegionState, fenced_or_last, is_off}
use Rattle.nv_region.specs.Stops.{LeavesOnly}
use Rattle.nv_region.specs.declared.memory.Fuse.{Fuse}
use Rattle.nv_super.specs.declared.kind.Kind.TheVariants.{File, Directory}
use Rattle.nv_super.specs.declared.owners.Run.{Run}
use Rattle.nv_super.specs.Layout.{Layout}
use Rattle.nv_journal.specs.Undo.{undone}
use Rattle.nv_scan.specs.declared.piece.Row.{Row}
use Rattle.nv_mounted.specs.Held.{Held, Store}
use Rattle.nv_tree.specs.Path.{IsPath, Says}
use Rattle.nv_tree.specs.Tree.{SameTree, Tree}
use Rattle.nv_tree.specs.Refusals.{Path, Tests, first_refusal, write_tests}
use Rattle.nv_tree.specs.declared.refusal.Refusal.{Refusal}
use Rattle.nv_tree.specs.declared.refusal.Refusal.TheVariants.{Stopped}
use Rattle.nv_tree.proofs.Texts.{text_says}
use Rattle.nv_steps.specs.declared.planning.Plan.{Plan}
use Rattle.nv_text.specs.Answers.{cleaned_line, ok_line, refused_line}
use Rattle.nv_paths.specs.Seen.{tree_of}
use Rattle.nv_paths.specs.Spots.{new_number}
use Rattle.nv_calls.specs.Effects.{Logs, LogsBytes, LogsMove, LogsUnlink, Makes, logs_attributes, logs_inode, logs_link, logs_page_less, logs_removal, logs_rename, logs_size}
use Rattle.nv_calls.specs.Effects.{makes_attributes, makes_bytes, makes_inode, makes_link, makes_no_change, makes_removal, makes_rename, makes_size, makes_unlink}
use Rattle.nv_calls.specs.Mount.{IsKept, Mount}
use Rattle.nv_calls.specs.Same.{GrowsMount, GrowsWhereFull, IsLaidFor, KeepsMount}
use Rattle.nv_calls.specs.Stopped.{IsAsMade, IsAsMounted, LeavesCall, StopLeaves}
use Rattle.nv_calls.specs.World.{world_of}
use Rattle.nv_calls.specs.WriteCall.{ShowsLogWrite, WriteNeeds}
use Rattle.nv_calls.proofs.NeedsExist.{write_needs}
use Rattle.nv_history.specs.Asking.{AreTestsOf, attributes_asked, clean_asked, create_asked, link_asked, removal_asked, rename_asked, size_asked, unlink_asked}
use Rattle.nv_history.specs.Called.{AreNames, finds_page}
use Rattle.nv_history.specs.Said as saids
use Rattle.nv_history.specs.Said.{Said}
use Rattle.nv_history.specs.declared.calls.Answer.{Answer}
use Rattle.nv_history.specs.declared.calls.Answer.TheVariants.{Done, Cleaned}
use Rattle.nv_history.proofs.OneCall.{tests_named, tests_write}
use Rattle.nv_line.specs.Request.{Request, Format, Time, Poke, Cut, Recover, Replay, ListNames, Stat, Read, Create, MakeDirectory, Write, SetSize, SetAttributes, Link, Unlink, RemoveDirectory, Rename, Clean, Upgrade, Tree as TreeOf, Free, Faults, Report, Peek, Stop}
use Rattle.nv_session.specs.Calls.{Asks, LeavesStopped, asks_attributes, asks_clean, asks_create, asks_link, asks_remove, asks_rename, asks_size, asks_unlink, asks_write}
use Rattle.nv_session.specs.Commands.{answer_line, call_at}
use Rattle.nv_session.specs.Machine.{Calls, CallsBy, CallsTelling, Does, directory_mode, file_mode}
use Rattle.nv_session.specs.Sessions.{IsSettled, Moves, SettlesCall, TakesMount}
use Rattle.nv_session.specs.declared.session.Session.{Session}
use Rattle.nv_session.proofs.Calling.{Answers, Called, KeepsBy, LaidBy, MakesCall, seen, telling_moves, two_moves, uncalled_moves, untold_moves}
use Rattle.nv_session.proofs.Standing.{not_stopped}
use Rattle.nv_session.proofs.Upgrading.{not_upgraded_moves, upgraded_moves}

-- ---- an answer, as the line of a command has it

abbrev picked : {A : Type 0} → (Answer → A) → Result Answer Refusal → Result A Refusal
picked pick (Ok x) = Ok (pick x)
picked pick (Err e) = Err e

module _ {A : Type 0} (pick : Answer → A) (line : A → List ℕ) where
  picked_answers : (asks : Asks) (m : Mount RegionState) (p : Path) (r : Result Answer Refusal) → Answers asks m r p → Answers asks m (picked pick r) p
  picked_answers asks m p (Ok x) w = record { tests = w.tests; are = w.are; allowed = w.allowed; refused = w.refused; writes = w.writes; named = w.named }
  picked_answers asks m p (Err e) w = record { tests = w.tests; are = w.are; allowed = w.allowed; refused = w.refused; writes = w.writes; named = w.named }

  picked_laid : (grows : Option ℕ) (m : Mount RegionState) (after : Layout) (r : Result Answer Refusal) → LaidBy grows m after r → LaidBy grows m after (picked pick r)
  picked_laid None m after r laid = tt
  picked_laid (Some cpu) m after (Ok x) laid = laid
  picked_laid (Some cpu) m after (Err e) laid = tt

  module _ (grows : Option ℕ) (asks : Asks) (makes : Makes ⊤) (logs : A → Logs ⊤) (stops : Logs ⊤) (path : List ℕ) (m n : Mount RegionState) where
    picked_called : (r : Result Answer Refusal) → Called grows asks makes (λ (x : Answer). logs (pick x)) stops path m n r → Called grows asks makes logs stops path m n (picked pick r)
    picked_called (Ok x) c = record {
      answers = λ p says. picked_answers asks m p (Ok x) (c.answers p says);
      changed = c.changed;
      logged = c.logged;
      unchanged = c.unchanged;
      stopped = λ runs. ((λ on. absurd (let clash : ◌≡◌ {A = Result Answer Refusal} (Ok x) (Err Stopped) = ((c.stopped runs).0 on).0 in cc)), (λ is. absurd (cc)));
      keeps = c.keeps;
      laid = picked_laid grows m n.layout (Ok x) c.laid;
      as_long = c.as_long;
      steady = c.steady;
      read_only = c.read_only;
      bad_text = c.bad_text;
      any_stop = c.any_stop;
      settled = c.settled;
      kept = c.kept;
    }
    picked_called (Err e) c = record {
      answers = λ p says. picked_answers asks m p (Err e) (c.answers p says);
      changed = c.changed;
      logged = c.logged;
      unchanged = c.unchanged;
      stopped = λ runs. (let told = c.stopped runs in ((λ on. (same_stop (told.0 on).0, (told.0 on).1)), (λ is. told.1 (other_stop is))));
      keeps = c.keeps;
      laid = picked_laid grows m n.layout (Err e) c.laid;
      as_long = c.as_long;
      steady = c.steady;
      read_only = c.read_only;
      bad_text = c.bad_text;
      any_stop = c.any_stop;
      settled = c.settled;
      kept = c.kept;
    } where
      same_stop : ◌≡◌ {A = Result Answer Refusal} (Err e) (Err Stopped) → ◌≡◌ {A = Result A Refusal} (Err e) (Err Stopped)
      same_stop is = (let one : e ≡ Stopped = cc in ap (λ (f : Refusal). Err f) one)

      other_stop : ◌≡◌ {A = Result A Refusal} (Err e) (Err Stopped) → ◌≡◌ {A = Result Answer Refusal} (Err e) (Err Stopped)
      other_stop is = (let one : e ≡ Stopped = cc in ap (λ (f : Refusal). Err f) one)

    -- The line of an answer is told by what the call leaves, since a call that was made has a path.
    told_line : (r : Result Answer Refusal) → Called grows asks makes (λ (x : Answer). logs (pick x)) stops path m n r → ((names : List (List ℕ)) → IsPath path names → IfOk r (λ x. answer_line x ≡ line (pick x))) → IfOk r (λ x. answer_line x ≡ line (pick x))
    told_line (Err e) c told = tt
    told_line (Ok x) c told = by (text_says path) where
      by : (p : Path) × Says path p → answer_line x ≡ line (pick x)
      by (None, says) = (let w = c.answers None says in absurd (w.named w.allowed refl))
      by (Some names, says) = told names says

  picked_settles : (m : Mount RegionState) (r : Result Answer Refusal) (mid new : Session) (text : List ℕ) → IfOk r (λ x. answer_line x ≡ line (pick x)) → SettlesCall answer_line m r mid text new → SettlesCall line m (picked pick r) mid text new
  picked_settles m (Ok x) mid new text told s = (s.0 ∙ told, s.1)
  picked_settles m (Err e) mid new text told s = s

-- the page that an answer tells
abbrev page_in : Answer → Option ℕ
page_in Done = None
page_in (Cleaned page) = page

-- ---- what is said of the mount with its memory, of the one without

write_seen : (T : Region) (m : Mount RegionState) (cpu : ℕ) (held : Store) (i : ℕ) (h : Held) (plan : Plan) → ShowsLogWrite T m cpu held i h plan → ShowsLogWrite T (seen m) cpu held i h plan
write_seen T m cpu held i h plan known = ∥∥₁_map known (λ w. record { runs = w.runs; rest = w.rest; taken = w.taken; grew = w.grew; zeros = w.zeros })

stop_seen : (R : Region) (l : Layout) (rows : List Row) (free : List (List Run)) (made : Tree) (First Second : Region → Type 0) → ((T : Region) → First T → Second T) → (left : Region) → StopLeaves R l rows free made First left → StopLeaves R l rows free made Second left
stop_seen R l rows free made First Second weaker left known = ∥∥₁_map known by where
  by : IsAsMounted R l rows free left ⊎ IsAsMade l made First left → IsAsMounted R l rows free left ⊎ IsAsMade l made Second left
  by (inl mounted) = inl mounted
  by (inr made) = inr (record { rows = made.rows; free = made.free; recovers = made.recovers; tree = made.tree; logs = weaker (undone l.sup left) made.logs })

module _ (m : Mount RegionState) (names : List (List ℕ)) (T : Region) where
  abbrev R : Region
  R = m.memory.region

  bytes_seen : (cpu offset bytes time : ℕ) → LogsBytes cpu offset bytes time R m names T → LogsBytes cpu offset bytes time R (seen m) names T
  bytes_seen cpu offset bytes time known = record { some = λ i node held h leads sound at pos. write_seen T m cpu held i h _ (known.some i node held h leads sound at pos); none = known.none }

  unlink_seen : (cpu time : ℕ) → LogsUnlink cpu time R m names T → LogsUnlink cpu time R (seen m) names T
  unlink_seen cpu time known = record { more = known.more; last = known.last }

  move_seen : (cpu time : ℕ) (others : List (List ℕ)) → LogsMove cpu time others R m names T → LogsMove cpu time others R (seen m) names T
  move_seen cpu time others known = record { across = known.across; within = known.within }

  page_seen : (page : Option ℕ) → finds_page page R m names T → finds_page page R (seen m) names T
  page_seen page known = ∥∥₁_map known (λ w. record { inode = w.inode; node = w.node; held = w.held; log = w.log; leads = w.leads; sound = w.sound; is = w.is; went = w.went })

-- ---- what is kept

both : {A : Type 0} (r : Result A Refusal) (X : Type 0) → MatchResult r (λ _. X) (λ _. X) → X
both (Ok x) X is = is
both (Err e) X is = is

either : {A : Type 0} (r : Result A Refusal) (X Y : Type 0) → MatchResult r (λ _. X × Y) (λ _. X) → X
either (Ok x) X Y is = is.0
either (Err e) X Y is = is

second : {A : Type 0} (r : Result A Refusal) (X Y : Type 0) → MatchResult r (λ _. X × Y) (λ _. X) → OnOk r Y
second (Ok x) X Y is = is.1
second (Err e) X Y is = tt

-- ---- a second path: what holds of each that is one holds of the text's, since by what is none nothing is made

by_second : (r : Result Answer Refusal) (other : List ℕ) (tests : Tests) (holds : Answer → Path → Type 0) → OnOk r (first_refusal tests ≡ None) → (first_refusal tests ≡ None → (others : List (List ℕ)) × IsPath other others) → ((others : List (List ℕ)) → IsPath other others → IfOk r (λ x. holds x (Some others)))
    → (q : Path) → Says other q → IfOk r (λ x. holds x q)
by_second r other tests holds allowed named each (Some others) says = each others says
by_second (Ok x) other tests holds allowed named each None says = absurd (let n = named allowed in says n.0 n.1)
by_second (Err e) other tests holds allowed named each None says = tt

by_path : (other : List ℕ) (holds : Path → Type 0) → (((others : List (List ℕ)) → IsPath other others → ⊥) → ⊥) → ((others : List (List ℕ)) → IsPath other others → holds (Some others)) → (q : Path) → Says other q → holds q
by_path other holds some each None says = absurd (some says)
by_path other holds some each (Some others) says = each others says

-- ---- a call on what is mounted

module _ (fuse : Fuse) (old mid new : Session) (m n : Mount RegionState) (r : Result Answer Refusal) (text : List ℕ) (takes : TakesMount fuse old (Some m) mid) (before : IsKept m.memory.region m.sup m.layout m.rows m.free m.faults m.read_only m.stopped)
    (kept : IsKept n.memory.region n.sup n.layout n.rows n.free n.faults n.read_only n.stopped) (settled : n.stopped ≡ false → IsSettled n.memory) (settles : SettlesCall answer_line n r mid text new) where
  abbrev armed : Bool
  armed = not (is_off fuse)

  abbrev S : Region
  S = m.memory.region

  abbrev T : Region
  T = n.memory.region

  abbrev time : ℕ
  time = mid.time

  abbrev Made : Said → Type 0
  Made call = MakesCall call m n r

  picked_moves : {A : Type 0} (pick : Answer → A) (line : A → List ℕ) (grows : Option ℕ) (asks : ℕ → Asks) (makes : ℕ → Makes ⊤) (logs : ℕ → A → Logs ⊤) (stops : ℕ → Logs ⊤) (path : List ℕ)
      → Called grows (asks time) (makes time) (λ (x : Answer). logs time (pick x)) (stops time) path m n r → ((names : List (List ℕ)) → IsPath path names → IfOk r (λ x. answer_line x ≡ line (pick x)))
      → Moves (λ state said next. CallsTelling grows line armed (asks state.time) (makes state.time) (logs state.time) (stops state.time) path state said next) old text new
  picked_moves pick line grows asks makes logs stops path called told = telling_moves grows line asks makes logs stops path fuse old mid new m n (picked pick r) text takes
      (picked_called pick line grows (asks time) (makes time) (logs time) (stops time) path m n r called)
      (picked_settles pick line n r mid new text (told_line pick line grows (asks time) (makes time) (logs time) (stops time) path m n r called told) settles)

  -- ---- by what nv_history says of a call

  module _ (call : Said) (made : Made call) (path : List ℕ) (first : (names others : List (List ℕ)) → AreNames call names others → IsPath path names) where
    answers_by : (asks : Asks) → ((p : Path) → Says path p → (tests : Tests) × AreTestsOf S m call tests × asks S (seen m) p tests) → (p : Path) → Says path p → Answers asks m r p
    answers_by asks asked p says = (let w = asked p says in record {
      tests = w.0;
      are = w.2;
      allowed = made.allowed w.0 w.1;
      refused = λ runs. made.refused runs w.0 w.1;
      writes = λ none. tests_write S m call w.0 w.1 none;
      named = λ none is. (let c = tests_named S m call w.0 w.1 none in subst (λ (q : Path). Says path q) is says c.0 (first c.0 c.1 c.2));
    })

    called_so : (grows : Option ℕ) (asks : Asks) (makes : Makes ⊤) (logs : Answer → Logs ⊤) (stops : Logs ⊤) → ((p : Path) → Says path p → (tests : Tests) × AreTestsOf S m call tests × asks S (seen m) p tests)
        → ((names : List (List ℕ)) → IsPath path names → OnOk r (SameTree (tree_of T n.rows) (makes S (seen m) names))) → ((names : List (List ℕ)) → IsPath path names → IfOk r (λ x. logs x S (seen m) names T)) → KeepsBy grows m n → LaidBy grows m n.layout r
        → ((names : List (List ℕ)) → IsPath path names → m.stopped ≡ false → m.read_only ≡ false → IsTrue n.stopped → LeavesOnly T (fenced_or_last n.memory) (LeavesStopped grows makes stops S (seen m) names)) → Called grows asks makes logs stops path m n r
    called_so grows asks makes logs stops asked changed logged keeps laid any_stop = record {
      answers = answers_by asks asked;
      changed = changed;
      logged = logged;
      unchanged = made.kept.unchanged;
      stopped = made.kept.stopped;
      keeps = keeps;
      laid = laid;
      as_long = made.kept.length;
      steady = made.kept.keeps_fuse.steady;
      read_only = made.kept.read_only;
      bad_text = λ none. made.bad_text (λ names others is. none names (first names others is));
      any_stop = any_stop;
      settled = settled;
      kept = kept;
    }

    -- of a call that answers nothing but that it is made
    done_moves : (grows : Option ℕ) (asks : ℕ → Asks) (makes : ℕ → Makes ⊤) (logs : ℕ → Logs ⊤) → ((p : Path) → Says path p → (tests : Tests) × AreTestsOf S m call tests × asks time S (seen m) p tests)
        → ((names : List (List ℕ)) → IsPath path names → OnOk r (SameTree (tree_of T n.rows) (makes time S (seen m) names))) → ((names : List (List ℕ)) → IsPath path names → IfOk r (λ x. (x ≡ Done) × logs time S (seen m) names T)) → KeepsBy grows m n → LaidBy grows m n.layout r
        → ((names : List (List ℕ)) → IsPath path names → m.stopped ≡ false → m.read_only ≡ false → IsTrue n.stopped → LeavesOnly T (fenced_or_last n.memory) (LeavesStopped grows (makes time) (logs time) S (seen m) names))
        → Moves (λ state said next. CallsBy grows armed (asks state.time) (makes state.time) (logs state.time) path state said next) old text new
    done_moves grows asks makes logs asked changed logged keeps laid any_stop = picked_moves (λ (x : Answer). tt) (λ (done : Unit {0}). ok_line) grows asks makes (λ now done. logs now) logs path
        (called_so grows (asks time) (makes time) (λ x. logs time) (logs time) asked changed (λ names is. IfOk-weaker r _ _ (λ x known. known.1) (logged names is)) keeps laid any_stop)
        (λ names is. IfOk-weaker r _ _ (λ x known. ap answer_line known.0) (logged names is))

  -- where no table grows
  keeps_all : (call : Said) (made : Made call) → (MatchResult r (λ _. n.sup ≡ m.sup) (λ _. n.sup ≡ m.sup)) → (MatchResult r (λ _. n.layout ≡ m.layout) (λ _. n.layout ≡ m.layout)) → KeepsMount m n
  keeps_all call made sup laid = record { sup = both r (n.sup ≡ m.sup) sup; layout = both r (n.layout ≡ m.layout) laid; faults = made.kept.faults; read_only = made.kept.mode }

  -- where one may
  keeps_but : (cpu : ℕ) (call : Said) (made : Made call) → (MatchResult r (λ _. n.sup ≡ m.sup) (λ _. n.sup ≡ m.sup))
      → (MatchResult r (λ _. GrowsWhereFull m cpu n.layout × IsLaidFor m.layout cpu (new_number m.layout m.rows cpu) n.layout) (λ _. GrowsWhereFull m cpu n.layout)) → GrowsMount cpu m n
  keeps_but cpu call made sup laid = record { sup = both r (n.sup ≡ m.sup) sup; tables = either r _ _ laid; faults = made.kept.faults; read_only = made.kept.mode }

  laid_for : (cpu : ℕ) → MatchResult r (λ _. GrowsWhereFull m cpu n.layout × IsLaidFor m.layout cpu (new_number m.layout m.rows cpu) n.layout) (λ _. GrowsWhereFull m cpu n.layout)
      → OnOk r (IsLaidFor m.layout cpu (new_number m.layout m.rows cpu) n.layout)
  laid_for cpu laid = second r _ _ laid

  -- ---- a row for each call

  create_moves : (cpu : ℕ) (path : List ℕ) (mode : ℕ) → Made (saids.Create cpu path mode time)
      → Moves (λ state said next. CallsBy (Some cpu) armed (asks_create cpu) (makes_inode File cpu mode state.time) (logs_inode File cpu mode state.time) path state said next) old text new
  create_moves cpu path mode made = done_moves (saids.Create cpu path mode time) made path (λ names others is. is.0) (Some cpu) (λ now. asks_create cpu) (makes_inode File cpu mode) (logs_inode File cpu mode)
      (λ p says. (create_asked S m cpu p, (p, says, refl), refl)) (λ names is. made.changed names [] (is, refl)) (λ names is. made.logged names [] (is, refl)) (keeps_but cpu _ made made.kept.sup made.kept.laid) (laid_for cpu made.kept.laid)
      (λ names is runs writes stops. made.any_stop names [] (is, refl) runs writes)

  mkdir_moves : (cpu : ℕ) (path : List ℕ) (mode : ℕ) → Made (saids.MakeDirectory cpu path mode time)
      → Moves (λ state said next. CallsBy (Some cpu) armed (asks_create cpu) (makes_inode Directory cpu mode state.time) (logs_inode Directory cpu mode state.time) path state said next) old text new
  mkdir_moves cpu path mode made = done_moves (saids.MakeDirectory cpu path mode time) made path (λ names others is. is.0) (Some cpu) (λ now. asks_create cpu) (makes_inode Directory cpu mode) (logs_inode Directory cpu mode)
      (λ p says. (create_asked S m cpu p, (p, says, refl), refl)) (λ names is. made.changed names [] (is, refl)) (λ names is. made.logged names [] (is, refl)) (keeps_but cpu _ made made.kept.sup made.kept.laid) (laid_for cpu made.kept.laid)
      (λ names is runs writes stops. made.any_stop names [] (is, refl) runs writes)

  write_moves : (cpu : ℕ) (path : List ℕ) (offset : ℕ) (bytes : List ℕ) → Made (saids.Write cpu path offset bytes time)
      → Moves (λ state said next. Calls armed (asks_write cpu offset (length bytes) state.time) (makes_bytes offset bytes state.time) (LogsBytes cpu offset (length bytes) state.time) path state said next) old text new
  write_moves cpu path offset bytes made = done_moves (saids.Write cpu path offset bytes time) made path (λ names others is. is.0) None (asks_write cpu offset (length bytes)) (makes_bytes offset bytes) (LogsBytes cpu offset (length bytes))
      (λ p says. (
      let w = write_needs S (seen m) cpu p offset (length bytes) time in
      let needs : WriteNeeds S m cpu p offset (length bytes) time w.0 = record { none = w.1.none; some = w.1.some } in
      (write_tests (world_of m) (tree_of S m.rows) cpu p (offset + length bytes) w.0, (p, says, (w.0, needs, refl)), (w.0, w.1, refl))))
      (λ names is. made.changed names [] (is, refl)) (λ names is. IfOk-weaker r _ _ (λ x known. (known.0, bytes_seen m names T cpu offset (length bytes) time known.1)) (made.logged names [] (is, refl))) (keeps_all _ made made.kept.sup made.kept.laid) tt
      (λ names is runs writes stops left may. stop_seen S m.layout m.rows m.free.pools (makes_bytes offset bytes time S m names) (LogsBytes cpu offset (length bytes) time S m names) (LogsBytes cpu offset (length bytes) time S (seen m) names)
      (λ U. bytes_seen m names U cpu offset (length bytes) time) left (made.any_stop names [] (is, refl) runs writes left may))

  size_moves : (cpu : ℕ) (path : List ℕ) (size : ℕ) → Made (saids.SetSize cpu path size time)
      → Moves (λ state said next. Calls armed (asks_size cpu size) (makes_size size state.time) (logs_size cpu size state.time) path state said next) old text new
  size_moves cpu path size made = done_moves (saids.SetSize cpu path size time) made path (λ names others is. is.0) None (λ now. asks_size cpu size) (makes_size size) (logs_size cpu size)
      (λ p says. (size_asked S m cpu size p, (p, says, refl), refl)) (λ names is. made.changed names [] (is, refl)) (λ names is. made.logged names [] (is, refl)) (keeps_all _ made made.kept.sup made.kept.laid) tt
      (λ names is runs writes stops. made.any_stop names [] (is, refl) runs writes)

  attributes_move : (cpu : ℕ) (path : List ℕ) (mode owner group : ℕ) → Made (saids.SetAttributes cpu path mode owner group time)
      → Moves (λ state said next. Calls armed (asks_attributes cpu) (makes_attributes mode owner group state.time) (logs_attributes cpu mode owner group state.time) path state said next) old text new
  attributes_move cpu path mode owner group made = done_moves (saids.SetAttributes cpu path mode owner group time) made path (λ names others is. is.0) None (λ now. asks_attributes cpu) (makes_attributes mode owner group) (logs_attributes cpu mode owner group)
      (λ p says. (attributes_asked S m cpu p, (p, says, refl), refl)) (λ names is. made.changed names [] (is, refl)) (λ names is. made.logged names [] (is, refl)) (keeps_all _ made made.kept.sup made.kept.laid) tt
      (λ names is runs writes stops. made.any_stop names [] (is, refl) runs writes)

  unlink_moves : (cpu : ℕ) (path : List ℕ) → Made (saids.Unlink cpu path time)
      → Moves (λ state said next. Calls armed (asks_unlink cpu) (makes_unlink state.time) (LogsUnlink cpu state.time) path state said next) old text new
  unlink_moves cpu path made = done_moves (saids.Unlink cpu path time) made path (λ names others is. is.0) None (λ now. asks_unlink cpu) makes_unlink (LogsUnlink cpu)
      (λ p says. (unlink_asked S m cpu p, (p, says, refl), refl)) (λ names is. made.changed names [] (is, refl)) (λ names is. IfOk-weaker r _ _ (λ x known. (known.0, unlink_seen m names T cpu time known.1)) (made.logged names [] (is, refl)))
      (keeps_all _ made made.kept.sup made.kept.laid) tt
      (λ names is runs writes stops left may. stop_seen S m.layout m.rows m.free.pools (makes_unlink time S m names) (LogsUnlink cpu time S m names) (LogsUnlink cpu time S (seen m) names) (λ U. unlink_seen m names U cpu time) left
      (made.any_stop names [] (is, refl) runs writes left may))

  removal_moves : (cpu : ℕ) (path : List ℕ) → Made (saids.RemoveDirectory cpu path time)
      → Moves (λ state said next. Calls armed (asks_remove cpu) (makes_removal state.time) (logs_removal cpu state.time) path state said next) old text new
  removal_moves cpu path made = done_moves (saids.RemoveDirectory cpu path time) made path (λ names others is. is.0) None (λ now. asks_remove cpu) makes_removal (logs_removal cpu)
      (λ p says. (removal_asked S m cpu p, (p, says, refl), refl)) (λ names is. made.changed names [] (is, refl)) (λ names is. made.logged names [] (is, refl)) (keeps_all _ made made.kept.sup made.kept.laid) tt
      (λ names is runs writes stops. made.any_stop names [] (is, refl) runs writes)

  module _ (cpu : ℕ) (path other : List ℕ) (q : Path) (says_q : Says other q) where
    link_moves : Made (saids.Link cpu path other time) → Moves (λ state said next. Calls armed (asks_link cpu q) (makes_link state.time q) (logs_link cpu state.time q) path state said next) old text new
    link_moves made = done_moves (saids.Link cpu path other time) made path (λ names others is. is.0) None (λ now. asks_link cpu q) (λ now. makes_link now q) (λ now. logs_link cpu now q)
        (λ p says. (link_asked S m cpu p q, (p, q, says, says_q, refl), refl))
        (λ names is. by_second r other (link_asked S m cpu (Some names) q) (λ x p. SameTree (tree_of T n.rows) (makes_link time p S (seen m) names)) (allowed names is) (named names is) (λ others are. made.changed names others (is, are)) q says_q)
        (λ names is. by_second r other (link_asked S m cpu (Some names) q) (λ x p. (x ≡ Done) × logs_link cpu time p S (seen m) names T) (allowed names is) (named names is) (λ others are. made.logged names others (is, are)) q says_q)
        (keeps_all _ made made.kept.sup made.kept.laid) tt
        (λ names is runs writes stops left may. by_path other (λ p. LeavesCall (makes_link time p) (logs_link cpu time p) S (seen m) names left)
        (λ none. not_stopped (made.bad_text (λ names others is. none others is.1)) runs stops) (λ others are. made.any_stop names others (is, are) runs writes left may) q says_q) where
          allowed : (names : List (List ℕ)) → IsPath path names → OnOk r (first_refusal (link_asked S m cpu (Some names) q) ≡ None)
          allowed names is = made.allowed (link_asked S m cpu (Some names) q) (Some names, q, is, says_q, refl)

          named : (names : List (List ℕ)) → IsPath path names → first_refusal (link_asked S m cpu (Some names) q) ≡ None → (others : List (List ℕ)) × IsPath other others
          named names is none = (let c = tests_named S m (saids.Link cpu path other time) (link_asked S m cpu (Some names) q) (Some names, q, is, says_q, refl) none in (c.1, c.2.1))

    rename_moves : Made (saids.Rename cpu path other time) → Moves (λ state said next. Calls armed (asks_rename cpu q) (makes_rename state.time q) (logs_rename cpu state.time q) path state said next) old text new
    rename_moves made = done_moves (saids.Rename cpu path other time) made path (λ names others is. is.0) None (λ now. asks_rename cpu q) (λ now. makes_rename now q) (λ now. logs_rename cpu now q)
        (λ p says. (rename_asked S m cpu p q, (p, q, says, says_q, refl), refl))
        (λ names is. by_second r other (rename_asked S m cpu (Some names) q) (λ x p. SameTree (tree_of T n.rows) (makes_rename time p S (seen m) names)) (allowed names is) (named names is) (λ others are. made.changed names others (is, are)) q says_q)
        (λ names is. by_second r other (rename_asked S m cpu (Some names) q) (λ x p. (x ≡ Done) × logs_rename cpu time p S (seen m) names T) (allowed names is) (named names is)
        (λ others are. IfOk-weaker r _ _ (λ x known. (known.0, move_seen m names T cpu time others known.1)) (made.logged names others (is, are))) q says_q)
        (keeps_all _ made made.kept.sup made.kept.laid) tt
        (λ names is runs writes stops left may. by_path other (λ p. LeavesCall (makes_rename time p) (logs_rename cpu time p) S (seen m) names left)
        (λ none. not_stopped (made.bad_text (λ names others is. none others is.1)) runs stops)
        (λ others are. stop_seen S m.layout m.rows m.free.pools (makes_rename time (Some others) S m names) (LogsMove cpu time others S m names) (LogsMove cpu time others S (seen m) names) (λ U. move_seen m names U cpu time others) left
        (made.any_stop names others (is, are) runs writes left may)) q says_q) where
          allowed : (names : List (List ℕ)) → IsPath path names → OnOk r (first_refusal (rename_asked S m cpu (Some names) q) ≡ None)
          allowed names is = made.allowed (rename_asked S m cpu (Some names) q) (Some names, q, is, says_q, refl)

          named : (names : List (List ℕ)) → IsPath path names → first_refusal (rename_asked S m cpu (Some names) q) ≡ None → (others : List (List ℕ)) × IsPath other others
          named names is none = (let c = tests_named S m (saids.Rename cpu path other time) (rename_asked S m cpu (Some names) q) (Some names, q, is, says_q, refl) none in (c.1, c.2.1))

  clean_moves : (path : List ℕ) → Made (saids.Clean path) → Moves (λ state said next. CallsTelling None cleaned_line armed asks_clean makes_no_change finds_page logs_page_less path state said next) old text new
  clean_moves path made = picked_moves page_in cleaned_line None (λ now. asks_clean) (λ now. makes_no_change) (λ now. finds_page) (λ now. logs_page_less) path
      (called_so (saids.Clean path) made path (λ names others is. is.0) None asks_clean makes_no_change (λ x. finds_page (page_in x)) logs_page_less (λ p says. (clean_asked S m p, (p, says, refl), refl)) (λ names is. made.changed names [] (is, refl))
      (λ names is. IfOk-weaker r _ _ (λ x known. subst (λ (y : Answer). finds_page (page_in y) S (seen m) names T) (sym known.1) (page_seen m names T known.0 known.2)) (made.logged names [] (is, refl)))
      (keeps_all _ made made.kept.sup made.kept.laid) tt (λ names is runs writes stops. made.any_stop names [] (is, refl) runs writes))
      (λ names is. IfOk-weaker r _ _ (λ x known. ap answer_line known.1 ∙ ap (λ (y : Answer). cleaned_line (page_in y)) (sym known.1)) (made.logged names [] (is, refl)))

  -- ---- the call that a command is

  as_asked : (asked call : Said) → ◌≡◌ {A = Option Said} (Some asked) (Some call) → Made call → Made asked
  as_asked asked call is made = (let one : asked ≡ call = cc in subst Made (sym one) made)

  never : {X : Type 0} (call : Said) → ◌≡◌ {A = Option Said} None (Some call) → X
  never call is = absurd (cc)

  made_now : (request : Request) (call : Said) → call_at time request ≡ Some call → Made call → Moves (λ state said next. Does armed request state said next) old text new
  made_now (Create cpu path) call is made = create_moves cpu path file_mode (as_asked _ call is made)
  made_now (MakeDirectory cpu path) call is made = mkdir_moves cpu path directory_mode (as_asked _ call is made)
  made_now (Write cpu path offset count byte) call is made = subst (λ (c : ℕ). Moves (λ state said next. Calls armed (asks_write cpu offset c state.time) (makes_bytes offset (replicate count byte) state.time) (LogsBytes cpu offset c state.time) path state said next) old text new)
      (length-replicate count byte) (write_moves cpu path offset (replicate count byte) (as_asked _ call is made))
  made_now (SetSize cpu path size) call is made = size_moves cpu path size (as_asked _ call is made)
  made_now (SetAttributes cpu path mode owner group) call is made = attributes_move cpu path mode owner group (as_asked _ call is made)
  made_now (Link cpu path other) call is made = two_moves (asks_link cpu) makes_link (logs_link cpu) path other armed old new text (λ q says. link_moves cpu path other q says (as_asked _ call is made))
  made_now (Unlink cpu path) call is made = unlink_moves cpu path (as_asked _ call is made)
  made_now (RemoveDirectory cpu path) call is made = removal_moves cpu path (as_asked _ call is made)
  made_now (Rename cpu path other) call is made = two_moves (asks_rename cpu) makes_rename (logs_rename cpu) path other armed old new text (λ q says. rename_moves cpu path other q says (as_asked _ call is made))
  made_now (Clean path) call is made = clean_moves path (as_asked _ call is made)
  made_now Upgrade call is made = upgraded_moves fuse old mid new m n r text takes before kept settled (as_asked _ call is made) settles
  made_now (Format cpus blocks tables) call is made = never call is
  made_now (Time now) call is made = never call is
  made_now (Poke place value) call is made = never call is
  made_now (Cut count) call is made = never call is
  made_now (Recover workers) call is made = never call is
  made_now (Replay workers schedule) call is made = never call is
  made_now (ListNames path) call is made = never call is
  made_now (Stat path) call is made = never call is
  made_now (Read path offset count) call is made = never call is
  made_now TreeOf call is made = never call is
  made_now Free call is made = never call is
  made_now Faults call is made = never call is
  made_now Report call is made = never call is
  made_now (Peek place) call is made = never call is
  made_now (Stop burns keep) call is made = never call is

  -- at the time before it
  pub made_moves : (request : Request) (call : Said) → call_at old.time request ≡ Some call → Made call → Moves (λ state said next. Does armed request state said next) old text new
  made_moves request call is made = made_now request call (ap (λ (s : Session). call_at s.time request) takes.3 ∙ is) made

-- ---- where nothing is mounted

module _ (armed : Bool) (fuse : Fuse) (old new : Session) (text : List ℕ) (takes : TakesMount fuse old None new) (said : text ≡ refused_line (codes "NotMounted")) where
  never_made : {X : Type 0} (call : Said) → ◌≡◌ {A = Option Said} None (Some call) → X
  never_made call is = absurd (cc)

  pub unmade_moves : (moment : ℕ) (request : Request) (call : Said) → call_at moment request ≡ Some call → Moves (λ state said next. Does armed request state said next) old text new
  unmade_moves moment (Create cpu path) call is = uncalled_moves (Some cpu) (λ now. asks_create cpu) (makes_inode File cpu file_mode) (logs_inode File cpu file_mode) path armed fuse old new text takes said
  unmade_moves moment (MakeDirectory cpu path) call is = uncalled_moves (Some cpu) (λ now. asks_create cpu) (makes_inode Directory cpu directory_mode) (logs_inode Directory cpu directory_mode) path armed fuse old new text takes said
  unmade_moves moment (Write cpu path offset count byte) call is = uncalled_moves None (asks_write cpu offset count) (makes_bytes offset (replicate count byte)) (LogsBytes cpu offset count) path armed fuse old new text takes said
  unmade_moves moment (SetSize cpu path size) call is = uncalled_moves None (λ now. asks_size cpu size) (makes_size size) (logs_size cpu size) path armed fuse old new text takes said
  unmade_moves moment (SetAttributes cpu path mode owner group) call is = uncalled_moves None (λ now. asks_attributes cpu) (makes_attributes mode owner group) (logs_attributes cpu mode owner group) path armed fuse old new text takes said
  unmade_moves moment (Link cpu path other) call is = two_moves (asks_link cpu) makes_link (logs_link cpu) path other armed old new text
      (λ q says. uncalled_moves None (λ now. asks_link cpu q) (λ now. makes_link now q) (λ now. logs_link cpu now q) path armed fuse old new text takes said)
  unmade_moves moment (Unlink cpu path) call is = uncalled_moves None (λ now. asks_unlink cpu) makes_unlink (LogsUnlink cpu) path armed fuse old new text takes said
  unmade_moves moment (RemoveDirectory cpu path) call is = uncalled_moves None (λ now. asks_remove cpu) makes_removal (logs_removal cpu) path armed fuse old new text takes said
  unmade_moves moment (Rename cpu path other) call is = two_moves (asks_rename cpu) makes_rename (logs_rename cpu) path other armed old new text
      (λ q says. uncalled_moves None (λ now. asks_rename cpu q) (λ now. makes_rename now q) (λ now. logs_rename cpu now q) path armed fuse old new text takes said)
  unmade_moves moment (Clean path) call is = untold_moves None cleaned_line (λ now. asks_clean) (λ now. makes_no_change) (λ now. finds_page) (λ now. logs_page_less) path armed fuse old new text takes said
  unmade_moves moment Upgrade call is = not_upgraded_moves armed fuse old new text takes said
  unmade_moves moment (Format cpus blocks tables) call is = never_made call is
  unmade_moves moment (Time now) call is = never_made call is
  unmade_moves moment (Poke place value) call is = never_made call is
  unmade_moves moment (Cut count) call is = never_made call is
  unmade_moves moment (Recover workers) call is = never_made call is
  unmade_moves moment (Replay workers schedule) call is = never_made call is
  unmade_moves moment (ListNames path) call is = never_made call is
  unmade_moves moment (Stat path) call is = never_made call is
  unmade_moves moment (Read path offset count) call is = never_made call is
  unmade_moves moment TreeOf call is = never_made call is
  unmade_moves moment Free call is = never_made call is
  unmade_moves moment Faults call is = never_made call is
  unmade_moves moment Report call is = never_made call is
  unmade_moves moment (Peek place) call is = never_made call is
  unmade_moves moment (Stop burns keep) call is = never_made call is

-- From alike states each command prints one text, and leaves alike states.
use Rattle.std.proofs.Common.{◌≡◌, ◌⊎◌, inl, inr, ℕ, Bool, true, false, Option, Some, None, List, [], nat_le, refl, ap, sym, subst, ◌∙◌}
use Rattle.std.specs.Prelude.{⊤, MatchBool, codes, replicate}
use Rattle.std.proofs.Math.Logic.{∥∥₁_elim}
use Rattle.std.proofs.Math.Nat.{ℕ_set}
use Rattle.std.proofs.Props.{props}
use Rattle.nv_region.specs.Region.{Region, put, size}
use Rattle.nv_image_check.specs.Workers.{is_worker_count, names_stranger}
use Rattle.nv_super.specs.declared.superblock.Super.{Super}
use Rattle.nv_super.specs.declared.superblock.SuperFault.{SuperFault}
use Rattle.nv_super.specs.declared.kind.Kind.TheVariants.{File, Directory}
use Rattle.nv_super.specs.declared.faults.Fault.{Fault}
use Rattle.nv_super.specs.FaultText.{super_fault_name}
use Rattle.nv_journal.specs.Undo.{undone}
use Rattle.nv_format.specs.Format as formats
use Rattle.nv_format.specs.Format.{IsFormatted, fresh_super}
use Rattle.nv_format.specs.declared.formatting.FormatRefusal.{FormatRefusal}
use Rattle.nv_format.proofs.OneAnswer.{one_refusal, not_prevented}
use Rattle.nv_format.proofs.Determined.{formatted_only}
use Rattle.nv_line.specs.Request.{Request, Format, Time, Poke, Cut, Recover, Replay, ListNames, Stat, Read, Create, MakeDirectory, Write, SetSize, SetAttributes, Link, Unlink, RemoveDirectory, Rename, Clean, Upgrade, Tree, Free, Faults, Report, Peek, Stop}
use Rattle.nv_outcome.specs.Outcome.{Outcome, IsOutcome}
use Rattle.nv_outcome.specs.Same.{SameOutcome}
use Rattle.nv_outcome.proofs.OnlyOne.{same_outcome}
use Rattle.nv_text.specs.Answers.{cleaned_line, ok_line, refused_line}
use Rattle.nv_report.specs.Last.{how_it_went}
use Rattle.nv_report.specs.declared.last.Last.TheVariants.{Refused}
use Rattle.nv_report.specs.declared.part.Part.{Part}
use Rattle.nv_report.specs.declared.part.Part.TheVariants as parts
use Rattle.nv_report.proofs.OneText.{recovered_one, part_one}
use Rattle.nv_tree.specs.Tree as trees
use Rattle.nv_tree.specs.Refusals.{Path}
use Rattle.nv_tree.proofs.Texts.{says_one}
use Rattle.nv_paths.specs.Seen.{tree_of}
use Rattle.nv_calls.specs.Effects.{logs_page_less, Makes, Logs, LogsBytes, LogsUnlink, makes_inode, makes_bytes, makes_size, makes_attributes, makes_link, makes_unlink, makes_removal, makes_rename, makes_no_change, logs_inode, logs_size, logs_attributes, logs_link, logs_removal, logs_rename}
use Rattle.nv_calls.proofs.SeenAlike.{Alike}
use Rattle.nv_session.specs.Alike.{AlikeStates, IsLeftOf, SeemSame, handles_words}
use Rattle.nv_history.specs.Called.{finds_page}
use Rattle.nv_session.specs.Calls.{Asks, asks_create, asks_write, asks_size, asks_attributes, asks_link, asks_unlink, asks_remove, asks_rename, asks_clean}
use Rattle.nv_session.specs.Machine.{State, Step, Does, first_state, zeros, front, has_word, CutsRegion, IsRefusedAs, PokesRegion, Replaces, Unmounts, MayStop, StopsFormat, StopsRecovery, Recovers, Replays, ReadsMounted, TellsNames, TellsStat, TellsBytes, RefusesSuper, Mounts, RecoversRegion, ShowsMounted, Formats, Calls, CallsBy, CallsByTwo, file_mode, directory_mode}
use Rattle.nv_session.proofs.Alike.{stat_one, names_one, bytes_one}
use Rattle.nv_session.proofs.OneCall.{AskedOnce, clean_one, create_one, write_one, size_one, attributes_one, link_one, unlink_one, remove_one, rename_one}
use Rattle.nv_session.proofs.UpgradesOnce.{upgrade_alike}
use Rattle.nv_session.proofs.SeemSame.{left_seem, refused_first, refused_one, refused_second, seen_one, trees_seem}
use Rattle.nv_session.proofs.AlikeCalls.{AsksToWrite, LeavesOnce, telling_alike, clean_leaves, clean_writes, create_leaves, create_writes, write_leaves, write_writes, size_leaves, size_writes, attributes_leave, attributes_write, link_leaves, link_writes, unlink_leaves, unlink_writes, remove_leaves, remove_writes, rename_leaves, rename_writes}

-- what two steps tell is one text, and what they leave is alike
abbrev TellAlike : (List ℕ → State → Type 0) → (List ℕ → State → Type 0) → Type 0
TellAlike P Q = (s t : List ℕ) (m n : State) → P s m → Q t n → (s ≡ t) × AlikeStates m n

-- a text and a state that are given
given_alike : (said other : List ℕ) (next then : State) → said ≡ other → AlikeStates next then → TellAlike (λ s m. (s ≡ said) × (m ≡ next)) (λ t n. (t ≡ other) × (n ≡ then))
given_alike said other next then same alike s t m n p q = (p.0 ∙ same ∙ sym q.0, subst (λ (x : State). AlikeStates x n) (sym p.1) (subst (λ (x : State). AlikeStates next x) (sym q.1) alike))

-- one of two, chosen by a test
chosen_alike : (b : Bool) (P Q X Y : List ℕ → State → Type 0) → TellAlike P X → TellAlike Q Y → TellAlike (λ s m. MatchBool b (P s m) (Q s m)) (λ t n. MatchBool b (X t n) (Y t n))
chosen_alike true P Q X Y one other = one
chosen_alike false P Q X Y one other = other

-- without a stop, a command that may be stopped
may_alike : (P Q X Y : State → List ℕ → State → Type 0) (old other : State) → TellAlike (λ s m. P old s m) (λ t n. X other t n) → TellAlike (λ s m. MayStop false P Q old s m) (λ t n. MayStop false X Y other t n)
may_alike P Q X Y old other one s t m n (inl p) (inl q) = one s t m n p q
may_alike P Q X Y old other one s t m n (inl p) (inr q) = absurd (let never = q.0 in cc)
may_alike P Q X Y old other one s t m n (inr p) q = absurd (let never = p.0 in cc)

texts_prop : (s t : List ℕ) → IsProp (s ≡ t)
texts_prop s t = hlevel (props, ℕ_set)

module _ (old other : State) (states : AlikeStates old other) where
  -- ---- making a region

  made_alike : (R S : Region) → R ≡ S → AlikeStates (record old { region = Some R; mounted = None }) (record other { region = Some S; mounted = None })
  made_alike R S same = record { region = inl same; mounted = tt; time = states.time; last = states.last; armed = states.armed; first_left = tt; second_left = tt }

  format_alike : (cpus blocks tables : ℕ) → TellAlike (λ s m. Formats cpus blocks tables old s m) (λ t n. Formats cpus blocks tables other t n)
  format_alike cpus blocks tables s t m n (inl p) (inl q) =
      let same : p.0 ≡ q.0 = one_refusal _ cpus tables p.0 q.0 p.2 q.2 in
      given_alike (refused_line (formats.refusal_name p.0)) (refused_line (formats.refusal_name q.0)) old other (ap (λ (r : FormatRefusal). refused_line (formats.refusal_name r)) same) states s t m n p.3 q.3
  format_alike cpus blocks tables s t m n (inl p) (inr q) = absurd (not_prevented q.1 p.0 p.1 p.2.applies)
  format_alike cpus blocks tables s t m n (inr p) (inl q) = absurd (not_prevented p.1 q.0 q.1 q.2.applies)
  format_alike cpus blocks tables s t m n (inr p) (inr q) =
      let here = subst (λ (x : ℕ). IsFormatted (zeros blocks) q.0 (fresh_super (zeros blocks) cpus tables) x) (sym states.time) q.1 in
      let same : p.0 ≡ q.0 = formatted_only _ p.0 q.0 _ _ p.1 here in
      given_alike ok_line ok_line (record old { region = Some p.0; mounted = None }) (record other { region = Some q.0; mounted = None }) refl (made_alike p.0 q.0 same) s t m n (p.2, p.3) (q.2, q.3)

  -- ---- recoveries

  unmounted_alike : (name : List ℕ) → TellAlike (λ s m. Unmounts name old s m) (λ t n. Unmounts name other t n)
  unmounted_alike name = given_alike (refused_line name) (refused_line name) (record old { mounted = None; last = Refused }) (record other { mounted = None; last = Refused }) refl
      (record { region = states.region; mounted = tt; time = states.time; last = refl; armed = states.armed; first_left = tt; second_left = tt })

  -- what is mounted is what came, and what is left is that rolled back
  left_of : (R : Region) (o : Outcome) → IsOutcome R o → IsLeftOf (Some R) (Some (undone o.sup R))
  left_of R o is x is_x = let same = same_outcome R o x is is_x in ap (λ (s : Super). undone s R) (sym same.sup)

  abbrev mounted_by : State → Region → Outcome → State
  mounted_by from R o = record from { region = Some (undone o.sup R); mounted = Some R; last = how_it_went o.faults }

  mounted_alike : (R S : Region) → SeemSame (Some R) (Some S) → (o another : Outcome) → IsOutcome R o → IsOutcome S another → AlikeStates (mounted_by old R o) (mounted_by other S another)
  mounted_alike R S seem o another is is_other =
      let same = seen_one R S seem o another is is_other in
      record {
        region = left_seem R S seem o another is is_other;
        mounted = seem;
        time = states.time;
        last = ap (λ (fs : List Fault). how_it_went fs) (sym same.faults);
        armed = states.armed;
        first_left = left_of R o is;
        second_left = left_of S another is_other;
      }

  told_alike : (R S : Region) → SeemSame (Some R) (Some S) → TellAlike (λ s m. RefusesSuper R old s m ⊎ Mounts R old s m) (λ t n. RefusesSuper S other t n ⊎ Mounts S other t n)
  told_alike R S seem s t m n (inl p) (inl q) =
      let same = refused_one R S seem p.0 q.0 p.1 q.1 in
      unmounted_alike (super_fault_name p.0) s t m n p.2 (subst (λ (f : SuperFault). Unmounts (super_fault_name f) other t n) (sym same) q.2)
  told_alike R S seem s t m n (inl p) (inr q) = absurd (refused_first R S seem p.0 q.0 p.1 q.1)
  told_alike R S seem s t m n (inr p) (inl q) = absurd (refused_second R S seem q.0 p.0 p.1 q.1)
  told_alike R S seem s t m n (inr p) (inr q) =
      let same = seen_one R S seem p.0 q.0 p.1 q.1 in
      given_alike _ _ (mounted_by old R p.0) (mounted_by other S q.0) (sym (recovered_one p.0 q.0 same)) (mounted_alike R S seem p.0 q.0 p.1 q.1) s t m n (p.2, p.3) (q.2, q.3)

  recovery_alike : (region another : Option Region) → SeemSame region another → (workers : ℕ) (schedule : List ℕ) → TellAlike (λ s m. RecoversRegion region workers schedule old s m) (λ t n. RecoversRegion another workers schedule other t n)
  recovery_alike None None seem workers schedule = unmounted_alike (codes "NoRegion")
  recovery_alike None (Some S) seem workers schedule = absurd seem
  recovery_alike (Some R) None seem workers schedule = absurd seem
  recovery_alike (Some R) (Some S) seem workers schedule =
      chosen_alike (is_worker_count workers)
      (λ s m. MatchBool (names_stranger workers schedule) (Unmounts (codes "Schedule") old s m) (RefusesSuper R old s m ⊎ Mounts R old s m)) (λ s m. Unmounts (codes "Workers") old s m)
      (λ t n. MatchBool (names_stranger workers schedule) (Unmounts (codes "Schedule") other t n) (RefusesSuper S other t n ⊎ Mounts S other t n)) (λ t n. Unmounts (codes "Workers") other t n)
      (chosen_alike (names_stranger workers schedule)
      (λ s m. Unmounts (codes "Schedule") old s m) (λ s m. RefusesSuper R old s m ⊎ Mounts R old s m)
      (λ t n. Unmounts (codes "Schedule") other t n) (λ t n. RefusesSuper S other t n ⊎ Mounts S other t n)
      (unmounted_alike (codes "Schedule")) (told_alike R S seem))
      (unmounted_alike (codes "Workers"))

  -- ---- what shows

  -- the command is refused by this name, and leaves all as it was
  refused_alike : (name : List ℕ) → TellAlike (λ s m. (s ≡ refused_line name) × (m ≡ old)) (λ t n. (t ≡ refused_line name) × (n ≡ other))
  refused_alike name = given_alike (refused_line name) (refused_line name) old other refl states

  shown_alike : (mounted others : Option Region) → SeemSame mounted others → (part : Part) → TellAlike (λ s m. ShowsMounted mounted part old s m) (λ t n. ShowsMounted others part other t n)
  shown_alike None None seem part s t m n p q = refused_alike (codes "NotMounted") s t m n p q
  shown_alike None (Some S) seem part s t m n p q = absurd seem
  shown_alike (Some R) None seem part s t m n p q = absurd seem
  shown_alike (Some R) (Some S) seem part s t m n p q =
      given_alike s t old other (part_one part p.0 q.0 s t (seen_one R S seem p.0 q.0 p.1 q.1) p.2 q.2) states s t m n (refl, p.3) (refl, q.3)

  reads_alike : (Tells : trees.Tree → Path → List ℕ → Type 0) → ((t u : trees.Tree) → Alike t u → (p : Path) (text another : List ℕ) → Tells t p text → Tells u p another → text ≡ another)
      → (mounted others region another : Option Region) → SeemSame mounted others → SeemSame region another → (path : List ℕ) → TellAlike (λ s m. ReadsMounted Tells mounted region path old s m) (λ t n. ReadsMounted Tells others another path other t n)
  reads_alike Tells one None None region another seem seem_region path s t m n p q = refused_alike (codes "NotMounted") s t m n p q
  reads_alike Tells one None (Some Q) region another seem seem_region path s t m n p q = absurd seem
  reads_alike Tells one (Some R) None region another seem seem_region path s t m n p q = absurd seem
  reads_alike Tells one (Some R) (Some Q) None another seem seem_region path s t m n p q = absurd p
  reads_alike Tells one (Some R) (Some Q) (Some S) None seem seem_region path s t m n p q = absurd q
  reads_alike Tells one (Some R) (Some Q) (Some S) (Some P) seem seem_region path s t m n p q =
      let same = says_one path q.2 p.2 q.3 p.3 in
      let text : s ≡ t = ∥∥₁_elim (trees_seem S P seem_region p.0 q.0 p.1 q.1) (texts_prop s t) (λ alike. one (tree_of S p.0.rows) (tree_of P q.0.rows) alike p.2 s t p.4 (subst (λ (x : Path). Tells (tree_of P q.0.rows) x t) same q.4)) in
      given_alike s t old other text states s t m n (refl, p.5) (refl, q.5)

  -- ---- calls that write

  call_alike : (grows : Option ℕ) (asks : Asks) (makes : Makes ⊤) (logs : Logs ⊤) (path : List ℕ) → AskedOnce asks → AsksToWrite asks → LeavesOnce (λ (done : Unit {0}). ok_line) asks makes (λ done. logs) → TellAlike (λ s m. CallsBy grows false asks makes logs path old s m) (λ t n. CallsBy grows false asks makes logs path other t n)
  call_alike grows asks makes logs path one writes leaves s t m n p q = telling_alike grows (λ (done : Unit {0}). ok_line) asks makes (λ done. logs) path one writes leaves old other states logs logs m n s t p q

  call_alike_by_two : (asks : Path → Asks) (makes : Path → Makes ⊤) (logs : Path → Logs ⊤) (path second : List ℕ) → ((q : Path) → AskedOnce (asks q)) → ((q : Path) → AsksToWrite (asks q)) → ((q : Path) → LeavesOnce (λ (done : Unit {0}). ok_line) (asks q) (makes q) (λ done. logs q))
      → TellAlike (λ s m. CallsByTwo false asks makes logs path second old s m) (λ t n. CallsByTwo false asks makes logs path second other t n)
  call_alike_by_two asks makes logs path second one writes leaves s t m n p q =
      call_alike None (asks p.0) (makes p.0) (logs p.0) path (one p.0) (writes p.0) (leaves p.0) s t m n p.2 (subst (λ (x : Path). Calls false (asks x) (makes x) (logs x) path other t n) (says_one second q.0 p.0 q.1 p.1) q.2)

  -- a call whose effects are told by the time
  at_time : (Q : ℕ → List ℕ → State → Type 0) (t : List ℕ) (n : State) → Q other.time t n → Q old.time t n
  at_time Q t n q = subst (λ (x : ℕ). Q x t n) (sym states.time) q

  does_alike : (request : Request) → handles_words request ≡ false → TellAlike (λ s m. Does false request old s m) (λ t n. Does false request other t n)
  does_alike (Format cpus blocks tables) reads s t m n p q = may_alike (Formats cpus blocks tables) (StopsFormat cpus blocks tables) (Formats cpus blocks tables) (StopsFormat cpus blocks tables) old other (format_alike cpus blocks tables) s t m n p q
  does_alike (Time time) reads s t m n p q = given_alike ok_line ok_line (record old { time = time }) (record other { time = time }) refl
      (record { region = states.region; mounted = states.mounted; time = refl; last = states.last; armed = states.armed; first_left = states.first_left; second_left = states.second_left }) s t m n p q
  does_alike (Poke at value) reads s t m n p q = absurd (cc)
  does_alike (Cut length) reads s t m n p q = absurd (cc)
  does_alike (Recover workers) reads s t m n p q = may_alike (Recovers workers) (StopsRecovery workers []) (Recovers workers) (StopsRecovery workers []) old other (recovery_alike old.region other.region states.region workers []) s t m n p q
  does_alike (Replay workers schedule) reads s t m n p q = may_alike (Replays workers schedule) (StopsRecovery workers schedule) (Replays workers schedule) (StopsRecovery workers schedule) old other (recovery_alike old.region other.region states.region workers schedule) s t m n p q
  does_alike (ListNames path) reads s t m n p q = reads_alike TellsNames names_one old.mounted other.mounted old.region other.region states.mounted states.region path s t m n p q
  does_alike (Stat path) reads s t m n p q = reads_alike TellsStat stat_one old.mounted other.mounted old.region other.region states.mounted states.region path s t m n p q
  does_alike (Read path offset count) reads s t m n p q = reads_alike (TellsBytes offset count) (λ t u alike. bytes_one t u alike offset count) old.mounted other.mounted old.region other.region states.mounted states.region path s t m n p q
  does_alike (Create cpu path) reads s t m n p q =
      call_alike (Some cpu) (asks_create cpu) (makes_inode File cpu file_mode old.time) (logs_inode File cpu file_mode old.time) path (λ S U m k same alike count. create_one S U m k same alike cpu) (create_writes cpu) (create_leaves File cpu file_mode old.time) s t m n p
      (at_time (λ x t n. CallsBy (Some cpu) false (asks_create cpu) (makes_inode File cpu file_mode x) (logs_inode File cpu file_mode x) path other t n) t n q)
  does_alike (MakeDirectory cpu path) reads s t m n p q =
      call_alike (Some cpu) (asks_create cpu) (makes_inode Directory cpu directory_mode old.time) (logs_inode Directory cpu directory_mode old.time) path (λ S U m k same alike count. create_one S U m k same alike cpu) (create_writes cpu) (create_leaves Directory cpu directory_mode old.time) s t m n p
      (at_time (λ x t n. CallsBy (Some cpu) false (asks_create cpu) (makes_inode Directory cpu directory_mode x) (logs_inode Directory cpu directory_mode x) path other t n) t n q)
  does_alike (Write cpu path offset count byte) reads s t m n p q =
      call_alike None (asks_write cpu offset count old.time) (makes_bytes offset (replicate count byte) old.time) (LogsBytes cpu offset count old.time) path (λ S U m k same alike counts. write_one S U m k same alike counts cpu offset count old.time) (write_writes cpu offset count old.time) (write_leaves cpu offset count (replicate count byte) old.time) s t m n p
      (at_time (λ x t n. Calls false (asks_write cpu offset count x) (makes_bytes offset (replicate count byte) x) (LogsBytes cpu offset count x) path other t n) t n q)
  does_alike (SetSize cpu path bytes) reads s t m n p q =
      call_alike None (asks_size cpu bytes) (makes_size bytes old.time) (logs_size cpu bytes old.time) path (λ S U m k same alike count. size_one S U m k same alike cpu bytes) (size_writes cpu bytes) (size_leaves cpu bytes old.time) s t m n p
      (at_time (λ x t n. Calls false (asks_size cpu bytes) (makes_size bytes x) (logs_size cpu bytes x) path other t n) t n q)
  does_alike (SetAttributes cpu path mode owner group) reads s t m n p q =
      call_alike None (asks_attributes cpu) (makes_attributes mode owner group old.time) (logs_attributes cpu mode owner group old.time) path (λ S U m k same alike count. attributes_one S U m k same alike cpu) (attributes_write cpu) (attributes_leave cpu mode owner group old.time) s t m n p
      (at_time (λ x t n. Calls false (asks_attributes cpu) (makes_attributes mode owner group x) (logs_attributes cpu mode owner group x) path other t n) t n q)
  does_alike (Link cpu path second) reads s t m n p q =
      call_alike_by_two (asks_link cpu) (makes_link old.time) (logs_link cpu old.time) path second (λ r S U m k same alike count. link_one S U m k same alike cpu r) (link_writes cpu) (link_leaves cpu old.time) s t m n p
      (at_time (λ x t n. CallsByTwo false (asks_link cpu) (makes_link x) (logs_link cpu x) path second other t n) t n q)
  does_alike (Unlink cpu path) reads s t m n p q =
      call_alike None (asks_unlink cpu) (makes_unlink old.time) (LogsUnlink cpu old.time) path (λ S U m k same alike count. unlink_one S U m k same alike cpu) (unlink_writes cpu) (unlink_leaves cpu old.time) s t m n p
      (at_time (λ x t n. Calls false (asks_unlink cpu) (makes_unlink x) (LogsUnlink cpu x) path other t n) t n q)
  does_alike (RemoveDirectory cpu path) reads s t m n p q =
      call_alike None (asks_remove cpu) (makes_removal old.time) (logs_removal cpu old.time) path (λ S U m k same alike count. remove_one S U m k same alike cpu) (remove_writes cpu) (remove_leaves cpu old.time) s t m n p
      (at_time (λ x t n. Calls false (asks_remove cpu) (makes_removal x) (logs_removal cpu x) path other t n) t n q)
  does_alike (Rename cpu path second) reads s t m n p q =
      call_alike_by_two (asks_rename cpu) (makes_rename old.time) (logs_rename cpu old.time) path second (λ r S U m k same alike count. rename_one S U m k same alike cpu r) (rename_writes cpu) (rename_leaves cpu old.time) s t m n p
      (at_time (λ x t n. CallsByTwo false (asks_rename cpu) (makes_rename x) (logs_rename cpu x) path second other t n) t n q)
  does_alike (Clean path) reads s t m n p q = telling_alike None cleaned_line asks_clean makes_no_change finds_page path (λ S U m k same alike count. clean_one S U m k same alike) clean_writes clean_leaves old other states logs_page_less logs_page_less m n s t p q
  does_alike Upgrade reads s t m n p q = upgrade_alike old other states m n s t p q
  does_alike Tree reads s t m n p q = shown_alike old.mounted other.mounted states.mounted parts.Tree s t m n p q
  does_alike Free reads s t m n p q = shown_alike old.mounted other.mounted states.mounted parts.Free s t m n p q
  does_alike Faults reads s t m n p q = shown_alike old.mounted other.mounted states.mounted parts.Faults s t m n p q
  does_alike Report reads s t m n p q = shown_alike old.mounted other.mounted states.mounted parts.Report s t m n p q
  does_alike (Peek at) reads s t m n p q = absurd (cc)
  does_alike (Stop fuse keep) reads s t m n p q = given_alike ok_line ok_line _ _ refl (record { region = states.region; mounted = states.mounted; time = states.time; last = states.last; armed = refl; first_left = states.first_left; second_left = states.second_left }) s t m n p q

-- no stop was set in either
unarmed_alike : (old other : State) → AlikeStates old other → AlikeStates (record old { armed = false }) (record other { armed = false })
unarmed_alike old other states = record { region = states.region; mounted = states.mounted; time = states.time; last = states.last; armed = refl; first_left = states.first_left; second_left = states.second_left }

pub steps_alike : (old other new next : State) (request : Request) (text another : List ℕ) → AlikeStates old other → old.armed ≡ false → handles_words request ≡ false → Step old request text new → Step other request another next → (text ≡ another) × AlikeStates new next
steps_alike old other new next request text another states unarmed words p q =
    does_alike (record old { armed = false }) (record other { armed = false }) (unarmed_alike old other states) request words text another new next
    (subst (λ (b : Bool). Does b request (record old { armed = false }) text new) unarmed p)
    (subst (λ (b : Bool). Does b request (record other { armed = false }) another next) (sym states.armed ∙ unarmed) q)

-- before the first line
pub first_alike : AlikeStates first_state first_state
first_alike = record { region = tt; mounted = tt; time = refl; last = refl; armed = refl; first_left = tt; second_left = tt }

-- ---- one state

module _ (old : State) (states : AlikeStates old old) where
  -- a region was put in place of what was there
  replaced_itself : (R : Region) → AlikeStates (record old { region = Some R; mounted = None }) (record old { region = Some R; mounted = None })
  replaced_itself R = made_alike old old states R R refl

  by_test : (b : Bool) (P Q : List ℕ → State → Type 0) (s : List ℕ) (m : State) → (P s m → AlikeStates m m) → (Q s m → AlikeStates m m) → MatchBool b (P s m) (Q s m) → AlikeStates m m
  by_test true P Q s m one other h = one h
  by_test false P Q s m one other h = other h

  -- what is left as it was, and what was put in
  as_given : (next m : State) → AlikeStates next next → m ≡ next → AlikeStates m m
  as_given next m given same = subst (λ (x : State). AlikeStates x x) (sym same) given

  poked_itself : (region : Option Region) (at value : ℕ) (s : List ℕ) (m : State) → PokesRegion region at value old s m → AlikeStates m m
  poked_itself None at value s m h = as_given old m states h.1
  poked_itself (Some R) at value s m h = by_test (has_word R at) (λ s m. Replaces (put R at value) old s m) (λ s m. IsRefusedAs (codes "Address") old s m) s m
      (λ h. as_given (record old { region = Some (put R at value); mounted = None }) m (replaced_itself (put R at value)) h.1) (λ h. as_given old m states h.1) h

  cut_itself : (region : Option Region) (length : ℕ) (s : List ℕ) (m : State) → CutsRegion region length old s m → AlikeStates m m
  cut_itself None length s m h = as_given old m states h.1
  cut_itself (Some R) length s m h = by_test (nat_le length (size R)) (λ s m. Replaces (front R length) old s m) (λ s m. IsRefusedAs (codes "Length") old s m) s m
      (λ h. as_given (record old { region = Some (front R length); mounted = None }) m (replaced_itself (front R length)) h.1) (λ h. as_given old m states h.1) h

  does_itself : (request : Request) (s : List ℕ) (m : State) → Does false request old s m → AlikeStates m m
  does_itself (Poke at value) s m p = poked_itself old.region at value s m p
  does_itself (Cut length) s m p = cut_itself old.region length s m p
  does_itself (Peek at) s m p = as_given old m states p.1
  does_itself (Format cpus blocks tables) s m p = (does_alike old old states (Format cpus blocks tables) refl s s m m p p).1
  does_itself (Time time) s m p = (does_alike old old states (Time time) refl s s m m p p).1
  does_itself (Recover workers) s m p = (does_alike old old states (Recover workers) refl s s m m p p).1
  does_itself (Replay workers schedule) s m p = (does_alike old old states (Replay workers schedule) refl s s m m p p).1
  does_itself (ListNames path) s m p = (does_alike old old states (ListNames path) refl s s m m p p).1
  does_itself (Stat path) s m p = (does_alike old old states (Stat path) refl s s m m p p).1
  does_itself (Read path offset count) s m p = (does_alike old old states (Read path offset count) refl s s m m p p).1
  does_itself (Create cpu path) s m p = (does_alike old old states (Create cpu path) refl s s m m p p).1
  does_itself (MakeDirectory cpu path) s m p = (does_alike old old states (MakeDirectory cpu path) refl s s m m p p).1
  does_itself (Write cpu path offset count byte) s m p = (does_alike old old states (Write cpu path offset count byte) refl s s m m p p).1
  does_itself (SetSize cpu path bytes) s m p = (does_alike old old states (SetSize cpu path bytes) refl s s m m p p).1
  does_itself (SetAttributes cpu path mode owner group) s m p = (does_alike old old states (SetAttributes cpu path mode owner group) refl s s m m p p).1
  does_itself (Link cpu path second) s m p = (does_alike old old states (Link cpu path second) refl s s m m p p).1
  does_itself (Unlink cpu path) s m p = (does_alike old old states (Unlink cpu path) refl s s m m p p).1
  does_itself (RemoveDirectory cpu path) s m p = (does_alike old old states (RemoveDirectory cpu path) refl s s m m p p).1
  does_itself (Rename cpu path second) s m p = (does_alike old old states (Rename cpu path second) refl s s m m p p).1
  does_itself (Clean path) s m p = (does_alike old old states (Clean path) refl s s m m p p).1
  does_itself Upgrade s m p = (does_alike old old states Upgrade refl s s m m p p).1
  does_itself Tree s m p = (does_alike old old states Tree refl s s m m p p).1
  does_itself Free s m p = (does_alike old old states Free refl s s m m p p).1
  does_itself Faults s m p = (does_alike old old states Faults refl s s m m p p).1
  does_itself Report s m p = (does_alike old old states Report refl s s m m p p).1
  does_itself (Stop fuse keep) s m p = (does_alike old old states (Stop fuse keep) refl s s m m p p).1

pub step_itself : (old new : State) (request : Request) (text : List ℕ) → AlikeStates old old → old.armed ≡ false → Step old request text new → AlikeStates new new
step_itself old new request text states unarmed p = does_itself (record old { armed = false }) (unarmed_alike old old states) request text new (subst (λ (b : Bool). Does b request (record old { armed = false }) text new) unarmed p)

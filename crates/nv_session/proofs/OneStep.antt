-- Each command prints one text, and leaves one state.
use Rattle.std.proofs.Common.{◌≡◌, ◌⊎◌, inl, inr, ℕ, Bool, true, false, Option, Some, None, List, [], nat_le, refl, ap, sym, subst, ◌∙◌}
use Rattle.nv_tree.specs.Tree as trees
use Rattle.nv_tree.specs.Refusals.{Path}
use Rattle.nv_super.specs.declared.kind.Kind.TheVariants.{File, Directory}
use Rattle.nv_tree.proofs.Texts.{says_one}
use Rattle.nv_paths.specs.Seen.{tree_of}
use Rattle.nv_calls.proofs.SeenAlike.{Alike, alike_here}
use Rattle.nv_session.proofs.Alike.{stat_one, names_one, bytes_one}
use Rattle.nv_session.proofs.OneCall.{AskedOnce, AnsweredOnce, called_text, clean_one, create_one, write_one, size_one, attributes_one, link_one, unlink_one, remove_one, rename_one}
use Rattle.nv_session.proofs.OneClean.{clean_answered}
use Rattle.nv_session.proofs.UpgradesOnce.{upgrade_text, upgrade_unarmed}
use Rattle.std.specs.Prelude.{⊤, MatchBool, codes, replicate}
use Rattle.nv_region.specs.Region.{Region, size, put}
use Rattle.nv_region.specs.declared.memory.Fuse.{Fuse}
use Rattle.nv_region.specs.declared.memory.Keep.{Keep}
use Rattle.nv_image_check.specs.Workers.{is_worker_count, names_stranger}
use Rattle.nv_super.specs.declared.superblock.SuperFault.{SuperFault}
use Rattle.nv_journal.specs.Undo.{undone}
use Rattle.nv_format.specs.Format as formats
use Rattle.nv_format.specs.declared.formatting.FormatRefusal.{FormatRefusal}
use Rattle.nv_format.proofs.OneAnswer.{one_refusal, not_prevented}
use Rattle.nv_format.proofs.Determined.{formatted_only}
use Rattle.nv_line.specs.Request.{Request, Format, Time, Poke, Cut, Recover, Replay, ListNames, Stat, Read, Create, MakeDirectory, Write, SetSize, SetAttributes, Link, Unlink, RemoveDirectory, Rename, Clean, Upgrade, Tree, Free, Faults, Report, Peek, Stop}
use Rattle.nv_outcome.specs.Outcome.{Outcome}
use Rattle.nv_outcome.specs.Same.{SameOutcome}
use Rattle.nv_outcome.proofs.OnlyOne.{same_outcome}
use Rattle.nv_outcome.proofs.SuperOf.{one_fault}
use Rattle.nv_super.specs.FaultText.{super_fault_name}
use Rattle.nv_text.specs.Answers.{cleaned_line, ok_line, refused_line}
use Rattle.nv_report.specs.Last.{how_it_went}
use Rattle.nv_report.specs.declared.part.Part.{Part}
use Rattle.nv_report.specs.declared.part.Part.TheVariants as parts
use Rattle.nv_report.proofs.OneText.{recovered_one, part_one}
use Rattle.nv_session.specs.Machine.{State, Step, Does, IsRefusedAs, Replaces, Unmounts, front, MayStop, has_word, StopsRegion, StopsFormat, StopsRecovery, Recovers, Replays, ReadsMounted, TellsNames, TellsStat, TellsBytes, RefusesSuper, Mounts, RecoversRegion, ShowsMounted, PokesRegion, CutsRegion, Formats, Calls, CallsBy, CallsByTwo, CallsMounted, CallsTelling, StopsMounted, file_mode, directory_mode, writes}
use Rattle.nv_calls.specs.Effects.{logs_page_less, Makes, Logs, LogsBytes, LogsUnlink, makes_inode, makes_bytes, makes_size, makes_attributes, makes_link, makes_unlink, makes_removal, makes_rename, makes_no_change, logs_inode, logs_size, logs_attributes, logs_link, logs_removal, logs_rename}
use Rattle.nv_history.specs.Called.{finds_page}
use Rattle.nv_session.specs.Calls.{Asks, asks_create, asks_write, asks_size, asks_attributes, asks_link, asks_unlink, asks_remove, asks_rename, asks_clean}

-- one text and one state are told
abbrev pub IsOne : (List ℕ → State → Type 0) → Type 0
IsOne Tells = (s t : List ℕ) (m n : State) → Tells s m → Tells t n → (s ≡ t) × (m ≡ n)

-- a text and a state that are given
given_one : (said : List ℕ) (next : State) → IsOne (λ s m. (s ≡ said) × (m ≡ next))
given_one said next s t m n p q = (p.0 ∙ sym q.0, p.1 ∙ sym q.1)

-- one of two, chosen by a test
chosen_one : (b : Bool) (P Q : List ℕ → State → Type 0) → IsOne P → IsOne Q → IsOne (λ s m. MatchBool b (P s m) (Q s m))
chosen_one true P Q one other = one
chosen_one false P Q one other = other

-- making a region
format_one : (cpus blocks tables : ℕ) (old : State) → IsOne (λ s m. Formats cpus blocks tables old s m)
format_one cpus blocks tables old s t m n (inl p) (inl q) =
    let same : p.0 ≡ q.0 = one_refusal _ cpus tables p.0 q.0 p.2 q.2 in
    (p.3.0 ∙ ap (λ (r : FormatRefusal). refused_line (formats.refusal_name r)) same ∙ sym q.3.0, p.3.1 ∙ sym q.3.1)
format_one cpus blocks tables old s t m n (inl p) (inr q) = absurd (not_prevented q.1 p.0 p.1 p.2.applies)
format_one cpus blocks tables old s t m n (inr p) (inl q) = absurd (not_prevented p.1 q.0 q.1 q.2.applies)
format_one cpus blocks tables old s t m n (inr p) (inr q) =
    let same : p.0 ≡ q.0 = formatted_only _ p.0 q.0 _ _ p.1 q.1 in
    (p.2 ∙ sym q.2, p.3 ∙ ap (λ (R : Region). record old { region = Some R; mounted = None }) same ∙ sym q.3)

-- storing a word
poke_one : (region : Option Region) (at value : ℕ) (old : State) → IsOne (λ s m. PokesRegion region at value old s m)
poke_one None at value old = given_one _ _
poke_one (Some R) at value old = chosen_one _ _ _ (given_one _ _) (given_one _ _)

-- keeping a front
cut_one : (region : Option Region) (length : ℕ) (old : State) → IsOne (λ s m. CutsRegion region length old s m)
cut_one None length old = given_one _ _
cut_one (Some R) length old = chosen_one _ _ _ (given_one _ _) (given_one _ _)

-- what is left where an outcome of the region was mounted
abbrev mounted_by : Region → State → Outcome → State
mounted_by R old o = record old { region = Some (undone o.sup R); mounted = Some R; last = how_it_went o.faults }

mounted_same : (R : Region) (old : State) (a b : Outcome) → SameOutcome a b → mounted_by R old b ≡ mounted_by R old a
mounted_same R old a b same = λ i. record old { region = Some (undone (same.sup i) R); mounted = Some R; last = how_it_went (same.faults i) }

-- a region's superblock is refused, or its outcome is told
told_one : (R : Region) (old : State) → IsOne (λ s m. RefusesSuper R old s m ⊎ Mounts R old s m)
told_one R old s t m n (inl p) (inl q) =
    (p.2.0 ∙ ap (λ (f : SuperFault). refused_line (super_fault_name f)) (one_fault R p.0 q.0 p.1 q.1) ∙ sym q.2.0, p.2.1 ∙ sym q.2.1)
told_one R old s t m n (inl p) (inr q) = absurd (q.1.sup.sound p.0 p.1.applies)
told_one R old s t m n (inr p) (inl q) = absurd (p.1.sup.sound q.0 q.1.applies)
told_one R old s t m n (inr p) (inr q) =
    let same = same_outcome R p.0 q.0 p.1 q.1 in
    (p.2 ∙ sym (recovered_one p.0 q.0 same) ∙ sym q.2, p.3 ∙ sym (mounted_same R old p.0 q.0 same) ∙ sym q.3)

-- a recovery
recovery_one : (region : Option Region) (workers : ℕ) (schedule : List ℕ) (old : State) → IsOne (λ s m. RecoversRegion region workers schedule old s m)
recovery_one None workers schedule old = given_one _ _
recovery_one (Some R) workers schedule old = chosen_one _ _ _ (chosen_one _ _ _ (given_one _ _) (told_one R old)) (given_one _ _)

-- a part of what is mounted
mounted_one : (region : Option Region) (part : Part) (old : State) → IsOne (λ s m. ShowsMounted region part old s m)
mounted_one None part old s t m n p q = given_one _ _ s t m n p q
mounted_one (Some R) part old s t m n p q = (part_one part p.0 q.0 s t (same_outcome R p.0 q.0 p.1 q.1) p.2 q.2, p.3 ∙ sym q.3)

-- without a stop, a command that may be stopped
may_one : (P Q : State → List ℕ → State → Type 0) (old : State) → IsOne (λ s m. P old s m) → IsOne (λ s m. MayStop false P Q old s m)
may_one P Q old one s t m n (inl p) (inl q) = one s t m n p q
may_one P Q old one s t m n (inl p) (inr q) = absurd (let never = q.0 in cc)
may_one P Q old one s t m n (inr p) q = absurd (let never = p.0 in cc)

-- a call that reads what is mounted
reads_one : (Tells : trees.Tree → Path → List ℕ → Type 0) → ((t u : trees.Tree) → Alike t u → (p : Path) (text other : List ℕ) → Tells t p text → Tells u p other → text ≡ other)
    → (mounted region : Option Region) (path : List ℕ) (old : State) → IsOne (λ s m. ReadsMounted Tells mounted region path old s m)
reads_one Tells one None region path old s t m n p q = given_one _ _ s t m n p q
reads_one Tells one (Some R) None path old s t m n p q = absurd p
reads_one Tells one (Some R) (Some S) path old s t m n p q =
    let alike = alike_here S p.0.rows q.0.rows (same_outcome S p.0 q.0 p.1 q.1).rows in
    let same = says_one path q.2 p.2 q.3 p.3 in
    (one (tree_of S p.0.rows) (tree_of S q.0.rows) alike p.2 s t p.4 (subst (λ (x : Path). Tells (tree_of S q.0.rows) x t) same q.4), p.5 ∙ sym q.5)

-- what a command prints and leaves that no stop was set for, and that is no call which writes
does_one : (old : State) (request : Request) → writes request ≡ false → IsOne (λ s m. Does false request old s m)
does_one old (Format cpus blocks tables) reads = may_one (Formats cpus blocks tables) (StopsFormat cpus blocks tables) old (format_one cpus blocks tables old)
does_one old (Time time) reads = given_one _ _
does_one old (Poke at value) reads = poke_one old.region at value old
does_one old (Cut length) reads = cut_one old.region length old
does_one old (Recover workers) reads = may_one (Recovers workers) (StopsRecovery workers []) old (recovery_one old.region workers [] old)
does_one old (Replay workers schedule) reads = may_one (Replays workers schedule) (StopsRecovery workers schedule) old (recovery_one old.region workers schedule old)
does_one old (ListNames path) reads = reads_one TellsNames names_one old.mounted old.region path old
does_one old (Stat path) reads = reads_one TellsStat stat_one old.mounted old.region path old
does_one old (Read path offset count) reads = reads_one (TellsBytes offset count) (λ t u alike. bytes_one t u alike offset count) old.mounted old.region path old
does_one old (Create cpu path) reads = absurd (cc)
does_one old (MakeDirectory cpu path) reads = absurd (cc)
does_one old (Write cpu path offset count byte) reads = absurd (cc)
does_one old (SetSize cpu path bytes) reads = absurd (cc)
does_one old (SetAttributes cpu path mode owner group) reads = absurd (cc)
does_one old (Link cpu path other) reads = absurd (cc)
does_one old (Unlink cpu path) reads = absurd (cc)
does_one old (RemoveDirectory cpu path) reads = absurd (cc)
does_one old (Rename cpu path other) reads = absurd (cc)
does_one old (Clean path) reads = absurd (cc)
does_one old Upgrade reads = absurd (cc)
does_one old Tree reads = mounted_one old.mounted parts.Tree old
does_one old Free reads = mounted_one old.mounted parts.Free old
does_one old Faults reads = mounted_one old.mounted parts.Faults old
does_one old Report reads = mounted_one old.mounted parts.Report old
does_one old (Peek at) reads = given_one _ _
does_one old (Stop fuse keep) reads = given_one _ _

-- the same of a state
pub step_one : (old : State) (request : Request) → old.armed ≡ false → writes request ≡ false → IsOne (λ s m. Step old request s m)
step_one old request unarmed reads = subst (λ (b : Bool). IsOne (λ s m. Does b request (record old { armed = false }) s m)) (sym unarmed) (does_one (record old { armed = false }) request reads)

-- ---- the text of any command

-- without a stop, a call prints one text
telling_text : {A : Type 0} (grows : Option ℕ) (line : A → List ℕ) (asks : Asks) (makes : Makes ⊤) (logs : A → Logs ⊤) (stops : Logs ⊤) (path : List ℕ) → AskedOnce asks → AnsweredOnce line logs → (old m n : State) (s t : List ℕ) → CallsTelling grows line false asks makes logs stops path old s m → CallsTelling grows line false asks makes logs stops path old t n → s ≡ t
telling_text grows line asks makes logs stops path one answered old m n s t (inl p) (inl q) = called_text grows line asks makes logs path one answered old.mounted old.region old m n s t p q
telling_text grows line asks makes logs stops path one answered old m n s t (inl p) (inr q) = absurd (let never = q.0 in cc)
telling_text grows line asks makes logs stops path one answered old m n s t (inr p) q = absurd (let never = p.0 in cc)

call_text : (grows : Option ℕ) (asks : Asks) (makes : Makes ⊤) (logs : Logs ⊤) (path : List ℕ) → AskedOnce asks → (old m n : State) (s t : List ℕ) → CallsBy grows false asks makes logs path old s m → CallsBy grows false asks makes logs path old t n → s ≡ t
call_text grows asks makes logs path one = telling_text grows (λ (done : Unit {0}). ok_line) asks makes (λ done. logs) logs path one (λ S m k same names T U x y p q. refl)

call_text_by_two : (asks : Path → Asks) (makes : Path → Makes ⊤) (logs : Path → Logs ⊤) (path other : List ℕ) → ((q : Path) → AskedOnce (asks q)) → (old m n : State) (s t : List ℕ) → CallsByTwo false asks makes logs path other old s m → CallsByTwo false asks makes logs path other old t n → s ≡ t
call_text_by_two asks makes logs path other one old m n s t p q =
    call_text None (asks p.0) (makes p.0) (logs p.0) path (one p.0) old m n s t p.2 (subst (λ (x : Path). Calls false (asks x) (makes x) (logs x) path old t n) (says_one other q.0 p.0 q.1 p.1) q.2)

does_text : (old : State) (request : Request) (m n : State) (s t : List ℕ) → Does false request old s m → Does false request old t n → s ≡ t
does_text old (Create cpu path) m n s t p q = call_text (Some cpu) (asks_create cpu) (makes_inode File cpu file_mode old.time) (logs_inode File cpu file_mode old.time) path (λ S U m k same alike count. create_one S U m k same alike cpu) old m n s t p q
does_text old (MakeDirectory cpu path) m n s t p q = call_text (Some cpu) (asks_create cpu) (makes_inode Directory cpu directory_mode old.time) (logs_inode Directory cpu directory_mode old.time) path (λ S U m k same alike count. create_one S U m k same alike cpu) old m n s t p q
does_text old (Write cpu path offset count byte) m n s t p q = call_text None (asks_write cpu offset count old.time) (makes_bytes offset (replicate count byte) old.time) (LogsBytes cpu offset count old.time) path (λ S U m k same alike counts. write_one S U m k same alike counts cpu offset count old.time) old m n s t p q
does_text old (SetSize cpu path bytes) m n s t p q = call_text None (asks_size cpu bytes) (makes_size bytes old.time) (logs_size cpu bytes old.time) path (λ S U m k same alike count. size_one S U m k same alike cpu bytes) old m n s t p q
does_text old (SetAttributes cpu path mode owner group) m n s t p q = call_text None (asks_attributes cpu) (makes_attributes mode owner group old.time) (logs_attributes cpu mode owner group old.time) path (λ S U m k same alike count. attributes_one S U m k same alike cpu) old m n s t p q
does_text old (Link cpu path other) m n s t p q = call_text_by_two (asks_link cpu) (makes_link old.time) (logs_link cpu old.time) path other (λ r S U m k same alike count. link_one S U m k same alike cpu r) old m n s t p q
does_text old (Unlink cpu path) m n s t p q = call_text None (asks_unlink cpu) (makes_unlink old.time) (LogsUnlink cpu old.time) path (λ S U m k same alike count. unlink_one S U m k same alike cpu) old m n s t p q
does_text old (RemoveDirectory cpu path) m n s t p q = call_text None (asks_remove cpu) (makes_removal old.time) (logs_removal cpu old.time) path (λ S U m k same alike count. remove_one S U m k same alike cpu) old m n s t p q
does_text old (Rename cpu path other) m n s t p q = call_text_by_two (asks_rename cpu) (makes_rename old.time) (logs_rename cpu old.time) path other (λ r S U m k same alike count. rename_one S U m k same alike cpu r) old m n s t p q
does_text old (Clean path) m n s t p q = telling_text None cleaned_line asks_clean makes_no_change finds_page logs_page_less path (λ S U m k same alike count. clean_one S U m k same alike) clean_answered old m n s t p q
does_text old Upgrade m n s t p q = upgrade_text old m n s t p q
does_text old (Format cpus blocks tables) m n s t p q = (does_one old (Format cpus blocks tables) refl s t m n p q).0
does_text old (Time time) m n s t p q = (does_one old (Time time) refl s t m n p q).0
does_text old (Poke at value) m n s t p q = (does_one old (Poke at value) refl s t m n p q).0
does_text old (Cut length) m n s t p q = (does_one old (Cut length) refl s t m n p q).0
does_text old (Recover workers) m n s t p q = (does_one old (Recover workers) refl s t m n p q).0
does_text old (Replay workers schedule) m n s t p q = (does_one old (Replay workers schedule) refl s t m n p q).0
does_text old (ListNames path) m n s t p q = (does_one old (ListNames path) refl s t m n p q).0
does_text old (Stat path) m n s t p q = (does_one old (Stat path) refl s t m n p q).0
does_text old (Read path offset count) m n s t p q = (does_one old (Read path offset count) refl s t m n p q).0
does_text old Tree m n s t p q = (does_one old Tree refl s t m n p q).0
does_text old Free m n s t p q = (does_one old Free refl s t m n p q).0
does_text old Faults m n s t p q = (does_one old Faults refl s t m n p q).0
does_text old Report m n s t p q = (does_one old Report refl s t m n p q).0
does_text old (Peek at) m n s t p q = (does_one old (Peek at) refl s t m n p q).0
does_text old (Stop fuse keep) m n s t p q = (does_one old (Stop fuse keep) refl s t m n p q).0

pub step_text : (old : State) (request : Request) → old.armed ≡ false → (m n : State) (s t : List ℕ) → Step old request s m → Step old request t n → s ≡ t
step_text old request unarmed m n s t p q =
    let now : State = record old { armed = false } in
    does_text now request m n s t (subst (λ (b : Bool). Does b request now s m) unarmed p) (subst (λ (b : Bool). Does b request now t n) unarmed q)

-- ---- what is armed

abbrev armed_of : State → Bool
armed_of s = s.armed

shown_unarmed : (mounted : Option Region) (part : Part) (old m : State) (s : List ℕ) → ShowsMounted mounted part old s m → m.armed ≡ old.armed
shown_unarmed None part old m s h = ap armed_of h.1
shown_unarmed (Some R) part old m s h = ap armed_of h.3

read_unarmed : (Tells : trees.Tree → Path → List ℕ → Type 0) (mounted region : Option Region) (path : List ℕ) (old m : State) (s : List ℕ) → ReadsMounted Tells mounted region path old s m → m.armed ≡ old.armed
read_unarmed Tells None region path old m s h = ap armed_of h.1
read_unarmed Tells (Some R) None path old m s h = absurd h
read_unarmed Tells (Some R) (Some S) path old m s h = ap armed_of h.5

called_unarmed : {A : Type 0} (grows : Option ℕ) (line : A → List ℕ) (asks : Asks) (makes : Makes ⊤) (logs : A → Logs ⊤) (path : List ℕ) (mounted region : Option Region) (old m : State) (s : List ℕ) → CallsMounted grows asks makes logs line path mounted region old s m → m.armed ≡ old.armed
called_unarmed grows line asks makes logs path None region old m s h = ap armed_of h.1
called_unarmed grows line asks makes logs path (Some R) None old m s h = absurd h
called_unarmed grows line asks makes logs path (Some R) (Some S) old m s (inl h) = ap armed_of h.2
called_unarmed grows line asks makes logs path (Some R) (Some S) old m s (inr h) = ap armed_of h.9

ended_unarmed : (grows : Option ℕ) (asks : Asks) (makes : Makes ⊤) (stops : Logs ⊤) (path : List ℕ) (mounted region : Option Region) (old m : State) (s : List ℕ) → StopsMounted grows asks makes stops path mounted region old s m → m.armed ≡ old.armed
ended_unarmed grows asks makes stops path None region old m s h = absurd h
ended_unarmed grows asks makes stops path (Some R) None old m s h = absurd h
ended_unarmed grows asks makes stops path (Some R) (Some S) old m s h = ap armed_of h.8

telling_unarmed : {A : Type 0} (grows : Option ℕ) (line : A → List ℕ) (a : Bool) (asks : Asks) (makes : Makes ⊤) (logs : A → Logs ⊤) (stops : Logs ⊤) (path : List ℕ) (old m : State) (s : List ℕ) → CallsTelling grows line a asks makes logs stops path old s m → m.armed ≡ old.armed
telling_unarmed grows line a asks makes logs stops path old m s (inl h) = called_unarmed grows line asks makes logs path old.mounted old.region old m s h
telling_unarmed grows line a asks makes logs stops path old m s (inr h) = ended_unarmed grows asks makes stops path old.mounted old.region old m s h.1

call_unarmed : (grows : Option ℕ) (a : Bool) (asks : Asks) (makes : Makes ⊤) (logs : Logs ⊤) (path : List ℕ) (old m : State) (s : List ℕ) → CallsBy grows a asks makes logs path old s m → m.armed ≡ old.armed
call_unarmed grows a asks makes logs = telling_unarmed grows (λ (done : Unit {0}). ok_line) a asks makes (λ done. logs) logs

formatted_unarmed : (a : Bool) (cpus blocks tables : ℕ) (old m : State) (s : List ℕ) → MayStop a (Formats cpus blocks tables) (StopsFormat cpus blocks tables) old s m → m.armed ≡ old.armed
formatted_unarmed a cpus blocks tables old m s (inl (inl h)) = ap armed_of h.3.1
formatted_unarmed a cpus blocks tables old m s (inl (inr h)) = ap armed_of h.3
formatted_unarmed a cpus blocks tables old m s (inr h) = ap armed_of h.1.5

by_test : (b : Bool) (P Q : List ℕ → State → Type 0) (old m : State) (s : List ℕ) → (P s m → m.armed ≡ old.armed) → (Q s m → m.armed ≡ old.armed) → MatchBool b (P s m) (Q s m) → m.armed ≡ old.armed
by_test true P Q old m s one other h = one h
by_test false P Q old m s one other h = other h

poked_unarmed : (region : Option Region) (at value : ℕ) (old m : State) (s : List ℕ) → PokesRegion region at value old s m → m.armed ≡ old.armed
poked_unarmed None at value old m s h = ap armed_of h.1
poked_unarmed (Some R) at value old m s h = by_test (has_word R at) (λ s m. Replaces (put R at value) old s m) (λ s m. IsRefusedAs (codes "Address") old s m) old m s (λ h. ap armed_of h.1) (λ h. ap armed_of h.1) h

cut_unarmed : (region : Option Region) (length : ℕ) (old m : State) (s : List ℕ) → CutsRegion region length old s m → m.armed ≡ old.armed
cut_unarmed None length old m s h = ap armed_of h.1
cut_unarmed (Some R) length old m s h = by_test (nat_le length (size R)) (λ s m. Replaces (front R length) old s m) (λ s m. IsRefusedAs (codes "Length") old s m) old m s (λ h. ap armed_of h.1) (λ h. ap armed_of h.1) h

told_unarmed : (R : Region) (old m : State) (s : List ℕ) → RefusesSuper R old s m ⊎ Mounts R old s m → m.armed ≡ old.armed
told_unarmed R old m s (inl h) = ap armed_of h.2.1
told_unarmed R old m s (inr h) = ap armed_of h.3

recovered_unarmed : (region : Option Region) (workers : ℕ) (schedule : List ℕ) (old m : State) (s : List ℕ) → RecoversRegion region workers schedule old s m → m.armed ≡ old.armed
recovered_unarmed None workers schedule old m s h = ap armed_of h.1
recovered_unarmed (Some R) workers schedule old m s h =
    let accepted : List ℕ → State → Type 0 = λ s m. MatchBool (names_stranger workers schedule) (Unmounts (codes "Schedule") old s m) (RefusesSuper R old s m ⊎ Mounts R old s m) in
    by_test (is_worker_count workers) accepted (λ s m. Unmounts (codes "Workers") old s m) old m s
    (λ h. by_test (names_stranger workers schedule) (λ s m. Unmounts (codes "Schedule") old s m) (λ s m. RefusesSuper R old s m ⊎ Mounts R old s m) old m s (λ h. ap armed_of h.1) (told_unarmed R old m s) h) (λ h. ap armed_of h.1) h

stopped_unarmed : (region : Option Region) (workers : ℕ) (schedule : List ℕ) (old m : State) (s : List ℕ) → StopsRegion region workers schedule old s m → m.armed ≡ old.armed
stopped_unarmed None workers schedule old m s h = absurd h
stopped_unarmed (Some R) workers schedule old m s h = ap armed_of h.6

recovery_unarmed : (a : Bool) (workers : ℕ) (schedule : List ℕ) (old m : State) (s : List ℕ) → MayStop a (Replays workers schedule) (StopsRecovery workers schedule) old s m → m.armed ≡ old.armed
recovery_unarmed a workers schedule old m s (inl h) = recovered_unarmed old.region workers schedule old m s h
recovery_unarmed a workers schedule old m s (inr h) = stopped_unarmed old.region workers schedule old m s h.1

-- no other command than `stop` arms
pub does_unarmed : (a : Bool) (request : Request) → ((fuse : Fuse) (keep : Keep) → request ≡ Stop fuse keep → ⊥) → (old m : State) (s : List ℕ) → Does a request old s m → m.armed ≡ old.armed
does_unarmed a (Format cpus blocks tables) other old m s h = formatted_unarmed a cpus blocks tables old m s h
does_unarmed a (Time time) other old m s h = ap armed_of h.1
does_unarmed a (Poke at value) other old m s h = poked_unarmed old.region at value old m s h
does_unarmed a (Cut length) other old m s h = cut_unarmed old.region length old m s h
does_unarmed a (Recover workers) other old m s h = recovery_unarmed a workers [] old m s h
does_unarmed a (Replay workers schedule) other old m s h = recovery_unarmed a workers schedule old m s h
does_unarmed a (ListNames path) other old m s h = read_unarmed TellsNames old.mounted old.region path old m s h
does_unarmed a (Stat path) other old m s h = read_unarmed TellsStat old.mounted old.region path old m s h
does_unarmed a (Read path offset count) other old m s h = read_unarmed (TellsBytes offset count) old.mounted old.region path old m s h
does_unarmed a (Create cpu path) other old m s h = call_unarmed (Some cpu) a (asks_create cpu) (makes_inode File cpu file_mode old.time) (logs_inode File cpu file_mode old.time) path old m s h
does_unarmed a (MakeDirectory cpu path) other old m s h = call_unarmed (Some cpu) a (asks_create cpu) (makes_inode Directory cpu directory_mode old.time) (logs_inode Directory cpu directory_mode old.time) path old m s h
does_unarmed a (Write cpu path offset count byte) other old m s h = call_unarmed None a (asks_write cpu offset count old.time) (makes_bytes offset (replicate count byte) old.time) (LogsBytes cpu offset count old.time) path old m s h
does_unarmed a (SetSize cpu path bytes) other old m s h = call_unarmed None a (asks_size cpu bytes) (makes_size bytes old.time) (logs_size cpu bytes old.time) path old m s h
does_unarmed a (SetAttributes cpu path mode owner group) other old m s h = call_unarmed None a (asks_attributes cpu) (makes_attributes mode owner group old.time) (logs_attributes cpu mode owner group old.time) path old m s h
does_unarmed a (Link cpu path new) other old m s h = call_unarmed None a (asks_link cpu h.0) (makes_link old.time h.0) (logs_link cpu old.time h.0) path old m s h.2
does_unarmed a (Unlink cpu path) other old m s h = call_unarmed None a (asks_unlink cpu) (makes_unlink old.time) (LogsUnlink cpu old.time) path old m s h
does_unarmed a (RemoveDirectory cpu path) other old m s h = call_unarmed None a (asks_remove cpu) (makes_removal old.time) (logs_removal cpu old.time) path old m s h
does_unarmed a (Rename cpu path new) other old m s h = call_unarmed None a (asks_rename cpu h.0) (makes_rename old.time h.0) (logs_rename cpu old.time h.0) path old m s h.2
does_unarmed a (Clean path) other old m s h = telling_unarmed None cleaned_line a asks_clean makes_no_change finds_page logs_page_less path old m s h
does_unarmed a Upgrade other old m s h = upgrade_unarmed a old m s h
does_unarmed a Tree other old m s h = shown_unarmed old.mounted parts.Tree old m s h
does_unarmed a Free other old m s h = shown_unarmed old.mounted parts.Free old m s h
does_unarmed a Faults other old m s h = shown_unarmed old.mounted parts.Faults old m s h
does_unarmed a Report other old m s h = shown_unarmed old.mounted parts.Report old m s h
does_unarmed a (Peek at) other old m s h = ap armed_of h.1
does_unarmed a (Stop fuse keep) other old m s h = absurd (other fuse keep refl)

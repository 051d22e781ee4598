-- The machine that a script runs: its state, and what each command may print and leave.
use Rattle.std.specs.Prelude.{IsTrue, true, false, not, flat_map, ◌≡◌, ◌≢◌, ◌⊎◌, ◌+◌, ◌*◌, ◌%◌, ℕ, Bool, ◌&&◌, ◌==◌, nat_le, MatchBool, ⊤, if◌then◌else◌, List, [], replicate, take, Option, Some, None}
use Rattle.std.specs.Prelude.{codes}
use Rattle.nv_region.specs.Region.{Region, size, word, put, region_of, bytes_of}
use Rattle.nv_region.specs.RegionState.{is_off}
use Rattle.nv_region.specs.declared.memory.Fuse.{Fuse}
use Rattle.nv_super.specs.declared.superblock.SuperFault.{SuperFault}
use Rattle.nv_super.specs.Super.{IsRefused}
use Rattle.nv_journal.specs.Undo.{undone}
use Rattle.nv_outcome.specs.Outcome.{Outcome, IsOutcome}
use Rattle.nv_format.specs.Format.{IsFormatRefusal, CanFormat, IsFormatted, FormatLeaves, fresh_super}
use Rattle.nv_format.specs.Format as formats
use Rattle.nv_format.specs.declared.formatting.FormatRefusal.{FormatRefusal}
use Rattle.nv_format.specs.declared.formatting.FormatRefusal.TheVariants.{Stopped}
use Rattle.nv_line.specs.Request.{Request, Format, Time, Poke, Cut, Recover, Replay, ListNames, Stat, Read, Create, MakeDirectory, Write, SetSize, SetAttributes, Link, Unlink, RemoveDirectory, Rename}
use Rattle.nv_line.specs.Request.{Clean, Upgrade, Tree, Free, Faults, Report, Peek, Stop}
use Rattle.nv_super.specs.declared.kind.Kind.TheVariants.{File, Directory}
use Rattle.nv_inode.specs.Upgraded.{IsUpgraded, upgraded, upgraded_layout}
use Rattle.nv_calls.specs.Mount.{Mount, has_faults}
use Rattle.nv_calls.specs.Upgrading.{LeavesUpgrade}
use Rattle.nv_calls.specs.Effects.{logs_page_less, Makes, Logs, LogsBytes, LogsUnlink, makes_inode, makes_bytes, makes_size, makes_attributes, makes_link, makes_unlink, makes_removal, makes_rename}
use Rattle.nv_calls.specs.Effects.{makes_no_change, logs_inode, logs_size, logs_attributes, logs_link, logs_removal, logs_rename}
use Rattle.nv_history.specs.Asking as asking
use Rattle.nv_history.specs.Called.{finds_page}
use Rattle.nv_session.specs.Calls.{Asks, Asked, LeavesStopped, LeavesTables, LeavesTree, LeavesTreeBy, mounted_as, seen_in}
use Rattle.nv_session.specs.Calls.{asks_create, asks_write, asks_size, asks_attributes, asks_link, asks_unlink, asks_remove, asks_rename, asks_clean}
use Rattle.nv_super.specs.FaultText.{super_fault_name}
use Rattle.nv_tree.specs.Path.{Says}
use Rattle.nv_tree.specs.Tree as trees
use Rattle.nv_tree.specs.Refusals.{Path, Tests, first_refusal, refusal_word, list_tests, stat_tests, read_tests}
use Rattle.nv_tree.specs.declared.refusal.Refusal.{Refusal}
use Rattle.nv_paths.specs.Seen.{tree_of}
use Rattle.nv_tree.specs.Stat.{IsStat}
use Rattle.nv_calls.specs.Reading.{IsRead}
use Rattle.nv_calls.specs.Listing.{ListsNamesIn}
use Rattle.nv_tree.specs.declared.stat.Stat as stats
use Rattle.nv_text.specs.Answers.{ok_line, refused_line, stopped_line, word_line, cleaned_line}
use Rattle.nv_text.specs.Names.{list_line, data_line}
use Rattle.nv_text.specs.Report.{stat_line}
use Rattle.nv_report.specs.Texts.{recovered_text, IsPartText}
use Rattle.nv_recover.specs.Errors.{UndoesAsBefore}
use Rattle.nv_image_check.specs.Workers.{is_worker_count, names_stranger}
use Rattle.nv_report.specs.Last.{how_it_went}
use Rattle.nv_report.specs.declared.part.Part.{Part}
use Rattle.nv_report.specs.declared.part.Part.TheVariants as parts
use Rattle.nv_report.specs.declared.last.Last.{Last}
use Rattle.nv_report.specs.declared.last.Last.TheVariants.{Sound, Refused}

-- What a script has made so far: a region, the region whose outcome the mount shows, the current time, how the last recovery
-- went, and whether the next command may be stopped.
pub record State : Type 0 where
  pub region : Option Region
  pub mounted : Option Region
  pub time : ℕ
  pub last : Last
  -- the next command may be stopped
  pub armed : Bool

-- before the first line
abbrev pub first_state : State
first_state = record { region = None; mounted = None; time = 0; last = Sound; armed = false }

-- before the first line, where a region is there from the start
abbrev pub state_with : Region → State
state_with R = record first_state { region = Some R }

-- the command prints this, and leaves all as it was
abbrev pub Answers : List ℕ → State → List ℕ → State → Type 0
Answers said old text new = (text ≡ said) × (new ≡ old)

-- the command is refused by this name, and leaves all as it was
abbrev pub IsRefusedAs : List ℕ → State → List ℕ → State → Type 0
IsRefusedAs name old text new = Answers (refused_line name) old text new

-- `time` sets the current time
abbrev pub SetsTime : ℕ → State → List ℕ → State → Type 0
SetsTime time old text new = (text ≡ ok_line) × (new ≡ record old { time = time })

-- a region of so many blocks of zeros
abbrev pub zeros : ℕ → Region
zeros blocks = record { words = replicate (512 * blocks) 0; rest = [] }

-- the first refusal that applies, which is no stop
abbrev pub RefusesFormat : ℕ → ℕ → ℕ → State → List ℕ → State → Type 0
RefusesFormat cpus blocks tables old text new = (refusal : FormatRefusal) × (refusal ≢ Stopped)
    × IsFormatRefusal (zeros blocks) cpus tables refusal × IsRefusedAs (formats.refusal_name refusal) old text new

-- zeros that were formatted at the current time; nothing is mounted
abbrev pub MakesRegion : ℕ → ℕ → ℕ → State → List ℕ → State → Type 0
MakesRegion cpus blocks tables old text new = (R : Region)
    × IsFormatted (zeros blocks) R (fresh_super (zeros blocks) cpus tables) old.time
    × (text ≡ ok_line) × (new ≡ record old { region = Some R; mounted = None })

-- `format` is refused, or makes a region
abbrev pub Formats : ℕ → ℕ → ℕ → State → List ℕ → State → Type 0
Formats cpus blocks tables old text new = RefusesFormat cpus blocks tables old text new ⊎ MakesRegion cpus blocks tables old text new

-- The region's outcome is told and mounted. Its journals are rolled back in the region that is left; the one that came is
-- mounted, since a fault of its pending records is in no outcome of the other.
abbrev pub Mounts : Region → State → List ℕ → State → Type 0
Mounts R old text new = (o : Outcome) × IsOutcome R o × (text ≡ recovered_text o)
    × (new ≡ record old { region = Some (undone o.sup R); mounted = Some R; last = how_it_went o.faults })

-- the recovery is refused by this name, and nothing is mounted
abbrev pub Unmounts : List ℕ → State → List ℕ → State → Type 0
Unmounts name old text new = (text ≡ refused_line name) × (new ≡ record old { mounted = None; last = Refused })

-- the superblock isn't accepted: the first fault that applies is named
abbrev pub RefusesSuper : Region → State → List ℕ → State → Type 0
RefusesSuper R old text new = (fault : SuperFault) × IsRefused R fault × Unmounts (super_fault_name fault) old text new

-- a recovery of the region that there is: the workers are tested first, then the schedule, and then the superblock
abbrev pub RecoversRegion : Option Region → ℕ → List ℕ → State → List ℕ → State → Type 0
RecoversRegion None workers schedule old text new = Unmounts (codes "NoRegion") old text new
RecoversRegion (Some R) workers schedule old text new = MatchBool (is_worker_count workers)
    (MatchBool (names_stranger workers schedule) (Unmounts (codes "Schedule") old text new) (RefusesSuper R old text new ⊎ Mounts R old text new))
    (Unmounts (codes "Workers") old text new)

-- `recover`, which has no schedule
abbrev pub Recovers : ℕ → State → List ℕ → State → Type 0
Recovers workers old text new = RecoversRegion old.region workers [] old text new

-- `replay`, which answers what `recover` does, and may be refused for its schedule
abbrev pub Replays : ℕ → List ℕ → State → List ℕ → State → Type 0
Replays workers schedule old text new = RecoversRegion old.region workers schedule old text new

-- a part of the outcome of the mounted region
abbrev pub ShowsMounted : Option Region → Part → State → List ℕ → State → Type 0
ShowsMounted None part old text new = IsRefusedAs (codes "NotMounted") old text new
ShowsMounted (Some R) part old text new = (o : Outcome) × IsOutcome R o × IsPartText part o text × (new ≡ old)

-- `tree`, `free`, `faults` and `report` show the mounted outcome
abbrev pub ShowsPart : Part → State → List ℕ → State → Type 0
ShowsPart part old text new = ShowsMounted old.mounted part old text new

-- a word begins at the address, and is in the region
abbrev pub has_word : Region → ℕ → Bool
has_word R at = (at % 8 == 0) && nat_le (at + 8) (size R)

-- the word at an address of the region that there is
abbrev pub peek_text : Option Region → ℕ → List ℕ
peek_text None at = refused_line (codes "NoRegion")
peek_text (Some R) at = if has_word R at then word_line (word R at) else refused_line (codes "Address")

-- `peek` shows a word
abbrev pub Peeks : ℕ → State → List ℕ → State → Type 0
Peeks at old text new = Answers (peek_text old.region at) old text new

-- the command is done, and leaves another region, of which nothing is mounted
abbrev pub Replaces : Region → State → List ℕ → State → Type 0
Replaces R old text new = (text ≡ ok_line) × (new ≡ record old { region = Some R; mounted = None })

-- a word is stored in the region that there is
abbrev pub PokesRegion : Option Region → ℕ → ℕ → State → List ℕ → State → Type 0
PokesRegion None at value old text new = IsRefusedAs (codes "NoRegion") old text new
PokesRegion (Some R) at value old text new = MatchBool (has_word R at) (Replaces (put R at value) old text new) (IsRefusedAs (codes "Address") old text new)

-- `poke` stores a word
abbrev pub Pokes : ℕ → ℕ → State → List ℕ → State → Type 0
Pokes at value old text new = PokesRegion old.region at value old text new

-- the first bytes of a region, as a region
abbrev pub front : Region → ℕ → Region
front R length = region_of (take length (bytes_of R))

-- the region that there is becomes a front of it
abbrev pub CutsRegion : Option Region → ℕ → State → List ℕ → State → Type 0
CutsRegion None length old text new = IsRefusedAs (codes "NoRegion") old text new
CutsRegion (Some R) length old text new = MatchBool (nat_le length (size R)) (Replaces (front R length) old text new) (IsRefusedAs (codes "Length") old text new)

-- `cut` keeps so many bytes, of any number that the region has
abbrev pub Cuts : ℕ → State → List ℕ → State → Type 0
Cuts length old text new = CutsRegion old.region length old text new

-- ---- stops

-- the command is done, or it is stopped, where it may be
abbrev pub MayStop : Bool → (State → List ℕ → State → Type 0) → (State → List ℕ → State → Type 0) → State → List ℕ → State → Type 0
MayStop armed Done Ends old text new = Done old text new ⊎ (IsTrue armed × Ends old text new)

-- `stop` lets the next command be stopped by a fuse
abbrev pub Arms : Fuse → State → List ℕ → State → Type 0
Arms fuse old text new = (text ≡ ok_line) × (new ≡ record old { armed = not (is_off fuse) })

-- A format that isn't refused is stopped: what it leaves of the zeros is the region, of which nothing is mounted.
abbrev pub StopsFormat : ℕ → ℕ → ℕ → State → List ℕ → State → Type 0
StopsFormat cpus blocks tables old text new = CanFormat (zeros blocks) cpus tables × (R : Region) × (size R ≡ size (zeros blocks))
    × FormatLeaves (zeros blocks) (fresh_super (zeros blocks) cpus tables) old.time R
    × (text ≡ stopped_line) × (new ≡ record old { region = Some R; mounted = None })

-- A recovery of the region that there is, which isn't refused for its workers or its schedule, is stopped: the region that it
-- leaves has the same superblock, and rolls back to the same region. Nothing is mounted.
abbrev pub StopsRegion : Option Region → ℕ → List ℕ → State → List ℕ → State → Type 0
StopsRegion None workers schedule old text new = ⊥
StopsRegion (Some R) workers schedule old text new = (is_worker_count workers ≡ true) × (names_stranger workers schedule ≡ false)
    × (S : Region) × (size S ≡ size R) × UndoesAsBefore R S × (text ≡ stopped_line) × (new ≡ record old { region = Some S; mounted = None; last = Refused })

-- the same of the region of a state
abbrev pub StopsRecovery : ℕ → List ℕ → State → List ℕ → State → Type 0
StopsRecovery workers schedule old text new = StopsRegion old.region workers schedule old text new

-- ---- file calls

-- the call is refused by the first test that holds
abbrev pub TellsRefusal : Tests → List ℕ → Type 0
TellsRefusal tests text = (refusal : Refusal) × (first_refusal tests ≡ Some refusal) × (text ≡ refused_line (refusal_word refusal))

-- `stat` is refused, or tells the numbers of the inode that the path leads to
abbrev pub TellsStat : trees.Tree → Path → List ℕ → Type 0
TellsStat t p text = TellsRefusal (stat_tests t p) text
    ⊎ ((names : List (List ℕ)) × (p ≡ Some names) × (first_refusal (stat_tests t p) ≡ None) × (s : stats.Stat) × IsStat t names s × (text ≡ stat_line s))

-- a line for each name
abbrev pub list_lines : List (List ℕ × ℕ) → List ℕ
list_lines lines = flat_map (λ (x : List ℕ × ℕ). list_line x.0 x.1) lines

-- `list` is refused, or tells the names of the directory that the path leads to
abbrev pub TellsNames : trees.Tree → Path → List ℕ → Type 0
TellsNames t p text = TellsRefusal (list_tests t p) text
    ⊎ ((names : List (List ℕ)) × (p ≡ Some names) × (first_refusal (list_tests t p) ≡ None) × (lines : List (List ℕ × ℕ)) × ListsNamesIn t names lines × (text ≡ list_lines lines))

-- `read` is refused, or tells the bytes of the file that the path leads to
abbrev pub TellsBytes : ℕ → ℕ → trees.Tree → Path → List ℕ → Type 0
TellsBytes offset count t p text = TellsRefusal (read_tests t p) text
    ⊎ ((names : List (List ℕ)) × (p ≡ Some names) × (first_refusal (read_tests t p) ≡ None) × (bytes : List ℕ) × IsRead t names offset count bytes × (text ≡ data_line bytes))

-- A call that only reads, where a region is mounted: it tells what the tree shows that the rows of an outcome of the
-- region that there is make.
abbrev pub ReadsMounted : (trees.Tree → Path → List ℕ → Type 0) → Option Region → Option Region → List ℕ → State → List ℕ → State → Type 0
ReadsMounted Tells None region path old text new = IsRefusedAs (codes "NotMounted") old text new
ReadsMounted Tells (Some R) None path old text new = ⊥
ReadsMounted Tells (Some R) (Some S) path old text new = (o : Outcome) × IsOutcome S o × (p : Path) × Says path p × Tells (tree_of S o.rows) p text × (new ≡ old)

-- the same of the region of a state
abbrev pub Reads : (trees.Tree → Path → List ℕ → Type 0) → List ℕ → State → List ℕ → State → Type 0
Reads Tells path old text new = ReadsMounted Tells old.mounted old.region path old text new

-- ---- file calls that write

-- the call is refused by the first of its tests that holds, and leaves all as it was
abbrev pub RefusesCall : Asks → Region → Region → List ℕ → State → List ℕ → State → Type 0
RefusesCall asks R S path old text new = (a : Asked asks R S path) × TellsRefusal a.tests text × (new ≡ old)

-- No test holds: the call is done, the line of its answer is told, and the region that it leaves is mounted. The table of a CPU may
-- have grown, if the call lets one grow.
abbrev pub DoesCall : {A : Type 0} → Option ℕ → Asks → Makes ⊤ → (A → Logs ⊤) → (A → List ℕ) → Region → Region → List ℕ → State → List ℕ → State → Type 0
DoesCall {A} grows asks makes logs line R S path old text new = (a : Asked asks R S path) × (first_refusal a.tests ≡ None) × (names : List (List ℕ)) × (a.path_is ≡ Some names)
    × (T : Region) × LeavesTreeBy (LeavesTables grows (seen_in a)) S T (seen_in a) (makes S (seen_in a) names) × (answer : A) × logs answer S (seen_in a) names T × (text ≡ line answer)
    × (new ≡ record old { region = Some T; mounted = Some T })

-- A call on what is mounted, if something is: of the mounted region, which came to the last recovery or which a call
-- left, and of the one that there is.
abbrev pub CallsMounted : {A : Type 0} → Option ℕ → Asks → Makes ⊤ → (A → Logs ⊤) → (A → List ℕ) → List ℕ → Option Region → Option Region → State → List ℕ → State → Type 0
CallsMounted grows asks makes logs line path None region old text new = IsRefusedAs (codes "NotMounted") old text new
CallsMounted grows asks makes logs line path (Some R) None old text new = ⊥
CallsMounted grows asks makes logs line path (Some R) (Some S) old text new = RefusesCall asks R S path old text new ⊎ DoesCall grows asks makes logs line R S path old text new

-- The call is stopped, which comes only of a path, and where no faults were found. Recovery of the region that it leaves finds,
-- without faults, what was mounted or what the call makes of it. Nothing is mounted.
abbrev pub StopsCall : Option ℕ → Asks → Makes ⊤ → Logs ⊤ → Region → Region → List ℕ → State → List ℕ → State → Type 0
StopsCall grows asks makes stops R S path old text new = (a : Asked asks R S path) × (has_faults a.shown.faults ≡ false) × (names : List (List ℕ)) × (a.path_is ≡ Some names)
    × (T : Region) × (size T ≡ size S) × LeavesStopped grows makes stops S (seen_in a) names T × (text ≡ stopped_line) × (new ≡ record old { region = Some T; mounted = None })

-- the same of what is mounted
abbrev pub StopsMounted : Option ℕ → Asks → Makes ⊤ → Logs ⊤ → List ℕ → Option Region → Option Region → State → List ℕ → State → Type 0
StopsMounted grows asks makes stops path None region old text new = ⊥
StopsMounted grows asks makes stops path (Some R) None old text new = ⊥
StopsMounted grows asks makes stops path (Some R) (Some S) old text new = StopsCall grows asks makes stops R S path old text new

-- A call that writes, which is done and tells the line of its answer, or refused, or stopped where it may be: by the CPU whose table
-- may grow, if it lets one grow, and what a call that is done leaves of the logs, and what one that is stopped may leave of them.
abbrev pub CallsTelling : {A : Type 0} → Option ℕ → (A → List ℕ) → Bool → Asks → Makes ⊤ → (A → Logs ⊤) → Logs ⊤ → List ℕ → State → List ℕ → State → Type 0
CallsTelling grows line armed asks makes logs stops path old text new = MayStop armed
    (λ old text new. CallsMounted grows asks makes logs line path old.mounted old.region old text new)
    (λ old text new. StopsMounted grows asks makes stops path old.mounted old.region old text new) old text new

-- the same where there is nothing to answer but `ok`
abbrev pub CallsBy : Option ℕ → Bool → Asks → Makes ⊤ → Logs ⊤ → List ℕ → State → List ℕ → State → Type 0
CallsBy grows armed asks makes logs path old text new = CallsTelling grows (λ (done : Unit {0}). ok_line) armed asks makes (λ done. logs) logs path old text new

-- and no table grows
abbrev pub Calls : Bool → Asks → Makes ⊤ → Logs ⊤ → List ℕ → State → List ℕ → State → Type 0
Calls armed asks makes logs path old text new = CallsBy None armed asks makes logs path old text new

-- a call that writes by two paths: what the second says, and the call by the first
abbrev pub CallsByTwo : Bool → (Path → Asks) → (Path → Makes ⊤) → (Path → Logs ⊤) → List ℕ → List ℕ → State → List ℕ → State → Type 0
CallsByTwo armed asks makes logs path other old text new = (q : Path) × Says other q × Calls armed (asks q) (makes q) (logs q) path old text new

-- the mode of what `create` makes
abbrev pub file_mode : ℕ
file_mode = 420

-- the mode of what `mkdir` makes
abbrev pub directory_mode : ℕ
directory_mode = 493

-- ---- the upgrade

-- What `upgrade` is asked: the outcomes of the mounted region, which the mount shows, and of the one that there is.
pub record AskedUpgrade (R S : Region) : Type 0 where
  pub shown : Outcome
  pub of_shown : IsOutcome R shown
  pub here : Outcome
  pub of_here : IsOutcome S here

-- the mounted file system that it is asked of
abbrev pub upgrade_in : {R S : Region} → AskedUpgrade R S → Mount ⊤
upgrade_in a = mounted_as a.here (has_faults a.shown.faults)

-- and its tests
abbrev pub upgrade_asked : {R S : Region} → AskedUpgrade R S → Tests
upgrade_asked a = asking.upgrade_asked (upgrade_in a)

-- it is refused by the first of its tests that holds, and leaves all as it was
abbrev pub RefusesUpgrade : Region → Region → State → List ℕ → State → Type 0
RefusesUpgrade R S old text new = (a : AskedUpgrade R S) × TellsRefusal (upgrade_asked a) text × (new ≡ old)

-- the same file system in version 2
abbrev pub in_version_2 : Mount ⊤ → Mount ⊤
in_version_2 m = record m { sup = upgraded m.sup; layout = upgraded_layout m.layout }

-- No test holds: the region is upgraded, and what it is then is mounted, with the tree that it had.
abbrev pub DoesUpgrade : Region → Region → State → List ℕ → State → Type 0
DoesUpgrade R S old text new = (a : AskedUpgrade R S) × (first_refusal (upgrade_asked a) ≡ None) × (T : Region) × IsUpgraded S a.here.sup.cpus T
    × LeavesTree S T (in_version_2 (upgrade_in a)) (tree_of S a.here.rows) × (text ≡ ok_line) × (new ≡ record old { region = Some T; mounted = Some T })

-- an upgrade of what is mounted, if something is
abbrev pub UpgradesMounted : Option Region → Option Region → State → List ℕ → State → Type 0
UpgradesMounted None region old text new = IsRefusedAs (codes "NotMounted") old text new
UpgradesMounted (Some R) None old text new = ⊥
UpgradesMounted (Some R) (Some S) old text new = RefusesUpgrade R S old text new ⊎ DoesUpgrade R S old text new

-- It is stopped, which comes only where no faults were found. Recovery of the region that it leaves finds, without faults, what was
-- mounted, in the version that it had or in version 2. Nothing is mounted.
abbrev pub StopsUpgrade : Option Region → Option Region → State → List ℕ → State → Type 0
StopsUpgrade None region old text new = ⊥
StopsUpgrade (Some R) None old text new = ⊥
StopsUpgrade (Some R) (Some S) old text new = (a : AskedUpgrade R S) × (has_faults a.shown.faults ≡ false) × (T : Region) × (size T ≡ size S)
    × LeavesUpgrade S (upgrade_in a) T × (text ≡ stopped_line) × (new ≡ record old { region = Some T; mounted = None })

-- `upgrade` makes a region of version 1 one of version 2
abbrev pub Upgrades : Bool → State → List ℕ → State → Type 0
Upgrades armed old text new = MayStop armed
    (λ old text new. UpgradesMounted old.mounted old.region old text new)
    (λ old text new. StopsUpgrade old.mounted old.region old text new) old text new

-- ---- commands

-- What a command may print and leave, where it may be stopped or not. For each call that writes: what it asks, what it makes of the
-- tree, and what it leaves of the logs.
abbrev pub Does : Bool → Request → State → List ℕ → State → Type 0
Does armed (Format cpus blocks tables) old text new = MayStop armed (Formats cpus blocks tables) (StopsFormat cpus blocks tables) old text new
Does armed (Time time) old text new = SetsTime time old text new
Does armed (Poke at value) old text new = Pokes at value old text new
Does armed (Cut length) old text new = Cuts length old text new
Does armed (Recover workers) old text new = MayStop armed (Recovers workers) (StopsRecovery workers []) old text new
Does armed (Replay workers schedule) old text new = MayStop armed (Replays workers schedule) (StopsRecovery workers schedule) old text new
Does armed (ListNames path) old text new = Reads TellsNames path old text new
Does armed (Stat path) old text new = Reads TellsStat path old text new
Does armed (Read path offset count) old text new = Reads (TellsBytes offset count) path old text new
-- In version 2 the table of the CPU may grow for what `create` and `mkdir` make.
Does armed (Create cpu path) old text new = CallsBy (Some cpu) armed (asks_create cpu) (makes_inode File cpu file_mode old.time) (logs_inode File cpu file_mode old.time) path old text new
Does armed (MakeDirectory cpu path) old text new = CallsBy (Some cpu) armed (asks_create cpu) (makes_inode Directory cpu directory_mode old.time)
    (logs_inode Directory cpu directory_mode old.time) path old text new
Does armed (Write cpu path offset count byte) old text new = Calls armed (asks_write cpu offset count old.time) (makes_bytes offset (replicate count byte) old.time)
    (LogsBytes cpu offset count old.time) path old text new
Does armed (SetSize cpu path bytes) old text new = Calls armed (asks_size cpu bytes) (makes_size bytes old.time) (logs_size cpu bytes old.time) path old text new
Does armed (SetAttributes cpu path mode owner group) old text new = Calls armed (asks_attributes cpu) (makes_attributes mode owner group old.time)
    (logs_attributes cpu mode owner group old.time) path old text new
Does armed (Link cpu path other) old text new = CallsByTwo armed (asks_link cpu) (makes_link old.time) (logs_link cpu old.time) path other old text new
Does armed (Unlink cpu path) old text new = Calls armed (asks_unlink cpu) (makes_unlink old.time) (LogsUnlink cpu old.time) path old text new
Does armed (RemoveDirectory cpu path) old text new = Calls armed (asks_remove cpu) (makes_removal old.time) (logs_removal cpu old.time) path old text new
Does armed (Rename cpu path other) old text new = CallsByTwo armed (asks_rename cpu) (makes_rename old.time) (logs_rename cpu old.time) path other old text new
-- `clean` tells which page went, the first that the inode's log can do without, or that the log needs each.
Does armed (Clean path) old text new = CallsTelling None cleaned_line armed asks_clean makes_no_change finds_page logs_page_less path old text new
Does armed Upgrade old text new = Upgrades armed old text new
Does armed Tree old text new = ShowsPart parts.Tree old text new
Does armed Free old text new = ShowsPart parts.Free old text new
Does armed Faults old text new = ShowsPart parts.Faults old text new
Does armed Report old text new = ShowsPart parts.Report old text new
Does armed (Peek at) old text new = Peeks at old text new
Does armed (Stop fuse keep) old text new = Arms fuse old text new

-- What a command may print and leave. It may be stopped only right after a `stop`.
abbrev pub Step : State → Request → List ℕ → State → Type 0
Step old request text new = Does old.armed request (record old { armed = false }) text new

-- whether the command is a call that writes
abbrev pub writes : Request → Bool
writes (Create cpu path) = true
writes (MakeDirectory cpu path) = true
writes (Write cpu path offset count byte) = true
writes (SetSize cpu path bytes) = true
writes (SetAttributes cpu path mode owner group) = true
writes (Link cpu path other) = true
writes (Unlink cpu path) = true
writes (RemoveDirectory cpu path) = true
writes (Rename cpu path other) = true
writes (Clean path) = true
writes Upgrade = true
writes _ = false

-- The states that a session may stand for, and how a command leads from one to the next.
use Rattle.std.specs.Prelude.{◌≡◌, ◌≢◌, ◌⊎◌, ℕ, Bool, not, false, List, Option, Some, None, Result, Ok, Err, ⊤}
use Rattle.nv_rows.specs.RowList.{HasNumbersOf}
use Rattle.nv_region.specs.Region.{Region}
use Rattle.nv_region.specs.RegionState.{RegionState, fenced_or_last, is_off}
use Rattle.nv_region.specs.Stops.{MayBeLeft, NothingPending}
use Rattle.nv_region.specs.declared.memory.Fuse.{Fuse}
use Rattle.nv_region.specs.declared.memory.Fuse.TheVariants as fuses
use Rattle.nv_super.specs.declared.owners.Owner.{Owner}
use Rattle.nv_journal.specs.Undo.{undone}
use Rattle.nv_outcome.specs.Outcome.{IsOutcome}
use Rattle.nv_outcome.specs.Same.{lasting_outcome}
use Rattle.nv_outcome.specs.Answer.{outcome_of}
use Rattle.nv_outcome.specs.declared.recovered.Recovered.{Recovered}
use Rattle.nv_tree.specs.Refusals.{refusal_word}
use Rattle.nv_tree.specs.declared.refusal.Refusal.{Refusal as CallRefusal}
use Rattle.nv_tree.specs.declared.refusal.Refusal.TheVariants as refusals
use Rattle.nv_text.specs.Answers.{refused_line, stopped_line}
use Rattle.nv_text.specs.Refusals.{refusal_name}
use Rattle.nv_report.specs.Last.{how_it_went}
use Rattle.nv_report.specs.Texts.{recovered_text}
use Rattle.nv_image_check.specs.declared.recovery.Answer.{Answer}
use Rattle.nv_image_check.specs.declared.recovery.Answer.TheVariants as answers
use Rattle.nv_report.specs.declared.last.Last.TheVariants as lasts
use Rattle.nv_calls.specs.Mount.{Mount, told}
use Rattle.nv_session.specs.Machine.{State}
use Rattle.nv_session.specs.declared.store.Store.{Store}
use Rattle.nv_session.specs.declared.store.Store.TheVariants as stores
use Rattle.nv_session.specs.declared.stop.Stop as stops
use Rattle.nv_session.specs.declared.session.Session.{Session}

-- the memory of a region, alone or mounted
abbrev pub memory_in : Store → RegionState
memory_in (stores.Alone memory) = memory
memory_in (stores.Mounted mount) = mount.memory

-- the region that there is
abbrev pub region_in : Option Store → Option Region
region_in None = None
region_in (Some store) = Some (memory_in store).region

-- what is mounted
abbrev pub mount_in : Option Store → Option (Mount RegionState)
mount_in None = None
mount_in (Some (stores.Alone memory)) = None
mount_in (Some (stores.Mounted mount)) = Some mount

-- a stop leaves the memory as it reads
abbrev pub IsSettled : RegionState → Type 0
IsSettled memory = NothingPending memory.region (fenced_or_last memory)

-- the same of the memory that there is
abbrev pub HoldsSettled : Option Store → Type 0
HoldsSettled None = ⊤
HoldsSettled (Some store) = IsSettled (memory_in store)

-- it may come
abbrev pub is_armed : stops.Stop → Bool
is_armed stop = not (is_off stop.fuse)

-- What a mount shows is the outcome of the first region. Its own region has the same outcome, but for pending records.
pub record ShowsOutcome (R : Region) (m : Mount RegionState) : Type 0 where
  pub doubled : List (ℕ × Owner)
  pub shown : IsOutcome R (told m.layout m.rows m.free doubled m.faults)
  pub here : IsOutcome m.memory.region (lasting_outcome (told m.layout m.rows m.free doubled m.faults))
  pub runs : m.stopped ≡ false

-- nothing is mounted, or what is mounted shows the outcome of the mounted region
abbrev pub IsMountOf : Option Region → Option (Mount RegionState) → Type 0
IsMountOf None None = ⊤
IsMountOf None (Some m) = ⊥
IsMountOf (Some R) None = ⊥
IsMountOf (Some R) (Some m) = ShowsOutcome R m

-- The session has the state's region, time, last recovery and stop, and shows the outcome of the region that is mounted. That
-- region itself isn't kept: the session stands for each state whose mounted region has the outcome that is shown. Between two
-- commands nothing is pending in its memory.
pub record StandsFor (s : Session) (state : State) : Type 0 where
  pub region : state.region ≡ region_in s.store
  pub mounted : IsMountOf state.mounted (mount_in s.store)
  pub time : state.time ≡ s.time
  pub last : state.last ≡ s.last
  pub armed : state.armed ≡ is_armed s.stop
  pub settled : HoldsSettled s.store

-- from each state that the first session stands for, such a step leads to one that the second stands for
abbrev pub Leads : (State → State → Type 0) → Session → Session → Type 0
Leads step old new = (state : State) → StandsFor old state → (next : State) × step state next × StandsFor new next

-- the same of a command that prints a text
abbrev pub Moves : (State → List ℕ → State → Type 0) → Session → List ℕ → Session → Type 0
Moves step old text new = Leads (λ state next. step state text next) old new

-- a region that was recovered can be mounted
abbrev pub CanMount : Region → Option Answer → Type 0
CanMount R None = ⊤
CanMount R (Some (answers.Refused refusal)) = ⊤
CanMount R (Some (answers.Recovered r)) = IsOutcome R (lasting_outcome (outcome_of r)) × (undone r.sup R ≡ R) × (r.free.sup ≡ r.sup)
    × HasNumbersOf r.tables.layout r.rows × (r.tables.layout.sup ≡ r.sup)

-- ---- calls that write

-- this memory, with a fuse that hasn't burnt
abbrev pub with_fuse : Fuse → Mount RegionState → Mount RegionState
with_fuse fuse m = record m { memory = record m.memory { fuse = fuse; burnt = false } }

-- What is mounted is taken out, with this fuse; where nothing is, nothing changes.
abbrev pub TakesMount : Fuse → Session → Option (Mount RegionState) → Session → Type 0
TakesMount fuse old None new = (mount_in old.store ≡ None) × (new ≡ old)
TakesMount fuse old (Some m) new = (there : Mount RegionState) × (mount_in old.store ≡ Some there) × (m ≡ with_fuse fuse there) × (new ≡ record old { store = None })

-- the mount is put in, without a fuse
abbrev pub PutsMount : Mount RegionState → Session → Session → Type 0
PutsMount m old new = new ≡ record old { store = Some (stores.Mounted (with_fuse fuses.Off m)) }

-- What a call answered is told by this line, and the mount is put in. After a stop one of the regions is that it may leave, of
-- which nothing is mounted.
abbrev pub SettlesCall : {A : Type 0} → (A → List ℕ) → Mount RegionState → Result A CallRefusal → Session → List ℕ → Session → Type 0
SettlesCall line m (Ok answer) old said new = (said ≡ line answer) × PutsMount m old new
SettlesCall line m (Err refusal) old said new = ((refusal ≡ refusals.Stopped) × (said ≡ stopped_line) × (left : RegionState)
    × MayBeLeft m.memory.region (fenced_or_last m.memory) left.region × IsSettled left × (new ≡ record old { store = Some (stores.Alone left) }))
    ⊎ ((refusal ≢ refusals.Stopped) × (refusal ≢ refusals.Memory) × (said ≡ refused_line (refusal_word refusal)) × PutsMount m old new)

-- ---- recoveries

-- A region is mounted with what a recovery found in it.
pub record Mounts (R : Region) (r : Recovered) (old new : Session) : Type 0 where
  pub mount : Mount RegionState
  pub store : new.store ≡ Some (stores.Mounted mount)
  pub region : mount.memory.region ≡ R
  pub settled : IsSettled mount.memory
  pub told : told mount.layout mount.rows mount.free r.doubled.items mount.faults ≡ outcome_of r
  pub runs : mount.stopped ≡ false
  pub time : new.time ≡ old.time
  pub last : new.last ≡ how_it_went r.faults.items
  pub stop : new.stop ≡ old.stop

-- a memory is put in, of which nothing is mounted, since the recovery failed
abbrev pub Fails : RegionState → Session → Session → Type 0
Fails memory old new = new ≡ record old { store = Some (stores.Alone memory); last = lasts.Refused }

-- The memory is put back behind a recovery, and the answer is mounted and printed. After a stop one of the regions is that it
-- may leave.
abbrev pub Settles : RegionState → Option Answer → Session → List ℕ → Session → Type 0
Settles m (Some (answers.Recovered r)) old said new = (said ≡ recovered_text (outcome_of r)) × Mounts m.region r old new
Settles m (Some (answers.Refused refusal)) old said new = (said ≡ refused_line (refusal_name refusal)) × (memory : RegionState) × (memory.region ≡ m.region) × IsSettled memory × Fails memory old new
Settles m None old said new = (said ≡ stopped_line) × (left : RegionState) × MayBeLeft m.region (fenced_or_last m) left.region × IsSettled left × Fails left old new

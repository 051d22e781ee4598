-- What each command leaves, for each state that the session stands for.
use Rattle.std.proofs.Common.{◌≡◌, ◌≢◌, ◌⊎◌, inl, inr, ℕ, ◌*◌, nat_le, Bool, true, false, not, IsTrue, List, [], length, Option, Some, None, refl, sym, ap, subst, ◌∙◌, arith}
use Rattle.std.specs.Prelude.{codes}
use Rattle.std.specs.Option.{MatchOption}
use Rattle.nv_region.specs.Region.{Region, size, put}
use Rattle.nv_region.specs.RegionState.{RegionState, is_off, fenced_or_last}
use Rattle.nv_region.specs.declared.memory.Fuse.{Fuse}
use Rattle.nv_region.specs.Stops.{Choices, MayBeLeft, LeavesOnly}
use Rattle.nv_super.specs.Super.{IsSuper}
use Rattle.nv_super.specs.declared.superblock.Super.{Super}
use Rattle.nv_super.specs.declared.superblock.SuperFault.TheVariants.{Length}
use Rattle.nv_journal.specs.Undo.{undone}
use Rattle.nv_format.specs.Format.{IsFormatRefusal, CanFormat, IsFormatted, FormatLeaves, fresh_super}
use Rattle.nv_format.specs.Format as formats
use Rattle.nv_format.specs.declared.formatting.FormatRefusal.TheVariants.{Stopped}
use Rattle.nv_outcome.specs.Outcome.{Outcome, IsOutcome}
use Rattle.nv_outcome.specs.Same.{lasting_outcome}
use Rattle.nv_outcome.proofs.Again.{rolled_back, stays}
use Rattle.nv_outcome.proofs.SuperOf.{blocks_of_super, is_equal}
use Rattle.nv_outcome.specs.Answer.{outcome_of}
use Rattle.nv_recover.specs.Errors.{UndoesAsBefore}
use Rattle.nv_outcome.specs.declared.recovered.Recovered.{Recovered}
use Rattle.nv_text.specs.Answers.{ok_line, refused_line, stopped_line}
use Rattle.nv_text.specs.declared.refusals.Refusal.{Refusal}
use Rattle.nv_text.specs.declared.refusals.Refusal.TheVariants as refusals
use Rattle.nv_text.specs.Refusals.{refusal_name}
use Rattle.nv_tree.specs.Path.{Says}
use Rattle.nv_tree.specs.Tree.{Tree}
use Rattle.nv_tree.specs.Refusals.{Path}
use Rattle.nv_tree.proofs.Texts.{text_says}
use Rattle.nv_calls.specs.Mount.{Mount, told}
use Rattle.nv_paths.specs.Seen.{tree_of}
use Rattle.nv_image_check.specs.Workers.{is_worker_count, names_stranger}
use Rattle.nv_image_check.specs.Answering.{RefusesRecovery, MayEnd, IsOfItsSuper}
use Rattle.nv_report.specs.Last.{how_it_went}
use Rattle.nv_report.specs.Texts.{IsPartText}
use Rattle.nv_report.specs.declared.part.Part.{Part}
use Rattle.nv_report.specs.declared.last.Last.TheVariants as lasts
use Rattle.nv_image_check.specs.declared.recovery.Answer.{Answer}
use Rattle.nv_image_check.specs.declared.recovery.Answer.TheVariants as answers
use Rattle.nv_report.proofs.TextLemmas.{same_part}
use Rattle.nv_line.specs.Request.{Request}
use Rattle.nv_session.specs.Made.{MayMake}
use Rattle.nv_session.specs.Machine as machine
use Rattle.nv_session.specs.Machine.{State, zeros, Formats, StopsFormat, StopsRecovery, StopsRegion, MayStop, Cuts, Replays, Pokes, ShowsPart, ShowsMounted, Reads, ReadsMounted, has_word, RecoversRegion, RefusesSuper, Unmounts, front, Does, Step}
use Rattle.nv_session.specs.Sessions.{StandsFor, Moves, Fails, Settles, CanMount, ShowsOutcome, IsMountOf, IsSettled, region_in, mount_in, is_armed}
use Rattle.nv_session.specs.declared.making.Made.TheVariants as made
use Rattle.nv_session.specs.declared.store.Store.{Store}
use Rattle.nv_session.specs.declared.store.Store.TheVariants as stores
use Rattle.nv_session.specs.declared.stop.Stop as stops
use Rattle.nv_session.specs.declared.session.Session.{Session}

-- the session with this memory alone
abbrev alone : Session → RegionState → Session
alone old memory = record old { store = Some (stores.Alone memory) }

alone_stands : (R : Region) (memory : RegionState) (old new : Session) (state : State) → StandsFor old state → memory.region ≡ R → IsSettled memory → new ≡ alone old memory
    → StandsFor new (record state { region = Some R; mounted = None })
alone_stands R memory old new state stands here settled is = subst (λ (s : Session). StandsFor s (record state { region = Some R; mounted = None })) (sym is) (record {
  region = ap (λ (x : Region). Some x) (sym here);
  mounted = tt;
  time = stands.time;
  last = stands.last;
  armed = stands.armed;
  settled = settled;
})

-- ---- a command runs with the stop that was set

pub disarmed_moves : (stop : stops.Stop) (request : Request) (old mid new : Session) (text : List ℕ) → stop ≡ old.stop → mid ≡ record old { stop = mid.stop } → is_armed mid.stop ≡ false
    → Moves (Does (is_armed stop) request) mid text new → Moves (λ state said next. Step state request said next) old text new
disarmed_moves stop request old mid new text was is none moves = λ state stands.
    let at : StandsFor mid (record state { armed = false }) = subst (λ (s : Session). StandsFor s (record state { armed = false })) (sym is) (record {
      region = stands.region;
      mounted = stands.mounted;
      time = stands.time;
      last = stands.last;
      armed = sym none;
      settled = stands.settled;
    }) in
    let w = moves (record state { armed = false }) at in
    let same : is_armed stop ≡ state.armed = ap is_armed was ∙ sym stands.armed in
    (w.0, subst (λ (b : Bool). Does b request (record state { armed = false }) text w.0) same w.1, w.2)

-- ---- a new region

pub makes_moves : (armed : Bool) (cpus blocks tables : ℕ) (memory : RegionState) (old new : Session) (text : List ℕ) → IsFormatted (zeros blocks) memory.region (fresh_super (zeros blocks) cpus tables) old.time → IsSettled memory
    → new ≡ alone old memory → text ≡ ok_line → Moves (MayStop armed (Formats cpus blocks tables) (StopsFormat cpus blocks tables)) old text new
makes_moves armed cpus blocks tables memory old new text formatted settled is said = λ state stands. (
  record state { region = Some memory.region; mounted = None },
  inl (inr (memory.region, rw stands.time formatted, said, refl)),
  alone_stands memory.region memory old new state stands refl settled is,
)

pub format_stopped_moves : (armed : Bool) (cpus blocks tables : ℕ) (memory : RegionState) (old new : Session) (text : List ℕ) → MayMake armed cpus blocks tables old.time (made.Stopped memory)
    → new ≡ alone old memory → text ≡ stopped_line → Moves (MayStop armed (Formats cpus blocks tables) (StopsFormat cpus blocks tables)) old text new
format_stopped_moves armed cpus blocks tables memory old new text may is said = λ state stands. (
  record state { region = Some memory.region; mounted = None },
  inr (may.0, (may.1, memory.region, may.2, rw stands.time may.3, said, refl)),
  alone_stands memory.region memory old new state stands refl may.4 is,
)

-- what a stop leaves is as long
pub left_size : (R : Region) (choices : Choices) (left : Region) → MayBeLeft R choices left → size left ≡ size R
left_size R choices left may = let words = may.as_long in let rest = ap (λ (r : List ℕ). length r) may.same_rest in omega (arith, words, rest)

-- a fuse that can't burn isn't armed
pub can_burn : (b : Bool) → (b ≡ true → ⊥) → IsTrue (not b)
can_burn true burns = absurd (burns refl)
can_burn false burns = refl

-- what is kept where a format of zeros was stopped
pub may_stop : (stop : stops.Stop) (cpus blocks tables time : ℕ) (old new left : RegionState) → old.region ≡ zeros blocks → (is_off stop.fuse ≡ true → ⊥) → IsFormatRefusal old.region cpus tables Stopped
    → size new.region ≡ size old.region → LeavesOnly new.region (fenced_or_last new) (FormatLeaves old.region (fresh_super old.region cpus tables) time) → MayBeLeft new.region (fenced_or_last new) left.region → IsSettled left
    → MayMake (is_armed stop) cpus blocks tables time (made.Stopped left)
may_stop stop cpus blocks tables time old new left is burns refused long only may settled = (
  can_burn (is_off stop.fuse) burns,
  subst (λ (R : Region). CanFormat R cpus tables) is refused.first,
  left_size new.region (fenced_or_last new) left.region may ∙ long ∙ ap size is,
  subst (λ (R : Region). FormatLeaves R (fresh_super R cpus tables) time left.region) is (only left.region may),
  settled,
)

-- ---- a recovery

-- no region: the recovery is refused
pub no_region_moves : (armed : Bool) (workers : ℕ) (schedule : List ℕ) (old new : Session) (store : Option Store) (text : List ℕ) → old.store ≡ None → store ≡ None → new ≡ record old { store = store; last = lasts.Refused }
    → text ≡ refused_line (codes "NoRegion") → Moves (MayStop armed (Replays workers schedule) (StopsRecovery workers schedule)) old text new
no_region_moves armed workers schedule old new store text none taken is said = λ state stands.
    let gone : state.region ≡ None = stands.region ∙ ap region_in none in (
      record state { mounted = None; last = lasts.Refused },
      inl (rw gone (said, refl)),
      subst (λ (s : Session). StandsFor s (record state { mounted = None; last = lasts.Refused })) (sym (is ∙ ap (λ (x : Option Store). record old { store = x; last = lasts.Refused }) taken)) (record { region = gone; mounted = tt; time = stands.time; last = refl; armed = stands.armed; settled = tt }),
    )

there : (region : Option Region) (R : Region) (workers : ℕ) (schedule : List ℕ) (state : State) (text : List ℕ) (next : State) → region ≡ Some R
    → RecoversRegion (Some R) workers schedule state text next → RecoversRegion region workers schedule state text next
there region R workers schedule state text next e h = subst (λ x. RecoversRegion x workers schedule state text next) (sym e) h

accepted : (R : Region) (workers : ℕ) (schedule : List ℕ) (state : State) (text : List ℕ) (next : State) → is_worker_count workers ≡ true → names_stranger workers schedule ≡ false
    → RefusesSuper R state text next ⊎ machine.Mounts R state text next → RecoversRegion (Some R) workers schedule state text next
accepted R workers schedule state text next good named h = rw (good, named) h

refused_step : (R : Region) (workers : ℕ) (schedule : List ℕ) (refusal : Refusal) (state : State) (text : List ℕ) (next : State) → RefusesRecovery R workers schedule refusal
    → Unmounts (refusal_name refusal) state text next → RecoversRegion (Some R) workers schedule state text next
refused_step R workers schedule refusals.Workers state text next h u = rw h u
refused_step R workers schedule refusals.Schedule state text next h u = rw (h.0, h.1) u
refused_step R workers schedule (refusals.Super fault) state text next h u = rw (h.0, h.1) (inl (fault, h.2, u))
refused_step R workers schedule refusal state text next h u = absurd h

-- the length of a region with a superblock
size_of_super : (R : Region) (s : Super) → IsSuper R s → size R ≡ 4096 * s.blocks
size_of_super R s is = let whole = is_equal _ 0 (λ h. is.sound Length (inl h)) in let blocks = blocks_of_super R s is in omega (arith, whole, blocks)

pub same_size : (R S : Region) → UndoesAsBefore R S → size S ≡ size R
same_size R S undoes = size_of_super S undoes.0 undoes.2 ∙ sym (size_of_super R undoes.0 undoes.1)

-- the region that is left has the outcome of the one that came, but for pending records
left_outcome : (R S : Region) (r : Recovered) → IsOutcome R (outcome_of r) → S ≡ undone r.sup R → IsOutcome S (lasting_outcome (outcome_of r))
left_outcome R S r came left = subst (λ (T : Region). IsOutcome T (lasting_outcome (outcome_of r))) (sym left) (rolled_back R (outcome_of r) came)

pub can_mount : (R S : Region) (workers : ℕ) (schedule : List ℕ) (answer : Option Answer) → MayEnd R workers schedule answer S → IsOfItsSuper answer → CanMount S answer
can_mount R S workers schedule None may lists = tt
can_mount R S workers schedule (Some (answers.Refused refusal)) may lists = tt
can_mount R S workers schedule (Some (answers.Recovered r)) may lists = (
  left_outcome R S r may.2 may.3,
  subst (λ (T : Region). undone r.sup T ≡ T) (sym may.3) (stays R r.sup may.2.sup),
  lists.0,
  lists.1,
  lists.2,
)

shows_outcome : (R S : Region) (r : Recovered) (m : Mount RegionState) → IsOutcome R (outcome_of r) → IsOutcome S (lasting_outcome (outcome_of r)) → m.memory.region ≡ S → told m.layout m.rows m.free r.doubled.items m.faults ≡ outcome_of r → m.stopped ≡ false → ShowsOutcome R m
shows_outcome R S r m came left here is runs = record {
  doubled = r.doubled.items;
  shown = subst (λ (o : Outcome). IsOutcome R o) (sym is) came;
  here = (let at : IsOutcome m.memory.region (lasting_outcome (outcome_of r)) = subst (λ (T : Region). IsOutcome T (lasting_outcome (outcome_of r))) (sym here) left in
      subst (λ (o : Outcome). IsOutcome m.memory.region (lasting_outcome o)) (sym is) at);
  runs = runs;
}

-- nothing is pending in a memory with another fuse either
pub fused_settled : (memory fused : RegionState) (fuse : Fuse) → IsSettled memory → fused ≡ record memory { fuse = fuse; burnt = false } → IsSettled fused
fused_settled memory fused fuse settled with_fuse = subst IsSettled (sym with_fuse) settled

-- what is put back after it
module _ (armed : Bool) (R : Region) (S : RegionState) (workers : ℕ) (schedule : List ℕ) (old mid new : Session) (text : List ℕ) (here : region_in old.store ≡ Some R) (taken : mid ≡ record old { store = None }) where
  failed_stands : (T : Region) (memory : RegionState) (state : State) → StandsFor old state → memory.region ≡ T → IsSettled memory → Fails memory mid new → StandsFor new (record state { region = Some T; mounted = None; last = lasts.Refused })
  failed_stands T memory state stands left settled fails = subst (λ (s : Session). StandsFor s (record state { region = Some T; mounted = None; last = lasts.Refused })) (sym (fails ∙ (λ i. record (taken i) { store = Some (stores.Alone memory); last = lasts.Refused }))) (record {
    region = ap (λ (x : Region). Some x) (sym left);
    mounted = tt;
    time = stands.time;
    last = refl;
    armed = stands.armed;
    settled = settled;
  })

  pub settles_moves : (answer : Option Answer) → MayEnd R workers schedule answer S.region → (answer ≡ None → IsTrue armed) → ((s : Super) → IsSuper R s → LeavesOnly S.region (fenced_or_last S) (UndoesAsBefore R)) → Settles S answer mid text new → Moves (MayStop armed (Replays workers schedule) (StopsRecovery workers schedule)) old text new
  settles_moves None may burnt stops is = λ state stands. (
    record state { region = Some is.1.region; mounted = None; last = lasts.Refused },
    inr (
      burnt refl,
      subst (λ x. StopsRegion x workers schedule state text (record state { region = Some is.1.region; mounted = None; last = lasts.Refused })) (sym (stands.region ∙ here))
          (let undoes : UndoesAsBefore R is.1.region = stops may.2.0 may.2.1 is.1.region is.2 in (may.0, may.1, is.1.region, same_size R is.1.region undoes, undoes, is.0, refl)),
    ),
    failed_stands is.1.region is.1 state stands refl is.3 is.4,
  )
  settles_moves (Some (answers.Refused refusal)) may burnt stops is = λ state stands. (
    record state { mounted = None; last = lasts.Refused },
    inl (there state.region R workers schedule state text _ (stands.region ∙ here) (refused_step R workers schedule refusal state text _ may.0 (is.0, refl))),
    subst (λ (x : Option Region). StandsFor new (record state { region = x; mounted = None; last = lasts.Refused })) (sym (stands.region ∙ here)) (failed_stands R is.1 state stands (is.2 ∙ may.1) is.3 is.4),
  )
  settles_moves (Some (answers.Recovered r)) may burnt stops is = λ state stands. (
    record state { region = Some S.region; mounted = Some R; last = how_it_went r.faults.items },
    inl (there state.region R workers schedule state text _ (stands.region ∙ here) (accepted R workers schedule state text _ may.0 may.1
        (inr (outcome_of r, may.2, is.0, (λ i. record { region = Some (may.3 i); mounted = Some R; time = state.time; last = how_it_went r.faults.items; armed = state.armed }))))),
    (let m = is.1 in record {
      region = ap (λ (x : Region). Some x) (sym m.region) ∙ sym (ap region_in m.store);
      mounted = rw m.store (shows_outcome R S.region r m.mount may.2 (left_outcome R S.region r may.2 may.3) m.region m.told m.runs);
      time = stands.time ∙ ap (λ (s : Session). s.time) (sym taken) ∙ sym m.time;
      last = sym m.last;
      armed = stands.armed ∙ ap (λ (s : Session). is_armed s.stop) (sym taken) ∙ ap is_armed (sym m.stop);
      settled = rw m.store m.settled;
    }),
  )

-- ---- a cut

pub cuts_moves : (R : Region) (length : ℕ) (memory : RegionState) (old new : Session) (text : List ℕ) → region_in old.store ≡ Some R → nat_le length (size R) ≡ true
    → memory.region ≡ front R length → IsSettled memory → new ≡ alone old memory → text ≡ ok_line → Moves (Cuts length) old text new
cuts_moves R length memory old new text here within cut settled is said = λ state stands.
    (record state { region = Some (front R length); mounted = None }, rw (stands.region, here, within) (said, refl), alone_stands (front R length) memory old new state stands cut settled is)

-- ---- a store

pub pokes_moves : (R : Region) (at value : ℕ) (memory : RegionState) (old new : Session) (text : List ℕ) → region_in old.store ≡ Some R → has_word R at ≡ true → memory.region ≡ put R at value → IsSettled memory
    → new ≡ alone old memory → text ≡ ok_line → Moves (Pokes at value) old text new
pokes_moves R at value memory old new text here word stored settled is said = λ state stands.
    (record state { region = Some (put R at value); mounted = None }, rw (stands.region, here, word) (said, refl), alone_stands (put R at value) memory old new state stands stored settled is)

-- ---- what is shown

shows_step : (mounted : Option Region) (mount : Option (Mount RegionState)) (part : Part) (state : State) (text : List ℕ) → IsMountOf mounted mount
    → MatchOption mount (text ≡ refused_line (codes "NotMounted")) (λ m. IsPartText part (record (told m.layout m.rows m.free [] m.faults) { tables = [] }) text) → ShowsMounted mounted part state text state
shows_step None None part state text shows is = (is, refl)
shows_step None (Some m) part state text shows is = absurd shows
shows_step (Some R) None part state text shows is = absurd shows
shows_step (Some R) (Some m) part state text shows is = (told m.layout m.rows m.free shows.doubled m.faults, shows.shown, same_part part (told m.layout m.rows m.free [] m.faults) [] m.layout.chains [] shows.doubled text is, refl)

pub shows_moves : (part : Part) (s : Session) (text : List ℕ) → MatchOption (mount_in s.store) (text ≡ refused_line (codes "NotMounted")) (λ m. IsPartText part (record (told m.layout m.rows m.free [] m.faults) { tables = [] }) text)
    → Moves (ShowsPart part) s text s
shows_moves part s text is = λ state stands. (state, shows_step state.mounted (mount_in s.store) part state text stands.mounted is, stands)

-- ---- file calls that read

-- what a call tells of a mount
abbrev pub TellsOf : (Tree → Path → List ℕ → Type 0) → List ℕ → List ℕ → Mount RegionState → Type 0
TellsOf Tells path text m = m.stopped ≡ false → (p : Path) → Says path p → Tells (tree_of m.memory.region m.rows) p text

reads_step : (Tells : Tree → Path → List ℕ → Type 0) (mounted : Option Region) (store : Option Store) (path : List ℕ) (state : State) (text : List ℕ) → IsMountOf mounted (mount_in store)
    → MatchOption (mount_in store) (text ≡ refused_line (codes "NotMounted")) (TellsOf Tells path text) → ReadsMounted Tells mounted (region_in store) path state text state
reads_step Tells None None path state text shows is = (is, refl)
reads_step Tells (Some R) None path state text shows is = absurd shows
reads_step Tells None (Some (stores.Alone memory)) path state text shows is = (is, refl)
reads_step Tells (Some R) (Some (stores.Alone memory)) path state text shows is = absurd shows
reads_step Tells None (Some (stores.Mounted m)) path state text shows is = absurd shows
reads_step Tells (Some R) (Some (stores.Mounted m)) path state text shows is =
    let w = text_says path in
    (lasting_outcome (told m.layout m.rows m.free shows.doubled m.faults), shows.here, w.0, w.1, is shows.runs w.0 w.1, refl)

pub reads_moves : (Tells : Tree → Path → List ℕ → Type 0) (path : List ℕ) (s : Session) (text : List ℕ) → MatchOption (mount_in s.store) (text ≡ refused_line (codes "NotMounted")) (TellsOf Tells path text)
    → Moves (Reads Tells path) s text s
reads_moves Tells path s text is = λ state stands.
    (state, subst (λ region. ReadsMounted Tells state.mounted region path state text state) (sym stands.region) (reads_step Tells state.mounted s.store path state text stands.mounted is), stands)

-- ---- by what is mounted

pub seen_moves : (part : Part) (s : Session) (m : Mount RegionState) (text : List ℕ) → mount_in s.store ≡ Some m → IsPartText part (record (told m.layout m.rows m.free [] m.faults) { tables = [] }) text → Moves (ShowsPart part) s text s
seen_moves part s m text e is = shows_moves part s text (subst (λ o. MatchOption o (text ≡ refused_line (codes "NotMounted")) (λ (m : Mount RegionState). IsPartText part (record (told m.layout m.rows m.free [] m.faults) { tables = [] }) text)) (sym e) is)

pub unseen_moves : (part : Part) (s : Session) (text : List ℕ) → mount_in s.store ≡ None → text ≡ refused_line (codes "NotMounted") → Moves (ShowsPart part) s text s
unseen_moves part s text e is = shows_moves part s text (subst (λ o. MatchOption o (text ≡ refused_line (codes "NotMounted")) (λ (m : Mount RegionState). IsPartText part (record (told m.layout m.rows m.free [] m.faults) { tables = [] }) text)) (sym e) is)

pub read_moves : (Tells : Tree → Path → List ℕ → Type 0) (path : List ℕ) (s : Session) (m : Mount RegionState) (text : List ℕ) → mount_in s.store ≡ Some m → TellsOf Tells path text m → Moves (Reads Tells path) s text s
read_moves Tells path s m text e is = reads_moves Tells path s text (subst (λ o. MatchOption o (text ≡ refused_line (codes "NotMounted")) (TellsOf Tells path text)) (sym e) is)

pub unread_moves : (Tells : Tree → Path → List ℕ → Type 0) (path : List ℕ) (s : Session) (text : List ℕ) → mount_in s.store ≡ None → text ≡ refused_line (codes "NotMounted") → Moves (Reads Tells path) s text s
unread_moves Tells path s text e is = reads_moves Tells path s text (subst (λ o. MatchOption o (text ≡ refused_line (codes "NotMounted")) (TellsOf Tells path text)) (sym e) is)

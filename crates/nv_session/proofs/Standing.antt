-- A session before and after a call on what is mounted: what was taken out of it, and the state that it stands for once it is put
-- back.
use Rattle.std.proofs.Common.{◌≡◌, ℕ, Bool, true, false, IsTrue, List, [], Option, Some, None, refl, sym, ap, subst, ◌∙◌}
use Rattle.std.specs.List.{filter}
use Rattle.std.proofs.Math.Logic.{∥∥₁_map}
use Rattle.nv_super.specs.Layout.{Layout}
use Rattle.nv_region.specs.Region.{Region}
use Rattle.nv_region.specs.RegionState.{RegionState}
use Rattle.nv_region.specs.declared.memory.Fuse.{Fuse}
use Rattle.nv_super.specs.declared.owners.Owner.{Owner}
use Rattle.nv_super.specs.declared.owners.Run.{Run}
use Rattle.nv_super.specs.declared.faults.Fault.{Fault}
use Rattle.nv_scan.specs.declared.piece.Row.{Row}
use Rattle.nv_outcome.specs.Outcome.{IsOutcome}
use Rattle.nv_outcome.specs.Same.{is_lasting, lasting_outcome}
use Rattle.nv_calls.specs.Mount.{IsKept, Mount, told}
use Rattle.nv_calls.specs.Same.{SameMount}
use Rattle.nv_session.specs.Machine.{State}
use Rattle.nv_session.specs.Sessions.{StandsFor, ShowsOutcome, IsMountOf, IsSettled, TakesMount, region_in, mount_in, memory_in, with_fuse}
use Rattle.nv_session.specs.declared.store.Store.{Store}
use Rattle.nv_session.specs.declared.store.Store.TheVariants as stores
use Rattle.nv_session.specs.declared.session.Session.{Session}
use Rattle.nv_session.proofs.SameShown.{with_rows}
use Rattle.nv_session.proofs.Settled.{settled}

-- ---- the mount

pub not_true : (b : Bool) → (IsTrue b → ⊥) → b ≡ false
not_true true never = absurd (never refl)
not_true false never = refl

-- a call that leaves the mount as it was hasn't been stopped
pub not_stopped : {m n : Mount RegionState} → SameMount m n → m.stopped ≡ false → IsTrue n.stopped → ⊥
not_stopped same runs stops = (let no : true ≡ false = sym stops ∙ same.stopped ∙ runs in cc)

-- A mount without a fault shows the outcome of its own region.
pub shows_own : (n : Mount RegionState) → IsKept n.memory.region n.sup n.layout n.rows n.free n.faults n.read_only n.stopped → n.stopped ≡ false → n.faults ≡ [] → ShowsOutcome n.memory.region n
shows_own n kept runs none =
    let lasting : filter is_lasting n.faults ≡ [] = ap (filter is_lasting) none in
    let w = settled n.memory.region n.layout n.rows n.free.pools
    (∥∥₁_map (kept.shown runs) (λ w. (w.0, subst (λ (fs : List Fault). IsOutcome n.memory.region (record { sup = n.layout.sup; tables = n.layout.chains; rows = n.rows; free = n.free.pools; doubled = w.0; faults = fs })) lasting w.1))) in
    record {
      doubled = w.0;
      shown = subst (λ (fs : List Fault). IsOutcome n.memory.region (record { sup = n.layout.sup; tables = n.layout.chains; rows = n.rows; free = n.free.pools; doubled = w.0; faults = fs })) (sym none) w.1;
      here = subst (λ (fs : List Fault). IsOutcome n.memory.region (record { sup = n.layout.sup; tables = n.layout.chains; rows = n.rows; free = n.free.pools; doubled = w.0; faults = fs })) (sym lasting) w.1;
      runs = runs;
    }

-- what shows the same as an outcome, by its parts
by_parts : (R : Region) (l k : Layout) (rows : List Row) (pools others : List (List Run)) (doubled : List (ℕ × Owner)) (faults more : List Fault) → k ≡ l → others ≡ pools → more ≡ faults
    → IsOutcome R (record { sup = l.sup; tables = l.chains; rows = rows; free = pools; doubled = doubled; faults = faults }) → IsOutcome R (record { sup = k.sup; tables = k.chains; rows = rows; free = others; doubled = doubled; faults = more })
by_parts R l k rows pools others doubled faults more a b c is =
    subst (λ (x : Layout). IsOutcome R (record { sup = x.sup; tables = x.chains; rows = rows; free = others; doubled = doubled; faults = more })) (sym a)
    (subst (λ (x : List (List Run)). IsOutcome R (record { sup = l.sup; tables = l.chains; rows = rows; free = x; doubled = doubled; faults = more })) (sym b)
    (subst (λ (x : List Fault). IsOutcome R (record { sup = l.sup; tables = l.chains; rows = rows; free = pools; doubled = doubled; faults = x })) (sym c) is))

-- A mount that a refused call left shows what it did.
pub shows_still : (R : Region) (m n : Mount RegionState) → SameMount m n → ShowsOutcome R m → ShowsOutcome R n
shows_still R m n same shows = record {
  doubled = shows.doubled;
  shown = by_parts R m.layout n.layout n.rows m.free.pools n.free.pools shows.doubled m.faults n.faults same.layout same.free.pools same.faults (with_rows R (told m.layout m.rows m.free shows.doubled m.faults) n.rows same.rows shows.shown);
  here = subst (λ (x : RegionState). IsOutcome x.region (lasting_outcome (told n.layout n.rows n.free shows.doubled n.faults))) (sym same.memory)
      (by_parts m.memory.region m.layout n.layout n.rows m.free.pools n.free.pools shows.doubled (filter is_lasting m.faults) (filter is_lasting n.faults) same.layout same.free.pools (ap (filter is_lasting) same.faults)
      (with_rows m.memory.region (lasting_outcome (told m.layout m.rows m.free shows.doubled m.faults)) n.rows same.rows shows.here));
  runs = same.stopped ∙ shows.runs;
}

-- the fuse of a mount is no part of what it shows
pub fused : (fuse : Fuse) (R : Region) (m : Mount RegionState) → ShowsOutcome R m → ShowsOutcome R (with_fuse fuse m)
fused fuse R m shows = record { doubled = shows.doubled; shown = shows.shown; here = shows.here; runs = shows.runs }

-- ---- the session before and after a call

region_of_mount : (store : Option Store) (m : Mount RegionState) → mount_in store ≡ Some m → region_in store ≡ Some m.memory.region
region_of_mount None m at = absurd (cc)
region_of_mount (Some (stores.Alone memory)) m at = absurd (cc)
region_of_mount (Some (stores.Mounted n)) m at = (let same : n ≡ m = cc in ap (λ (k : Mount RegionState). Some k.memory.region) same)

module _ (fuse : Fuse) (old mid new : Session) (m : Mount RegionState) (takes : TakesMount fuse old (Some m) mid) (state : State) (stands : StandsFor old state) where
  pub here : state.region ≡ Some m.memory.region
  here = stands.region ∙ region_of_mount old.store takes.0 takes.1 ∙ ap (λ (k : Mount RegionState). Some k.memory.region) (sym takes.2)

  pub at_time : mid.time ≡ state.time
  at_time = ap (λ (s : Session). s.time) takes.3 ∙ sym stands.time

  pub is_mounted : IsMountOf state.mounted (Some m)
  is_mounted = subst (λ (k : Mount RegionState). IsMountOf state.mounted (Some k)) (sym takes.2) (by state.mounted (subst (λ (o : Option (Mount RegionState)). IsMountOf state.mounted o) takes.1 stands.mounted)) where
    by : (mounted : Option Region) → IsMountOf mounted (Some takes.0) → IsMountOf mounted (Some (with_fuse fuse takes.0))
    by None is = is
    by (Some R) is = fused fuse R takes.0 is

  -- the session that is left stands for a state, by what it has in store
  pub stands_with : (store : Store) (next : State) → new ≡ record mid { store = Some store } → next.region ≡ Some (memory_in store).region → IsMountOf next.mounted (mount_in (Some store)) → next.time ≡ state.time → next.last ≡ state.last → next.armed ≡ state.armed → IsSettled (memory_in store) → StandsFor new next
  stands_with store next is region mounted time last armed settled =
      subst (λ (s : Session). StandsFor s next) (sym (is ∙ ap (λ (s : Session). record s { store = Some store }) takes.3)) (record {
        region = region;
        mounted = mounted;
        time = time ∙ stands.time;
        last = last ∙ stands.last;
        armed = armed ∙ stands.armed;
        settled = settled;
      })

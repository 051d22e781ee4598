-- What `create` and `mkdir` keep, at each of their exits: the table of the CPU may have grown.
use Rattle.std.proofs.Common.{◌≡◌, ◌∙◌, ◌⊎◌, inl, inr, ◌<◌, ℕ, ap, refl, subst, sym, Bool, true, false, List, Result, Err, Ok, IsTrue, Option, None, Some}
use Rattle.nv_region.specs.Region.{Region}
use Rattle.nv_region.specs.Fuses.{FuseState}
use Rattle.nv_super.specs.declared.superblock.Super.{Super}
use Rattle.nv_super.specs.declared.faults.Fault.{Fault}
use Rattle.nv_super.specs.Layout.{Layout, slot_of}
use Rattle.nv_inode.specs.Growing.{with_block}
use Rattle.nv_alloc.specs.FreeValue.{FreeLists}
use Rattle.nv_scan.specs.declared.piece.Row.{Row}
use Rattle.nv_tree.specs.declared.refusal.Refusal.{Refusal}
use Rattle.nv_tree.specs.declared.refusal.Refusal.TheVariants.{Stopped}
use Rattle.nv_paths.specs.Spots.{new_number}
use Rattle.nv_steps.specs.Keeping.{KeepsStep}
use Rattle.nv_calls.specs.AtPlaces.{LeavesRows}
use Rattle.nv_calls.specs.Keeping.{KeepsCall, KeepsCallBy}
use Rattle.nv_calls.specs.Mount.{IsKept, Mount}
use Rattle.nv_calls.specs.Growing.{GotSlot}
use Rattle.nv_calls.specs.Same.{GrowsMount, IsLaidFor, GrowsWhereFull, SameMount}
use Rattle.nv_calls.proofs.CreateCall.{kept_or_stopped, unchanged_rows}
use Rattle.nv_calls.proofs.Early.{good_reply}
use Rattle.nv_calls.proofs.Mounts.{kept_when_stopped}
use Rattle.nv_calls.proofs.NewNumbers.{grows_for}
use Rattle.nv_calls.proofs.SetAttr.{late_reply}

-- a mount that a CPU can write
pub record Able {P : Type 0} (m : Mount P) (cpu : ℕ) : Type 0 where
  pub runs : m.stopped ≡ false
  pub writes : m.read_only ≡ false
  pub low : cpu < m.sup.cpus

pub able_as : {P : Type 0} {n m : Mount P} {cpu : ℕ} → n ≡ m → m.stopped ≡ false → m.read_only ≡ false → cpu < m.sup.cpus → Able n cpu
able_as {P} {cpu = cpu} same runs writes low = subst (λ (k : Mount P). Able k cpu) (sym same) (record { runs = runs; writes = writes; low = low })

-- What keeps the tables keeps them but for growth.
pub may_grow : {P T : Type 0} {region : P → Region} {fuse : P → FuseState} (cpu : ℕ) {old new : Mount P} {r : Result T Refusal} → KeepsCall region fuse old new r → KeepsCallBy (GrowsMount cpu) region fuse old new r
may_grow cpu kept = record {
  stopped_before = kept.stopped_before;
  unchanged = kept.unchanged;
  stopped = kept.stopped;
  keeps = (let same = kept.keeps in record { sup = same.sup; tables = inl same.layout; faults = same.faults; read_only = same.read_only });
  length = kept.length;
  keeps_fuse = kept.keeps_fuse;
  read_only = kept.read_only;
}

-- how the tables of a mount have grown for a new number
pub grew_for : {P : Type 0} {n : Mount P} {cpu j : ℕ} {laid : Layout} → Able n cpu → n.layout.sup ≡ n.sup → new_number n.layout n.rows cpu ≡ Some j
    → (laid ≡ n.layout) ⊎ ((slot_of n.layout j ≡ None) × ((b : ℕ) × (laid ≡ with_block n.layout cpu b))) → GrowsWhereFull n cpu laid
grew_for able tables number (inl same) = inl same
grew_for {n = n} {cpu = cpu} {j = j} able tables number (inr w) =
    let from = grows_for n.layout n.rows cpu j (subst (λ (s : Super). cpu < s.cpus) (sym tables) able.low) number w.0 in
    inr (from.0, from.1, w.1.0, w.1.1)

pub grown_sup : {P : Type 0} {n : Mount P} {cpu : ℕ} {laid : Layout} → Able n cpu → GrowsWhereFull n cpu laid → laid.sup ≡ n.layout.sup
grown_sup able (inl same) = ap (λ (l : Layout). l.sup) same
grown_sup able (inr w) = ap (λ (l : Layout). l.sup) w.3

-- the tables once the number got its slot
pub laid_for : {R S : Region} {l grown : Layout} {free after : FreeLists} {cpu j : ℕ} (rows : List Row) → new_number l rows cpu ≡ Some j → GotSlot R S l grown free after cpu j → IsLaidFor l cpu (new_number l rows cpu) grown
laid_for {l = l} {grown = grown} {cpu = cpu} rows number (inl w) = subst (λ (o : Option ℕ). IsLaidFor l cpu o grown) (sym number) (inl (w.0, w.2))
laid_for {l = l} {grown = grown} {cpu = cpu} rows number (inr g) = subst (λ (o : Option ℕ). IsLaidFor l cpu o grown) (sym number) (inr (g.none_before, (g.block, g.layout)))

-- a mount of other tables
abbrev pub by_tables : {P : Type 0} → Mount P → P → Layout → List Row → FreeLists → Bool → Mount P
by_tables n now laid news after stops = record { memory = now; sup = laid.sup; layout = laid; rows = news; free = after; faults = n.faults; read_only = n.read_only; stopped = stops }

module _ {P : Type 0} (region : P → Region) (fuse : P → FuseState) (cpu : ℕ) {n m : Mount P} (same : n ≡ m) (now : P) (laid : Layout) (news : List Row) (after : FreeLists) (able : Able n cpu) (tables : n.layout.sup ≡ n.sup) (grew : GrowsWhereFull n cpu laid) where
  kept_so : (stops : Bool) → GrowsMount cpu n (by_tables n now laid news after stops)
  kept_so stops = record { sup = grown_sup {n = n} {cpu = cpu} {laid = laid} able grew ∙ tables; tables = grew; faults = refl; read_only = refl }

  -- done by its step
  pub grown_done : {A T : Type 0} (a : A) (b : T) → KeepsStep region fuse n.memory now n.free after (Ok a) → KeepsCallBy (GrowsMount cpu) region fuse m (by_tables n now laid news after n.stopped) (Ok b)
  grown_done a b kept =
      subst (λ (k : Mount P). KeepsCallBy (GrowsMount cpu) region fuse k (by_tables n now laid news after n.stopped) (Ok b)) same (record {
        stopped_before = λ on. absurd (let clash : true ≡ false = sym on ∙ able.runs in cc);
        unchanged = tt;
        stopped = λ still. good_reply n.stopped b able.runs;
        keeps = kept_so n.stopped;
        length = kept.length;
        keeps_fuse = kept.keeps_fuse;
        read_only = λ only. absurd (let clash : true ≡ false = sym only ∙ able.writes in cc);
      })

  -- its step was refused
  pub grown_refused : {A T : Type 0} (e : Refusal) (stops : Bool) → (IsTrue stops → e ≡ Stopped) → (stops ≡ false → e ≡ Stopped → ⊥) → KeepsStep {T = A} region fuse n.memory now n.free after (Err e)
      → ((e ≡ Stopped → ⊥) → SameMount m (by_tables n now laid news after stops)) → KeepsCallBy {T = T} (GrowsMount cpu) region fuse m (by_tables n now laid news after stops) (Err e)
  grown_refused {T = T} e stops stopped_by goes_by kept left =
      subst (λ (k : Mount P). KeepsCallBy {T = T} (GrowsMount cpu) region fuse k (by_tables n now laid news after stops) (Err e)) same (record {
        stopped_before = λ on. absurd (let clash : true ≡ false = sym on ∙ able.runs in cc);
        unchanged = λ off. subst (λ (k : Mount P). SameMount k (by_tables n now laid news after stops)) (sym same) (left off);
        stopped = λ still. late_reply e stops stopped_by goes_by kept.stopped;
        keeps = kept_so stops;
        length = kept.length;
        keeps_fuse = kept.keeps_fuse;
        read_only = λ only. absurd (let clash : true ≡ false = sym only ∙ able.writes in cc);
      })

-- A step that was refused but by a stop has left the tables.
pub unchanged_tables : {P : Type 0} {n m : Mount P} → n ≡ m → n.layout.sup ≡ n.sup → (now : P) (laid : Layout) (news : List Row) (after : FreeLists) (stops : Bool) → n.stopped ≡ false → stops ≡ false
    → LeavesRows n.memory now n.free after n.rows news × (laid ≡ n.layout) → SameMount m (by_tables n now laid news after stops)
unchanged_tables {P} {n} {m} same tables now laid news after stops runs off left =
    subst (λ (l : Layout). SameMount m (by_tables n now l news after stops)) (sym left.1)
    (subst (λ (s : Super). SameMount m (record { memory = now; sup = s; layout = n.layout; rows = news; free = after; faults = n.faults; read_only = n.read_only; stopped = stops })) (sym tables)
    (unchanged_rows same now news after stops runs off left.0))

-- what is kept of the tables that are left
pub tables_or_stopped : {P : Type 0} (region : P → Region) {old now : P} {l laid : Layout} {rows news : List Row} {free after : FreeLists} {faults : List Fault} {read_only stopped : Bool} → IsKept (region old) l.sup l rows free faults read_only stopped → stopped ≡ false → read_only ≡ false
    → (e : Refusal) (stops : Bool) → (IsTrue stops → e ≡ Stopped) → (stops ≡ false → e ≡ Stopped → ⊥) → laid.sup ≡ l.sup → after.sup ≡ free.sup → ((e ≡ Stopped → ⊥) → LeavesRows old now free after rows news × (laid ≡ l))
    → IsKept (region now) laid.sup laid news after faults read_only stops
tables_or_stopped region {old} {now} {l} {laid} {rows} {news} {free} {after} {faults} {read_only} kept runs writes e true stopped_by goes_by sup lists leaves =
    kept_when_stopped (region now) laid.sup laid news after faults read_only true refl kept.writes (lists ∙ kept.lists ∙ sym sup) refl
tables_or_stopped region {old} {now} {l} {laid} {rows} {news} {free} {after} {faults} {read_only} kept runs writes e false stopped_by goes_by sup lists leaves =
    let left = leaves (goes_by refl) in
    subst (λ (k : Layout). IsKept (region now) k.sup k news after faults read_only false) (sym left.1) (kept_or_stopped region kept runs writes e false stopped_by goes_by lists (λ off. (leaves off).0))

-- A mount keeps the superblock of its own tables.
pub own_sup : {R : Region} {s : Super} {l : Layout} {rows : List Row} {free : FreeLists} {faults : List Fault} {read_only stopped : Bool} → IsKept R s l rows free faults read_only stopped → IsKept R l.sup l rows free faults read_only stopped
own_sup kept = record { writes = kept.writes; tables = refl; lists = kept.lists; own = kept.own; shown = kept.shown }

-- From what a mounted file system keeps to what is held, and back, where it can be written.
use Rattle.std.proofs.Common.{◌≡◌, ℕ, ◌/◌, Bool, true, false, List, [], ◌∷◌, refl, ap, sym, ◌∙◌, subst, arith, Option, Some}
use Rattle.std.specs.List.{Contains, filter}
use Rattle.std.proofs.Math.Logic.{∥∥₁_elim, ∥∥₁_map}
use Rattle.std.proofs.Math.Nat.{ℕ_set}
use Rattle.std.proofs.Props.{props}
use Rattle.std.proofs.lemmas.Bool.Decides.{nat_tests}
use Rattle.nv_region.specs.Region.{Region}
use Rattle.nv_super.specs.declared.superblock.Super.{Super}
use Rattle.nv_super.specs.declared.faults.Fault.{Fault}
use Rattle.nv_super.specs.Layout.{Layout}
use Rattle.nv_journal.specs.Undo.{undone}
use Rattle.nv_alloc.specs.FreeValue.{FreeLists}
use Rattle.nv_radix.specs.Pages.{block_at}
use Rattle.nv_scan.specs.declared.piece.Row.{Row}
use Rattle.nv_outcome.specs.Outcome.{IsOutcome}
use Rattle.nv_outcome.specs.Same.{is_lasting, lasting_outcome}
use Rattle.nv_mounted.specs.Held.{Held, Store}
use Rattle.nv_mounted.specs.Bytes.{byte_in, byte_of}
use Rattle.nv_mounted.specs.Mounted.{IsMounted, ShowsSound}
use Rattle.nv_mounted.proofs.Opens as opens
use Rattle.nv_mounted.proofs.Closes as closes
use Rattle.nv_calls.specs.Mount.{IsKept, has_faults, told}

-- no fault was found
none_found : (faults : List Fault) → has_faults faults ≡ false → faults ≡ []
none_found [] e = refl
none_found (f ∷ faults) e = absurd (grind (arith, nat_tests))

none_lasts : (faults : List Fault) → faults ≡ [] → filter is_lasting faults ≡ []
none_lasts faults none = ap (λ (fs : List Fault). filter is_lasting fs) none

module _ {R : Region} {s : Super} {l : Layout} {rows : List Row} {free : FreeLists} {faults : List Fault} {read_only stopped : Bool} where
  -- no fault was found where it can be written
  pub faultless : IsKept R s l rows free faults read_only stopped → read_only ≡ false → faults ≡ []
  faultless kept writes = none_found faults (sym kept.writes ∙ writes)

  -- Something is held that the region shows, with nothing wrong, and the rows and free lists are those of it.
  pub mounted_of_kept : IsKept R s l rows free faults read_only stopped → stopped ≡ false → read_only ≡ false → ∥ ((held : Store) × IsMounted R l held rows free.pools) ∥₁
  mounted_of_kept kept runs writes = ∥∥₁_map (kept.shown runs) (λ w. opens.opening R (lasting_outcome (told l rows free w.0 faults)) w.1 (none_lasts faults (faultless kept writes)) (kept.own runs))

  -- What is held of a region that is kept so is what the rows and free lists say.
  pub mounted_with : IsKept R s l rows free faults read_only stopped → stopped ≡ false → (held : Store) → ShowsSound R l held → ∥ (IsMounted R l held rows free.pools) ∥₁
  mounted_with kept runs held sound = ∥∥₁_map (kept.shown runs) (λ w. record { sound = sound; keeps = closes.outcome_kept sound (lasting_outcome (told l rows free w.0 faults)) w.1 })

-- Where each byte of what is held stays, so does each of a row's file.
pub bytes_stay : {R : Region} {s : Super} {l : Layout} {rows : List Row} {free : FreeLists} {faults : List Fault} {read_only stopped : Bool} → IsKept R s l rows free faults read_only stopped → stopped ≡ false → read_only ≡ false → (S : Region)
    → ((held : Store) → IsMounted R l held rows free.pools → (i : ℕ) (h : Held) → held i ≡ Some h → (x : ℕ) → byte_of S l h x ≡ byte_of R l h x)
    → (r : Row) → Contains rows r → (x : ℕ) → byte_in S (block_at r.index (x / 4096)) x ≡ byte_in R (block_at r.index (x / 4096)) x
bytes_stay {R} {s} {l} {rows} {free} kept runs writes S stay r c x = ∥∥₁_elim (mounted_of_kept kept runs writes) prop (λ w. same w.0 w.1) where
  prop : IsProp (byte_in S (block_at r.index (x / 4096)) x ≡ byte_in R (block_at r.index (x / 4096)) x)
  prop = hlevel (props, ℕ_set)

  same : (held : Store) → IsMounted R l held rows free.pools → byte_in S (block_at r.index (x / 4096)) x ≡ byte_in R (block_at r.index (x / 4096)) x
  same held m =
      let keeps = m.keeps in
      let in_rows = keeps.in_rows in
      let k = in_rows.each r c in
      let told = k.2 in
      ap (λ (o : Option ℕ). byte_in S o x) (told.index (x / 4096)) ∙ stay held m r.inode k.0 k.1 x ∙ ap (λ (o : Option ℕ). byte_in R o x) (sym (told.index (x / 4096)))

own_prop : (l : Layout) (R : Region) → IsProp (undone l.sup R ≡ R)
own_prop l R = hlevel (props, ℕ_set)

-- And back: the rows and free lists of what is held are kept.
pub kept_of_mounted : (R : Region) (s : Super) (l : Layout) (rows : List Row) (free : FreeLists) (faults : List Fault) (read_only stopped : Bool) → l.sup ≡ s → read_only ≡ has_faults faults → read_only ≡ false → free.sup ≡ l.sup → ∥ ((held : Store) × IsMounted R l held rows free.pools) ∥₁
    → IsKept R s l rows free faults read_only stopped
kept_of_mounted R s l rows free faults read_only stopped tables is writes lists known = record {
  writes = is;
  tables = tables;
  lists = lists;
  own = λ _. ∥∥₁_elim known (own_prop l R) (λ w. closes.own_undo w.1.sound);
  shown = λ _. ∥∥₁_map known (λ w. ([], shown w.0 w.1));
} where
  none : filter is_lasting faults ≡ []
  none = none_lasts faults (none_found faults (sym is ∙ writes))

  shown : (held : Store) → IsMounted R l held rows free.pools → IsOutcome R (lasting_outcome (told l rows free [] faults))
  shown held m = subst (λ (fs : List Fault). IsOutcome R (record { sup = l.sup; tables = l.chains; rows = rows; free = free.pools; doubled = []; faults = fs })) (sym none) (closes.closing m.sound rows free.pools m.keeps)

-- Of one that was stopped nothing more is kept.
pub kept_when_stopped : (R : Region) (s : Super) (l : Layout) (rows : List Row) (free : FreeLists) (faults : List Fault) (read_only stopped : Bool) → l.sup ≡ s → read_only ≡ has_faults faults → free.sup ≡ l.sup → stopped ≡ true → IsKept R s l rows free faults read_only stopped
kept_when_stopped R s l rows free faults read_only stopped tables is lists stops = record {
  writes = is;
  tables = tables;
  lists = lists;
  own = λ runs. absurd (let e : true ≡ false = sym stops ∙ runs in cc);
  shown = λ runs. absurd (let e : true ≡ false = sym stops ∙ runs in cc);
}

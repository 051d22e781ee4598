-- What a call keeps, at each of its exits.
use Rattle.std.proofs.Common.{◌≡◌, ◌∙◌, ap, refl, subst, sym, Bool, true, false, List, Result, Err, Ok, IsTrue}
use Rattle.nv_region.specs.Region.{Region}
use Rattle.nv_region.specs.Fuses.{FuseState}
use Rattle.nv_alloc.specs.FreeValue.{FreeLists}
use Rattle.nv_scan.specs.declared.piece.Row.{Row}
use Rattle.nv_tree.specs.declared.refusal.Refusal.{Refusal}
use Rattle.nv_tree.specs.declared.refusal.Refusal.TheVariants.{Stopped}
use Rattle.nv_steps.specs.Keeping.{KeepsStep}
use Rattle.nv_calls.specs.Keeping.{KeepsCall, KeepsCallBy}
use Rattle.nv_calls.specs.Mount.{Mount}
use Rattle.nv_calls.specs.Same.{SameMount}
use Rattle.nv_calls.proofs.Early.{good_reply, same_fuse}
use Rattle.nv_calls.proofs.RowChange.{same_mount}
use Rattle.nv_calls.proofs.SetAttr.{late_reply}
use Rattle.nv_calls.proofs.Tests.{early_reply, if_err}

module _ {P T : Type 0} (region : P → Region) (fuse : P → FuseState) where
  -- refused by its first tests
  pub refused_first : {W : Type 0} (m : Mount P) (r : Result T Refusal) (e x : Refusal) → r ≡ Err x → x ≡ e → (IsTrue m.stopped → ◌≡◌ {A = Result W Refusal} (Err e) (Err Stopped)) → (m.stopped ≡ false → e ≡ Stopped → ⊥)
      → KeepsCall region fuse m m r
  refused_first m r e x is same before off = record {
    stopped_before = λ on. (is ∙ ap (λ (f : Refusal). Err f) (same ∙ (let told = before on in let one : e ≡ Stopped = cc in one)), refl);
    unchanged = if_err r _ (λ f on. same_mount m);
    stopped = λ runs. early_reply m.stopped r e x is same (off runs) runs;
    keeps = record { sup = refl; layout = refl; faults = refl; read_only = refl };
    length = refl;
    keeps_fuse = same_fuse _ _;
    read_only = λ only. same_mount m;
  }

  -- refused by later ones, before anything was stored
  pub refused_later : (m : Mount P) (r : Result T Refusal) (e x : Refusal) → r ≡ Err x → x ≡ e → m.stopped ≡ false → (e ≡ Stopped → ⊥) → KeepsCall region fuse m m r
  refused_later m r e x is same runs off = refused_first {W = T} m r e x is same (λ on. absurd (let clash : true ≡ false = sym on ∙ runs in cc)) (λ still. off)

  -- done with nothing to store
  pub nothing_to_do : (m : Mount P) (a : T) → m.stopped ≡ false → KeepsCall region fuse m m (Ok a)
  nothing_to_do m a runs = record {
    stopped_before = λ on. absurd (let clash : true ≡ false = sym on ∙ runs in cc);
    unchanged = tt;
    stopped = λ still. good_reply m.stopped a runs;
    keeps = record { sup = refl; layout = refl; faults = refl; read_only = refl };
    length = refl;
    keeps_fuse = same_fuse _ _;
    read_only = λ only. same_mount m;
  }

  module _ {n m : Mount P} (same : n ≡ m) (now : P) (news : List Row) (after : FreeLists) (runs : n.stopped ≡ false) (writes : n.read_only ≡ false) where
    -- done by its step
    pub call_done : {A : Type 0} (a : A) (b : T) → KeepsStep region fuse n.memory now n.free after (Ok a)
        → KeepsCall region fuse m (record { memory = now; sup = n.sup; layout = n.layout; rows = news; free = after; faults = n.faults; read_only = n.read_only; stopped = n.stopped }) (Ok b)
    call_done a b kept =
        subst (λ (k : Mount P). KeepsCall region fuse k (record { memory = now; sup = n.sup; layout = n.layout; rows = news; free = after; faults = n.faults; read_only = n.read_only; stopped = n.stopped }) (Ok b)) same (record {
          stopped_before = λ on. absurd (let clash : true ≡ false = sym on ∙ runs in cc);
          unchanged = tt;
          stopped = λ still. good_reply n.stopped b runs;
          keeps = record { sup = refl; layout = refl; faults = refl; read_only = refl };
          length = kept.length;
          keeps_fuse = kept.keeps_fuse;
          read_only = λ only. absurd (let clash : true ≡ false = sym only ∙ writes in cc);
        })

    -- its step was refused
    pub refused_late : {A : Type 0} (e : Refusal) (stops : Bool) → (IsTrue stops → e ≡ Stopped) → (stops ≡ false → e ≡ Stopped → ⊥) → KeepsStep {T = A} region fuse n.memory now n.free after (Err e)
        → ((e ≡ Stopped → ⊥) → SameMount m (record { memory = now; sup = n.sup; layout = n.layout; rows = news; free = after; faults = n.faults; read_only = n.read_only; stopped = stops }))
        → KeepsCall {T = T} region fuse m (record { memory = now; sup = n.sup; layout = n.layout; rows = news; free = after; faults = n.faults; read_only = n.read_only; stopped = stops }) (Err e)
    refused_late e stops stopped_by goes_by kept left =
        let new : Mount P = record { memory = now; sup = n.sup; layout = n.layout; rows = news; free = after; faults = n.faults; read_only = n.read_only; stopped = stops } in
        subst (λ (k : Mount P). KeepsCall {T = T} region fuse k new (Err e)) same (record {
          stopped_before = λ on. absurd (let clash : true ≡ false = sym on ∙ runs in cc);
          unchanged = λ off. subst (λ (k : Mount P). SameMount k new) (sym same) (left off);
          stopped = λ still. late_reply e stops stopped_by goes_by kept.stopped;
          keeps = record { sup = refl; layout = refl; faults = refl; read_only = refl };
          length = kept.length;
          keeps_fuse = kept.keeps_fuse;
          read_only = λ only. absurd (let clash : true ≡ false = sym only ∙ writes in cc);
        })

module _ {P A B : Type 0} {Kept : Mount P → Mount P → Type 0} {region : P → Region} {fuse : P → FuseState} {old new : Mount P} where
  -- done with another answer
  pub as_done : {a : A} {b : B} → KeepsCallBy Kept region fuse old new (Ok a) → KeepsCallBy Kept region fuse old new (Ok b)
  as_done {a} {b} kept = record {
    stopped_before = λ on. absurd (let clash : ◌≡◌ {A = Result A Refusal} (Ok a) (Err Stopped) = (kept.stopped_before on).0 in cc);
    unchanged = tt;
    stopped = λ runs. ((λ on. absurd (let clash : ◌≡◌ {A = Result A Refusal} (Ok a) (Err Stopped) = ((kept.stopped runs).0 on).0 in cc)), (λ is. absurd (cc)));
    keeps = kept.keeps;
    length = kept.length;
    keeps_fuse = kept.keeps_fuse;
    read_only = kept.read_only;
  }

  -- refused alike
  pub as_refused : {e : Refusal} → KeepsCallBy {T = A} Kept region fuse old new (Err e) → KeepsCallBy {T = B} Kept region fuse old new (Err e)
  as_refused {e} kept = record {
    stopped_before = λ on. (let told = kept.stopped_before on in (same_stop told.0, told.1));
    unchanged = kept.unchanged;
    stopped = λ runs. (let told = kept.stopped runs in ((λ on. (same_stop (told.0 on).0, (told.0 on).1)), (λ is. told.1 (other_stop is))));
    keeps = kept.keeps;
    length = kept.length;
    keeps_fuse = kept.keeps_fuse;
    read_only = kept.read_only;
  } where
    same_stop : ◌≡◌ {A = Result A Refusal} (Err e) (Err Stopped) → ◌≡◌ {A = Result B Refusal} (Err e) (Err Stopped)
    same_stop is = (let one : e ≡ Stopped = cc in ap (λ (f : Refusal). Err f) one)

    other_stop : ◌≡◌ {A = Result B Refusal} (Err e) (Err Stopped) → ◌≡◌ {A = Result A Refusal} (Err e) (Err Stopped)
    other_stop is = (let one : e ≡ Stopped = cc in ap (λ (f : Refusal). Err f) one)

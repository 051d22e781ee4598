-- What a step keeps, by what the step in it keeps.
use Rattle.std.proofs.Common.{◌≡◌, ◌∙◌, Result, Err, Ok, IfErr, IsTrue, OnOk, refl}
use Rattle.nv_region.specs.Region.{Region}
use Rattle.nv_region.specs.Stops.{Choices, NothingPending}
use Rattle.nv_region.specs.Fuses.{FuseState}
use Rattle.nv_alloc.specs.FreeValue.{FreeLists}
use Rattle.nv_tree.specs.declared.refusal.Refusal.{Refusal}
use Rattle.nv_tree.specs.declared.refusal.Refusal.TheVariants.{Stopped}
use Rattle.nv_steps.specs.Keeping.{SettlesStep}

-- a refusal handed on
pub kept_refused : {M A B : Type 0} {region : M → Region} {may_hold : M → Choices} {fuse : M → FuseState} {old new : M} {before after : FreeLists} (r : Result B Refusal) (e x : Refusal) → r ≡ Err x → x ≡ e
    → SettlesStep {T = A} region may_hold fuse old new before after (Err e) → SettlesStep {T = B} region may_hold fuse old new before after r
kept_refused r e x is same kept = rw (is, same) (record { keeps = record { stopped = kept.stopped; lists = kept.lists; length = kept.length; keeps_fuse = kept.keeps_fuse }; settled = tt })

-- a step is done behind another one, and stores nothing
pub kept_done : {M A B : Type 0} {region : M → Region} {may_hold : M → Choices} {fuse : M → FuseState} {old new : M} {before after : FreeLists} {a : A} {b : B}
    → SettlesStep {T = A} region may_hold fuse old new before after (Ok a) → SettlesStep {T = B} region may_hold fuse old new before after (Ok b)
kept_done kept = record { keeps = record { stopped = tt; lists = kept.lists; length = kept.length; keeps_fuse = kept.keeps_fuse }; settled = kept.settled }

-- nothing was stored
pub nothing_stored : {M A : Type 0} {region : M → Region} {may_hold : M → Choices} {fuse : M → FuseState} {old : M} {before after : FreeLists} {r : Result A Refusal}
    → OnOk r (NothingPending (region old) (may_hold old)) → IfErr r (λ e. e ≡ Stopped → IsTrue (fuse old).has_burnt) → after.sup ≡ before.sup → SettlesStep region may_hold fuse old old before after r
nothing_stored settled stopped lists =
    record { keeps = record { stopped = stopped; lists = lists; length = refl; keeps_fuse = record { burnt = λ was. was; steady = λ was. was; stays_open = λ limit past was. was } }; settled = settled }

-- free lists were made ready before
pub kept_behind : {M A : Type 0} {region : M → Region} {may_hold : M → Choices} {fuse : M → FuseState} {old new : M} {first before after : FreeLists} {r : Result A Refusal} → before.sup ≡ first.sup
    → SettlesStep region may_hold fuse old new before after r → SettlesStep region may_hold fuse old new first after r
kept_behind same kept = record { keeps = record { stopped = kept.stopped; lists = kept.lists ∙ same; length = kept.length; keeps_fuse = kept.keeps_fuse }; settled = kept.settled }

-- what holds anyhow holds where a step is done
pub on_ok_always : {A Q : Type 0} (r : Result A Refusal) → Q → OnOk r Q
on_ok_always (Ok a) q = q
on_ok_always (Err e) q = tt

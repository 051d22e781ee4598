-- What comes of each call that leaves the names as they are, by the contract of its method.
use Rattle.std.proofs.Common.{◌≡◌, ◌⊎◌, inl, inr, ℕ, length, [], Option, Some, None, Result, Ok, Err, IfErr, IfOk, OnOk, refl, ap}
use Rattle.nv_bytes.specs.Data.{data_bytes}
use Rattle.nv_tree.specs.Refusals.{IsRefusedBy}
use Rattle.nv_tree.specs.declared.refusal.Refusal.{Refusal}
use Rattle.nv_tree.specs.declared.refusal.Refusal.TheVariants.{Stopped}
use Rattle.nv_history.specs.declared.calls.Answer.TheVariants.{Done, Cleaned}
use Rattle.nv_history.specs.Said.{said, Write, SetSize, SetAttributes, Clean, Upgrade}
use Rattle.nv_history.proofs.Cleaned.{clean_logged}
use Rattle.nv_history.proofs.Kept.{called_by, err_by, of_call, of_upgrade, ok_by}
use Rattle.nv_history.proofs.Logged.{attributes_logged, bytes_logged, done_logged, size_logged}
use Rattle.nv_history.proofs.calls.make_within.Goals as goal

-- ---- `write`
pub returns-in-Write : goal.returns-in-Write
returns-in-Write g c =
    let m = c.args.mount.now in
    let a = c.in-Write in
    let n = c.write_data.new.self in
    let r = c.write_data.result in
    called_by g.P.Pmem.region g.P.Pmem.may_hold g.P.Pmem.fuse (Write a.cpu a.path.now a.offset (data_bytes a.content) a.time) m n (λ made. Done) (said c.args.call.now) (ap said a.is) c.done.result r c.done.ensures
    (λ tests asked. ok_by r tests _ asked.2.2 (c.write_data.ensures.allowed asked.0 asked.2.0 asked.1 asked.2.1)) (λ runs tests asked. err_by r tests _ asked.2.2 (c.write_data.ensures.refused runs asked.0 asked.2.0 asked.1 asked.2.1)) (λ names others is. c.write_data.ensures.changed names is.0)
    (λ names others is. done_logged r _ (bytes_logged g.P.Pmem.region m n names a.cpu a.offset (length (data_bytes a.content)) a.time r (λ i node held h. c.write_data.ensures.log names i node held h is.0) c.write_data.ensures.nothing))
    (of_call g.P.Pmem.region g.P.Pmem.fuse m n r (Write a.cpu a.path.now a.offset (data_bytes a.content) a.time) refl (λ same. same) (λ same. same) c.write_data.ensures.call.call) (λ none. c.write_data.ensures.call.bad_text (λ names is. none names [] (is, refl))) (λ names others is. c.write_data.ensures.any_stop names is.0)

-- ---- `set_size`
pub returns-in-SetSize : goal.returns-in-SetSize
returns-in-SetSize g c =
    let m = c.args.mount.now in
    let a = c.in-SetSize in
    let n = c.set_size.new.self in
    let r = c.set_size.result in
    called_by g.P.Pmem.region g.P.Pmem.may_hold g.P.Pmem.fuse (SetSize a.cpu a.path.now a.size a.time) m n (λ made. Done) (said c.args.call.now) (ap said a.is) c.done-in-SetSize.result r c.done-in-SetSize.ensures
    (λ tests asked. ok_by r tests _ asked.2 (c.set_size.ensures.allowed asked.0 asked.1)) (λ runs tests asked. err_by r tests _ asked.2 (c.set_size.ensures.refused runs asked.0 asked.1)) (λ names others is. c.set_size.ensures.changed names is.0)
    (λ names others is. done_logged r _ (size_logged (g.P.Pmem.region m.memory) (g.P.Pmem.region n.memory) m names a.cpu a.size a.time r (λ i node held h. c.set_size.ensures.log names i node held h is.0)))
    (of_call g.P.Pmem.region g.P.Pmem.fuse m n r (SetSize a.cpu a.path.now a.size a.time) refl (λ same. same) (λ same. same) c.set_size.ensures.call.call) (λ none. c.set_size.ensures.call.bad_text (λ names is. none names [] (is, refl))) (λ names others is. c.set_size.ensures.any_stop names is.0)

-- ---- `set_attr`
pub returns-in-SetAttributes : goal.returns-in-SetAttributes
returns-in-SetAttributes g c =
    let m = c.args.mount.now in
    let a = c.in-SetAttributes in
    let n = c.set_attr.new.self in
    let r = c.set_attr.result in
    called_by g.P.Pmem.region g.P.Pmem.may_hold g.P.Pmem.fuse (SetAttributes a.cpu a.path.now a.mode a.owner a.group a.time) m n (λ made. Done) (said c.args.call.now) (ap said a.is) c.done-in-SetAttributes.result r c.done-in-SetAttributes.ensures
    (λ tests asked. ok_by r tests _ asked.2 (c.set_attr.ensures.allowed asked.0 asked.1)) (λ runs tests asked. err_by r tests _ asked.2 (c.set_attr.ensures.refused runs asked.0 asked.1)) (λ names others is. c.set_attr.ensures.changed names is.0)
    (λ names others is. done_logged r _ (attributes_logged (g.P.Pmem.region m.memory) (g.P.Pmem.region n.memory) m names a.cpu a.mode a.owner a.group a.time r (λ i node held h. c.set_attr.ensures.log names i node held h is.0)))
    (of_call g.P.Pmem.region g.P.Pmem.fuse m n r (SetAttributes a.cpu a.path.now a.mode a.owner a.group a.time) refl (λ same. same) (λ same. same) c.set_attr.ensures.call.call) (λ none. c.set_attr.ensures.call.bad_text (λ names is. none names [] (is, refl))) (λ names others is. c.set_attr.ensures.any_stop names is.0)

-- ---- `clean`
found_logged : (Found : Option ℕ → Type 0) (r : Result (Option ℕ) Refusal) → IfOk r Found → IfOk r (λ x. (page : Option ℕ) × (Cleaned x ≡ Cleaned page) × Found page)
found_logged Found (Ok page) found = (page, refl, found)
found_logged Found (Err e) found = tt

pub returns-in-Clean : goal.returns-in-Clean
returns-in-Clean g c =
    let m = c.args.mount.now in
    let a = c.in-Clean in
    let n = c.clean.new.self in
    let r = c.clean.result in
    called_by g.P.Pmem.region g.P.Pmem.may_hold g.P.Pmem.fuse (Clean a.path.now) m n (λ page. Cleaned page) (said c.args.call.now) (ap said a.is) c.cleaned.result r c.cleaned.ensures
    (λ tests asked. ok_by r tests _ asked.2 (c.clean.ensures.allowed asked.0 asked.1)) (λ runs tests asked. err_by r tests _ asked.2 (c.clean.ensures.refused runs asked.0 asked.1)) (λ names others is. c.clean.ensures.same_tree)
    (λ names others is. found_logged _ r (clean_logged g.P.Pmem.region m n r c.keeps.ensures names (c.clean.ensures.allowed (Some names) is.0) (λ stops. (c.clean.ensures.call.stopped_before stops).0) (λ i node held h. c.clean.ensures.log names i node held h is.0)))
    (of_call g.P.Pmem.region g.P.Pmem.fuse m n r (Clean a.path.now) refl (λ same. same) (λ same. same) c.clean.ensures.call.call) (λ none. c.clean.ensures.call.bad_text (λ names is. none names [] (is, refl))) (λ names others is. c.clean.ensures.any_stop names is.0)

-- ---- `upgrade`
refused_so : (r : Result (Unit {0}) Refusal) (first : Option Refusal) → IfErr r (λ e. ((e ≡ Stopped) × (first ≡ None)) ⊎ (first ≡ Some e)) → IfErr r (IsRefusedBy first)
refused_so (Ok made) first why = tt
refused_so (Err e) first (inl why) = inr (inl why.0)
refused_so (Err e) first (inr why) = inr (inr why)

stored : (r : Result (Unit {0}) Refusal) (Made Stored : Type 0) → (Made → Stored) → OnOk r Made → OnOk r Stored
stored (Ok made) Made Stored by is = by is
stored (Err e) Made Stored by is = tt

pub returns-in-Upgrade : goal.returns-in-Upgrade
returns-in-Upgrade g c =
    let m = c.args.mount.now in
    let n = c.upgrade.new.self in
    let r = c.upgrade.result in
    called_by g.P.Pmem.region g.P.Pmem.may_hold g.P.Pmem.fuse Upgrade m n (λ made. Done) (said c.args.call.now) (ap said c.in-Upgrade.is) c.done-in-Upgrade.result r c.done-in-Upgrade.ensures
    (λ tests asked. ok_by r tests _ asked c.upgrade.ensures.allowed) (λ runs tests asked. err_by r tests _ asked (refused_so r _ (c.upgrade.ensures.refused runs))) (λ names others is. c.upgrade.ensures.same_tree)
    (λ names others is. done_logged r _ (stored r _ _ (λ made. made.stored) c.upgrade.ensures.upgraded))
    (of_upgrade g.P.Pmem.region g.P.Pmem.fuse m n r c.upgrade.ensures.call c.upgrade.ensures.upgraded) (λ none. absurd (none [] [] (refl, refl))) (λ names others is. c.upgrade.ensures.any_stop)

use Rattle.std.proofs.Common.{◌≡◌, ◌∙◌, true, false, refl, sym, ap, subst, IsTrue}
use Rattle.nv_region.specs.RegionState.{RegionState, is_steady, fenced_or_last}
use Rattle.nv_region.specs.Stops.{NothingPending}
use Rattle.nv_format.specs.Format.{IsFormatRefusal}
use Rattle.nv_format.specs.declared.formatting.FormatRefusal.{FormatRefusal}
use Rattle.nv_session.proofs.Moved.{may_stop}
use Rattle.nv_session.proofs.making.new_region.Goals as goal

pub returns-in-Err-Stopped : goal.returns-in-Err-Stopped
returns-in-Err-Stopped c =
    let old = c.set_fuse.new.self in
    let refused = subst (λ (r : FormatRefusal). IsFormatRefusal old.region c.args.cpus c.args.table_blocks r) c.in-Err-Stopped.field-0-is c.in-Err-Stopped.ensures.refused in
    let settled = subst (λ (m : RegionState). NothingPending m.region (fenced_or_last m)) (sym c.set_fuse.ensures) c.in-Ok.ensures.settled in
    may_stop c.args.stop c.args.cpus c.args.blocks c.args.table_blocks c.args.time old c.format.new.memory c.after_stop.result (ap (λ (m : RegionState). m.region) c.set_fuse.ensures ∙ c.in-Ok.ensures.zeros)
    (λ off. (let never : false ≡ true = c.in-Err-Stopped.ensures.steady_ok (subst (λ (m : RegionState). IsTrue (is_steady m)) (sym c.set_fuse.ensures) (rw off refl)) refused.first in cc)) refused c.format.ensures.size (c.format.ensures.any_stop settled) c.after_stop.ensures.left c.after_stop.ensures.settled

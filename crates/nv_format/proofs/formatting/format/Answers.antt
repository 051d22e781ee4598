use Rattle.std.proofs.Common.{inl, ap, subst, ◌≡◌, ◌≢◌, ◌+◌, ◌≤◌, ℕ, refl, arith}
use Rattle.nv_region.proofs.Stops.{settled_left}
use Rattle.nv_super.specs.declared.superblock.Super.{Super}
use Rattle.nv_format.specs.Format.{FormatLeaves, IsFormatRefusal, IsFormatted, root_page}
use Rattle.std.proofs.lemmas.Result.{err_from_is_err_and, IfOk-from_err}
use Rattle.nv_region.specs.Fuses.{KeepsFuse}
use Rattle.nv_format.specs.declared.formatting.FormatRefusal.{FormatRefusal}
use Rattle.nv_format.specs.declared.formatting.FormatRefusal.TheVariants.{Stopped}
use Rattle.nv_format.proofs.Refused.{handed_on}
use Rattle.nv_format.proofs.formatting.format.Goals as goal

pub returns-in_err-sup-clause-done : goal.returns-in_err-sup-clause-done
returns-in_err-sup-clause-done g c = IfOk-from_err c.from_residual.result _ c.from_residual.ensures.0

pub returns-in_err-sup-clause-settled : goal.returns-in_err-sup-clause-settled
returns-in_err-sup-clause-settled g c = IfOk-from_err c.from_residual.result _ c.from_residual.ensures.0

pub returns-in_err-sup-clause-refused : goal.returns-in_err-sup-clause-refused
returns-in_err-sup-clause-refused g c =
    let w = err_from_is_err_and c.from_residual.result c.from_residual.ensures.1 in
    handed_on c.from_residual.result c.in_err-sup.field-0.0 w.0 (λ (e : FormatRefusal). IsFormatRefusal (g.P.Pmem.region c.args.memory.now) c.args.cpus c.args.table_blocks e) w.1 w.2 c.in_err-sup.ensures.refused

pub returns-in_err-sup-clause-unchanged : goal.returns-in_err-sup-clause-unchanged
returns-in_err-sup-clause-unchanged g c =
    let w = err_from_is_err_and c.from_residual.result c.from_residual.ensures.1 in
    handed_on c.from_residual.result c.in_err-sup.field-0.0 w.0 (λ (e : FormatRefusal). e ≢ Stopped → c.args.memory.now ≡ c.args.memory.now) w.1 w.2 (λ going. refl)

pub returns-in_err-sup-clause-keeps_fuse : goal.returns-in_err-sup-clause-keeps_fuse
returns-in_err-sup-clause-keeps_fuse g c = record { burnt = λ was. was; steady = λ was. was; stays_open = λ limit past was. was }

pub returns-in_err-sup-clause-size : goal.returns-in_err-sup-clause-size
returns-in_err-sup-clause-size g c = refl

pub write_region-requires-clause-layout : goal.write_region-requires-clause-layout
write_region-requires-clause-layout g c = c.in_ok-sup.ensures.layout.0

pub write_region-requires-clause-version : goal.write_region-requires-clause-version
write_region-requires-clause-version g c = ap (λ (s : Super). s.version) c.in_ok-sup.ensures.fresh

pub write_region-requires-clause-blocks : goal.write_region-requires-clause-blocks
write_region-requires-clause-blocks g c = c.in_ok-sup.ensures.layout.1

pub returns-in_err-write_region-clause-done : goal.returns-in_err-write_region-clause-done
returns-in_err-write_region-clause-done g c = IfOk-from_err c.from_residual-in_err-write_region.result _ c.from_residual-in_err-write_region.ensures.0

pub returns-in_err-write_region-clause-settled : goal.returns-in_err-write_region-clause-settled
returns-in_err-write_region-clause-settled g c = IfOk-from_err c.from_residual-in_err-write_region.result _ c.from_residual-in_err-write_region.ensures.0

pub returns-in_err-write_region-clause-refused : goal.returns-in_err-write_region-clause-refused
returns-in_err-write_region-clause-refused g c =
    let w = err_from_is_err_and c.from_residual-in_err-write_region.result c.from_residual-in_err-write_region.ensures.1 in
    handed_on c.from_residual-in_err-write_region.result Stopped w.0 (λ (e : FormatRefusal). IsFormatRefusal (g.P.Pmem.region c.args.memory.now) c.args.cpus c.args.table_blocks e) w.1 w.2 (record { applies = tt; first = c.in_ok-sup.ensures.right })

pub returns-in_err-write_region-clause-unchanged : goal.returns-in_err-write_region-clause-unchanged
returns-in_err-write_region-clause-unchanged g c =
    let w = err_from_is_err_and c.from_residual-in_err-write_region.result c.from_residual-in_err-write_region.ensures.1 in
    handed_on c.from_residual-in_err-write_region.result Stopped w.0 (λ (e : FormatRefusal). e ≢ Stopped → c.write_region.new.memory ≡ c.args.memory.now) w.1 w.2 (λ going. absurd (going refl))

pub returns-in_err-write_region-clause-stopped : goal.returns-in_err-write_region-clause-stopped
returns-in_err-write_region-clause-stopped g c = λ is. c.in_err-write_region.ensures.stopped

pub returns-in_err-write_region-clause-keeps_fuse : goal.returns-in_err-write_region-clause-keeps_fuse
returns-in_err-write_region-clause-keeps_fuse g c = subst (λ (s : Super). KeepsFuse (λ (limit : ℕ). root_page s + 32 ≤ limit) (g.P.Pmem.fuse c.args.memory.now) (g.P.Pmem.fuse c.write_region.new.memory)) c.in_ok-sup.ensures.fresh c.write_region.ensures.keeps_fuse

pub returns-in_err-write_region-clause-size : goal.returns-in_err-write_region-clause-size
returns-in_err-write_region-clause-size g c = let after = c.write_region.ensures.blocks in let before = c.in_ok-sup.ensures.layout.1 in omega (arith, after.0, after.1, before.0, before.1)

pub returns-clause-done : goal.returns-clause-done
returns-clause-done g c = subst (λ (s : Super). IsFormatted (g.P.Pmem.region c.args.memory.now) (g.P.Pmem.region c.write_region.new.memory) s c.args.time) c.in_ok-sup.ensures.fresh c.in_ok-write_region.ensures.done

pub returns-clause-settled : goal.returns-clause-settled
returns-clause-settled g c = c.in_ok-write_region.ensures.settled

pub returns-clause-keeps_fuse : goal.returns-clause-keeps_fuse
returns-clause-keeps_fuse g c = subst (λ (s : Super). KeepsFuse (λ (limit : ℕ). root_page s + 32 ≤ limit) (g.P.Pmem.fuse c.args.memory.now) (g.P.Pmem.fuse c.write_region.new.memory)) c.in_ok-sup.ensures.fresh c.write_region.ensures.keeps_fuse

pub returns-clause-size : goal.returns-clause-size
returns-clause-size g c = let after = c.write_region.ensures.blocks in let before = c.in_ok-sup.ensures.layout.1 in omega (arith, after.0, after.1, before.0, before.1)

pub returns-in_err-sup-clause-any_stop : goal.returns-in_err-sup-clause-any_stop
returns-in_err-sup-clause-any_stop g c settled left may = inl (settled_left (g.P.Pmem.region c.args.memory.now) (g.P.Pmem.may_hold c.args.memory.now) settled left may)

pub returns-in_err-write_region-clause-any_stop : goal.returns-in_err-write_region-clause-any_stop
returns-in_err-write_region-clause-any_stop g c settled left may =
    subst (λ (s : Super). FormatLeaves (g.P.Pmem.region c.args.memory.now) s c.args.time left) c.in_ok-sup.ensures.fresh (c.write_region.ensures.any_stop settled left may)

pub returns-clause-any_stop : goal.returns-clause-any_stop
returns-clause-any_stop g c settled left may = subst (λ (s : Super). FormatLeaves (g.P.Pmem.region c.args.memory.now) s c.args.time left) c.in_ok-sup.ensures.fresh (c.write_region.ensures.any_stop settled left may)

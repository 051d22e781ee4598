use Rattle.std.proofs.lemmas.Grind.{common_steps}
use Rattle.std.proofs.Common.{refl, ◌∙◌, ◌<◌, subst, sym, inl, arith}
use Rattle.std.proofs.lemmas.Result.{err_from_is_err_and, IfOk-from_err}
use Rattle.nv_super.specs.declared.superblock.Super.{Super}
use Rattle.nv_commit.proofs.Left.{still}
use Rattle.nv_steps.specs.Stopped.{Resized}
use Rattle.nv_steps.specs.Taken.{SamePools}
use Rattle.nv_steps.proofs.CopyOwed.{numbered}
use Rattle.nv_steps.proofs.Kept.{kept_behind, kept_refused, nothing_stored}
use Rattle.nv_steps.proofs.Refusals.{memory_goes_on}
use Rattle.nv_steps.proofs.CutFile.{cut_as, cut_resizes, gives_as, left_sized, own_grown, shows_with, stands_with}
use Rattle.nv_steps.proofs.resizing.resize_in_place.Goals as goal

pub give_pages-requires-clause-own : goal.give_pages-requires-clause-own
give_pages-requires-clause-own g c = own_grown c.reserve.ensures.same c.in_ok-append_log.ensures.appended c.requires.can.can.own

pub returns-clause-resized : goal.returns-clause-resized
returns-clause-resized g c =
    let same = c.reserve.ensures.same in
    cut_resizes c.args.attributes c.requires.can.can c.requires.can.ends (record { sup = same.sup; pools = same.pools }) c.in_ok-append_log.ensures.appended
    (record { has = numbered c.numbers_with-row.ensures; head = refl; tail = refl; pages = refl }) (cut_as c.append_log.new.row.index c.cut.new.self c.div_ceil-first.ensures c.cut.ensures.blocks) (gives_as c.div_ceil-first.ensures c.div_ceil-end.ensures c.give_pages.ensures.given)

pub append_log-requires : goal.append_log-requires
append_log-requires g c =
    record {
      cpu_below = (let same = c.reserve.ensures.same in subst (λ (s : Super). c.args.cpu < s.cpus) (sym same.sup) c.requires.cpu);
      stands = (stands_with c.reserve.ensures.same c.requires.can.can.stands);
      given = ((refl, tt));
    }

pub returns-in_err-append_log-clause-kept : goal.returns-in_err-append_log-clause-kept
returns-in_err-append_log-clause-kept g c =
    let w = err_from_is_err_and c.from_residual.result c.from_residual.ensures.1 in
    kept_refused c.from_residual.result c.in_err-append_log.field-0.0 w.0 w.1 w.2 (kept_behind c.reserve.ensures.same.sup c.in_err-append_log.ensures.kept)

pub returns-in_err-append_log-clause-inode : goal.returns-in_err-append_log-clause-inode
returns-in_err-append_log-clause-inode g c = c.in_err-append_log.ensures.inode

pub returns-clause-kept : goal.returns-clause-kept
returns-clause-kept g c =
    let kept = c.in_ok-append_log.ensures.kept in
    record {
      keeps = record { stopped = tt; lists = c.give_pages.ensures.lists ∙ kept.lists ∙ c.reserve.ensures.same.sup; length = kept.length; keeps_fuse = kept.keeps_fuse };
      settled = kept.settled;
    }

pub returns-clause-needs : goal.returns-clause-needs
returns-clause-needs g c =
    record {
      enough = grind (arith, common_steps);
      refused = tt;
    }

pub returns-clause-unchanged : goal.returns-clause-unchanged
returns-clause-unchanged g c = tt

pub returns-clause-inode : goal.returns-clause-inode
returns-clause-inode g c = c.in_ok-append_log.ensures.inode

pub returns-in_err-append_log-clause-resized : goal.returns-in_err-append_log-clause-resized
returns-in_err-append_log-clause-resized g c = IfOk-from_err c.from_residual.result _ c.from_residual.ensures.0

pub returns-in_err-append_log-clause-needs : goal.returns-in_err-append_log-clause-needs
returns-in_err-append_log-clause-needs g c =
    record {
      enough = IfOk-from_err c.from_residual.result _ c.from_residual.ensures.0;
      refused = grind (arith, common_steps);
    }

pub returns-then-is_err-clause-resized : goal.returns-then-is_err-clause-resized
returns-then-is_err-clause-resized g c = tt

pub returns-then-is_err-clause-needs : goal.returns-then-is_err-clause-needs
returns-then-is_err-clause-needs g c =
    record {
      enough = tt;
      refused = inl refl;
    }

pub returns-then-is_err-clause-kept : goal.returns-then-is_err-clause-kept
returns-then-is_err-clause-kept g c =
    nothing_stored tt (λ is. absurd (memory_goes_on is)) (c.reserve.ensures.same.sup)

pub returns-then-is_err-clause-unchanged : goal.returns-then-is_err-clause-unchanged
returns-then-is_err-clause-unchanged g c = let same = c.reserve.ensures.same in λ _. record { memory = refl; free = record { sup = same.sup; pools = same.pools }; row = record { inode = refl; kind = refl; numbers = refl; head = refl; tail = refl; pages = refl; index = λ p. refl; names = λ q. refl } }

pub returns-then-is_err-clause-inode : goal.returns-then-is_err-clause-inode
returns-then-is_err-clause-inode g c = refl

pub returns-then-is_err-clause-any_stop : goal.returns-then-is_err-clause-any_stop
returns-then-is_err-clause-any_stop g c held h shows settled = still _ _ c.args.tables.now.layout held (Resized (g.P.Pmem.region c.args.memory.now) c.args.tables.now.layout c.args.free.now c.args.cpu c.args.row.now c.args.attributes) shows.sound settled

pub returns-in_err-append_log-clause-any_stop : goal.returns-in_err-append_log-clause-any_stop
returns-in_err-append_log-clause-any_stop g c held h shows settled left may =
    let lists = c.reserve.ensures.same in
    let same : SamePools c.args.free.now c.reserve.new.self = record { sup = lists.sup; pools = lists.pools } in
    left_sized c.args.attributes c.requires.can.can c.requires.can.ends same shows left (c.append_log.ensures.any_stop held h (shows_with c.args.attributes c.requires.can.can shows same) (omega arith) settled left may)

pub returns-clause-any_stop : goal.returns-clause-any_stop
returns-clause-any_stop g c held h shows settled left may =
    let lists = c.reserve.ensures.same in
    let same : SamePools c.args.free.now c.reserve.new.self = record { sup = lists.sup; pools = lists.pools } in
    left_sized c.args.attributes c.requires.can.can c.requires.can.ends same shows left (c.append_log.ensures.any_stop held h (shows_with c.args.attributes c.requires.can.can shows same) (omega arith) settled left may)

pub returns-then-is_err-clause-wrote : goal.returns-then-is_err-clause-wrote
returns-then-is_err-clause-wrote g c held h shows at whole away = refl

pub returns-in_err-append_log-clause-wrote : goal.returns-in_err-append_log-clause-wrote
returns-in_err-append_log-clause-wrote g c held h shows =
    let lists = c.reserve.ensures.same in
    let same : SamePools c.args.free.now c.reserve.new.self = record { sup = lists.sup; pools = lists.pools } in
    c.append_log.ensures.wrote held h (shows_with c.args.attributes c.requires.can.can shows same) (omega arith)

pub returns-clause-wrote : goal.returns-clause-wrote
returns-clause-wrote g c held h shows =
    let lists = c.reserve.ensures.same in
    let same : SamePools c.args.free.now c.reserve.new.self = record { sup = lists.sup; pools = lists.pools } in
    c.append_log.ensures.wrote held h (shows_with c.args.attributes c.requires.can.can shows same) (omega arith)

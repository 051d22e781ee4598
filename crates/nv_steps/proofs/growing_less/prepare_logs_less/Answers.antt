use Rattle.std.proofs.Common.{◌+◌, ◌<◌, ◌≤◌, ◌%◌, inl, List, refl, subst, sym, arith}
use Rattle.std.proofs.lemmas.Result.{IfErr-weaker, IfOk-weaker, on_err_weaker, on_ok_weaker}
use Rattle.nv_super.specs.declared.owners.Run.{Run}
use Rattle.nv_super.specs.declared.superblock.Super.{Super}
use Rattle.nv_alloc.specs.Taking.{all_blocks}
use Rattle.nv_logpage.specs.Append.{needed}
use Rattle.nv_steps.proofs.Refusals.{memory_goes_on, not_refused}
use Rattle.nv_steps.proofs.Reserved.{refused_since, same_since, taken_since}
use Rattle.nv_steps.proofs.growing_less.prepare_logs_less.Goals as goal

pub prepare_logs-requires : goal.prepare_logs-requires
prepare_logs-requires c =
    record { cpu = subst (λ (s : Super). c.args.cpu < s.cpus) (sym c.reserve.ensures.same.sup) c.requires.cpu; few = (c.requires.few.0, c.requires.few.1) }

pub returns-clause-taken : goal.returns-clause-taken
returns-clause-taken c =
    IfOk-weaker c.prepare_logs.result _ _ (λ blocks taken. record { each = taken_since c.reserve.ensures.same taken.each; count_is = taken.count_is }) c.prepare_logs.ensures.taken

pub returns-clause-needs : goal.returns-clause-needs
returns-clause-needs c =
    record {
      enough = on_ok_weaker c.prepare_logs.result (λ enough. subst (λ (pools : List (List Run)). needed (c.args.row.now.tail % 4096) c.args.first.now.entries.now + needed (c.args.other.now.tail % 4096) c.args.second.now.entries.now ≤ all_blocks pools) c.reserve.ensures.same.pools enough) c.prepare_logs.ensures.needs.enough;
      refused = IfErr-weaker c.prepare_logs.result _ _ (λ e refuses. refused_since c.reserve.ensures.same e refuses) c.prepare_logs.ensures.needs.refused;
    }

pub returns-clause-room : goal.returns-clause-room
returns-clause-room c =
    let kept = not_refused c.reserve.result c.is_err.result c.is_err.ensures.value c.if-is_err.false c.reserve.ensures.room in
    on_ok_weaker c.prepare_logs.result (λ more. omega (arith, kept, more)) c.prepare_logs.ensures.room

pub returns-clause-goes_on : goal.returns-clause-goes_on
returns-clause-goes_on c = c.prepare_logs.ensures.goes_on

pub returns-clause-unchanged : goal.returns-clause-unchanged
returns-clause-unchanged c = on_err_weaker c.prepare_logs.result (λ later. same_since c.reserve.ensures.same later) c.prepare_logs.ensures.unchanged

pub returns-clause-rows : goal.returns-clause-rows
returns-clause-rows c = (c.prepare_logs.ensures.rows.0, c.prepare_logs.ensures.rows.1)

pub returns-clause-ready : goal.returns-clause-ready
returns-clause-ready c = c.prepare_logs.ensures.ready

pub returns-then-is_err-clause-taken : goal.returns-then-is_err-clause-taken
returns-then-is_err-clause-taken c = tt

pub returns-then-is_err-clause-needs : goal.returns-then-is_err-clause-needs
returns-then-is_err-clause-needs c =
    record {
      enough = tt;
      refused = inl refl;
    }

pub returns-then-is_err-clause-room : goal.returns-then-is_err-clause-room
returns-then-is_err-clause-room c = tt

pub returns-then-is_err-clause-ready : goal.returns-then-is_err-clause-ready
returns-then-is_err-clause-ready c = tt

pub returns-then-is_err-clause-goes_on : goal.returns-then-is_err-clause-goes_on
returns-then-is_err-clause-goes_on c = memory_goes_on

pub returns-then-is_err-clause-unchanged : goal.returns-then-is_err-clause-unchanged
returns-then-is_err-clause-unchanged c = let same = c.reserve.ensures.same in record { sup = same.sup; pools = same.pools }

pub returns-then-is_err-clause-rows : goal.returns-then-is_err-clause-rows
returns-then-is_err-clause-rows c = (record { inode = refl; kind = refl; numbers = refl; head = refl; tail = refl; pages = refl; index = λ p. refl; names = λ q. refl }, record { inode = refl; kind = refl; numbers = refl; head = refl; tail = refl; pages = refl; index = λ p. refl; names = λ q. refl })

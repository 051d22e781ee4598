use Rattle.std.proofs.Common.{◌∙◌, ap, subst, sym}
use Rattle.nv_region.specs.Stops.{LeavesOnly}
use Rattle.nv_region.specs.Fuses.{KeepsFuse}
use Rattle.nv_region.specs.Stored.{StoresOnly}
use Rattle.nv_recover.specs.Behind.{BehindSlots, RecoveryStores}
use Rattle.nv_recover.specs.Errors.{UndoesAsBefore}
use Rattle.nv_outcome.specs.Answer.{outcome_of}
use Rattle.nv_calls.proofs.Mounted.{opens, rolls_back_once, tells}
use Rattle.nv_super.specs.declared.superblock.Super.{Super}
use Rattle.nv_journal.specs.Undo.{undone}
use Rattle.nv_calls.proofs.fs.Fs.mount.Goals as goal

pub open-requires-clause-outcome : goal.open-requires-clause-outcome
open-requires-clause-outcome g c =
    opens (g.P.Pmem.region c.args.memory) _ c.in-Ok.recovered c.in-Ok.ensures.undone
    (c.rolled_back_outcome.ensures.outcome (g.P.Pmem.region c.args.memory) (outcome_of c.in-Ok.recovered) c.in-Ok.ensures.ok)

pub open-requires-clause-own : goal.open-requires-clause-own
open-requires-clause-own g c =
    rolls_back_once (g.P.Pmem.region c.args.memory) _ c.in-Ok.recovered c.in-Ok.ensures.undone
    (c.rolled_back_outcome.ensures.same (g.P.Pmem.region c.args.memory) (outcome_of c.in-Ok.recovered) c.in-Ok.ensures.ok)

pub open-requires-clause-settled : goal.open-requires-clause-settled
open-requires-clause-settled g c = c.in-Ok.ensures.kept.settled c.requires.settled

pub returns-in-Ok-clause-outcome : goal.returns-in-Ok-clause-outcome
returns-in-Ok-clause-outcome g c = tells (g.P.Pmem.region c.args.memory) c.open.result c.in-Ok.recovered c.open.ensures.layout c.in-Ok.ensures.tables c.open.ensures.rows c.open.ensures.free c.open.ensures.faults c.in-Ok.ensures.ok

pub returns-in-Ok-clause-undone : goal.returns-in-Ok-clause-undone
returns-in-Ok-clause-undone g c =
    ap g.P.Pmem.region c.open.ensures.memory ∙ c.in-Ok.ensures.undone ∙ ap (λ (s : Super). undone s (g.P.Pmem.region c.args.memory)) (sym c.open.ensures.sup)

pub returns-in-Ok-clause-kept : goal.returns-in-Ok-clause-kept
returns-in-Ok-clause-kept g c =
    record {
      quiet = λ s is quiet. c.open.ensures.memory ∙ c.in-Ok.ensures.kept.quiet s is quiet;
      quiet_done = λ s is quiet. tt;
      untouched = tt;
      stopped = tt;
      keeps_fuse = subst (λ (m : g.row.P.Denot). KeepsFuse (BehindSlots (g.P.Pmem.region c.args.memory)) (g.P.Pmem.fuse c.args.memory) (g.P.Pmem.fuse m)) (sym c.open.ensures.memory) c.in-Ok.ensures.kept.keeps_fuse;
      wrote = subst (λ (m : g.row.P.Denot). StoresOnly (RecoveryStores (g.P.Pmem.region c.args.memory)) (g.P.Pmem.region c.args.memory) (g.P.Pmem.region m) (g.P.Pmem.may_hold c.args.memory) (g.P.Pmem.may_hold m)) (sym c.open.ensures.memory) c.in-Ok.ensures.kept.wrote;
      unstopped = λ s is open_to. tt;
      any_stop = λ s is. subst (λ (m : g.row.P.Denot). LeavesOnly (g.P.Pmem.region m) (g.P.Pmem.may_hold m) (UndoesAsBefore (g.P.Pmem.region c.args.memory))) (sym c.open.ensures.memory) (c.in-Ok.ensures.kept.any_stop s is c.requires.settled);
    }

pub returns-in-Err-clause-kept : goal.returns-in-Err-clause-kept
returns-in-Err-clause-kept g c =
    record {
      quiet = c.in-Err.ensures.kept.quiet;
      quiet_done = c.in-Err.ensures.kept.quiet_done;
      untouched = c.in-Err.ensures.kept.untouched;
      stopped = c.in-Err.ensures.kept.stopped;
      keeps_fuse = c.in-Err.ensures.kept.keeps_fuse;
      wrote = c.in-Err.ensures.kept.wrote;
      unstopped = c.in-Err.ensures.kept.unstopped;
      any_stop = λ s is. c.in-Err.ensures.kept.any_stop s is c.requires.settled;
    }

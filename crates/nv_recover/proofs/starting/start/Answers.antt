use Rattle.std.proofs.Common.{rules, ◌≡◌, ◌≢◌, ◌∙◌, ◌*◌, IsTrue, ap, refl, subst, sym}
use Rattle.std.proofs.lemmas.Result.{IfOk-from_err}
use Rattle.nv_region.proofs.Fuses.{keeps_within}
use Rattle.nv_super.specs.declared.superblock.Super.{Super}
use Rattle.nv_super.proofs.Accepted.{super_outside}
use Rattle.nv_journal.specs.Permitted.{slots_end}
use Rattle.nv_journal.specs.Undone.{AllQuiet}
use Rattle.nv_inode.specs.Chains.{chain_faults}
use Rattle.nv_outcome.proofs.SuperOf.{one_super}
use Rattle.nv_journal.proofs.KeptLinks.{faults_undone}
use Rattle.nv_recover.specs.Errors.{Fails, comes_first, error_of_undo}
use Rattle.nv_recover.specs.declared.errors.RecoverError.{RecoverError}
use Rattle.nv_recover.specs.declared.errors.RecoverError.TheVariants.{Super as Refused, Stopped}
use Rattle.nv_recover.proofs.Handed.{burnt_of, fails_of, goes_on, handed, memory_goes_on, memory_not_burnt, memory_not_first, memory_stays, no_stop_of}
use Rattle.nv_recover.proofs.Stops.{recovery_stores, stop_before, stop_undone}
use Rattle.nv_region.proofs.Wordwise.{stores_none}
use Rattle.nv_recover.proofs.starting.start.Goals as goal

pub returns-in_err-sup-clause-kept : goal.returns-in_err-sup-clause-kept
returns-in_err-sup-clause-kept g c = record {
  stops = record {
    stopped = handed c.from_residual.result (Refused c.in_err-sup.field-0.0) (λ (e : RecoverError). e ≡ Stopped → IsTrue (g.P.Pmem.fuse c.args.memory.now).has_burnt) c.from_residual.ensures.1 (λ is. absurd (goes_on (Refused c.in_err-sup.field-0.0) tt is));
    quiet_done = λ s is quiet. handed c.from_residual.result (Refused c.in_err-sup.field-0.0) (λ (e : RecoverError). e ≢ Stopped) c.from_residual.ensures.1 (goes_on _ tt);
    unstopped = λ s is free. handed c.from_residual.result (Refused c.in_err-sup.field-0.0) (λ (e : RecoverError). e ≢ Stopped) c.from_residual.ensures.1 (goes_on _ tt);
  };
  quiet = λ s is quiet. refl;
  untouched = handed c.from_residual.result (Refused c.in_err-sup.field-0.0) (λ (e : RecoverError). IsTrue (comes_first e) → c.args.memory.now ≡ c.args.memory.now) c.from_residual.ensures.1 (λ first. refl);
  wrote = stores_none _ _ _;
  keeps_fuse = record { burnt = λ was. was; steady = λ was. was; stays_open = λ limit past was. was };
  settled = λ none. IfOk-from_err c.from_residual.result _ c.from_residual.ensures.0;
  any_stop = λ s is none. stop_before (g.P.Pmem.region c.args.memory.now) (g.P.Pmem.may_hold c.args.memory.now) s is none;
}

pub returns-in_err-tables-clause-kept : goal.returns-in_err-tables-clause-kept
returns-in_err-tables-clause-kept g c = record {
  stops = record {
    stopped = memory_not_burnt c.from_residual-in_err-tables.result c.from_residual-in_err-tables.ensures.1 (IsTrue (g.P.Pmem.fuse c.args.memory.now).has_burnt);
    quiet_done = λ s is quiet. memory_goes_on c.from_residual-in_err-tables.result c.from_residual-in_err-tables.ensures.1;
    unstopped = λ s is free. memory_goes_on c.from_residual-in_err-tables.result c.from_residual-in_err-tables.ensures.1;
  };
  quiet = λ s is quiet. refl;
  untouched = memory_not_first c.from_residual-in_err-tables.result c.from_residual-in_err-tables.ensures.1 (c.args.memory.now ≡ c.args.memory.now);
  wrote = stores_none _ _ _;
  keeps_fuse = record { burnt = λ was. was; steady = λ was. was; stays_open = λ limit past was. was };
  settled = λ none. IfOk-from_err c.from_residual-in_err-tables.result _ c.from_residual-in_err-tables.ensures.0;
  any_stop = λ s is none. stop_before (g.P.Pmem.region c.args.memory.now) (g.P.Pmem.may_hold c.args.memory.now) s is none;
}

pub returns-in_err-journal-clause-kept : goal.returns-in_err-journal-clause-kept
returns-in_err-journal-clause-kept g c = record {
  stops = record {
    stopped = let X = IsTrue (g.P.Pmem.fuse c.undo_by.new.memory).has_burnt in
        handed c.from_residual-in_err-journal.result (error_of_undo c.in_err-journal.field-0.0) (λ (e : RecoverError). e ≡ Stopped → X) c.from_residual-in_err-journal.ensures.1
        (burnt_of c.undo_by.result c.in_err-journal.field-0.0 X c.in_err-journal.was c.undo_by.ensures.ends.stopped);
    quiet_done = λ s is quiet. let R = g.P.Pmem.region c.args.memory.now in
        handed c.from_residual-in_err-journal.result (error_of_undo c.in_err-journal.field-0.0) (λ (e : RecoverError). e ≢ Stopped) c.from_residual-in_err-journal.ensures.1
        (no_stop_of c.undo_by.result c.in_err-journal.field-0.0 c.in_err-journal.was (c.undo_by.ensures.ends.quiet_done (subst (λ (t : Super). AllQuiet t.cpus R) (one_super R c.in_ok-sup.sup s c.in_ok-sup.ensures.accepted is) quiet)));
    unstopped = λ s is free. let R = g.P.Pmem.region c.args.memory.now in
        handed c.from_residual-in_err-journal.result (error_of_undo c.in_err-journal.field-0.0) (λ (e : RecoverError). e ≢ Stopped) c.from_residual-in_err-journal.ensures.1
        (no_stop_of c.undo_by.result c.in_err-journal.field-0.0 c.in_err-journal.was (c.undo_by.ensures.ends.open_done (subst (λ (t : Super). IsTrue ((g.P.Pmem.fuse c.args.memory.now).is_open (4096 * slots_end t))) (one_super R c.in_ok-sup.sup s c.in_ok-sup.ensures.accepted is) free)));
  };
  quiet = λ s is quiet. let R = g.P.Pmem.region c.args.memory.now in
      c.undo_by.ensures.ends.quiet (subst (λ (t : Super). AllQuiet t.cpus R) (one_super R c.in_ok-sup.sup s c.in_ok-sup.ensures.accepted is) quiet);
  untouched = search rules;
  wrote = recovery_stores _ _ _ _ c.in_ok-sup.sup c.in_ok-sup.ensures.accepted c.undo_by.ensures.stores.wrote;
  keeps_fuse = keeps_within (λ limit past. past c.in_ok-sup.sup c.in_ok-sup.ensures.accepted) c.undo_by.ensures.ends.keeps_fuse;
  settled = λ none. IfOk-from_err c.from_residual-in_err-journal.result _ c.from_residual-in_err-journal.ensures.0;
  any_stop = λ s is none. stop_undone (g.P.Pmem.region c.args.memory.now) (g.P.Pmem.region c.undo_by.new.memory) (g.P.Pmem.may_hold c.undo_by.new.memory) c.in_ok-sup.sup c.in_ok-sup.ensures.layout c.in_ok-sup.ensures.accepted (c.undo_by.ensures.moments.any_stop none);
}

pub returns-clause-kept : goal.returns-clause-kept
returns-clause-kept g c = record {
  stops = record { stopped = tt; quiet_done = λ s is quiet. tt; unstopped = λ s is free. tt };
  quiet = λ s is quiet. let R = g.P.Pmem.region c.args.memory.now in
      c.undo_by.ensures.ends.quiet (subst (λ (t : Super). AllQuiet t.cpus R) (one_super R c.in_ok-sup.sup s c.in_ok-sup.ensures.accepted is) quiet);
  untouched = tt;
  wrote = recovery_stores _ _ _ _ c.in_ok-sup.sup c.in_ok-sup.ensures.accepted c.undo_by.ensures.stores.wrote;
  keeps_fuse = keeps_within (λ limit past. past c.in_ok-sup.sup c.in_ok-sup.ensures.accepted) c.undo_by.ensures.ends.keeps_fuse;
  settled = c.in_ok-journal.ensures.ends.settled;
  any_stop = λ s is none. stop_undone (g.P.Pmem.region c.args.memory.now) (g.P.Pmem.region c.undo_by.new.memory) (g.P.Pmem.may_hold c.undo_by.new.memory) c.in_ok-sup.sup c.in_ok-sup.ensures.layout c.in_ok-sup.ensures.accepted (c.undo_by.ensures.moments.any_stop none);
}

pub returns-in_err-sup-clause-err : goal.returns-in_err-sup-clause-err
returns-in_err-sup-clause-err g c = λ workers schedule. let R = g.P.Pmem.region c.args.memory.now in
    handed c.from_residual.result (Refused c.in_err-sup.field-0.0) (λ (e : RecoverError). Fails workers schedule e R R) c.from_residual.ensures.1 (c.in_err-sup.ensures.refused, refl)

pub returns-in_err-tables-clause-err : goal.returns-in_err-tables-clause-err
returns-in_err-tables-clause-err g c = λ workers schedule. memory_stays c.from_residual-in_err-tables.result c.from_residual-in_err-tables.ensures.1 workers schedule (g.P.Pmem.region c.args.memory.now) c.in_ok-sup.sup c.in_ok-sup.ensures.accepted

pub returns-in_err-journal-clause-err : goal.returns-in_err-journal-clause-err
returns-in_err-journal-clause-err g c = λ workers schedule.
    let R = g.P.Pmem.region c.args.memory.now in
    let Q = g.P.Pmem.region c.undo_by.new.memory in
    let is = c.in_ok-sup.ensures.accepted in
    handed c.from_residual-in_err-journal.result (error_of_undo c.in_err-journal.field-0.0) (λ (e : RecoverError). Fails workers schedule e R Q) c.from_residual-in_err-journal.ensures.1
    (fails_of c.undo_by.result c.in_err-journal.field-0.0 R Q c.in_ok-sup.sup c.in_err-journal.was is (super_outside R Q _ c.undo_by.ensures.stores.outside c.in_ok-sup.sup is) (λ none. ap (λ m. g.P.Pmem.region m) (c.undo_by.ensures.memory none)) c.undo_by.ensures.moments.reads workers schedule)

pub returns-clause-ok : goal.returns-clause-ok
returns-clause-ok g c = record {
  sup = c.in_ok-sup.ensures.accepted;
  layout = c.in_ok-sup.ensures.layout;
  tables = c.in_ok-tables.ensures.layout ∙ sym c.undo_by.ensures.stores.chains;
  chained = c.in_ok-tables.ensures.faults ∙ sym (faults_undone c.in_ok-sup.sup (g.P.Pmem.region c.args.memory.now) c.in_ok-sup.ensures.layout) ∙ ap (chain_faults c.in_ok-sup.sup) (sym c.in_ok-journal.ensures.done.is);
  rolled_back = c.in_ok-journal.ensures.done.is;
  blocks = c.undo_by.ensures.stores.blocks;
  in_journals = c.in_ok-journal.ensures.faults;
}

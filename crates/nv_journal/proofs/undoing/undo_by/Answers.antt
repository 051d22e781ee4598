use Rattle.std.proofs.Common.{◌≡◌, ◌≤◌, ◌-◌, ◌*◌, ◌↔◌, ◌∙◌, ℕ, Result, Ok, Err, true≢false, refl, ap, sym, subst, arith}
use Rattle.std.proofs.lemmas.Result.{IfOk-from_err}
use Rattle.std.specs.Prelude.{IsErrAnd, is_ok}
use Rattle.nv_region.specs.Region.{Region}
use Rattle.nv_region.proofs.Stops.{fenced_leaves}
use Rattle.nv_region.specs.Region.{HasBlocks}
use Rattle.nv_region.specs.Stops.{Choices}
use Rattle.nv_region.specs.Stored.{SameOutside, StoresOnly}
use Rattle.nv_region.proofs.Wordwise.{stores_none}
use Rattle.nv_region.specs.Fuses.{KeepsFuse}
use Rattle.nv_super.specs.declared.superblock.Super.{Super}
use Rattle.nv_super.specs.declared.faults.Fault.{Fault}
use Rattle.nv_super.specs.Layout.{IsLayout, Layout}
use Rattle.nv_super.specs.Order.{Lists, fault_key}
use Rattle.nv_inode.specs.Chains.{IsLaid, layout_of}
use Rattle.nv_inode.proofs.ReadChains.{region_laid}
use Rattle.nv_inode.specs.Permitted.{is_permitted_by, slots_end}
use Rattle.nv_journal.specs.Undo.{IsQuiet, undone, undone_by}
use Rattle.nv_journal.proofs.KeptLinks.{faults_again, same_layout, same_undone}
use Rattle.nv_journal.specs.Undone.{AllQuiet, IsUndone, UndoStores, UndoStoresBy}
use Rattle.nv_journal.specs.Faults.{HasFault, IsJournalFault, IsPointerFault}
use Rattle.nv_journal.proofs.Partly.{low_rule, inside_of}
use Rattle.nv_journal.proofs.Again.{undone_quiet}
use Rattle.nv_journal.proofs.Turns.{outside_same}
use Rattle.nv_journal.proofs.Words.{is_undone}
use Rattle.nv_journal.specs.declared.undoing.UndoError.{UndoError}
use Rattle.nv_journal.specs.declared.undoing.UndoError.TheVariants.{Memory, Stopped}
use Rattle.nv_journal.proofs.Wrote.{quiet_stores}
use Rattle.nv_journal.proofs.undoing.undo_by.Goals as goal

other_error : {T : Type 0} (r : Result T UndoError) (e x : UndoError) → (e ≡ x → ⊥) → IsErrAnd r (λ y. y ≡ e) → r ≡ Err x → ⊥
other_error (Ok v) e x differ is same = absurd is
other_error (Err y) e x differ is same = differ (cc)

not_stopped : Memory ≡ Stopped → ⊥
not_stopped same = cc

not_memory : Stopped ≡ Memory → ⊥
not_memory same = cc

no_error : {T : Type 0} {v : T} {x : UndoError} → Ok v ≡ Err x → ⊥
no_error same = cc

up_to : (n : ℕ) → n ≤ n
up_to n = omega arith

module _ (s : Super) (R : Region) (T : Layout) (layout : IsLayout s) (blocks : HasBlocks R s.blocks) (are : T ≡ layout_of s R) where
  laid : IsLaid (layout_of s R)
  laid = region_laid s R layout

  sup_is : T.sup ≡ s
  sup_is = ap (λ (l : Layout). l.sup) are

  done_so : (new : Region) → new ≡ undone_by T R → new ≡ undone s R
  done_so new done = done ∙ ap (λ (l : Layout). undone_by l R) are

  by_own : (new : Region) → undone_by T new ≡ undone_by T R → undone_by (layout_of s R) new ≡ undone_by (layout_of s R) R
  by_own new reads = subst (λ (l : Layout). undone_by l new ≡ undone_by l R) are reads

  reads_so : (new : Region) → undone_by T new ≡ undone_by T R → undone s new ≡ undone s R
  reads_so new reads = same_undone s R new layout (by_own new reads)

  layout_so : (new : Region) → undone_by T new ≡ undone_by T R → layout_of s new ≡ layout_of s R
  layout_so new reads = same_layout s R new layout (by_own new reads)

  quiet_so : AllQuiet s.cpus R → AllQuiet T.sup.cpus R
  quiet_so quiet = subst (λ (n : ℕ). AllQuiet n R) (sym (ap (λ (x : Super). x.cpus) sup_is)) quiet

  words_so : (new : Region) → new ≡ undone_by T R → IsUndone (is_permitted_by (layout_of s R)) s.cpus R new
  words_so new done = subst (λ (Q : Region). IsUndone (is_permitted_by (layout_of s R)) s.cpus R Q) (sym (done_so new done)) (is_undone (is_permitted_by (layout_of s R)) s.cpus (low_rule (layout_of s R) laid) R (inside_of (layout_of s R) R laid blocks))

  empty_so : (new : Region) → new ≡ undone_by T R → AllQuiet s.cpus new
  empty_so new done cpu below = subst (λ (Q : Region). IsQuiet Q cpu) (sym (done_so new done)) (undone_quiet (is_permitted_by (layout_of s R)) s.cpus (low_rule (layout_of s R) laid) R s.cpus cpu below (up_to s.cpus) (inside_of (layout_of s R) R laid blocks))

  later_so : (new : Region) → new ≡ undone_by T R → (f : Fault) → HasFault s new f ↔ HasFault s R f × IsPointerFault f
  later_so new done f = subst (λ (Q : Region). HasFault s Q f ↔ HasFault s R f × IsPointerFault f) (sym (done_so new done)) (faults_again s R f layout)

  wrote_so : (new : Region) (may may_new : Choices) → StoresOnly (UndoStoresBy T R) R new may may_new → StoresOnly (UndoStores s R) R new may may_new
  wrote_so new may may_new wrote = subst (λ (l : Layout). StoresOnly (UndoStoresBy l R) R new may may_new) are wrote

pub returns-in_err-faults-clause-done : goal.returns-in_err-faults-clause-done
returns-in_err-faults-clause-done g c = IfOk-from_err c.from_residual.result _ c.from_residual.ensures.0

pub returns-in_err-faults-clause-stores : goal.returns-in_err-faults-clause-stores
returns-in_err-faults-clause-stores g c = record {
  wrote = stores_none _ _ _;
  quiet_journals = quiet_stores c.args.sup.now _ _ _ _ c.requires.layout (stores_none _ _ _);
  outside = outside_same _ _ _;
  blocks = c.requires.blocks;
  chains = refl;
}

pub returns-in_err-faults-clause-ends : goal.returns-in_err-faults-clause-ends
returns-in_err-faults-clause-ends g c = record {
  quiet = λ quiet. refl;
  quiet_done = λ quiet is. other_error c.from_residual.result Memory Stopped not_stopped c.from_residual.ensures.1 is;
  open_done = λ opened is. other_error c.from_residual.result Memory Stopped not_stopped c.from_residual.ensures.1 is;
  stopped = λ is. absurd (other_error c.from_residual.result Memory Stopped not_stopped c.from_residual.ensures.1 is);
  keeps_fuse = record { burnt = λ on. on; steady = λ on. on; stays_open = λ limit past on. on };
  settled = λ settled. IfOk-from_err c.from_residual.result _ c.from_residual.ensures.0;
}

pub returns-in_err-faults-clause-moments : goal.returns-in_err-faults-clause-moments
returns-in_err-faults-clause-moments g c = record {
  reads = refl;
  any_stop = λ settled. fenced_leaves _ _ _ settled refl;
}

pub returns-clause-done : goal.returns-clause-done
returns-clause-done g c = record {
  is = done_so c.args.sup.now (g.P.Pmem.region c.args.memory.now) c.args.tables.now.layout c.requires.layout c.requires.blocks c.requires.tables (g.P.Pmem.region c.roll_back_all.new.memory) c.in_ok-roll_back_all.ensures.done;
  words = words_so c.args.sup.now (g.P.Pmem.region c.args.memory.now) c.args.tables.now.layout c.requires.layout c.requires.blocks c.requires.tables (g.P.Pmem.region c.roll_back_all.new.memory) c.in_ok-roll_back_all.ensures.done;
  again = reads_so c.args.sup.now (g.P.Pmem.region c.args.memory.now) c.args.tables.now.layout c.requires.layout c.requires.blocks c.requires.tables (g.P.Pmem.region c.roll_back_all.new.memory) c.roll_back_all.ensures.moments.reads ∙ sym (done_so c.args.sup.now (g.P.Pmem.region c.args.memory.now) c.args.tables.now.layout c.requires.layout c.requires.blocks c.requires.tables (g.P.Pmem.region c.roll_back_all.new.memory) c.in_ok-roll_back_all.ensures.done);
  empty = empty_so c.args.sup.now (g.P.Pmem.region c.args.memory.now) c.args.tables.now.layout c.requires.layout c.requires.blocks c.requires.tables (g.P.Pmem.region c.roll_back_all.new.memory) c.in_ok-roll_back_all.ensures.done;
  later_faults = later_so c.args.sup.now (g.P.Pmem.region c.args.memory.now) c.args.tables.now.layout c.requires.layout c.requires.blocks c.requires.tables (g.P.Pmem.region c.roll_back_all.new.memory) c.in_ok-roll_back_all.ensures.done;
}

pub returns-clause-stores : goal.returns-clause-stores
returns-clause-stores g c = record {
  wrote = wrote_so c.args.sup.now (g.P.Pmem.region c.args.memory.now) c.args.tables.now.layout c.requires.layout c.requires.blocks c.requires.tables (g.P.Pmem.region c.roll_back_all.new.memory) _ _ c.roll_back_all.ensures.kept.wrote;
  quiet_journals = quiet_stores c.args.sup.now _ _ _ _ c.requires.layout (wrote_so c.args.sup.now (g.P.Pmem.region c.args.memory.now) c.args.tables.now.layout c.requires.layout c.requires.blocks c.requires.tables (g.P.Pmem.region c.roll_back_all.new.memory) _ _ c.roll_back_all.ensures.kept.wrote);
  outside = subst (λ (x : Super). SameOutside (g.P.Pmem.region c.args.memory.now) 4096 (4096 * (slots_end x - 1)) (g.P.Pmem.region c.roll_back_all.new.memory)) (ap (λ (l : Layout). l.sup) c.requires.tables) c.roll_back_all.ensures.kept.outside;
  blocks = subst (λ (x : Super). HasBlocks (g.P.Pmem.region c.roll_back_all.new.memory) x.blocks) (ap (λ (l : Layout). l.sup) c.requires.tables) c.roll_back_all.ensures.kept.blocks;
  chains = layout_so c.args.sup.now (g.P.Pmem.region c.args.memory.now) c.args.tables.now.layout c.requires.layout c.requires.blocks c.requires.tables (g.P.Pmem.region c.roll_back_all.new.memory) c.roll_back_all.ensures.moments.reads;
}

pub returns-clause-ends : goal.returns-clause-ends
returns-clause-ends g c = record {
  quiet = λ quiet. c.roll_back_all.ensures.quiet (quiet_so c.args.sup.now (g.P.Pmem.region c.args.memory.now) c.args.tables.now.layout c.requires.layout c.requires.blocks c.requires.tables quiet);
  quiet_done = λ quiet is. no_error is;
  open_done = λ opened is. no_error is;
  stopped = λ is. absurd (no_error is);
  keeps_fuse = subst (λ (x : Super). KeepsFuse (λ limit. 4096 * slots_end x ≤ limit) (g.P.Pmem.fuse c.args.memory.now) (g.P.Pmem.fuse c.roll_back_all.new.memory)) (ap (λ (l : Layout). l.sup) c.requires.tables) c.roll_back_all.ensures.kept.keeps_fuse;
  settled = λ settled. c.in_ok-roll_back_all.ensures.kept.settled settled;
}

pub returns-clause-moments : goal.returns-clause-moments
returns-clause-moments g c = record {
  reads = reads_so c.args.sup.now (g.P.Pmem.region c.args.memory.now) c.args.tables.now.layout c.requires.layout c.requires.blocks c.requires.tables (g.P.Pmem.region c.roll_back_all.new.memory) c.roll_back_all.ensures.moments.reads;
  any_stop = λ settled left may. reads_so c.args.sup.now (g.P.Pmem.region c.args.memory.now) c.args.tables.now.layout c.requires.layout c.requires.blocks c.requires.tables left (c.roll_back_all.ensures.moments.any_stop settled left may);
}

pub returns-in_err-roll_back_all-clause-done : goal.returns-in_err-roll_back_all-clause-done
returns-in_err-roll_back_all-clause-done g c = IfOk-from_err c.from_residual-in_err-roll_back_all.result _ c.from_residual-in_err-roll_back_all.ensures.0

pub returns-in_err-roll_back_all-clause-stores : goal.returns-in_err-roll_back_all-clause-stores
returns-in_err-roll_back_all-clause-stores g c = record {
  wrote = wrote_so c.args.sup.now (g.P.Pmem.region c.args.memory.now) c.args.tables.now.layout c.requires.layout c.requires.blocks c.requires.tables (g.P.Pmem.region c.roll_back_all.new.memory) _ _ c.roll_back_all.ensures.kept.wrote;
  quiet_journals = quiet_stores c.args.sup.now _ _ _ _ c.requires.layout (wrote_so c.args.sup.now (g.P.Pmem.region c.args.memory.now) c.args.tables.now.layout c.requires.layout c.requires.blocks c.requires.tables (g.P.Pmem.region c.roll_back_all.new.memory) _ _ c.roll_back_all.ensures.kept.wrote);
  outside = subst (λ (x : Super). SameOutside (g.P.Pmem.region c.args.memory.now) 4096 (4096 * (slots_end x - 1)) (g.P.Pmem.region c.roll_back_all.new.memory)) (ap (λ (l : Layout). l.sup) c.requires.tables) c.roll_back_all.ensures.kept.outside;
  blocks = subst (λ (x : Super). HasBlocks (g.P.Pmem.region c.roll_back_all.new.memory) x.blocks) (ap (λ (l : Layout). l.sup) c.requires.tables) c.roll_back_all.ensures.kept.blocks;
  chains = layout_so c.args.sup.now (g.P.Pmem.region c.args.memory.now) c.args.tables.now.layout c.requires.layout c.requires.blocks c.requires.tables (g.P.Pmem.region c.roll_back_all.new.memory) c.roll_back_all.ensures.moments.reads;
}

pub returns-in_err-roll_back_all-clause-ends : goal.returns-in_err-roll_back_all-clause-ends
returns-in_err-roll_back_all-clause-ends g c = record {
  quiet = λ quiet. c.roll_back_all.ensures.quiet (quiet_so c.args.sup.now (g.P.Pmem.region c.args.memory.now) c.args.tables.now.layout c.requires.layout c.requires.blocks c.requires.tables quiet);
  quiet_done = λ quiet is. true≢false (sym (c.roll_back_all.ensures.quiet_done (quiet_so c.args.sup.now (g.P.Pmem.region c.args.memory.now) c.args.tables.now.layout c.requires.layout c.requires.blocks c.requires.tables quiet)) ∙ ap is_ok c.in_err-roll_back_all.was);
  open_done = λ opened is. let on = (subst (λ (x : Super). KeepsFuse (λ limit. 4096 * slots_end x ≤ limit) (g.P.Pmem.fuse c.args.memory.now) (g.P.Pmem.fuse c.roll_back_all.new.memory)) (ap (λ (l : Layout). l.sup) c.requires.tables) c.roll_back_all.ensures.kept.keeps_fuse).stays_open (4096 * slots_end c.args.sup.now) (up_to _) opened in true≢false (sym c.in_err-roll_back_all.ensures.kept.stopped ∙ g.met.P.Pmem.open_unburnt c.roll_back_all.new.memory (4096 * slots_end c.args.sup.now) on);
  stopped = λ is. c.in_err-roll_back_all.ensures.kept.stopped;
  keeps_fuse = subst (λ (x : Super). KeepsFuse (λ limit. 4096 * slots_end x ≤ limit) (g.P.Pmem.fuse c.args.memory.now) (g.P.Pmem.fuse c.roll_back_all.new.memory)) (ap (λ (l : Layout). l.sup) c.requires.tables) c.roll_back_all.ensures.kept.keeps_fuse;
  settled = λ settled. IfOk-from_err c.from_residual-in_err-roll_back_all.result _ c.from_residual-in_err-roll_back_all.ensures.0;
}

pub returns-in_err-roll_back_all-clause-moments : goal.returns-in_err-roll_back_all-clause-moments
returns-in_err-roll_back_all-clause-moments g c = record {
  reads = reads_so c.args.sup.now (g.P.Pmem.region c.args.memory.now) c.args.tables.now.layout c.requires.layout c.requires.blocks c.requires.tables (g.P.Pmem.region c.roll_back_all.new.memory) c.roll_back_all.ensures.moments.reads;
  any_stop = λ settled left may. reads_so c.args.sup.now (g.P.Pmem.region c.args.memory.now) c.args.tables.now.layout c.requires.layout c.requires.blocks c.requires.tables left (c.roll_back_all.ensures.moments.any_stop settled left may);
}

pub returns-in_err-faults-clause-faults : goal.returns-in_err-faults-clause-faults
returns-in_err-faults-clause-faults g c = IfOk-from_err c.from_residual.result _ c.from_residual.ensures.0

pub returns-in_err-faults-clause-memory : goal.returns-in_err-faults-clause-memory
returns-in_err-faults-clause-memory g c is = refl

pub returns-in_err-roll_back_all-clause-faults : goal.returns-in_err-roll_back_all-clause-faults
returns-in_err-roll_back_all-clause-faults g c = IfOk-from_err c.from_residual-in_err-roll_back_all.result _ c.from_residual-in_err-roll_back_all.ensures.0

pub returns-in_err-roll_back_all-clause-memory : goal.returns-in_err-roll_back_all-clause-memory
returns-in_err-roll_back_all-clause-memory g c is = absurd (other_error c.from_residual-in_err-roll_back_all.result Stopped Memory not_memory c.from_residual-in_err-roll_back_all.ensures.1 is)

pub returns-clause-faults : goal.returns-clause-faults
returns-clause-faults g c = subst (λ (l : Layout). Lists fault_key (IsJournalFault (is_permitted_by l) l.sup.cpus (g.P.Pmem.region c.args.memory.now)) c.in_ok-faults.faults.items) c.requires.tables c.in_ok-faults.ensures

pub returns-clause-memory : goal.returns-clause-memory
returns-clause-memory g c is = absurd (no_error is)

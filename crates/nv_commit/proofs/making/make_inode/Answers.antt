use Rattle.std.proofs.Common.{rules, ℕ, ◌+◌, inr, subst, ◌≡◌, ◌∙◌, sym, inl, arith}
use Rattle.nv_region.specs.Region.{size}
use Rattle.nv_region.proofs.Fuses.{keeps_more, keeps_within}
use Rattle.nv_region.proofs.Wordwise.{stores_more, stores_within}
use Rattle.nv_inode.specs.Permitted.{is_permitted_by}
use Rattle.nv_journal.specs.Recorded.{Changes}
use Rattle.nv_commit.specs.Makes.{MakeWords, PrepareWords}
use Rattle.nv_mounted.proofs.BytesKept.{mixed_size}
use Rattle.nv_commit.proofs.BothTails.{sound_undone}
use Rattle.nv_commit.proofs.Makes.{can_undo, differ, faultless, journal_waits, left_undone, made_idle, made_undone, sound_before}
use Rattle.nv_journal.proofs.InOrder.{first_since}
use Rattle.nv_commit.proofs.Extends.{slots}
use Rattle.nv_commit.proofs.TwoWords.{stop_mixed}
use Rattle.nv_commit.proofs.InOrder.{slots_differ, tail_same}
use Rattle.nv_commit.proofs.making.make_inode.Goals as goal

pub prepare-requires : goal.prepare-requires
prepare-requires g c = record { inode = c.requires.inode.append; whole = c.requires.inode.whole; inside = c.requires.inode.inside; directory = c.requires.directory.append }

pub change_two-requires : goal.change_two-requires
change_two-requires g c =
    let inode = c.requires.inode in
    let directory = c.requires.directory in
    let same : size (g.P.Pmem.region c.prepare.new.memory) ≡ size (g.P.Pmem.region c.args.memory.now) = mixed_size c.prepare.ensures.wrote.mixed in
    record {
      ready = record { inside = omega (arith, directory.slot_behind, directory.inside, same); empty = journal_waits inode directory c.prepare.ensures.wrote.mixed c.requires.empty };
      first = (inode.whole, omega (arith, inode.inside, same));
      second = (omega (arith, directory.whole), omega (arith, directory.inside, same));
      behind = (inode.slot_behind, omega (arith, directory.slot_behind));
    }

pub returns-in_err-ends-clause-moments : goal.returns-in_err-ends-clause-moments
returns-in_err-ends-clause-moments g c l held j i h can = record {
  reads = inl (sound_undone (sound_before can _ c.prepare.ensures.wrote.mixed));
  any_stop = λ settled. left_undone can _ _ _ c.prepare.ensures.wrote settled;
}

pub returns-in_err-ends-clause-kept : goal.returns-in_err-ends-clause-kept
returns-in_err-ends-clause-kept g c = record {
  wrote = stores_within (MakeWords c.args.cpu c.args.inode.now c.args.directory.now) (PrepareWords c.args.inode.now c.args.directory.now) _ _ _ _ (λ k v w. inl w) c.prepare.ensures.wrote;
  stopped = search rules;
  keeps_fuse = keeps_within (λ limit past. (past.0, past.1, past.2)) c.prepare.ensures.keeps_fuse;
  settled = search rules;
}

pub returns-in_err-change_two-clause-moments : goal.returns-in_err-change_two-clause-moments
returns-in_err-change_two-clause-moments g c l held j i h can = record {
  reads = made_undone can c.in_ok-ends.ensures.prepared c.requires.inode.inside c.requires.directory.inside c.len-length.ensures.short _ ((c.change_two.ensures.undo_gives (is_permitted_by l) l.sup.cpus (can_undo can c.in_ok-ends.ensures.prepared c.len-length.ensures.short)).reads)
      (((c.change_two.ensures.undo_gives (is_permitted_by l) l.sup.cpus (can_undo can c.in_ok-ends.ensures.prepared c.len-length.ensures.short)).faultless (faultless can c.in_ok-ends.ensures.prepared)).reads) c.change_two.ensures.kept.keeps_link.mixed;
  any_stop = λ settled left may. made_undone can c.in_ok-ends.ensures.prepared c.requires.inode.inside c.requires.directory.inside c.len-length.ensures.short left ((c.change_two.ensures.undo_gives (is_permitted_by l) l.sup.cpus (can_undo can c.in_ok-ends.ensures.prepared c.len-length.ensures.short)).any_stop c.in_ok-ends.ensures.settled left may)
      (((c.change_two.ensures.undo_gives (is_permitted_by l) l.sup.cpus (can_undo can c.in_ok-ends.ensures.prepared c.len-length.ensures.short)).faultless (faultless can c.in_ok-ends.ensures.prepared)).any_stop c.in_ok-ends.ensures.settled left may) (stop_mixed c.change_two.ensures.kept.keeps_link c.in_ok-ends.ensures.settled left may);
}

pub returns-in_err-change_two-clause-kept : goal.returns-in_err-change_two-clause-kept
returns-in_err-change_two-clause-kept g c = record {
  wrote = stores_more (MakeWords c.args.cpu c.args.inode.now c.args.directory.now) (Changes c.args.cpu c.args.inode.now.slot 1 (c.args.directory.now.slot + 24) c.in_ok-ends.ends.1) _ _ _ _ _ _
      (λ k v w. inr (subst (λ (m : ℕ). Changes c.args.cpu c.args.inode.now.slot 1 (c.args.directory.now.slot + 24) m k v) c.in_ok-ends.ensures.prepared.last_end w))
      (stores_within (MakeWords c.args.cpu c.args.inode.now c.args.directory.now) (PrepareWords c.args.inode.now c.args.directory.now) _ _ _ _ (λ k v w. inl w) c.prepare.ensures.wrote) c.change_two.ensures.kept.wrote;
  stopped = search rules;
  keeps_fuse = let behind = c.requires.directory.slot_behind in
      keeps_more (λ limit past. (let first = past.2 in let second = past.3 in (omega (arith, behind, second), omega (arith, first), omega (arith, second)))) (keeps_within (λ limit past. (past.0, past.1, past.2)) c.prepare.ensures.keeps_fuse) c.change_two.ensures.kept.keeps_fuse;
  settled = search rules;
}

pub returns-clause-moments : goal.returns-clause-moments
returns-clause-moments g c l held j i h can = record {
  reads = made_undone can c.in_ok-ends.ensures.prepared c.requires.inode.inside c.requires.directory.inside c.len-length.ensures.short _ ((c.change_two.ensures.undo_gives (is_permitted_by l) l.sup.cpus (can_undo can c.in_ok-ends.ensures.prepared c.len-length.ensures.short)).reads)
      (((c.change_two.ensures.undo_gives (is_permitted_by l) l.sup.cpus (can_undo can c.in_ok-ends.ensures.prepared c.len-length.ensures.short)).faultless (faultless can c.in_ok-ends.ensures.prepared)).reads) c.change_two.ensures.kept.keeps_link.mixed;
  any_stop = λ settled left may. made_undone can c.in_ok-ends.ensures.prepared c.requires.inode.inside c.requires.directory.inside c.len-length.ensures.short left ((c.change_two.ensures.undo_gives (is_permitted_by l) l.sup.cpus (can_undo can c.in_ok-ends.ensures.prepared c.len-length.ensures.short)).any_stop c.in_ok-ends.ensures.settled left may)
      (((c.change_two.ensures.undo_gives (is_permitted_by l) l.sup.cpus (can_undo can c.in_ok-ends.ensures.prepared c.len-length.ensures.short)).faultless (faultless can c.in_ok-ends.ensures.prepared)).any_stop c.in_ok-ends.ensures.settled left may) (stop_mixed c.change_two.ensures.kept.keeps_link c.in_ok-ends.ensures.settled left may);
}

pub returns-clause-kept : goal.returns-clause-kept
returns-clause-kept g c = record {
  wrote = stores_more (MakeWords c.args.cpu c.args.inode.now c.args.directory.now) (Changes c.args.cpu c.args.inode.now.slot 1 (c.args.directory.now.slot + 24) c.in_ok-ends.ends.1) _ _ _ _ _ _
      (λ k v w. inr (subst (λ (m : ℕ). Changes c.args.cpu c.args.inode.now.slot 1 (c.args.directory.now.slot + 24) m k v) c.in_ok-ends.ensures.prepared.last_end w))
      (stores_within (MakeWords c.args.cpu c.args.inode.now c.args.directory.now) (PrepareWords c.args.inode.now c.args.directory.now) _ _ _ _ (λ k v w. inl w) c.prepare.ensures.wrote) c.change_two.ensures.kept.wrote;
  stopped = search rules;
  keeps_fuse = let behind = c.requires.directory.slot_behind in
      keeps_more (λ limit past. (let first = past.2 in let second = past.3 in (omega (arith, behind, second), omega (arith, first), omega (arith, second)))) (keeps_within (λ limit past. (past.0, past.1, past.2)) c.prepare.ensures.keeps_fuse) c.change_two.ensures.kept.keeps_fuse;
  settled = search rules;
}

pub returns-clause-ends : goal.returns-clause-ends
returns-clause-ends g c = (c.in_ok-ends.ensures.prepared.first_end, c.in_ok-ends.ensures.prepared.last_end)

pub returns-clause-shows : goal.returns-clause-shows
returns-clause-shows g c l held j i h can =
    made_idle can c.in_ok-ends.ensures.prepared c.requires.inode.inside c.requires.directory.inside c.len-length.ensures.short _ c.in_ok-change_two.ensures.done c.in_ok-change_two.ensures.kept.empty c.change_two.ensures.kept.keeps_link.mixed

pub returns-in_err-ends-clause-in_order : goal.returns-in_err-ends-clause-in_order
returns-in_err-ends-clause-in_order g c l held j i h can = inl (tail_same can.parent.sound (sound_before can (g.P.Pmem.region c.prepare.new.memory) c.prepare.ensures.wrote.mixed) can.parent.at can.parent.holds)

pub returns-in_err-change_two-clause-in_order : goal.returns-in_err-change_two-clause-in_order
returns-in_err-change_two-clause-in_order g c l held j i h can =
    let clear = slots can.parent in
    let same = tail_same can.parent.sound (sound_before can (g.P.Pmem.region c.prepare.new.memory) c.prepare.ensures.wrote.mixed) can.parent.at can.parent.holds in
    let none : c.args.inode.now.slot + 0 ≡ c.args.inode.now.slot = omega arith in
    let apart = slots_differ clear.stand j i c.args.inode.now.slot c.args.directory.now.slot can.at can.parent.at (λ e. differ can (sym e)) 0 24 (omega arith) (omega arith) in
    first_since (g.P.Pmem.region c.args.memory.now) (g.P.Pmem.region c.prepare.new.memory) (g.P.Pmem.region c.change_two.new.memory) c.args.inode.now.slot 1 (c.args.directory.now.slot + 24) same (c.change_two.ensures.in_order (λ e. apart (none ∙ e)))

pub returns-clause-in_order : goal.returns-clause-in_order
returns-clause-in_order g c l held j i h can =
    let clear = slots can.parent in
    let same = tail_same can.parent.sound (sound_before can (g.P.Pmem.region c.prepare.new.memory) c.prepare.ensures.wrote.mixed) can.parent.at can.parent.holds in
    let none : c.args.inode.now.slot + 0 ≡ c.args.inode.now.slot = omega arith in
    let apart = slots_differ clear.stand j i c.args.inode.now.slot c.args.directory.now.slot can.at can.parent.at (λ e. differ can (sym e)) 0 24 (omega arith) (omega arith) in
    first_since (g.P.Pmem.region c.args.memory.now) (g.P.Pmem.region c.prepare.new.memory) (g.P.Pmem.region c.change_two.new.memory) c.args.inode.now.slot 1 (c.args.directory.now.slot + 24) same (c.change_two.ensures.in_order (λ e. apart (none ∙ e)))

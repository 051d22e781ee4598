use Rattle.std.proofs.Common.{rules, ℕ, ◌+◌, ◌∷◌, [], ◌≡◌, inl, inr, subst, arith}
use Rattle.nv_region.specs.Region.{size}
use Rattle.nv_region.proofs.Fuses.{keeps_more, keeps_within}
use Rattle.nv_region.proofs.Wordwise.{stores_more, stores_within}
use Rattle.nv_inode.specs.Permitted.{is_permitted_by}
use Rattle.nv_journal.specs.InOrder.{ThreeInOrder}
use Rattle.nv_journal.specs.Several.{ChangesAll}
use Rattle.nv_journal.proofs.InOrder.{three_since}
use Rattle.nv_logpage.specs.Append.{end_of}
use Rattle.nv_mounted.proofs.BytesKept.{mixed_size}
use Rattle.nv_commit.specs.Replaces.{new_tail}
use Rattle.nv_commit.specs.ThreeLogs.{ThreeTogether, ThreeWords}
use Rattle.nv_commit.proofs.BothTails.{sound_undone}
use Rattle.nv_commit.proofs.Extends.{slots}
use Rattle.nv_commit.proofs.TwoWords.{stop_mixed}
use Rattle.nv_commit.proofs.InOrder.{slots_differ, tail_same}
use Rattle.nv_commit.proofs.ThreeLogs.{can_undo_three, three_before, three_faultless, three_idle, three_left, three_undone, words_empty}
use Rattle.nv_commit.proofs.three_logs.extend_three.Goals as goal

pub append_three-requires : goal.append_three-requires
append_three-requires g c = record { first = c.requires.first.append; second = c.requires.second.append; third = c.requires.third.append }

pub change_three-requires : goal.change_three-requires
change_three-requires g c =
    let first = c.requires.first in
    let second = c.requires.second in
    let third = c.requires.third in
    let same : size (g.P.Pmem.region c.append_three.new.memory) ≡ size (g.P.Pmem.region c.args.memory.now) = mixed_size c.append_three.ensures.wrote.mixed in
    record {
      ready = record { inside = omega (arith, first.slot_behind, first.inside, same); empty = words_empty first second third c.append_three.ensures.wrote.mixed c.requires.empty };
      first = (omega (arith, first.whole), omega (arith, first.inside, same));
      second = (omega (arith, second.whole), omega (arith, second.inside, same));
      third = (omega (arith, third.whole), omega (arith, third.inside, same));
      behind = (omega (arith, first.slot_behind), omega (arith, second.slot_behind), omega (arith, third.slot_behind));
    }

pub returns-in_err-ends-clause-moments : goal.returns-in_err-ends-clause-moments
returns-in_err-ends-clause-moments g c l held i j k h p f can = record {
  reads = inl (sound_undone (three_before can _ c.append_three.ensures.wrote.mixed));
  any_stop = λ settled. three_left can _ _ _ c.append_three.ensures.wrote settled;
}

pub returns-in_err-ends-clause-kept : goal.returns-in_err-ends-clause-kept
returns-in_err-ends-clause-kept g c = record {
  wrote = stores_within (ThreeTogether c.args.cpu c.args.first.now c.args.second.now c.args.third.now) (ThreeWords c.args.first.now c.args.second.now c.args.third.now) _ _ _ _ (λ k v w. inl w) c.append_three.ensures.wrote;
  stopped = search rules;
  keeps_fuse = keeps_within (λ limit past. (past.0, past.1, past.2)) c.append_three.ensures.keeps_fuse;
  settled = search rules;
}

pub returns-clause-moments : goal.returns-clause-moments
returns-clause-moments g c l held i j k h p f can = record {
  reads = three_undone can c.in_ok-ends.ensures.appended c.requires.first.inside c.requires.second.inside c.requires.third.inside c.len-length.ensures.short _ ((c.change_three.ensures.undo_gives (is_permitted_by l) l.sup.cpus (can_undo_three can c.in_ok-ends.ensures.appended c.requires.first.inside c.requires.second.inside c.requires.third.inside c.len-length.ensures.short)).reads)
      (((c.change_three.ensures.undo_gives (is_permitted_by l) l.sup.cpus (can_undo_three can c.in_ok-ends.ensures.appended c.requires.first.inside c.requires.second.inside c.requires.third.inside c.len-length.ensures.short)).faultless (three_faultless can c.in_ok-ends.ensures.appended)).reads) c.change_three.ensures.kept.keeps_link.mixed;
  any_stop = λ settled left may. three_undone can c.in_ok-ends.ensures.appended c.requires.first.inside c.requires.second.inside c.requires.third.inside c.len-length.ensures.short left ((c.change_three.ensures.undo_gives (is_permitted_by l) l.sup.cpus (can_undo_three can c.in_ok-ends.ensures.appended c.requires.first.inside c.requires.second.inside c.requires.third.inside c.len-length.ensures.short)).any_stop c.in_ok-ends.ensures.settled left may)
      (((c.change_three.ensures.undo_gives (is_permitted_by l) l.sup.cpus (can_undo_three can c.in_ok-ends.ensures.appended c.requires.first.inside c.requires.second.inside c.requires.third.inside c.len-length.ensures.short)).faultless (three_faultless can c.in_ok-ends.ensures.appended)).any_stop c.in_ok-ends.ensures.settled left may) (stop_mixed c.change_three.ensures.kept.keeps_link c.in_ok-ends.ensures.settled left may);
}

pub returns-clause-kept : goal.returns-clause-kept
returns-clause-kept g c = record {
  wrote = stores_more (ThreeTogether c.args.cpu c.args.first.now c.args.second.now c.args.third.now) (ChangesAll c.args.cpu ((c.args.first.now.slot + 24, c.in_ok-ends.ends.0) ∷ (c.args.second.now.slot + 24, c.in_ok-ends.ends.1) ∷ (c.args.third.now.slot + 24, c.in_ok-ends.ends.2) ∷ [])) _ _ _ _ _ _
      (λ k v w. inr (subst (λ (n : ℕ). ChangesAll c.args.cpu ((c.args.first.now.slot + 24, n) ∷ (c.args.second.now.slot + 24, (end_of c.args.second.now.fresh.now 0 c.args.second.now.tail c.args.second.now.entries.now)) ∷ (c.args.third.now.slot + 24, (end_of c.args.third.now.fresh.now 0 c.args.third.now.tail c.args.third.now.entries.now)) ∷ []) k v) c.in_ok-ends.ensures.appended.both.first_end (subst (λ (n : ℕ). ChangesAll c.args.cpu ((c.args.first.now.slot + 24, c.in_ok-ends.ends.0) ∷ (c.args.second.now.slot + 24, n) ∷ (c.args.third.now.slot + 24, (end_of c.args.third.now.fresh.now 0 c.args.third.now.tail c.args.third.now.entries.now)) ∷ []) k v) c.in_ok-ends.ensures.appended.both.second_end (subst (λ (n : ℕ). ChangesAll c.args.cpu ((c.args.first.now.slot + 24, c.in_ok-ends.ends.0) ∷ (c.args.second.now.slot + 24, c.in_ok-ends.ends.1) ∷ (c.args.third.now.slot + 24, n) ∷ []) k v) c.in_ok-ends.ensures.appended.third_end w))))
      (stores_within (ThreeTogether c.args.cpu c.args.first.now c.args.second.now c.args.third.now) (ThreeWords c.args.first.now c.args.second.now c.args.third.now) _ _ _ _ (λ k v w. inl w) c.append_three.ensures.wrote) c.change_three.ensures.kept.wrote;
  stopped = search rules;
  keeps_fuse = let behind = c.requires.first.slot_behind in
      keeps_more (λ limit past. (let first = past.3 in let second = past.4 in let third = past.5 in (omega (arith, behind, first), omega (arith, first), omega (arith, second), omega (arith, third)))) (keeps_within (λ limit past. (past.0, past.1, past.2)) c.append_three.ensures.keeps_fuse) c.change_three.ensures.kept.keeps_fuse;
  settled = search rules;
}

pub returns-in_err-change_three-clause-moments : goal.returns-in_err-change_three-clause-moments
returns-in_err-change_three-clause-moments g c l held i j k h p f can = record {
  reads = three_undone can c.in_ok-ends.ensures.appended c.requires.first.inside c.requires.second.inside c.requires.third.inside c.len-length.ensures.short _ ((c.change_three.ensures.undo_gives (is_permitted_by l) l.sup.cpus (can_undo_three can c.in_ok-ends.ensures.appended c.requires.first.inside c.requires.second.inside c.requires.third.inside c.len-length.ensures.short)).reads)
      (((c.change_three.ensures.undo_gives (is_permitted_by l) l.sup.cpus (can_undo_three can c.in_ok-ends.ensures.appended c.requires.first.inside c.requires.second.inside c.requires.third.inside c.len-length.ensures.short)).faultless (three_faultless can c.in_ok-ends.ensures.appended)).reads) c.change_three.ensures.kept.keeps_link.mixed;
  any_stop = λ settled left may. three_undone can c.in_ok-ends.ensures.appended c.requires.first.inside c.requires.second.inside c.requires.third.inside c.len-length.ensures.short left ((c.change_three.ensures.undo_gives (is_permitted_by l) l.sup.cpus (can_undo_three can c.in_ok-ends.ensures.appended c.requires.first.inside c.requires.second.inside c.requires.third.inside c.len-length.ensures.short)).any_stop c.in_ok-ends.ensures.settled left may)
      (((c.change_three.ensures.undo_gives (is_permitted_by l) l.sup.cpus (can_undo_three can c.in_ok-ends.ensures.appended c.requires.first.inside c.requires.second.inside c.requires.third.inside c.len-length.ensures.short)).faultless (three_faultless can c.in_ok-ends.ensures.appended)).any_stop c.in_ok-ends.ensures.settled left may) (stop_mixed c.change_three.ensures.kept.keeps_link c.in_ok-ends.ensures.settled left may);
}

pub returns-in_err-change_three-clause-kept : goal.returns-in_err-change_three-clause-kept
returns-in_err-change_three-clause-kept g c = record {
  wrote = stores_more (ThreeTogether c.args.cpu c.args.first.now c.args.second.now c.args.third.now) (ChangesAll c.args.cpu ((c.args.first.now.slot + 24, c.in_ok-ends.ends.0) ∷ (c.args.second.now.slot + 24, c.in_ok-ends.ends.1) ∷ (c.args.third.now.slot + 24, c.in_ok-ends.ends.2) ∷ [])) _ _ _ _ _ _
      (λ k v w. inr (subst (λ (n : ℕ). ChangesAll c.args.cpu ((c.args.first.now.slot + 24, n) ∷ (c.args.second.now.slot + 24, (end_of c.args.second.now.fresh.now 0 c.args.second.now.tail c.args.second.now.entries.now)) ∷ (c.args.third.now.slot + 24, (end_of c.args.third.now.fresh.now 0 c.args.third.now.tail c.args.third.now.entries.now)) ∷ []) k v) c.in_ok-ends.ensures.appended.both.first_end (subst (λ (n : ℕ). ChangesAll c.args.cpu ((c.args.first.now.slot + 24, c.in_ok-ends.ends.0) ∷ (c.args.second.now.slot + 24, n) ∷ (c.args.third.now.slot + 24, (end_of c.args.third.now.fresh.now 0 c.args.third.now.tail c.args.third.now.entries.now)) ∷ []) k v) c.in_ok-ends.ensures.appended.both.second_end (subst (λ (n : ℕ). ChangesAll c.args.cpu ((c.args.first.now.slot + 24, c.in_ok-ends.ends.0) ∷ (c.args.second.now.slot + 24, c.in_ok-ends.ends.1) ∷ (c.args.third.now.slot + 24, n) ∷ []) k v) c.in_ok-ends.ensures.appended.third_end w))))
      (stores_within (ThreeTogether c.args.cpu c.args.first.now c.args.second.now c.args.third.now) (ThreeWords c.args.first.now c.args.second.now c.args.third.now) _ _ _ _ (λ k v w. inl w) c.append_three.ensures.wrote) c.change_three.ensures.kept.wrote;
  stopped = search rules;
  keeps_fuse = let behind = c.requires.first.slot_behind in
      keeps_more (λ limit past. (let first = past.3 in let second = past.4 in let third = past.5 in (omega (arith, behind, first), omega (arith, first), omega (arith, second), omega (arith, third)))) (keeps_within (λ limit past. (past.0, past.1, past.2)) c.append_three.ensures.keeps_fuse) c.change_three.ensures.kept.keeps_fuse;
  settled = search rules;
}

pub returns-in_err-ends-clause-in_order : goal.returns-in_err-ends-clause-in_order
returns-in_err-ends-clause-in_order g c l held i j k h p f can = (inl (tail_same can.two.second.sound (three_before can (g.P.Pmem.region c.append_three.new.memory) c.append_three.ensures.wrote.mixed) can.two.second.at can.two.second.holds), inl (tail_same can.third.sound (three_before can (g.P.Pmem.region c.append_three.new.memory) c.append_three.ensures.wrote.mixed) can.third.at can.third.holds))

pub returns-clause-ends : goal.returns-clause-ends
returns-clause-ends g c = (c.in_ok-ends.ensures.appended.both.first_end, c.in_ok-ends.ensures.appended.both.second_end, c.in_ok-ends.ensures.appended.third_end)

pub returns-clause-shows : goal.returns-clause-shows
returns-clause-shows g c l held i j k h p f can = three_idle can c.in_ok-ends.ensures.appended c.requires.first.inside c.requires.second.inside c.requires.third.inside c.len-length.ensures.short _ c.in_ok-change_three.ensures.done c.in_ok-change_three.ensures.kept.empty c.change_three.ensures.kept.keeps_link.mixed

pub returns-in_err-change_three-clause-in_order : goal.returns-in_err-change_three-clause-in_order
returns-in_err-change_three-clause-in_order g c l held i j k h p f can =
    let clear = slots can.third in
    let two = slots_differ clear.stand i j c.args.first.now.slot c.args.second.now.slot can.two.first.at can.two.second.at can.two.differ 24 24 (omega arith) (omega arith) in
    let one = slots_differ clear.stand i k c.args.first.now.slot c.args.third.now.slot can.two.first.at can.third.at can.first_differs 24 24 (omega arith) (omega arith) in
    let other = slots_differ clear.stand j k c.args.second.now.slot c.args.third.now.slot can.two.second.at can.third.at can.second_differs 24 24 (omega arith) (omega arith) in
    let ordered = three_since (g.P.Pmem.region c.args.memory.now) (g.P.Pmem.region c.append_three.new.memory) (g.P.Pmem.region c.change_three.new.memory) (c.args.first.now.slot + 24, c.in_ok-ends.ends.0) (c.args.second.now.slot + 24, c.in_ok-ends.ends.1) (c.args.third.now.slot + 24, c.in_ok-ends.ends.2) (tail_same can.two.second.sound (three_before can (g.P.Pmem.region c.append_three.new.memory) c.append_three.ensures.wrote.mixed) can.two.second.at can.two.second.holds) (tail_same can.third.sound (three_before can (g.P.Pmem.region c.append_three.new.memory) c.append_three.ensures.wrote.mixed) can.third.at can.third.holds) (c.change_three.ensures.in_order two one other) in
    subst (λ (n : ℕ). ThreeInOrder (g.P.Pmem.region c.args.memory.now) (c.args.first.now.slot + 24, n) (new_tail c.args.second.now) (new_tail c.args.third.now) (g.P.Pmem.region c.change_three.new.memory)) c.in_ok-ends.ensures.appended.both.first_end
    (subst (λ (n : ℕ). ThreeInOrder (g.P.Pmem.region c.args.memory.now) (c.args.first.now.slot + 24, c.in_ok-ends.ends.0) (c.args.second.now.slot + 24, n) (new_tail c.args.third.now) (g.P.Pmem.region c.change_three.new.memory)) c.in_ok-ends.ensures.appended.both.second_end
    (subst (λ (n : ℕ). ThreeInOrder (g.P.Pmem.region c.args.memory.now) (c.args.first.now.slot + 24, c.in_ok-ends.ends.0) (c.args.second.now.slot + 24, c.in_ok-ends.ends.1) (c.args.third.now.slot + 24, n) (g.P.Pmem.region c.change_three.new.memory)) c.in_ok-ends.ensures.appended.third_end ordered))

pub returns-clause-in_order : goal.returns-clause-in_order
returns-clause-in_order g c l held i j k h p f can =
    let clear = slots can.third in
    let two = slots_differ clear.stand i j c.args.first.now.slot c.args.second.now.slot can.two.first.at can.two.second.at can.two.differ 24 24 (omega arith) (omega arith) in
    let one = slots_differ clear.stand i k c.args.first.now.slot c.args.third.now.slot can.two.first.at can.third.at can.first_differs 24 24 (omega arith) (omega arith) in
    let other = slots_differ clear.stand j k c.args.second.now.slot c.args.third.now.slot can.two.second.at can.third.at can.second_differs 24 24 (omega arith) (omega arith) in
    let ordered = three_since (g.P.Pmem.region c.args.memory.now) (g.P.Pmem.region c.append_three.new.memory) (g.P.Pmem.region c.change_three.new.memory) (c.args.first.now.slot + 24, c.in_ok-ends.ends.0) (c.args.second.now.slot + 24, c.in_ok-ends.ends.1) (c.args.third.now.slot + 24, c.in_ok-ends.ends.2) (tail_same can.two.second.sound (three_before can (g.P.Pmem.region c.append_three.new.memory) c.append_three.ensures.wrote.mixed) can.two.second.at can.two.second.holds) (tail_same can.third.sound (three_before can (g.P.Pmem.region c.append_three.new.memory) c.append_three.ensures.wrote.mixed) can.third.at can.third.holds) (c.change_three.ensures.in_order two one other) in
    subst (λ (n : ℕ). ThreeInOrder (g.P.Pmem.region c.args.memory.now) (c.args.first.now.slot + 24, n) (new_tail c.args.second.now) (new_tail c.args.third.now) (g.P.Pmem.region c.change_three.new.memory)) c.in_ok-ends.ensures.appended.both.first_end
    (subst (λ (n : ℕ). ThreeInOrder (g.P.Pmem.region c.args.memory.now) (c.args.first.now.slot + 24, c.in_ok-ends.ends.0) (c.args.second.now.slot + 24, n) (new_tail c.args.third.now) (g.P.Pmem.region c.change_three.new.memory)) c.in_ok-ends.ensures.appended.both.second_end
    (subst (λ (n : ℕ). ThreeInOrder (g.P.Pmem.region c.args.memory.now) (c.args.first.now.slot + 24, c.in_ok-ends.ends.0) (c.args.second.now.slot + 24, c.in_ok-ends.ends.1) (c.args.third.now.slot + 24, n) (g.P.Pmem.region c.change_three.new.memory)) c.in_ok-ends.ensures.appended.third_end ordered))

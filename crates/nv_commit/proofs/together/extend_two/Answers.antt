use Rattle.std.proofs.Common.{rules, ℕ, ◌+◌, inr, subst, ◌≡◌, inl, arith}
use Rattle.nv_region.specs.Region.{size}
use Rattle.nv_region.proofs.Fuses.{keeps_more, keeps_within}
use Rattle.nv_region.proofs.Wordwise.{stores_more, stores_within}
use Rattle.nv_inode.specs.Permitted.{is_permitted_by}
use Rattle.nv_journal.specs.Recorded.{Changes}
use Rattle.nv_logpage.specs.Append.{end_of}
use Rattle.nv_mounted.proofs.BytesKept.{mixed_size}
use Rattle.nv_commit.specs.Together.{BothWords, TogetherWords}
use Rattle.nv_commit.proofs.BothTails.{both_before, both_idle, both_left, can_undo, faultless, sound_undone, still_empty, undone_either}
use Rattle.nv_journal.specs.InOrder.{FirstIsFirst}
use Rattle.nv_journal.proofs.InOrder.{first_since}
use Rattle.nv_commit.proofs.Extends.{slots}
use Rattle.nv_commit.proofs.TwoWords.{stop_mixed}
use Rattle.nv_commit.proofs.InOrder.{slots_differ, tail_same}
use Rattle.nv_commit.proofs.together.extend_two.Goals as goal

pub append_both-requires : goal.append_both-requires
append_both-requires g c = record { first = c.requires.first.append; second = c.requires.second.append }

pub change_two-requires : goal.change_two-requires
change_two-requires g c =
    let first = c.requires.first in
    let second = c.requires.second in
    let same : size (g.P.Pmem.region c.append_both.new.memory) ≡ size (g.P.Pmem.region c.args.memory.now) = mixed_size c.append_both.ensures.wrote.mixed in
    record {
      ready = record { inside = omega (arith, first.slot_behind, first.inside, same); empty = still_empty first second c.append_both.ensures.wrote.mixed c.requires.empty };
      first = (omega (arith, first.whole), omega (arith, first.inside, same));
      second = (omega (arith, second.whole), omega (arith, second.inside, same));
      behind = (omega (arith, first.slot_behind), omega (arith, second.slot_behind));
    }

pub returns-in_err-ends-clause-moments : goal.returns-in_err-ends-clause-moments
returns-in_err-ends-clause-moments g c l held i j h k can = record {
  reads = inl (sound_undone (both_before can _ c.append_both.ensures.wrote.mixed));
  any_stop = λ settled. both_left can _ _ _ c.append_both.ensures.wrote settled;
}

pub returns-in_err-ends-clause-kept : goal.returns-in_err-ends-clause-kept
returns-in_err-ends-clause-kept g c = record {
  wrote = stores_within (TogetherWords c.args.cpu c.args.first.now c.args.second.now) (BothWords c.args.first.now c.args.second.now) _ _ _ _ (λ k v w. inl w) c.append_both.ensures.wrote;
  stopped = search rules;
  keeps_fuse = keeps_within (λ limit past. (past.0, past.1)) c.append_both.ensures.keeps_fuse;
  settled = search rules;
}

pub returns-in_err-change_two-clause-moments : goal.returns-in_err-change_two-clause-moments
returns-in_err-change_two-clause-moments g c l held i j h k can = record {
  reads = undone_either can c.in_ok-ends.ensures.appended c.requires.first.inside c.requires.second.inside c.len-length.ensures.short _ ((c.change_two.ensures.undo_gives (is_permitted_by l) l.sup.cpus (can_undo can c.in_ok-ends.ensures.appended c.len-length.ensures.short)).reads)
      (((c.change_two.ensures.undo_gives (is_permitted_by l) l.sup.cpus (can_undo can c.in_ok-ends.ensures.appended c.len-length.ensures.short)).faultless (faultless can c.in_ok-ends.ensures.appended)).reads) c.change_two.ensures.kept.keeps_link.mixed;
  any_stop = λ settled left may. undone_either can c.in_ok-ends.ensures.appended c.requires.first.inside c.requires.second.inside c.len-length.ensures.short left ((c.change_two.ensures.undo_gives (is_permitted_by l) l.sup.cpus (can_undo can c.in_ok-ends.ensures.appended c.len-length.ensures.short)).any_stop c.in_ok-ends.ensures.settled left may)
      (((c.change_two.ensures.undo_gives (is_permitted_by l) l.sup.cpus (can_undo can c.in_ok-ends.ensures.appended c.len-length.ensures.short)).faultless (faultless can c.in_ok-ends.ensures.appended)).any_stop c.in_ok-ends.ensures.settled left may) (stop_mixed c.change_two.ensures.kept.keeps_link c.in_ok-ends.ensures.settled left may);
}

pub returns-in_err-change_two-clause-kept : goal.returns-in_err-change_two-clause-kept
returns-in_err-change_two-clause-kept g c = record {
  wrote = stores_more (TogetherWords c.args.cpu c.args.first.now c.args.second.now) (Changes c.args.cpu (c.args.first.now.slot + 24) c.in_ok-ends.ends.0 (c.args.second.now.slot + 24) c.in_ok-ends.ends.1) _ _ _ _ _ _
      (λ k v w. inr (subst (λ (n : ℕ). Changes c.args.cpu (c.args.first.now.slot + 24) n (c.args.second.now.slot + 24) (end_of c.args.second.now.fresh.now 0 c.args.second.now.tail c.args.second.now.entries.now) k v) c.in_ok-ends.ensures.appended.first_end (subst (λ (n : ℕ). Changes c.args.cpu (c.args.first.now.slot + 24) c.in_ok-ends.ends.0 (c.args.second.now.slot + 24) n k v) c.in_ok-ends.ensures.appended.second_end w)))
      (stores_within (TogetherWords c.args.cpu c.args.first.now c.args.second.now) (BothWords c.args.first.now c.args.second.now) _ _ _ _ (λ k v w. inl w) c.append_both.ensures.wrote) c.change_two.ensures.kept.wrote;
  stopped = search rules;
  keeps_fuse = let behind = c.requires.first.slot_behind in
      keeps_more (λ limit past. (let first = past.2 in let second = past.3 in (omega (arith, behind, first), omega (arith, first), omega (arith, second)))) (keeps_within (λ limit past. (past.0, past.1)) c.append_both.ensures.keeps_fuse) c.change_two.ensures.kept.keeps_fuse;
  settled = search rules;
}

pub returns-clause-moments : goal.returns-clause-moments
returns-clause-moments g c l held i j h k can = record {
  reads = undone_either can c.in_ok-ends.ensures.appended c.requires.first.inside c.requires.second.inside c.len-length.ensures.short _ ((c.change_two.ensures.undo_gives (is_permitted_by l) l.sup.cpus (can_undo can c.in_ok-ends.ensures.appended c.len-length.ensures.short)).reads)
      (((c.change_two.ensures.undo_gives (is_permitted_by l) l.sup.cpus (can_undo can c.in_ok-ends.ensures.appended c.len-length.ensures.short)).faultless (faultless can c.in_ok-ends.ensures.appended)).reads) c.change_two.ensures.kept.keeps_link.mixed;
  any_stop = λ settled left may. undone_either can c.in_ok-ends.ensures.appended c.requires.first.inside c.requires.second.inside c.len-length.ensures.short left ((c.change_two.ensures.undo_gives (is_permitted_by l) l.sup.cpus (can_undo can c.in_ok-ends.ensures.appended c.len-length.ensures.short)).any_stop c.in_ok-ends.ensures.settled left may)
      (((c.change_two.ensures.undo_gives (is_permitted_by l) l.sup.cpus (can_undo can c.in_ok-ends.ensures.appended c.len-length.ensures.short)).faultless (faultless can c.in_ok-ends.ensures.appended)).any_stop c.in_ok-ends.ensures.settled left may) (stop_mixed c.change_two.ensures.kept.keeps_link c.in_ok-ends.ensures.settled left may);
}

pub returns-clause-kept : goal.returns-clause-kept
returns-clause-kept g c = record {
  wrote = stores_more (TogetherWords c.args.cpu c.args.first.now c.args.second.now) (Changes c.args.cpu (c.args.first.now.slot + 24) c.in_ok-ends.ends.0 (c.args.second.now.slot + 24) c.in_ok-ends.ends.1) _ _ _ _ _ _
      (λ k v w. inr (subst (λ (n : ℕ). Changes c.args.cpu (c.args.first.now.slot + 24) n (c.args.second.now.slot + 24) (end_of c.args.second.now.fresh.now 0 c.args.second.now.tail c.args.second.now.entries.now) k v) c.in_ok-ends.ensures.appended.first_end (subst (λ (n : ℕ). Changes c.args.cpu (c.args.first.now.slot + 24) c.in_ok-ends.ends.0 (c.args.second.now.slot + 24) n k v) c.in_ok-ends.ensures.appended.second_end w)))
      (stores_within (TogetherWords c.args.cpu c.args.first.now c.args.second.now) (BothWords c.args.first.now c.args.second.now) _ _ _ _ (λ k v w. inl w) c.append_both.ensures.wrote) c.change_two.ensures.kept.wrote;
  stopped = search rules;
  keeps_fuse = let behind = c.requires.first.slot_behind in
      keeps_more (λ limit past. (let first = past.2 in let second = past.3 in (omega (arith, behind, first), omega (arith, first), omega (arith, second)))) (keeps_within (λ limit past. (past.0, past.1)) c.append_both.ensures.keeps_fuse) c.change_two.ensures.kept.keeps_fuse;
  settled = search rules;
}

pub returns-clause-ends : goal.returns-clause-ends
returns-clause-ends g c = (c.in_ok-ends.ensures.appended.first_end, c.in_ok-ends.ensures.appended.second_end)

pub returns-clause-shows : goal.returns-clause-shows
returns-clause-shows g c l held i j h k can =
    both_idle can c.in_ok-ends.ensures.appended c.requires.first.inside c.requires.second.inside c.len-length.ensures.short _ c.in_ok-change_two.ensures.done c.in_ok-change_two.ensures.kept.empty c.change_two.ensures.kept.keeps_link.mixed

pub returns-in_err-ends-clause-in_order : goal.returns-in_err-ends-clause-in_order
returns-in_err-ends-clause-in_order g c l held i j h k can = inl (tail_same can.second.sound (both_before can (g.P.Pmem.region c.append_both.new.memory) c.append_both.ensures.wrote.mixed) can.second.at can.second.holds)

pub returns-in_err-change_two-clause-in_order : goal.returns-in_err-change_two-clause-in_order
returns-in_err-change_two-clause-in_order g c l held i j h k can =
    let clear = slots can.first in
    let same = tail_same can.second.sound (both_before can (g.P.Pmem.region c.append_both.new.memory) c.append_both.ensures.wrote.mixed) can.second.at can.second.holds in
    let differ = slots_differ clear.stand i j c.args.first.now.slot c.args.second.now.slot can.first.at can.second.at can.differ 24 24 (omega arith) (omega arith) in
    subst (λ (v : ℕ). FirstIsFirst (g.P.Pmem.region c.args.memory.now) (c.args.first.now.slot + 24) v (c.args.second.now.slot + 24) (g.P.Pmem.region c.change_two.new.memory)) c.in_ok-ends.ensures.appended.first_end
    (first_since (g.P.Pmem.region c.args.memory.now) (g.P.Pmem.region c.append_both.new.memory) (g.P.Pmem.region c.change_two.new.memory) (c.args.first.now.slot + 24) c.in_ok-ends.ends.0 (c.args.second.now.slot + 24) same (c.change_two.ensures.in_order differ))

pub returns-clause-in_order : goal.returns-clause-in_order
returns-clause-in_order g c l held i j h k can =
    let clear = slots can.first in
    let same = tail_same can.second.sound (both_before can (g.P.Pmem.region c.append_both.new.memory) c.append_both.ensures.wrote.mixed) can.second.at can.second.holds in
    let differ = slots_differ clear.stand i j c.args.first.now.slot c.args.second.now.slot can.first.at can.second.at can.differ 24 24 (omega arith) (omega arith) in
    subst (λ (v : ℕ). FirstIsFirst (g.P.Pmem.region c.args.memory.now) (c.args.first.now.slot + 24) v (c.args.second.now.slot + 24) (g.P.Pmem.region c.change_two.new.memory)) c.in_ok-ends.ensures.appended.first_end
    (first_since (g.P.Pmem.region c.args.memory.now) (g.P.Pmem.region c.append_both.new.memory) (g.P.Pmem.region c.change_two.new.memory) (c.args.first.now.slot + 24) c.in_ok-ends.ends.0 (c.args.second.now.slot + 24) same (c.change_two.ensures.in_order differ))

use Rattle.std.proofs.Common.{rules, ℕ, ◌+◌, ◌∷◌, [], ◌≡◌, ◌∙◌, inl, inr, subst, sym, arith}
use Rattle.nv_region.specs.Region.{size}
use Rattle.nv_region.proofs.Fuses.{keeps_more, keeps_within}
use Rattle.nv_region.proofs.Wordwise.{stores_more, stores_within}
use Rattle.nv_inode.specs.Permitted.{is_permitted_by}
use Rattle.nv_journal.specs.InOrder.{ThreeInOrder}
use Rattle.nv_journal.specs.Several.{ChangesAll}
use Rattle.nv_journal.proofs.InOrder.{three_since}
use Rattle.nv_logpage.specs.Append.{end_of}
use Rattle.nv_mounted.proofs.BytesKept.{mixed_size}
use Rattle.nv_commit.specs.Together.{BothWords}
use Rattle.nv_commit.specs.Replaces.{ReplaceWords, new_tail}
use Rattle.nv_commit.proofs.BothTails.{both_before, faultless, sound_undone, still_empty}
use Rattle.nv_commit.proofs.Extends.{slots}
use Rattle.nv_commit.proofs.TwoWords.{stop_mixed}
use Rattle.nv_commit.proofs.InOrder.{slots_differ, tail_same}
use Rattle.nv_commit.proofs.Replaces.{can_undo_all, replaced_idle, replaced_left, replaced_undone, valid_stays}
use Rattle.nv_commit.proofs.replacing.replace_inode.Goals as goal

pub append_both-requires : goal.append_both-requires
append_both-requires g c = record { first = c.requires.first.append; second = c.requires.second.append }

pub change_three-requires : goal.change_three-requires
change_three-requires g c =
    let first = c.requires.first in
    let second = c.requires.second in
    let same : size (g.P.Pmem.region c.append_both.new.memory) ≡ size (g.P.Pmem.region c.args.memory.now) = mixed_size c.append_both.ensures.wrote.mixed in
    record {
      ready = record { inside = omega (arith, first.slot_behind, first.inside, same); empty = still_empty first second c.append_both.ensures.wrote.mixed c.requires.empty };
      first = (omega (arith, first.whole), omega (arith, first.inside, same));
      second = (omega (arith, second.whole), omega (arith, second.inside, same));
      third = (c.requires.slot.whole, omega (arith, c.requires.slot.inside, same));
      behind = (omega (arith, first.slot_behind), omega (arith, second.slot_behind), c.requires.slot.behind);
    }

pub returns-in_err-ends-clause-moments : goal.returns-in_err-ends-clause-moments
returns-in_err-ends-clause-moments g c l held i j k h p can = record {
  reads = inl (sound_undone (both_before can.two _ c.append_both.ensures.wrote.mixed));
  any_stop = λ settled. replaced_left can _ _ _ c.append_both.ensures.wrote settled;
}

pub returns-in_err-ends-clause-kept : goal.returns-in_err-ends-clause-kept
returns-in_err-ends-clause-kept g c = record {
  wrote = stores_within (ReplaceWords c.args.cpu c.args.first.now c.args.second.now c.args.slot) (BothWords c.args.first.now c.args.second.now) _ _ _ _ (λ k v w. inl w) c.append_both.ensures.wrote;
  stopped = search rules;
  keeps_fuse = keeps_within (λ limit past. (past.0, past.1)) c.append_both.ensures.keeps_fuse;
  settled = search rules;
}

pub returns-clause-moments : goal.returns-clause-moments
returns-clause-moments g c l held i j k h p can = record {
  reads = replaced_undone can c.in_ok-ends.ensures.appended c.requires.first.inside c.requires.second.inside c.requires.slot.inside c.len-length.ensures.short _ ((c.change_three.ensures.undo_gives (is_permitted_by l) l.sup.cpus (can_undo_all can c.in_ok-ends.ensures.appended c.requires.first.inside c.requires.second.inside c.requires.slot.inside c.len-length.ensures.short)).reads)
      (((c.change_three.ensures.undo_gives (is_permitted_by l) l.sup.cpus (can_undo_all can c.in_ok-ends.ensures.appended c.requires.first.inside c.requires.second.inside c.requires.slot.inside c.len-length.ensures.short)).faultless (faultless can.two c.in_ok-ends.ensures.appended)).reads) c.change_three.ensures.kept.keeps_link.mixed;
  any_stop = λ settled left may. replaced_undone can c.in_ok-ends.ensures.appended c.requires.first.inside c.requires.second.inside c.requires.slot.inside c.len-length.ensures.short left ((c.change_three.ensures.undo_gives (is_permitted_by l) l.sup.cpus (can_undo_all can c.in_ok-ends.ensures.appended c.requires.first.inside c.requires.second.inside c.requires.slot.inside c.len-length.ensures.short)).any_stop c.in_ok-ends.ensures.settled left may)
      (((c.change_three.ensures.undo_gives (is_permitted_by l) l.sup.cpus (can_undo_all can c.in_ok-ends.ensures.appended c.requires.first.inside c.requires.second.inside c.requires.slot.inside c.len-length.ensures.short)).faultless (faultless can.two c.in_ok-ends.ensures.appended)).any_stop c.in_ok-ends.ensures.settled left may) (stop_mixed c.change_three.ensures.kept.keeps_link c.in_ok-ends.ensures.settled left may);
}

pub returns-clause-kept : goal.returns-clause-kept
returns-clause-kept g c = record {
  wrote = stores_more (ReplaceWords c.args.cpu c.args.first.now c.args.second.now c.args.slot) (ChangesAll c.args.cpu ((c.args.first.now.slot + 24, c.in_ok-ends.ends.0) ∷ (c.args.second.now.slot + 24, c.in_ok-ends.ends.1) ∷ (c.args.slot, 0) ∷ [])) _ _ _ _ _ _
      (λ k v w. inr (subst (λ (n : ℕ). ChangesAll c.args.cpu ((c.args.first.now.slot + 24, n) ∷ (c.args.second.now.slot + 24, end_of c.args.second.now.fresh.now 0 c.args.second.now.tail c.args.second.now.entries.now) ∷ (c.args.slot, 0) ∷ []) k v) c.in_ok-ends.ensures.appended.first_end (subst (λ (n : ℕ). ChangesAll c.args.cpu ((c.args.first.now.slot + 24, c.in_ok-ends.ends.0) ∷ (c.args.second.now.slot + 24, n) ∷ (c.args.slot, 0) ∷ []) k v) c.in_ok-ends.ensures.appended.second_end w)))
      (stores_within (ReplaceWords c.args.cpu c.args.first.now c.args.second.now c.args.slot) (BothWords c.args.first.now c.args.second.now) _ _ _ _ (λ k v w. inl w) c.append_both.ensures.wrote) c.change_three.ensures.kept.wrote;
  stopped = search rules;
  keeps_fuse = let behind = c.requires.first.slot_behind in keeps_more (λ limit past. (let first = past.2 in let second = past.3 in (omega (arith, behind, first), omega (arith, first), omega (arith, second), past.4))) (keeps_within (λ limit past. (past.0, past.1)) c.append_both.ensures.keeps_fuse) c.change_three.ensures.kept.keeps_fuse;
  settled = search rules;
}

pub returns-in_err-change_three-clause-moments : goal.returns-in_err-change_three-clause-moments
returns-in_err-change_three-clause-moments g c l held i j k h p can = record {
  reads = replaced_undone can c.in_ok-ends.ensures.appended c.requires.first.inside c.requires.second.inside c.requires.slot.inside c.len-length.ensures.short _ ((c.change_three.ensures.undo_gives (is_permitted_by l) l.sup.cpus (can_undo_all can c.in_ok-ends.ensures.appended c.requires.first.inside c.requires.second.inside c.requires.slot.inside c.len-length.ensures.short)).reads)
      (((c.change_three.ensures.undo_gives (is_permitted_by l) l.sup.cpus (can_undo_all can c.in_ok-ends.ensures.appended c.requires.first.inside c.requires.second.inside c.requires.slot.inside c.len-length.ensures.short)).faultless (faultless can.two c.in_ok-ends.ensures.appended)).reads) c.change_three.ensures.kept.keeps_link.mixed;
  any_stop = λ settled left may. replaced_undone can c.in_ok-ends.ensures.appended c.requires.first.inside c.requires.second.inside c.requires.slot.inside c.len-length.ensures.short left ((c.change_three.ensures.undo_gives (is_permitted_by l) l.sup.cpus (can_undo_all can c.in_ok-ends.ensures.appended c.requires.first.inside c.requires.second.inside c.requires.slot.inside c.len-length.ensures.short)).any_stop c.in_ok-ends.ensures.settled left may)
      (((c.change_three.ensures.undo_gives (is_permitted_by l) l.sup.cpus (can_undo_all can c.in_ok-ends.ensures.appended c.requires.first.inside c.requires.second.inside c.requires.slot.inside c.len-length.ensures.short)).faultless (faultless can.two c.in_ok-ends.ensures.appended)).any_stop c.in_ok-ends.ensures.settled left may) (stop_mixed c.change_three.ensures.kept.keeps_link c.in_ok-ends.ensures.settled left may);
}

pub returns-in_err-change_three-clause-kept : goal.returns-in_err-change_three-clause-kept
returns-in_err-change_three-clause-kept g c = record {
  wrote = stores_more (ReplaceWords c.args.cpu c.args.first.now c.args.second.now c.args.slot) (ChangesAll c.args.cpu ((c.args.first.now.slot + 24, c.in_ok-ends.ends.0) ∷ (c.args.second.now.slot + 24, c.in_ok-ends.ends.1) ∷ (c.args.slot, 0) ∷ [])) _ _ _ _ _ _
      (λ k v w. inr (subst (λ (n : ℕ). ChangesAll c.args.cpu ((c.args.first.now.slot + 24, n) ∷ (c.args.second.now.slot + 24, end_of c.args.second.now.fresh.now 0 c.args.second.now.tail c.args.second.now.entries.now) ∷ (c.args.slot, 0) ∷ []) k v) c.in_ok-ends.ensures.appended.first_end (subst (λ (n : ℕ). ChangesAll c.args.cpu ((c.args.first.now.slot + 24, c.in_ok-ends.ends.0) ∷ (c.args.second.now.slot + 24, n) ∷ (c.args.slot, 0) ∷ []) k v) c.in_ok-ends.ensures.appended.second_end w)))
      (stores_within (ReplaceWords c.args.cpu c.args.first.now c.args.second.now c.args.slot) (BothWords c.args.first.now c.args.second.now) _ _ _ _ (λ k v w. inl w) c.append_both.ensures.wrote) c.change_three.ensures.kept.wrote;
  stopped = search rules;
  keeps_fuse = let behind = c.requires.first.slot_behind in keeps_more (λ limit past. (let first = past.2 in let second = past.3 in (omega (arith, behind, first), omega (arith, first), omega (arith, second), past.4))) (keeps_within (λ limit past. (past.0, past.1)) c.append_both.ensures.keeps_fuse) c.change_three.ensures.kept.keeps_fuse;
  settled = search rules;
}

pub returns-in_err-ends-clause-in_order : goal.returns-in_err-ends-clause-in_order
returns-in_err-ends-clause-in_order g c l held i j k h p can = (inl (tail_same can.two.second.sound (both_before can.two (g.P.Pmem.region c.append_both.new.memory) c.append_both.ensures.wrote.mixed) can.two.second.at can.two.second.holds), inl (valid_stays can (g.P.Pmem.region c.append_both.new.memory) c.append_both.ensures.wrote.mixed))

pub returns-clause-ends : goal.returns-clause-ends
returns-clause-ends g c = (c.in_ok-ends.ensures.appended.first_end, c.in_ok-ends.ensures.appended.second_end)

pub returns-clause-shows : goal.returns-clause-shows
returns-clause-shows g c l held i j k h p can = replaced_idle can c.in_ok-ends.ensures.appended c.requires.first.inside c.requires.second.inside c.requires.slot.inside c.len-length.ensures.short _ c.in_ok-change_three.ensures.done c.in_ok-change_three.ensures.kept.empty c.change_three.ensures.kept.keeps_link.mixed

pub returns-in_err-change_three-clause-in_order : goal.returns-in_err-change_three-clause-in_order
returns-in_err-change_three-clause-in_order g c l held i j k h p can =
    let clear = slots can.two.first in
    let none : c.args.slot + 0 ≡ c.args.slot = omega arith in
    let two = slots_differ clear.stand i j c.args.first.now.slot c.args.second.now.slot can.two.first.at can.two.second.at can.two.differ 24 24 (omega arith) (omega arith) in
    let one = slots_differ clear.stand i k c.args.first.now.slot c.args.slot can.two.first.at can.at can.first_differs 24 0 (omega arith) (omega arith) in
    let other = slots_differ clear.stand j k c.args.second.now.slot c.args.slot can.two.second.at can.at can.second_differs 24 0 (omega arith) (omega arith) in
    let ordered = three_since (g.P.Pmem.region c.args.memory.now) (g.P.Pmem.region c.append_both.new.memory) (g.P.Pmem.region c.change_three.new.memory) (c.args.first.now.slot + 24, c.in_ok-ends.ends.0) (c.args.second.now.slot + 24, c.in_ok-ends.ends.1) (c.args.slot, 0) (tail_same can.two.second.sound (both_before can.two (g.P.Pmem.region c.append_both.new.memory) c.append_both.ensures.wrote.mixed) can.two.second.at can.two.second.holds) (valid_stays can (g.P.Pmem.region c.append_both.new.memory) c.append_both.ensures.wrote.mixed) (c.change_three.ensures.in_order two (λ e. one (e ∙ sym none)) (λ e. other (e ∙ sym none))) in
    subst (λ (n : ℕ). ThreeInOrder (g.P.Pmem.region c.args.memory.now) (c.args.first.now.slot + 24, n) (new_tail c.args.second.now) (c.args.slot, 0) (g.P.Pmem.region c.change_three.new.memory)) c.in_ok-ends.ensures.appended.first_end
    (subst (λ (n : ℕ). ThreeInOrder (g.P.Pmem.region c.args.memory.now) (c.args.first.now.slot + 24, c.in_ok-ends.ends.0) (c.args.second.now.slot + 24, n) (c.args.slot, 0) (g.P.Pmem.region c.change_three.new.memory)) c.in_ok-ends.ensures.appended.second_end ordered)

pub returns-clause-in_order : goal.returns-clause-in_order
returns-clause-in_order g c l held i j k h p can =
    let clear = slots can.two.first in
    let none : c.args.slot + 0 ≡ c.args.slot = omega arith in
    let two = slots_differ clear.stand i j c.args.first.now.slot c.args.second.now.slot can.two.first.at can.two.second.at can.two.differ 24 24 (omega arith) (omega arith) in
    let one = slots_differ clear.stand i k c.args.first.now.slot c.args.slot can.two.first.at can.at can.first_differs 24 0 (omega arith) (omega arith) in
    let other = slots_differ clear.stand j k c.args.second.now.slot c.args.slot can.two.second.at can.at can.second_differs 24 0 (omega arith) (omega arith) in
    let ordered = three_since (g.P.Pmem.region c.args.memory.now) (g.P.Pmem.region c.append_both.new.memory) (g.P.Pmem.region c.change_three.new.memory) (c.args.first.now.slot + 24, c.in_ok-ends.ends.0) (c.args.second.now.slot + 24, c.in_ok-ends.ends.1) (c.args.slot, 0) (tail_same can.two.second.sound (both_before can.two (g.P.Pmem.region c.append_both.new.memory) c.append_both.ensures.wrote.mixed) can.two.second.at can.two.second.holds) (valid_stays can (g.P.Pmem.region c.append_both.new.memory) c.append_both.ensures.wrote.mixed) (c.change_three.ensures.in_order two (λ e. one (e ∙ sym none)) (λ e. other (e ∙ sym none))) in
    subst (λ (n : ℕ). ThreeInOrder (g.P.Pmem.region c.args.memory.now) (c.args.first.now.slot + 24, n) (new_tail c.args.second.now) (c.args.slot, 0) (g.P.Pmem.region c.change_three.new.memory)) c.in_ok-ends.ensures.appended.first_end
    (subst (λ (n : ℕ). ThreeInOrder (g.P.Pmem.region c.args.memory.now) (c.args.first.now.slot + 24, c.in_ok-ends.ends.0) (c.args.second.now.slot + 24, n) (c.args.slot, 0) (g.P.Pmem.region c.change_three.new.memory)) c.in_ok-ends.ensures.appended.second_end ordered)

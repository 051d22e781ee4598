use Rattle.std.proofs.Common.{rules, ℕ, ◌+◌, inr, ◌≡◌, ◌∙◌, ap, inl, is_err, sym, subst, arith}
use Rattle.std.proofs.lemmas.Result.{err_from_is_err_and}
use Rattle.nv_region.specs.Region.{Region, size, word}
use Rattle.nv_region.proofs.Fuses.{keeps_more, keeps_within}
use Rattle.nv_region.proofs.Stops.{refused_leaves}
use Rattle.nv_region.proofs.Wordwise.{fenced_stores, stores_more, stores_within}
use Rattle.nv_inode.specs.Permitted.{is_permitted_by}
use Rattle.nv_journal.specs.Pending.{IsEmpty}
use Rattle.nv_journal.specs.Recorded.{Changes}
use Rattle.nv_logpage.specs.Append.{AppendWords}
use Rattle.nv_mounted.specs.Appended.{Appends}
use Rattle.nv_commit.specs.Removes.{BeforeOrRemoved, RemoveWords}
use Rattle.nv_commit.proofs.BothTails.{sound_undone}
use Rattle.nv_commit.proofs.Extends.{slots, sound_before}
use Rattle.nv_commit.proofs.Removes.{can_undo, empty_there, faultless, left_undone, removed_idle, removed_undone}
use Rattle.nv_journal.specs.InOrder.{FirstIsFirst}
use Rattle.nv_journal.proofs.InOrder.{first_since}
use Rattle.nv_commit.proofs.TwoWords.{stop_mixed}
use Rattle.nv_commit.proofs.InOrder.{slots_differ, valid_same}
use Rattle.nv_commit.proofs.removing.remove_inode.Goals as goal

pub append_entries-requires : goal.append_entries-requires
append_entries-requires g c = c.requires.directory.append

pub change_two-requires : goal.change_two-requires
change_two-requires g c =
    let directory = c.requires.directory in
    let same : size (g.P.Pmem.region c.fence.new.self) ≡ size (g.P.Pmem.region c.args.memory.now) = ap size c.in_ok-fence.ensures.same ∙ c.append_entries.ensures.len in
    record {
      ready = record { inside = omega (arith, directory.slot_behind, directory.inside, same); empty = subst (λ (S : Region). IsEmpty S c.args.cpu) (sym c.in_ok-fence.ensures.same) (empty_there directory c.append_entries.ensures.wrote.mixed c.requires.empty) };
      first = (omega (arith, directory.whole), omega (arith, directory.inside, same));
      second = (c.requires.slot.whole, omega (arith, c.requires.slot.inside, same));
      behind = (omega (arith, directory.slot_behind), c.requires.slot.behind);
    }

pub returns-in_err-end-clause-moments : goal.returns-in_err-end-clause-moments
returns-in_err-end-clause-moments g c l held i j h can = record {
  reads = inl (sound_undone (sound_before can.parent _ c.append_entries.ensures.wrote.mixed));
  any_stop = λ settled. left_undone can _ _ _ c.append_entries.ensures.wrote settled;
}

pub returns-in_err-end-clause-kept : goal.returns-in_err-end-clause-kept
returns-in_err-end-clause-kept g c = record {
  wrote = stores_within (RemoveWords c.args.cpu c.args.directory.now c.args.slot) (AppendWords c.args.directory.now.tail c.args.directory.now.fresh.now) _ _ _ _ (λ k v w. inl w) c.append_entries.ensures.wrote;
  stopped = let error = err_from_is_err_and c.from_residual.result c.from_residual.ensures.1 in
      ap is_err error.1 ∙ sym c.in_err-end.ensures.stopped;
  keeps_fuse = keeps_within (λ limit past. past.0) c.append_entries.ensures.keeps_fuse;
  settled = search rules;
}

pub returns-in_err-fence-clause-moments : goal.returns-in_err-fence-clause-moments
returns-in_err-fence-clause-moments g c l held i j h can = record {
  reads = subst (BeforeOrRemoved l held i h c.args.directory.now j) (sym c.in_err-fence.ensures.same) (inl (sound_undone (sound_before can.parent _ c.append_entries.ensures.wrote.mixed)));
  any_stop = λ settled. refused_leaves _ _ _ _ (BeforeOrRemoved l held i h c.args.directory.now j) c.fence.ensures.same c.in_err-fence.ensures.refused_keep (left_undone can _ _ _ c.append_entries.ensures.wrote settled);
}

pub returns-in_err-fence-clause-kept : goal.returns-in_err-fence-clause-kept
returns-in_err-fence-clause-kept g c = record {
  wrote = fenced_stores c.fence.result _ _ _ _ _ _ _ (stores_within (RemoveWords c.args.cpu c.args.directory.now c.args.slot) (AppendWords c.args.directory.now.tail c.args.directory.now.fresh.now) _ _ _ _ (λ k v w. inl w) c.append_entries.ensures.wrote) c.fence.ensures.same c.fence.ensures.fenced c.fence.ensures.refused_keep (g.met.P.Pmem.holds_now _);
  stopped = search rules;
  keeps_fuse = keeps_more (λ limit past. omega arith) (keeps_within (λ limit past. past.0) c.append_entries.ensures.keeps_fuse) c.fence.ensures.keeps_fuse;
  settled = search rules;
}

pub returns-in_err-change_two-clause-moments : goal.returns-in_err-change_two-clause-moments
returns-in_err-change_two-clause-moments g c l held i j h can = record {
  reads = let appends : Appends (g.P.Pmem.region c.args.memory.now) (g.P.Pmem.region c.fence.new.self) c.args.directory.now.tail c.in_ok-end.end c.args.directory.now.entries.now c.args.directory.now.fresh.now = subst (λ (S : Region). Appends (g.P.Pmem.region c.args.memory.now) S c.args.directory.now.tail c.in_ok-end.end c.args.directory.now.entries.now c.args.directory.now.fresh.now) (sym c.in_ok-fence.ensures.same) c.in_ok-end.ensures.appends in
      removed_undone can (g.P.Pmem.region c.fence.new.self) c.in_ok-end.end c.in_ok-end.ensures.end appends c.requires.directory.inside c.requires.slot.inside c.len-length.ensures.short (g.P.Pmem.region c.change_two.new.memory) ((c.change_two.ensures.undo_gives (is_permitted_by l) l.sup.cpus (can_undo can (g.P.Pmem.region c.fence.new.self) c.in_ok-end.end c.in_ok-end.ensures.end appends c.len-length.ensures.short)).reads)
      (((c.change_two.ensures.undo_gives (is_permitted_by l) l.sup.cpus (can_undo can (g.P.Pmem.region c.fence.new.self) c.in_ok-end.end c.in_ok-end.ensures.end appends c.len-length.ensures.short)).faultless (faultless can (g.P.Pmem.region c.fence.new.self) c.in_ok-end.end c.in_ok-end.ensures.end appends)).reads) c.change_two.ensures.kept.keeps_link.mixed;
  any_stop = λ settled left may. let appends : Appends (g.P.Pmem.region c.args.memory.now) (g.P.Pmem.region c.fence.new.self) c.args.directory.now.tail c.in_ok-end.end c.args.directory.now.entries.now c.args.directory.now.fresh.now = subst (λ (S : Region). Appends (g.P.Pmem.region c.args.memory.now) S c.args.directory.now.tail c.in_ok-end.end c.args.directory.now.entries.now c.args.directory.now.fresh.now) (sym c.in_ok-fence.ensures.same) c.in_ok-end.ensures.appends in
      removed_undone can (g.P.Pmem.region c.fence.new.self) c.in_ok-end.end c.in_ok-end.ensures.end appends c.requires.directory.inside c.requires.slot.inside c.len-length.ensures.short left ((c.change_two.ensures.undo_gives (is_permitted_by l) l.sup.cpus (can_undo can (g.P.Pmem.region c.fence.new.self) c.in_ok-end.end c.in_ok-end.ensures.end appends c.len-length.ensures.short)).any_stop c.in_ok-fence.ensures.fenced left may)
      (((c.change_two.ensures.undo_gives (is_permitted_by l) l.sup.cpus (can_undo can (g.P.Pmem.region c.fence.new.self) c.in_ok-end.end c.in_ok-end.ensures.end appends c.len-length.ensures.short)).faultless (faultless can (g.P.Pmem.region c.fence.new.self) c.in_ok-end.end c.in_ok-end.ensures.end appends)).any_stop c.in_ok-fence.ensures.fenced left may) (stop_mixed c.change_two.ensures.kept.keeps_link c.in_ok-fence.ensures.fenced left may);
}

pub returns-in_err-change_two-clause-kept : goal.returns-in_err-change_two-clause-kept
returns-in_err-change_two-clause-kept g c = record {
  wrote = stores_more (RemoveWords c.args.cpu c.args.directory.now c.args.slot) (Changes c.args.cpu (c.args.directory.now.slot + 24) c.in_ok-end.end c.args.slot 0) _ _ _ _ _ _
      (λ k v w. inr (subst (λ (n : ℕ). Changes c.args.cpu (c.args.directory.now.slot + 24) n c.args.slot 0 k v) c.in_ok-end.ensures.end w)) (fenced_stores c.fence.result _ _ _ _ _ _ _ (stores_within (RemoveWords c.args.cpu c.args.directory.now c.args.slot) (AppendWords c.args.directory.now.tail c.args.directory.now.fresh.now) _ _ _ _ (λ k v w. inl w) c.append_entries.ensures.wrote) c.fence.ensures.same c.fence.ensures.fenced c.fence.ensures.refused_keep (g.met.P.Pmem.holds_now _)) c.change_two.ensures.kept.wrote;
  stopped = search rules;
  keeps_fuse = let behind = c.requires.directory.slot_behind in
      keeps_more (λ limit past. (let first = past.1 in (omega (arith, behind, first), omega (arith, first), past.2))) (keeps_more (λ limit past. omega arith) (keeps_within (λ limit past. past.0) c.append_entries.ensures.keeps_fuse) c.fence.ensures.keeps_fuse) c.change_two.ensures.kept.keeps_fuse;
  settled = search rules;
}

pub returns-clause-moments : goal.returns-clause-moments
returns-clause-moments g c l held i j h can = record {
  reads = let appends : Appends (g.P.Pmem.region c.args.memory.now) (g.P.Pmem.region c.fence.new.self) c.args.directory.now.tail c.in_ok-end.end c.args.directory.now.entries.now c.args.directory.now.fresh.now = subst (λ (S : Region). Appends (g.P.Pmem.region c.args.memory.now) S c.args.directory.now.tail c.in_ok-end.end c.args.directory.now.entries.now c.args.directory.now.fresh.now) (sym c.in_ok-fence.ensures.same) c.in_ok-end.ensures.appends in
      removed_undone can (g.P.Pmem.region c.fence.new.self) c.in_ok-end.end c.in_ok-end.ensures.end appends c.requires.directory.inside c.requires.slot.inside c.len-length.ensures.short (g.P.Pmem.region c.change_two.new.memory) ((c.change_two.ensures.undo_gives (is_permitted_by l) l.sup.cpus (can_undo can (g.P.Pmem.region c.fence.new.self) c.in_ok-end.end c.in_ok-end.ensures.end appends c.len-length.ensures.short)).reads)
      (((c.change_two.ensures.undo_gives (is_permitted_by l) l.sup.cpus (can_undo can (g.P.Pmem.region c.fence.new.self) c.in_ok-end.end c.in_ok-end.ensures.end appends c.len-length.ensures.short)).faultless (faultless can (g.P.Pmem.region c.fence.new.self) c.in_ok-end.end c.in_ok-end.ensures.end appends)).reads) c.change_two.ensures.kept.keeps_link.mixed;
  any_stop = λ settled left may. let appends : Appends (g.P.Pmem.region c.args.memory.now) (g.P.Pmem.region c.fence.new.self) c.args.directory.now.tail c.in_ok-end.end c.args.directory.now.entries.now c.args.directory.now.fresh.now = subst (λ (S : Region). Appends (g.P.Pmem.region c.args.memory.now) S c.args.directory.now.tail c.in_ok-end.end c.args.directory.now.entries.now c.args.directory.now.fresh.now) (sym c.in_ok-fence.ensures.same) c.in_ok-end.ensures.appends in
      removed_undone can (g.P.Pmem.region c.fence.new.self) c.in_ok-end.end c.in_ok-end.ensures.end appends c.requires.directory.inside c.requires.slot.inside c.len-length.ensures.short left ((c.change_two.ensures.undo_gives (is_permitted_by l) l.sup.cpus (can_undo can (g.P.Pmem.region c.fence.new.self) c.in_ok-end.end c.in_ok-end.ensures.end appends c.len-length.ensures.short)).any_stop c.in_ok-fence.ensures.fenced left may)
      (((c.change_two.ensures.undo_gives (is_permitted_by l) l.sup.cpus (can_undo can (g.P.Pmem.region c.fence.new.self) c.in_ok-end.end c.in_ok-end.ensures.end appends c.len-length.ensures.short)).faultless (faultless can (g.P.Pmem.region c.fence.new.self) c.in_ok-end.end c.in_ok-end.ensures.end appends)).any_stop c.in_ok-fence.ensures.fenced left may) (stop_mixed c.change_two.ensures.kept.keeps_link c.in_ok-fence.ensures.fenced left may);
}

pub returns-clause-kept : goal.returns-clause-kept
returns-clause-kept g c = record {
  wrote = stores_more (RemoveWords c.args.cpu c.args.directory.now c.args.slot) (Changes c.args.cpu (c.args.directory.now.slot + 24) c.in_ok-end.end c.args.slot 0) _ _ _ _ _ _
      (λ k v w. inr (subst (λ (n : ℕ). Changes c.args.cpu (c.args.directory.now.slot + 24) n c.args.slot 0 k v) c.in_ok-end.ensures.end w)) (fenced_stores c.fence.result _ _ _ _ _ _ _ (stores_within (RemoveWords c.args.cpu c.args.directory.now c.args.slot) (AppendWords c.args.directory.now.tail c.args.directory.now.fresh.now) _ _ _ _ (λ k v w. inl w) c.append_entries.ensures.wrote) c.fence.ensures.same c.fence.ensures.fenced c.fence.ensures.refused_keep (g.met.P.Pmem.holds_now _)) c.change_two.ensures.kept.wrote;
  stopped = search rules;
  keeps_fuse = let behind = c.requires.directory.slot_behind in
      keeps_more (λ limit past. (let first = past.1 in (omega (arith, behind, first), omega (arith, first), past.2))) (keeps_more (λ limit past. omega arith) (keeps_within (λ limit past. past.0) c.append_entries.ensures.keeps_fuse) c.fence.ensures.keeps_fuse) c.change_two.ensures.kept.keeps_fuse;
  settled = search rules;
}

pub returns-clause-shows : goal.returns-clause-shows
returns-clause-shows g c l held i j h can =
    let appends : Appends (g.P.Pmem.region c.args.memory.now) (g.P.Pmem.region c.fence.new.self) c.args.directory.now.tail c.in_ok-end.end c.args.directory.now.entries.now c.args.directory.now.fresh.now = subst (λ (S : Region). Appends (g.P.Pmem.region c.args.memory.now) S c.args.directory.now.tail c.in_ok-end.end c.args.directory.now.entries.now c.args.directory.now.fresh.now) (sym c.in_ok-fence.ensures.same) c.in_ok-end.ensures.appends in
    removed_idle can (g.P.Pmem.region c.fence.new.self) c.in_ok-end.end c.in_ok-end.ensures.end appends c.requires.directory.inside c.requires.slot.inside c.len-length.ensures.short (g.P.Pmem.region c.change_two.new.memory) c.in_ok-change_two.ensures.done c.in_ok-change_two.ensures.kept.empty c.change_two.ensures.kept.keeps_link.mixed

pub returns-in_err-end-clause-in_order : goal.returns-in_err-end-clause-in_order
returns-in_err-end-clause-in_order g c l held i j h can = inl (valid_same can.parent (g.P.Pmem.region c.append_entries.new.memory) j c.args.slot can.at c.append_entries.ensures.wrote.mixed)

pub returns-in_err-fence-clause-in_order : goal.returns-in_err-fence-clause-in_order
returns-in_err-fence-clause-in_order g c l held i j h can = inl (ap (λ (S : Region). word S c.args.slot) c.in_err-fence.ensures.same ∙ valid_same can.parent (g.P.Pmem.region c.append_entries.new.memory) j c.args.slot can.at c.append_entries.ensures.wrote.mixed)

pub returns-in_err-change_two-clause-in_order : goal.returns-in_err-change_two-clause-in_order
returns-in_err-change_two-clause-in_order g c l held i j h can =
    let clear = slots can.parent in
    let same : word (g.P.Pmem.region c.fence.new.self) c.args.slot ≡ word (g.P.Pmem.region c.args.memory.now) c.args.slot = ap (λ (S : Region). word S c.args.slot) c.in_ok-fence.ensures.same ∙ valid_same can.parent (g.P.Pmem.region c.append_entries.new.memory) j c.args.slot can.at c.append_entries.ensures.wrote.mixed in
    let none : c.args.slot + 0 ≡ c.args.slot = omega arith in
    let apart = slots_differ clear.stand i j c.args.directory.now.slot c.args.slot can.parent.at can.at can.differ 24 0 (omega arith) (omega arith) in
    subst (λ (v : ℕ). FirstIsFirst (g.P.Pmem.region c.args.memory.now) (c.args.directory.now.slot + 24) v c.args.slot (g.P.Pmem.region c.change_two.new.memory)) c.in_ok-end.ensures.end
    (first_since (g.P.Pmem.region c.args.memory.now) (g.P.Pmem.region c.fence.new.self) (g.P.Pmem.region c.change_two.new.memory) (c.args.directory.now.slot + 24) c.in_ok-end.end c.args.slot same (c.change_two.ensures.in_order (λ e. apart (e ∙ sym none))))

pub returns-clause-in_order : goal.returns-clause-in_order
returns-clause-in_order g c l held i j h can =
    let clear = slots can.parent in
    let same : word (g.P.Pmem.region c.fence.new.self) c.args.slot ≡ word (g.P.Pmem.region c.args.memory.now) c.args.slot = ap (λ (S : Region). word S c.args.slot) c.in_ok-fence.ensures.same ∙ valid_same can.parent (g.P.Pmem.region c.append_entries.new.memory) j c.args.slot can.at c.append_entries.ensures.wrote.mixed in
    let none : c.args.slot + 0 ≡ c.args.slot = omega arith in
    let apart = slots_differ clear.stand i j c.args.directory.now.slot c.args.slot can.parent.at can.at can.differ 24 0 (omega arith) (omega arith) in
    subst (λ (v : ℕ). FirstIsFirst (g.P.Pmem.region c.args.memory.now) (c.args.directory.now.slot + 24) v c.args.slot (g.P.Pmem.region c.change_two.new.memory)) c.in_ok-end.ensures.end
    (first_since (g.P.Pmem.region c.args.memory.now) (g.P.Pmem.region c.fence.new.self) (g.P.Pmem.region c.change_two.new.memory) (c.args.directory.now.slot + 24) c.in_ok-end.end c.args.slot same (c.change_two.ensures.in_order (λ e. apart (e ∙ sym none))))

use Rattle.std.proofs.Common.{rules, ℕ, ◌+◌, ◌∙◌, ap, inl, inr, is_err, sym, subst, arith}
use Rattle.std.proofs.lemmas.Result.{err_from_is_err_and}
use Rattle.nv_region.specs.Region.{Region}
use Rattle.nv_region.specs.Stops.{One}
use Rattle.nv_region.proofs.Fuses.{keeps_more, keeps_within}
use Rattle.nv_region.proofs.Stops.{refused_leaves}
use Rattle.nv_region.proofs.Wordwise.{fenced_stores, stores_more, stores_within}
use Rattle.nv_logpage.specs.Append.{AppendWords}
use Rattle.nv_mounted.specs.Appended.{Appends}
use Rattle.nv_commit.specs.Extends.{BeforeOrExtended, ExtendWords, LooseOrExtended, ShowsMoved, with_log}
use Rattle.nv_commit.proofs.Extends.{left_before, loose_left, once_committed, put_after, sound_before, then_committed}
use Rattle.nv_commit.proofs.extending.extend_log.Goals as goal

pub returns-in_err-end-clause-moments : goal.returns-in_err-end-clause-moments
returns-in_err-end-clause-moments g c l held i h can = record {
  reads = inl (sound_before can _ c.append_entries.ensures.wrote.mixed);
  any_stop = λ settled. left_before can _ _ _ c.append_entries.ensures.wrote settled;
}

pub returns-in_err-end-clause-kept : goal.returns-in_err-end-clause-kept
returns-in_err-end-clause-kept g c = record {
  wrote = stores_within (ExtendWords c.args.slot c.args.tail c.args.entries.now c.args.fresh.now) (AppendWords c.args.tail c.args.fresh.now) _ _ _ _ (λ k x one. inl one) c.append_entries.ensures.wrote;
  stopped = let error = err_from_is_err_and c.from_residual.result c.from_residual.ensures.1 in
      ap is_err error.1 ∙ sym c.in_err-end.ensures.stopped;
  keeps_fuse = keeps_within (λ limit past. past.0) c.append_entries.ensures.keeps_fuse;
  settled = search rules;
}

pub returns-in_err-fence-clause-moments : goal.returns-in_err-fence-clause-moments
returns-in_err-fence-clause-moments g c l held i h can = record {
  reads = subst (BeforeOrExtended (g.P.Pmem.region c.args.memory.now) l held i h c.args.entries.now c.args.fresh.now) (sym c.in_err-fence.ensures.same) (inl (sound_before can _ c.append_entries.ensures.wrote.mixed));
  any_stop = λ settled. refused_leaves _ _ _ _ (BeforeOrExtended (g.P.Pmem.region c.args.memory.now) l held i h c.args.entries.now c.args.fresh.now) c.fence.ensures.same c.in_err-fence.ensures.refused_keep (left_before can _ _ _ c.append_entries.ensures.wrote settled);
}

pub returns-in_err-fence-clause-kept : goal.returns-in_err-fence-clause-kept
returns-in_err-fence-clause-kept g c = record {
  wrote = fenced_stores c.fence.result _ _ _ _ _ _ _ (stores_within (ExtendWords c.args.slot c.args.tail c.args.entries.now c.args.fresh.now) (AppendWords c.args.tail c.args.fresh.now) _ _ _ _ (λ k x one. inl one) c.append_entries.ensures.wrote) c.fence.ensures.same c.fence.ensures.fenced c.fence.ensures.refused_keep (g.met.P.Pmem.holds_now _);
  stopped = search rules;
  keeps_fuse = keeps_more (λ limit past. omega arith) (keeps_within (λ limit past. past.0) c.append_entries.ensures.keeps_fuse) c.fence.ensures.keeps_fuse;
  settled = search rules;
}

pub returns-in_err-commit_word-clause-moments : goal.returns-in_err-commit_word-clause-moments
returns-in_err-commit_word-clause-moments g c l held i h can = record {
  reads = let appends : Appends (g.P.Pmem.region c.args.memory.now) (g.P.Pmem.region c.fence.new.self) c.args.tail c.in_ok-end.end c.args.entries.now c.args.fresh.now = subst (λ (X : Region). Appends (g.P.Pmem.region c.args.memory.now) X c.args.tail c.in_ok-end.end c.args.entries.now c.args.fresh.now) (sym c.in_ok-fence.ensures.same) c.in_ok-end.ensures.appends in
      once_committed can (g.P.Pmem.region c.fence.new.self) c.in_ok-end.end c.in_ok-end.ensures.end appends c.requires.whole c.requires.inside c.len-length.ensures.short (g.P.Pmem.region c.commit_word.new.memory) c.commit_word.ensures.reads;
  any_stop = λ settled left may. let appends : Appends (g.P.Pmem.region c.args.memory.now) (g.P.Pmem.region c.fence.new.self) c.args.tail c.in_ok-end.end c.args.entries.now c.args.fresh.now = subst (λ (X : Region). Appends (g.P.Pmem.region c.args.memory.now) X c.args.tail c.in_ok-end.end c.args.entries.now c.args.fresh.now) (sym c.in_ok-fence.ensures.same) c.in_ok-end.ensures.appends in
      once_committed can (g.P.Pmem.region c.fence.new.self) c.in_ok-end.end c.in_ok-end.ensures.end appends c.requires.whole c.requires.inside c.len-length.ensures.short left (c.commit_word.ensures.any_stop c.in_ok-fence.ensures.fenced left may);
}

pub returns-in_err-commit_word-clause-kept : goal.returns-in_err-commit_word-clause-kept
returns-in_err-commit_word-clause-kept g c = record {
  wrote = stores_more (ExtendWords c.args.slot c.args.tail c.args.entries.now c.args.fresh.now) (One (c.args.slot + 24) c.in_ok-end.end) _ _ _ _ _ _ (λ k x one. inr (subst (λ (n : ℕ). One (c.args.slot + 24) n k x) c.in_ok-end.ensures.end one))
      (fenced_stores c.fence.result _ _ _ _ _ _ _ (stores_within (ExtendWords c.args.slot c.args.tail c.args.entries.now c.args.fresh.now) (AppendWords c.args.tail c.args.fresh.now) _ _ _ _ (λ k x one. inl one) c.append_entries.ensures.wrote) c.fence.ensures.same c.fence.ensures.fenced c.fence.ensures.refused_keep (g.met.P.Pmem.holds_now _)) c.commit_word.ensures.wrote;
  stopped = search rules;
  keeps_fuse = keeps_more (λ limit past. (let inside = past.1 in omega arith)) (keeps_more (λ limit past. omega arith) (keeps_within (λ limit past. past.0) c.append_entries.ensures.keeps_fuse) c.fence.ensures.keeps_fuse) c.commit_word.ensures.keeps_fuse;
  settled = search rules;
}

pub returns-clause-moments : goal.returns-clause-moments
returns-clause-moments g c l held i h can = record {
  reads = let appends : Appends (g.P.Pmem.region c.args.memory.now) (g.P.Pmem.region c.fence.new.self) c.args.tail c.in_ok-end.end c.args.entries.now c.args.fresh.now = subst (λ (X : Region). Appends (g.P.Pmem.region c.args.memory.now) X c.args.tail c.in_ok-end.end c.args.entries.now c.args.fresh.now) (sym c.in_ok-fence.ensures.same) c.in_ok-end.ensures.appends in
      once_committed can (g.P.Pmem.region c.fence.new.self) c.in_ok-end.end c.in_ok-end.ensures.end appends c.requires.whole c.requires.inside c.len-length.ensures.short (g.P.Pmem.region c.commit_word.new.memory) c.commit_word.ensures.reads;
  any_stop = λ settled left may. let appends : Appends (g.P.Pmem.region c.args.memory.now) (g.P.Pmem.region c.fence.new.self) c.args.tail c.in_ok-end.end c.args.entries.now c.args.fresh.now = subst (λ (X : Region). Appends (g.P.Pmem.region c.args.memory.now) X c.args.tail c.in_ok-end.end c.args.entries.now c.args.fresh.now) (sym c.in_ok-fence.ensures.same) c.in_ok-end.ensures.appends in
      once_committed can (g.P.Pmem.region c.fence.new.self) c.in_ok-end.end c.in_ok-end.ensures.end appends c.requires.whole c.requires.inside c.len-length.ensures.short left (c.commit_word.ensures.any_stop c.in_ok-fence.ensures.fenced left may);
}

pub returns-clause-kept : goal.returns-clause-kept
returns-clause-kept g c = record {
  wrote = stores_more (ExtendWords c.args.slot c.args.tail c.args.entries.now c.args.fresh.now) (One (c.args.slot + 24) c.in_ok-end.end) _ _ _ _ _ _ (λ k x one. inr (subst (λ (n : ℕ). One (c.args.slot + 24) n k x) c.in_ok-end.ensures.end one))
      (fenced_stores c.fence.result _ _ _ _ _ _ _ (stores_within (ExtendWords c.args.slot c.args.tail c.args.entries.now c.args.fresh.now) (AppendWords c.args.tail c.args.fresh.now) _ _ _ _ (λ k x one. inl one) c.append_entries.ensures.wrote) c.fence.ensures.same c.fence.ensures.fenced c.fence.ensures.refused_keep (g.met.P.Pmem.holds_now _)) c.commit_word.ensures.wrote;
  stopped = sym (ap is_err c.in_ok-commit_word.was) ∙ c.commit_word.ensures.stopped;
  keeps_fuse = keeps_more (λ limit past. (let inside = past.1 in omega arith)) (keeps_more (λ limit past. omega arith) (keeps_within (λ limit past. past.0) c.append_entries.ensures.keeps_fuse) c.fence.ensures.keeps_fuse) c.commit_word.ensures.keeps_fuse;
  settled = c.in_ok-commit_word.ensures.settled;
}

pub returns-clause-shows : goal.returns-clause-shows
returns-clause-shows g c l held i h can =
    let appends : Appends (g.P.Pmem.region c.args.memory.now) (g.P.Pmem.region c.fence.new.self) c.args.tail c.in_ok-end.end c.args.entries.now c.args.fresh.now = subst (λ (X : Region). Appends (g.P.Pmem.region c.args.memory.now) X c.args.tail c.in_ok-end.end c.args.entries.now c.args.fresh.now) (sym c.in_ok-fence.ensures.same) c.in_ok-end.ensures.appends in
    subst (λ (X : Region). ShowsMoved (g.P.Pmem.region c.args.memory.now) l (with_log held i h c.args.entries.now c.args.fresh.now) X) (sym c.in_ok-commit_word.ensures.done) (put_after can (g.P.Pmem.region c.fence.new.self) c.in_ok-end.end c.in_ok-end.ensures.end appends c.requires.whole c.requires.inside c.len-length.ensures.short)

pub returns-in_err-end-clause-loose_stop : goal.returns-in_err-end-clause-loose_stop
returns-in_err-end-clause-loose_stop g c l held i h can pending =
    loose_left can _ _ _ c.append_entries.ensures.wrote pending

pub returns-in_err-fence-clause-loose_stop : goal.returns-in_err-fence-clause-loose_stop
returns-in_err-fence-clause-loose_stop g c l held i h can pending =
    refused_leaves _ _ _ _ (LooseOrExtended (g.P.Pmem.region c.args.memory.now) l held i h c.args.slot c.args.tail c.args.entries.now c.args.fresh.now) c.fence.ensures.same c.in_err-fence.ensures.refused_keep (loose_left can _ _ _ c.append_entries.ensures.wrote pending)

pub returns-in_err-commit_word-clause-loose_stop : goal.returns-in_err-commit_word-clause-loose_stop
returns-in_err-commit_word-clause-loose_stop g c l held i h can pending left may =
    let appends : Appends (g.P.Pmem.region c.args.memory.now) (g.P.Pmem.region c.fence.new.self) c.args.tail c.in_ok-end.end c.args.entries.now c.args.fresh.now = subst (λ (X : Region). Appends (g.P.Pmem.region c.args.memory.now) X c.args.tail c.in_ok-end.end c.args.entries.now c.args.fresh.now) (sym c.in_ok-fence.ensures.same) c.in_ok-end.ensures.appends in
    then_committed can (g.P.Pmem.region c.fence.new.self) c.in_ok-end.end c.in_ok-end.ensures.end appends c.requires.whole c.requires.inside c.len-length.ensures.short left (c.commit_word.ensures.any_stop c.in_ok-fence.ensures.fenced left may)

pub returns-clause-loose_stop : goal.returns-clause-loose_stop
returns-clause-loose_stop g c l held i h can pending left may =
    let appends : Appends (g.P.Pmem.region c.args.memory.now) (g.P.Pmem.region c.fence.new.self) c.args.tail c.in_ok-end.end c.args.entries.now c.args.fresh.now = subst (λ (X : Region). Appends (g.P.Pmem.region c.args.memory.now) X c.args.tail c.in_ok-end.end c.args.entries.now c.args.fresh.now) (sym c.in_ok-fence.ensures.same) c.in_ok-end.ensures.appends in
    then_committed can (g.P.Pmem.region c.fence.new.self) c.in_ok-end.end c.in_ok-end.ensures.end appends c.requires.whole c.requires.inside c.len-length.ensures.short left (c.commit_word.ensures.any_stop c.in_ok-fence.ensures.fenced left may)

use Rattle.std.proofs.Common.{rules, inl, inr, ap, ◌∙◌, arith}
use Rattle.std.proofs.lemmas.Result.{on_ok_weaker}
use Rattle.nv_region.proofs.Fuses.{keeps_more, keeps_within}
use Rattle.nv_region.specs.Region.{Region, put}
use Rattle.nv_region.specs.Stops.{One}
use Rattle.nv_region.specs.Stored.{Within}
use Rattle.nv_region.proofs.Stops.{mixed_left}
use Rattle.nv_region.proofs.Wordwise.{stores_more, stores_within, within_one}
use Rattle.nv_journal.specs.Undo.{journal, enqueue}
use Rattle.nv_journal.specs.Recorded.{Changes, CommitWords, JournalWords, Two}
use Rattle.nv_journal.proofs.Both.{while_begun, while_pending, once_stored, still_small, changed}
use Rattle.nv_journal.proofs.InOrder.{behind_journal, first_later, first_since}
use Rattle.nv_journal.proofs.Faultless.{begun_faultless, pending_faultless, emptied_faultless}
use Rattle.nv_journal.proofs.committing.change_two.Goals as goal

pub begin-requires-clause-inside : goal.begin-requires-clause-inside
begin-requires-clause-inside g c = c.requires.ready.inside

pub begin-requires-clause-empty : goal.begin-requires-clause-empty
begin-requires-clause-empty g c = c.requires.ready.empty

pub returns-in_err-begin-clause-undo_gives : goal.returns-in_err-begin-clause-undo_gives
returns-in_err-begin-clause-undo_gives g c permits cpus can = record {
  moments = record { reads = while_begun permits cpus _ c.args.cpu c.args.first c.args.first_value c.args.second c.args.second_value _ _ c.load-old_first.ensures c.load-old_second.ensures can _ c.begin.ensures.moments.reads; any_stop = λ settled left may. while_begun permits cpus _ c.args.cpu c.args.first c.args.first_value c.args.second c.args.second_value _ _ c.load-old_first.ensures c.load-old_second.ensures can left (c.begin.ensures.moments.any_stop settled left may) };
  faultless = λ none. record { reads = begun_faultless permits cpus _ c.args.cpu c.args.first c.args.first_value c.args.second c.args.second_value _ _ can none _ c.begin.ensures.moments.reads; any_stop = λ settled left may. begun_faultless permits cpus _ c.args.cpu c.args.first c.args.first_value c.args.second c.args.second_value _ _ can none left (c.begin.ensures.moments.any_stop settled left may) };
}

pub returns-in_err-begin-clause-kept : goal.returns-in_err-begin-clause-kept
returns-in_err-begin-clause-kept g c = record {
  stores = record {
    wrote = stores_within (Changes c.args.cpu c.args.first c.args.first_value c.args.second c.args.second_value) (Within (journal c.args.cpu) 4096) _ _ _ _ (λ i x here. inl here) c.begin.ensures.kept.wrote;
    stopped = search rules;
    keeps_fuse = keeps_within (λ limit past. past.0) c.begin.ensures.kept.keeps_fuse;
    settled = search rules;
  };
  keeps_link = stores_within (CommitWords c.args.cpu c.args.first c.args.first_value c.args.second c.args.second_value) (JournalWords c.args.cpu) _ _ _ _ (λ i x here. inl here) c.begin.ensures.keeps_link;
  empty = search rules;
}

pub returns-in_err-store_both-clause-undo_gives : goal.returns-in_err-store_both-clause-undo_gives
returns-in_err-store_both-clause-undo_gives g c permits cpus can = record {
  moments = record {
    reads = while_pending permits cpus _ c.args.cpu c.args.first c.args.first_value c.args.second c.args.second_value _ _ c.load-old_first.ensures c.load-old_second.ensures can _ c.begin.ensures.moments.reads c.in_ok-begin.ensures.pending _ c.store_both.ensures.wrote.mixed;
    any_stop = λ settled left may. while_pending permits cpus _ c.args.cpu c.args.first c.args.first_value c.args.second c.args.second_value _ _ c.load-old_first.ensures c.load-old_second.ensures can _ c.begin.ensures.moments.reads c.in_ok-begin.ensures.pending left
        (mixed_left _ _ (Two c.args.first c.args.first_value c.args.second c.args.second_value) _ _ c.store_both.ensures.wrote.mixed.as_long c.store_both.ensures.wrote.mixed.same_rest c.in_ok-begin.ensures.kept.settled c.store_both.ensures.wrote.adds left may);
  };
  faultless = λ none. record {
    reads = pending_faultless permits cpus _ c.args.cpu c.args.first c.args.first_value c.args.second c.args.second_value _ _ can none _ c.begin.ensures.moments.reads _ c.store_both.ensures.wrote.mixed;
    any_stop = λ settled left may. pending_faultless permits cpus _ c.args.cpu c.args.first c.args.first_value c.args.second c.args.second_value _ _ can none _ c.begin.ensures.moments.reads left
        (mixed_left _ _ (Two c.args.first c.args.first_value c.args.second c.args.second_value) _ _ c.store_both.ensures.wrote.mixed.as_long c.store_both.ensures.wrote.mixed.same_rest c.in_ok-begin.ensures.kept.settled c.store_both.ensures.wrote.adds left may);
  };
}

pub returns-in_err-store_both-clause-kept : goal.returns-in_err-store_both-clause-kept
returns-in_err-store_both-clause-kept g c = record {
  stores = record {
    wrote = let these = Changes c.args.cpu c.args.first c.args.first_value c.args.second c.args.second_value in
        stores_more these (Two c.args.first c.args.first_value c.args.second c.args.second_value) _ _ _ _ _ _ (λ i x here. inr here) (stores_within these (Within (journal c.args.cpu) 4096) _ _ _ _ (λ i x here. inl here) c.begin.ensures.kept.wrote) c.store_both.ensures.wrote;
    stopped = search rules;
    keeps_fuse = keeps_more (λ limit past. (past.1, past.2)) (keeps_within (λ limit past. past.0) c.begin.ensures.kept.keeps_fuse) c.store_both.ensures.keeps_fuse;
    settled = search rules;
  };
  keeps_link = let these = CommitWords c.args.cpu c.args.first c.args.first_value c.args.second c.args.second_value in
      stores_more these (Two c.args.first c.args.first_value c.args.second c.args.second_value) _ _ _ _ _ _ (λ i x here. inr here) (stores_within these (JournalWords c.args.cpu) _ _ _ _ (λ i x here. inl here) c.begin.ensures.keeps_link) c.store_both.ensures.wrote;
  empty = search rules;
}

pub returns-clause-undo_gives : goal.returns-clause-undo_gives
returns-clause-undo_gives g c permits cpus can = record {
  moments = record { reads = once_stored permits cpus _ c.args.cpu c.args.first c.args.first_value c.args.second c.args.second_value _ _ c.load-old_first.ensures c.load-old_second.ensures can _ c.begin.ensures.moments.reads c.in_ok-begin.ensures.pending _ _ c.in_ok-store_both.ensures.done c.store_both.ensures.wrote.mixed c.commit.ensures.reads; any_stop = λ settled left may. once_stored permits cpus _ c.args.cpu c.args.first c.args.first_value c.args.second c.args.second_value _ _ c.load-old_first.ensures c.load-old_second.ensures can _ c.begin.ensures.moments.reads c.in_ok-begin.ensures.pending _ left c.in_ok-store_both.ensures.done c.store_both.ensures.wrote.mixed (c.commit.ensures.any_stop c.in_ok-store_both.ensures.settled left may) };
  faultless = λ none. record { reads = emptied_faultless permits cpus _ c.args.cpu c.args.first c.args.first_value c.args.second c.args.second_value _ _ can none _ c.begin.ensures.moments.reads _ c.store_both.ensures.wrote.mixed c.in_ok-begin.ensures.pending _ c.commit.ensures.reads; any_stop = λ settled left may. emptied_faultless permits cpus _ c.args.cpu c.args.first c.args.first_value c.args.second c.args.second_value _ _ can none _ c.begin.ensures.moments.reads _ c.store_both.ensures.wrote.mixed c.in_ok-begin.ensures.pending left (c.commit.ensures.any_stop c.in_ok-store_both.ensures.settled left may) };
}

pub returns-clause-kept : goal.returns-clause-kept
returns-clause-kept g c = record {
  stores = record {
    wrote = let these = Changes c.args.cpu c.args.first c.args.first_value c.args.second c.args.second_value in
        stores_more these (One (journal c.args.cpu) (enqueue (g.P.Pmem.region c.store_both.new.memory) c.args.cpu)) _ _ _ _ _ _ (λ i x one. inl (within_one (journal c.args.cpu) 4096 (journal c.args.cpu) _ (omega arith) (omega arith) (omega arith) i x one)) (stores_more these (Two c.args.first c.args.first_value c.args.second c.args.second_value) _ _ _ _ _ _ (λ i x here. inr here) (stores_within these (Within (journal c.args.cpu) 4096) _ _ _ _ (λ i x here. inl here) c.begin.ensures.kept.wrote) c.store_both.ensures.wrote)
        c.commit.ensures.wrote;
    stopped = search rules;
    keeps_fuse = keeps_more (λ limit past. let journal = past.0 in omega arith) (keeps_more (λ limit past. (past.1, past.2)) (keeps_within (λ limit past. past.0) c.begin.ensures.kept.keeps_fuse) c.store_both.ensures.keeps_fuse) c.commit.ensures.keeps_fuse;
    settled = search rules;
  };
  keeps_link = let these = CommitWords c.args.cpu c.args.first c.args.first_value c.args.second c.args.second_value in
      stores_more these (One (journal c.args.cpu) (enqueue (g.P.Pmem.region c.store_both.new.memory) c.args.cpu)) _ _ _ _ _ _ (λ i x one. inl (inl (within_one (journal c.args.cpu) 16 (journal c.args.cpu) _ (omega arith) (omega arith) (omega arith) i x one))) (stores_more these (Two c.args.first c.args.first_value c.args.second c.args.second_value) _ _ _ _ _ _ (λ i x here. inr here) (stores_within these (JournalWords c.args.cpu) _ _ _ _ (λ i x here. inl here) c.begin.ensures.keeps_link) c.store_both.ensures.wrote)
      c.commit.ensures.wrote;
  empty = on_ok_weaker c.commit.result (λ empty. empty (still_small (g.P.Pmem.region c.begin.new.memory) (g.P.Pmem.region c.store_both.new.memory) c.args.cpu c.args.first c.args.first_value c.args.second c.args.second_value _ c.in_ok-begin.ensures.pending c.requires.behind c.in_ok-store_both.ensures.done)) c.commit.ensures.empty;
}

pub returns-clause-done : goal.returns-clause-done
returns-clause-done g c = on_ok_weaker c.commit.result (λ done. changed (g.P.Pmem.region c.args.memory.now) (g.P.Pmem.region c.begin.new.memory) _ c.args.cpu c.args.first c.args.first_value c.args.second c.args.second_value _ c.begin.ensures.moments.reads (done ∙ ap (λ (X : Region). put X (journal c.args.cpu) (enqueue X c.args.cpu)) c.in_ok-store_both.ensures.done)) c.commit.ensures.done

pub returns-in_err-begin-clause-in_order : goal.returns-in_err-begin-clause-in_order
returns-in_err-begin-clause-in_order g c differ = inl (c.begin.ensures.moments.reads.others.behind c.args.second c.requires.second.0 c.requires.behind.1)

pub returns-in_err-store_both-clause-in_order : goal.returns-in_err-store_both-clause-in_order
returns-in_err-store_both-clause-in_order g c differ = first_since (g.P.Pmem.region c.args.memory.now) (g.P.Pmem.region c.begin.new.memory) (g.P.Pmem.region c.store_both.new.memory) c.args.first c.args.first_value c.args.second (c.begin.ensures.moments.reads.others.behind c.args.second c.requires.second.0 c.requires.behind.1) (c.store_both.ensures.in_order differ)

pub returns-clause-in_order : goal.returns-clause-in_order
returns-clause-in_order g c differ =
    let stored = first_since (g.P.Pmem.region c.args.memory.now) (g.P.Pmem.region c.begin.new.memory) (g.P.Pmem.region c.store_both.new.memory) c.args.first c.args.first_value c.args.second (c.begin.ensures.moments.reads.others.behind c.args.second c.requires.second.0 c.requires.behind.1) (c.store_both.ensures.in_order differ) in
    first_later (g.P.Pmem.region c.args.memory.now) (g.P.Pmem.region c.store_both.new.memory) (g.P.Pmem.region c.commit.new.memory) c.args.first c.args.first_value c.args.second (behind_journal (g.P.Pmem.region c.store_both.new.memory) (g.P.Pmem.region c.commit.new.memory) c.args.cpu (enqueue (g.P.Pmem.region c.store_both.new.memory) c.args.cpu) c.args.first c.commit.ensures.reads c.requires.behind.0) (behind_journal (g.P.Pmem.region c.store_both.new.memory) (g.P.Pmem.region c.commit.new.memory) c.args.cpu (enqueue (g.P.Pmem.region c.store_both.new.memory) c.args.cpu) c.args.second c.commit.ensures.reads c.requires.behind.1) stored

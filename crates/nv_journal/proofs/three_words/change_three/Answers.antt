use Rattle.std.proofs.Common.{rules, ◌∷◌, [], inl, inr, ap, ◌∙◌, arith}
use Rattle.std.proofs.lemmas.Result.{on_ok_weaker}
use Rattle.nv_region.proofs.Fuses.{keeps_more, keeps_within}
use Rattle.nv_region.specs.Region.{Region, put}
use Rattle.nv_region.specs.Stops.{One}
use Rattle.nv_region.specs.Stored.{Within}
use Rattle.nv_region.proofs.Stops.{mixed_left}
use Rattle.nv_region.proofs.Wordwise.{stores_more, stores_within, within_one}
use Rattle.nv_journal.specs.Undo.{journal, enqueue}
use Rattle.nv_journal.specs.Recorded.{JournalWords}
use Rattle.nv_journal.specs.Several.{ChangesAll, CommitsAll, Values}
use Rattle.nv_journal.proofs.InOrder.{behind_journal, three_later, three_since}
use Rattle.nv_journal.proofs.Several.{all_begun, all_begun_faultless, all_changed, all_emptied_faultless, all_pending, all_pending_faultless, all_small, all_stored, three_begun, three_pending}
use Rattle.nv_journal.proofs.three_words.change_three.Goals as goal

pub begin-requires-clause-inside : goal.begin-requires-clause-inside
begin-requires-clause-inside g c = c.requires.ready.inside

pub begin-requires-clause-empty : goal.begin-requires-clause-empty
begin-requires-clause-empty g c = c.requires.ready.empty

pub returns-in_err-begin-clause-undo_gives : goal.returns-in_err-begin-clause-undo_gives
returns-in_err-begin-clause-undo_gives g c permits cpus can = record {
  moments = record { reads = all_begun permits cpus (g.P.Pmem.region c.args.memory.now) c.args.cpu (c.args.first ∷ c.args.second ∷ c.args.third ∷ []) can _ (three_begun (g.P.Pmem.region c.args.memory.now) c.args.cpu c.args.first c.args.second c.args.third _ _ _ c.load-old_first.ensures c.load-old_second.ensures c.load-old_third.ensures _ c.begin.ensures.moments.reads); any_stop = λ settled left may. all_begun permits cpus (g.P.Pmem.region c.args.memory.now) c.args.cpu (c.args.first ∷ c.args.second ∷ c.args.third ∷ []) can left (three_begun (g.P.Pmem.region c.args.memory.now) c.args.cpu c.args.first c.args.second c.args.third _ _ _ c.load-old_first.ensures c.load-old_second.ensures c.load-old_third.ensures left (c.begin.ensures.moments.any_stop settled left may)) };
  faultless = λ none. record { reads = all_begun_faultless permits cpus (g.P.Pmem.region c.args.memory.now) c.args.cpu (c.args.first ∷ c.args.second ∷ c.args.third ∷ []) can none _ (three_begun (g.P.Pmem.region c.args.memory.now) c.args.cpu c.args.first c.args.second c.args.third _ _ _ c.load-old_first.ensures c.load-old_second.ensures c.load-old_third.ensures _ c.begin.ensures.moments.reads); any_stop = λ settled left may. all_begun_faultless permits cpus (g.P.Pmem.region c.args.memory.now) c.args.cpu (c.args.first ∷ c.args.second ∷ c.args.third ∷ []) can none left (three_begun (g.P.Pmem.region c.args.memory.now) c.args.cpu c.args.first c.args.second c.args.third _ _ _ c.load-old_first.ensures c.load-old_second.ensures c.load-old_third.ensures left (c.begin.ensures.moments.any_stop settled left may)) };
}

pub returns-in_err-begin-clause-kept : goal.returns-in_err-begin-clause-kept
returns-in_err-begin-clause-kept g c = record {
  stores = record {
    wrote = let these = ChangesAll c.args.cpu (c.args.first ∷ c.args.second ∷ c.args.third ∷ []) in stores_within these (Within (journal c.args.cpu) 4096) _ _ _ _ (λ i x here. inl here) c.begin.ensures.kept.wrote;
    stopped = search rules;
    keeps_fuse = keeps_within (λ limit past. past.0) c.begin.ensures.kept.keeps_fuse;
    settled = search rules;
  };
  keeps_link = let these = CommitsAll c.args.cpu (c.args.first ∷ c.args.second ∷ c.args.third ∷ []) in stores_within these (JournalWords c.args.cpu) _ _ _ _ (λ i x here. inl here) c.begin.ensures.keeps_link;
  empty = search rules;
}

pub returns-in_err-store_three-clause-undo_gives : goal.returns-in_err-store_three-clause-undo_gives
returns-in_err-store_three-clause-undo_gives g c permits cpus can = record {
  moments = record { reads = all_pending permits cpus (g.P.Pmem.region c.args.memory.now) c.args.cpu (c.args.first ∷ c.args.second ∷ c.args.third ∷ []) can _ (three_begun (g.P.Pmem.region c.args.memory.now) c.args.cpu c.args.first c.args.second c.args.third _ _ _ c.load-old_first.ensures c.load-old_second.ensures c.load-old_third.ensures _ c.begin.ensures.moments.reads) (three_pending (g.P.Pmem.region c.args.memory.now) c.args.cpu c.args.first c.args.second c.args.third _ _ _ c.load-old_first.ensures c.load-old_second.ensures c.load-old_third.ensures _ c.in_ok-begin.ensures.pending) _ c.store_three.ensures.wrote.mixed; any_stop = λ settled left may. all_pending permits cpus (g.P.Pmem.region c.args.memory.now) c.args.cpu (c.args.first ∷ c.args.second ∷ c.args.third ∷ []) can _ (three_begun (g.P.Pmem.region c.args.memory.now) c.args.cpu c.args.first c.args.second c.args.third _ _ _ c.load-old_first.ensures c.load-old_second.ensures c.load-old_third.ensures _ c.begin.ensures.moments.reads) (three_pending (g.P.Pmem.region c.args.memory.now) c.args.cpu c.args.first c.args.second c.args.third _ _ _ c.load-old_first.ensures c.load-old_second.ensures c.load-old_third.ensures _ c.in_ok-begin.ensures.pending) left (mixed_left _ _ (Values (c.args.first ∷ c.args.second ∷ c.args.third ∷ [])) _ _ c.store_three.ensures.wrote.mixed.as_long c.store_three.ensures.wrote.mixed.same_rest c.in_ok-begin.ensures.kept.settled c.store_three.ensures.wrote.adds left may) };
  faultless = λ none. record { reads = all_pending_faultless permits cpus (g.P.Pmem.region c.args.memory.now) c.args.cpu (c.args.first ∷ c.args.second ∷ c.args.third ∷ []) can none _ (three_begun (g.P.Pmem.region c.args.memory.now) c.args.cpu c.args.first c.args.second c.args.third _ _ _ c.load-old_first.ensures c.load-old_second.ensures c.load-old_third.ensures _ c.begin.ensures.moments.reads) _ c.store_three.ensures.wrote.mixed; any_stop = λ settled left may. all_pending_faultless permits cpus (g.P.Pmem.region c.args.memory.now) c.args.cpu (c.args.first ∷ c.args.second ∷ c.args.third ∷ []) can none _ (three_begun (g.P.Pmem.region c.args.memory.now) c.args.cpu c.args.first c.args.second c.args.third _ _ _ c.load-old_first.ensures c.load-old_second.ensures c.load-old_third.ensures _ c.begin.ensures.moments.reads) left (mixed_left _ _ (Values (c.args.first ∷ c.args.second ∷ c.args.third ∷ [])) _ _ c.store_three.ensures.wrote.mixed.as_long c.store_three.ensures.wrote.mixed.same_rest c.in_ok-begin.ensures.kept.settled c.store_three.ensures.wrote.adds left may) };
}

pub returns-in_err-store_three-clause-kept : goal.returns-in_err-store_three-clause-kept
returns-in_err-store_three-clause-kept g c = record {
  stores = record {
    wrote = let these = ChangesAll c.args.cpu (c.args.first ∷ c.args.second ∷ c.args.third ∷ []) in stores_more these (Values (c.args.first ∷ c.args.second ∷ c.args.third ∷ [])) _ _ _ _ _ _ (λ i x here. inr here) (stores_within these (Within (journal c.args.cpu) 4096) _ _ _ _ (λ i x here. inl here) c.begin.ensures.kept.wrote) c.store_three.ensures.wrote;
    stopped = search rules;
    keeps_fuse = keeps_more (λ limit past. (past.1, past.2, past.3)) (keeps_within (λ limit past. past.0) c.begin.ensures.kept.keeps_fuse) c.store_three.ensures.keeps_fuse;
    settled = search rules;
  };
  keeps_link = let these = CommitsAll c.args.cpu (c.args.first ∷ c.args.second ∷ c.args.third ∷ []) in stores_more these (Values (c.args.first ∷ c.args.second ∷ c.args.third ∷ [])) _ _ _ _ _ _ (λ i x here. inr here) (stores_within these (JournalWords c.args.cpu) _ _ _ _ (λ i x here. inl here) c.begin.ensures.keeps_link) c.store_three.ensures.wrote;
  empty = search rules;
}

pub returns-clause-undo_gives : goal.returns-clause-undo_gives
returns-clause-undo_gives g c permits cpus can = record {
  moments = record { reads = all_stored permits cpus (g.P.Pmem.region c.args.memory.now) c.args.cpu (c.args.first ∷ c.args.second ∷ c.args.third ∷ []) can _ (three_begun (g.P.Pmem.region c.args.memory.now) c.args.cpu c.args.first c.args.second c.args.third _ _ _ c.load-old_first.ensures c.load-old_second.ensures c.load-old_third.ensures _ c.begin.ensures.moments.reads) (three_pending (g.P.Pmem.region c.args.memory.now) c.args.cpu c.args.first c.args.second c.args.third _ _ _ c.load-old_first.ensures c.load-old_second.ensures c.load-old_third.ensures _ c.in_ok-begin.ensures.pending) _ _ c.in_ok-store_three.ensures.done c.store_three.ensures.wrote.mixed c.commit.ensures.reads; any_stop = λ settled left may. all_stored permits cpus (g.P.Pmem.region c.args.memory.now) c.args.cpu (c.args.first ∷ c.args.second ∷ c.args.third ∷ []) can _ (three_begun (g.P.Pmem.region c.args.memory.now) c.args.cpu c.args.first c.args.second c.args.third _ _ _ c.load-old_first.ensures c.load-old_second.ensures c.load-old_third.ensures _ c.begin.ensures.moments.reads) (three_pending (g.P.Pmem.region c.args.memory.now) c.args.cpu c.args.first c.args.second c.args.third _ _ _ c.load-old_first.ensures c.load-old_second.ensures c.load-old_third.ensures _ c.in_ok-begin.ensures.pending) _ left c.in_ok-store_three.ensures.done c.store_three.ensures.wrote.mixed (c.commit.ensures.any_stop c.in_ok-store_three.ensures.settled left may) };
  faultless = λ none. record { reads = all_emptied_faultless permits cpus (g.P.Pmem.region c.args.memory.now) c.args.cpu (c.args.first ∷ c.args.second ∷ c.args.third ∷ []) can none _ (three_begun (g.P.Pmem.region c.args.memory.now) c.args.cpu c.args.first c.args.second c.args.third _ _ _ c.load-old_first.ensures c.load-old_second.ensures c.load-old_third.ensures _ c.begin.ensures.moments.reads) _ c.store_three.ensures.wrote.mixed (three_pending (g.P.Pmem.region c.args.memory.now) c.args.cpu c.args.first c.args.second c.args.third _ _ _ c.load-old_first.ensures c.load-old_second.ensures c.load-old_third.ensures _ c.in_ok-begin.ensures.pending) _ c.commit.ensures.reads; any_stop = λ settled left may. all_emptied_faultless permits cpus (g.P.Pmem.region c.args.memory.now) c.args.cpu (c.args.first ∷ c.args.second ∷ c.args.third ∷ []) can none _ (three_begun (g.P.Pmem.region c.args.memory.now) c.args.cpu c.args.first c.args.second c.args.third _ _ _ c.load-old_first.ensures c.load-old_second.ensures c.load-old_third.ensures _ c.begin.ensures.moments.reads) _ c.store_three.ensures.wrote.mixed (three_pending (g.P.Pmem.region c.args.memory.now) c.args.cpu c.args.first c.args.second c.args.third _ _ _ c.load-old_first.ensures c.load-old_second.ensures c.load-old_third.ensures _ c.in_ok-begin.ensures.pending) left (c.commit.ensures.any_stop c.in_ok-store_three.ensures.settled left may) };
}

pub returns-clause-kept : goal.returns-clause-kept
returns-clause-kept g c = record {
  stores = record {
    wrote = let these = ChangesAll c.args.cpu (c.args.first ∷ c.args.second ∷ c.args.third ∷ []) in stores_more these (One (journal c.args.cpu) (enqueue (g.P.Pmem.region c.store_three.new.memory) c.args.cpu)) _ _ _ _ _ _ (λ i x one. inl (within_one (journal c.args.cpu) 4096 (journal c.args.cpu) _ (omega arith) (omega arith) (omega arith) i x one)) (stores_more these (Values (c.args.first ∷ c.args.second ∷ c.args.third ∷ [])) _ _ _ _ _ _ (λ i x here. inr here) (stores_within these (Within (journal c.args.cpu) 4096) _ _ _ _ (λ i x here. inl here) c.begin.ensures.kept.wrote) c.store_three.ensures.wrote) c.commit.ensures.wrote;
    stopped = search rules;
    keeps_fuse = keeps_more (λ limit past. let journal = past.0 in omega arith) (keeps_more (λ limit past. (past.1, past.2, past.3)) (keeps_within (λ limit past. past.0) c.begin.ensures.kept.keeps_fuse) c.store_three.ensures.keeps_fuse) c.commit.ensures.keeps_fuse;
    settled = search rules;
  };
  keeps_link = let these = CommitsAll c.args.cpu (c.args.first ∷ c.args.second ∷ c.args.third ∷ []) in stores_more these (One (journal c.args.cpu) (enqueue (g.P.Pmem.region c.store_three.new.memory) c.args.cpu)) _ _ _ _ _ _ (λ i x one. inl (inl (within_one (journal c.args.cpu) 16 (journal c.args.cpu) _ (omega arith) (omega arith) (omega arith) i x one))) (stores_more these (Values (c.args.first ∷ c.args.second ∷ c.args.third ∷ [])) _ _ _ _ _ _ (λ i x here. inr here) (stores_within these (JournalWords c.args.cpu) _ _ _ _ (λ i x here. inl here) c.begin.ensures.keeps_link) c.store_three.ensures.wrote) c.commit.ensures.wrote;
  empty = on_ok_weaker c.commit.result (λ empty. empty (all_small (g.P.Pmem.region c.begin.new.memory) (g.P.Pmem.region c.store_three.new.memory) c.args.cpu (c.args.first ∷ c.args.second ∷ c.args.third ∷ []) _ c.in_ok-begin.ensures.pending (c.requires.behind.0, (c.requires.behind.1, (c.requires.behind.2, tt))) c.in_ok-store_three.ensures.done)) c.commit.ensures.empty;
}

pub returns-clause-done : goal.returns-clause-done
returns-clause-done g c = on_ok_weaker c.commit.result (λ done. all_changed (g.P.Pmem.region c.args.memory.now) (g.P.Pmem.region c.begin.new.memory) _ c.args.cpu (c.args.first ∷ c.args.second ∷ c.args.third ∷ []) _ c.begin.ensures.moments.reads (done ∙ ap (λ (X : Region). put X (journal c.args.cpu) (enqueue X c.args.cpu)) c.in_ok-store_three.ensures.done)) c.commit.ensures.done

pub returns-in_err-begin-clause-in_order : goal.returns-in_err-begin-clause-in_order
returns-in_err-begin-clause-in_order g c one two three = (inl (c.begin.ensures.moments.reads.others.behind c.args.second.0 c.requires.second.0 c.requires.behind.1), inl (c.begin.ensures.moments.reads.others.behind c.args.third.0 c.requires.third.0 c.requires.behind.2))

pub returns-in_err-store_three-clause-in_order : goal.returns-in_err-store_three-clause-in_order
returns-in_err-store_three-clause-in_order g c one two three = three_since (g.P.Pmem.region c.args.memory.now) (g.P.Pmem.region c.begin.new.memory) (g.P.Pmem.region c.store_three.new.memory) c.args.first c.args.second c.args.third (c.begin.ensures.moments.reads.others.behind c.args.second.0 c.requires.second.0 c.requires.behind.1) (c.begin.ensures.moments.reads.others.behind c.args.third.0 c.requires.third.0 c.requires.behind.2) (c.store_three.ensures.in_order one two three)

pub returns-clause-in_order : goal.returns-clause-in_order
returns-clause-in_order g c one two three =
    three_later (g.P.Pmem.region c.args.memory.now) (g.P.Pmem.region c.store_three.new.memory) (g.P.Pmem.region c.commit.new.memory) c.args.first c.args.second c.args.third (behind_journal (g.P.Pmem.region c.store_three.new.memory) (g.P.Pmem.region c.commit.new.memory) c.args.cpu (enqueue (g.P.Pmem.region c.store_three.new.memory) c.args.cpu) c.args.first.0 c.commit.ensures.reads c.requires.behind.0) (behind_journal (g.P.Pmem.region c.store_three.new.memory) (g.P.Pmem.region c.commit.new.memory) c.args.cpu (enqueue (g.P.Pmem.region c.store_three.new.memory) c.args.cpu) c.args.second.0 c.commit.ensures.reads c.requires.behind.1) (behind_journal (g.P.Pmem.region c.store_three.new.memory) (g.P.Pmem.region c.commit.new.memory) c.args.cpu (enqueue (g.P.Pmem.region c.store_three.new.memory) c.args.cpu) c.args.third.0 c.commit.ensures.reads c.requires.behind.2)
    (three_since (g.P.Pmem.region c.args.memory.now) (g.P.Pmem.region c.begin.new.memory) (g.P.Pmem.region c.store_three.new.memory) c.args.first c.args.second c.args.third (c.begin.ensures.moments.reads.others.behind c.args.second.0 c.requires.second.0 c.requires.behind.1) (c.begin.ensures.moments.reads.others.behind c.args.third.0 c.requires.third.0 c.requires.behind.2) (c.store_three.ensures.in_order one two three))

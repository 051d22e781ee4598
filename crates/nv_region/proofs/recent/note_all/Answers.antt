use Rattle.std.proofs.Common.{◌∙◌, ap, length, List, ℕ, subst, sym}
use Rattle.nv_region.specs.Recent.{AreWithin, done_again}
use Rattle.nv_region.proofs.RecentStores.{AreNotedEach, all_noted, length-taken_back}
use Rattle.nv_region.proofs.recent.note_all.Goals as goal

pub take_back-requires : goal.take_back-requires
take_back-requires c = record { within = c.requires.held.within }

pub note_each-requires-clause-all : goal.note_each-requires-clause-all
note_each-requires-clause-all c = ap length c.take_back.ensures ∙ length-taken_back c.args.stores.now c.args.words.now ∙ c.requires.all

pub note_each-requires-clause-within : goal.note_each-requires-clause-within
note_each-requires-clause-within c = subst (AreWithin c.args.stores.now) (sym (ap length c.take_back.ensures ∙ length-taken_back c.args.stores.now c.args.words.now)) c.requires.held.within

pub do_again-requires : goal.do_again-requires
do_again-requires c = record { within = subst (AreWithin c.args.stores.now) (sym (ap length c.take_back.ensures ∙ length-taken_back c.args.stores.now c.args.words.now)) c.requires.held.within }

pub returns-clause-same : goal.returns-clause-same
returns-clause-same c = c.do_again.ensures ∙ ap (done_again c.args.stores.now) c.take_back.ensures ∙ c.requires.held.again

pub returns-clause-before : goal.returns-clause-before
returns-clause-before c =
    let s = c.args.stored.now in
    all_noted c.args.stores.now s.rows c.note_each.new.stored.rows s.kept c.note_each.new.stored.kept c.args.words.now
    (subst (λ (words : List ℕ). AreNotedEach c.args.stores.now s.rows s.kept c.note_each.new.stored.rows c.note_each.new.stored.kept words (length c.args.stores.now)) c.take_back.ensures c.note_each.ensures.before)

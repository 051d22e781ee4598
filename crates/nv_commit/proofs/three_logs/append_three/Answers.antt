use Rattle.std.proofs.Common.{◌∙◌, ap, inl, inr, is_err, sym}
use Rattle.std.proofs.lemmas.Result.{err_from_is_err_and}
use Rattle.nv_region.proofs.Fuses.{keeps_more, keeps_within}
use Rattle.nv_region.proofs.Wordwise.{stores_more, stores_within}
use Rattle.nv_logpage.specs.Append.{AppendWords}
use Rattle.nv_commit.specs.Together.{BothWords}
use Rattle.nv_commit.specs.ThreeLogs.{ThreeWords}
use Rattle.nv_commit.proofs.ThreeLogs.{can_append}
use Rattle.nv_commit.proofs.three_logs.append_three.Goals as goal

pub append_both-requires : goal.append_both-requires
append_both-requires g c = record { first = can_append c.args.first.now c.append_entries.ensures.len c.requires.first; second = can_append c.args.second.now c.append_entries.ensures.len c.requires.second }

pub returns-in_err-third_end-clause-wrote : goal.returns-in_err-third_end-clause-wrote
returns-in_err-third_end-clause-wrote g c = stores_within (ThreeWords c.args.first.now c.args.second.now c.args.third.now) (AppendWords c.args.third.now.tail c.args.third.now.fresh.now) _ _ _ _ (λ k v w. inl w) c.append_entries.ensures.wrote

pub returns-in_err-third_end-clause-stopped : goal.returns-in_err-third_end-clause-stopped
returns-in_err-third_end-clause-stopped g c =
    let error = err_from_is_err_and c.from_residual.result c.from_residual.ensures.1 in
    ap is_err error.1 ∙ sym c.in_err-third_end.ensures.stopped

pub returns-in_err-third_end-clause-keeps_fuse : goal.returns-in_err-third_end-clause-keeps_fuse
returns-in_err-third_end-clause-keeps_fuse g c = keeps_within (λ limit past. past.2) c.append_entries.ensures.keeps_fuse

pub returns-in_err-ends-clause-wrote : goal.returns-in_err-ends-clause-wrote
returns-in_err-ends-clause-wrote g c = stores_more (ThreeWords c.args.first.now c.args.second.now c.args.third.now) (BothWords c.args.first.now c.args.second.now) _ _ _ _ _ _ (λ k v w. inr w) (stores_within (ThreeWords c.args.first.now c.args.second.now c.args.third.now) (AppendWords c.args.third.now.tail c.args.third.now.fresh.now) _ _ _ _ (λ k v w. inl w) c.append_entries.ensures.wrote) c.append_both.ensures.wrote

pub returns-in_err-ends-clause-keeps_fuse : goal.returns-in_err-ends-clause-keeps_fuse
returns-in_err-ends-clause-keeps_fuse g c = keeps_more (λ limit past. (past.0, past.1)) (keeps_within (λ limit past. past.2) c.append_entries.ensures.keeps_fuse) c.append_both.ensures.keeps_fuse

pub returns-clause-appended : goal.returns-clause-appended
returns-clause-appended g c = record {
  before = g.P.Pmem.region c.append_entries.new.memory;
  own = c.in_ok-third_end.ensures.appends;
  both = c.in_ok-ends.ensures.appended;
  third_end = c.in_ok-third_end.ensures.end;
}

pub returns-clause-wrote : goal.returns-clause-wrote
returns-clause-wrote g c = stores_more (ThreeWords c.args.first.now c.args.second.now c.args.third.now) (BothWords c.args.first.now c.args.second.now) _ _ _ _ _ _ (λ k v w. inr w) (stores_within (ThreeWords c.args.first.now c.args.second.now c.args.third.now) (AppendWords c.args.third.now.tail c.args.third.now.fresh.now) _ _ _ _ (λ k v w. inl w) c.append_entries.ensures.wrote) c.append_both.ensures.wrote

pub returns-clause-keeps_fuse : goal.returns-clause-keeps_fuse
returns-clause-keeps_fuse g c = keeps_more (λ limit past. (past.0, past.1)) (keeps_within (λ limit past. past.2) c.append_entries.ensures.keeps_fuse) c.append_both.ensures.keeps_fuse

use Rattle.std.proofs.Common.{◌∙◌, ap, inl, inr, is_err, sym, subst, arith}
use Rattle.std.proofs.lemmas.Result.{err_from_is_err_and}
use Rattle.nv_region.specs.Region.{Region}
use Rattle.nv_region.proofs.Fuses.{keeps_more, keeps_within}
use Rattle.nv_region.proofs.Wordwise.{fenced_stores, stores_more, stores_within}
use Rattle.nv_logpage.specs.Append.{AppendWords}
use Rattle.nv_mounted.specs.Appended.{Appends}
use Rattle.nv_commit.specs.Together.{BothWords}
use Rattle.nv_commit.proofs.together.append_both.Goals as goal

pub append_entries-requires-2 : goal.append_entries-requires-2
append_entries-requires-2 g c =
    let can = c.requires.second in
    record {
      whole = can.whole;
      offset = can.offset;
      given = can.given;
      enough = can.enough;
      differ = can.differ;
      inside = λ j below. (let inside = can.inside j below in omega (arith, inside, c.append_entries.ensures.len));
    }

pub returns-in_err-first_end-clause-wrote : goal.returns-in_err-first_end-clause-wrote
returns-in_err-first_end-clause-wrote g c = stores_within (BothWords c.args.first.now c.args.second.now) (AppendWords c.args.first.now.tail c.args.first.now.fresh.now) _ _ _ _ (λ k v one. inl one) c.append_entries.ensures.wrote

pub returns-in_err-first_end-clause-stopped : goal.returns-in_err-first_end-clause-stopped
returns-in_err-first_end-clause-stopped g c =
    let error = err_from_is_err_and c.from_residual.result c.from_residual.ensures.1 in
    ap is_err error.1 ∙ sym c.in_err-first_end.ensures.stopped

pub returns-in_err-first_end-clause-keeps_fuse : goal.returns-in_err-first_end-clause-keeps_fuse
returns-in_err-first_end-clause-keeps_fuse g c = keeps_within (λ limit past. past.0) c.append_entries.ensures.keeps_fuse

pub returns-in_err-second_end-clause-wrote : goal.returns-in_err-second_end-clause-wrote
returns-in_err-second_end-clause-wrote g c =
    stores_more (BothWords c.args.first.now c.args.second.now) (AppendWords c.args.second.now.tail c.args.second.now.fresh.now) _ _ _ _ _ _ (λ k v one. inr one)
    (stores_within (BothWords c.args.first.now c.args.second.now) (AppendWords c.args.first.now.tail c.args.first.now.fresh.now) _ _ _ _ (λ k v one. inl one) c.append_entries.ensures.wrote) c.append_entries-2.ensures.wrote

pub returns-in_err-second_end-clause-stopped : goal.returns-in_err-second_end-clause-stopped
returns-in_err-second_end-clause-stopped g c =
    let error = err_from_is_err_and c.from_residual-in_err-second_end.result c.from_residual-in_err-second_end.ensures.1 in
    ap is_err error.1 ∙ sym c.in_err-second_end.ensures.stopped

pub returns-in_err-second_end-clause-keeps_fuse : goal.returns-in_err-second_end-clause-keeps_fuse
returns-in_err-second_end-clause-keeps_fuse g c = keeps_more (λ limit past. past.1) (keeps_within (λ limit past. past.0) c.append_entries.ensures.keeps_fuse) c.append_entries-2.ensures.keeps_fuse

pub returns-in_err-fence-clause-wrote : goal.returns-in_err-fence-clause-wrote
returns-in_err-fence-clause-wrote g c =
    fenced_stores c.fence.result _ _ _ _ _ _ _
    (stores_more (BothWords c.args.first.now c.args.second.now) (AppendWords c.args.second.now.tail c.args.second.now.fresh.now) _ _ _ _ _ _ (λ k v one. inr one)
    (stores_within (BothWords c.args.first.now c.args.second.now) (AppendWords c.args.first.now.tail c.args.first.now.fresh.now) _ _ _ _ (λ k v one. inl one) c.append_entries.ensures.wrote) c.append_entries-2.ensures.wrote)
    c.fence.ensures.same c.fence.ensures.fenced c.fence.ensures.refused_keep (g.met.P.Pmem.holds_now _)

pub returns-in_err-fence-clause-keeps_fuse : goal.returns-in_err-fence-clause-keeps_fuse
returns-in_err-fence-clause-keeps_fuse g c =
    keeps_more (λ limit past. omega arith) (keeps_more (λ limit past. past.1) (keeps_within (λ limit past. past.0) c.append_entries.ensures.keeps_fuse) c.append_entries-2.ensures.keeps_fuse) c.fence.ensures.keeps_fuse

pub returns-clause-wrote : goal.returns-clause-wrote
returns-clause-wrote g c =
    fenced_stores c.fence.result _ _ _ _ _ _ _
    (stores_more (BothWords c.args.first.now c.args.second.now) (AppendWords c.args.second.now.tail c.args.second.now.fresh.now) _ _ _ _ _ _ (λ k v one. inr one)
    (stores_within (BothWords c.args.first.now c.args.second.now) (AppendWords c.args.first.now.tail c.args.first.now.fresh.now) _ _ _ _ (λ k v one. inl one) c.append_entries.ensures.wrote) c.append_entries-2.ensures.wrote)
    c.fence.ensures.same c.fence.ensures.fenced c.fence.ensures.refused_keep (g.met.P.Pmem.holds_now _)

pub returns-clause-keeps_fuse : goal.returns-clause-keeps_fuse
returns-clause-keeps_fuse g c =
    keeps_more (λ limit past. omega arith) (keeps_more (λ limit past. past.1) (keeps_within (λ limit past. past.0) c.append_entries.ensures.keeps_fuse) c.append_entries-2.ensures.keeps_fuse) c.fence.ensures.keeps_fuse

pub returns-clause-appended : goal.returns-clause-appended
returns-clause-appended g c =
    let W = g.P.Pmem.region c.append_entries.new.memory in
    let x = c.args.first.now in
    let y = c.args.second.now in
    let one : Appends (g.P.Pmem.region c.args.memory.now) W x.tail c.in_ok-first_end.first_end x.entries.now x.fresh.now = c.in_ok-first_end.ensures.appends in
    let two : Appends W (g.P.Pmem.region c.append_entries-2.new.memory) y.tail c.in_ok-second_end.second_end y.entries.now y.fresh.now = c.in_ok-second_end.ensures.appends in
    record {
      between = W;
      first = one;
      second = subst (λ (S : Region). Appends W S y.tail c.in_ok-second_end.second_end y.entries.now y.fresh.now) (sym c.fence.ensures.same) two;
      first_end = c.in_ok-first_end.ensures.end;
      second_end = c.in_ok-second_end.ensures.end;
    }

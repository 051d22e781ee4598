use Rattle.std.proofs.Common.{ℕ, ◌≢◌, ◌+◌, ◌*◌, ◌≤◌, ap, refl, sym, ◌∙◌, subst, is_err, le_trans, lt_of_lt_of_le}
use Rattle.std.proofs.lemmas.Result.{err_from_is_err_and}
use Rattle.nv_region.specs.Region.{size}
use Rattle.nv_region.proofs.Fuses.{keeps_more}
use Rattle.nv_region.proofs.Wordwise.{stores_more, stores_none}
use Rattle.nv_super.specs.Runs.{InRun}
use Rattle.nv_mounted.proofs.BytesKept.{mixed_size}
use Rattle.nv_bytes.specs.Bytes.{byte_after, file_byte}
use Rattle.nv_bytes.specs.Storing.{HoldsPage, InBlocks}
use Rattle.nv_bytes.proofs.StoredPages.{page_next, same_pages, of_file, of_index, in_run_of, less_of, none_below}
use Rattle.nv_bytes.proofs.storing.store_run.Goals as goal
use Rattle.nv_bytes.specs.Data.{data_bytes}

pub loop-k-preserved : goal.loop-k-preserved
loop-k-preserved g c =
    let R0 = g.P.Pmem.region c.args.memory.now in
    let R = g.P.Pmem.region c.loop-k.memory in
    let S = g.P.Pmem.region c.store_page.new.memory in
    let n = c.args.change.now in
    let in_run = in_run_of c.args.run c.loop-k.k c.loop-k-test.true in
    record {
      stored = page_next R S (byte_after n.offset (data_bytes n.content) n.size (file_byte R0 c.args.index.now)) c.args.run.start c.args.page c.loop-k.k c.loop-k.invariant.stored c.store_page.ensures.wrote.mixed
          (same_pages R0 R S c.args.index.now (InBlocks (InRun c.args.run)) n.offset n.size (data_bytes n.content) (c.args.run.start + c.loop-k.k) (c.args.page + c.loop-k.k) c.loop-k.invariant.wrote.mixed
          (λ p b at i v w h. c.requires.apart p b at (subst (InRun c.args.run) w h))
          (of_file R S c.args.index.now c.get.result n.offset n.size (data_bytes n.content) (c.args.run.start + c.loop-k.k) (c.args.page + c.loop-k.k) c.get.ensures c.in_ok-store_page.ensures.stored));
      wrote = stores_more _ _ _ _ _ _ _ _ (λ i v t. subst (InRun c.args.run) (sym t) in_run) c.loop-k.invariant.wrote c.store_page.ensures.wrote;
      len = mixed_size c.store_page.ensures.wrote.mixed ∙ c.loop-k.invariant.len;
      quiet = λ was. sym c.store_page.ensures.stopped ∙ ap is_err c.in_ok-store_page.was;
      keeps_fuse = keeps_more (λ limit end. le_trans (c.requires.inside (c.args.run.start + c.loop-k.k) in_run) end) c.loop-k.invariant.keeps_fuse c.store_page.ensures.keeps_fuse;
    }

pub loop-k-init : goal.loop-k-init
loop-k-init g c = record {
  stored = λ j below. none_below (λ (j : ℕ). HoldsPage (g.P.Pmem.region c.args.memory.now) (byte_after c.args.change.now.offset (data_bytes c.args.change.now.content) c.args.change.now.size (file_byte (g.P.Pmem.region c.args.memory.now) c.args.index.now)) (c.args.run.start + j) (c.args.page + j)) j below;
  wrote = stores_none (InBlocks (InRun c.args.run)) (g.P.Pmem.region c.args.memory.now) (g.P.Pmem.may_hold c.args.memory.now);
  len = refl;
  quiet = λ was. was;
  keeps_fuse = record { burnt = λ was. was; steady = λ was. was; stays_open = λ limit past was. was };
}

pub store_page-requires-clause-from : goal.store_page-requires-clause-from
store_page-requires-clause-from g c =
    of_index c.args.index.now (c.args.page + c.loop-k.k) (λ (b : ℕ). b * 4096 + 4096 ≤ size (g.P.Pmem.region c.loop-k.memory)) c.get.result c.get.ensures
    (λ b at. subst (λ (n : ℕ). b * 4096 + 4096 ≤ n) (sym c.loop-k.invariant.len) (c.requires.mapped (c.args.page + c.loop-k.k) b at))

pub store_page-requires-clause-apart : goal.store_page-requires-clause-apart
store_page-requires-clause-apart g c =
    of_index c.args.index.now (c.args.page + c.loop-k.k) (λ (b : ℕ). b ≢ c.args.run.start + c.loop-k.k) c.get.result c.get.ensures
    (λ b at same. c.requires.apart (c.args.page + c.loop-k.k) b at (subst (InRun c.args.run) (sym same) (in_run_of c.args.run c.loop-k.k c.loop-k-test.true)))

pub store_page-requires-clause-to : goal.store_page-requires-clause-to
store_page-requires-clause-to g c =
    subst (λ (n : ℕ). (c.args.run.start + c.loop-k.k) * 4096 + 4096 ≤ n) (sym c.loop-k.invariant.len) (c.requires.inside (c.args.run.start + c.loop-k.k) (in_run_of c.args.run c.loop-k.k c.loop-k-test.true))

pub store_page-requires-clause-page : goal.store_page-requires-clause-page
store_page-requires-clause-page g c = less_of c.args.page c.loop-k-test.true c.requires.pages

pub store_page-requires-clause-small : goal.store_page-requires-clause-small
store_page-requires-clause-small g c = c.requires.small

pub returns-in_err-store_page-clause-wrote : goal.returns-in_err-store_page-clause-wrote
returns-in_err-store_page-clause-wrote g c =
    stores_more _ _ _ _ _ _ _ _ (λ i v t. subst (InRun c.args.run) (sym t) (in_run_of c.args.run c.loop-k.k c.loop-k-test.true)) c.loop-k.invariant.wrote c.store_page.ensures.wrote

pub returns-in_err-store_page-clause-stopped : goal.returns-in_err-store_page-clause-stopped
returns-in_err-store_page-clause-stopped g c = λ was.
    let error = err_from_is_err_and c.from_residual.result c.from_residual.ensures.1 in
    ap is_err error.1 ∙ sym (ap is_err c.in_err-store_page.was) ∙ c.store_page.ensures.stopped

pub returns-in_err-store_page-clause-keeps_fuse : goal.returns-in_err-store_page-clause-keeps_fuse
returns-in_err-store_page-clause-keeps_fuse g c =
    keeps_more (λ limit end. le_trans (c.requires.inside (c.args.run.start + c.loop-k.k) (in_run_of c.args.run c.loop-k.k c.loop-k-test.true)) end) c.loop-k.invariant.keeps_fuse c.store_page.ensures.keeps_fuse

pub returns-clause-stored : goal.returns-clause-stored
returns-clause-stored g c = λ k low. c.loop-k.invariant.stored k (lt_of_lt_of_le low c.loop-k-test.false)

pub returns-clause-wrote : goal.returns-clause-wrote
returns-clause-wrote g c = c.loop-k.invariant.wrote

pub returns-clause-stopped : goal.returns-clause-stopped
returns-clause-stopped g c = λ was. sym (c.loop-k.invariant.quiet was)

pub returns-clause-keeps_fuse : goal.returns-clause-keeps_fuse
returns-clause-keeps_fuse g c = c.loop-k.invariant.keeps_fuse

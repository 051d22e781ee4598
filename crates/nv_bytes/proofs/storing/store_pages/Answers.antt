use Rattle.std.proofs.Common.{ℕ, ◌+◌, ◌*◌, ◌/◌, ◌≤◌, ap, refl, sym, ◌∙◌, subst, drop, get_or, is_err}
use Rattle.std.proofs.lemmas.Result.{err_from_is_err_and}
use Rattle.nv_region.proofs.Fuses.{keeps_more}
use Rattle.nv_region.proofs.Stops.{mixed_same}
use Rattle.nv_region.proofs.Wordwise.{stores_more, stores_none}
use Rattle.nv_super.specs.declared.owners.Run.{Run}
use Rattle.nv_alloc.specs.Taking.{HasBlock, blocks_in}
use Rattle.nv_mounted.proofs.BytesKept.{mixed_size}
use Rattle.nv_bytes.specs.Bytes.{byte_after, file_byte}
use Rattle.nv_bytes.specs.Storing.{InBlocks}
use Rattle.nv_bytes.proofs.StoredPages.{same_pages, Storing, storing_goes_on, runs_from, run_inside, pages_from, run_held, part_of, all_held}
use Rattle.nv_bytes.proofs.storing.store_pages.Goals as goal
use Rattle.nv_bytes.specs.Data.{data_bytes}

abbrev none : Run
none = record { start = 0; count = 0 }

pub store_run-requires-clause-inside : goal.store_run-requires-clause-inside
store_run-requires-clause-inside g c b of =
    subst (λ (n : ℕ). b * 4096 + 4096 ≤ n) (sym (mixed_size c.loop-run.invariant.wrote.mixed)) (run_inside (g.P.Pmem.region c.args.memory.now) c.args.index.now c.args.runs.now c.loop-run.run-index none c.loop-run-test.true c.loop-run.invariant.storing.fresh b of)

pub store_run-requires-clause-mapped : goal.store_run-requires-clause-mapped
store_run-requires-clause-mapped g c p b at = subst (λ (n : ℕ). b * 4096 + 4096 ≤ n) (sym (mixed_size c.loop-run.invariant.wrote.mixed)) (c.requires.mapped p b at)

pub store_run-requires-clause-apart : goal.store_run-requires-clause-apart
store_run-requires-clause-apart g c p b at of = c.requires.fresh.apart p b at (run_held c.args.runs.now c.loop-run.run-index b none c.loop-run-test.true of)

pub store_run-requires-clause-pages : goal.store_run-requires-clause-pages
store_run-requires-clause-pages g c = part_of c.loop-run.page (get_or c.args.runs.now c.loop-run.run-index none).count (blocks_in (drop (c.loop-run.run-index + 1) c.args.runs.now)) (pages_from c.args.runs.now c.loop-run.run-index c.loop-run.page _ none c.loop-run-test.true c.loop-run.invariant.pages) c.requires.pages

pub store_run-requires-clause-small : goal.store_run-requires-clause-small
store_run-requires-clause-small g c = c.requires.small

pub loop-run-init : goal.loop-run-init
loop-run-init g c = record {
  storing = record { told = λ S only holds. holds; fresh = c.requires.fresh };
  pages = refl;
  wrote = stores_none (InBlocks (HasBlock c.args.runs.now)) (g.P.Pmem.region c.args.memory.now) (g.P.Pmem.may_hold c.args.memory.now);
  quiet = λ was. was;
  keeps_fuse = record { burnt = λ was. was; steady = λ was. was; stays_open = λ limit past was. was };
}

pub returns-in_err-store_run-clause-stopped : goal.returns-in_err-store_run-clause-stopped
returns-in_err-store_run-clause-stopped g c = λ was.
    let error = err_from_is_err_and c.from_residual.result c.from_residual.ensures.1 in
    ap is_err error.1 ∙ sym (ap is_err c.in_err-store_run.was) ∙ c.store_run.ensures.stopped (c.loop-run.invariant.quiet was)

pub returns-in_err-store_run-clause-keeps_fuse : goal.returns-in_err-store_run-clause-keeps_fuse
returns-in_err-store_run-clause-keeps_fuse g c =
    keeps_more (λ limit end. subst (λ (n : ℕ). n ≤ limit) (sym (mixed_size c.loop-run.invariant.wrote.mixed)) end) c.loop-run.invariant.keeps_fuse c.store_run.ensures.keeps_fuse

pub returns-clause-stored : goal.returns-clause-stored
returns-clause-stored g c =
    let S = g.P.Pmem.region c.loop-run.memory in
    let n = c.args.change.now in
    let bytes : ℕ → ℕ = byte_after n.offset (data_bytes n.content) n.size (file_byte (g.P.Pmem.region c.args.memory.now) c.args.index.now) in
    c.loop-run.invariant.storing.told S (mixed_same S (InBlocks (HasBlock (drop c.loop-run.run-index c.args.runs.now)))) (all_held S bytes c.loop-run.page c.args.runs.now c.loop-run.run-index c.loop-run-test.false)

pub returns-clause-wrote : goal.returns-clause-wrote
returns-clause-wrote g c = c.loop-run.invariant.wrote

pub returns-clause-stopped : goal.returns-clause-stopped
returns-clause-stopped g c = λ was. sym (c.loop-run.invariant.quiet was)

pub returns-clause-keeps_fuse : goal.returns-clause-keeps_fuse
returns-clause-keeps_fuse g c = c.loop-run.invariant.keeps_fuse

pub returns-in_err-store_run-clause-wrote : goal.returns-in_err-store_run-clause-wrote
returns-in_err-store_run-clause-wrote g c =
    stores_more _ _ _ _ _ _ _ _ (λ i v of. run_held c.args.runs.now c.loop-run.run-index (8 * i / 4096) none c.loop-run-test.true of) c.loop-run.invariant.wrote c.store_run.ensures.wrote

pub loop-run-preserved : goal.loop-run-preserved
loop-run-preserved g c =
    let R0 = g.P.Pmem.region c.args.memory.now in
    let R = g.P.Pmem.region c.loop-run.memory in
    let S = g.P.Pmem.region c.store_run.new.memory in
    let n = c.args.change.now in
    let runs = c.args.runs.now in
    let i = c.loop-run.run-index in
    let bytes : ℕ → ℕ = byte_after n.offset (data_bytes n.content) n.size (file_byte R0 c.args.index.now) in
    let large = mixed_size c.loop-run.invariant.wrote.mixed in
    record {
      storing =
          storing_goes_on R0 c.args.index.now bytes c.args.first runs R S c.loop-run.page (get_or runs i none) (drop (i + 1) runs)
          (subst (Storing R0 c.args.index.now bytes c.args.first runs R c.loop-run.page) (runs_from runs i none c.loop-run-test.true) c.loop-run.invariant.storing)
          c.store_run.ensures.wrote.mixed
          (λ k low. same_pages R0 R S c.args.index.now (InBlocks (HasBlock runs)) n.offset n.size (data_bytes n.content) ((get_or runs i none).start + k) (c.loop-run.page + k) c.loop-run.invariant.wrote.mixed
          (λ p b at j v w h. c.requires.fresh.apart p b at (subst (HasBlock runs) w h)) (c.in_ok-store_run.ensures.stored k low));
      pages = pages_from runs i c.loop-run.page _ none c.loop-run-test.true c.loop-run.invariant.pages;
      wrote = stores_more _ _ _ _ _ _ _ _ (λ j v of. run_held runs i (8 * j / 4096) none c.loop-run-test.true of) c.loop-run.invariant.wrote c.store_run.ensures.wrote;
      quiet = λ was. sym (c.store_run.ensures.stopped (c.loop-run.invariant.quiet was)) ∙ ap is_err c.in_ok-store_run.was;
      keeps_fuse = keeps_more (λ limit end. subst (λ (n : ℕ). n ≤ limit) (sym large) end) c.loop-run.invariant.keeps_fuse c.store_run.ensures.keeps_fuse;
    }

use Rattle.std.proofs.Common.{subst, sym}
use Rattle.std.specs.Option.{option_map}
use Rattle.nv_region.specs.RegionState.{RegionState}
use Rattle.nv_paths.specs.Seen.{tree_of}
use Rattle.nv_script.specs.Cleaning.{IsShortened}
use Rattle.nv_script.proofs.CleanedImage.{asked, refused_by_test, shortened, writes_first}
use Rattle.nv_script.proofs.cleaning.clean_mount.Goals as goal

pub clean_logs-gone-requires : goal.clean_logs-gone-requires
clean_logs-gone-requires c =
    let m = c.args.mount in
    let tests = asked m.read_only (tree_of m.memory.region m.rows) (option_map (λ text. text.now) c.args.path) in
    record {
      runs = c.requires.runs;
      writes = writes_first m.read_only (tree_of m.memory.region m.rows) (option_map (λ text. text.now) c.args.path) tests.0 tests.1 (c.in-Ok.ensures.tests tests.0 tests.1);
      steady = c.requires.steady;
    }

pub returns-in_ok-pages-in-Ok : goal.returns-in_ok-pages-in-Ok
returns-in_ok-pages-in-Ok c = λ R o is.
    let path = option_map (λ text. text.now) c.args.path in
    let n = c.clean_logs-gone.new.mount in
    let pages = rw c.in_ok-pages-in-Ok.was at c.clean_logs-gone.ensures.pages in
    let short = rw c.in_ok-pages-in-Ok.was at c.clean_logs-gone.ensures.short in
    subst (λ (m : RegionState). IsShortened R path m c.in_ok-pages-in-Ok.pages) (sym c.into_memory-region.ensures)
    (shortened R o c.args.mount n is path c.in-Ok.logs c.in_ok-pages-in-Ok.pages c.in-Ok.ensures.asked c.in-Ok.ensures.tests pages short c.keeps.ensures
    (let can = pages.can in c.nothing_is_pending.ensures can.runs))

pub returns-in-Err : goal.returns-in-Err
returns-in-Err c = λ R o is. refused_by_test R o c.args.mount c.args.mount is (option_map (λ text. text.now) c.args.path) c.in-Err.refusal c.in-Err.ensures.tests

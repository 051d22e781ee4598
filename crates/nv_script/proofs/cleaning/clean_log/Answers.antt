use Rattle.std.proofs.Common.{◌≡◌, ◌∙◌, ◌+◌, List, Some, None, ap, refl, subst, sym, arith}
use Rattle.std.specs.Option.{option_copied}
use Rattle.nv_scan.specs.declared.piece.Row.{Row}
use Rattle.nv_rows.specs.Rows.{row_of}
use Rattle.nv_script.specs.Cleaning.{HasDeadPages, IsOneOf}
use Rattle.nv_script.specs.declared.cleaning.Logs.TheVariants as which
use Rattle.nv_script.proofs.Cleanings.{few_lost, laid_here, left_fewer, left_first, loses_more, loses_none, no_page, no_row, none_dead, row_used, short_one, used_still}
use Rattle.nv_script.proofs.cleaning.clean_log.Goals as goal

pub loop-gone-init : goal.loop-gone-init
loop-gone-init c =
    let row : row_of c.args.mount.now.rows c.args.inode ≡ Some c.in-Some.row.now = ap (λ (rows : List Row). row_of rows c.args.inode) (sym c.rows.ensures) ∙ sym c.get.ensures ∙ ap option_copied c.in-Some.is in
    record {
      lost = loses_none c.args.mount.now (IsOneOf (which.Of c.args.inode)) c.requires;
      left = left_first c.args.mount.now c.keeps.ensures c.requires c.args.inode c.len-pages.result c.in-Some.row.now row c.len-pages.ensures.value;
    }

pub dead_pages-requires : goal.dead_pages-requires
dead_pages-requires c =
    let row : row_of c.args.mount.now.rows c.args.inode ≡ Some c.in-Some.row.now = ap (λ (rows : List Row). row_of rows c.args.inode) (sym c.rows.ensures) ∙ sym c.get.ensures ∙ ap option_copied c.in-Some.is in
    let lost = c.loop-gone.invariant.lost in
    record {
      can = lost.can;
      used = used_still c.args.mount.now c.loop-gone.mount (IsOneOf (which.Of c.args.inode)) c.loop-gone.gone c.args.inode lost (row_used c.args.mount.now c.args.inode c.in-Some.row.now row);
    }

pub clean_run-requires : goal.clean_run-requires
clean_run-requires c =
    let row : row_of c.args.mount.now.rows c.args.inode ≡ Some c.in-Some.row.now = ap (λ (rows : List Row). row_of rows c.args.inode) (sym c.rows.ensures) ∙ sym c.get.ensures ∙ ap option_copied c.in-Some.is in
    let lost = c.loop-gone.invariant.lost in
    record {
      can = lost.can;
      used = used_still c.args.mount.now c.loop-gone.mount (IsOneOf (which.Of c.args.inode)) c.loop-gone.gone c.args.inode lost (row_used c.args.mount.now c.args.inode c.in-Some.row.now row);
      dead = subst (HasDeadPages c.loop-gone.mount c.args.inode) c.in-Some-2.is c.in_ok-dead.ensures;
    }

pub loop-gone-preserved : goal.loop-gone-preserved
loop-gone-preserved c =
    record {
      lost = loses_more c.args.mount.now c.loop-gone.mount c.clean_run.new.mount (IsOneOf (which.Of c.args.inode)) c.loop-gone.gone c.in_ok-more.more (c.loop-gone.gone + c.in_ok-more.more) refl c.loop-gone.invariant.lost c.in_ok-more.ensures.pages;
      left = left_fewer c.loop-gone.mount c.clean_run.new.mount c.args.inode c.loop-gone.gone c.in_ok-more.more c.len-pages.result c.in_ok-more.ensures.fewer c.loop-gone.invariant.left;
    }

pub loop-gone-smaller : goal.loop-gone-smaller
loop-gone-smaller c = let some = c.in_ok-more.ensures.some in omega (arith, c.loop-gone-test.true, some)

pub overflow_add-gone : goal.overflow_add-gone
overflow_add-gone c =
    let layout = laid_here c.args.mount.now c.keeps.ensures c.requires in
    let few = few_lost c.args.mount.now c.clean_run.new.mount (IsOneOf (which.Of c.args.inode)) (c.loop-gone.gone + c.in_ok-more.more) (loses_more c.args.mount.now c.loop-gone.mount c.clean_run.new.mount (IsOneOf (which.Of c.args.inode)) c.loop-gone.gone c.in_ok-more.more (c.loop-gone.gone + c.in_ok-more.more) refl c.loop-gone.invariant.lost c.in_ok-more.ensures.pages) in
    omega (arith, few, layout.blocks_to)

pub returns-in_default-clause-pages : goal.returns-in_default-clause-pages
returns-in_default-clause-pages c = loses_none c.args.mount.now (IsOneOf (which.Of c.args.inode)) c.requires

pub returns-in_default-clause-short : goal.returns-in_default-clause-short
returns-in_default-clause-short c =
    let none : row_of c.args.mount.now.rows c.args.inode ≡ None = ap (λ (rows : List Row). row_of rows c.args.inode) (sym c.rows.ensures) ∙ sym c.get.ensures ∙ ap option_copied c.in_default.is in
    short_one c.args.mount.now c.args.inode (no_row c.args.mount.now c.keeps.ensures c.requires c.args.inode none)

pub returns-in_default-2-clause-pages : goal.returns-in_default-2-clause-pages
returns-in_default-2-clause-pages c = c.loop-gone.invariant.lost

pub returns-in_default-2-clause-short : goal.returns-in_default-2-clause-short
returns-in_default-2-clause-short c = short_one c.loop-gone.mount c.args.inode (none_dead c.loop-gone.mount c.args.inode _ c.in_default-2.is c.in_ok-dead.ensures)

pub returns-clause-pages : goal.returns-clause-pages
returns-clause-pages c = c.loop-gone.invariant.lost

pub returns-clause-short : goal.returns-clause-short
returns-clause-short c = short_one c.loop-gone.mount c.args.inode (no_page c.loop-gone.mount c.args.inode (c.loop-gone.invariant.left 0 (omega (arith, c.loop-gone-test.false))))

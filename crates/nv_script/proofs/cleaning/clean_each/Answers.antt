use Rattle.std.proofs.Common.{◌≡◌, ◌<◌, ◌≤◌, ◌+◌, get_or, length, refl, arith}
use Rattle.nv_script.specs.Cleaning.{IsOneOf, LosesPages}
use Rattle.nv_script.specs.declared.cleaning.Logs.TheVariants as which
use Rattle.nv_script.proofs.Cleanings.{all_done, few_lost, laid_here, loses_more, loses_none, loses_of_all}
use Rattle.nv_script.proofs.cleaning.clean_each.Goals as goal

pub loop-inode-init : goal.loop-inode-init
loop-inode-init c = record { lost = loses_none c.args.mount.now (IsOneOf which.All) c.requires; done = λ k below. absurd (omega (arith, below)) }

pub clean_log-requires : goal.clean_log-requires
clean_log-requires c = let lost = c.loop-inode.invariant.lost in lost.can

pub loop-inode-preserved : goal.loop-inode-preserved
loop-inode-preserved c = record {
  lost = loses_more c.args.mount.now c.loop-inode.mount c.clean_log.new.mount (IsOneOf which.All) c.loop-inode.pages c.in_ok-gone.gone (c.loop-inode.pages + c.in_ok-gone.gone) refl c.loop-inode.invariant.lost
      (loses_of_all c.loop-inode.mount c.clean_log.new.mount (IsOneOf (which.Of (get_or c.args.numbers.now c.loop-inode.inode-index 0))) (IsOneOf which.All) c.in_ok-gone.gone (λ i one. tt) c.in_ok-gone.ensures.pages);
  done = all_done c.loop-inode.mount c.clean_log.new.mount (IsOneOf (which.Of (get_or c.args.numbers.now c.loop-inode.inode-index 0))) c.in_ok-gone.gone c.loop-inode.inode-index c.args.numbers.now c.in_ok-gone.ensures.pages c.loop-inode.invariant.done
      (c.in_ok-gone.ensures.short (get_or c.args.numbers.now c.loop-inode.inode-index 0) refl);
}

pub returns-clause-pages : goal.returns-clause-pages
returns-clause-pages c = c.loop-inode.invariant.lost

pub returns-clause-short : goal.returns-clause-short
returns-clause-short c = λ k inside. c.loop-inode.invariant.done k (let all : length c.args.numbers.now ≤ c.loop-inode.inode-index = omega arith in omega (arith, inside, all))

pub overflow_add-pages : goal.overflow_add-pages
overflow_add-pages c =
    let layout = laid_here c.args.mount.now c.keeps.ensures c.requires in
    let few = few_lost c.args.mount.now c.clean_log.new.mount (IsOneOf which.All) (c.loop-inode.pages + c.in_ok-gone.gone) (loses_more c.args.mount.now c.loop-inode.mount c.clean_log.new.mount (IsOneOf which.All) c.loop-inode.pages c.in_ok-gone.gone (c.loop-inode.pages + c.in_ok-gone.gone) refl c.loop-inode.invariant.lost
    (loses_of_all c.loop-inode.mount c.clean_log.new.mount (IsOneOf (which.Of (get_or c.args.numbers.now c.loop-inode.inode-index 0))) (IsOneOf which.All) c.in_ok-gone.gone (λ i one. tt) c.in_ok-gone.ensures.pages)) in
    omega (arith, few, layout.blocks_to)

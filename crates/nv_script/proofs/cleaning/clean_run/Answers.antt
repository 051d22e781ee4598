use Rattle.std.proofs.Common.{◌≡◌, ◌+◌, ◌-◌, suc, refl, subst, arith}
use Rattle.nv_script.specs.Cleaning.{HasTurns, IsOneOf}
use Rattle.nv_script.specs.declared.cleaning.Logs.TheVariants as which
use Rattle.nv_script.proofs.Cleanings.{fewer_more, fewer_none, first_turns, known_next, loses_more, loses_none, some_dead, used_still}
use Rattle.nv_script.proofs.cleaning.clean_run.Goals as goal

pub loop-gone-init : goal.loop-gone-init
loop-gone-init c = record {
  within = omega arith;
  lost = loses_none c.args.mount.now (IsOneOf (which.Of c.args.inode)) c.requires.can;
  fewer = fewer_none c.args.mount.now c.args.inode;
  rest = λ n e. subst (HasTurns c.args.mount.now c.args.inode c.args.dead.first) (let all : c.args.dead.count ≡ n = omega (arith, e) in all) (first_turns c.args.mount.now c.args.inode c.args.dead c.requires.dead);
}

pub clean_page-requires : goal.clean_page-requires
clean_page-requires c =
    let lost = c.loop-gone.invariant.lost in
    let left = c.args.dead.count - c.loop-gone.gone - 1 in
    let more : c.loop-gone.gone + suc left ≡ c.args.dead.count = omega (arith, c.loop-gone-test.true) in
    record {
      can = lost.can;
      used = used_still c.args.mount.now c.loop-gone.mount (IsOneOf (which.Of c.args.inode)) c.loop-gone.gone c.args.inode lost c.requires.used;
      known = known_next c.loop-gone.mount c.args.inode c.args.dead.first left (c.loop-gone.invariant.rest (suc left) more);
    }

pub loop-gone-preserved : goal.loop-gone-preserved
loop-gone-preserved c = record {
  within = omega (arith, c.loop-gone-test.true);
  lost = loses_more c.args.mount.now c.loop-gone.mount c.clean_page.new.mount (IsOneOf (which.Of c.args.inode)) c.loop-gone.gone 1 (c.loop-gone.gone + 1) refl c.loop-gone.invariant.lost c.in_ok-clean_page.ensures.pages;
  fewer = fewer_more c.args.mount.now c.loop-gone.mount c.clean_page.new.mount c.args.inode c.loop-gone.gone 1 (c.loop-gone.gone + 1) refl c.loop-gone.invariant.fewer c.in_ok-clean_page.ensures.fewer;
  rest = λ n e. c.in_ok-clean_page.ensures.rest n (c.loop-gone.invariant.rest (suc n) (omega (arith, e)));
}

pub returns-clause-pages : goal.returns-clause-pages
returns-clause-pages c = c.loop-gone.invariant.lost

pub returns-clause-fewer : goal.returns-clause-fewer
returns-clause-fewer c = c.loop-gone.invariant.fewer

pub returns-clause-some : goal.returns-clause-some
returns-clause-some c =
    let some = some_dead c.args.mount.now c.keeps.ensures c.requires.can c.args.inode c.args.dead c.requires.used c.requires.dead in
    omega (arith, some, c.loop-gone-test.false)

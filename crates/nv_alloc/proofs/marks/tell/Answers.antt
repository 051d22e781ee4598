use Rattle.std.proofs.Common.{◌≡◌, ◌∙◌, sym, ap, arith}
use Rattle.nv_blockset.specs.BlockSet.{has}
use Rattle.nv_blockset.proofs.Sets.{has_other}
use Rattle.nv_blockset.proofs.TakenOut.{without_same, without_other}
use Rattle.nv_alloc.proofs.marks.tell.Goals as goal

pub returns-then-bits-eq18446744073709551615-clause-others : goal.returns-then-bits-eq18446744073709551615-clause-others
returns-then-bits-eq18446744073709551615-clause-others c = λ w ne. ap (λ ws. has ws w) c.insert.ensures ∙ has_other c.args.full.now c.args.word w c.requires ne

pub returns-clause-others : goal.returns-clause-others
returns-clause-others c = λ w ne. ap (λ ws. has ws w) c.remove.ensures ∙ without_other c.args.full.now c.args.word w c.requires ne

pub returns-clause-here : goal.returns-clause-here
returns-clause-here c = λ on.
    let zero = ap (λ ws. has ws c.args.word) c.remove.ensures ∙ without_same c.args.full.now c.args.word c.requires in
    absurd (let e : 0 ≡ 1 = sym zero ∙ on in omega (arith, e))

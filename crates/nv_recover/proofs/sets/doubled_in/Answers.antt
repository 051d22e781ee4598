use Rattle.std.proofs.Common.{ap, arith, sym, subst}
use Rattle.std.proofs.lemmas.Result.{IfOk-weaker}
use Rattle.nv_super.specs.declared.superblock.Super.{Super}
use Rattle.nv_scan.specs.Work.{claims_in}
use Rattle.nv_cross_check.specs.Doubled.{AreDoubled}
use Rattle.nv_recover.proofs.Owned.{doubled_same, none_doubled, second_covers}
use Rattle.nv_recover.proofs.sets.doubled_in.Goals as goal

pub first_set-requires : goal.first_set-requires
first_set-requires c =
    let blocks = ap (λ (s : Super). s.blocks) c.sup.ensures in
    let cover = c.requires.3.cover.1 in
    let most = c.are_laid.ensures.layout.blocks_to in record {
      order = omega arith;
      within = omega (arith, blocks, cover);
      small = omega (arith, blocks, most);
    }

pub claims_of-requires : goal.claims_of-requires
claims_of-requires c = let given = c.requires in record { rows = (given.0, given.3.rows_are) }

pub doubled-requires : goal.doubled-requires
doubled-requires c = let given = c.requires in record { covers = second_covers c.are_laid.ensures given.3 _ (c.in_ok-claims.ensures given.0 given.3.rows_are) }

pub returns-then-first_set-blocks : goal.returns-then-first_set-blocks
returns-then-first_set-blocks c = λ region pieces first are. subst (AreDoubled (claims_in pieces) c.args.second.now) (sym c.new.ensures.items)
    (none_doubled c.are_laid.ensures are (λ b less. (let blocks = ap (λ (s : Super). s.blocks) c.sup.ensures in c.first_set.ensures.clear b (omega arith) (omega (arith, less, blocks, c.if-first_set-blocks.true)))))

pub returns : goal.returns
returns c = IfOk-weaker c.doubled.result _ _ (λ found is region pieces first are. doubled_same c.are_laid.ensures are _ _ (c.in_ok-claims.ensures region are.rows_are) is) c.doubled.ensures

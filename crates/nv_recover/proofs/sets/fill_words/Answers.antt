use Rattle.std.proofs.Common.{arith}
use Rattle.nv_super.specs.declared.owners.Owner.TheVariants.{Data}
use Rattle.nv_recover.proofs.RowMaps.{end_within, maps_row}
use Rattle.nv_recover.proofs.sets.fill_words.Goals as goal

pub first_set-claimed-requires-clause-within : goal.first_set-claimed-requires-clause-within
first_set-claimed-requires-clause-within c = end_within c.args.first.now c.args._second.now c.args._inode c.args.run.now c.if-run-lt-LONG.false c.requires

pub first_set-claimed-requires-clause-small : goal.first_set-claimed-requires-clause-small
first_set-claimed-requires-clause-small c = let few = c.if-run-gt-MOST_BLOCKS.false in let low = c.if-run-gt-MOST_BLOCKS-2.false in omega (arith, few, low)

pub insert_row-requires-clause-within : goal.insert_row-requires-clause-within
insert_row-requires-clause-within c = end_within c.args.first.now c.args._second.now c.args._inode c.args.run.now c.if-run-lt-LONG.false c.requires

pub insert_row-requires-clause-small : goal.insert_row-requires-clause-small
insert_row-requires-clause-small c = let few = c.if-run-gt-MOST_BLOCKS.false in let low = c.if-run-gt-MOST_BLOCKS-2.false in omega (arith, few, low)

pub returns-clause-maps : goal.returns-clause-maps
returns-clause-maps c =
    let run = c.args.run.now in
    let past = c.if-claimed-end.false in
    λ _ before maps. maps_row before c.args.first.now c.args._second.now c.insert_row.new.words run.block (Data c.args._inode run.page) run.count maps
    (λ b from to. c.first_set-claimed.ensures.clear b from (omega (arith, to, past))) c.insert_row.ensures.row c.insert_row.ensures.others

use Rattle.std.proofs.Common.{ap, sym, ◌∙◌, arith}
use Rattle.nv_scan.proofs.NoneUsed.{first_stands, next_unused}
use Rattle.nv_scan.proofs.unused.tell_unused.Goals as goal

pub returns-clause-next : goal.returns-clause-next
returns-clause-next g c =
    let x = c.args.block.now in
    let laid = c.requires.laid in
    let room = c.requires.room in
    next_unused x laid c.requires.block c.requires.unused c.args.each.now.items c.chain_block_at.result c.begin.new.self (omega (arith, room)) c.begin.ensures c.chain_block_at.ensures.none
    (c.chain_block_at.ensures.tells c.args.tables.now.layout laid (sym c.sup.ensures) (first_stands x laid c.requires.block c.requires.unused))

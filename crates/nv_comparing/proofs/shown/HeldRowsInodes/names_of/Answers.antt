use Rattle.std.proofs.Common.{ap}
use Rattle.std.specs.Option.{option_map}
use Rattle.std.proofs.lemmas.Result.{IfOk-weaker}
use Rattle.nv_calls.proofs.Listed.{lists_row}
use Rattle.nv_paths.specs.Seen.{node_of, tree_of}
use Rattle.nv_comparing.proofs.shown.HeldRowsInodes.names_of.Goals as goal

pub returns : goal.returns
returns g c =
    let R = g.P.Pmem.region c.args.self.now.memory.now in
    let rows = c.args.self.now.rows.now.items in
    IfOk-weaker c.list.result _ _ (λ listed l. lists_row (tree_of R rows) R c.row.result.now c.args.inode listed.items (ap (option_map (node_of R)) c.row.ensures) l) c.list.ensures

use Rattle.std.proofs.Common.{◌∙◌, ap, arith}
use Rattle.std.proofs.lemmas.Result.{IfOk-weaker}
use Rattle.nv_bytes.specs.Bytes.{file_byte}
use Rattle.nv_tree.specs.Calls.{bytes_read}
use Rattle.nv_paths.specs.Seen.{node_of}
use Rattle.nv_calls.specs.Mount.{Mount}
use Rattle.nv_calls.proofs.FileBytes.{blocks_inside, row_size, contains_as, runs_as, same_read}
use Rattle.nv_calls.proofs.fs.Fs.bytes_of.Goals as goal

pub read_bytes-requires-clause-inside : goal.read_bytes-requires-clause-inside
read_bytes-requires-clause-inside g c =
    blocks_inside (g.P.Pmem.region c.self.inside.memory) c.self.inside.tables.layout.sup c.self.inside.tables.layout c.self.inside.rows.items c.self.inside.free c.self.inside.faults.items c.self.inside.read_only c.self.inside.stopped c.self.invariant.0
    (runs_as c.self.view_is c.requires.runs) c.args.row.now (contains_as c.args.row.now c.self.view_is c.requires.held)

pub read_bytes-requires-clause-small : goal.read_bytes-requires-clause-small
read_bytes-requires-clause-small g c =
    let few =
    row_size (g.P.Pmem.region c.self.inside.memory) c.self.inside.tables.layout.sup c.self.inside.tables.layout c.self.inside.rows.items c.self.inside.free c.self.inside.faults.items c.self.inside.read_only c.self.inside.stopped c.self.invariant.0
    (runs_as c.self.view_is c.requires.runs) c.args.row.now (contains_as c.args.row.now c.self.view_is c.requires.held) in
    omega (arith, few, c.min.ensures, c.min-count.ensures, c.saturating_sub.ensures)

pub returns : goal.returns
returns g c =
    IfOk-weaker c.read_bytes.result _ _ (λ bytes is. is ∙ same_read (file_byte (g.P.Pmem.region c.self.inside.memory) c.args.row.now.index) c.args.offset c.args.count c.args.row.now.numbers.size c.min.result c.saturating_sub.result c.min-count.result c.min.ensures c.saturating_sub.ensures c.min-count.ensures
    ∙ ap (λ (m : Mount g.row.P.Denot). bytes_read c.args.offset c.args.count (node_of (g.P.Pmem.region m.memory) c.args.row.now)) c.self.view_is) c.read_bytes.ensures

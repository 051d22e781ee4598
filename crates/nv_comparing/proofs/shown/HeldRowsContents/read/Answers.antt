use Rattle.std.proofs.Common.{◌∙◌, length, map, ap, arith}
use Rattle.std.specs.List.{range_with_len}
use Rattle.nv_tree.specs.Tree.{Node}
use Rattle.nv_calls.proofs.RowChange.{row_there}
use Rattle.nv_archive.proofs.Shows.{node_is, used_by_node}
use Rattle.nv_comparing.proofs.shown.HeldRowsContents.read.Goals as goal

pub row-requires : goal.row-requires
row-requires g c =
    let (node, there, kind, room) = c.requires.within in
    used_by_node (g.P.Pmem.region c.args.self.now.memory.now) c.args.self.now.rows.now.items c.args.inode node there

pub fill_bytes-requires-clause-inside : goal.fill_bytes-requires-clause-inside
fill_bytes-requires-clause-inside g c = (c.args.self.now.held c.row.result.now (row_there c.args.self.now.rows.now.items c.args.inode c.row.result.now c.row.ensures)).inside

pub fill_bytes-requires-clause-small : goal.fill_bytes-requires-clause-small
fill_bytes-requires-clause-small g c =
    let R = g.P.Pmem.region c.args.self.now.memory.now in
    let rows = c.args.self.now.rows.now.items in
    let row = c.row.result.now in
    let (node, there, kind, room) = c.requires.within in
    let most = (c.args.self.now.held row (row_there rows c.args.inode row c.row.ensures)).size in
    let size = ap (λ (n : Node). n.size) (node_is R rows c.args.inode row node c.row.ensures there) in
    omega (arith, room, most, size)

pub returns : goal.returns
returns g c = record {
  read = λ node there.
      let R = g.P.Pmem.region c.args.self.now.memory.now in
      let rows = c.args.self.now.rows.now.items in
      c.fill_bytes.ensures ∙ ap (λ (n : Node). map n.bytes (range_with_len c.args.at (length c.args.buffer.now))) (node_is R rows c.args.inode c.row.result.now node c.row.ensures there);
}

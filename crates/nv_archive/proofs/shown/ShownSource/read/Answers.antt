use Rattle.std.proofs.Common.{ℕ, List, Option, map, ap, sym, subst, ◌∙◌, arith}
use Rattle.std.specs.List.{range_with_len}
use Rattle.nv_region.specs.Region.{region_of}
use Rattle.nv_bytes.specs.Bytes.{file_byte}
use Rattle.nv_tree.specs.Tree.{Node}
use Rattle.nv_calls.proofs.RowChange.{row_there}
use Rattle.nv_archive.specs.Shown.{AreKnown, bytes_or_none}
use Rattle.nv_archive.proofs.Shows.{known_some, node_is}
use Rattle.nv_archive.proofs.shown.ShownSource.read.Goals as goal

pub bytes_of_pages-requires-clause-small : goal.bytes_of_pages-requires-clause-small
bytes_of_pages-requires-clause-small g c =
    let R = region_of (bytes_or_none (g.B.Blocks.bytes c.args.self.now.source.now)) in
    let rows = c.args.self.now.rows.now.items in
    let row = c.row-row.result.now in
    let (node, there, kind, room) = c.requires.within in
    let most = (c.args.self.now.small row (row_there rows c.args.inode row c.row-row.ensures)).size in
    let size = ap (λ (n : Node). n.size) (node_is R rows c.args.inode row node c.row-row.ensures there) in
    omega (arith, room, most, size)

pub bytes_of_pages-requires-clause-blocks : goal.bytes_of_pages-requires-clause-blocks
bytes_of_pages-requires-clause-blocks g c = (c.args.self.now.small c.row-row.result.now (row_there c.args.self.now.rows.now.items c.args.inode c.row-row.result.now c.row-row.ensures)).blocks

pub returns-in-Ok-clause-read : goal.returns-in-Ok-clause-read
returns-in-Ok-clause-read g c = λ known node there.
    let R = region_of (bytes_or_none (g.B.Blocks.bytes c.args.self.now.source.now)) in
    let rows = c.args.self.now.rows.now.items in
    let row = c.row-row.result.now in
    let k = known_some _ rows known in
    c.in-Ok.ensures.read k.0 k.1
    ∙ ap (λ (o : Option (List ℕ)). map (file_byte (region_of (bytes_or_none o)) row.index) (range_with_len c.args.at c.args.count)) (sym k.1)
    ∙ ap (λ (n : Node). map n.bytes (range_with_len c.args.at c.args.count)) (node_is R rows c.args.inode row node c.row-row.ensures there)

pub returns-in-Err-Read-clause-err : goal.returns-in-Err-Read-clause-err
returns-in-Err-Read-clause-err g c = λ known.
    let rows = c.args.self.now.rows.now.items in
    let row = c.row-row.result.now in
    let k = known_some _ rows known in
    let bad = c.in-Err-Read.ensures.known k.0 k.1 (subst (λ (o : Option (List ℕ)). AreKnown o rows) k.1 known row (row_there rows c.args.inode row c.row-row.ensures)) in
    absurd (cc)

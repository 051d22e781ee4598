use Rattle.std.proofs.Common.{◌≡◌, ℕ, ◌++◌, ◌∙◌, List, ap, arith, drop, length, length-take, map, sym, take}
use Rattle.std.specs.List.{range_with_len}
use Rattle.std.proofs.lemmas.List.FromFn.{length-map-range_with_len}
use Rattle.nv_bytes.specs.Bytes.{file_byte}
use Rattle.nv_tree.specs.Calls.{bytes_read}
use Rattle.nv_paths.specs.Seen.{node_of}
use Rattle.nv_calls.specs.Mount.{Mount}
use Rattle.nv_calls.proofs.FileBytes.{blocks_inside, row_size, contains_as, runs_as, same_read}
use Rattle.nv_calls.proofs.fs.Fs.fill_from.Goals as goal

pub fill_bytes-requires-clause-inside : goal.fill_bytes-requires-clause-inside
fill_bytes-requires-clause-inside g c =
    blocks_inside (g.P.Pmem.region c.self.inside.memory) c.self.inside.tables.layout.sup c.self.inside.tables.layout c.self.inside.rows.items c.self.inside.free c.self.inside.faults.items c.self.inside.read_only c.self.inside.stopped c.self.invariant.0
    (runs_as c.self.view_is c.requires.runs) c.args.row.now (contains_as c.args.row.now c.self.view_is c.requires.held)

pub fill_bytes-requires-clause-small : goal.fill_bytes-requires-clause-small
fill_bytes-requires-clause-small g c =
    let few =
    row_size (g.P.Pmem.region c.self.inside.memory) c.self.inside.tables.layout.sup c.self.inside.tables.layout c.self.inside.rows.items c.self.inside.free c.self.inside.faults.items c.self.inside.read_only c.self.inside.stopped c.self.invariant.0
    (runs_as c.self.view_is c.requires.runs) c.args.row.now (contains_as c.args.row.now c.self.view_is c.requires.held) in
    let room : length (take c.min-count.result c.args.buffer.now) ≡ c.min-count.result = simp length-take (omega (arith, c.min-count.ensures)) in
    omega (arith, few, room, c.min.ensures, c.min-count.ensures, c.saturating_sub.ensures)

pub returns-clause-count : goal.returns-clause-count
returns-clause-count g c =
    let byte : ℕ → ℕ = file_byte (g.P.Pmem.region c.self.inside.memory) c.args.row.now.index in
    sym (length-map-range_with_len byte c.min.result c.min-count.result)
    ∙ ap (λ (l : List ℕ). length l)
    (same_read byte c.args.offset (length c.args.buffer.now) c.args.row.now.numbers.size c.min.result c.saturating_sub.result c.min-count.result c.min.ensures c.saturating_sub.ensures c.min-count.ensures
    ∙ ap (λ (m : Mount g.row.P.Denot). bytes_read c.args.offset (length c.args.buffer.now) (node_of (g.P.Pmem.region m.memory) c.args.row.now)) c.self.view_is)

pub returns-clause-bytes : goal.returns-clause-bytes
returns-clause-bytes g c =
    let byte : ℕ → ℕ = file_byte (g.P.Pmem.region c.self.inside.memory) c.args.row.now.index in
    let room : length (take c.min-count.result c.args.buffer.now) ≡ c.min-count.result = simp length-take (omega (arith, c.min-count.ensures)) in
    ap (λ (l : List ℕ). l ++ drop c.min-count.result c.args.buffer.now)
    (c.fill_bytes.ensures ∙ ap (λ (n : ℕ). map byte (range_with_len c.min.result n)) room
    ∙ same_read byte c.args.offset (length c.args.buffer.now) c.args.row.now.numbers.size c.min.result c.saturating_sub.result c.min-count.result c.min.ensures c.saturating_sub.ensures c.min-count.ensures
    ∙ ap (λ (m : Mount g.row.P.Denot). bytes_read c.args.offset (length c.args.buffer.now) (node_of (g.P.Pmem.region m.memory) c.args.row.now)) c.self.view_is)

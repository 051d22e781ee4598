use Rattle.std.proofs.Common.{◌≤◌, ◌+◌, arith}
use Rattle.std.proofs.lemmas.Result.{err_from_is_err_and}
use Rattle.nv_paths.specs.Seen.{tree_of}
use Rattle.nv_looks.proofs.Pieces.{fails_between, fails_inside, ends_file, piece_more}
use Rattle.nv_looks.proofs.looking.write_file.Goals as goal

pub loop-at-preserved : goal.loop-at-preserved
loop-at-preserved g c =
    let room : c.loop-at.at + c.min-count.result ≤ c.in_ok-size.size = omega (arith, c.loop-at.invariant.0) in (
      room,
      λ names is s. piece_more (tree_of (g.P.Pmem.region c.args.mount.now.memory) c.args.mount.now.rows) names c.in_ok-size.size s _ _ c.loop-at.at c.loop-at.invariant.0 (c.loop-at.invariant.1 names is s)
          c.min-count.result c.in_ok-piece.piece.items (c.in_ok-piece.ensures names is) room _ (rw c.deref.ensures.value at c.in_ok-write_text.ensures.ok),
    )

pub returns-clause-ok : goal.returns-clause-ok
returns-clause-ok g c = λ names is. let s = c.in_ok-size.ensures names is in
    ends_file (tree_of (g.P.Pmem.region c.args.mount.now.memory) c.args.mount.now.rows) names c.in_ok-size.size s _ _ c.loop-at.at c.loop-at.invariant.0 (c.loop-at.invariant.1 names is s) c.loop-at-test.false

pub returns-in_err-piece-clause-err : goal.returns-in_err-piece-clause-err
returns-in_err-piece-clause-err g c = λ names is.
    let s = c.in_ok-size.ensures names is in
    let p = err_from_is_err_and c.from_residual-in_err-piece.result c.from_residual-in_err-piece.ensures.1 in
    rw (p.1, p.2) (fails_between (tree_of (g.P.Pmem.region c.args.mount.now.memory) c.args.mount.now.rows) names c.in_ok-size.size s _ _ c.loop-at.at c.loop-at.invariant.0 (c.loop-at.invariant.1 names is s))

pub returns-in_err-write_text-clause-err : goal.returns-in_err-write_text-clause-err
returns-in_err-write_text-clause-err g c = λ names is.
    let s = c.in_ok-size.ensures names is in
    let room : c.loop-at.at + c.min-count.result ≤ c.in_ok-size.size = omega (arith, c.loop-at.invariant.0) in
    let p = err_from_is_err_and c.from_residual-in_err-write_text.result c.from_residual-in_err-write_text.ensures.1 in
    rw (p.1, p.2, c.in_err-write_text.ensures.kind) (fails_inside (tree_of (g.P.Pmem.region c.args.mount.now.memory) c.args.mount.now.rows) names c.in_ok-size.size s _ _ c.loop-at.at c.loop-at.invariant.0 (c.loop-at.invariant.1 names is s)
    c.min-count.result c.in_ok-piece.piece.items (c.in_ok-piece.ensures names is) room _ (rw c.deref.ensures.value at c.in_err-write_text.ensures.err))

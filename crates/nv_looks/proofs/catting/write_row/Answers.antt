use Rattle.std.proofs.Common.{◌≤◌, ◌+◌, ap, arith}
use Rattle.std.proofs.lemmas.Result.{err_from_is_err_and}
use Rattle.nv_region.specs.Region.{region_of}
use Rattle.nv_looks.proofs.Pieces.{fails_between, fails_inside, ends_file, piece_more}
use Rattle.nv_looks.proofs.Filed.{sized, read_of}
use Rattle.nv_looks.proofs.catting.write_row.Goals as goal

pub loop-at-preserved : goal.loop-at-preserved
loop-at-preserved g c =
    let room : c.loop-at.at + c.min-count.result ≤ c.args.row.now.numbers.size = omega (arith, c.loop-at.invariant.within) in
    record {
      within = room;
      page = λ more. omega (arith, c.min-count.ensures, c.loop-at.invariant.page (omega (arith, c.loop-at-test.true)), more);
      so_far = λ image known t names file.
          let S = region_of image in
          let s = sized S c.args.row.now t names file in
          let read = read_of S c.args.row.now t names file c.loop-at.at c.min-count.result c.in_ok-piece.piece.items room (c.in_ok-piece.ensures.read image known) in
          piece_more t names c.args.row.now.numbers.size s _ _ c.loop-at.at c.loop-at.invariant.within (c.loop-at.invariant.so_far image known t names file)
          c.min-count.result c.in_ok-piece.piece.items read room _ (rw c.deref.ensures.value at c.in_ok-write_text.ensures.ok);
    }

pub returns-clause-ok : goal.returns-clause-ok
returns-clause-ok g c = λ image known t names file.
    ends_file t names c.args.row.now.numbers.size (sized (region_of image) c.args.row.now t names file) _ _ c.loop-at.at c.loop-at.invariant.within (c.loop-at.invariant.so_far image known t names file) c.loop-at-test.false

pub returns-in_err-piece-clause-err : goal.returns-in_err-piece-clause-err
returns-in_err-piece-clause-err g c = λ image known t names file.
    let s = sized (region_of image) c.args.row.now t names file in
    let p = err_from_is_err_and c.from_residual.result c.from_residual.ensures.1 in
    rw (p.1, p.2, c.in_err-piece.ensures.known image known file.inside) (fails_between t names c.args.row.now.numbers.size s _ _ c.loop-at.at c.loop-at.invariant.within (c.loop-at.invariant.so_far image known t names file))

pub returns-in_err-write_text-clause-err : goal.returns-in_err-write_text-clause-err
returns-in_err-write_text-clause-err g c = λ image known t names file.
    let S = region_of image in
    let s = sized S c.args.row.now t names file in
    let room : c.loop-at.at + c.min-count.result ≤ c.args.row.now.numbers.size = omega (arith, c.loop-at.invariant.within) in
    let read = read_of S c.args.row.now t names file c.loop-at.at c.min-count.result c.in_ok-piece.piece.items room (c.in_ok-piece.ensures.read image known) in
    let p = err_from_is_err_and c.from_residual-in_err-write_text.result c.from_residual-in_err-write_text.ensures.1 in
    rw (p.1, p.2, c.in_err-write_text.ensures.kind) (fails_inside t names c.args.row.now.numbers.size s _ _ c.loop-at.at c.loop-at.invariant.within (c.loop-at.invariant.so_far image known t names file)
    c.min-count.result c.in_ok-piece.piece.items read room _ (rw c.deref.ensures.value at c.in_err-write_text.ensures.err))

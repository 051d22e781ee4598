use Rattle.std.proofs.Common.{◌≡◌, ◌≤◌, ◌∙◌, ◌++◌, ◌+◌, ℕ, List, Result, Ok, Err, length, take, ap, subst, sym, arith}
use Rattle.std.specs.Prelude.{OnErr, codes}
use Rattle.std.specs.Io.KnownBytes.{Appends}
use Rattle.std.proofs.lemmas.Result.{on_ok_weaker, on_err_weaker}
use Rattle.nv_stream.specs.Streams.{AppendsShort}
use Rattle.nv_session.specs.Printed.{part_line, bytes_from, digits_of}
use Rattle.nv_session.proofs.FileParts.{at_equal, first_front, line_ends, line_ends_short, line_parts, piece_added, piece_ends, piece_short, rest_of_line, room_of_piece, short_more, still_long}
use Rattle.nv_session.proofs.parts.write_part.Goals as goal

failed : {T E : Type 0} (r : Result T E) (P : Type 0) → P → OnErr r P
failed (Ok x) P p = tt
failed (Err e) P p = p

pub returns-in_err-write_text-clause-short : goal.returns-in_err-write_text-clause-short
returns-in_err-write_text-clause-short g c = λ file within.
    let part = c.args.part in
    let whole : part_line file.node part.offset part.end ≡ codes "data " ++ rest_of_line file.node part.offset part.end =
    line_parts file.node part.offset part.end part.some part.offset (omega arith) (let some = part.some in omega (arith, some))
    ∙ ap (λ front. front ++ rest_of_line file.node part.offset part.end) (first_front file.node part.offset part.end part.some) in
    failed c.from_residual.result _ (subst (λ (text : List ℕ). AppendsShort (g.W.Write.contents c.args.writer.now) (g.W.Write.contents c.write_text.new.writer) text) (sym whole)
    (short_more _ _ (codes "data ") (rest_of_line file.node part.offset part.end) c.in_err-write_text.ensures.short))

pub write_piece-requires-clause-there : goal.write_piece-requires-clause-there
write_piece-requires-clause-there g c =
    let room = room_of_piece c.loop-at.bytes.items c.deref_mut.result.now c.loop-at.at c.args.part.end c.min-count.result c.min-count.ensures c.deref_mut.ensures.value c.loop-at.invariant.2 in
    let ends = piece_ends c.loop-at.at c.args.part.end c.min-count.result c.min-count.ensures c.loop-at-test.true in
    let within = c.requires.1 in
    (at_equal c.args.mount.now c.args.part.path.items c.deref.result.now (sym c.deref.ensures.value) c.requires.0, omega (arith, room, ends, within))

pub returns-in_err-write_piece-clause-short : goal.returns-in_err-write_piece-clause-short
returns-in_err-write_piece-clause-short g c = λ file within.
    let part = c.args.part in
    let room = room_of_piece c.loop-at.bytes.items c.deref_mut.result.now c.loop-at.at part.end c.min-count.result c.min-count.ensures c.deref_mut.ensures.value c.loop-at.invariant.2 in
    let ends = piece_ends c.loop-at.at part.end c.min-count.result c.min-count.ensures c.loop-at-test.true in
    let there : c.loop-at.at + length (take c.min-count.result c.deref_mut.result.now) ≤ file.node.size = omega (arith, room, ends, within) in
    let piece = subst (λ (n : ℕ). AppendsShort (g.W.Write.contents c.loop-at.writer) (g.W.Write.contents c.write_piece.new.writer) (digits_of (bytes_from file.node c.loop-at.at n))) room
    (c.in_err-write_piece.ensures.short (at_equal c.args.mount.now part.path.items c.deref.result.now (sym c.deref.ensures.value) file) there) in
    failed c.from_residual-in_err-write_piece.result _ (piece_short _ _ _ file.node part.offset part.end c.loop-at.at part.some c.loop-at.invariant.0 (c.loop-at.invariant.4 file within) c.min-count.result ends piece)

pub loop-at-preserved : goal.loop-at-preserved
loop-at-preserved g c =
    let part = c.args.part in
    let from = c.loop-at.invariant.0 in
    let long = c.loop-at.invariant.2 in
    let digits_long = c.loop-at.invariant.3 in
    let room = room_of_piece c.loop-at.bytes.items c.deref_mut.result.now c.loop-at.at part.end c.min-count.result c.min-count.ensures c.deref_mut.ensures.value long in
    let ends = piece_ends c.loop-at.at part.end c.min-count.result c.min-count.ensures c.loop-at-test.true in (
      omega (arith, from),
      ends,
      still_long c.loop-at.bytes.items _ c.loop-at.bytes.len 131072 long (omega (arith, long, c.loop-at.bytes.ok.0)),
      still_long c.loop-at.digits.items _ c.loop-at.digits.len 262144 digits_long (omega (arith, digits_long, c.loop-at.digits.ok.0)),
      λ file within.
          let there : c.loop-at.at + length (take c.min-count.result c.deref_mut.result.now) ≤ file.node.size = omega (arith, room, ends, within) in
          let piece = subst (λ (n : ℕ). Appends (g.W.Write.contents c.loop-at.writer) (g.W.Write.contents c.write_piece.new.writer) (digits_of (bytes_from file.node c.loop-at.at n))) room
          (c.in_ok-write_piece.ensures.ok (at_equal c.args.mount.now part.path.items c.deref.result.now (sym c.deref.ensures.value) file) there) in
          piece_added _ _ _ file.node part.offset part.end c.loop-at.at part.some from (c.loop-at.invariant.4 file within) c.min-count.result piece,
    )

pub returns-clause-ok : goal.returns-clause-ok
returns-clause-ok g c = λ file within.
    let part = c.args.part in
    let last = c.loop-at-test.false in
    on_ok_weaker c.write_text-2.result (λ added. line_ends _ _ _ file.node part.offset part.end c.loop-at.at part.some c.loop-at.invariant.0 (c.loop-at.invariant.4 file within) (omega (arith, last)) c.loop-at.invariant.1 added) c.write_text-2.ensures.ok

pub returns-clause-short : goal.returns-clause-short
returns-clause-short g c = λ file within.
    let part = c.args.part in
    let last = c.loop-at-test.false in
    on_err_weaker c.write_text-2.result (λ added. line_ends_short _ _ _ file.node part.offset part.end c.loop-at.at part.some c.loop-at.invariant.0 (c.loop-at.invariant.4 file within) (omega (arith, last)) c.loop-at.invariant.1 added) c.write_text-2.ensures.short

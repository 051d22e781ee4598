use Rattle.std.proofs.Common.{◌%◌, inl, inr, sym, ◌∙◌, arith, length-take-le}
use Rattle.std.proofs.lemmas.Bool.{cases_lt}
use Rattle.nv_metadata.proofs.Pieces.{number_taken}
use Rattle.nv_metadata.proofs.memory.MetadataRegion.hold.Goals as goal

pub returns-clause-begins : goal.returns-clause-begins
returns-clause-begins c = record {
  piece = λ at aligned here within. elim (cases_lt (at % 4096) c.without_zeros-count.result) [
    | inl some ↦ c.in_ok-hold_piece.ensures.begins.piece at aligned here (omega (arith, some, length-take-le c.without_zeros-count.result c.args.bytes.now c.without_zeros-count.ensures.few))
        ∙ number_taken c.without_zeros-count.result c.args.bytes.now (at % 4096) (omega (arith, some, aligned, c.without_zeros-count.ensures.whole)) c.without_zeros-count.ensures.few
    | inr past ↦ c.in_ok-hold_piece.ensures.begins.zeros at aligned here (omega (arith, past, length-take-le c.without_zeros-count.result c.args.bytes.now c.without_zeros-count.ensures.few))
        ∙ sym (c.without_zeros-count.ensures.zeros (at % 4096) (omega (arith, aligned)) past (omega (arith, aligned, within, c.requires.whole)))
  ];
  zeros = λ at aligned here past. c.in_ok-hold_piece.ensures.begins.zeros at aligned here (omega (arith, past, length-take-le c.without_zeros-count.result c.args.bytes.now c.without_zeros-count.ensures.few, c.without_zeros-count.ensures.few));
  others = c.in_ok-hold_piece.ensures.begins.others;
}

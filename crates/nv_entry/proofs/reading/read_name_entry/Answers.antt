use Rattle.std.proofs.Common.{◌≡◌, ◌+◌, ◌*◌, ◌≤◌, ◌∙◌, ap, sym, arith, length}
use Rattle.nv_region.specs.Region.{word}
use Rattle.nv_entry.specs.Spelling.{operation_code, words_for, first_word}
use Rattle.nv_entry.specs.Light.{text_at}
use Rattle.nv_entry.proofs.Texts.{text_length, text_is_name}
use Rattle.nv_entry.proofs.reading.read_name_entry.Goals as goal
use Rattle.nv_entry.proofs.reading.read_name_entry.Goals.{in-1, in-2}

pub returns-clause-found : goal.returns-clause-found
returns-clause-found g c =
    let R = g.P.Pmem.region c.args.memory.now in
    let count = c.args.first.number in
    let len : length (text_at R (c.args.at + 24) count) ≡ count = text_length R (c.args.at + 24) count in
    let code : operation_code c.match-first.operation ≡ c.args.first.operation = elim c.match-first.branch [
      | in-1 w ↦ ap operation_code w.operation-is ∙ sym w.in-1.is
      | in-2 w ↦ ap operation_code w.operation-is ∙ sym w.in-2.is
    ] in
    let whole : c.args.first.length ≡ 24 + 8 * words_for count = omega arith in
    let room : 24 + 8 * words_for count ≤ c.args.room = omega arith in
    let first : word R c.args.at ≡ first_word 3 (operation_code c.match-first.operation) (24 + 8 * words_for count) count = omega (arith, c.requires.first, c.requires.kind, code, whole) in (
      record {
        first = rw len first;
        inode = sym c.load.ensures;
        time = sym c.load-2.ensures;
        name = c.is_padded.ensures.text c.if-not-is_padded.false;
        is_name = text_is_name R (c.args.at + 24) count (omega arith) (omega arith);
      },
      rw len room,
    )

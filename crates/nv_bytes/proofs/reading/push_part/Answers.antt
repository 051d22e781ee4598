use Rattle.std.proofs.Common.{◌≡◌, ap, ◌∙◌, arith, ℕ, ◌-◌, ◌+◌, ◌%◌, take, drop}
use Rattle.nv_mounted.specs.Bytes.{byte_in}
use Rattle.nv_bytes.proofs.Words.{part_of_word}
use Rattle.nv_bytes.proofs.Ranges.{added}
use Rattle.nv_bytes.proofs.reading.push_part.Goals as goal

pub returns : goal.returns
returns g c =
    added c.extend_from_slice.result _ _ _ _ c.extend_from_slice.ensures.items
    (ap (λ (n : ℕ). take n (drop (c.args.start % 8) c.to_le_bytes-word.result)) (let e : c.args.start % 8 + (c.args.end - c.args.start) - c.args.start % 8 ≡ c.args.end - c.args.start = omega arith in e)
    ∙ part_of_word (byte_in (g.P.Pmem.region c.args.memory.now) c.args.block) c.word_at.result c.args.start (c.args.end - c.args.start) c.to_le_bytes-word.result c.to_le_bytes-word.ensures c.requires.one_word c.word_at.ensures)

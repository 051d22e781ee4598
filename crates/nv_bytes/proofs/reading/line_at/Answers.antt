use Rattle.std.proofs.Common.{ℕ, ◌+◌, ◌*◌, ◌∙◌, map, ap, arith, length-set}
use Rattle.std.specs.List.{range_with_len}
use Rattle.nv_mounted.specs.Bytes.{byte_in}
use Rattle.nv_bytes.proofs.Changes.{old_byte}
use Rattle.nv_bytes.proofs.StoredPages.{line_more}
use Rattle.nv_bytes.proofs.Words.{bytes_in_row}
use Rattle.nv_bytes.proofs.reading.line_at.Goals as goal

pub loop-j-preserved : goal.loop-j-preserved
loop-j-preserved g c =
    let bytes : ℕ → ℕ = byte_in (g.P.Pmem.region c.args.memory.now) c.args.block in
    record {
      eight = length-set c.loop-j.words c.loop-j.j c.word_at.result ∙ c.loop-j.invariant.eight;
      made =
          line_more bytes c.loop-j.words c.args.x c.loop-j.j c.word_at.result c.loop-j.invariant.eight c.loop-j-test.true c.loop-j.invariant.made
          (λ k few. old_byte bytes c.word_at.result (c.args.x + 8 * c.loop-j.j) k (omega (arith, c.requires.whole)) few c.word_at.ensures);
    }

pub returns : goal.returns
returns g c =
    let bytes : ℕ → ℕ = byte_in (g.P.Pmem.region c.args.memory.now) c.args.block in
    c.write_u64_into.ensures
    ∙ bytes_in_row bytes c.loop-j.words c.args.x (λ j k low few. c.loop-j.invariant.made j k (omega (arith, low, c.loop-j.invariant.eight, c.loop-j-test.false)) few)
    ∙ ap (λ (n : ℕ). map bytes (range_with_len c.args.x (8 * n))) c.loop-j.invariant.eight

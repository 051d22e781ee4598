use Rattle.std.proofs.Common.{◌≡◌, ℕ, ◌+◌, ◌-◌, ◌%◌, ◌++◌, ◌∙◌, List, ap, arith, drop, length, length-take, sym, take}
use Rattle.std.proofs.lemmas.List.FromFn.{length-map-range_with_len}
use Rattle.nv_mounted.specs.Bytes.{byte_in}
use Rattle.nv_bytes.proofs.Words.{part_of_word}
use Rattle.nv_bytes.proofs.filling.fill_some.Goals as goal

pub copy_from_slice-requires : goal.copy_from_slice-requires
copy_from_slice-requires g c =
    let long : length (take 64 c.args.buffer.now) ≡ 64 = simp length-take (omega (arith, c.if-buffer-ge64.true)) in
    long ∙ sym (ap (λ (l : List ℕ). length l) c.line_at.ensures ∙ length-map-range_with_len (byte_in (g.P.Pmem.region c.args.memory.now) c.args.block) c.args.start 64)

pub returns-clause-filled : goal.returns-clause-filled
returns-clause-filled g c =
    let start = c.args.start in
    let count = c.min-count.result in
    let few : start % 8 + count - start % 8 ≡ count = omega arith in
    ap (λ (l : List ℕ). l ++ drop count c.args.buffer.now)
    (c.copy_from_slice-2.ensures.after ∙ ap (λ (n : ℕ). take n (drop (start % 8) c.to_le_bytes-word.result)) few
    ∙ part_of_word (byte_in (g.P.Pmem.region c.args.memory.now) c.args.block) c.word_at.result start count c.to_le_bytes-word.result c.to_le_bytes-word.ensures (omega (arith, c.min-count.ensures)) c.word_at.ensures)

use Rattle.std.proofs.Common.{◌*◌, ◌∙◌, ap, take, arith}
use Rattle.nv_region.specs.Region.{bytes_of}
use Rattle.nv_region.proofs.Added.{first_of, all_of}
use Rattle.nv_region.proofs.memory.MemRegion.first_bytes.Goals as goal
use Rattle.nv_region.proofs.memory.MemRegion.first_bytes.Goals.{then-count-words+in_ok-push_bytes, else-count-words+in_ok-push_bytes-2+in_ok-extend_from_slice}

pub returns : goal.returns
returns c = elim c.if-count-words.branch [
  | then-count-words+in_ok-push_bytes w ↦
      ap (λ b. b.items) w.bytes-is
      ∙ first_of c.parts.result.1.now c.parts.result.2.now w.push_bytes.new.bytes.items c.new-bytes.result.items c.args.count (omega (arith, w.if-count-words.true)) c.new-bytes.ensures.items w.in_ok-push_bytes.ensures
      ∙ (λ i. take (8 * c.args.count) (bytes_of (record { words = c.parts.ensures.words i; rest = c.parts.ensures.rest i })))
  | else-count-words+in_ok-push_bytes-2+in_ok-extend_from_slice w ↦
      ap (λ b. b.items) w.bytes-is
      ∙ all_of c.parts.result.1.now c.parts.result.2.now w.extend_from_slice.new.self.items c.new-bytes.result.items w.push_bytes-else-count-words.new.bytes.items c.args.count (omega (arith, w.if-count-words.false)) c.parts.ensures.short c.new-bytes.ensures.items w.in_ok-push_bytes-2.ensures w.in_ok-extend_from_slice.ensures.items
      ∙ (λ i. take (8 * c.args.count) (bytes_of (record { words = c.parts.ensures.words i; rest = c.parts.ensures.rest i })))
]

use Rattle.std.proofs.Common.{◌≡◌, ◌+◌, ◌*◌, ℕ, inl, inr, refl, arith, below_more}
use Rattle.std.proofs.lemmas.Result.{IfOk-from_err}
use Rattle.nv_region.proofs.Puts.{blocks_stay}
use Rattle.nv_region.specs.Region.{word}
use Rattle.nv_region.specs.Stops.{One}
use Rattle.nv_region.proofs.Fuses.{keeps_more}
use Rattle.nv_region.proofs.Told.{told_err}
use Rattle.nv_format.specs.Format.{IsPointer}
use Rattle.nv_format.proofs.Cleared.{zero_more, clears_more}
use Rattle.nv_format.proofs.clearing.clear_journals.Goals as goal

pub clear_word-requires-clause-within : goal.clear_word-requires-clause-within
clear_word-requires-clause-within g c = let size = c.loop-cpu.invariant.blocks.0 in let room = c.requires.layout.areas.room in omega (arith, size, room, c.loop-cpu-test.true)

pub returns-in_err-clear_word-clause-empty : goal.returns-in_err-clear_word-clause-empty
returns-in_err-clear_word-clause-empty g c = IfOk-from_err c.from_residual.result _ c.from_residual.ensures.0

pub returns-in_err-clear_word-clause-blocks : goal.returns-in_err-clear_word-clause-blocks
returns-in_err-clear_word-clause-blocks g c = blocks_stay _ _ _ _ c.clear_word.ensures.wrote.mixed c.loop-cpu.invariant.blocks

pub returns-in_err-clear_word-clause-wrote : goal.returns-in_err-clear_word-clause-wrote
returns-in_err-clear_word-clause-wrote g c =
    let s = c.args.sup.now in
    let at = 4096 * (1 + c.loop-cpu.cpu) in
    clears_more (IsPointer s) at 0 _ _ _ _ _ _ (omega arith) (c.loop-cpu.cpu, c.loop-cpu-test.true, inl refl) c.loop-cpu.invariant.wrote c.clear_word.ensures.wrote

pub returns-in_err-clear_word-clause-stopped : goal.returns-in_err-clear_word-clause-stopped
returns-in_err-clear_word-clause-stopped g c = told_err c.from_residual.result c.in_err-clear_word.ensures.stopped

pub returns-in_err-clear_word-clause-keeps_fuse : goal.returns-in_err-clear_word-clause-keeps_fuse
returns-in_err-clear_word-clause-keeps_fuse g c = keeps_more (λ limit past. omega arith) c.loop-cpu.invariant.keeps_fuse c.clear_word.ensures.keeps_fuse

pub clear_word-requires-in-loop-cpu-clause-within : goal.clear_word-requires-in-loop-cpu-clause-within
clear_word-requires-in-loop-cpu-clause-within g c = let size = c.loop-cpu.invariant.blocks.0 in let room = c.requires.layout.areas.room in let same = c.clear_word.ensures.size in omega (arith, size, room, same, c.loop-cpu-test.true)

pub returns-in_err-clear_word-2-clause-empty : goal.returns-in_err-clear_word-2-clause-empty
returns-in_err-clear_word-2-clause-empty g c = IfOk-from_err c.from_residual-in_err-clear_word-2.result _ c.from_residual-in_err-clear_word-2.ensures.0

pub returns-in_err-clear_word-2-clause-blocks : goal.returns-in_err-clear_word-2-clause-blocks
returns-in_err-clear_word-2-clause-blocks g c = blocks_stay _ _ _ _ c.clear_word-in-loop-cpu.ensures.wrote.mixed (blocks_stay _ _ _ _ c.clear_word.ensures.wrote.mixed c.loop-cpu.invariant.blocks)

pub returns-in_err-clear_word-2-clause-stopped : goal.returns-in_err-clear_word-2-clause-stopped
returns-in_err-clear_word-2-clause-stopped g c = told_err c.from_residual-in_err-clear_word-2.result c.in_err-clear_word-2.ensures.stopped

pub returns-in_err-clear_word-2-clause-keeps_fuse : goal.returns-in_err-clear_word-2-clause-keeps_fuse
returns-in_err-clear_word-2-clause-keeps_fuse g c = keeps_more (λ limit past. omega arith) (keeps_more (λ limit past. omega arith) c.loop-cpu.invariant.keeps_fuse c.clear_word.ensures.keeps_fuse) c.clear_word-in-loop-cpu.ensures.keeps_fuse

pub returns-clause-empty : goal.returns-clause-empty
returns-clause-empty g c = λ k below. c.loop-cpu.invariant.empty k (let end = c.loop-cpu-test.false in omega (arith, end, below))

pub returns-in_err-clear_word-2-clause-wrote : goal.returns-in_err-clear_word-2-clause-wrote
returns-in_err-clear_word-2-clause-wrote g c =
    let s = c.args.sup.now in
    let at = 4096 * (1 + c.loop-cpu.cpu) in
    clears_more (IsPointer s) (at + 8) 0 _ _ _ _ _ _ (omega arith) (c.loop-cpu.cpu, c.loop-cpu-test.true, inr refl)
    (clears_more (IsPointer s) at 0 _ _ _ _ _ _ (omega arith) (c.loop-cpu.cpu, c.loop-cpu-test.true, inl refl) c.loop-cpu.invariant.wrote c.clear_word.ensures.wrote)
    c.clear_word-in-loop-cpu.ensures.wrote

pub loop-cpu-preserved : goal.loop-cpu-preserved
loop-cpu-preserved g c =
    let s = c.args.sup.now in
    let at = 4096 * (1 + c.loop-cpu.cpu) in
    let before = g.P.Pmem.region c.loop-cpu.memory in
    let mid = g.P.Pmem.region c.clear_word.new.memory in
    let after = g.P.Pmem.region c.clear_word-in-loop-cpu.new.memory in
    let first = c.clear_word.ensures.wrote in
    let second = c.clear_word-in-loop-cpu.ensures.wrote in record {
      blocks = blocks_stay mid after (One (at + 8) 0) s.blocks second.mixed (blocks_stay before mid (One at 0) s.blocks first.mixed c.loop-cpu.invariant.blocks);
      empty = below_more (λ (k : ℕ). (word after (4096 * (1 + k)) ≡ 0) × (word after (4096 * (1 + k) + 8) ≡ 0)) c.loop-cpu.cpu
          (λ k below. (
            zero_more mid after (at + 8) (4096 * (1 + k)) second.mixed (zero_more before mid at (4096 * (1 + k)) first.mixed (c.loop-cpu.invariant.empty k below).0),
            zero_more mid after (at + 8) (4096 * (1 + k) + 8) second.mixed (zero_more before mid at (4096 * (1 + k) + 8) first.mixed (c.loop-cpu.invariant.empty k below).1),
          ))
          (zero_more mid after (at + 8) at second.mixed c.in_ok-clear_word.ensures.cleared, c.in_ok-clear_word-2.ensures.cleared);
      wrote = clears_more (IsPointer s) (at + 8) 0 _ _ _ _ _ _ (omega arith) (c.loop-cpu.cpu, c.loop-cpu-test.true, inr refl)
          (clears_more (IsPointer s) at 0 _ _ _ _ _ _ (omega arith) (c.loop-cpu.cpu, c.loop-cpu-test.true, inl refl) c.loop-cpu.invariant.wrote first) second;
      keeps_fuse = keeps_more (λ limit past. omega arith) (keeps_more (λ limit past. omega arith) c.loop-cpu.invariant.keeps_fuse c.clear_word.ensures.keeps_fuse) c.clear_word-in-loop-cpu.ensures.keeps_fuse;
    }

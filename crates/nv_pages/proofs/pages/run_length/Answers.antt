use Rattle.std.proofs.Common.{◌≡◌, ◌+◌, inl, inr, ℕ, Some, arith, subst, sym}
use Rattle.std.proofs.lemmas.Bool.{cases_eq}
use Rattle.nv_radix.specs.Pages.{block_at}
use Rattle.nv_pages.proofs.pages.run_length.Goals as goal

pub loop-count-preserved : goal.loop-count-preserved
loop-count-preserved c =
    let index = c.args.index.now in
    let count = c.loop-count.count in
    let next : block_at index (c.args.page + count) ≡ Some (c.args.block + count) = c.is_next.ensures c.if-is_next.true in
    record {
      some = omega arith;
      few = omega (arith, c.loop-count-test.true);
      run = λ k low. elim (cases_eq k count) [
        | inl same ↦ subst (λ (j : ℕ). block_at index (c.args.page + j) ≡ Some (c.args.block + j)) (sym same) next
        | inr differ ↦ c.loop-count.invariant.run k (omega (arith, low, differ))
      ];
    }

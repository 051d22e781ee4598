use Rattle.std.proofs.Common.{◌≡◌, ◌++◌, ◌∷◌, [], List, ℕ, take, get_or, ap, ◌∙◌, sym, arith, append_assoc}
use Rattle.nv_super.specs.declared.owners.Owner.{Owner}
use Rattle.nv_super.specs.declared.owners.Owner.TheVariants.{Log}
use Rattle.nv_scan.specs.Claims.{log_claims}
use Rattle.nv_scan.proofs.ClaimLists.{log_claims-more}
use Rattle.nv_scan.proofs.Runs.{page_pair}
use Rattle.nv_scan.proofs.claims.add_pages.Goals as goal

pub loop-block-preserved : goal.loop-block-preserved
loop-block-preserved c = record {
  count = omega arith;
  pushed = (let i = c.args.inode in let n = c.loop-block.block-index in let bs = c.args.pages.now in
      let old = c.args.claims.now.items in
      let more = log_claims-more i n bs 0 c.loop-block-test.true in
      let same : c.loop-block.page ≡ n = c.loop-block.invariant.count in
      let joined = append_assoc old (log_claims i 0 (take n bs)) ((get_or bs n 0, Log i n) ∷ []) in
      let item : c.push.new.self.items ≡ c.loop-block.claims.items ++ (get_or bs n 0, Log i n) ∷ [] =
      c.in_ok-push.ensures.ok ∙ ap (λ (ps : List (ℕ × Owner)). c.loop-block.claims.items ++ ps) (page_pair (get_or bs n 0) i c.loop-block.page n same) in
      item ∙ ap (λ (xs : List (ℕ × Owner)). xs ++ (get_or bs n 0, Log i n) ∷ []) c.loop-block.invariant.pushed ∙ joined ∙ ap (λ (xs : List (ℕ × Owner)). old ++ xs) (sym more));
}

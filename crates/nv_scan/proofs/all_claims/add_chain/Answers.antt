use Rattle.std.proofs.Common.{◌≡◌, ◌+◌, ◌++◌, ◌∷◌, [], List, ℕ, take, get_or, ap, ◌∙◌, sym, arith, append_assoc}
use Rattle.nv_super.specs.declared.owners.Owner.{Owner}
use Rattle.nv_super.specs.declared.owners.Owner.TheVariants.{Table}
use Rattle.nv_super.specs.Owners.{pairs}
use Rattle.nv_scan.specs.ChainBlocks.{chain_claims}
use Rattle.nv_scan.proofs.AllClaims.{chain_more}
use Rattle.nv_scan.proofs.all_claims.add_chain.Goals as goal

-- one block of a chain, as a run
one_pair : (b cpu k n : ℕ) → k ≡ n → pairs b (Table cpu k) 1 ≡ (b, Table cpu (0 + n)) ∷ []
one_pair b cpu k n same = let block : b + 0 ≡ b = omega arith in let place : k ≡ 0 + n = omega (arith, same) in λ t. (block t, Table cpu (place t)) ∷ []

pub loop-block-preserved : goal.loop-block-preserved
loop-block-preserved c =
    let n = c.loop-block.block-index in
    let bs = c.args.blocks.now in
    let old = c.args.claims.now.items in
    let last = (get_or bs n 0, Table c.args.cpu (0 + n)) ∷ [] in
    let item : c.push.new.self.items ≡ c.loop-block.claims.items ++ last =
    c.in_ok-push.ensures.ok ∙ ap (λ (ps : List (ℕ × Owner)). c.loop-block.claims.items ++ ps) (one_pair (get_or bs n 0) c.args.cpu c.loop-block.place n c.loop-block.invariant.count) in
    record {
      count = omega (arith, c.loop-block.invariant.count);
      pushed = item ∙ ap (λ (xs : List (ℕ × Owner)). xs ++ last) c.loop-block.invariant.pushed ∙ append_assoc old (chain_claims c.args.cpu 0 (take n bs)) last
          ∙ ap (λ (xs : List (ℕ × Owner)). old ++ xs) (sym (chain_more c.args.cpu 0 n bs 0 c.loop-block-test.true));
    }

use Rattle.std.proofs.Common.{◌≡◌, ◌<◌, ◌≤◌, ◌+◌, ◌*◌, ◌∙◌, ℕ, List, ap, sym, subst, length, get_or, arith}
use Rattle.std.specs.Global.{Vec}
use Rattle.nv_super.specs.declared.superblock.Super.{Super}
use Rattle.nv_super.specs.Layout.{Layout}
use Rattle.nv_inode.specs.Chains.{IsLaid}
use Rattle.nv_inode.specs.Tables.{TableChains, laid}
use Rattle.nv_inode.specs.Numbers.{table_size}
use Rattle.nv_inode.proofs.NumberEnds.{size_small}
use Rattle.nv_inode.proofs.TicketBlocks.{found_chain, lists_long}
use Rattle.nv_inode.proofs.chains.Tables.table_size.Goals as goal

-- at the fields, where the chain of the CPU has so many blocks
module _ (s : Super) (chains : List (Vec ℕ)) (l : Layout) (same : laid s chains ≡ l) (is_laid : IsLaid (laid s chains)) (cpu : ℕ) (below : cpu < l.sup.cpus) (v : Vec ℕ) (at : v ≡ get_or chains cpu v) (count : ℕ) (long : count ≡ length v.items) where
  inside : cpu < length chains
  inside = let each = is_laid.each in let all = lists_long chains in let cpus : s.cpus ≡ l.sup.cpus = ap (λ (x : Layout). x.sup.cpus) same in omega (arith, each, all, cpus, below)

  size : 32 * s.table_blocks + 31 * count ≡ table_size l cpu
  size =
      ap (λ (n : ℕ). 32 * s.table_blocks + 31 * n) long
      ∙ ap (λ (blocks : List ℕ). 32 * s.table_blocks + 31 * length blocks) (sym (found_chain chains cpu v at inside))
      ∙ ap (λ (x : Layout). table_size x cpu) same

  small : 32 * s.table_blocks + 31 * count ≤ 8128512
  small = subst (λ (n : ℕ). n ≤ 8128512) (sym size) (size_small l cpu (subst (λ (x : Layout). IsLaid x) same is_laid))

pub overflow_mul-result-2 : goal.overflow_mul-result-2
overflow_mul-result-2 c = (let few = small c.self.inside.sup c.self.inside.chains.items c.args.self.now.layout (ap (λ (t : TableChains). t.layout) c.self.view_is) c.self.invariant.laid c.args.cpu c.requires c.index-chain.result.now c.index-chain.ensures c.len.result
    (let is = c.len.ensures in let whole = c.index-chain.result.now.ok in omega (arith, is, whole)) in omega (arith, few))

pub overflow_add-result : goal.overflow_add-result
overflow_add-result c = (let few = small c.self.inside.sup c.self.inside.chains.items c.args.self.now.layout (ap (λ (t : TableChains). t.layout) c.self.view_is) c.self.invariant.laid c.args.cpu c.requires c.index-chain.result.now c.index-chain.ensures c.len.result
    (let is = c.len.ensures in let whole = c.index-chain.result.now.ok in omega (arith, is, whole)) in omega (arith, few))

pub returns-clause-value : goal.returns-clause-value
returns-clause-value c = size c.self.inside.sup c.self.inside.chains.items c.args.self.now.layout (ap (λ (t : TableChains). t.layout) c.self.view_is) c.self.invariant.laid c.args.cpu c.requires c.index-chain.result.now c.index-chain.ensures c.len.result
    (let is = c.len.ensures in let whole = c.index-chain.result.now.ok in omega (arith, is, whole))

pub returns-clause-small : goal.returns-clause-small
returns-clause-small c = (let few = small c.self.inside.sup c.self.inside.chains.items c.args.self.now.layout (ap (λ (t : TableChains). t.layout) c.self.view_is) c.self.invariant.laid c.args.cpu c.requires c.index-chain.result.now c.index-chain.ensures c.len.result
    (let is = c.len.ensures in let whole = c.index-chain.result.now.ok in omega (arith, is, whole)) in omega (arith, few))

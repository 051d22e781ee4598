use Rattle.std.proofs.Common.{◌≡◌, ◌<◌, ◌≤◌, ◌+◌, ◌*◌, ◌∙◌, ℕ, List, ap, subst, drop, length, get_or, arith}
use Rattle.std.proofs.Math.Nat.{mul-le-mul}
use Rattle.std.specs.Global.{Vec}
use Rattle.nv_super.specs.declared.superblock.Super.{Super}
use Rattle.nv_super.specs.Layout.{Layout}
use Rattle.nv_inode.specs.Chains.{IsLaid}
use Rattle.nv_inode.specs.Tables.{TableChains, laid, lists_of}
use Rattle.nv_inode.specs.SlotBlocks.{extra_blocks, slot_blocks}
use Rattle.nv_inode.proofs.TicketBlocks.{all_long, chain_counts, chain_small, found_chain, split_at}
use Rattle.nv_inode.proofs.chains.Tables.slot_block_count.Goals as goal

-- one chain more, at the fields
module _ (s : Super) (chains : List (Vec ℕ)) (l : Layout) (same : laid s chains ≡ l) (cpu : ℕ) (v : Vec ℕ) (at : v ≡ get_or chains cpu v) (below : cpu < length chains) where
  pub counts_on : length (extra_blocks l.sup cpu (drop cpu l.chains)) ≡ length v.items + length (extra_blocks l.sup (cpu + 1) (drop (cpu + 1) l.chains))
  counts_on = subst (λ (x : Layout). length (extra_blocks x.sup cpu (drop cpu x.chains)) ≡ length v.items + length (extra_blocks x.sup (cpu + 1) (drop (cpu + 1) x.chains))) same
      (ap (λ (xs : List (List ℕ)). length (extra_blocks s cpu xs)) (split_at chains cpu v at below) ∙ chain_counts s cpu 0 v.items (drop (cpu + 1) (lists_of chains)))

  pub short : IsLaid (laid s chains) → length v.items ≤ 262144
  short is_laid =
      let long = ap length (found_chain chains cpu v at below) in
      let few = chain_small (laid s chains) is_laid cpu in
      let most = is_laid.layout.areas.blocks_to in
      omega (arith, long, few, most)

pub loop-chain-init : goal.loop-chain-init
loop-chain-init c =
    let same : laid c.self.inside.sup c.self.inside.chains.items ≡ c.args.self.now.layout = ap (λ (t : TableChains). t.layout) c.self.view_is in
    let areas = c.self.invariant.laid.layout.areas in
    record {
      counted = subst (λ (l : Layout). length (slot_blocks l) ≡ c.self.inside.sup.cpus * c.self.inside.sup.table_blocks + length (extra_blocks l.sup 0 l.chains)) same (all_long (laid c.self.inside.sup c.self.inside.chains.items) 0);
      small = mul-le-mul areas.cpus_to areas.tables_to;
    }

pub loop-chain-preserved : goal.loop-chain-preserved
loop-chain-preserved c =
    let same : laid c.self.inside.sup c.self.inside.chains.items ≡ c.args.self.now.layout = ap (λ (t : TableChains). t.layout) c.self.view_is in
    let v = c.chain-item.result in
    let is : v ≡ get_or c.self.inside.chains.items c.loop-chain.chain-index v = c.chain-item.is ∙ ap (λ (xs : List (Vec ℕ)). get_or xs c.loop-chain.chain-index v) c.deref-chain-items.ensures.value in
    let below : c.loop-chain.chain-index < length c.self.inside.chains.items = subst (λ (xs : List (Vec ℕ)). c.loop-chain.chain-index < length xs) c.deref-chain-items.ensures.value c.loop-chain-test.true in
    let count = counts_on c.self.inside.sup c.self.inside.chains.items c.args.self.now.layout same c.loop-chain.chain-index v is below in
    let few = short c.self.inside.sup c.self.inside.chains.items c.args.self.now.layout same c.loop-chain.chain-index v is below c.self.invariant.laid in
    let long = c.len.ensures in
    let whole = v.ok in
    let was = c.loop-chain.invariant in
    record {
      counted = omega (arith, count, long, whole, was.counted);
      small = omega (arith, few, long, whole, was.small);
    }

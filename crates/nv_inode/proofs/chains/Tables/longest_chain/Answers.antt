use Rattle.std.proofs.Common.{Bool, nat_lt, ◌==◌, true, false, cond, refl, ◌≡◌, ◌≤◌, ◌<◌, ◌+◌, ◌∙◌, ℕ, List, ap, sym, subst, drop, length, get_or, max, arith}
use Rattle.std.specs.Global.{Vec}
use Rattle.std.specs.Ordering.{is_lt, nat_cmp, ord_max}
use Rattle.std.specs.declared.cmp.Ordering.TheVariants.{Less, Equal, Greater}
use Rattle.std.proofs.Math.Nat.{max-eq_left, max-eq_right}
use Rattle.std.proofs.lemmas.Bool.{ltb-false, ltb-true}
use Rattle.nv_super.specs.declared.superblock.Super.{Super}
use Rattle.nv_super.specs.Layout.{Layout}
use Rattle.nv_inode.specs.Tables.{TableChains, laid, lists_of}
use Rattle.nv_inode.specs.Chains.{IsLaid}
use Rattle.nv_inode.specs.Numbers.{longest}
use Rattle.nv_inode.proofs.NumberEnds.{longer, max_least}
use Rattle.nv_inode.proofs.TicketBlocks.{chain_small, found_chain, split_at}
use Rattle.nv_inode.proofs.chains.Tables.longest_chain.Goals as goal

-- one chain more, at the fields
longest_on : (s : Super) (chains : List (Vec ℕ)) (l : Layout) → laid s chains ≡ l → (cpu most : ℕ) (v : Vec ℕ) → v ≡ get_or chains cpu v → cpu < length chains
    → max most (longest (drop cpu l.chains)) ≡ max (max most (length v.items)) (longest (drop (cpu + 1) l.chains))
longest_on s chains l same cpu most v at below =
    subst (λ (x : Layout). max most (longest (drop cpu x.chains)) ≡ max (max most (length v.items)) (longest (drop (cpu + 1) x.chains))) same
    (ap (λ (xs : List (List ℕ)). max most (longest xs)) (split_at chains cpu v at below) ∙ longer most v.items (drop (cpu + 1) (lists_of chains)))

short : (s : Super) (chains : List (Vec ℕ)) (cpu : ℕ) (v : Vec ℕ) → v ≡ get_or chains cpu v → cpu < length chains → IsLaid (laid s chains) → length v.items ≤ 262144
short s chains cpu v at below is_laid =
    let long = ap length (found_chain chains cpu v at below) in
    let few = chain_small (laid s chains) is_laid cpu in
    let most = is_laid.layout.areas.blocks_to in
    omega (arith, long, few, most)

greater : (a b : ℕ) → ord_max nat_cmp a b ≡ max a b
greater a b = by (nat_lt b a) refl (b == a)
  where
    by : (t : Bool) → nat_lt b a ≡ t → (u : Bool) → cond (is_lt (cond t Less (cond u Equal Greater))) a b ≡ max a b
    by true less u = sym (max-eq_left (let low = ltb-true b a less in omega (arith, low)))
    by false more true = sym (max-eq_right (ltb-false b a more))
    by false more false = sym (max-eq_right (ltb-false b a more))

pub loop-chain-preserved : goal.loop-chain-preserved
loop-chain-preserved c =
    let same : laid c.self.inside.sup c.self.inside.chains.items ≡ c.args.self.now.layout = ap (λ (t : TableChains). t.layout) c.self.view_is in
    let v = c.chain-item.result in
    let is : v ≡ get_or c.self.inside.chains.items c.loop-chain.chain-index v = c.chain-item.is ∙ ap (λ (xs : List (Vec ℕ)). get_or xs c.loop-chain.chain-index v) c.deref-chain-items.ensures.value in
    let below : c.loop-chain.chain-index < length c.self.inside.chains.items = subst (λ (xs : List (Vec ℕ)). c.loop-chain.chain-index < length xs) c.deref-chain-items.ensures.value c.loop-chain-test.true in
    let long : c.len.result ≡ length v.items = (let is = c.len.ensures in let whole = v.ok in omega (arith, is, whole)) in
    let next : c.max-longest.result ≡ max c.loop-chain.longest (length v.items) = c.max-longest.ensures ∙ greater c.loop-chain.longest c.len.result ∙ ap (max c.loop-chain.longest) long in
    record {
      longest = c.loop-chain.invariant.longest ∙ longest_on c.self.inside.sup c.self.inside.chains.items c.args.self.now.layout same c.loop-chain.chain-index c.loop-chain.longest v is below
          ∙ ap (λ (n : ℕ). max n (longest (drop (c.loop-chain.chain-index + 1) c.args.self.now.layout.chains))) (sym next);
      small = subst (λ (n : ℕ). n ≤ 262144) (sym next) (max_least c.loop-chain.longest (length v.items) 262144 c.loop-chain.invariant.small (short c.self.inside.sup c.self.inside.chains.items c.loop-chain.chain-index v is below c.self.invariant.laid));
    }

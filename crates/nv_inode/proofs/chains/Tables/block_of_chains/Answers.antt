use Rattle.std.proofs.Common.{◌≡◌, ◌∷◌, ◌≤◌, ◌<◌, ◌+◌, ◌-◌, ◌∙◌, inl, inr, ℕ, List, Some, ap, sym, subst, drop, length, get_or, arith}
use Rattle.std.specs.Prelude.{slice_get}
use Rattle.std.specs.Global.{Vec}
use Rattle.std.proofs.lemmas.Bool.{cases_lt}
use Rattle.nv_super.specs.declared.superblock.Super.{Super}
use Rattle.nv_super.specs.Layout.{Layout, chain_of}
use Rattle.nv_inode.specs.Tables.{TableChains, laid, lists_of}
use Rattle.nv_inode.specs.SlotBlocks.{extra_block, extra_blocks}
use Rattle.nv_inode.proofs.TicketBlocks.{behind_chain, behind_less, block_small, default_any, drop_none, found_chain, in_chain, lists_long, none_left, place_small, split_at}
use Rattle.nv_inode.proofs.chains.Tables.block_of_chains.Goals as goal

-- a CPU whose chain isn't behind all
cpu_below : (s : Super) (chains : List (Vec ℕ)) (cpu left : ℕ) → left < length (extra_blocks s cpu (drop cpu (lists_of chains))) → cpu < length chains
cpu_below s chains cpu left less = elim (cases_lt cpu (length chains)) [
  | inl below ↦ below
  | inr past ↦ absurd (none_left s cpu left (drop cpu (lists_of chains)) (drop_none (lists_of chains) cpu (let long = lists_long chains in omega (arith, long, past))) less)
]

-- the part of the goals that speaks of the layout, at the fields
module _ (s : Super) (chains : List (Vec ℕ)) (l : Layout) (same : laid s chains ≡ l) (place cpu left : ℕ)
    (is : slice_get (extra_blocks l.sup 0 l.chains) place ≡ slice_get (extra_blocks l.sup cpu (drop cpu l.chains)) left) (some : left < length (extra_blocks l.sup cpu (drop cpu l.chains))) (v : Vec ℕ) (at : v ≡ get_or chains cpu v) where
  here : slice_get (extra_blocks s 0 (lists_of chains)) place ≡ slice_get (extra_blocks s cpu (drop cpu (lists_of chains))) left
  here = subst (λ (x : Layout). slice_get (extra_blocks x.sup 0 x.chains) place ≡ slice_get (extra_blocks x.sup cpu (drop cpu x.chains)) left) (sym same) is

  less : left < length (extra_blocks s cpu (drop cpu (lists_of chains)))
  less = subst (λ (x : Layout). left < length (extra_blocks x.sup cpu (drop cpu x.chains))) (sym same) some

  below : cpu < length chains
  below = cpu_below s chains cpu left less

  split : drop cpu (lists_of chains) ≡ v.items ∷ drop (cpu + 1) (lists_of chains)
  split = split_at chains cpu v at below

  less_split : left < length (extra_blocks s cpu (v.items ∷ drop (cpu + 1) (lists_of chains)))
  less_split = subst (λ (xs : List (List ℕ)). left < length (extra_blocks s cpu xs)) split less

  pub chain_found : chain_of (laid s chains) cpu ≡ v.items
  chain_found = found_chain chains cpu v at below

  pub within : left < length v.items → (b : ℕ) → b ≡ get_or v.items left b → slice_get (extra_blocks l.sup 0 l.chains) place ≡ Some (extra_block s cpu left b)
  within inside b is_b = subst (λ (x : Layout). slice_get (extra_blocks x.sup 0 x.chains) place ≡ Some (extra_block s cpu left b)) same
      (here ∙ ap (λ (xs : List (List ℕ)). slice_get (extra_blocks s cpu xs) left) split ∙ in_chain s cpu left v.items (drop (cpu + 1) (lists_of chains)) inside ∙ ap (λ (x : ℕ). Some (extra_block s cpu left x)) (default_any v.items left b inside is_b))

  pub goes_on : length v.items ≤ left → slice_get (extra_blocks l.sup 0 l.chains) place ≡ slice_get (extra_blocks l.sup (cpu + 1) (drop (cpu + 1) l.chains)) (left - length v.items)
  goes_on more = subst (λ (x : Layout). slice_get (extra_blocks x.sup 0 x.chains) place ≡ slice_get (extra_blocks x.sup (cpu + 1) (drop (cpu + 1) x.chains)) (left - length v.items)) same
      (here ∙ ap (λ (xs : List (List ℕ)). slice_get (extra_blocks s cpu xs) left) split ∙ behind_chain s cpu left v.items (drop (cpu + 1) (lists_of chains)) more)

  pub less_on : length v.items ≤ left → left - length v.items < length (extra_blocks l.sup (cpu + 1) (drop (cpu + 1) l.chains))
  less_on more = subst (λ (x : Layout). left - length v.items < length (extra_blocks x.sup (cpu + 1) (drop (cpu + 1) x.chains))) same (behind_less s cpu left v.items (drop (cpu + 1) (lists_of chains)) more less_split)

pub block_in_chain-requires-clause-place : goal.block_in_chain-requires-clause-place
block_in_chain-requires-clause-place c =
    let same : laid c.self.inside.sup c.self.inside.chains.items ≡ c.args.self.now.layout = ap (λ (t : TableChains). t.layout) c.self.view_is in
    place_small (laid c.self.inside.sup c.self.inside.chains.items) c.self.invariant.laid c.searching.cpu c.index-chain.result.now.items c.searching.left
    (chain_found c.self.inside.sup c.self.inside.chains.items c.args.self.now.layout same c.args.place c.searching.cpu c.searching.left c.searching.invariant.same c.searching.invariant.some c.index-chain.result.now c.index-chain.ensures)
    (let less = c.if-left-count.true in let long = c.len-count.ensures in let whole = c.index-chain.result.now.ok in omega (arith, less, long, whole))

pub block_in_chain-requires-clause-block : goal.block_in_chain-requires-clause-block
block_in_chain-requires-clause-block c =
    let same : laid c.self.inside.sup c.self.inside.chains.items ≡ c.args.self.now.layout = ap (λ (t : TableChains). t.layout) c.self.view_is in
    block_small (laid c.self.inside.sup c.self.inside.chains.items) c.self.invariant.laid c.searching.cpu c.index-chain.result.now.items c.searching.left c.index.result.now
    (chain_found c.self.inside.sup c.self.inside.chains.items c.args.self.now.layout same c.args.place c.searching.cpu c.searching.left c.searching.invariant.same c.searching.invariant.some c.index-chain.result.now c.index-chain.ensures)
    (let less = c.if-left-count.true in let long = c.len-count.ensures in let whole = c.index-chain.result.now.ok in omega (arith, less, long, whole)) c.index.ensures

pub returns-then-left-count : goal.returns-then-left-count
returns-then-left-count c =
    let same : laid c.self.inside.sup c.self.inside.chains.items ≡ c.args.self.now.layout = ap (λ (t : TableChains). t.layout) c.self.view_is in
    within c.self.inside.sup c.self.inside.chains.items c.args.self.now.layout same c.args.place c.searching.cpu c.searching.left c.searching.invariant.same c.searching.invariant.some c.index-chain.result.now c.index-chain.ensures
    (let less = c.if-left-count.true in let long = c.len-count.ensures in let whole = c.index-chain.result.now.ok in omega (arith, less, long, whole)) c.index.result.now c.index.ensures ∙ sym (ap Some c.block_in_chain.ensures)

pub searching-preserved : goal.searching-preserved
searching-preserved c =
    let same : laid c.self.inside.sup c.self.inside.chains.items ≡ c.args.self.now.layout = ap (λ (t : TableChains). t.layout) c.self.view_is in
    let long : c.len-count.result ≡ length c.index-chain.result.now.items = (let is = c.len-count.ensures in let whole = c.index-chain.result.now.ok in omega (arith, is, whole)) in
    let more : length c.index-chain.result.now.items ≤ c.searching.left = (let past = c.if-left-count.false in omega (arith, past, long)) in
    record {
      same = goes_on c.self.inside.sup c.self.inside.chains.items c.args.self.now.layout same c.args.place c.searching.cpu c.searching.left c.searching.invariant.same c.searching.invariant.some c.index-chain.result.now c.index-chain.ensures more
          ∙ sym (ap (λ (n : ℕ). slice_get (extra_blocks c.args.self.now.layout.sup (c.searching.cpu + 1) (drop (c.searching.cpu + 1) c.args.self.now.layout.chains)) (c.searching.left - n)) long);
      some = subst (λ (n : ℕ). c.searching.left - n < length (extra_blocks c.args.self.now.layout.sup (c.searching.cpu + 1) (drop (c.searching.cpu + 1) c.args.self.now.layout.chains))) (sym long)
          (less_on c.self.inside.sup c.self.inside.chains.items c.args.self.now.layout same c.args.place c.searching.cpu c.searching.left c.searching.invariant.same c.searching.invariant.some c.index-chain.result.now c.index-chain.ensures more);
    }

use Rattle.std.proofs.Common.{◌≡◌, ◌∙◌, ℕ, ap, sym, subst, length, ◌≤◌}
use Rattle.nv_blockset.specs.Listed.{Listed}
use Rattle.nv_inode.specs.Chains.{link_fault}
use Rattle.nv_inode.proofs.ReadChains.{chain_read, fault_read, none_started, none_fresh, turned}
use Rattle.nv_inode.proofs.chains.read_chain.Goals as goal
use Rattle.nv_inode.proofs.chains.read_chain.Goals.{then-not-is_page_start-via-then-not-is_page_start, then-not-is_page_start-via-else-not-is_page_start+then-contains}

pub reading-preserved : goal.reading-preserved
reading-preserved g c =
    let bound : c.push.new.self.bound ≡ c.args.sup.now.blocks = ap (λ (l : Listed). l.bound) c.in_ok-push.ensures.pushed ∙ c.reading.invariant.bound in
    record {
      bound = bound;
      read = turned _ _ _ c.reading.read.blocks _ _ c.load-link.result c.reading.invariant.read c.load-link.ensures (sym c.is_page_start.ensures ∙ c.if-not-is_page_start.false) (sym c.contains.ensures ∙ c.if-contains.false)
          (ap (λ (l : Listed). l.blocks) c.in_ok-push.ensures.pushed) (subst (λ (n : ℕ). length c.push.new.self.blocks ≤ n) bound c.in_ok-push.ensures.few);
    }

pub returns-then-not-is_page_start-clause-chain : goal.returns-then-not-is_page_start-clause-chain
returns-then-not-is_page_start-clause-chain g c = elim c.then-not-is_page_start.branch [
  | then-not-is_page_start-via-then-not-is_page_start w ↦ (λ i. record { bound = c.reading.invariant.bound i; blocks = sym (chain_read (g.P.Pmem.region c.args.memory.now) c.args.sup.now c.args.cpu c.reading.read.blocks c.reading.at c.reading.invariant.read (none_started (g.P.Pmem.region c.args.memory.now) c.args.sup.now c.reading.read.blocks c.reading.at c.load-link.result c.load-link.ensures (sym c.is_page_start.ensures ∙ w.if-not-is_page_start.true)) c.requires.version) i })
  | then-not-is_page_start-via-else-not-is_page_start+then-contains w ↦ (λ i. record { bound = c.reading.invariant.bound i; blocks = sym (chain_read (g.P.Pmem.region c.args.memory.now) c.args.sup.now c.args.cpu c.reading.read.blocks c.reading.at c.reading.invariant.read (none_fresh (g.P.Pmem.region c.args.memory.now) c.args.sup.now c.reading.read.blocks c.reading.at c.load-link.result c.load-link.ensures (sym w.contains.ensures ∙ w.if-contains.true)) c.requires.version) i })
]

pub returns-then-not-is_page_start-clause-fault : goal.returns-then-not-is_page_start-clause-fault
returns-then-not-is_page_start-clause-fault g c = elim c.then-not-is_page_start.branch [
  | then-not-is_page_start-via-then-not-is_page_start w ↦ (c.link_fault.ensures ∙ ap (link_fault c.args.sup.now c.args.cpu c.reading.at) c.load-link.ensures ∙ fault_read (g.P.Pmem.region c.args.memory.now) c.args.sup.now c.args.cpu c.reading.read.blocks c.reading.at c.reading.invariant.read (none_started (g.P.Pmem.region c.args.memory.now) c.args.sup.now c.reading.read.blocks c.reading.at c.load-link.result c.load-link.ensures (sym c.is_page_start.ensures ∙ w.if-not-is_page_start.true)) c.requires.version)
  | then-not-is_page_start-via-else-not-is_page_start+then-contains w ↦ (c.link_fault.ensures ∙ ap (link_fault c.args.sup.now c.args.cpu c.reading.at) c.load-link.ensures ∙ fault_read (g.P.Pmem.region c.args.memory.now) c.args.sup.now c.args.cpu c.reading.read.blocks c.reading.at c.reading.invariant.read (none_fresh (g.P.Pmem.region c.args.memory.now) c.args.sup.now c.reading.read.blocks c.reading.at c.load-link.result c.load-link.ensures (sym w.contains.ensures ∙ w.if-contains.true)) c.requires.version)
]

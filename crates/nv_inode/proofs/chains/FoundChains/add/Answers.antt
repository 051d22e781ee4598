use Rattle.std.proofs.Common.{◌≡◌, ◌++◌, ◌∷◌, ◌∙◌, ℕ, List, [], length, drop, ap, sym, subst, arith}
use Rattle.std.specs.List.{cons_option}
use Rattle.std.proofs.lemmas.List.{take_at}
use Rattle.std.proofs.lemmas.Result.{on_ok_weaker}
use Rattle.nv_blockset.specs.BlockSet.{is_set}
use Rattle.nv_blockset.specs.Listed.{Listed}
use Rattle.nv_inode.specs.Chains.{chain_in}
use Rattle.nv_inode.specs.Tables.{lists_of}
use Rattle.nv_inode.proofs.ReadChains.{AreData, chain_are_data, data_below, lists_more, marked_more, one_chain_more, one_fault_more}
use Rattle.nv_inode.proofs.chains.FoundChains.add.Goals as goal

pub mark_blocks-requires : goal.mark_blocks-requires
mark_blocks-requires g c k less =
    let listed : c.as_slice.result.now ≡ chain_in c.args.sup.now (g.P.Pmem.region c.args.memory.now) c.args.cpu = c.as_slice.ensures ∙ ap (λ (l : Listed). l.blocks) c.in_ok-fault.ensures.chain in
    let below = data_below c.args.sup.now c.as_slice.result.now k (subst (λ (xs : List ℕ). AreData c.args.sup.now xs) (sym listed) (chain_are_data c.args.sup.now (g.P.Pmem.region c.args.memory.now) c.args.cpu)) less in
    let room = c.requires.before.room in
    let same : length c.deref_mut.result.now ≡ length c.args.self.now.marks.items = ap length c.deref_mut.ensures.value in
    omega (arith, below, room, same)

pub returns-clause-more : goal.returns-clause-more
returns-clause-more g c =
    let s = c.args.sup.now in
    let R = g.P.Pmem.region c.args.memory.now in
    let before = c.requires.before in
    let listed : c.as_slice.result.now ≡ chain_in s R c.args.cpu = c.as_slice.ensures ∙ ap (λ (l : Listed). l.blocks) c.in_ok-fault.ensures.chain in
    let chain : c.in_ok-from_slice.field-0.items ≡ chain_in s R c.args.cpu = c.in_ok-from_slice.ensures.items ∙ c.as_slice-2.ensures ∙ ap (λ (l : Listed). l.blocks) c.in_ok-fault.ensures.chain in
    let same : length c.deref_mut.result.now ≡ length c.args.self.now.marks.items = ap length c.deref_mut.ensures.value in
    let words = take_at c.mark_blocks.new.marks (drop (length c.mark_blocks.new.marks) c.args.self.now.marks.items) c.args.self.now.marks.len (omega (arith, c.mark_blocks.ensures.count, same, c.args.self.now.marks.ok)) in
    on_ok_weaker c.push_fault.result (λ pushed. record {
      chains = ap lists_of c.in_ok-push.ensures.items ∙ lists_more c.args.self.now.chains.items c.in_ok-from_slice.field-0 ∙ (λ i. before.chains i ++ chain i ∷ []) ∙ sym (one_chain_more s R c.args.cpu);
      faults = pushed ∙ (λ i. before.faults i ++ cons_option (c.in_ok-fault.ensures.fault i) []) ∙ sym (one_fault_more s R c.args.cpu);
      room = (let long = ap length words in let room = before.room in omega (arith, long, room, c.mark_blocks.ensures.count, same));
      marked = λ b. ap (λ (ws : List ℕ). is_set ws b) words ∙ marked_more s R c.args.cpu b (is_set c.deref_mut.result.now b) (is_set c.mark_blocks.new.marks b) c.as_slice.result.now
          (ap (λ (ws : List ℕ). is_set ws b) c.deref_mut.ensures.value ∙ before.marked b) listed (c.mark_blocks.ensures.marked b);
    }) c.push_fault.ensures

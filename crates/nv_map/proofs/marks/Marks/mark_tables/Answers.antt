use Rattle.std.proofs.Common.{◌<◌, ◌≤◌, ◌∙◌, ℕ, [], List, length, sym, subst}
use Rattle.std.proofs.lemmas.List.{take_all}
use Rattle.std.proofs.lemmas.Option.{unwrap_or-slice_get}
use Rattle.nv_map.specs.Marks.{Raises, SaysChain, SaysOne}
use Rattle.nv_map.proofs.Says.{says_next}
use Rattle.nv_map.proofs.marks.Marks.mark_tables.Goals as goal

pub loop-cpu-preserved : goal.loop-cpu-preserved
loop-cpu-preserved c =
    let chains = c.args.tables.now.layout.chains in
    let cpu = c.loop-cpu.cpu in
    let below : cpu < length chains = subst (λ (n : ℕ). cpu < n) (c.cpus-cpu-end.ensures ∙ sym c.are_laid.ensures.each) c.loop-cpu-test.true in
    let told = subst (λ (chain : List ℕ). Raises (SaysChain chain) c.loop-cpu.self c.mark_chain.new.self) (c.chain.ensures ∙ unwrap_or-slice_get chains cpu []) c.mark_chain.ensures in
    says_next SaysChain chains cpu [] _ _ _ below c.loop-cpu.invariant told

pub returns : goal.returns
returns c =
    let chains = c.args.tables.now.layout.chains in
    let past : length chains ≤ c.loop-cpu.cpu = subst (λ (n : ℕ). n ≤ c.loop-cpu.cpu) (c.cpus-cpu-end.ensures ∙ sym c.are_laid.ensures.each) c.loop-cpu-test.false in
    subst (λ (xs : List (List ℕ)). Raises (SaysOne SaysChain xs) c.args.self.now c.loop-cpu.self) (take_all c.loop-cpu.cpu chains past) c.loop-cpu.invariant

use Rattle.std.proofs.Common.{◌≡◌, ◌∙◌, ◌++◌, ℕ, List, [], ◌∷◌, length, sym, ap, subst, arith}
use Rattle.nv_host.specs.declared.walking.HostEntry.{HostEntry}
use Rattle.nv_host.specs.Walking.{IsWalked, begins}
use Rattle.nv_host.proofs.Walked.{walked_within}
use Rattle.nv_host.proofs.walking.walk.Goals as goal

pub loop-next-init : goal.loop-next-init
loop-next-init g c =
    let top = c.in_ok-first_entry.field-0 in
    let alone = c.in_ok-push.ensures.items ∙ ap (λ (entries : List HostEntry). entries ++ top ∷ []) c.new-entries.ensures.items in
    subst (λ (entries : List HostEntry). IsWalked c.args.root.now entries 0) (sym alone) (begins top c.in_ok-first_entry.ensures)

pub returns-then-next-len : goal.returns-then-next-len
returns-then-next-len g c =
    let within = walked_within c.args.root.now c.loop-next.entries.items c.loop-next.next c.loop-next.invariant in
    let behind = c.if-next-len.true in
    let long = c.len.ensures in
    let all : c.loop-next.next ≡ length c.loop-next.entries.items = omega (arith, within, behind, long) in
    subst (λ (count : ℕ). IsWalked c.args.root.now c.loop-next.entries.items count) all c.loop-next.invariant

pub loop-next-preserved : goal.loop-next-preserved
loop-next-preserved g c = c.in_ok-pass.ensures c.args.root.now c.loop-next.invariant

use Rattle.std.proofs.Common.{◌≡◌, ◌<◌, ◌*◌, ◌-◌, ◌∙◌, Some, ap, sym, subst, length}
use Rattle.std.specs.Prelude.{slice_get}
use Rattle.nv_super.specs.Layout.{Layout}
use Rattle.nv_inode.specs.Tables.{TableChains, laid}
use Rattle.nv_inode.specs.SlotBlocks.{extra_blocks, slot_blocks}
use Rattle.nv_inode.proofs.TicketBlocks.{extra_at, extra_less, fixed_at}
use Rattle.nv_inode.proofs.chains.Tables.slot_block.Goals as goal

pub block_of_chains-requires : goal.block_of_chains-requires
block_of_chains-requires c =
    let same : laid c.self.inside.sup c.self.inside.chains.items ≡ c.args.self.now.layout = ap (λ (t : TableChains). t.layout) c.self.view_is in
    subst (λ (l : Layout). c.args.ticket - c.self.inside.sup.cpus * c.self.inside.sup.table_blocks < length (extra_blocks l.sup 0 l.chains)) same
    (extra_less (laid c.self.inside.sup c.self.inside.chains.items) c.args.ticket c.if-ticket-fixed.false (subst (λ (l : Layout). c.args.ticket < length (slot_blocks l)) (sym same) c.requires))

pub returns-then-ticket-fixed : goal.returns-then-ticket-fixed
returns-then-ticket-fixed c =
    let same : laid c.self.inside.sup c.self.inside.chains.items ≡ c.args.self.now.layout = ap (λ (t : TableChains). t.layout) c.self.view_is in
    subst (λ (l : Layout). slice_get (slot_blocks l) c.args.ticket ≡ Some c.fixed_block.result) same
    (fixed_at (laid c.self.inside.sup c.self.inside.chains.items) c.args.ticket c.if-ticket-fixed.true ∙ sym (ap Some c.fixed_block.ensures))

pub returns-else-ticket-fixed : goal.returns-else-ticket-fixed
returns-else-ticket-fixed c =
    let same : laid c.self.inside.sup c.self.inside.chains.items ≡ c.args.self.now.layout = ap (λ (t : TableChains). t.layout) c.self.view_is in
    subst (λ (l : Layout). slice_get (extra_blocks l.sup 0 l.chains) (c.args.ticket - c.self.inside.sup.cpus * c.self.inside.sup.table_blocks) ≡ Some c.block_of_chains.result → slice_get (slot_blocks l) c.args.ticket ≡ Some c.block_of_chains.result) same
    (λ is. extra_at (laid c.self.inside.sup c.self.inside.chains.items) c.args.ticket c.if-ticket-fixed.false ∙ is) c.block_of_chains.ensures

use Rattle.std.proofs.Common.{◌∙◌, ◌++◌, [], List, ap, subst, sym}
use Rattle.std.specs.List.{cons_option}
use Rattle.std.proofs.lemmas.Result.{IfOk-from_err}
use Rattle.nv_super.specs.declared.faults.Fault.{Fault}
use Rattle.nv_super.specs.declared.superblock.Super.{Super}
use Rattle.nv_region.specs.Region.{HasBlocks}
use Rattle.nv_super.specs.Layout.{IsLayout}
use Rattle.nv_scan.specs.Kept.{IsSlotOf}
use Rattle.nv_scan.specs.declared.piece.Row.{Row}
use Rattle.nv_scan.proofs.Scanning.{last_only, same_piece}
use Rattle.nv_scan.proofs.scan.scan_slot.Goals as goal

pub new-scanner-requires : goal.new-scanner-requires
new-scanner-requires g c = record { layout = subst IsLayout (sym c.sup-2.ensures) c.are_laid.ensures.layout }

pub scan_one-requires : goal.scan_one-requires
scan_one-requires g c = record { blocks = subst (λ (s : Super). HasBlocks (g.P.Pmem.region c.args.memory.now) s.blocks) (sym (c.new-scanner.ensures ∙ c.sup-2.ensures)) c.requires.blocks }

pub returns-clause-piece : goal.returns-clause-piece
returns-clause-piece g c =
    let inodes = c.scan_one.new.inodes in
    let is : IsSlotOf (g.P.Pmem.region c.args.memory.now) c.new-scanner.result c.args.tables.now.layout c.args.inode c.chain_block_at-table.result c.read_slot_at-slot.result = record {
      sup = sym (c.new-scanner.ensures ∙ c.sup-2.ensures);
      at = c.in-Some.at;
      stands = sym c.in-Some.ensures.value;
      words = c.read_slot_at-slot.ensures;
      tells = c.chain_block_at-table.ensures.tells c.args.tables.now.layout c.are_laid.ensures (sym c.sup.ensures) (λ some. sym c.in-Some.ensures.value);
    } in
    let kept = c.in_ok-scan_one.ensures.kept c.args.tables.now.layout is in
    let row = last_only kept.piece.row c.pop.result inodes.rows.items (kept.rows ∙ ap (λ (rows : List Row). rows ++ cons_option kept.piece.row []) c.new-inodes.ensures.rows) c.pop.ensures.variant c.pop.ensures.value in
    same_piece kept.piece _ kept.is.0 row kept.claims_are (sym (kept.faults ∙ ap (λ (faults : List Fault). faults ++ kept.piece.faults.items) c.new-inodes.ensures.faults)) kept.is.1

pub returns-in_err-scan_one-clause-number : goal.returns-in_err-scan_one-clause-number
returns-in_err-scan_one-clause-number g c = IfOk-from_err c.from_residual.result _ c.from_residual.ensures.0

pub returns-in_err-scan_one-clause-piece : goal.returns-in_err-scan_one-clause-piece
returns-in_err-scan_one-clause-piece g c = IfOk-from_err c.from_residual.result _ c.from_residual.ensures.0

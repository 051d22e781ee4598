use Rattle.std.proofs.Common.{◌≡◌, ◌∙◌, ℕ, Option, sym, ap, subst}
use Rattle.nv_region.specs.Region.{Region, HasBlocks}
use Rattle.nv_super.specs.Layout.{Layout}
use Rattle.nv_super.specs.declared.superblock.Super.{Super}
use Rattle.nv_inode.specs.Slot.{kind_in}
use Rattle.nv_inode.specs.declared.slot.Slot.{Slot}
use Rattle.nv_scan.specs.Kept.{IsSlotOf}
use Rattle.nv_scan.specs.declared.chain_block.ChainBlock.{ChainBlock}
use Rattle.nv_scan.proofs.Scanning.{unused_one, bad_valid_one, bad_kind_one, keeps_more}
use Rattle.nv_scan.proofs.scan.Scanner.scan_one.Goals as goal

-- by the same layouts, whichever way the superblock is named
of_sup : {R : Region} {s t : Super} {l : Layout} {i : ℕ} {told : Option ChainBlock} {slot : Slot} → s ≡ t → IsSlotOf R t l i told slot → IsSlotOf R s l i told slot
of_sup {R} {s} {t} {l} {i} {told} {slot} same is = record { sup = is.sup ∙ sym same; at = is.at; stands = is.stands; words = is.words; tells = is.tells }

pub returns-in-Unused-clause-kept : goal.returns-in-Unused-clause-kept
returns-in-Unused-clause-kept g c = λ l is. let R = g.P.Pmem.region c.args.memory.now in
    keeps_more _ _ _ c.keep_unused.result (unused_one R c.args.self.now l c.args.inode c.args.table c.args.slot.now is
    (sym c.state.ensures.in_use ∙ ap kind_in c.in-Unused.is) (c.state.ensures.unused.0 c.in-Unused.is)) c.keep_unused.ensures.kept

pub returns-in-BadValid-clause-kept : goal.returns-in-BadValid-clause-kept
returns-in-BadValid-clause-kept g c = λ l is. let R = g.P.Pmem.region c.args.memory.now in let bad = c.state.ensures.bad_valid.0 c.in-BadValid.is in
    keeps_more _ _ _ c.keep_bad_valid.result (bad_valid_one R c.args.self.now l c.args.inode c.args.table c.args.slot.now is
    (sym c.state.ensures.in_use ∙ ap kind_in c.in-BadValid.is) bad.0 bad.1) c.keep_bad_valid.ensures.kept

pub returns-in-BadKind-clause-kept : goal.returns-in-BadKind-clause-kept
returns-in-BadKind-clause-kept g c = λ l is. let R = g.P.Pmem.region c.args.memory.now in
    keeps_more _ _ _ c.keep_bad_kind.result (bad_kind_one R c.args.self.now l c.args.inode c.args.table c.args.slot.now is
    (sym c.state.ensures.in_use ∙ ap kind_in c.in-BadKind.is) (c.state.ensures.bad_kind.0 c.in-BadKind.is).0) c.keep_bad_kind.ensures.kept

pub returns-in-InUse-clause-kept : goal.returns-in-InUse-clause-kept
returns-in-InUse-clause-kept g c = λ l is. c.scan_log.ensures.kept l (of_sup c.self.view_is is)

pub scan_log-requires-clause-layout : goal.scan_log-requires-clause-layout
scan_log-requires-clause-layout g c = c.self.invariant.layout

pub scan_log-requires-clause-blocks : goal.scan_log-requires-clause-blocks
scan_log-requires-clause-blocks g c = subst (λ (s : Super). HasBlocks (g.P.Pmem.region c.args.memory.now) s.blocks) (sym c.self.view_is) c.requires.blocks

pub scan_log-requires-clause-kind : goal.scan_log-requires-clause-kind
scan_log-requires-clause-kind g c = sym c.state.ensures.in_use ∙ ap kind_in c.in-InUse.is

pub scan_log-requires-clause-reader : goal.scan_log-requires-clause-reader
scan_log-requires-clause-reader g c = c.self.invariant.reader

pub returns-in-Unused-clause-refused : goal.returns-in-Unused-clause-refused
returns-in-Unused-clause-refused g c = c.keep_unused.ensures.refused

pub returns-in-BadValid-clause-refused : goal.returns-in-BadValid-clause-refused
returns-in-BadValid-clause-refused g c = c.keep_bad_valid.ensures.refused

pub returns-in-BadKind-clause-refused : goal.returns-in-BadKind-clause-refused
returns-in-BadKind-clause-refused g c = c.keep_bad_kind.ensures.refused

pub returns-in-InUse-clause-refused : goal.returns-in-InUse-clause-refused
returns-in-InUse-clause-refused g c = c.scan_log.ensures.refused

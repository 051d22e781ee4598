use Rattle.std.proofs.Common.{ap, refl, sym, ◌∙◌, arith}
use Rattle.std.specs.Prelude.{is_some}
use Rattle.std.proofs.lemmas.Result.{IfOk-from_err}
use Rattle.nv_region.proofs.Told.{told_err}
use Rattle.nv_scan.proofs.ChainBlocks.{tells_nothing}
use Rattle.nv_scan.proofs.Told.{blank_either, piece_tells}
use Rattle.nv_scan.proofs.scan.Scanner.scan_at.Goals as goal

pub is_blank-requires-clause-inside : goal.is_blank-requires-clause-inside
is_blank-requires-clause-inside g c = let has = c.requires.blocks in let inside = c.requires.inside in omega (arith, has, inside)

pub read_slot_at-slot-requires-clause-whole : goal.read_slot_at-slot-requires-clause-whole
read_slot_at-slot-requires-clause-whole g c = let whole = c.requires.whole in omega (arith, whole)

pub read_slot_at-slot-requires-clause-inside : goal.read_slot_at-slot-requires-clause-inside
read_slot_at-slot-requires-clause-inside g c = let has = c.requires.blocks in let inside = c.requires.inside in omega (arith, has, inside)

pub returns-then-is_blank-clause-kept : goal.returns-then-is_blank-clause-kept
returns-then-is_blank-clause-kept g c = λ l laid of stands. (
    let blank = c.is_blank.ensures.blank c.if-is_blank.true in
    let tells = c.chain_block_at-table.ensures.tells l laid (of ∙ sym c.self.view_is) stands in
    (blank_either (g.P.Pmem.region c.args.memory.now) l c.args.inode c.args.at laid stands (tells_nothing l c.args.inode c.chain_block_at-table.result blank.0 tells) blank.1, refl))

pub returns-clause-kept : goal.returns-clause-kept
returns-clause-kept g c = λ l laid of stands.
    (let R = g.P.Pmem.region c.args.memory.now in
    let i = c.args.inode in
    let used = c.is_blank.ensures.told c.if-is_blank.false in
    let here = stands used.0 in
    let tells = c.chain_block_at-table.ensures.tells l laid (of ∙ sym c.self.view_is) stands in
    let kept = c.in_ok-scan_one.ensures.kept l record { sup = of; at = c.args.at; stands = here; words = c.read_slot_at-slot.ensures; tells = tells } in record {
      piece = kept.piece;
      is = (kept.is.0, ap is_some here, kept.is.1, piece_tells R l i c.args.at here kept.piece kept.is.0 kept.is.1 c.chain_block_at-table.result tells used.1);
      rows = kept.rows;
      faults = kept.faults;
      claims_are = kept.claims_are;
    })

pub returns-in_err-scan_one-clause-kept : goal.returns-in_err-scan_one-clause-kept
returns-in_err-scan_one-clause-kept g c = IfOk-from_err c.from_residual.result _ c.from_residual.ensures.0

pub returns-in_err-scan_one-clause-refused : goal.returns-in_err-scan_one-clause-refused
returns-in_err-scan_one-clause-refused g c = told_err c.from_residual.result c.in_err-scan_one.ensures.refused

use Rattle.std.proofs.Common.{arith, sym, subst}
use Rattle.nv_region.specs.Region.{region_of}
use Rattle.nv_metadata.specs.Memory.{MetadataState, CanHold}
use Rattle.nv_metadata.proofs.Shown.{shows_with, words_read}
use Rattle.nv_metadata.proofs.Ready.{hold_more}
use Rattle.nv_metadata.proofs.walking.fetch.Goals as goal

pub returns-clause-shows : goal.returns-clause-shows
returns-clause-shows g c image known shows =
    let held = c.in_ok-hold.ensures in
    shows_with (region_of image) c.read.new.into c.args.block c.args.memory.now c.hold.new.self shows (words_read image c.read.new.into c.args.block (c.in_ok-read.ensures.read image known) (omega (arith, held.held.0, held.whole))) (omega (arith, c.requires.can.behind, c.requires.can.can.front)) held.same.open.0 held.begins.piece held.begins.zeros held.begins.others held.held.0 held.held.1 held.same.as_long held.same.rest

pub returns-clause-can : goal.returns-clause-can
returns-clause-can g c =
    let held = c.in_ok-hold.ensures in
    hold_more c.args.sup.now c.args.memory.now c.hold.new.self c.args.block c.requires.can.can c.requires.can.behind held.begins.others held.same.as_long held.same.rest held.same.open

pub returns-in_err-hold-clause-can : goal.returns-in_err-hold-clause-can
returns-in_err-hold-clause-can g c = subst (λ (m : MetadataState). CanHold c.args.sup.now m) (sym c.in_err-hold.ensures.refused) c.requires.can.can

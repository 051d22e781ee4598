use Rattle.std.proofs.Common.{take, map, string_bytes}
use Rattle.nv_folders.specs.Folders.{spot_of}
use Rattle.nv_report.specs.Texts.{AddsText}
use Rattle.nv_listing.specs.Folders.{AreMoreTexts}
use Rattle.nv_listing.proofs.folders.push_more.Given as goal

-- the directories so far were added
abbrev pub invariant-loop-folder : goal.invariant-loop-folder
invariant-loop-folder l = AddsText (AreMoreTexts l.long l.rows.items (map spot_of (take l.folder-index l.folders))) (string_bytes l.fn.out) (string_bytes l.out)

use Rattle.std.proofs.Common.{◌≡◌, ◌++◌, map, take, string_bytes}
use Rattle.nv_calls.specs.Listing.{name_and_inode}
use Rattle.nv_session.specs.Machine.{list_lines}
use Rattle.nv_session.proofs.files.push_lines.Given as goal

abbrev pub invariant-loop-named : goal.invariant-loop-named
invariant-loop-named l = string_bytes l.out ≡ string_bytes l.fn.out ++ list_lines (map name_and_inode (take l.named-index l.listed))

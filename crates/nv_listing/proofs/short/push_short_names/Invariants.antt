use Rattle.std.proofs.Common.{◌≡◌, ◌++◌, take, map, string_bytes}
use Rattle.nv_names.specs.Names.{line_of}
use Rattle.nv_listing.specs.Folders.{short_lines}
use Rattle.nv_listing.proofs.short.push_short_names.Given as goal

abbrev pub invariant-loop-named : goal.invariant-loop-named
invariant-loop-named l = string_bytes l.out ≡ string_bytes l.fn.out ++ short_lines (map line_of (take l.named-index l.listed))

use Rattle.std.proofs.Common.{◌≡◌, ◌++◌, drop, string_bytes}
use Rattle.nv_inspect.specs.Log.{lines_of}
use Rattle.nv_inspect.proofs.logs.push_lines.Given as goal

-- the lines of the entries that are left are still to come
abbrev pub invariant-loop-place : goal.invariant-loop-place
invariant-loop-place l = string_bytes l.out ++ lines_of l.sup l.row (drop l.place l.fates) l.left (drop l.place l.entries)
    ≡ string_bytes l.initial.out ++ lines_of l.sup l.row l.fates l.pages l.entries

use Rattle.std.proofs.Common.{◌≡◌, ◌++◌, take, map, string_bytes}
use Rattle.nv_text.specs.Free.{free_lines}
use Rattle.nv_text.proofs.free.push_free_lines.Given as goal

abbrev pub invariant-loop-cpu : goal.invariant-loop-cpu
invariant-loop-cpu l = string_bytes l.out ≡ string_bytes l.fn.out ++ free_lines (map (λ runs. runs.items) (take l.cpu l.pools))

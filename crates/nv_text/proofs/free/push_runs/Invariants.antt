use Rattle.std.proofs.Common.{◌≡◌, ◌++◌, take, flat_map, string_bytes, codes}
use Rattle.nv_text.specs.Free.{run_text}
use Rattle.nv_text.proofs.free.push_runs.Given as goal

abbrev pub invariant-loop-run : goal.invariant-loop-run
invariant-loop-run l = string_bytes l.out ≡ string_bytes l.fn.out ++ flat_map (λ r. codes " " ++ run_text r) (take l.run-index l.runs)

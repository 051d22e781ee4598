use Rattle.std.proofs.Common.{◌≡◌, ◌++◌, take, string_bytes}
use Rattle.nv_image_check.specs.Sentences.{sentences}
use Rattle.nv_image_check.proofs.sentences.push_sentences.Given as goal

abbrev pub invariant-loop-fault : goal.invariant-loop-fault
invariant-loop-fault g l = string_bytes l.out ≡ string_bytes l.fn.out ++ sentences (g.P.Pmem.region l.memory) l.tables.layout (take l.fault-index l.faults)

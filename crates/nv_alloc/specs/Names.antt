-- The names of refusals, as they are printed.
use Rattle.std.specs.Prelude.{ℕ, List, codes}
use Rattle.nv_alloc.specs.declared.allocators.AllocRefusal.{AllocRefusal}
use Rattle.nv_alloc.specs.declared.allocators.AllocRefusal.TheVariants.{NoSpace, Memory}

-- the name of a refusal
abbrev pub refusal_name : AllocRefusal → List ℕ
refusal_name NoSpace = codes "NoSpace"
refusal_name Memory = codes "Memory"

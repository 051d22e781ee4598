-- What the steps of calls ask, where it follows from the arguments and from what is kept.
use Rattle.std.proofs.Common.{◌≡◌, ℕ, ◌+◌, ◌%◌, ◌<◌, ◌≤◌, min, Bool, List, ap, sym, ◌∙◌, subst, arith, Option}
use Rattle.nv_region.specs.Region.{Region}
use Rattle.nv_super.specs.declared.superblock.Super.{Super}
use Rattle.nv_super.specs.declared.faults.Fault.{Fault}
use Rattle.nv_super.specs.Layout.{Layout}
use Rattle.nv_alloc.specs.FreeValue.{FreeLists}
use Rattle.nv_scan.specs.declared.piece.Row.{Row}
use Rattle.nv_steps.specs.Writes.{plan_of}
use Rattle.nv_steps.specs.declared.planning.Plan.{Plan}
use Rattle.nv_calls.specs.Mount.{IsKept}

-- a CPU of the superblock has a pool
pub low_pools : {R : Region} {s : Super} {l : Layout} {rows : List Row} {free : FreeLists} {faults : List Fault} {read_only stopped : Bool} → IsKept R s l rows free faults read_only stopped → (cpu : ℕ) → cpu < l.sup.cpus → cpu < free.sup.cpus
low_pools kept cpu low = subst (λ (t : Super). cpu < t.cpus) (sym kept.lists) low

-- the low 12 bits of a mode
pub low_bits : (mode : ℕ) → mode % 4096 ≤ 4095
low_bits mode = omega arith

-- bytes that end where a file can end
pub ends_small : (offset count given : ℕ) → given ≡ min (offset + count) 18446744073709551615 → given ≤ 1073741824 → offset + count ≤ 1073741824
ends_small offset count given is most = omega (arith, is, most)

-- a plan is one of its own time
pub planned : (pages : ℕ → Option ℕ) (size offset count time : ℕ) (q : Plan) → q ≡ plan_of pages size offset count time → q ≡ plan_of pages size offset count q.time
planned pages size offset count time q is = is ∙ ap (λ (t : ℕ). plan_of pages size offset count t) (sym (ap (λ (p : Plan). p.time) is))

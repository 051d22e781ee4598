-- What a plan says, by the values that it was made of.
use Rattle.std.proofs.Common.{◌≡◌, ℕ, ◌+◌, ◌-◌, ◌/◌, max, Option}
use Rattle.nv_steps.specs.Writes.{ending_page, plan_of}
use Rattle.nv_steps.specs.declared.planning.Plan.{Plan}

pub plan_is : (mapped : ℕ → Option ℕ) (size offset count time most : ℕ) (ending : Option ℕ) → most ≡ max size (offset + count) → ending ≡ ending_page mapped size offset
    → ◌≡◌ {A = Plan} (record { size = most; time = time; first = offset / 4096; pages = (offset + count - 1) / 4096 + 1 - offset / 4096; ending = ending }) (plan_of mapped size offset count time)
plan_is mapped size offset count time most ending is ends = λ t. record { size = is t; time = time; first = offset / 4096; pages = (offset + count - 1) / 4096 + 1 - offset / 4096; ending = ends t }

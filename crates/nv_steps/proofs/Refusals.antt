-- What a refused call tells its caller, and what one that wasn't refused promises.
use Rattle.std.proofs.Common.{◌≡◌, ℕ, ◌<◌, Bool, false, true≢false, List, is_err, sym, ◌∙◌, subst, Result, Ok, Err, OnOk}
use Rattle.nv_super.specs.declared.owners.Run.{Run}
use Rattle.nv_alloc.specs.declared.allocators.AllocRefusal.{AllocRefusal}
use Rattle.nv_alloc.specs.declared.allocators.AllocRefusal.TheVariants.{NoSpace as TooFew}
use Rattle.nv_alloc.specs.FreeLists.{Refuses}
use Rattle.nv_alloc.specs.Taking.{all_blocks}
use Rattle.nv_tree.specs.declared.refusal.Refusal.{Refusal}
use Rattle.nv_tree.specs.declared.refusal.Refusal.TheVariants.{Memory, NoSpace, Stopped}

-- all pools together have too few blocks
pub no_space : (e : AllocRefusal) (n : ℕ) (pools : List (List Run)) → Refuses e n pools → e ≡ TooFew → all_blocks pools < n
no_space e n pools told is = subst (λ (r : AllocRefusal). Refuses r n pools) is told

-- neither too few blocks nor a growth that was refused is a stop
pub no_space_goes_on : ◌≡◌ {A = Refusal} NoSpace Stopped → ⊥
no_space_goes_on is = absurd (cc)

pub memory_goes_on : ◌≡◌ {A = Refusal} Memory Stopped → ⊥
memory_goes_on is = absurd (cc)

-- what a call promises that wasn't refused
pub not_refused : {A E P : Type 0} (r : Result A E) (refused : Bool) → refused ≡ is_err r → refused ≡ false → OnOk r P → P
not_refused (Ok x) refused is not p = p
not_refused (Err e) refused is not p = absurd (true≢false (sym is ∙ not))

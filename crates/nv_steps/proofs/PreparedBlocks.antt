-- What was taken for a write: blocks that were free, each once.
use Rattle.std.proofs.Common.{◌≡◌, ℕ, ◌<◌, ◌≤◌, List, ◌∷◌, ap, sym, ◌∙◌, subst, arith, Some}
use Rattle.std.specs.List.{Contains}
use Rattle.nv_super.specs.declared.owners.Run.{Run}
use Rattle.nv_super.specs.declared.superblock.Super.{Super}
use Rattle.nv_super.specs.Layout.{Layout, system_blocks}
use Rattle.nv_alloc.specs.FreeValue.{FreeLists}
use Rattle.nv_alloc.specs.FreeLists.{IsFreeIn, Leave}
use Rattle.nv_alloc.specs.Taking.{HasBlock, pool_at}
use Rattle.nv_alloc.proofs.Sound.{data_block, free_within}
use Rattle.nv_entry.specs.declared.entry.Entry.{Entry}
use Rattle.nv_mounted.specs.Held.{Store}
use Rattle.nv_mounted.specs.Blocks.{KeepsFree}
use Rattle.nv_mounted.specs.Blocks as blocks
use Rattle.nv_mounted.specs.Lists.{TakeAll}
use Rattle.nv_steps.specs.Writes.{data_blocks}
use Rattle.nv_steps.specs.Written.{Prepared}
use Rattle.nv_steps.specs.declared.planning.Plan.{Plan}
use Rattle.nv_steps.proofs.DataEntries.{Fits}
use Rattle.nv_steps.proofs.TakenBlocks.{each_was_free, stays_free, taken_sup}
use Rattle.nv_steps.proofs.Takes.{takes_some}
use Rattle.nv_steps.proofs.OneByOne.{single_takes, takes_of}

-- a free block of what is held
pub free_held : (l : Layout) (held : Store) (old : FreeLists) → KeepsFree l held old.pools → (cpu b : ℕ) → IsFreeIn old cpu b → blocks.IsUnowned l held b
free_held l held old kept cpu b free =
    let below : cpu < l.sup.cpus = (let inside = free_within old.pools cpu b free in let n = kept.pools in omega (arith, inside, n)) in
    ((kept.each cpu below).each free.0 b free.1 free.2 free.3).1

module _ {old new : FreeLists} {cpu tail : ℕ} {plan : Plan} {entries : List Entry} {fresh : List ℕ} (p : Prepared old cpu tail plan entries fresh new) where
  pub from_before : (c b : ℕ) → IsFreeIn p.from c b → IsFreeIn old c b
  from_before c b free = subst (λ (pools : List (List Run)). HasBlock (pool_at pools c) b) p.same.pools free

  pub runs_were_free : (b : ℕ) → HasBlock p.runs b → (c : ℕ) × IsFreeIn old c b
  runs_were_free b w = let f = p.leave.free b w in (f.0, from_before f.0 b f.1)

  pub fresh_was_free : (b : ℕ) → Contains fresh b → (c : ℕ) × IsFreeIn old c b
  fresh_was_free b c = let f = each_was_free p.taken b c in (f.0, from_before f.0 b (p.leave.stays f.0 b f.1))

  pub fresh_apart : (b : ℕ) → HasBlock p.runs b → Contains fresh b → ⊥
  fresh_apart b w c = let f = each_was_free p.taken b c in p.leave.gone f.0 b f.1 w

  pub free_before : (c b : ℕ) → IsFreeIn new c b → IsFreeIn old c b
  free_before c b free =
      let first = stays_free p.taken.from new fresh (takes_of p.taken) c b free in
      from_before c b (p.leave.stays c b (subst (λ (pools : List (List Run)). HasBlock (pool_at pools c) b) p.taken.same.pools first))

  pub prepared_sup : new.sup ≡ old.sup
  prepared_sup = taken_sup p.taken ∙ p.took.sup ∙ p.same.sup

  -- they are data blocks
  pub runs_in_data : (b : ℕ) → HasBlock p.runs b → (system_blocks old.sup ≤ b) × (b < old.sup.blocks)
  runs_in_data b w =
      let f = p.leave.free b w in
      subst (λ (s : Super). (system_blocks s ≤ b) × (b < s.blocks)) p.same.sup (data_block p.from p.sound f.0 b f.1)

  pub fits : cpu < old.sup.cpus → 0 < plan.pages → ((q : ℕ) → plan.ending ≡ Some q → q < plan.first) → Fits plan p.runs
  fits below pages before = record {
    blocks = p.leave.blocks;
    some = takes_some p.from.pools cpu (data_blocks plan) p.runs p.mid.pools p.sound.apart
        (let count = p.sound.count in let cpus : p.from.sup.cpus ≡ old.sup.cpus = ap (λ (s : Super). s.cpus) p.same.sup in omega (arith, below, count, cpus)) p.took.takes;
    once = p.leave.disjoint;
    pages = pages;
    before = before;
  }

  -- both takes, one after the other
  leaves_next : Leave p.from (data_blocks plan) p.runs p.taken.from
  leaves_next =
      let P : List (List Run) → Type 0 = λ pools. Leave p.from (data_blocks plan) p.runs (record p.mid { pools = pools }) in
      let moved : P p.taken.from.pools = subst P (sym p.taken.same.pools) (record { blocks = p.leave.blocks; free = p.leave.free; disjoint = p.leave.disjoint; gone = p.leave.gone; stays = p.leave.stays; rest = p.leave.rest }) in
      record { blocks = moved.blocks; free = moved.free; disjoint = moved.disjoint; gone = moved.gone; stays = moved.stays; rest = moved.rest }

  pub all_taken : TakeAll p.from (p.runs ∷ single_takes fresh) new
  all_taken = (p.taken.from, record { sound = p.taken.sound; sup = p.taken.same.sup ∙ p.took.sup; blocks = data_blocks plan; leave = leaves_next }, takes_of p.taken)

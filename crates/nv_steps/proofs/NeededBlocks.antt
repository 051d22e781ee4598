-- What a write is made ready with: how much it needs, and what is given back where it is refused.
use Rattle.std.proofs.Common.{◌≡◌, ℕ, suc, ◌+◌, ◌%◌, ◌<◌, ◌≤◌, inl, inr, Bool, true, false, cond, nat_le, List, [], ◌∷◌, length, ap, sym, ◌∙◌, subst, arith, Option, Some, None}
use Rattle.std.proofs.lemmas.List.{length-append}
use Rattle.std.specs.List.{Contains}
use Rattle.nv_super.specs.declared.owners.Run.{Run}
use Rattle.nv_super.specs.declared.superblock.Super.{Super}
use Rattle.nv_super.specs.Layout.{system_blocks}
use Rattle.nv_super.proofs.Rising.{Contains-head, Contains-tail}
use Rattle.nv_alloc.specs.FreeValue.{FreeLists}
use Rattle.nv_alloc.specs.FreeLists.{IsSound, JoinAll, Leave, Took}
use Rattle.nv_alloc.specs.Taking.{HasBlock, Takes, all_blocks, blocks_in, left, pool_at, taken}
use Rattle.nv_alloc.proofs.Fronts.{blocks_cons}
use Rattle.nv_alloc.proofs.GivenBack.{restores}
use Rattle.nv_alloc.proofs.Sound.{data_block}
use Rattle.nv_alloc.proofs.Singly.{takes_once}
use Rattle.nv_entry.specs.declared.entry.Entry.{Entry}
use Rattle.nv_entry.specs.Spelling.{entry_length}
use Rattle.nv_logpage.specs.Append.{needed}
use Rattle.nv_steps.specs.Taken.{SamePools}
use Rattle.nv_steps.specs.Writes.{CanGive, NeedsBlocks, data_blocks, data_entries, ended_entries, run_entries}
use Rattle.nv_steps.specs.declared.planning.Plan.{Plan}
use Rattle.nv_steps.proofs.DataEntries.{rest_is}
use Rattle.nv_steps.proofs.RunEntries.{entries_count, first_is}
use Rattle.nv_steps.proofs.Takes.{takes_less, takes_some}

-- entries take at most a page each
pub needed_few : (offset : ℕ) (entries : List Entry) → needed offset entries ≤ length entries
needed_few offset [] = omega arith
needed_few offset (e ∷ entries) = by (nat_le (offset + entry_length e) 4064) (needed_few (offset + entry_length e) entries) (needed_few (entry_length e) entries) where
  by : (t : Bool) → needed (offset + entry_length e) entries ≤ length entries → needed (entry_length e) entries ≤ length entries → cond t (needed (offset + entry_length e) entries) (suc (needed (entry_length e) entries)) ≤ length (e ∷ entries)
  by true first second = omega (arith, first)
  by false first second = omega (arith, second)

-- runs that aren't empty have a block each
pub runs_few : (runs : List Run) → ((r : Run) → Contains runs r → 0 < r.count) → length runs ≤ blocks_in runs
runs_few [] some = omega arith
runs_few (r ∷ runs) some =
    let rest = runs_few runs (λ x c. some x (Contains-tail r runs x c)) in
    let first = some r (Contains-head r runs) in
    let sum = blocks_cons r runs in
    omega (arith, rest, first, sum)

-- a write has at most an entry a block
pub entries_few : (plan : Plan) (runs : List Run) → 0 < length runs → ((r : Run) → Contains runs r → 0 < r.count) → length (data_entries plan runs) ≤ blocks_in runs
entries_few plan [] there some = absurd (omega (arith, there))
entries_few plan (r ∷ runs) there some = by plan.ending where
  by : (o : Option ℕ) → length (ended_entries plan o (r ∷ runs)) ≤ blocks_in (r ∷ runs)
  by None = (let count = entries_count plan plan.first (r ∷ runs) in let few = runs_few (r ∷ runs) some in omega (arith, count, few))
  by (Some q) =
      let apart = rest_is r runs some in
      let few = runs_few (left 1 (r ∷ runs)) apart.some in
      let count = entries_count plan plan.first (left 1 (r ∷ runs)) in
      let one = entries_count plan q (taken 1 (r ∷ runs)) in
      let single : length (taken 1 (r ∷ runs)) ≡ 1 = ap (λ (xs : List Run). length xs) (first_is r runs (some r (Contains-head r runs))) in
      let both = length-append (run_entries plan q (taken 1 (r ∷ runs))) (run_entries plan plan.first (left 1 (r ∷ runs))) in
      let sum = apart.count in
      omega (arith, both, one, single, count, few, sum)

-- ---- blocks that were taken at once

module _ {from mid : FreeLists} {cpu n : ℕ} {runs : List Run} (took : Took from cpu n runs mid) (leave : Leave from n runs mid) (sound : IsSound from) (below : cpu < from.sup.cpus) where
  inside : cpu < length from.pools
  inside = (let count = sound.count in omega (arith, count, below))

  pub runs_some : (r : Run) → Contains runs r → 0 < r.count
  runs_some = takes_some from.pools cpu n runs mid.pools sound.apart inside took.takes

  pub run_starts : (r : Run) → Contains runs r → r.start < from.sup.blocks
  run_starts r c =
      let some = runs_some r c in
      let f = leave.free r.start (r, c, omega arith, omega (arith, some)) in
      let place = data_block from sound f.0 r.start f.1 in
      place.1

  module _ {now : FreeLists} (same : SamePools mid now) where
    sups : now.sup ≡ from.sup
    sups = same.sup ∙ took.sup

    -- They can be given back.
    pub can_give_back : CanGive now runs
    can_give_back = record {
      «data» = λ b w. (let f = leave.free b w in subst (λ (s : Super). (system_blocks s ≤ b) × (b < s.blocks)) (sym sups) (data_block from sound f.0 b f.1));
      used = λ c b w free. leave.gone c b (subst (λ (pools : List (List Run)). HasBlock (pool_at pools c) b) same.pools free) w;
      once = leave.disjoint;
    }

    -- Then the lists are those of before.
    pub all_given_back : (back : FreeLists) → JoinAll now runs back → SamePools from back
    all_given_back back joins =
        let bare : FreeLists = record { sup = from.sup; pools = from.pools; room = 0 } in
        let right : IsSound bare = record { layout = sound.layout; count = sound.count; apart = sound.apart; within = sound.within } in
        let gave : Took bare cpu n runs now = record { sup = sups; takes = subst (λ (pools : List (List Run)). Takes from.pools cpu n runs pools) (sym same.pools) took.takes; room = omega arith } in
        let w = restores bare now back cpu n runs right below gave joins in
        record { sup = w.0; pools = w.1 }

-- ---- how many blocks are needed

module _ (pools : List (List Run)) (cpu tail : ℕ) (plan : Plan) where
  -- the data alone is too much
  pub too_much_data : all_blocks pools < data_blocks plan → (count : ℕ) → NeedsBlocks pools cpu tail plan count → all_blocks pools < count
  too_much_data few count (inl w) = (let same = w.1 in omega (arith, few, same))
  too_much_data few count (inr w) = (let same = w.3 in omega (arith, few, same))

  module _ (runs : List Run) (after : List (List Run)) (inside : cpu < length pools) (takes : Takes pools cpu (data_blocks plan) runs after) where
    abbrev log : ℕ
    log = needed (tail % 4096) (data_entries plan runs)

    counts : (count : ℕ) → NeedsBlocks pools cpu tail plan count → data_blocks plan ≤ all_blocks pools → count ≡ data_blocks plan + log
    counts count (inl w) enough = absurd (let few = w.0 in omega (arith, few, enough))
    counts count (inr w) enough = w.3 ∙ ap (λ (xs : List Run). data_blocks plan + needed (tail % 4096) (data_entries plan xs)) (takes_once pools cpu (data_blocks plan) w.0 runs w.1 after w.2 takes).0

    less : all_blocks after + data_blocks plan ≡ all_blocks pools
    less = takes_less pools cpu (data_blocks plan) runs after inside takes

    pub enough_blocks : log ≤ all_blocks after → (count : ℕ) → NeedsBlocks pools cpu tail plan count → count ≤ all_blocks pools
    enough_blocks fits count needs =
        let sum = less in
        let is = counts count needs (omega (arith, sum)) in
        omega (arith, is, sum, fits)

    pub too_much_log : all_blocks after < log → (count : ℕ) → NeedsBlocks pools cpu tail plan count → all_blocks pools < count
    too_much_log few count needs =
        let sum = less in
        let is = counts count needs (omega (arith, sum)) in
        omega (arith, is, sum, few)

-- There are some runs where they have some blocks.
pub some_runs : (runs : List Run) → 0 < blocks_in runs → 0 < length runs
some_runs [] some = (let none : 0 < 0 = some in absurd (omega (arith, none)))
some_runs (r ∷ runs) some = omega arith

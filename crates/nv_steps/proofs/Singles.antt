-- Takes of one block.
use Rattle.std.proofs.Common.{◌≡◌, ℕ, ◌-◌, ◌<◌, ◌≤◌, inl, inr, List, [], ◌∷◌, ◌++◌, append_assoc, length, get_or, refl, ap, sym, ◌∙◌, subst, arith}
use Rattle.std.proofs.Math.ListN.{set}
use Rattle.std.proofs.lemmas.Bool.{cases_lt}
use Rattle.std.proofs.lemmas.List.{append-nil, get_or-set_same, get_or-set_other}
use Rattle.nv_super.specs.declared.owners.Run.{Run}
use Rattle.nv_super.specs.declared.superblock.Super.{Super}
use Rattle.nv_super.specs.Runs.{Apart, InRun}
use Rattle.nv_super.specs.Layout.{system_blocks}
use Rattle.nv_super.proofs.Rising.{Contains-head}
use Rattle.nv_super.proofs.Runs.{some_blocks}
use Rattle.nv_alloc.specs.Taking.{HasBlock, blocks_in, taken, pool_at, Takes, ends, goes_on, block_run}
use Rattle.nv_alloc.proofs.Fronts.{taken_none, taken_whole, taken_part, taken_over}
use Rattle.nv_alloc.proofs.GivenBack.{restores}
use Rattle.nv_alloc.proofs.Leaving.{one_of}
use Rattle.nv_alloc.proofs.Sound.{data_block}
use Rattle.nv_alloc.specs.FreeValue.{FreeLists}
use Rattle.nv_alloc.specs.FreeLists.{IsSound, Took, Leave, CanJoin, Joins}
use Rattle.nv_steps.specs.Taken.{SamePools, TakesOne, TakesEach, TakesOnto, TakesInTurn}

-- one block of runs
one_taken : (rs : List Run) → Apart rs → 1 ≤ blocks_in rs → (b : ℕ) × (taken 1 rs ≡ block_run b ∷ [])
one_taken [] apart some = absurd (omega (arith, some))
one_taken (r ∷ rs) apart some =
    let has : 0 < r.count = some_blocks r rs apart in
    elim (cases_lt 1 r.count) [
      | inl more ↦ (r.start, taken_part 1 r rs (omega arith) more)
      | inr last ↦
          let one : r.count ≡ 1 = omega (arith, has, last) in
          let none : 1 - r.count ≡ 0 = omega (arith, one) in
          let is : r ≡ block_run r.start = (λ k. record { start = r.start; count = one k }) in
          (r.start, taken_whole 1 r rs (omega arith) last ∙ ap (λ (n : ℕ). r ∷ taken n rs) none ∙ ap (λ (xs : List Run). r ∷ xs) (taken_none rs) ∙ ap (λ (x : Run). x ∷ []) is)
    ]

-- runs without blocks
no_runs : (rs : List Run) → Apart rs → blocks_in rs < 1 → rs ≡ []
no_runs rs apart few = sym (taken_over 0 rs apart (omega (arith, few))) ∙ taken_none rs

pub emptied_apart : (pools : List (List Run)) (c : ℕ) → c < length pools → ((e : ℕ) → Apart (pool_at pools e)) → (e : ℕ) → Apart (pool_at (set pools c []) e)
emptied_apart pools c inside apart e = elim (one_of e c) [
  | inl differ ↦ subst Apart (sym (get_or-set_other pools c e [] [] differ)) (apart e)
  | inr same ↦ subst (λ (k : ℕ). Apart (pool_at (set pools c []) k)) same (subst Apart (sym (get_or-set_same pools c [] [] inside)) tt)
]

-- A take of one block gives it as a run.
pub one_run : (pools : List (List Run)) (c n : ℕ) (runs : List Run) (after : List (List Run)) → ((e : ℕ) → Apart (pool_at pools e)) → c < length pools → n ≡ 1 → Takes pools c n runs after → (b : ℕ) × (runs ≡ block_run b ∷ [])
one_run pools c n runs after apart inside one (ends some) =
    let w = one_taken (pool_at pools c) (apart c) (omega (arith, one, some)) in
    (w.0, ap (λ (m : ℕ). taken m (pool_at pools c)) one ∙ w.1)
one_run pools c n runs after apart inside one (goes_on d more after' few fullest rest) =
    let none : pool_at pools c ≡ [] = no_runs (pool_at pools c) (apart c) (omega (arith, one, few)) in
    let w = one_run (set pools c []) d (n - blocks_in (pool_at pools c)) more after' (emptied_apart pools c inside apart) fullest.within (let zero = ap blocks_in none in omega (arith, one, zero)) rest in
    (w.0, ap (λ (xs : List Run). xs ++ more) none ∙ w.1)

-- What a take of one block did.
pub takes_one : (old new : FreeLists) (cpu : ℕ) (runs : List Run) (first : Run) → IsSound old → IsSound new → cpu < old.sup.cpus → Took old cpu 1 runs new → Leave old 1 runs new → first ≡ get_or runs 0 first → TakesOne old cpu first.start new
takes_one old new cpu runs first before after below took leave here =
    let w = one_run old.pools cpu 1 runs new.pools before.apart (let n = before.count in omega (arith, n, below)) refl took.takes in
    let is : runs ≡ block_run first.start ∷ [] = w.1 ∙ ap (λ (b : ℕ). block_run b ∷ []) (sym (ap (λ (r : Run). r.start) (here ∙ ap (λ (xs : List Run). get_or xs 0 first) w.1))) in
    record {
      took = subst (λ (xs : List Run). Took old cpu 1 xs new) is took;
      leave = subst (λ (xs : List Run). Leave old 1 xs new) is leave;
      before = before;
      after = after;
    }

-- ---- one block given back

-- A block that was taken can be given back.
pub one_can_join : (old mid now : FreeLists) (cpu b : ℕ) → TakesOne old cpu b mid → SamePools mid now → CanJoin now (block_run b)
one_can_join old mid now cpu b one same =
    let has : (c : ℕ) → InRun (block_run b) c → HasBlock (block_run b ∷ []) c = λ c inside. (block_run b, Contains-head (block_run b) [], inside.0, inside.1) in
    record {
      «data» = λ c inside. (
          let w = one.leave.free c (has c inside) in
          let here = data_block old one.before w.0 c w.1 in
          let P : Super → Type 0 = λ s. (system_blocks s ≤ c) × (c < s.blocks) in
          subst P (sym (same.sup ∙ one.took.sup)) here);
      used = λ d c inside free. one.leave.gone d c (subst (λ (pools : List (List Run)). HasBlock (pool_at pools d) c) same.pools free) (has c inside);
    }

-- Then the lists are those of before.
pub one_given_back : (old mid now back : FreeLists) (cpu b : ℕ) → cpu < old.sup.cpus → TakesOne old cpu b mid → SamePools mid now → Joins now (block_run b) back → SamePools old back
one_given_back old mid now back cpu b below one same joins =
    let Q : Super → List (List Run) → Type 0 = λ s pools. Joins (record now { sup = s; pools = pools }) (block_run b) back in
    let moved : Joins (record now { sup = mid.sup; pools = mid.pools }) (block_run b) back = subst (λ (pools : List (List Run)). Q mid.sup pools) same.pools (subst (λ (s : Super). Q s now.pools) same.sup joins) in
    let again : Joins mid (block_run b) back = record { sup = moved.sup; count = moved.count; each = moved.each } in
    let w = restores old mid back cpu 1 (block_run b ∷ []) one.before below one.took (back, again, refl) in
    record { sup = w.0; pools = w.1 }

-- ---- blocks that stand behind others

-- a block of the runs of one block
pub some_runs : (runs : List Run) → blocks_in runs ≡ 1 → 0 < length runs
some_runs [] one = absurd (omega (arith, one))
some_runs (r ∷ runs) one = omega arith

-- None were taken.
pub onto_none : (a : FreeLists) (cpu : ℕ) (had : List ℕ) (n : ℕ) → n ≡ 0 → TakesOnto a cpu had n a had
onto_none a cpu had n none = record { more = []; all = sym (append-nil had); count_is = sym none; each = refl }

-- One was taken and put there, and then the others.
pub onto_more : {old mid new : FreeLists} {cpu b n : ℕ} {had now last : List ℕ} → 0 < n → TakesOne old cpu b mid → now ≡ had ++ b ∷ [] → TakesOnto mid cpu now (n - 1) new last → TakesOnto old cpu had n new last
onto_more {old} {mid} {new} {cpu} {b} {n} {had} {now} {last} some one pushed rest = record {
  more = b ∷ rest.more;
  all = rest.all ∙ ap (λ (xs : List ℕ). xs ++ rest.more) pushed ∙ append_assoc had (b ∷ []) rest.more;
  count_is = omega (arith, rest.count_is, some);
  each = (mid, one, rest.each);
}

-- What stands behind nothing is all that was taken.
pub from_nothing : (old mid new : FreeLists) (cpu count : ℕ) (had has' : List ℕ) → SamePools old mid → IsSound mid → had ≡ [] → TakesOnto mid cpu had count new has' → TakesEach old cpu has' new
from_nothing old mid new cpu count had has' same sound none w = record {
  from = mid;
  same = same;
  sound = sound;
  each = subst (λ (blocks : List ℕ). TakesInTurn mid cpu blocks new) (sym (w.all ∙ ap (λ (xs : List ℕ). xs ++ w.more) none)) w.each;
}

-- What a take gives is decided, and so are blocks that are taken one by one: they were free, and they differ.
use Rattle.std.proofs.Common.{◌≡◌, ◌≢◌, ℕ, zero, suc, ◌+◌, ◌-◌, ◌<◌, inl, inr, List, [], ◌∷◌, ◌++◌, length, get_or, refl, ap, sym, ◌∙◌, subst, arith, ◌≤◌}
use Rattle.std.specs.List.{Contains}
use Rattle.std.proofs.Math.ListN.{set}
use Rattle.std.proofs.lemmas.Bool.{cases_lt}
use Rattle.std.proofs.lemmas.List.{get_or_default}
use Rattle.nv_super.proofs.Members.{none_in}
use Rattle.nv_super.proofs.Rising.{Contains-cons, Contains-head, Contains-tail}
use Rattle.nv_super.specs.declared.owners.Run.{Run}
use Rattle.nv_super.specs.Runs.{InRun}
use Rattle.nv_alloc.specs.FreeLists.{SingleTakesLeave}
use Rattle.nv_alloc.specs.Taking.{HasBlock, IsFullest, LeaveSingly, SingleTakesAreOne, SingleTakesSplit, TakeIsOne, Takes, TakesSingly, blocks_in, ends, goes_on, pool_at, block_run}
use Rattle.nv_alloc.proofs.Leaving.{LeavesFrom, Pooled, leaves}
use Rattle.nv_alloc.proofs.Sound.{pooled}

-- ---- a take

-- there is one fullest pool
one_fullest : (pools : List (List Run)) (c d : ℕ) → IsFullest pools c → IsFullest pools d → c ≡ d
one_fullest pools c d first second = elim (cases_lt c d) [
  | inl below ↦ absurd (let less = second.lowest c below in let most = first.most d second.within in omega (arith, less, most))
  | inr above ↦ elim (cases_lt d c) [
    | inl below ↦ absurd (let less = first.lowest d below in let most = second.most c first.within in omega (arith, less, most))
    | inr same ↦ omega (arith, above, same)
  ]
]

-- What a take gives and leaves is decided.
pub takes_once : (pools : List (List Run)) (cpu n : ℕ) (runs others : List Run) (after rest : List (List Run)) → Takes pools cpu n runs after → Takes pools cpu n others rest → (runs ≡ others) × (after ≡ rest)
takes_once pools cpu n runs others after rest (ends some) (ends again) = (refl, refl)
takes_once pools cpu n runs others after rest (ends some) (goes_on d more after' few fullest on) = absurd (omega (arith, some, few))
takes_once pools cpu n runs others after rest (goes_on d more after' few fullest on) (ends some) = absurd (omega (arith, some, few))
takes_once pools cpu n runs others after rest (goes_on d more after' few fullest on) (goes_on d' more' rest' few' fullest' on') =
    let same : d' ≡ d = one_fullest (set pools cpu []) d' d fullest' fullest in
    let w = takes_once (set pools cpu []) d (n - blocks_in (pool_at pools cpu)) more more' after' rest' on (subst (λ (e : ℕ). Takes (set pools cpu []) e (n - blocks_in (pool_at pools cpu)) more' rest') same on') in
    (ap (λ (xs : List Run). pool_at pools cpu ++ xs) w.0, w.1)

pub take_is_one : TakeIsOne
take_is_one = takes_once

-- ---- a run of one block

pub in_single : (b : ℕ) → HasBlock (block_run b ∷ []) b
in_single b = (block_run b, Contains-head (block_run b) [], omega arith, omega arith)

-- a block of one block's run is that block
pub block_is : (b c : ℕ) → InRun (block_run b) c → c ≡ b
block_is b c here = let from = here.0 in let to = here.1 in omega (arith, from, to)

pub single_is : (b c : ℕ) → HasBlock (block_run b ∷ []) c → c ≡ b
single_is b c w = elim (Contains-cons (block_run b) [] w.0 w.1) [
  | inl same ↦ (let P : Run → Type 0 = λ r. (r.start ≤ c) × (c < r.start + r.count) in let inside = subst P same (w.2, w.3) in omega (arith, inside.0, inside.1))
  | inr none ↦ absurd (none_in w.0 none)
]

-- the block of a run of one
same_block : (a b : ℕ) → block_run a ∷ [] ≡ block_run b ∷ [] → a ≡ b
same_block a b same = ap (λ (runs : List Run). (get_or runs 0 (block_run 0)).start) same

-- ---- one by one

-- Which blocks are taken one by one is decided.
singly_once : (pools : List (List Run)) (cpu : ℕ) (blocks others : List ℕ) (after rest : List (List Run)) → length blocks ≡ length others → TakesSingly pools cpu blocks after → TakesSingly pools cpu others rest → (blocks ≡ others) × (after ≡ rest)
singly_once pools cpu [] [] after rest count first second = (refl, sym first ∙ second)
singly_once pools cpu [] (b ∷ others) after rest count first second = absurd (omega (arith, count))
singly_once pools cpu (a ∷ blocks) [] after rest count first second = absurd (omega (arith, count))
singly_once pools cpu (a ∷ blocks) (b ∷ others) after rest count first second =
    let one = takes_once pools cpu 1 (block_run a ∷ []) (block_run b ∷ []) first.0 second.0 first.1 second.1 in
    let w = singly_once first.0 cpu blocks others after rest (omega (arith, count)) first.2 (subst (λ (ps : List (List Run)). TakesSingly ps cpu others rest) (sym one.1) second.2) in
    (ap (λ (x : ℕ). x ∷ blocks) (same_block a b one.0) ∙ ap (λ (xs : List ℕ). b ∷ xs) w.0, w.1)

pub single_takes_are_one : SingleTakesAreOne
single_takes_are_one = singly_once

-- The first of them are taken, and then the others from what these leave.
pub singly_cut : (pools : List (List Run)) (cpu : ℕ) (blocks others : List ℕ) (after : List (List Run)) → TakesSingly pools cpu (blocks ++ others) after → (mid : List (List Run)) × TakesSingly pools cpu blocks mid × TakesSingly mid cpu others after
singly_cut pools cpu [] others after w = (pools, refl, w)
singly_cut pools cpu (a ∷ blocks) others after w = let c = singly_cut w.0 cpu blocks others after w.2 in (c.0, (w.0, w.1, c.1), c.2)

singly_joined : (pools mid : List (List Run)) (cpu : ℕ) (blocks others : List ℕ) (after : List (List Run)) → TakesSingly pools cpu blocks mid → TakesSingly mid cpu others after → TakesSingly pools cpu (blocks ++ others) after
singly_joined pools mid cpu [] others after same later = subst (λ (ps : List (List Run)). TakesSingly ps cpu others after) (sym same) later
singly_joined pools mid cpu (a ∷ blocks) others after w later = (w.0, w.1, singly_joined w.0 mid cpu blocks others after w.2 later)

pub single_takes_split : SingleTakesSplit
single_takes_split pools cpu blocks others after = (singly_cut pools cpu blocks others after, λ w. singly_joined pools w.0 cpu blocks others after w.1 w.2)

-- ---- what they leave

no_blocks : (pools after : List (List Run)) → pools ≡ after → LeaveSingly pools [] after
no_blocks pools after same = record {
  free = λ b c. absurd (none_in b c);
  differ = λ i j less inside. absurd (omega (arith, inside));
  gone = λ cpu b has c. none_in b c;
  stays = λ cpu b has. subst (λ (ps : List (List Run)). HasBlock (pool_at ps cpu) b) (sym same) has;
  rest = λ cpu b has. inr (subst (λ (ps : List (List Run)). HasBlock (pool_at ps cpu) b) same has);
}

-- one, and then the others
one_more : (pools mid after : List (List Run)) (a : ℕ) (blocks : List ℕ) → LeavesFrom pools (block_run a ∷ []) mid → LeaveSingly mid blocks after → LeaveSingly pools (a ∷ blocks) after
one_more pools mid after a blocks first later = record {
  free = λ b c. elim (Contains-cons a blocks b c) [
    | inl same ↦ subst (λ (n : ℕ). (cpu : ℕ) × HasBlock (pool_at pools cpu) n) (sym same) (first.free a (in_single a))
    | inr more ↦ (let f = later.free b more in (f.0, first.stays f.0 b f.1))
  ];
  differ = differ;
  gone = λ cpu b has c. elim (Contains-cons a blocks b c) [
    | inl same ↦ first.gone cpu b (later.stays cpu b has) (subst (λ (n : ℕ). HasBlock (block_run a ∷ []) n) (sym same) (in_single a))
    | inr more ↦ later.gone cpu b has more
  ];
  stays = λ cpu b has. first.stays cpu b (later.stays cpu b has);
  rest = λ cpu b has. elim (first.rest cpu b has) [
    | inl here ↦ inl (subst (λ (n : ℕ). Contains (a ∷ blocks) n) (sym (single_is a b here)) (Contains-head a blocks))
    | inr still ↦ elim (later.rest cpu b still) [ inl more ↦ inl (Contains-tail a blocks b more) | inr left ↦ inr left ]
  ];
} where
  differ : (i j : ℕ) → i < j → j < length (a ∷ blocks) → get_or (a ∷ blocks) i 0 ≢ get_or (a ∷ blocks) j 0
  differ zero zero less inside = absurd (omega (arith, less))
  differ zero (suc j) less inside = λ same. (let f = later.free a (j, omega (arith, inside), get_or_default blocks j a 0 (omega (arith, inside)) ∙ sym same) in first.gone f.0 a f.1 (in_single a))
  differ (suc i) zero less inside = absurd (omega (arith, less))
  differ (suc i) (suc j) less inside = later.differ i j (omega (arith, less)) (omega (arith, inside))

-- pools from which blocks were taken share none
pooled_then : (pools after : List (List Run)) (runs : List Run) → Pooled pools → LeavesFrom pools runs after → Pooled after
pooled_then pools after runs o l = record { apart = l.apart; one = λ c d b h w. o.one c d b (l.stays c b h) (l.stays d b w) }

pub leave_singly : (pools : List (List Run)) (cpu : ℕ) (blocks : List ℕ) (after : List (List Run)) → Pooled pools → cpu < length pools → TakesSingly pools cpu blocks after → LeaveSingly pools blocks after
leave_singly pools cpu [] after o below same = no_blocks pools after same
leave_singly pools cpu (a ∷ blocks) after o below w =
    let first = leaves pools cpu 1 (block_run a ∷ []) w.0 o below w.1 in
    let count = first.count in
    one_more pools w.0 after a blocks first (leave_singly w.0 cpu blocks after (pooled_then pools w.0 (block_run a ∷ []) o first) (omega (arith, below, count)) w.2)

pub single_takes_leave : SingleTakesLeave
single_takes_leave a cpu blocks after sound below w = leave_singly a.pools cpu blocks after (pooled a sound) (let count = sound.count in omega (arith, below, count)) w

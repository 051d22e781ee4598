-- A chain that is read block by block.
use Rattle.std.proofs.Common.{◌≡◌, ◌≢◌, ◌⊎◌, inl, inr, ◌≤◌, ◌<◌, ◌+◌, ◌-◌, ◌*◌, ◌/◌, ◌%◌, ◌&&◌, ◌||◌, ℕ, zero, suc, Bool, true, false, true≢false, cond, eqb, List, [], ◌∷◌, ◌++◌, length, length-append, get_or, map, refl, sym, ap, ◌∙◌, subst, arith, add-one, Option, Some, None, ◌==◌, replicate}
use Rattle.std.specs.Prelude.{slice_get, not, unwrap_or}
use Rattle.std.specs.List.{list_any, range_with_len, filter_map, cons_option, IsDistinct}
use Rattle.std.proofs.Math.Bool.{or-false}
use Rattle.std.proofs.lemmas.Bool.{cases_eq, ne_eqb}
use Rattle.std.proofs.lemmas.Cmp.{nat_eq_equiv}
use Rattle.std.proofs.lemmas.List.Folds.{list_any-append}
use Rattle.std.proofs.lemmas.Map.Keys.{IsDistinct-push}
use Rattle.std.proofs.lemmas.Map.Steps.{length-le_from_distinct_below}
use Rattle.std.proofs.lemmas.List.FromFn.{length-map-range_with_len, map-range_with_len_more}
use Rattle.std.proofs.lemmas.List.Elements.{filter_map-append}
use Rattle.std.proofs.lemmas.Bool.Decides.{nat_tests}
use Rattle.std.specs.Global.{Vec}
use Rattle.nv_inode.specs.Tables.{lists_of}
use Rattle.nv_region.specs.Region.{Region, word}
use Rattle.nv_super.specs.declared.superblock.Super.{Super}
use Rattle.nv_super.specs.declared.faults.Fault.{Fault}
use Rattle.nv_super.specs.Layout.{IsLayout, is_page_start, system_blocks}
use Rattle.nv_inode.specs.Chains.{leads_on, chain_on, chain_in, first_link, link_behind, link_fault, fault_behind, end_fault, chains_in, layout_of, IsLaid, IsLink, in_chains}
use Rattle.nv_inode.specs.Chains.{first, next, IsChain, ends, leads}

-- a link that leads on is the start of a data block that isn't among these
pub record Leads (s : Super) (before : List ℕ) (link : ℕ) : Type 0 where
  pub start : is_page_start s link ≡ true
  pub fresh : list_any (eqb (link / 4096)) before ≡ false

both : (a b : Bool) → (a && not b) ≡ true → (a ≡ true) × (b ≡ false)
both true false h = (refl, refl)
both true true h = cc
both false b h = cc

pub leads_so : (s : Super) (before : List ℕ) (link : ℕ) → leads_on s before link ≡ true → Leads s before link
leads_so s before link on = let two = both (is_page_start s link) (list_any (eqb (link / 4096)) before) on in record { start = two.0; fresh = two.1 }

pub start_whole : (s : Super) (link : ℕ) → is_page_start s link ≡ true → link % 4096 ≡ 0
start_whole s link on = grind (arith, nat_tests)

pub start_from : (s : Super) (link : ℕ) → is_page_start s link ≡ true → system_blocks s ≤ link / 4096
start_from s link on = grind (arith, nat_tests)

pub start_below : (s : Super) (link : ℕ) → is_page_start s link ≡ true → link / 4096 < s.blocks
start_below s link on = grind (arith, nat_tests)

-- where a link leads on, a block more follows
pub one_more : (R : Region) (s : Super) (before : List ℕ) (at n : ℕ) → leads_on s before (word R at) ≡ true
    → chain_on R s before at (n + 1) ≡ word R at / 4096 ∷ chain_on R s (before ++ word R at / 4096 ∷ []) (word R at) n
one_more R s before at n on = rw (add-one n) (ap (λ (b : Bool). cond b (word R at / 4096 ∷ chain_on R s (before ++ word R at / 4096 ∷ []) (word R at) n) []) on)

-- and else none
pub no_more : (R : Region) (s : Super) (before : List ℕ) (at n : ℕ) → leads_on s before (word R at) ≡ false → chain_on R s before at n ≡ []
no_more R s before at zero off = refl
no_more R s before at (suc n) off = ap (λ (b : Bool). cond b (word R at / 4096 ∷ chain_on R s (before ++ word R at / 4096 ∷ []) (word R at) n) []) off

append_none : {A : Type 0} (xs : List A) → xs ++ [] ≡ xs
append_none [] = refl
append_none (x ∷ xs) = ap (λ ys. x ∷ ys) (append_none xs)

append_one : {A : Type 0} (xs : List A) (x : A) (ys : List A) → xs ++ x ∷ ys ≡ (xs ++ x ∷ []) ++ ys
append_one [] x ys = refl
append_one (z ∷ xs) x ys = ap (λ zs. z ∷ zs) (append_one xs x ys)

pub link_last : (at : ℕ) (blocks : List ℕ) (b : ℕ) → link_behind at (blocks ++ b ∷ []) ≡ 4096 * b
link_last at [] b = refl
link_last at (c ∷ blocks) b = link_last (4096 * c) blocks b

-- How far a CPU's chain was read: these blocks, and the link behind them stands at this address.
pub record HasRead (R : Region) (s : Super) (cpu : ℕ) (blocks : List ℕ) (at : ℕ) : Type 0 where
  pub so_far : chain_on R s [] (first_link cpu) s.blocks ≡ blocks ++ chain_on R s blocks at (s.blocks - length blocks)
  pub link : link_behind (first_link cpu) blocks ≡ at
  pub few : length blocks ≤ s.blocks
  pub aligned : at % 8 ≡ 0
  pub inside : at + 8 ≤ 4096 * s.blocks

module _ (R : Region) (s : Super) (cpu : ℕ) (blocks : List ℕ) (at : ℕ) (read : HasRead R s cpu blocks at) where
  pub block_read : leads_on s blocks (word R at) ≡ true → length blocks < s.blocks → HasRead R s cpu (blocks ++ word R at / 4096 ∷ []) (word R at)
  block_read on less =
      let link = word R at in
      let leads = leads_so s blocks link on in
      let long : length (blocks ++ link / 4096 ∷ []) ≡ length blocks + 1 = length-append blocks (link / 4096 ∷ []) in
      let left : s.blocks - length blocks ≡ (s.blocks - length (blocks ++ link / 4096 ∷ [])) + 1 = omega (arith, less, long) in
      let whole = start_whole s link leads.start in
      let below = start_below s link leads.start in
      record {
        so_far = read.so_far ∙ ap (λ (n : ℕ). blocks ++ chain_on R s blocks at n) left
            ∙ ap (λ (xs : List ℕ). blocks ++ xs) (one_more R s blocks at (s.blocks - length (blocks ++ link / 4096 ∷ [])) on)
            ∙ append_one blocks (link / 4096) (chain_on R s (blocks ++ link / 4096 ∷ []) link (s.blocks - length (blocks ++ link / 4096 ∷ [])));
        link = link_last (first_link cpu) blocks (link / 4096) ∙ (let back : 4096 * (link / 4096) ≡ link = omega (arith, whole) in back);
        few = omega (arith, less, long);
        aligned = omega (arith, whole);
        inside = omega (arith, whole, below);
      }

  module _ (off : leads_on s blocks (word R at) ≡ false) where
    chain_whole : chain_on R s [] (first_link cpu) s.blocks ≡ blocks
    chain_whole = read.so_far ∙ ap (λ (xs : List ℕ). blocks ++ xs) (no_more R s blocks at (s.blocks - length blocks) off) ∙ append_none blocks

    pub chain_read : (s.version == 2) ≡ true → chain_in s R cpu ≡ blocks
    chain_read two = ap (λ (b : Bool). cond b (chain_on R s [] (first_link cpu) s.blocks) []) two ∙ chain_whole

    pub fault_read : (s.version == 2) ≡ true → link_fault s cpu at (word R at) ≡ end_fault s R cpu
    fault_read two = sym (ap (λ (b : Bool). cond b (fault_behind s R cpu (chain_in s R cpu)) None) two ∙ ap (fault_behind s R cpu) (chain_read two) ∙ ap (λ (a : ℕ). link_fault s cpu a (word R a)) read.link)

-- a link that was loaded leads to one block more
pub turned : (R : Region) (s : Super) (cpu : ℕ) (blocks new : List ℕ) (at link : ℕ) → HasRead R s cpu blocks at → link ≡ word R at → is_page_start s link ≡ true → list_any (eqb (link / 4096)) blocks ≡ false
    → new ≡ blocks ++ link / 4096 ∷ [] → length new ≤ s.blocks → HasRead R s cpu new link
turned R s cpu blocks new at link read is start fresh pushed few =
    let on : leads_on s blocks link ≡ true = (λ i. start i && not (fresh i)) in
    let long : length new ≡ length blocks + 1 = ap length pushed ∙ length-append blocks (link / 4096 ∷ []) in
    subst (λ (xs : List ℕ). HasRead R s cpu xs link) (sym pushed)
    (subst (λ (a : ℕ). HasRead R s cpu (blocks ++ a / 4096 ∷ []) a) (sym is)
    (block_read R s cpu blocks at read (ap (leads_on s blocks) (sym is) ∙ on) (omega (arith, long, few))))

-- or to none
pub none_started : (R : Region) (s : Super) (blocks : List ℕ) (at link : ℕ) → link ≡ word R at → is_page_start s link ≡ false → leads_on s blocks (word R at) ≡ false
none_started R s blocks at link is off = ap (leads_on s blocks) (sym is) ∙ ap (λ (b : Bool). b && not (list_any (eqb (link / 4096)) blocks)) off

pub none_fresh : (R : Region) (s : Super) (blocks : List ℕ) (at link : ℕ) → link ≡ word R at → list_any (eqb (link / 4096)) blocks ≡ true → leads_on s blocks (word R at) ≡ false
none_fresh R s blocks at link is read = ap (leads_on s blocks) (sym is) ∙ ap (λ (b : Bool). is_page_start s link && not b) read ∙ and_false (is_page_start s link)
  where
    and_false : (b : Bool) → (b && false) ≡ false
    and_false true = refl
    and_false false = refl

-- ---- the blocks of a chain are data blocks

-- each of these is a data block
abbrev pub AreData : Super → List ℕ → Type 0
AreData s [] = Unit {0}
AreData s (b ∷ blocks) = (system_blocks s ≤ b) × (b < s.blocks) × AreData s blocks

data_at : (s : Super) (blocks : List ℕ) (k b : ℕ) → AreData s blocks → slice_get blocks k ≡ Some b → (system_blocks s ≤ b) × (b < s.blocks)
data_at s [] k b are e = absurd (cc)
data_at s (c ∷ blocks) zero b are e = let same : c ≡ b = cc in (subst (λ (x : ℕ). system_blocks s ≤ x) same are.0, subst (λ (x : ℕ). x < s.blocks) same are.1)
data_at s (c ∷ blocks) (suc k) b are e = data_at s blocks k b are.2 e

on_data : (R : Region) (s : Super) (before : List ℕ) (at n : ℕ) → AreData s (chain_on R s before at n)
on_data R s before at zero = tt
on_data R s before at (suc n) = by (leads_on s before (word R at)) refl (on_data R s (before ++ word R at / 4096 ∷ []) (word R at) n)
  where
    by : (b : Bool) → leads_on s before (word R at) ≡ b → AreData s (chain_on R s (before ++ word R at / 4096 ∷ []) (word R at) n) → AreData s (cond b (word R at / 4096 ∷ chain_on R s (before ++ word R at / 4096 ∷ []) (word R at) n) [])
    by false off rest = tt
    by true on rest = let lead = leads_so s before (word R at) on in (start_from s (word R at) lead.start, start_below s (word R at) lead.start, rest)

pub chain_are_data : (s : Super) (R : Region) (cpu : ℕ) → AreData s (chain_in s R cpu)
chain_are_data s R cpu = by (s.version == 2)
  where
    by : (v : Bool) → AreData s (cond v (chain_on R s [] (first_link cpu) s.blocks) [])
    by true = on_data R s [] (first_link cpu) s.blocks
    by false = tt

is_start : (s : Super) (b : ℕ) → system_blocks s ≤ b → b < s.blocks → is_page_start s (4096 * b) ≡ true
is_start s b from below = grind (arith, nat_tests)

pub chain_data : (s : Super) (R : Region) (cpu k b : ℕ) → slice_get (chain_in s R cpu) k ≡ Some b → (system_blocks s ≤ b) × (b < s.blocks)
chain_data s R cpu k b e = data_at s (chain_in s R cpu) k b (chain_are_data s R cpu) e

pub data_below : (s : Super) (blocks : List ℕ) (k : ℕ) → AreData s blocks → k < length blocks → get_or blocks k 0 < s.blocks
data_below s [] k are less = absurd (omega (arith, less))
data_below s (b ∷ blocks) zero are less = are.1
data_below s (b ∷ blocks) (suc k) are less = data_below s blocks k are.2 (omega (arith, less))

-- ---- each block of a chain stands in it once

on_once : (R : Region) (s : Super) (before : List ℕ) (at n : ℕ) → IsDistinct eqb before → IsDistinct eqb (before ++ chain_on R s before at n)
on_once R s before at zero once = subst (λ (xs : List ℕ). IsDistinct eqb xs) (sym (append_none before)) once
on_once R s before at (suc n) once = by (leads_on s before (word R at)) refl (λ more. on_once R s (before ++ word R at / 4096 ∷ []) (word R at) n more)
  where
    by : (b : Bool) → leads_on s before (word R at) ≡ b
        → (IsDistinct eqb (before ++ word R at / 4096 ∷ []) → IsDistinct eqb ((before ++ word R at / 4096 ∷ []) ++ chain_on R s (before ++ word R at / 4096 ∷ []) (word R at) n))
        → IsDistinct eqb (before ++ cond b (word R at / 4096 ∷ chain_on R s (before ++ word R at / 4096 ∷ []) (word R at) n) [])
    by false off further = subst (λ (xs : List ℕ). IsDistinct eqb xs) (sym (append_none before)) once
    by true on further =
        let lead = leads_so s before (word R at) on in
        subst (λ (xs : List ℕ). IsDistinct eqb xs) (sym (append_one before (word R at / 4096) (chain_on R s (before ++ word R at / 4096 ∷ []) (word R at) n)))
        (further (IsDistinct-push nat_eq_equiv before (word R at / 4096) once lead.fresh))

pub none_once : IsDistinct eqb []
unfolding IsDistinct
none_once = tt

pub chain_once : (s : Super) (R : Region) (cpu : ℕ) → IsDistinct eqb (chain_in s R cpu)
chain_once s R cpu = by (s.version == 2)
  where
    by : (v : Bool) → IsDistinct eqb (cond v (chain_on R s [] (first_link cpu) s.blocks) [])
    by true = on_once R s [] (first_link cpu) s.blocks none_once
    by false = none_once

-- ---- the chains of a region

-- an element of a row of values is one of them
pub of_range : {A : Type 0} (f : ℕ → A) (a n c : ℕ) (x : A) → slice_get (map f (range_with_len a n)) c ≡ Some x → (c < n) × (x ≡ f (a + c))
of_range f a zero c x e = absurd (cc)
of_range f a (suc n) zero x e = (omega arith, (let same : f a ≡ x = cc in let at : a ≡ a + 0 = omega arith in sym same ∙ ap f at))
of_range f a (suc n) (suc c) x e = let rest = of_range f (a + 1) n c x e in (omega (arith, rest.0), rest.1 ∙ ap f (omega arith))

found_in : (s : Super) (R : Region) (c k b : ℕ) (found : Option (List ℕ)) → slice_get (chains_in s R) c ≡ found → slice_get (unwrap_or found []) k ≡ Some b → (system_blocks s ≤ b) × (b < s.blocks)
found_in s R c k b None none e = absurd (cc)
found_in s R c k b (Some chain) some e = let is = of_range (chain_in s R) 0 s.cpus c chain some in chain_data s R (0 + c) k b (subst (λ (xs : List ℕ). slice_get xs k ≡ Some b) is.1 e)

no_chain : (s : Super) (R : Region) (cpu : ℕ) → (s.version == 2) ≡ false → chain_in s R cpu ≡ []
no_chain s R cpu off = ap (λ (b : Bool). cond b (chain_on R s [] (first_link cpu) s.blocks) []) off

no_fault : (s : Super) (R : Region) (cpu : ℕ) → (s.version == 2) ≡ false → end_fault s R cpu ≡ None
no_fault s R cpu off = ap (λ (b : Bool). cond b (fault_behind s R cpu (chain_in s R cpu)) None) off

none_found : (s : Super) (R : Region) (c : ℕ) (found : Option (List ℕ)) → (s.version == 2) ≡ false → slice_get (chains_in s R) c ≡ found → unwrap_or found [] ≡ []
none_found s R c None off none = refl
none_found s R c (Some chain) off some = (of_range (chain_in s R) 0 s.cpus c chain some).1 ∙ no_chain s R (0 + c) off

found_once : (s : Super) (R : Region) (c : ℕ) (found : Option (List ℕ)) → slice_get (chains_in s R) c ≡ found → IsDistinct eqb (unwrap_or found [])
found_once s R c None none = none_once
found_once s R c (Some chain) some = subst (λ (xs : List ℕ). IsDistinct eqb xs) (sym (of_range (chain_in s R) 0 s.cpus c chain some).1) (chain_once s R (0 + c))

-- each region's layout is one that a region can have
pub region_laid : (s : Super) (R : Region) → IsLayout s → IsLaid (layout_of s R)
region_laid s R layout = record {
  layout = layout;
  each = length-map-range_with_len (chain_in s R) 0 s.cpus;
  fixed = λ one c. none_found s R c (slice_get (chains_in s R) c) (ne_eqb s.version 2 (λ two. omega (arith, one, two))) refl;
  inside = λ c k b e. found_in s R c k b (slice_get (chains_in s R) c) refl e;
  once = λ c. found_once s R c (slice_get (chains_in s R) c) refl;
}

-- no chains and no faults in version 1
module _ (s : Super) (R : Region) (off : (s.version == 2) ≡ false) where
  pub empty_chains : (a n : ℕ) → map (chain_in s R) (range_with_len a n) ≡ replicate n []
  empty_chains a zero = refl
  empty_chains a (suc n) = let here = no_chain s R a off in let rest = empty_chains (a + 1) n in λ i. here i ∷ rest i

  pub no_faults : (a n : ℕ) → filter_map (end_fault s R) (range_with_len a n) ≡ []
  no_faults a zero = refl
  no_faults a (suc n) = ap (λ (f : Option Fault). cons_option f (filter_map (end_fault s R) (range_with_len (a + 1) n))) (no_fault s R a off) ∙ no_faults (a + 1) n

pub lists_more : (xs : List (Vec ℕ)) (x : Vec ℕ) → lists_of (xs ++ x ∷ []) ≡ lists_of xs ++ x.items ∷ []
lists_more [] x = refl
lists_more (y ∷ xs) x = ap (λ (zs : List (List ℕ)). y.items ∷ zs) (lists_more xs x)

-- ---- one CPU more

pub one_chain_more : (s : Super) (R : Region) (cpu : ℕ) → map (chain_in s R) (range_with_len 0 (cpu + 1)) ≡ map (chain_in s R) (range_with_len 0 cpu) ++ chain_in s R cpu ∷ []
one_chain_more s R cpu = map-range_with_len_more (chain_in s R) 0 cpu cpu (omega arith)

range_more : (n : ℕ) → range_with_len 0 (n + 1) ≡ range_with_len 0 n ++ n ∷ []
range_more n = sym (map_same (range_with_len 0 (n + 1))) ∙ map-range_with_len_more (λ (i : ℕ). i) 0 n n (omega arith) ∙ ap (λ (xs : List ℕ). xs ++ n ∷ []) (map_same (range_with_len 0 n))
  where
    map_same : (xs : List ℕ) → map (λ (i : ℕ). i) xs ≡ xs
    map_same [] = refl
    map_same (x ∷ xs) = ap (λ (ys : List ℕ). x ∷ ys) (map_same xs)

pub one_fault_more : (s : Super) (R : Region) (cpu : ℕ) → filter_map (end_fault s R) (range_with_len 0 (cpu + 1)) ≡ filter_map (end_fault s R) (range_with_len 0 cpu) ++ cons_option (end_fault s R cpu) []
one_fault_more s R cpu = ap (filter_map (end_fault s R)) (range_more cpu) ∙ filter_map-append (end_fault s R) (range_with_len 0 cpu) (cpu ∷ []) ∙ ap (λ (xs : List Fault). filter_map (end_fault s R) (range_with_len 0 cpu) ++ xs) (last_one (end_fault s R cpu) refl)
  where
    last_one : (f : Option Fault) → end_fault s R cpu ≡ f → filter_map (end_fault s R) (cpu ∷ []) ≡ cons_option (end_fault s R cpu) []
    last_one f e = refl

in_append : (xs ys : List (List ℕ)) (b : ℕ) → in_chains (xs ++ ys) b ≡ (in_chains xs b || in_chains ys b)
in_append xs ys b = list_any-append (λ (chain : List ℕ). list_any (eqb b) chain) xs ys

-- the blocks of one chain more are marked
pub marked_more : (s : Super) (R : Region) (cpu b : ℕ) (old new : Bool) (blocks : List ℕ) → old ≡ in_chains (map (chain_in s R) (range_with_len 0 cpu)) b → blocks ≡ chain_in s R cpu → new ≡ (old || list_any (eqb b) blocks)
    → new ≡ in_chains (map (chain_in s R) (range_with_len 0 (cpu + 1))) b
marked_more s R cpu b old new blocks before are after =
    after ∙ (λ i. before i || list_any (eqb b) (are i))
    ∙ sym (ap (λ (xs : List (List ℕ)). in_chains xs b) (one_chain_more s R cpu) ∙ in_append (map (chain_in s R) (range_with_len 0 cpu)) (chain_in s R cpu ∷ []) b
    ∙ ap (λ (t : Bool). in_chains (map (chain_in s R) (range_with_len 0 cpu)) b || t) (or-false (list_any (eqb b) (chain_in s R cpu))))

-- ---- regions with the same links

-- behind each of these blocks stands the same link
abbrev pub SameBehind : Region → Region → List ℕ → Type 0
SameBehind R Q [] = Unit {0}
SameBehind R Q (b ∷ blocks) = (word Q (4096 * b) ≡ word R (4096 * b)) × SameBehind R Q blocks

module _ (s : Super) (R Q : Region) where
  alike_on : (before : List ℕ) (at n : ℕ) → word Q at ≡ word R at → SameBehind R Q (chain_on R s before at n) → chain_on Q s before at n ≡ chain_on R s before at n
  alike_on before at zero here behind = refl
  alike_on before at (suc n) here behind =
      ap (λ (link : ℕ). cond (leads_on s before link) (link / 4096 ∷ chain_on Q s (before ++ link / 4096 ∷ []) link n) []) here
      ∙ by (leads_on s before (word R at)) refl (λ same rest. alike_on (before ++ word R at / 4096 ∷ []) (word R at) n same rest) behind
    where
      by : (b : Bool) → leads_on s before (word R at) ≡ b
          → (word Q (word R at) ≡ word R (word R at) → SameBehind R Q (chain_on R s (before ++ word R at / 4096 ∷ []) (word R at) n) → chain_on Q s (before ++ word R at / 4096 ∷ []) (word R at) n ≡ chain_on R s (before ++ word R at / 4096 ∷ []) (word R at) n)
          → SameBehind R Q (cond b (word R at / 4096 ∷ chain_on R s (before ++ word R at / 4096 ∷ []) (word R at) n) [])
          → cond b (word R at / 4096 ∷ chain_on Q s (before ++ word R at / 4096 ∷ []) (word R at) n) [] ≡ cond b (word R at / 4096 ∷ chain_on R s (before ++ word R at / 4096 ∷ []) (word R at) n) []
      by false off further same = refl
      by true on further same =
          let whole = start_whole s (word R at) (leads_so s before (word R at) on).start in
          let back : 4096 * (word R at / 4096) ≡ word R at = omega (arith, whole) in
          ap (λ (xs : List ℕ). word R at / 4096 ∷ xs) (further (subst (λ (a : ℕ). word Q a ≡ word R a) back same.0) same.1)

  pub chain_alike : (cpu : ℕ) → word Q (first_link cpu) ≡ word R (first_link cpu) → SameBehind R Q (chain_in s R cpu) → chain_in s Q cpu ≡ chain_in s R cpu
  chain_alike cpu here behind = by (s.version == 2) behind
    where
      by : (v : Bool) → SameBehind R Q (cond v (chain_on R s [] (first_link cpu) s.blocks) []) → cond v (chain_on Q s [] (first_link cpu) s.blocks) [] ≡ cond v (chain_on R s [] (first_link cpu) s.blocks) []
      by false same = refl
      by true same = alike_on [] (first_link cpu) s.blocks here same

  rows_alike : (a n : ℕ) → ((c : ℕ) → a ≤ c → c < a + n → chain_in s Q c ≡ chain_in s R c) → map (chain_in s Q) (range_with_len a n) ≡ map (chain_in s R) (range_with_len a n)
  rows_alike a zero each = refl
  rows_alike a (suc n) each = let here = each a (omega arith) (omega arith) in let rest = rows_alike (a + 1) n (λ c low high. each c (omega (arith, low)) (omega (arith, high))) in λ i. here i ∷ rest i

  -- have the same chains
  pub chains_alike : ((cpu : ℕ) → cpu < s.cpus → word Q (first_link cpu) ≡ word R (first_link cpu)) → ((cpu : ℕ) → cpu < s.cpus → SameBehind R Q (chain_in s R cpu)) → chains_in s Q ≡ chains_in s R
  chains_alike firsts behind = rows_alike 0 s.cpus (λ c low high. let below : c < s.cpus = omega (arith, high) in chain_alike c (firsts c below) (behind c below))

  -- so it is where all links of data blocks are the same
  same_behind : ((at : ℕ) → IsLink s at → word Q at ≡ word R at) → (blocks : List ℕ) → AreData s blocks → SameBehind R Q blocks
  same_behind same [] are = tt
  same_behind same (b ∷ blocks) are = (same (4096 * b) (next (4096 * b) (is_start s b are.0 are.1)), same_behind same blocks are.2)

  pub layout_alike : ((at : ℕ) → IsLink s at → word Q at ≡ word R at) → layout_of s Q ≡ layout_of s R
  layout_alike same = ap (λ (xs : List (List ℕ)). record { sup = s; chains = xs })
      (chains_alike (λ c below. same (first_link c) (first c below)) (λ c below. same_behind same (chain_in s R c) (chain_are_data s R c)))

-- ---- a chain in words

below_all : (s : Super) (before : List ℕ) (link : ℕ) → ((q : ℕ) → list_any (eqb q) before ≡ true → q < s.blocks) → link / 4096 < s.blocks → (q : ℕ) → list_any (eqb q) (before ++ link / 4096 ∷ []) ≡ true → q < s.blocks
below_all s before link each below q h = by (cases_eq q (link / 4096))
  where
    by : (q ≡ link / 4096) ⊎ (q ≢ link / 4096) → q < s.blocks
    by (inl is) = omega (arith, is, below)
    by (inr differs) = each q (sym (list_any-append (eqb q) before (link / 4096 ∷ []) ∙ ap (λ (t : Bool). list_any (eqb q) before || (t || false)) (ne_eqb q (link / 4096) differs) ∙ or-false (list_any (eqb q) before)) ∙ h)

-- no block stands in a chain twice, so n are enough
on_is : (R : Region) (s : Super) (before : List ℕ) (at n : ℕ) → IsDistinct eqb before → ((q : ℕ) → list_any (eqb q) before ≡ true → q < s.blocks) → s.blocks ≤ length before + n → IsChain R s before at (chain_on R s before at n)
on_is R s before at zero once each enough = by (leads_on s before (word R at)) refl
  where
    by : (b : Bool) → leads_on s before (word R at) ≡ b → IsChain R s before at []
    by false off = ends off
    by true on =
        let lead = leads_so s before (word R at) on in
        let few : length (before ++ word R at / 4096 ∷ []) ≤ s.blocks = length-le_from_distinct_below (before ++ word R at / 4096 ∷ []) s.blocks (IsDistinct-push nat_eq_equiv before (word R at / 4096) once lead.fresh) (below_all s before (word R at) each (start_below s (word R at) lead.start)) in
        absurd (let long : length (before ++ word R at / 4096 ∷ []) ≡ length before + 1 = length-append before (word R at / 4096 ∷ []) in omega (arith, few, long, enough))
on_is R s before at (suc n) once each enough = by (leads_on s before (word R at)) refl (λ once each enough. on_is R s (before ++ word R at / 4096 ∷ []) (word R at) n once each enough)
  where
    by : (b : Bool) → leads_on s before (word R at) ≡ b
        → (IsDistinct eqb (before ++ word R at / 4096 ∷ []) → ((q : ℕ) → list_any (eqb q) (before ++ word R at / 4096 ∷ []) ≡ true → q < s.blocks) → s.blocks ≤ length (before ++ word R at / 4096 ∷ []) + n → IsChain R s (before ++ word R at / 4096 ∷ []) (word R at) (chain_on R s (before ++ word R at / 4096 ∷ []) (word R at) n))
        → IsChain R s before at (cond b (word R at / 4096 ∷ chain_on R s (before ++ word R at / 4096 ∷ []) (word R at) n) [])
    by false off further = ends off
    by true on further =
        let lead = leads_so s before (word R at) on in
        let long : length (before ++ word R at / 4096 ∷ []) ≡ length before + 1 = length-append before (word R at / 4096 ∷ []) in
        leads on (further (IsDistinct-push nat_eq_equiv before (word R at / 4096) once lead.fresh) (below_all s before (word R at) each (start_below s (word R at) lead.start)) (omega (arith, enough, long)))

pub chain_is : (s : Super) (R : Region) (cpu : ℕ) → s.version ≡ 2 → IsChain R s [] (first_link cpu) (chain_in s R cpu)
unfolding IsDistinct
chain_is s R cpu two = subst (λ (xs : List ℕ). IsChain R s [] (first_link cpu) xs) (sym (ap (λ (v : ℕ). cond (v == 2) (chain_on R s [] (first_link cpu) s.blocks) []) two)) (on_is R s [] (first_link cpu) s.blocks tt (λ q h. absurd (cc)) (omega arith))

pub one_chain : (s : Super) (R : Region) (before xs ys : List ℕ) (at : ℕ) → IsChain R s before at xs → IsChain R s before at ys → xs ≡ ys
one_chain s R before xs ys at (ends off) (ends _) = refl
one_chain s R before xs ys at (ends off) (leads on rest) = absurd (true≢false (sym on ∙ off))
one_chain s R before xs ys at (leads on rest) (ends off) = absurd (true≢false (sym on ∙ off))
one_chain s R before xs ys at (leads {rest = a} on one) (leads {rest = b} _ two) = ap (λ (zs : List ℕ). word R at / 4096 ∷ zs) (one_chain s R (before ++ word R at / 4096 ∷ []) a b (word R at) one two)

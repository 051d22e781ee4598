-- A chain to whose end one block more is linked.
use Rattle.std.proofs.Common.{◌≡◌, ◌≤◌, ◌<◌, ◌*◌, ◌/◌, ◌&&◌, ℕ, Bool, true, false, eqb, List, [], ◌∷◌, ◌++◌, refl, sym, ap, ◌∙◌, subst, arith}
use Rattle.std.specs.Prelude.{not}
use Rattle.std.specs.List.{list_any}
use Rattle.std.proofs.lemmas.Bool.Decides.{nat_tests}
use Rattle.nv_region.specs.Region.{Region, word}
use Rattle.nv_super.specs.declared.superblock.Super.{Super}
use Rattle.nv_super.specs.Layout.{is_page_start, system_blocks}
use Rattle.nv_inode.specs.Chains.{IsChain, ends, leads, leads_on, chain_in, first_link, link_behind, SameLinks}
use Rattle.nv_inode.proofs.ReadChains.{leads_so, start_whole, chain_is, one_chain}

append_one : (xs : List ℕ) (x : ℕ) (ys : List ℕ) → (xs ++ x ∷ []) ++ ys ≡ xs ++ x ∷ ys
append_one [] x ys = refl
append_one (z ∷ xs) x ys = ap (λ (zs : List ℕ). z ∷ zs) (append_one xs x ys)

append_none : (xs : List ℕ) → xs ++ [] ≡ xs
append_none [] = refl
append_none (x ∷ xs) = ap (λ (ys : List ℕ). x ∷ ys) (append_none xs)

is_start : (s : Super) (b : ℕ) → system_blocks s ≤ b → b < s.blocks → is_page_start s (4096 * b) ≡ true
is_start s b from below = grind (arith, nat_tests)

pub zero_leads : (s : Super) (blocks : List ℕ) → leads_on s blocks 0 ≡ false
zero_leads s blocks = ap (λ (b : Bool). b && not (list_any (eqb (0 / 4096)) blocks)) (no_start s)
  where
    no_start : (s : Super) → is_page_start s 0 ≡ false
    no_start s = grind (arith, nat_tests)

-- the new block's link is 0, so the chain ends there
last_one : (Q : Region) (s : Super) (before : List ℕ) (at b : ℕ) → word Q at ≡ 4096 * b → word Q (4096 * b) ≡ 0 → system_blocks s ≤ b → b < s.blocks → list_any (eqb b) before ≡ false → IsChain Q s before at (b ∷ [])
last_one Q s before at b here behind from below fresh =
    let back : 4096 * b / 4096 ≡ b = omega arith in
    let on : leads_on s before (4096 * b) ≡ true = (λ i. is_start s b from below i && not (list_any (eqb (back i)) before)) ∙ ap not fresh in
    let off : leads_on s (before ++ word Q at / 4096 ∷ []) (word Q (word Q at)) ≡ false = ap (leads_on s (before ++ word Q at / 4096 ∷ [])) (ap (word Q) here ∙ behind) ∙ zero_leads s (before ++ word Q at / 4096 ∷ []) in
    subst (λ (x : ℕ). IsChain Q s before at (x ∷ [])) (ap (λ (a : ℕ). a / 4096) here ∙ back) (leads (ap (leads_on s before) here ∙ on) (ends off))

on_grown : (R Q : Region) (s : Super) (before xs : List ℕ) (at b : ℕ) → IsChain R s before at xs → SameLinks R Q at xs → word Q (link_behind at xs) ≡ 4096 * b → word Q (4096 * b) ≡ 0
    → system_blocks s ≤ b → b < s.blocks → list_any (eqb b) (before ++ xs) ≡ false → IsChain Q s before at (xs ++ b ∷ [])
on_grown R Q s before [] at b (ends off) same here behind from below fresh = last_one Q s before at b here behind from below (ap (λ (xs : List ℕ). list_any (eqb b) xs) (sym (append_none before)) ∙ fresh)
on_grown R Q s before xs at b (leads {rest = rest} on further) same here behind from below fresh =
    let whole = start_whole s (word R at) (leads_so s before (word R at) on).start in
    let back : 4096 * (word R at / 4096) ≡ word R at = omega (arith, whole) in
    let next = on_grown R Q s (before ++ word R at / 4096 ∷ []) rest (word R at) b further (subst (λ (a : ℕ). SameLinks R Q a rest) back same.1) (ap (λ (a : ℕ). word Q (link_behind a rest)) (sym back) ∙ here) behind from below (ap (λ (ys : List ℕ). list_any (eqb b) ys) (append_one before (word R at / 4096) rest) ∙ fresh) in
    subst (λ (x : ℕ). IsChain Q s before at (x / 4096 ∷ rest ++ b ∷ [])) same.0
    (leads (ap (leads_on s before) same.0 ∙ on) (subst (λ (x : ℕ). IsChain Q s (before ++ x / 4096 ∷ []) x (rest ++ b ∷ [])) (sym same.0) next))

-- so a CPU's chain has it behind its blocks
pub chain_grown : (s : Super) (R Q : Region) (cpu b : ℕ) → s.version ≡ 2 → SameLinks R Q (first_link cpu) (chain_in s R cpu) → word Q (link_behind (first_link cpu) (chain_in s R cpu)) ≡ 4096 * b → word Q (4096 * b) ≡ 0
    → system_blocks s ≤ b → b < s.blocks → list_any (eqb b) (chain_in s R cpu) ≡ false → chain_in s Q cpu ≡ chain_in s R cpu ++ b ∷ []
chain_grown s R Q cpu b two same here behind from below fresh =
    one_chain s Q [] (chain_in s Q cpu) (chain_in s R cpu ++ b ∷ []) (first_link cpu) (chain_is s Q cpu two)
    (on_grown R Q s [] (chain_in s R cpu) (first_link cpu) b (chain_is s R cpu two) same here behind from below fresh)

-- The claims of chains, in the order of owners.
use Rattle.std.proofs.Common.{◌≡◌, inl, inr, ℕ, zero, suc, ◌+◌, ◌≤◌, List, [], ◌∷◌, ap, sym, subst, arith}
use Rattle.std.specs.List.{Contains, flat_map, range_with_len}
use Rattle.std.proofs.lemmas.List.Elements.{Contains-append_cases}
use Rattle.nv_super.specs.declared.owners.Owner.{Owner}
use Rattle.nv_super.specs.declared.owners.Owner.TheVariants as owners
use Rattle.nv_super.specs.Layout.{Layout, chain_of}
use Rattle.nv_super.specs.Order.{Rises}
use Rattle.nv_super.proofs.Members.{none_in}
use Rattle.nv_super.proofs.Rising.{Below, Contains-cons, below_first, below_rest, rises_append, rises_cons}
use Rattle.nv_scan.specs.ChainBlocks.{chain_claims, claims_of_chains}
use Rattle.nv_block.proofs.OwnersAt.{key}

-- a claim of a CPU's chain, at this place or a later one
record IsOf (c k : ℕ) (x : ℕ × Owner) : Type 0 where
  place : ℕ
  is : x.1 ≡ owners.Table c place
  from : k ≤ place

of_chain : (c k : ℕ) (blocks : List ℕ) (x : ℕ × Owner) → Contains (chain_claims c k blocks) x → IsOf c k x
of_chain c k [] x has = absurd (none_in x has)
of_chain c k (b ∷ blocks) x has = elim (Contains-cons (b, owners.Table c k) (chain_claims c (k + 1) blocks) x has) [
  | inl e ↦ record { place = k; is = ap (λ (y : ℕ × Owner). y.1) e; from = omega arith }
  | inr w ↦ (let later = of_chain c (k + 1) blocks x w in record { place = later.place; is = later.is; from = omega (arith, later.from) })
]

-- the blocks of a chain rise by their places
chain_rises : (c k : ℕ) (blocks : List ℕ) → Rises key (chain_claims c k blocks)
chain_rises c k [] = tt
chain_rises c k (b ∷ blocks) = rises_cons key (b, owners.Table c k) (chain_claims c (k + 1) blocks)
    (λ y has. (let w = of_chain c (k + 1) blocks y has in
    subst (λ (o : Owner). Below (key (b, owners.Table c k)) (key (b, o))) (sym w.is) (below_rest 0 (c ∷ k ∷ 0 ∷ []) (c ∷ w.place ∷ 0 ∷ []) (below_rest c (k ∷ 0 ∷ []) (w.place ∷ 0 ∷ []) (below_first k w.place (0 ∷ []) (0 ∷ []) (omega (arith, w.from)))))))
    (chain_rises c (k + 1) blocks)

-- a claim of the chain of a CPU, this one or a later one
record IsFrom (c : ℕ) (x : ℕ × Owner) : Type 0 where
  cpu : ℕ
  place : ℕ
  is : x.1 ≡ owners.Table cpu place
  from : c ≤ cpu

module _ (l : Layout) where
  -- the claims of the chains of so many CPUs from one on
  abbrev chains_from : ℕ → ℕ → List (ℕ × Owner)
  chains_from c n = flat_map (λ c. chain_claims c 0 (chain_of l c)) (range_with_len c n)

  of_chains : (c n : ℕ) (x : ℕ × Owner) → Contains (chains_from c n) x → IsFrom c x
  of_chains c zero x has = absurd (none_in x has)
  of_chains c (suc n) x has = elim (Contains-append_cases (chain_claims c 0 (chain_of l c)) (chains_from (c + 1) n) x has) [
    | inl w ↦ (let own = of_chain c 0 (chain_of l c) x w in record { cpu = c; place = own.place; is = own.is; from = omega arith })
    | inr w ↦ (let later = of_chains (c + 1) n x w in record { cpu = later.cpu; place = later.place; is = later.is; from = omega (arith, later.from) })
  ]

  before : (c : ℕ) (x y : ℕ × Owner) → IsOf c 0 x → IsFrom (c + 1) y → Below (key x) (key y)
  before c x y first later =
      subst (λ (o : Owner). Below (key (x.0, o)) (key y)) (sym first.is)
      (subst (λ (o : Owner). Below (key (x.0, owners.Table c first.place)) (key (y.0, o))) (sym later.is)
      (below_rest 0 (c ∷ first.place ∷ 0 ∷ []) (later.cpu ∷ later.place ∷ 0 ∷ []) (below_first c later.cpu (first.place ∷ 0 ∷ []) (later.place ∷ 0 ∷ []) (omega (arith, later.from)))))

  chains_from_rise : (c n : ℕ) → Rises key (chains_from c n)
  chains_from_rise c zero = tt
  chains_from_rise c (suc n) = rises_append key (chain_claims c 0 (chain_of l c)) (chains_from (c + 1) n) (chain_rises c 0 (chain_of l c)) (chains_from_rise (c + 1) n)
      (λ x y first later. before c x y (of_chain c 0 (chain_of l c) x first) (of_chains (c + 1) n y later))

  -- those of all chains rise by CPU and place
  pub chains_rise : (cpus : ℕ) → Rises key (claims_of_chains l cpus)
  chains_rise cpus = chains_from_rise 0 cpus

  -- and are of tables
  pub claim_of_table : (cpus : ℕ) (x : ℕ × Owner) → Contains (claims_of_chains l cpus) x → (c : ℕ) × (k : ℕ) × (x.1 ≡ owners.Table c k)
  claim_of_table cpus x has = let w = of_chains 0 cpus x has in (w.cpu, w.place, w.is)

-- The owners by the tables and all rows are those of the region.
use Rattle.std.proofs.Common.{◌≡◌, ◌∙◌, ℕ, ◌+◌, ◌<◌, inl, inr, List, [], ◌∷◌, ◌++◌, length, take, get_or, ap, sym, subst, arith, append_assoc}
use Rattle.std.specs.List.{Contains}
use Rattle.std.proofs.lemmas.List.Elements.{Contains-append_cases}
use Rattle.nv_region.specs.Region.{Region}
use Rattle.nv_super.specs.declared.owners.Owner.{Owner}
use Rattle.nv_super.specs.declared.owners.Owner.TheVariants as owners
use Rattle.nv_super.specs.Layout.{IsLayout, Layout, chain_of}
use Rattle.nv_super.specs.Order.{Rises, Lists, owner_key}
use Rattle.nv_super.proofs.Rising.{Below, Contains-head, Contains-tail, below_first, below_rest, head_least, rises_append, tail_rises}
use Rattle.nv_inode.specs.Chains.{IsLaid}
use Rattle.nv_radix.specs.Pages.{block_at}
use Rattle.nv_scan.specs.Claims.{AreClaimsOf, AreSmall, IsClaim, of_log, of_page}
use Rattle.nv_scan.specs.ChainBlocks.{chain_claims, claims_of_chains}
use Rattle.nv_scan.specs.Owners.{Owns}
use Rattle.nv_scan.specs.Rows.{row_key}
use Rattle.nv_scan.specs.declared.piece.Row.{Row}
use Rattle.nv_scan.proofs.Blocks.{data_pages}
use Rattle.nv_scan.proofs.AllClaims.{are_all, chain_more, chains_more}
use Rattle.nv_scan.proofs.RowClaims.{one_row_more}
use Rattle.nv_scan.proofs.RowKeys.{key_less}
use Rattle.nv_outcome.specs.Outcome.{AreRows}
use Rattle.nv_block.specs.Owned.{AddsOwners, AddsOwnersOf, owners_at}
use Rattle.nv_block.proofs.Chains.{chains_rise, claim_of_table}
use Rattle.nv_block.proofs.OwnersAt.{key, owners_at-append, owners_list}

-- the claims of one row
abbrev pub OfRow : Row → ℕ × Owner → Type 0
OfRow row x = IsClaim row.inode row.pages.items row.index x

-- those of all rows
abbrev pub OfRows : List Row → ℕ × Owner → Type 0
OfRows rows x = (row : Row) × Contains rows row × OfRow row x

-- claims of an inode come before those of a later one
before : (row later : Row) (x y : ℕ × Owner) → OfRow row x → OfRow later y → row.inode < later.inode → Below (key x) (key y)
before row later _ _ (of_log k b h) (of_log j c g) less = below_rest 1 (row.inode ∷ 0 ∷ k ∷ []) (later.inode ∷ 0 ∷ j ∷ []) (below_first row.inode later.inode (0 ∷ k ∷ []) (0 ∷ j ∷ []) less)
before row later _ _ (of_log k b h) (of_page q c g) less = below_rest 1 (row.inode ∷ 0 ∷ k ∷ []) (later.inode ∷ 1 ∷ q ∷ []) (below_first row.inode later.inode (0 ∷ k ∷ []) (1 ∷ q ∷ []) less)
before row later _ _ (of_page p b h) (of_log j c g) less = below_rest 1 (row.inode ∷ 1 ∷ p ∷ []) (later.inode ∷ 0 ∷ j ∷ []) (below_first row.inode later.inode (1 ∷ p ∷ []) (0 ∷ j ∷ []) less)
before row later _ _ (of_page p b h) (of_page q c g) less = below_rest 1 (row.inode ∷ 1 ∷ p ∷ []) (later.inode ∷ 1 ∷ q ∷ []) (below_first row.inode later.inode (1 ∷ p ∷ []) (1 ∷ q ∷ []) less)

claims_from : (rows : List Row) (claims : List (ℕ × Owner)) → AreClaimsOf rows claims → (x : ℕ × Owner) → Contains claims x → OfRows rows x
claims_from [] claims none x c = absurd (let e : Contains [] x = subst (λ (xs : List (ℕ × Owner)). Contains xs x) none c in omega (arith, e.1))
claims_from (row ∷ rows) claims (own, rest, split, lists, more) x c = elim (Contains-append_cases own rest x (subst (λ (xs : List (ℕ × Owner)). Contains xs x) split c)) [
  | inl w ↦ (row, Contains-head row rows, lists.each x w)
  | inr w ↦ (let r = claims_from rows rest more x w in (r.0, Contains-tail row rows r.0 r.1, r.2))
]

claims_rise : (rows : List Row) (claims : List (ℕ × Owner)) → Rises row_key rows → AreClaimsOf rows claims → Rises key claims
claims_rise [] claims rising none = subst (Rises key) (sym none) tt
claims_rise (row ∷ rows) claims rising (own, rest, split, lists, more) = subst (Rises key) (sym split)
    (rises_append key own rest lists.rising (claims_rise rows rest (tail_rises row_key row rows rising) more)
    (λ x y c d. (let r = claims_from rows rest more y d in before row r.0 x y (lists.each x c) r.2 (key_less row.inode r.0.inode (head_least row_key row rows rising r.0 r.1)))))

-- a chain's blocks come before all that inodes own
tables_first : (x y : ℕ × Owner) → (c : ℕ) × (k : ℕ) × (x.1 ≡ owners.Table c k) → (row : Row) → OfRow row y → Below (key x) (key y)
tables_first x y (c, k, is) row of = subst (λ (o : Owner). Below (key (x.0, o)) (key y)) (sym is) (by y of) where
  by : (y : ℕ × Owner) → OfRow row y → Below (key (x.0, owners.Table c k)) (key y)
  by _ (of_log n b h) = below_first 0 1 (c ∷ k ∷ 0 ∷ []) (row.inode ∷ 0 ∷ n ∷ []) (omega arith)
  by _ (of_page p b h) = below_first 0 1 (c ∷ k ∷ 0 ∷ []) (row.inode ∷ 1 ∷ p ∷ []) (omega arith)

module _ (R : Region) (l : Layout) (rows : List Row) (are : AreRows R l rows) (laid : IsLaid l) (own : List (ℕ × Owner)) (of : AreClaimsOf rows own) where
  -- the claims of the chains, and behind them those of the rows
  abbrev all : List (ℕ × Owner)
  all = claims_of_chains l l.sup.cpus ++ own

  all_claims : Lists key (λ (x : ℕ × Owner). Owns R l x.0 x.1) all
  all_claims =
      let claimed = are_all R l rows (record { each = are.each; all = are.all }) laid own of in
      record {
        rising = rises_append key (claims_of_chains l l.sup.cpus) own (chains_rise l l.sup.cpus) (claims_rise rows own are.rising of)
            (λ x y first later. (let w = claims_from rows own of y later in tables_first x y (claim_of_table l l.sup.cpus x first) w.0 w.2));
        each = λ x c. (claimed x.0 x.1).0 c;
        all = λ x h. (claimed x.0 x.1).1 h;
      }

  -- the owners by the claims of the tables and of all rows are those of the region
  pub all_owners : (b : ℕ) (os : List Owner) → os ≡ owners_at b (claims_of_chains l l.sup.cpus) ++ owners_at b own → Lists owner_key (Owns R l b) os
  all_owners b os is = subst (Lists owner_key (Owns R l b)) (sym (is ∙ sym (owners_at-append b (claims_of_chains l l.sup.cpus) own))) (owners_list b (λ (x : ℕ × Owner). Owns R l x.0 x.1) all all_claims)

-- pages and blocks of files have small numbers
pub small_row : (R : Region) (l : Layout) (rows : List Row) → AreRows R l rows → IsLayout l.sup → (row : Row) → Contains rows row → AreSmall (block_at row.index)
small_row R l rows are layout row c p b e =
    let q = are.each row c in
    let d = data_pages l.sup q.1.kind q.1.entries p b (sym (q.2.index p) ∙ e) in
    let most = layout.blocks_to in
    (d.0, omega (arith, d.2, most))

-- one row more
pub one_more : (rows : List Row) (row : Row) (b : ℕ) (old mid new : List Owner) → AddsOwnersOf rows b old mid → AddsOwners row b mid new → AddsOwnersOf (rows ++ row ∷ []) b old new
one_more rows row b old mid new by adds = (
  by.0 ++ adds.0,
  one_row_more rows row by.0 adds.0 by.1 adds.1,
  adds.2 ∙ ap (λ (os : List Owner). os ++ owners_at b adds.0) by.2 ∙ append_assoc old (owners_at b by.0) (owners_at b adds.0) ∙ ap (λ (os : List Owner). old ++ os) (sym (owners_at-append b by.0 adds.0)),
)

-- one block of a chain more
pub block_more : (c n : ℕ) (blocks : List ℕ) (b : ℕ) → n < length blocks → owners_at b (chain_claims c 0 (take (n + 1) blocks)) ≡ owners_at b (chain_claims c 0 (take n blocks)) ++ owners_at b ((get_or blocks n 0, owners.Table c n) ∷ [])
block_more c n blocks b less =
    ap (owners_at b) (chain_more c 0 n blocks 0 less ∙ ap (λ (k : ℕ). chain_claims c 0 (take n blocks) ++ (get_or blocks n 0, owners.Table c k) ∷ []) (let e : 0 + n ≡ n = omega arith in e))
    ∙ owners_at-append b (chain_claims c 0 (take n blocks)) ((get_or blocks n 0, owners.Table c n) ∷ [])

-- one chain more
pub chain_owners_more : (l : Layout) (cpu : ℕ) (b : ℕ) → owners_at b (claims_of_chains l (cpu + 1)) ≡ owners_at b (claims_of_chains l cpu) ++ owners_at b (chain_claims cpu 0 (chain_of l cpu))
chain_owners_more l cpu b = ap (owners_at b) (chains_more l cpu) ∙ owners_at-append b (claims_of_chains l cpu) (chain_claims cpu 0 (chain_of l cpu))

-- Claiming what a piece claims, block by block and run by run.
use Rattle.std.proofs.Common.{◌≡◌, ℕ, zero, suc, ◌+◌, ◌<◌, ◌≤◌, List, [], ◌∷◌, ◌++◌, length, get_or, take, Option, Some, refl, ap, sym, ◌∙◌, subst, append-nil, append_assoc, arith}
use Rattle.std.specs.List.{Contains, All, AllByRecursion}
use Rattle.std.proofs.lemmas.Grind.{flat_map-append}
use Rattle.std.proofs.lemmas.List.{map-append, take_more}
use Rattle.std.proofs.lemmas.Option.{slice_get-get_or}
use Rattle.std.proofs.lemmas.List.Elements.{All-contains, All-contains_itself, All-pop, All-append, All-from_recursion, Contains-append_left, Contains-append_right}
use Rattle.nv_region.specs.Region.{Region}
use Rattle.nv_super.specs.Layout.{Layout}
use Rattle.nv_inode.specs.Chains.{IsLaid}
use Rattle.nv_super.specs.Owners.{MayOwn, pairs}
use Rattle.nv_super.specs.declared.owners.Owner.{Owner}
use Rattle.nv_super.specs.declared.owners.Owner.TheVariants as owners
use Rattle.nv_super.proofs.Rising.{Contains-head, Contains-tail}
use Rattle.nv_claimcore.specs.declared.view.Record.{Record}
use Rattle.nv_claimcore.specs.declared.view.View.{View}
use Rattle.nv_claimcore.specs.Claims.{Settled}
use Rattle.nv_claimcore.specs.Finished.{pair_of}
use Rattle.nv_claimcore.specs.Spans.{Adds}
use Rattle.nv_scan.specs.Owners.{Owns, AreClaims}
use Rattle.nv_scan.specs.ChainBlocks.{table_claims}
use Rattle.nv_scan.specs.declared.chain_block.ChainBlock.{ChainBlock}
use Rattle.nv_scan.specs.ClaimList.{ClaimList}
use Rattle.nv_scan.specs.Claiming.{IsClaimable}
use Rattle.nv_scan.specs.Claims.{log_claims, run_claims, data_claims}
use Rattle.nv_scan.specs.Work.{claims_among}
use Rattle.nv_radix.specs.declared.extent.Extent.{Extent}
use Rattle.nv_super.proofs.Members.{into_flat}
use Rattle.nv_scan.proofs.Blocks.{data_pages}
use Rattle.nv_scan.proofs.ClaimLists.{log_claimed, run_claimed}
use Rattle.nv_scan.proofs.Only.{owned_page}
use Rattle.nv_scan.proofs.Owned.{owned_block}

-- what is read where there is no run
abbrev pub no_run : Extent
no_run = record { page = 0; count = 0; block = 0 }

-- ---- what can be claimed

page_fits : (R : Region) (l : Layout) (b : ℕ) (o : Owner) → Owns R l b o → MayOwn o 1
page_fits R l b (owners.Table c k) h = refl
page_fits R l b (owners.Log i k) h = omega arith
page_fits R l b (owners.Data i p) h = let w = owned_page h in let d = data_pages l.sup w.log.kind w.log.entries p b w.maps in omega (arith, d.0)

each_of : {A : Type 0} (P : A → Type 0) (xs : List A) → ((x : A) → Contains xs x → P x) → AllByRecursion P xs
each_of P [] h = tt
each_of P (y ∷ xs) h = (h y (Contains-head y xs), each_of P xs (λ x c. h x (Contains-tail y xs x c)))

-- what an inode owns can be claimed
pub claims_fit : (R : Region) (l : Layout) (i : ℕ) (claims : List (ℕ × Owner)) → IsLaid l → AreClaims R l i claims → All (IsClaimable l.sup.blocks) claims
claims_fit R l i claims laid are = All-from_recursion (IsClaimable l.sup.blocks) claims (each_of (IsClaimable l.sup.blocks) claims
    (λ x c. (let owns = (are.each x c).0 in ((owned_block R l x.0 x.1 laid owns).1, page_fits R l x.0 x.1 owns))))

-- those of some claims that stand among others
all_among : {A : Type 0} (P : A → Type 0) (xs ys : List A) → All P ys → ((x : A) → Contains xs x → Contains ys x) → All P xs
all_among P xs ys all among = All-from_recursion P xs (each_of P xs (λ x c. All-contains P ys x all (among x c)))

-- what is so of each claim is so of that of a chain's block, of each of the log, and of each of the file
pub claims_split : (P : ℕ × Owner → Type 0) (table : Option ChainBlock) (i : ℕ) (claims : List (ℕ × Owner)) (pages : List ℕ) (runs : List Extent) → claims ≡ table_claims table ++ (log_claims i 0 pages ++ data_claims i runs) → All P claims
    → All P (table_claims table) × (All P (log_claims i 0 pages) × All P (data_claims i runs))
claims_split P table i claims pages runs is all =
    let front = table_claims table in let log = log_claims i 0 pages in let file = data_claims i runs in
    let each = subst (All P) is all in (
      all_among P front (front ++ (log ++ file)) each (λ x c. Contains-append_left front (log ++ file) x c),
      (
        all_among P log (front ++ (log ++ file)) each (λ x c. Contains-append_right front (log ++ file) x (Contains-append_left log file x c)),
        all_among P file (front ++ (log ++ file)) each (λ x c. Contains-append_right front (log ++ file) x (Contains-append_right log file x c)),
      ),
    )

-- what is so of each claim of a log is so of one of its pages
pub each_page : (P : ℕ × Owner → Type 0) (i k : ℕ) (pages : List ℕ) → k < length pages → All P (log_claims i 0 pages) → P (get_or pages k 0, owners.Log i (0 + k))
each_page P i k pages less all = All-contains P (log_claims i 0 pages) (get_or pages k 0, owners.Log i (0 + k)) all (log_claimed i 0 pages k (get_or pages k 0) (slice_get-get_or pages k 0 less))

-- what is so of each claim of a file is so of each of one run
pub each_run : (P : ℕ × Owner → Type 0) (i k : ℕ) (runs : List Extent) (d : Extent) → k < length runs → All P (data_claims i runs) → All P (run_claims i (get_or runs k d))
each_run P i k runs d less all = all_among P (run_claims i (get_or runs k d)) (data_claims i runs) all (λ y c. into_flat (run_claims i) runs (get_or runs k d) y (All-contains_itself runs k d less) c)

-- and of one of its blocks
pub each_block : (P : ℕ × Owner → Type 0) (i p b n j : ℕ) → j < n → All P (pairs b (owners.Data i p) n) → P (b + j, owners.Data i (p + j))
each_block P i p b n j less all = All-contains P (pairs b (owners.Data i p) n) (b + j, owners.Data i (p + j)) all (run_claimed i p b n j less)

run_fits : (blocks start i p n : ℕ) → 0 < n → All (IsClaimable blocks) (pairs start (owners.Data i p) n) → (start + n ≤ blocks) × MayOwn (owners.Data i p) n
run_fits blocks start i p zero some all = absurd (omega arith)
run_fits blocks start i p (suc k) some all =
    let last = (All-pop (IsClaimable blocks) (pairs start (owners.Data i p) (suc k)) (pairs start (owners.Data i p) k) (Some (start + k, owners.Data i (p + k))) refl all).1 in
    (omega (arith, last.0), omega (arith, last.1))

-- a run of a file can be claimed where each of its blocks can
pub run_claimable : (blocks i k : ℕ) (runs : List Extent) (d : Extent) → k < length runs → All (IsClaimable blocks) (data_claims i runs) → 0 < (get_or runs k d).count
    → ((get_or runs k d).block + (get_or runs k d).count ≤ blocks) × MayOwn (owners.Data i (get_or runs k d).page) (get_or runs k d).count
run_claimable blocks i k runs d less all some = let x = get_or runs k d in run_fits blocks x.block i x.page x.count some (each_run (IsClaimable blocks) i k runs d less all)

-- what is so of each claim of some inodes is so of each of one inode
pub each_among : (P : ℕ × Owner → Type 0) (each : List ClaimList) (k : ℕ) (d : ClaimList) → k < length each → All P (claims_among each) → All P (get_or each k d).items
each_among P each k d less all = all_among P (get_or each k d).items (claims_among each) all (λ y c. into_flat (λ (x : ClaimList). x.items) each (get_or each k d) y (All-contains_itself each k d less) c)

-- ---- what was claimed

-- the claims of one inode more
pub among_push : (each : List ClaimList) (x : ClaimList) → claims_among (each ++ x ∷ []) ≡ claims_among each ++ x.items
among_push each x = flat_map-append (λ (y : ClaimList). y.items) each (x ∷ []) ∙ ap (λ (cs : List (ℕ × Owner)). claims_among each ++ cs) (append-nil x.items)

pub among_more : (each : List ClaimList) (k : ℕ) (x : ClaimList) → k < length each → x ≡ get_or each k x → claims_among (take (k + 1) each) ≡ claims_among (take k each) ++ x.items
among_more each k x less is = ap claims_among (take_more each k x less ∙ ap (λ (y : ClaimList). take k each ++ y ∷ []) (sym is)) ∙ among_push (take k each) x

-- claims and then more claims
pub adds_both : (ps qs : List (ℕ × Owner)) (v u w : View) → Adds ps v u → Adds qs u w → Adds (ps ++ qs) v w
adds_both ps qs v u w a b = let one = a.2 in let two = b.2 in (
  b.0 ∙ a.0,
  b.1 ∙ a.1,
  (
    one.0 ++ two.0,
    two.1 ∙ ap (λ (rs : List Record). rs ++ two.0) one.1 ∙ append_assoc v.records one.0 two.0,
    map-append pair_of one.0 two.0 ∙ (λ i. one.2 i ++ two.2 i),
    All-append Settled one.0 two.0 one.3 two.3,
  ),
)

-- a block of a chain lies where its claim does
pub table_fits : (blocks start n : ℕ) (t : ChainBlock) → start ≡ t.block → n ≡ 1 → All (IsClaimable blocks) (table_claims (Some t)) → start + n ≤ blocks
table_fits blocks start n t block one all =
    let x : ℕ × Owner = (t.block, owners.Table t.cpu t.place) in
    let fits = All-contains (IsClaimable blocks) (x ∷ []) x all (Contains-head x []) in
    omega (arith, block, one, fits.0)

-- one page of a log, as a run
pub page_pair : (b i k n : ℕ) → k ≡ n → pairs b (owners.Log i k) 1 ≡ (b, owners.Log i n) ∷ []
page_pair b i k n same = let block : b + 0 ≡ b = omega arith in λ t. (block t, owners.Log i (same t)) ∷ []

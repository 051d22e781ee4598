-- The tickets, one after another.
use Rattle.std.proofs.Common.{◌≡◌, ◌<◌, ◌≤◌, ℕ, suc, ◌+◌, ◌*◌, List, [], ◌∷◌, ◌++◌, length, ap, sym, ◌∙◌, subst, append-nil, arith}
use Rattle.std.specs.Prelude.{Vec, slice_get, unwrap_or}
use Rattle.std.specs.declared.alloc.Global.{Global}
use Rattle.std.specs.List.{range_with_len}
use Rattle.std.proofs.Math.Nat.{mul-le-mul, one-le-mul}
use Rattle.std.proofs.lemmas.Grind.{flat_map-append}
use Rattle.std.proofs.lemmas.List.{length-append}
use Rattle.nv_region.specs.Region.{Region}
use Rattle.nv_super.proofs.Ranges.{one_more}
use Rattle.nv_super.specs.declared.superblock.Super.{Super}
use Rattle.nv_super.specs.Layout.{Layout}
use Rattle.nv_inode.specs.Chains.{IsLaid}
use Rattle.nv_inode.specs.SlotBlocks.{extra_blocks}
use Rattle.nv_inode.proofs.TicketBlocks.{all_long, chain_counts, chain_small}
use Rattle.nv_super.specs.declared.owners.Owner.{Owner}
use Rattle.nv_scan.specs.Tickets.{numbers_of, ticket_count}
use Rattle.nv_scan.specs.Work.{numbers_in, ArePiecesOf, AreNext}
use Rattle.nv_scan.proofs.Work.{behind, claims_join, rows_join, faults_join, pieces_none, pieces_join}
use Rattle.nv_outcome.specs.Parts.{rows_in, faults_in}
use Rattle.nv_scan.specs.declared.inodes.Inodes.{Inodes}
use Rattle.nv_scan.specs.declared.piece.Piece.{Piece}
use Rattle.nv_recover.specs.Scanned.{AreFirst, AreOfTickets, all_claims}

-- ---- how many there are

pub tickets_some : (l : Layout) → IsLaid l → 0 < ticket_count l
tickets_some l laid = let all = all_long l 0 in let some = one-le-mul laid.layout.cpus_from laid.layout.tables_from in omega (arith, all, some)

-- chains of at most so many blocks each
extra_few : (s : Super) (cpu : ℕ) (chains : List (List ℕ)) → ((c : ℕ) → length (unwrap_or (slice_get chains c) []) ≤ 262144) → length (extra_blocks s cpu chains) ≤ 262144 * length chains
extra_few s cpu [] few = omega arith
extra_few s cpu (chain ∷ chains) few =
    let here = few 0 in
    let all = chain_counts s cpu 0 chain chains in
    let more = extra_few s (cpu + 1) chains (λ c. few (suc c)) in
    omega (arith, here, all, more)

pub tickets_few : (l : Layout) → IsLaid l → ticket_count l ≤ 16781312
tickets_few l laid =
    let areas = laid.layout.areas in
    let all = all_long l 0 in
    let fixed : l.sup.cpus * l.sup.table_blocks ≤ 64 * 64 = mul-le-mul areas.cpus_to areas.tables_to in
    let extra = extra_few l.sup 0 l.chains (λ c. (let short = chain_small l laid c in let most = areas.blocks_to in omega (arith, short, most))) in
    let each = laid.each in
    let cpus = areas.cpus_to in
    omega (arith, all, fixed, extra, each, cpus)

module _ {R : Region} {l : Layout} where
  -- ---- the inodes of the tickets

  pub first_none : {x : Inodes} → x.rows.items ≡ [] → x.faults.items ≡ [] → AreFirst R l 0 [] x
  first_none rows faults = record { are = pieces_none; rows = rows; faults = faults }

  pub first_more : (t : ℕ) (ps : List Piece) {old new : Inodes} {claims : List (ℕ × Owner)} → AreFirst R l t ps old → (next : AreNext R l (numbers_of l t) old new claims) → AreFirst R l (t + 1) (ps ++ next.pieces) new
  first_more t ps {old} {new} first next = record {
    are = subst (λ (ns : List ℕ). ArePiecesOf R l ns (ps ++ next.pieces)) numbers (pieces_join first.are next.are);
    rows = behind [] (rows_in ps) (rows_in next.pieces) first.rows next.rows (rows_join ps next.pieces);
    faults = behind [] (faults_in ps) (faults_in next.pieces) first.faults next.faults (faults_join ps next.pieces);
  } where
    numbers : numbers_in l (range_with_len 0 t) ++ numbers_of l t ≡ numbers_in l (range_with_len 0 (t + 1))
    numbers =
        let last : numbers_of l (0 + t) ++ [] ≡ numbers_of l t = append-nil (numbers_of l (0 + t)) ∙ ap (numbers_of l) (omega arith) in
        let joined = flat_map-append (numbers_of l) (range_with_len 0 t) ((0 + t) ∷ []) ∙ ap (λ (ns : List ℕ). numbers_in l (range_with_len 0 t) ++ ns) last in
        sym joined ∙ ap (numbers_in l) (one_more 0 t)

  -- ---- and a list of claims for each

  pub tickets_none : {x : Inodes} {work : List (Vec (ℕ × Owner) Global)} → x.rows.items ≡ [] → x.faults.items ≡ [] → work ≡ [] → AreOfTickets R l 0 x work
  tickets_none rows faults none = record { pieces = []; first = first_none rows faults; lists_are = ap length none; claims_are = ap all_claims none }

  pub tickets_more : (t : ℕ) {old new : Inodes} {work all : List (Vec (ℕ × Owner) Global)} (list : Vec (ℕ × Owner) Global) → AreOfTickets R l t old work
      → AreNext R l (numbers_of l t) old new list.items → all ≡ work ++ list ∷ [] → AreOfTickets R l (t + 1) new all
  tickets_more t {old} {new} {work} {all} list so_far next is = record {
    pieces = so_far.pieces ++ next.pieces;
    first = first_more t so_far.pieces so_far.first next;
    lists_are = ap length is ∙ length-append work (list ∷ []) ∙ ap (λ (n : ℕ). n + 1) so_far.lists_are;
    claims_are = ap all_claims is ∙ flat_map-append (λ (v : Vec (ℕ × Owner) Global). v.items) work (list ∷ []) ∙ (λ i. so_far.claims_are i ++ append-nil (next.claims_are i) i) ∙ sym (claims_join so_far.pieces next.pieces);
  }

-- all claims, as runs, keep up with the lists
pub claims_keep_up : (work : List (Vec (ℕ × Owner) Global)) (all : List (Vec (ℕ × Owner) Global)) (list : Vec (ℕ × Owner) Global) {claims now : List (ℕ × Owner)} → claims ≡ all_claims work → now ≡ claims ++ list.items → all ≡ work ++ list ∷ [] → now ≡ all_claims all
claims_keep_up work all list so_far more is =
    let each : Vec (ℕ × Owner) Global → List (ℕ × Owner) = λ v. v.items in
    more ∙ (λ i. so_far i ++ sym (append-nil list.items) i) ∙ sym (flat_map-append each work (list ∷ [])) ∙ ap all_claims (sym is)

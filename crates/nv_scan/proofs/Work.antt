-- The work of a worker, ticket by ticket.
use Rattle.std.proofs.Common.{◌≡◌, ℕ, zero, suc, ◌+◌, ◌-◌, ◌<◌, ◌≤◌, nat_lt, Bool, true, false, cond, Some, None, List, [], ◌∷◌, ◌++◌, map, Option, Result, Ok, Err, IfOk, refl, ap, sym, ◌∙◌, subst, append-nil, append_assoc, arith}
use Rattle.std.specs.Prelude.{is_some, slice_get}
use Rattle.std.specs.List.{All, AllByRecursion, cons_option}
use Rattle.std.proofs.lemmas.Bool.Decides.{nat_tests}
use Rattle.std.proofs.lemmas.Grind.{flat_map-append}
use Rattle.std.proofs.lemmas.List.{map-append}
use Rattle.std.proofs.lemmas.List.Elements.{All-nil, All-append, All-push, filter-append, filter_map-append}
use Rattle.std.proofs.lemmas.List.FromFn.{filter_of_map_range_with_len_more}
use Rattle.nv_region.specs.Region.{Region}
use Rattle.nv_super.specs.declared.owners.Owner.{Owner}
use Rattle.nv_super.specs.declared.faults.Fault.{Fault}
use Rattle.nv_super.specs.Layout.{Layout, slot_of}
use Rattle.nv_inode.specs.declared.blocks.SlotBlock.{SlotBlock}
use Rattle.nv_inode.specs.Chains.{IsLaid}
use Rattle.nv_inode.specs.SlotBlocks.{slot_blocks}
use Rattle.nv_claimcore.specs.declared.view.View.{View}
use Rattle.nv_claimcore.specs.Claims.{above, with_number, nothing, both_views}
use Rattle.nv_claimcore.specs.Finished.{pair_of}
use Rattle.nv_claimcore.specs.Spans.{Adds}
use Rattle.nv_claimmap.proofs.Seats.{fewer_left}
use Rattle.nv_scan.specs.Claiming.{IsClaimable}
use Rattle.nv_scan.specs.Rows.{IsPiece}
use Rattle.nv_scan.specs.Tickets.{ticket_count, number_in, numbers_to, numbers_by, numbers_of, IsFound}
use Rattle.nv_scan.specs.Work.{tickets_among, numbers_in, claims_in, rows_in, faults_in, ArePiecesOf, AreNext, IsWork, IsDone}
use Rattle.nv_scan.specs.declared.inodes.Inodes.{Inodes}
use Rattle.nv_scan.specs.declared.piece.Row.{Row}
use Rattle.nv_scan.specs.declared.piece.Piece.{Piece}
use Rattle.nv_scan.proofs.Runs.{claims_fit}
use Rattle.nv_scan.proofs.Told.{blank_piece}

-- what holds of two lists holds of both together
pub AllByRecursion-append : {X : Type 0} (P : X → Type 0) (xs ys : List X) → AllByRecursion P xs → AllByRecursion P ys → AllByRecursion P (xs ++ ys)
AllByRecursion-append P [] ys p q = q
AllByRecursion-append P (x ∷ xs) ys p q = (p.0, AllByRecursion-append P xs ys p.1 q)

pub claims_join : (ps qs : List Piece) → claims_in (ps ++ qs) ≡ claims_in ps ++ claims_in qs
claims_join ps qs = flat_map-append (λ (p : Piece). p.claims.items) ps qs

pub rows_join : (ps qs : List Piece) → rows_in (ps ++ qs) ≡ rows_in ps ++ rows_in qs
rows_join ps qs = filter_map-append (λ (p : Piece). p.row) ps qs

pub faults_join : (ps qs : List Piece) → faults_in (ps ++ qs) ≡ faults_in ps ++ faults_in qs
faults_join ps qs = flat_map-append (λ (p : Piece). p.faults.items) ps qs

-- what stands behind both
pub behind : {A : Type 0} (old ps qs : List A) {mid new all : List A} → mid ≡ old ++ ps → new ≡ mid ++ qs → all ≡ ps ++ qs → new ≡ old ++ all
behind old ps qs first second both = second ∙ ap (λ xs. xs ++ qs) first ∙ append_assoc old ps qs ∙ ap (λ xs. old ++ xs) (sym both)

-- the numbers of one slot more
numbers_more : (l : Layout) (x : SlotBlock) (k : ℕ) (b : Bool) → nat_lt 0 (number_in l x k) ≡ b → numbers_to l x (k + 1) ≡ numbers_to l x k ++ cond b (number_in l x k ∷ []) []
numbers_more l x k b e = filter_of_map_range_with_len_more (λ i. nat_lt 0 i) (number_in l x) 0 k k (omega arith) ∙ ap (λ (b : Bool). numbers_to l x k ++ cond b (number_in l x k ∷ []) []) e

-- a number that has a slot is above 0
has_above : (l : Layout) (i : ℕ) → is_some (slot_of l i) ≡ true → 0 < i
has_above l zero has = absurd (cc)
has_above l (suc i) has = omega arith

-- What one slot more adds: the number of its inode, but for number 0, with a piece, whose row, faults and claims are those of what is found.
pub record AtSlot (R : Region) (l : Layout) (x : SlotBlock) (k : ℕ) (o : Option Piece) : Type 0 where
  pub numbers : List ℕ
  pub more : numbers_to l x (k + 1) ≡ numbers_to l x k ++ numbers
  pub pieces : List Piece
  pub are : ArePiecesOf R l numbers pieces
  pub rows : rows_in pieces ≡ rows_in (cons_option o [])
  pub faults : faults_in pieces ≡ faults_in (cons_option o [])
  pub claims : claims_in pieces ≡ claims_in (cons_option o [])

-- the numbers in all slots of its block are those of a ticket
pub next_all : {E : Type 0} (R : Region) (l : Layout) (t : ℕ) (x : SlotBlock) (old new : Inodes) (claims : ℕ → List (ℕ × Owner)) → slice_get (slot_blocks l) t ≡ Some x → (result : Result ℕ E)
    → IfOk result (λ count. AreNext R l (numbers_to l x x.slots) old new (claims count)) → IfOk result (λ count. AreNext R l (numbers_of l t) old new (claims count))
unfolding numbers_of
next_all R l t x old new claims at (Ok count) next = subst (λ (o : Option SlotBlock). AreNext R l (numbers_by l o) old new (claims count)) (sym at) next
next_all R l t x old new claims at (Err e) next = tt

module _ {R : Region} {l : Layout} where
  -- ---- pieces of some inodes

  pub pieces_none : ArePiecesOf R l [] []
  pieces_none = record { each = tt; order = refl }

  pub pieces_join : {ns ms : List ℕ} {ps qs : List Piece} → ArePiecesOf R l ns ps → ArePiecesOf R l ms qs → ArePiecesOf R l (ns ++ ms) (ps ++ qs)
  pieces_join {ps = ps} {qs = qs} p q = record {
    each = AllByRecursion-append (IsPiece R l) ps qs p.each q.each;
    order = map-append (λ (x : Piece). x.inode) ps qs ∙ (λ i. p.order i ++ q.order i);
  }

  one_piece : {i : ℕ} (p : Piece) → p.inode ≡ i → IsPiece R l p → ArePiecesOf R l (i ∷ []) (p ∷ [])
  one_piece p same is = record { each = (is, tt); order = ap (λ j. j ∷ []) same }

  -- ---- the slots of a ticket, one after another

  pub piece_at_slot : (x : SlotBlock) (k : ℕ) (p : Piece) → 0 < number_in l x k → p.inode ≡ number_in l x k → IsPiece R l p → AtSlot R l x k (Some p)
  piece_at_slot x k p above same is = record {
    numbers = number_in l x k ∷ [];
    more = numbers_more l x k true (grind (arith, nat_tests));
    pieces = p ∷ [];
    are = one_piece p same is;
    rows = refl;
    faults = refl;
    claims = refl;
  }

  pub at_slot : (x : SlotBlock) (k : ℕ) (o : Option Piece) → IsFound R l (number_in l x k) o → AtSlot R l x k o
  at_slot x k (Some p) found = piece_at_slot x k p (has_above l (number_in l x k) found.1) found.0 found.2
  at_slot x k None found = test (nat_lt 0 (number_in l x k)) refl where
    test : (b : Bool) → nat_lt 0 (number_in l x k) ≡ b → AtSlot R l x k None
    test true e = let p = blank_piece R l (number_in l x k) found in record {
      numbers = number_in l x k ∷ [];
      more = numbers_more l x k true e;
      pieces = p.0 ∷ [];
      are = one_piece p.0 p.1 p.2;
      rows = ap (λ (o : Option Row). cons_option o []) p.4;
      faults = append-nil p.0.faults.items ∙ p.5;
      claims = append-nil p.0.claims.items ∙ p.3;
    }
    test false e = record { numbers = []; more = numbers_more l x k false e; pieces = []; are = pieces_none; rows = refl; faults = refl; claims = refl }

  pub next_none : {old : Inodes} {claims : List (ℕ × Owner)} → claims ≡ [] → AreNext R l [] old old claims
  next_none {old} none = record { pieces = []; are = pieces_none; rows = sym (append-nil old.rows.items); faults = sym (append-nil old.faults.items); claims_are = none }

  pub next_slot : {x : SlotBlock} {k : ℕ} {o : Option Piece} {old mid new : Inodes} {claims all : List (ℕ × Owner)} → AtSlot R l x k o → AreNext R l (numbers_to l x k) old mid claims
      → new.rows.items ≡ mid.rows.items ++ rows_in (cons_option o []) → new.faults.items ≡ mid.faults.items ++ faults_in (cons_option o []) → all ≡ claims ++ claims_in (cons_option o [])
      → AreNext R l (numbers_to l x (k + 1)) old new all
  next_slot {o = o} {old = old} {new = new} {all = all} at next rows faults claims = subst (λ (ns : List ℕ). AreNext R l ns old new all) (sym at.more) record {
    pieces = next.pieces ++ at.pieces;
    are = pieces_join next.are at.are;
    rows = behind old.rows.items (rows_in next.pieces) (rows_in (cons_option o [])) next.rows rows
        (rows_join next.pieces at.pieces ∙ ap (λ (rs : List Row). rows_in next.pieces ++ rs) at.rows);
    faults = behind old.faults.items (faults_in next.pieces) (faults_in (cons_option o [])) next.faults faults
        (faults_join next.pieces at.pieces ∙ ap (λ (fs : List Fault). faults_in next.pieces ++ fs) at.faults);
    claims_are = claims ∙ (λ i. next.claims_are i ++ sym at.claims i) ∙ sym (claims_join next.pieces at.pieces);
  }

  -- what they own can be claimed
  pub next_fit : {numbers : List ℕ} {old new : Inodes} {claims : List (ℕ × Owner)} → IsLaid l → AreNext R l numbers old new claims → All (IsClaimable l.sup.blocks) claims
  next_fit laid next = subst (All (IsClaimable l.sup.blocks)) (sym next.claims_are) (each_fits next.pieces next.are.each)
    where
      each_fits : (pieces : List Piece) → AllByRecursion (IsPiece R l) pieces → All (IsClaimable l.sup.blocks) (claims_in pieces)
      each_fits [] each = All-nil (IsClaimable l.sup.blocks)
      each_fits (p ∷ pieces) each = All-append (IsClaimable l.sup.blocks) p.claims.items (claims_in pieces) (claims_fit R l p.inode p.claims.items laid each.0.claims) (each_fits pieces each.1)

  -- and once that is claimed they are done
  pub next_done : {numbers : List ℕ} {old new : Inodes} {claims : List (ℕ × Owner)} {v w : View} → AreNext R l numbers old new claims → Adds claims v w
      → IsDone R l numbers v w old.rows.items new.rows.items old.faults.items new.faults.items
  next_done {v = v} {w = w} next adds = record {
    pieces = next.pieces;
    are = next.are;
    claims = subst (λ (cs : List (ℕ × Owner)). Adds cs v w) next.claims_are adds;
    rows_are = next.rows;
    faults_are = next.faults;
  }

-- ---- the tickets, one after another

among_one : (tickets n : ℕ) (b : Bool) → nat_lt n tickets ≡ b → tickets_among tickets (n ∷ []) ≡ cond b (n ∷ []) []
among_one tickets n true h = rw h refl
among_one tickets n false h = rw h refl

-- one number more
among_more : (tickets : ℕ) (ns : List ℕ) (n : ℕ) (b : Bool) → nat_lt n tickets ≡ b → tickets_among tickets (ns ++ n ∷ []) ≡ tickets_among tickets ns ++ cond b (n ∷ []) []
among_more tickets ns n b h = filter-append (λ (m : ℕ). nat_lt m tickets) ns (n ∷ []) ∙ ap (λ (ms : List ℕ). tickets_among tickets ns ++ ms) (among_one tickets n b h)

-- no work was done
pub work_none : (R : Region) (l : Layout) (v : View) (rows : List Row) (faults : List Fault) → v ≡ nothing 1 → rows ≡ [] → faults ≡ [] → IsWork R l v rows faults
work_none R l v rows faults is no_rows no_faults = rw (is, no_rows, no_faults) record { pieces = []; are = pieces_none; claims = refl; rows_are = refl; faults_are = refl }

-- a number past the end is no work
pub work_past : (R : Region) (l : Layout) (v w : View) (rows : List Row) (faults : List Fault) (n : ℕ) → IsWork R l v rows faults → ticket_count l ≤ n → w ≡ with_number v n → IsWork R l w rows faults
work_past R l v w rows faults n work past is =
    let not_below : nat_lt n (ticket_count l) ≡ false = grind (arith, nat_tests, past) in
    subst (λ (u : View). IsWork R l u rows faults) (sym is) record {
      pieces = work.pieces;
      are = subst (λ (ts : List ℕ). ArePiecesOf R l (numbers_in l ts) work.pieces) (sym (append-nil (tickets_among (ticket_count l) v.numbers)) ∙ sym (among_more (ticket_count l) v.numbers n false not_below)) work.are;
      claims = work.claims;
      rows_are = work.rows_are;
      faults_are = work.faults_are;
    }

-- the work of one ticket more
pub work_more : (R : Region) (l : Layout) (v u w : View) (old new : List Row) (before after : List Fault) (t : ℕ) → IsWork R l v old before → t < ticket_count l → u ≡ with_number v t
    → IsDone R l (numbers_of l t) u w old new before after → IsWork R l w new after
work_more R l v u w old new before after t work low is done =
    let below : nat_lt t (ticket_count l) ≡ true = grind (arith, nat_tests, low) in
    let added = done.claims.2 in
    let numbers : w.numbers ≡ v.numbers ++ t ∷ [] = done.claims.1 ∙ ap (λ (x : View). x.numbers) is in
    let records : w.records ≡ v.records ++ added.0 = added.1 ∙ ap (λ (x : View). x.records ++ added.0) is in
    let tickets : tickets_among (ticket_count l) w.numbers ≡ tickets_among (ticket_count l) v.numbers ++ t ∷ [] = ap (tickets_among (ticket_count l)) numbers ∙ among_more (ticket_count l) v.numbers t true below in
    let inodes : numbers_in l (tickets_among (ticket_count l) w.numbers) ≡ numbers_in l (tickets_among (ticket_count l) v.numbers) ++ numbers_of l t =
    ap (numbers_in l) tickets ∙ flat_map-append (numbers_of l) (tickets_among (ticket_count l) v.numbers) (t ∷ [])
    ∙ ap (λ (ns : List ℕ). numbers_in l (tickets_among (ticket_count l) v.numbers) ++ ns) (append-nil (numbers_of l t)) in
    record {
      pieces = work.pieces ++ done.pieces;
      are = subst (λ (ns : List ℕ). ArePiecesOf R l ns (work.pieces ++ done.pieces)) (sym inodes) (pieces_join work.are done.are);
      claims = ap (map pair_of) records ∙ map-append pair_of v.records added.0 ∙ (λ i. work.claims i ++ added.2 i) ∙ sym (claims_join work.pieces done.pieces);
      rows_are = behind [] (rows_in work.pieces) (rows_in done.pieces) work.rows_are done.rows_are (rows_join work.pieces done.pieces);
      faults_are = behind [] (faults_in work.pieces) (faults_in done.pieces) work.faults_are done.faults_are (faults_join work.pieces done.pieces);
    }

-- what is left to draw gets less with each ticket
pub nearer : (R : Region) (l : Layout) (tickets t : ℕ) (ns : List ℕ) (v u w : View) {old new : List Row} {before after : List Fault} → above v.numbers ≤ t → t < tickets → u ≡ with_number v t
    → IsDone R l ns u w old new before after → tickets - above w.numbers < tickets - above v.numbers
nearer R l tickets t ns v u w low less is done = subst (λ (ns : List ℕ). tickets - above ns < tickets - above v.numbers) (sym done.claims.1) (fewer_left tickets t v u low less is)

-- ---- what is true of each ticket that was drawn

pub each_none : (P : ℕ → Type 0) (tickets : ℕ) (v : View) → v ≡ nothing 1 → All P (tickets_among tickets v.numbers)
each_none P tickets v is = subst (λ (u : View). All P (tickets_among tickets u.numbers)) (sym is) (All-nil P)

pub each_past : (P : ℕ → Type 0) (tickets : ℕ) (v w : View) (n : ℕ) → All P (tickets_among tickets v.numbers) → tickets ≤ n → w ≡ with_number v n → All P (tickets_among tickets w.numbers)
each_past P tickets v w n each past is =
    let not_below : nat_lt n tickets ≡ false = grind (arith, nat_tests, past) in
    let same : tickets_among tickets w.numbers ≡ tickets_among tickets v.numbers =
    ap (λ (u : View). tickets_among tickets u.numbers) is ∙ among_more tickets v.numbers n false not_below ∙ append-nil (tickets_among tickets v.numbers) in
    subst (All P) (sym same) each

pub each_more : (P : ℕ → Type 0) (R : Region) (l : Layout) (v u w : View) (numbers : List ℕ) (t : ℕ) {old new : List Row} {before after : List Fault} → All P (tickets_among (ticket_count l) v.numbers) → P t → t < ticket_count l → u ≡ with_number v t
    → IsDone R l numbers u w old new before after → All P (tickets_among (ticket_count l) w.numbers)
each_more P R l v u w numbers t each one low is done =
    let below : nat_lt t (ticket_count l) ≡ true = grind (arith, nat_tests, low) in
    let same : tickets_among (ticket_count l) w.numbers ≡ tickets_among (ticket_count l) v.numbers ++ t ∷ [] =
    ap (tickets_among (ticket_count l)) (done.claims.1 ∙ ap (λ (x : View). x.numbers) is) ∙ among_more (ticket_count l) v.numbers t true below in
    subst (All P) (sym same) (All-push P (tickets_among (ticket_count l) v.numbers) t each one)

-- ---- works that are brought together

-- The work of two views together.
pub work_joins : (R : Region) (l : Layout) (v u : View) (old new : List Row) (before after : List Fault) → IsWork R l v old before → IsWork R l u new after → IsWork R l (both_views v u) (old ++ new) (before ++ after)
work_joins R l v u old new before after p q = record {
  pieces = p.pieces ++ q.pieces;
  are = subst (λ (ns : List ℕ). ArePiecesOf R l ns (p.pieces ++ q.pieces))
      (sym (ap (numbers_in l) (filter-append (λ n. nat_lt n (ticket_count l)) v.numbers u.numbers) ∙ flat_map-append (numbers_of l) (tickets_among (ticket_count l) v.numbers) (tickets_among (ticket_count l) u.numbers)))
      (pieces_join p.are q.are);
  claims = map-append pair_of v.records u.records ∙ (λ i. p.claims i ++ q.claims i) ∙ sym (claims_join p.pieces q.pieces);
  rows_are = (λ i. p.rows_are i ++ q.rows_are i) ∙ sym (rows_join p.pieces q.pieces);
  faults_are = (λ i. p.faults_are i ++ q.faults_are i) ∙ sym (faults_join p.pieces q.pieces);
}

-- What pieces of all inodes have together.
use Rattle.std.proofs.Common.{◌≡◌, ℕ, ◌+◌, ◌*◌, List, [], ◌∷◌, Some, ap, sym, ◌∙◌, subst}
use Rattle.std.specs.List.{Contains}
use Rattle.nv_region.specs.Region.{Region}
use Rattle.nv_super.specs.declared.owners.Owner.{Owner}
use Rattle.nv_super.specs.declared.owners.Owner.TheVariants as owners
use Rattle.nv_super.specs.Layout.{Layout, slot_of}
use Rattle.nv_super.specs.Order.{owner_key, Rises}
use Rattle.nv_journal.specs.Chains.{IsLaid}
use Rattle.nv_super.proofs.Rising.{Contains-head, Contains-tail, Below, head_least, below_not_self, tail_rises}
use Rattle.nv_super.proofs.Members.{into_flat, from_flat}
use Rattle.nv_scan.specs.Owners.{Owns, by_table, by_log, by_page, teller}
use Rattle.nv_scan.specs.Faults.{Has, IsOnce, IsFaultOf}
use Rattle.nv_scan.specs.Rows.{IsPiece}
use Rattle.nv_scan.specs.Work.{claims_in}
use Rattle.nv_scan.specs.declared.piece.Piece.{Piece}
use Rattle.nv_scan.proofs.Existing.{slot_of_fault}
use Rattle.nv_scan.proofs.ChainBlocks.{first_slot}
use Rattle.nv_scan.proofs.Only.{slot_in_use}
use Rattle.nv_outcome.specs.Parts.{ArePieces, faults_in, piece_key}
use Rattle.nv_outcome.proofs.Counts.{IsOnce-from_rises, IsOnce-append}

-- the inode with which an owner is told has a slot
pub slot_of_owner : {R : Region} {l : Layout} {b : ℕ} (o : Owner) → IsLaid l → Owns R l b o → (a : ℕ) × (slot_of l (teller l o) ≡ Some a)
slot_of_owner {l = l} {b = b} (owners.Table c k) laid (by_table has) = (b * 4096 + 128, first_slot l c k b laid has)
slot_of_owner (owners.Log i k) laid (by_log {a = a} h e) = (a, slot_in_use h)
slot_of_owner (owners.Data i p) laid (by_page {a = a} h e) = (a, slot_in_use h)

module _ {R : Region} {l : Layout} where
  pub owned_claimed : (ps : List Piece) → IsLaid l → ArePieces R l ps → (b : ℕ) (o : Owner) → Owns R l b o → Contains (claims_in ps) (b, o)
  owned_claimed ps laid h b o q =
      let s = slot_of_owner o laid q in let w = h.all (teller l o) s.0 s.1 in
      into_flat (λ (p : Piece). p.claims.items) ps w.0 (b, o) w.1 ((h.each w.0 w.1).claims.all (b, o) (q, sym w.2))

  pub claimed_owned : (ps : List Piece) → ArePieces R l ps → (b : ℕ) (o : Owner) → Contains (claims_in ps) (b, o) → Owns R l b o
  claimed_owned ps h b o c =
      let w = from_flat (λ (p : Piece). p.claims.items) ps (b, o) c in ((h.each w.0 w.1).claims.each (b, o) w.2).0

  -- the claims of pieces of rising inodes are all different
  once_in : (ps : List Piece) → Rises piece_key ps → ((p : Piece) → Contains ps p → IsPiece R l p) → IsOnce (claims_in ps)
  once_in [] r each = tt
  once_in (p ∷ ps) r each =
      IsOnce-append p.claims.items (claims_in ps) (IsOnce-from_rises (λ (x : ℕ × Owner). owner_key x.1) p.claims.items (each p (Contains-head p ps)).claims.rising)
      (once_in ps (tail_rises piece_key p ps r) (λ q c. each q (Contains-tail p ps q c)))
      (λ x c d. (let w = from_flat (λ (q : Piece). q.claims.items) ps x d in
      let mine : teller l x.1 ≡ p.inode = ((each p (Contains-head p ps)).claims.each x c).1 in
      let its : teller l x.1 ≡ w.0.inode = ((each w.0 (Contains-tail p ps w.0 w.1)).claims.each x w.2).1 in
      let less = head_least piece_key p ps r w.0 w.1 in
      let same : piece_key p ≡ piece_key w.0 = ap (λ (n : ℕ). n ∷ []) (sym mine ∙ its) in
      let B : List ℕ → Type 0 = λ k. Below k (piece_key w.0) in
      below_not_self (piece_key w.0) (subst B same less)))

  pub claims_once : (ps : List Piece) → ArePieces R l ps → IsOnce (claims_in ps)
  claims_once ps h = once_in ps h.rising h.each

  pub own_faults : (ps : List Piece) → ArePieces R l ps → Has (λ f. (i : ℕ) × IsFaultOf R l i f) (faults_in ps)
  own_faults ps h = record {
    each = λ f c. (let w = from_flat (λ (p : Piece). p.faults.items) ps f c in (w.0.inode, (h.each w.0 w.1).faults.each f w.2));
    all = λ f q. (let s = slot_of_fault q.1 in let w = h.all q.0 s.0 s.1 in
        into_flat (λ (p : Piece). p.faults.items) ps w.0 f w.1 ((h.each w.0 w.1).faults.all f (let P : ℕ → Type 0 = λ i. IsFaultOf R l i f in subst P (sym w.2) q.1)));
  }

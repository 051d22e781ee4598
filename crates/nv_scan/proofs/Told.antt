-- Inodes of which nothing is to be told, and pieces that tell something.
use Rattle.std.proofs.Common.{◌≡◌, ◌≢◌, ◌⊎◌, ℕ, zero, suc, inl, inr, ◌^◌, ◌<◌, ◌||◌, Bool, true, false, nat_lt, IsSome, [], length, Option, Some, None, refl, ap, sym, ◌∙◌, subst, arith}
use Rattle.std.specs.Option.{MatchOption}
use Rattle.std.specs.Prelude.{is_some}
use Rattle.std.proofs.lemmas.Bool.{cases_lt}
use Rattle.std.proofs.lemmas.Bool.Decides.{nat_tests}
use Rattle.nv_region.specs.Region.{Region, word}
use Rattle.nv_super.specs.declared.kind.Kind.{Kind}
use Rattle.nv_super.specs.declared.owners.Owner.{Owner}
use Rattle.nv_super.specs.declared.faults.Fault.{Fault}
use Rattle.nv_super.specs.declared.faults.Fault.TheVariants as faults
use Rattle.nv_super.specs.Layout.{Layout, slot_of}
use Rattle.nv_super.proofs.Members.{none_in}
use Rattle.nv_inode.specs.Chains.{IsLaid}
use Rattle.nv_inode.specs.Slot.{kind_at}
use Rattle.nv_scan.specs.Inode.{Log, IsInUse}
use Rattle.nv_scan.specs.Owners.{Owns, by_table, by_log, by_page, teller, IsTable, table}
use Rattle.nv_scan.specs.ChainBlocks.{TellsTable}
use Rattle.nv_scan.specs.declared.chain_block.ChainBlock.{ChainBlock}
use Rattle.nv_scan.specs.Faults.{HasOnce, IsFaultOf, i1, i2}
use Rattle.nv_scan.specs.Rows.{IsRow, IsPiece}
use Rattle.nv_scan.specs.Tickets.{IsBlank, is_told}
use Rattle.nv_scan.specs.declared.piece.Row.{Row}
use Rattle.nv_scan.specs.declared.piece.Piece.{Piece}
use Rattle.nv_scan.proofs.Existing.{vec_of, vec_items, slot_of_fault}
use Rattle.nv_scan.proofs.InUse.{has_log}
use Rattle.nv_scan.proofs.Only.{slot_in_use}
use Rattle.nv_scan.proofs.ChainBlocks.{first_tells_none, told_block}
use Rattle.nv_scan.proofs.Pieces.{empty_faults, owns_table, unused}

-- ---- nothing to tell

-- number 0 has no slot
pub blank_first : (R : Region) (l : Layout) → IsLaid l → IsBlank R l 0
blank_first R l laid = (λ u. no_slot u.0 (slot_in_use u.2), λ f h. (let w = slot_of_fault h in no_slot w.0 w.1), λ x h. first_tells_none l x laid h) where
  no_slot : (a : ℕ) → slot_of l 0 ≡ Some a → ⊥
  no_slot a e = cc

-- an owner is that of a block of a chain, or of an inode in use
owner_is : {R : Region} {l : Layout} {b : ℕ} {o : Owner} → Owns R l b o → IsTable l (teller l o) (b, o) ⊎ IsInUse R l (teller l o)
owner_is (by_table has) = inl (table has refl)
owner_is (by_log {a = a} {log = log} is h) = inr (a, log, is)
owner_is (by_page {a = a} {log = log} is h) = inr (a, log, is)

no_faults : length {A = Fault} [] < 2 ^ 63
no_faults = omega arith

-- the piece that tells nothing
abbrev blank : ℕ → Piece
blank i = record { inode = i; row = None; claims = record { items = [] }; faults = vec_of [] no_faults }

-- it is that of such an inode
pub blank_piece : (R : Region) (l : Layout) (i : ℕ) → IsBlank R l i → (p : Piece) × (p.inode ≡ i) × IsPiece R l p × (p.claims.items ≡ []) × (p.row ≡ None) × (p.faults.items ≡ [])
blank_piece R l i none = (
  blank i,
  refl,
  record {
    row = none.0;
    claims = record {
      rising = tt;
      each = λ x c. absurd (none_in x c);
      all = λ x h. absurd (elim (owner_is h.0) [
        | inl w ↦ none.2 x (subst (λ (n : ℕ). IsTable l n x) h.1 w)
        | inr w ↦ none.0 (subst (IsInUse R l) h.1 w)
      ]);
    };
    faults = subst (HasOnce (IsFaultOf R l i)) (sym (vec_items [] no_faults)) record {
      has = record { each = λ f c. absurd (none_in f c); all = λ f h. absurd (none.1 f h) };
      once = tt;
    };
  },
  refl,
  refl,
  vec_items [] no_faults,
)

-- ---- something to tell

told_by_row : (row fault claim : Bool) → row ≡ true → (row || (fault || claim)) ≡ true
told_by_row true fault claim h = refl
told_by_row false fault claim h = cc

told_by_fault : (row fault claim : Bool) → fault ≡ true → (row || (fault || claim)) ≡ true
told_by_fault true fault claim h = refl
told_by_fault false true claim h = refl
told_by_fault false false claim h = cc

told_by_claim : (row fault claim : Bool) → claim ≡ true → (row || (fault || claim)) ≡ true
told_by_claim true fault claim h = refl
told_by_claim false true claim h = refl
told_by_claim false false claim h = h

module _ (R : Region) (l : Layout) (i a : ℕ) (here : slot_of l i ≡ Some a) where
  -- an inode whose valid word is 0, where no block of a chain is told with it
  pub blank_unused : word R a ≡ 0 → ((x : ℕ × Owner) → IsTable l i x → ⊥) → IsBlank R l i
  blank_unused no_word none = (λ u. unused R l i a here no_kind u.2, λ f h. none_in f ((empty_faults R l i a here no_kind None (λ f e. absurd (cc)) (λ big. absurd (omega (arith, no_word, big))) (λ one. absurd (omega (arith, no_word, one)))).has.all f h), none) where
    no_kind : kind_at R a ≡ None
    no_kind = rw no_word refl

  -- any other valid word is told
  word_tells : (p : Piece) → p.inode ≡ i → IsPiece R l p → word R a ≢ 0 → is_told p ≡ true
  word_tells p same is used = by_row p.row refl where
    with_fault : (f : Fault) → IsFaultOf R l i f → nat_lt 0 (length p.faults.items) ≡ true
    with_fault f h = let c = is.faults.has.all f (subst (λ (n : ℕ). IsFaultOf R l n f) (sym same) h) in let less = c.1 in grind (arith, nat_tests)

    by_kind : (o : Option Kind) → kind_at R a ≡ o → (IsInUse R l i → ⊥) → nat_lt 0 (length p.faults.items) ≡ true
    by_kind (Some kind) k unused = let h = has_log R l i a kind here k in absurd (unused (a, h.0, h.2))
    by_kind None k unused = elim (cases_lt 1 (word R a)) [
      | inl big ↦ with_fault (faults.I1 i) (i1 here big)
      | inr low ↦ with_fault (faults.I2 i) (i2 here (omega (arith, low, used)) k)
    ]

    by_row : (o : Option Row) → p.row ≡ o → is_told p ≡ true
    by_row (Some r) e = told_by_row (is_some p.row) (nat_lt 0 (length p.faults.items)) (nat_lt 0 (length p.claims.items)) (ap is_some e)
    by_row None e = told_by_fault (is_some p.row) (nat_lt 0 (length p.faults.items)) (nat_lt 0 (length p.claims.items)) (by_kind (kind_at R a) refl (subst (λ (n : ℕ). IsInUse R l n → ⊥) same
        (subst (λ (o : Option Row). MatchOption o (IsInUse R l p.inode → ⊥) (λ row. (row.inode ≡ p.inode) × (a : ℕ) × (log : Log) × IsRow R l a log row)) e is.row)))

  -- and so is the block of a chain
  table_tells : (p : Piece) → p.inode ≡ i → IsPiece R l p → (told : Option ChainBlock) → TellsTable l i told → IsSome told → is_told p ≡ true
  table_tells p same is told tells some =
      let x = told_block told some in
      let own = owns_table x.0 (tells.each x.0 x.1) in
      let c = is.claims.all x.0 (own.0, own.1 ∙ sym same) in
      let less = c.1 in
      told_by_claim (is_some p.row) (nat_lt 0 (length p.faults.items)) (nat_lt 0 (length p.claims.items)) (grind (arith, nat_tests))

  pub piece_tells : (p : Piece) → p.inode ≡ i → IsPiece R l p → (told : Option ChainBlock) → TellsTable l i told → IsSome told ⊎ (word R a ≢ 0) → is_told p ≡ true
  piece_tells p same is told tells (inl some) = table_tells p same is told tells some
  piece_tells p same is told tells (inr used) = word_tells p same is used

-- nothing is told of number 0, nor of a number whose valid word is 0 and with which no block of a chain is told
pub blank_either : (R : Region) (l : Layout) (i a : ℕ) → IsLaid l → (i ≢ 0 → slot_of l i ≡ Some a) → ((x : ℕ × Owner) → IsTable l i x → ⊥) → (i ≡ 0) ⊎ (word R a ≡ 0) → IsBlank R l i
blank_either R l zero a laid stands none why = blank_first R l laid
blank_either R l (suc i) a laid stands none (inl first) = absurd (omega (arith, first))
blank_either R l (suc i) a laid stands none (inr no_word) = blank_unused R l (suc i) a (stands (omega arith)) no_word none

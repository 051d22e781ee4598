-- The steps of a scan, with what is kept after each.
use Rattle.std.proofs.Common.{◌≡◌, ◌∙◌, ℕ, ◌≢◌, ◌<◌, ◌-◌, ◌^◌, ◌++◌, length, slice_index_or, true, false, List, [], ◌∷◌, ap, refl, sym, subst, append-nil, Option, Some, None, IsSome, ◌↔◌, Result, arith, Ok, Err}
use Rattle.std.specs.Result.{OnOk}
use Rattle.std.specs.Option.{MatchOption}
use Rattle.std.specs.List.{cons_option}
use Rattle.std.proofs.Math.ListN.{set}
use Rattle.std.proofs.Math.Seq.{set-append_seam, get_or-append_seam}
use Rattle.std.proofs.lemmas.Result.{on_ok_weaker}
use Rattle.nv_region.specs.Region.{Region, word}
use Rattle.nv_super.specs.declared.superblock.Super.{Super}
use Rattle.nv_super.specs.declared.kind.Kind.{Kind}
use Rattle.nv_super.specs.declared.faults.Fault.{Fault}
use Rattle.nv_super.specs.declared.faults.Fault.TheVariants as faults
use Rattle.nv_super.specs.Layout.{Layout, HasAreas}
use Rattle.nv_inode.specs.declared.slot.Slot.{Slot}
use Rattle.nv_inode.specs.Slot.{slot_at, kind_of, is_right_log}
use Rattle.nv_logpage.specs.declared.found.LogEnd.{LogEnd}
use Rattle.nv_logpage.specs.declared.found.Placed.{Placed}
use Rattle.nv_radix.specs.Pages.{block_at}
use Rattle.nv_radix.specs.Runs.{block_by}
use Rattle.nv_scan.specs.ClaimList.{ClaimList}
use Rattle.nv_scan.specs.ChainBlocks.{table_claims}
use Rattle.nv_scan.specs.Claims.{AreClaimsBy, AreSmall}
use Rattle.nv_scan.specs.Faults.{HasOnce, IsFaultOf, i1, i2}
use Rattle.nv_scan.specs.Fold.{Holds}
use Rattle.nv_scan.specs.Inode.{Log, IsInUse}
use Rattle.nv_scan.specs.Kept.{IsSlotOf, Keeps, IsPieceBy}
use Rattle.nv_scan.specs.Owners.{AreClaims}
use Rattle.nv_scan.specs.Reading.{IsRead}
use Rattle.nv_scan.specs.Rows.{IsRow, IsPiece}
use Rattle.nv_scan.specs.Scanned.{fault_of_end, IsFilled, IsPieceOf, IsEmptyPiece}
use Rattle.nv_scan.specs.declared.chain_block.ChainBlock.{ChainBlock}
use Rattle.nv_scan.specs.declared.fold.Fold.{Fold}
use Rattle.nv_scan.specs.declared.inodes.Inodes.{Inodes}
use Rattle.nv_scan.specs.declared.piece.Row.{Row}
use Rattle.nv_scan.specs.declared.piece.Piece.{Piece}
use Rattle.nv_scan.proofs.Blocks.{data_pages}
use Rattle.nv_scan.proofs.Existing.{vec_of, vec_items}
use Rattle.nv_scan.proofs.Pieces.{right_piece, wrong_piece, empty_piece}

-- the pages and blocks of a file are small
pub holds_small : (s : Super) (kind : Kind) (i created : ℕ) (entries : List Placed) (f : Fold) → HasAreas s → Holds s kind i created entries f → AreSmall (block_by f.extents)
holds_small s kind i created entries f areas h = λ p b e.
    let d = data_pages s kind entries p b (sym (h.extents p) ∙ e) in
    let most = areas.blocks_to in
    (omega (arith, d.0), omega (arith, d.2, most))

-- ---- the piece of an inode with its number

module _ (R : Region) (s : Super) (l : Layout) (i : ℕ) (told : Option ChainBlock) (slot : Slot) (is_slot : IsSlotOf R s l i told slot) where
  pub right_one : (kind : Kind) (fold : Fold) (pages : List ℕ) (end : Option LogEnd) (fault : Option Fault) → kind_of slot ≡ Some kind → is_right_log s slot.head slot.tail ≡ true → IsRead R s i kind slot fold pages end
      → fault ≡ fault_of_end i end → (p : Piece) → IsPieceOf i told kind slot pages fold fault p → IsPieceBy R l i p
  right_one kind fold pages end fault is_kind is_right r by p of = (
    of.inode,
    right_piece R l i is_slot.at told kind slot fold pages end p is_slot.tells is_slot.stands is_slot.words is_kind (subst (λ (x : Super). is_right_log x slot.head slot.tail ≡ true) (sym is_slot.sup) is_right)
        (subst (λ (x : Super). IsRead R x i kind slot fold pages end) (sym is_slot.sup) r) (subst (λ (f : Option Fault). IsPieceOf i told kind slot pages fold f p) by of),
  )

  pub wrong_one : (kind : Kind) (fold : Fold) → kind_of slot ≡ Some kind → is_right_log s slot.head slot.tail ≡ false → Holds s kind i slot.created [] fold
      → (p : Piece) → IsPieceOf i told kind slot [] fold (Some (faults.I3 i)) p → IsPieceBy R l i p
  wrong_one kind fold is_kind is_wrong h p of = (
    of.inode,
    wrong_piece R l i is_slot.at told kind slot fold p is_slot.tells is_slot.stands is_slot.words is_kind (subst (λ (x : Super). is_right_log x slot.head slot.tail ≡ false) (sym is_slot.sup) is_wrong)
        (subst (λ (x : Super). Holds x kind i slot.created [] fold) (sym is_slot.sup) h) of,
  )

  no_kind : kind_of slot ≡ None → kind_of (slot_at R is_slot.at) ≡ None
  no_kind none = subst (λ (t : Slot). kind_of t ≡ None) is_slot.words none

  valid_is : slot.valid ≡ word R is_slot.at
  valid_is = ap (λ (t : Slot). t.valid) is_slot.words

  -- a slot that was never used
  pub unused_one : kind_of slot ≡ None → slot.valid ≡ 0 → (p : Piece) → IsEmptyPiece i told None p → IsPieceBy R l i p
  unused_one none zero_word p e =
      let word_is = valid_is in
      (e.inode, empty_piece R l i is_slot.at is_slot.stands (no_kind none) told None p is_slot.tells (λ f e. absurd (cc)) (λ big. absurd (omega (arith, big, zero_word, word_is))) (λ one. absurd (omega (arith, one, zero_word, word_is))) e)

  -- a slot whose valid word is neither 0 nor 1
  pub bad_valid_one : kind_of slot ≡ None → slot.valid ≢ 0 → slot.valid ≢ 1 → (p : Piece) → IsEmptyPiece i told (Some (faults.I1 i)) p → IsPieceBy R l i p
  bad_valid_one none not_zero not_one p e =
      let word_is = valid_is in (
        e.inode,
        empty_piece R l i is_slot.at is_slot.stands (no_kind none) told (Some (faults.I1 i)) p is_slot.tells
            (λ f e. (let same : faults.I1 i ≡ f = cc in subst (IsFaultOf R l i) same (i1 is_slot.stands (omega (arith, not_zero, not_one, word_is)))))
            (λ big. refl) (λ one. absurd (not_one (word_is ∙ one))) e,
      )

  -- a valid slot of no kind
  pub bad_kind_one : kind_of slot ≡ None → slot.valid ≡ 1 → (p : Piece) → IsEmptyPiece i told (Some (faults.I2 i)) p → IsPieceBy R l i p
  bad_kind_one none valid p e =
      let word_is = valid_is in (
        e.inode,
        empty_piece R l i is_slot.at is_slot.stands (no_kind none) told (Some (faults.I2 i)) p is_slot.tells
            (λ f e. (let same : faults.I2 i ≡ f = cc in subst (IsFaultOf R l i) same (i2 is_slot.stands (sym word_is ∙ valid) (no_kind none))))
            (λ big. absurd (omega (arith, big, valid, word_is))) (λ one. refl) e,
      )

-- ---- what is kept of it

-- what holds of a piece that is kept
pub keeps_more : {E : Type 0} {P Q : Piece → Type 0} (old new : Inodes) (claims : ClaimList) (result : Result (Unit {0}) E) → ((p : Piece) → P p → Q p) → OnOk result (Keeps P old new claims) → OnOk result (Keeps Q old new claims)
keeps_more old new claims result more kept = on_ok_weaker result (λ k. record { piece = k.piece; is = more k.piece k.is; rows = k.rows; faults = k.faults; claims_are = k.claims_are }) kept

-- the last row, once it was put behind the others
pub last_row : (pushed rows : List Row) (row at : Row) {n : ℕ} → pushed ≡ rows ++ row ∷ [] → n ≡ length rows → at ≡ slice_index_or pushed n at → at ≡ row
last_row pushed rows row at is end value = value ∙ (λ i. slice_index_or (is i) (end i) at) ∙ get_or-append_seam rows row [] at

-- and with another in its place
pub last_set : (pushed rows : List Row) (row new : Row) {n : ℕ} → pushed ≡ rows ++ row ∷ [] → n ≡ length rows → set pushed n new ≡ rows ++ new ∷ []
last_set pushed rows row new is end = (λ i. set (is i) (end i) new) ∙ set-append_seam rows row [] new

-- what a row that was filled is
pub filled : {E : Type 0} (told : Option ChainBlock) (pages : List ℕ) (blocks : ℕ → Option ℕ) (old new : Row) (claims : ClaimList) (result : Result (Unit {0}) E)
    → (new.inode ≡ old.inode) × (new.kind ≡ old.kind) × (new.numbers ≡ old.numbers) × (new.head ≡ old.head) × (new.tail ≡ old.tail) × (new.names ≡ old.names) → new.pages.items ≡ pages
    → OnOk result ((p : ℕ) → block_at new.index p ≡ blocks p) → OnOk result (AreClaimsBy told new.inode pages new.index claims.items) → OnOk result (IsFilled told pages blocks old new claims)
filled told pages blocks old new claims (Ok done) same pages_are index claims_are = record { same = same; pages_are = pages_are; index = index; claims_are = claims_are }
filled told pages blocks old new claims (Err e) same pages_are index claims_are = tt

-- fewer than can be told
one_fault : (o : Option Fault) → length (cons_option o []) < 2 ^ 63
one_fault None = omega arith
one_fault (Some f) = omega arith

-- the piece of an inode that isn't in use
abbrev fault_piece : ℕ → Option Fault → ClaimList → Piece
fault_piece i fault claims = record { inode = i; row = None; claims = claims; faults = vec_of (cons_option fault []) (one_fault fault) }

-- its fault is kept
pub keeps_fault : (i : ℕ) (told : Option ChainBlock) (fault : Option Fault) (old new : Inodes) (claims : ClaimList) → claims.items ≡ table_claims told → new.rows.items ≡ old.rows.items → new.faults.items ≡ old.faults.items ++ cons_option fault []
    → Keeps (IsEmptyPiece i told fault) old new claims
keeps_fault i told fault old new claims none rows faults = record {
  piece = fault_piece i fault claims;
  is = record { inode = refl; row = refl; claims = none; faults = vec_items (cons_option fault []) (one_fault fault) };
  rows = rows ∙ sym (append-nil old.rows.items);
  faults = faults ∙ ap (λ (fs : List Fault). old.faults.items ++ fs) (sym (vec_items (cons_option fault []) (one_fault fault)));
  claims_are = refl;
}

-- two pieces that tell the same are of the same inode
pub same_piece : {R : Region} {l : Layout} (p q : Piece) → p.inode ≡ q.inode → p.row ≡ q.row → p.claims ≡ q.claims → p.faults.items ≡ q.faults.items → IsPiece R l p → IsPiece R l q
same_piece {R} {l} p q inode row claims faults is = record {
  row = subst (λ (x : ℕ × Option Row). MatchOption x.1 (IsInUse R l x.0 → ⊥) (λ r. (r.inode ≡ x.0) × (a : ℕ) × (log : Log) × IsRow R l a log r)) (λ i. (inode i, row i)) is.row;
  claims = subst (λ (x : ℕ × ClaimList). AreClaims R l x.0 x.1.items) (λ i. (inode i, claims i)) is.claims;
  faults = subst (λ (x : ℕ × List Fault). HasOnce (IsFaultOf R l x.0) x.1) (λ i. (inode i, faults i)) is.faults;
}

-- the one row that there may be is the last
pub last_only : (row popped : Option Row) (rows : List Row) → rows ≡ cons_option row [] → (IsSome popped ↔ (0 < length rows)) → ((d : Row) → 0 < length rows → popped ≡ Some (slice_index_or rows (length rows - 1) d)) → row ≡ popped
last_only None None rows is some value = refl
last_only None (Some other) rows is some value = let none = ap length is in absurd (let more = some.0 refl in omega (arith, none, more))
last_only (Some row) popped rows is some value =
    let one : length rows ≡ 1 = ap length is in sym (value row (omega (arith, one)) ∙ (λ i. Some (slice_index_or (is i) (one i - 1) row)))

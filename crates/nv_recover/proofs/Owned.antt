-- The blocks that are owned, and the claims of those with two owners or more.
use Rattle.std.proofs.Common.{◌≡◌, ℕ, ◌*◌, ◌<◌, List, [], ◌∷◌, length, get_or, arith}
use Rattle.std.specs.List.{All, AllByRecursion, Contains}
use Rattle.std.specs.List.Sorted.{IsPermutation}
use Rattle.std.proofs.lemmas.List.Elements.{All-nil, All-append, All-contains_itself}
use Rattle.std.proofs.lemmas.List.Sorted.{Contains-permutation, IsPermutation-refl, IsPermutation-sym, IsPermutation-trans}
use Rattle.nv_blockset.specs.BlockSet.{has}
use Rattle.nv_region.specs.Region.{Region}
use Rattle.nv_super.specs.declared.superblock.Super.{Super}
use Rattle.nv_super.specs.declared.owners.Owner.{Owner}
use Rattle.nv_super.specs.Layout.{Layout}
use Rattle.nv_super.specs.Order.{claim_key}
use Rattle.nv_super.proofs.Rising.{Lists-same}
use Rattle.nv_inode.specs.Chains.{IsLaid}
use Rattle.nv_claimmap.specs.declared.map.Claimed.{Claimed}
use Rattle.nv_scan.specs.Owners.{AreAllClaims}
use Rattle.nv_scan.specs.Rows.{IsPiece}
use Rattle.nv_scan.specs.Work.{claims_in}
use Rattle.nv_scan.specs.declared.piece.Piece.{Piece}
use Rattle.nv_scan.specs.declared.piece.Row.{Row}
use Rattle.nv_scan.proofs.Owned.{owned_block}
use Rattle.nv_scan.proofs.Runs.{claims_fit}
use Rattle.nv_cross_check.specs.Doubled.{AreDoubled}
use Rattle.nv_outcome.specs.Outcome.{AreRows}
use Rattle.nv_outcome.specs.Parts.{AreMaps, ArePieces, rows_in}
use Rattle.nv_outcome.proofs.Pieces.{claimed_owned, owned_claimed as owned_claimed_by}
use Rattle.nv_outcome.proofs.RowsOf.{rows_are}
use Rattle.nv_recover.specs.declared.scanned.Owned.{Owned}
use Rattle.nv_recover.specs.Scanned.{AreWithin, AreClaimed, AreOwned, AreSetsOf, Cover}

-- pieces claim blocks of the region
pub pieces_within : (R : Region) (l : Layout) (pieces : List Piece) → IsLaid l → AllByRecursion (IsPiece R l) pieces → AreWithin l.sup (claims_in pieces)
pieces_within R l [] laid each = All-nil (λ (x : ℕ × Owner). x.0 < l.sup.blocks)
pieces_within R l (p ∷ ps) laid (here, each) =
    All-append (λ (x : ℕ × Owner). x.0 < l.sup.blocks) p.claims.items (claims_in ps) (λ k d less. (claims_fit R l p.inode p.claims.items laid here.claims k d less).0) (pieces_within R l ps laid each)

module _ {R : Region} {l : Layout} {pieces : List Piece} {rows : List Row} {first second : List ℕ} where
  -- the sets of the same rows
  pub sets_same : {same : List Row} {covers : List ℕ} → same ≡ rows → covers ≡ second → AreSetsOf R l pieces rows first second → AreSetsOf R l pieces same first covers
  sets_same one two are = rw (one, two) are

  module _ (laid : IsLaid l) (are : AreSetsOf R l pieces rows first second) where
    -- what is claimed lies within the region
    claimed_within : (x : ℕ × Owner) → Contains (claims_in pieces) x → x.0 < l.sup.blocks
    claimed_within x c = (owned_block R l x.0 x.1 laid ((are.all x.0 x.1).0 c)).1

    -- the second set has a bit for each claim's block
    pub second_covers : (claims : List (ℕ × Owner)) → AreAllClaims R l claims → All (λ (x : ℕ × Owner). x.0 < 64 * length second) claims
    second_covers claims all = λ k d less. (
        let x = get_or claims k d in
        let owned = (all x.0 x.1).0 (All-contains_itself claims k d less) in
        let within = (owned_block R l x.0 x.1 laid owned).1 in
        let cover = are.cover.1 in
        omega (arith, within, cover))

    -- no claim is doubled where the second set has no block
    pub none_doubled : ((b : ℕ) → b < l.sup.blocks → has second b ≡ 0) → AreDoubled (claims_in pieces) second []
    none_doubled clear = record {
      rising = tt;
      each = λ x c. absurd (omega (arith, c.1));
      all = λ x h. absurd (let none = clear x.0 (claimed_within x h.0) in let two = h.1 in omega (arith, none, two));
    }

    -- the doubled of all that is owned are those of the pieces' claims
    pub doubled_same : (claims found : List (ℕ × Owner)) → AreAllClaims R l claims → AreDoubled claims second found → AreDoubled (claims_in pieces) second found
    doubled_same claims found all is = Lists-same claim_key (λ (x : ℕ × Owner). Contains claims x × (has second x.0 ≡ 1)) (λ x. Contains (claims_in pieces) x × (has second x.0 ≡ 1)) found
        (λ x h. ((are.all x.0 x.1).1 ((all x.0 x.1).0 h.0), h.1)) (λ x h. ((all x.0 x.1).1 ((are.all x.0 x.1).0 h.0), h.1)) is

  -- the first set and these claims are what the pieces own
  pub owned_by_sets : (o : Owned) → AreSetsOf R l pieces rows first second → o.blocks.items ≡ first → AreDoubled (claims_in pieces) second o.doubled.items → AreOwned l.sup pieces o
  owned_by_sets o are same doubled = record {
    claims = claims_in pieces;
    second = second;
    claimed = IsPermutation-refl (claims_in pieces);
    maps = rw same are.maps;
    cover = rw same are.cover.0;
    doubled = doubled;
  }

-- pieces of all inodes, and rows and claims in another order
pub sets_of : (R : Region) (l : Layout) (sorted drawn : List Piece) (rows : List Row) (first second : List ℕ) → IsLaid l → ArePieces R l sorted → IsPermutation (rows_in sorted) rows → IsPermutation (claims_in sorted) (claims_in drawn)
    → AreMaps (claims_in drawn) first second → Cover l.sup first second → AreSetsOf R l drawn rows first second
sets_of R l sorted drawn rows first second laid are moved claims maps cover = record {
  all = λ b o. (
    (λ c. claimed_owned sorted are b o (Contains-permutation (claims_in drawn) (claims_in sorted) (b, o) (IsPermutation-sym (claims_in sorted) (claims_in drawn) claims) c)),
    (λ h. Contains-permutation (claims_in sorted) (claims_in drawn) (b, o) claims (owned_claimed_by sorted laid are b o h)),
  );
  rows_are = record {
    each = λ row c. of.each row (Contains-permutation rows (rows_in sorted) row (IsPermutation-sym (rows_in sorted) rows moved) c);
    all = λ i u. (let w = of.all i u in (w.0, Contains-permutation (rows_in sorted) rows w.0 moved w.1, w.2));
  };
  maps = maps;
  cover = cover;
} where
  of : AreRows R l (rows_in sorted)
  of = rows_are sorted are

-- the same pieces in another order own the same
pub owned_moved : (s : Super) (ps qs : List Piece) (o : Owned) → IsPermutation (claims_in ps) (claims_in qs) → AreOwned s qs o → AreOwned s ps o
owned_moved s ps qs o moved are = record {
  claims = are.claims;
  second = are.second;
  claimed = IsPermutation-trans (claims_in ps) (claims_in qs) are.claims moved are.claimed;
  maps = are.maps;
  cover = are.cover;
  doubled = are.doubled;
}

-- what workers claimed is owned
pub owned_claimed : (s : Super) (pieces : List Piece) (c : Claimed) (o : Owned) → AreClaimed s pieces c → o.blocks ≡ c.first → AreDoubled c.claims.items c.second.items o.doubled.items → AreOwned s pieces o
owned_claimed s pieces c o are same doubled = record {
  claims = c.claims.items;
  second = c.second.items;
  claimed = are.claimed;
  maps = rw same are.maps;
  cover = rw same are.cover.0;
  doubled = doubled;
}

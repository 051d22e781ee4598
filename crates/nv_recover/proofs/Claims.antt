-- The claims of all inodes.
use Rattle.std.proofs.Common.{◌≡◌, ℕ, ◌+◌, ◌-◌, ◌<◌, ◌*◌, ◌==◌, cond, min, List, [], ◌∷◌, length, get_or, refl, ap, sym, ◌∙◌, subst, arith}
use Rattle.std.specs.Prelude.{Vec}
use Rattle.std.specs.declared.alloc.Global.{Global}
use Rattle.std.specs.List.{All, Contains}
use Rattle.std.specs.List.Sorted.{IsPermutation}
use Rattle.std.proofs.lemmas.List.Sums.{sum_by-cons, sum_by-append}
use Rattle.std.proofs.lemmas.List.Elements.{All-contains_itself}
use Rattle.std.proofs.lemmas.List.Sorted.{Contains-permutation, IsPermutation-sym}
use Rattle.nv_region.specs.Region.{Region}
use Rattle.nv_super.specs.declared.superblock.Super.{Super}
use Rattle.nv_super.specs.declared.owners.Owner.{Owner}
use Rattle.nv_super.specs.Layout.{Layout}
use Rattle.nv_super.specs.Owners.{claims_of}
use Rattle.nv_inode.specs.Chains.{IsLaid}
use Rattle.nv_claimcore.specs.Finished.{works_of}
use Rattle.nv_claimcore.specs.Replay.{Inside, lists}
use Rattle.nv_claimmap.specs.declared.map.Claimed.{Claimed}
use Rattle.nv_scan.specs.Work.{claims_in}
use Rattle.nv_scan.specs.declared.piece.Piece.{Piece}
use Rattle.nv_scan.proofs.Owned.{owned_block}
use Rattle.nv_outcome.specs.Parts.{ArePieces, AreMaps}
use Rattle.nv_super.proofs.Members.{from_map, into_flat}
use Rattle.nv_outcome.proofs.Pieces.{claimed_owned}
use Rattle.nv_recover.specs.Scanned.{AreWithin, AreClaimed, AreClaimedSets, all_claims}

module _ {R : Region} (l : Layout) (pieces : List Piece) (laid : IsLaid l) (scanned : ArePieces R l pieces) where
  pub claims_within : (claims : List (ℕ × Owner)) → IsPermutation (claims_in pieces) claims → AreWithin l.sup claims
  claims_within claims moved k d less =
      let x = get_or claims k d in
      let c = Contains-permutation claims (claims_in pieces) x (IsPermutation-sym (claims_in pieces) claims moved) (All-contains_itself claims k d less) in
      (owned_block R l x.0 x.1 laid (claimed_owned pieces scanned x.0 x.1 c)).1

  -- lists of them are work within the region
  pub work_inside : (work : List (Vec (ℕ × Owner) Global)) → IsPermutation (claims_in pieces) (all_claims work) → Inside l.sup.blocks (lists work)
  work_inside work moved k d less i e below =
      let list = get_or (lists work) k d in
      let x = get_or list i e in
      let w = from_map (λ (v : Vec (ℕ × Owner) Global). v.items) work list (All-contains_itself (lists work) k d less) in
      let c = into_flat (λ (v : Vec (ℕ × Owner) Global). v.items) work w.0 x w.1 (subst (λ (xs : List (ℕ × Owner)). Contains xs x) w.2 (All-contains_itself list i e below)) in
      (owned_block R l x.0 x.1 laid (claimed_owned pieces scanned x.0 x.1 (Contains-permutation (all_claims work) (claims_in pieces) x (IsPermutation-sym (claims_in pieces) (all_claims work) moved) c))).1

-- the second set has a bit for each claim's block
pub claims_covered : {R : Region} (l : Layout) (pieces : List Piece) (c : Claimed) {claims : List (ℕ × Owner)} {second : List ℕ} → IsLaid l → ArePieces R l pieces → AreClaimed l.sup pieces c → claims ≡ c.claims.items → second ≡ c.second.items
    → All (λ (x : ℕ × Owner). x.0 < 64 * length second) claims
claims_covered l pieces c laid scanned claimed same covers = rw (same, covers) (λ k d less. (let within = claims_within l pieces laid scanned c.claims.items claimed.claimed k d less in let cover = claimed.cover.1 in omega (arith, within, cover)))

-- a block stands in the lists of a work as often as in all of them together
works_joined : (work : List (Vec (ℕ × Owner) Global)) (b : ℕ) → works_of b (lists work) ≡ claims_of b (all_claims work)
works_joined [] b = refl
works_joined (v ∷ work) b =
    sum_by-cons (claims_of b) v.items (lists work) ∙ ap (λ (n : ℕ). claims_of b v.items + n) (works_joined work b) ∙ sym (sum_by-append (λ (x : ℕ × Owner). cond (x.0 == b) 1 0) v.items (all_claims work))

-- the claims of a work, with the sets that its workers leave
pub claimed_by_sets : (s : Super) (pieces : List Piece) (work : List (Vec (ℕ × Owner) Global)) (c : Claimed) → IsPermutation (claims_in pieces) (all_claims work) → c.claims.items ≡ all_claims work → AreClaimedSets s (lists work) c.first.items c.second.items → AreClaimed s pieces c
claimed_by_sets s pieces work c moved joined sets = record {
  claimed = subst (IsPermutation (claims_in pieces)) (sym joined) moved;
  maps = subst (λ (claims : List (ℕ × Owner)). AreMaps claims c.first.items c.second.items) (sym joined) record {
    once = λ b. sets.once b ∙ ap (min 1) (works_joined work b);
    twice = λ b. sets.twice b ∙ ap (λ (n : ℕ). min 1 (n - 1)) (works_joined work b);
  };
  cover = sets.cover;
}

-- Two file indexes with one list of extents map the same, and two name indexes of which each has the other's names are the same.
use Rattle.std.proofs.Common.{◌≡◌, inl, inr, ℕ, ◌+◌, ◌-◌, ◌<◌, ◌≤◌, List, length, get_or, map, refl, ap, sym, ◌∙◌, subst, arith, Option, Some, None, IsSome, slice_get}
use Rattle.std.specs.List.{Contains}
use Rattle.std.proofs.lemmas.List.Elements.{All-contains}
use Rattle.nv_radix.specs.declared.extent.Extent.{Extent}
use Rattle.nv_radix.specs.Pages.{Pages, block_at}
use Rattle.nv_radix.specs.Extents.{AreExtents, IsMapped}
use Rattle.nv_radix.proofs.OnlyExtents.{AreExtents-only}
use Rattle.nv_names.specs.Names.{HasNames, Names, line_of, name_at}
use Rattle.nv_names.specs.declared.named.Named.{Named}
use Rattle.std.proofs.lemmas.Bool.{cases_lt}
use Rattle.std.proofs.lemmas.Option.{get_or_from_slice_get, slice_get-get_or}
use Rattle.nv_super.proofs.Members.{from_map, into_map}

-- ---- file indexes

-- a page that one maps, the other maps to the same block
mapped_too : (m n : Pages) (xs : List Extent) → AreExtents m xs → AreExtents n xs → (p b : ℕ) → block_at m p ≡ Some b → block_at n p ≡ Some b
mapped_too m n xs first second p b here =
    let w = first.whole p (subst (λ (o : Option ℕ). IsSome o) (sym here) refl) in
    let x = w.0 in
    let from : x.page ≤ p = w.2.0 in
    let below : p < x.page + x.count = w.2.1 in
    let at : x.page + (p - x.page) ≡ p = omega (arith, from) in
    let inside : p - x.page < x.count = omega (arith, from, below) in
    let one : block_at m p ≡ Some (x.block + (p - x.page)) = ap (block_at m) (sym at) ∙ All-contains (IsMapped m) xs x first.mapped w.1 (p - x.page) inside in
    let other : block_at n p ≡ Some (x.block + (p - x.page)) = ap (block_at n) (sym at) ∙ All-contains (IsMapped n) xs x second.mapped w.1 (p - x.page) inside in
    other ∙ sym one ∙ here

same_options : (a b : Option ℕ) → ((x : ℕ) → a ≡ Some x → b ≡ Some x) → ((x : ℕ) → b ≡ Some x → a ≡ Some x) → a ≡ b
same_options None None f g = refl
same_options None (Some x) f g = g x refl
same_options (Some x) b f g = sym (f x refl)

pub same_extents : (m n : Pages) (xs ys : List Extent) → AreExtents m xs → AreExtents n ys → xs ≡ ys → (p : ℕ) → block_at m p ≡ block_at n p
same_extents m n xs ys first second same p =
    let other : AreExtents n xs = subst (AreExtents n) (sym same) second in
    same_options (block_at m p) (block_at n p) (λ b. mapped_too m n xs first other p b) (λ b. mapped_too n m xs other first p b)

moved : (m n : Pages) (xs : List Extent) → ((p : ℕ) → block_at m p ≡ block_at n p) → AreExtents m xs → AreExtents n xs
moved m n xs same are = record {
  some = are.some;
  mapped = λ k d below j lt. sym (same _) ∙ are.mapped k d below j lt;
  whole = λ p is. are.whole p (subst (λ (o : Option ℕ). IsSome o) (sym (same p)) is);
  apart = are.apart;
}

pub extents_differ : (m n : Pages) (xs ys : List Extent) → AreExtents m xs → AreExtents n ys → ((p : ℕ) → block_at m p ≡ block_at n p) → xs ≡ ys
extents_differ m n xs ys first second same = AreExtents-only n xs ys (moved m n xs same first) second

-- ---- name indexes

-- the second index has the name of this line of a listing of the first, with the same inode and place
abbrev pub IsFound : Names → List Named → ℕ → Type 0
IsFound index listed j = (n : Named) → slice_get listed j ≡ Some n → name_at index n.name.now ≡ Some (n.inode, n.place)

-- a line of a listing
pub named_line : (of : Names) (listed : List Named) → HasNames of (map line_of listed) → (n : Named) → Contains listed n → name_at of n.name.now ≡ Some (n.inode, n.place)
named_line of listed is n c = All-contains (λ (e : List ℕ × ℕ × ℕ). name_at of e.0 ≡ Some (e.1, e.2)) (map line_of listed) (line_of n) is.each (into_map line_of listed n c)

pub all_found : (of index : Names) (listed : List Named) → HasNames of (map line_of listed) → ((j : ℕ) → j < length listed → IsFound index listed j) → (q : List ℕ) (x : ℕ × ℕ) → name_at of q ≡ Some x → name_at index q ≡ Some x
all_found of index listed is found q x there =
    let c = is.all q (subst (λ (o : Option (ℕ × ℕ)). IsSome o) (sym there) refl) in
    let w = from_map (λ (e : List ℕ × ℕ × ℕ). e.0) (map line_of listed) q c in
    let v = from_map line_of listed w.0 w.1 in
    let n = v.0 in
    let name : n.name.now ≡ q = sym (w.2 ∙ ap (λ (e : List ℕ × ℕ × ℕ). e.0) v.2) in
    let target : name_at of n.name.now ≡ Some (n.inode, n.place) = named_line of listed is n v.1 in
    let at : slice_get listed v.1.0 ≡ Some n = slice_get-get_or listed v.1.0 n v.1.1 ∙ ap Some v.1.2 in
    ap (name_at index) (sym name) ∙ found v.1.0 v.1.1 n at ∙ sym target ∙ ap (name_at of) name ∙ there

pub not_found : (of index : Names) (listed : List Named) (n : Named) → HasNames of (map line_of listed) → Contains listed n → (name_at index n.name.now ≡ Some (n.inode, n.place) → ⊥) → ((q : List ℕ) → name_at of q ≡ name_at index q) → ⊥
not_found of index listed n is c none same = none (sym (same n.name.now) ∙ named_line of listed is n c)

pub one_more_found : (index : Names) (listed : List Named) (k : ℕ) (n : Named) → ((j : ℕ) → j < k → IsFound index listed j) → n ≡ get_or listed k n → name_at index n.name.now ≡ Some (n.inode, n.place) → (j : ℕ) → j < k + 1 → IsFound index listed j
one_more_found index listed k n found is at j below m there = elim (cases_lt j k) [
  | inl before ↦ found j before m there
  | inr last ↦ (
      let here : j ≡ k = omega (arith, below, last) in
      let same : m ≡ n = sym (get_or_from_slice_get listed j m n there) ∙ ap (λ (q : ℕ). get_or listed q n) here ∙ sym is in
      subst (λ (x : Named). name_at index x.name.now ≡ Some (x.inode, x.place)) (sym same) at)
]

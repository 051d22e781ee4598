-- What the calls of a table make of its buckets and of the list beside it.
use Rattle.std.proofs.Common.{◌≡◌, ℕ, not, nat_eq, zero, suc, List, [], ◌∷◌, ◌++◌, ◌+◌, ◌-◌, length, take, slice_get, map, Some, None, sym, ap, subst, ◌∙◌, arith}
use Rattle.std.specs.List.{IsDistinct, filter}
use Rattle.std.specs.Cmp.Lexicographic.{pointwise}
use Rattle.std.proofs.lemmas.List.{map-append}
use Rattle.std.proofs.lemmas.Option.{slice_get_within, none-some}
use Rattle.nv_names.specs.declared.target.Target.{Target}
use Rattle.nv_names.specs.Names.{inode_and_place}
use Rattle.nv_names.specs.Table.{fresh_line, PutsAt, FindSame, AreBeside}
use Rattle.nv_names.proofs.Entries.{fresh-removed}
use Rattle.nv_names.proofs.Beside.{PutsAt-twice, PutsAt-both, PutsAt-pushed, AreBeside-removed, AreBeside-pushed, found_here, moved}

-- no name is beside the bucket
pub none_beside : (bucket : List (List ℕ × ℕ × ℕ)) (fs : List (List ℕ × Target)) → fs ≡ [] → AreBeside bucket (map fresh_line fs)
unfolding IsDistinct
none_beside bucket fs none = subst (λ gs. AreBeside bucket (map fresh_line gs)) (sym none) (record { once = tt; apart = λ q some. absurd (cc) })

-- The name is taken out of the bucket and of the list.
pub record Gone (a b : List (List ℕ × ℕ × ℕ)) (fs fn : List (List ℕ × Target)) (name : List ℕ) : Type 0 where
  pub bucket : PutsAt a b name None
  pub fresh : PutsAt (map fresh_line fs) (map fresh_line fn) name None
  pub beside : AreBeside b (map fresh_line fn)

pub gone : (a b : List (List ℕ × ℕ × ℕ)) (fs fn : List (List ℕ × Target)) (name : List ℕ) → AreBeside a (map fresh_line fs)
    → PutsAt a b name None → fn ≡ filter (λ e. not (pointwise nat_eq e.0 name)) fs → Gone a b fs fn name
gone a b fs fn name beside bucket filtered = record {
  bucket = bucket;
  fresh = rw filtered (fresh-removed fs name);
  beside = rw filtered (AreBeside-removed a b fs name beside bucket (fresh-removed fs name));
}

-- a name is taken out
pub puts_none : (a b : List (List ℕ × ℕ × ℕ)) (fs fn : List (List ℕ × Target)) (name : List ℕ) → Gone a b fs fn name
    → PutsAt (a ++ map fresh_line fs) (b ++ map fresh_line fn) name None
puts_none a b fs fn name g = PutsAt-both a b (map fresh_line fs) (map fresh_line fn) name None g.bucket g.fresh

-- a name that was taken out is put at the end of the list
pub beside_added : (a b : List (List ℕ × ℕ × ℕ)) (fs fn fa : List (List ℕ × Target)) (name n : List ℕ) (t : Target) → Gone a b fs fn name → n ≡ name → fa ≡ fn ++ (n, t) ∷ []
    → AreBeside b (map fresh_line fa)
beside_added a b fs fn fa name n t g is made =
    rw (made, map-append fresh_line fn ((n, t) ∷ []), is)
    (AreBeside-pushed b (map fresh_line fn) (name, t.inode, t.place) g.beside (found_here _ _ name None g.bucket) (found_here _ _ name None g.fresh))

-- which gives it its meaning
pub puts_added : (a b : List (List ℕ × ℕ × ℕ)) (fs fn fa : List (List ℕ × Target)) (name n : List ℕ) (t : Target) → Gone a b fs fn name → n ≡ name → fa ≡ fn ++ (n, t) ∷ []
    → PutsAt (a ++ map fresh_line fs) (b ++ map fresh_line fa) name (Some (inode_and_place t))
puts_added a b fs fn fa name n t g is made =
    rw (made, map-append fresh_line fn ((n, t) ∷ []), is)
    (PutsAt-twice (a ++ map fresh_line fs) (b ++ map fresh_line fn) (b ++ (map fresh_line fn ++ (name, t.inode, t.place) ∷ [])) name None (Some (inode_and_place t))
    (puts_none a b fs fn name g)
    (PutsAt-pushed b (map fresh_line fn) (name, t.inode, t.place) (found_here _ _ name None (puts_none a b fs fn name g))))

-- a list is what stands before its last element, and that one
pub front_last : {X : Type 0} (xs : List X) (k : ℕ) (e : X) → length xs ≡ k + 1 → slice_get xs k ≡ Some e → xs ≡ take k xs ++ e ∷ []
front_last [] k e len at = absurd (none-some _ at)
front_last (x ∷ []) zero e len at = let it : x ≡ e = cc in ap (λ y. y ∷ []) it
front_last (x ∷ y ∷ ys) zero e len at = absurd (omega (arith, len))
front_last (x ∷ xs) (suc k) e len at = ap (λ ys. x ∷ ys) (front_last xs k e (omega (arith, len)) at)

-- the last name of the list is put into the bucket
pub last_settled : (a b : List (List ℕ × ℕ × ℕ)) (fs gs : List (List ℕ × Target)) (e : List ℕ × Target) → slice_get fs (length fs - 1) ≡ Some e → gs ≡ take (length fs - 1) fs → AreBeside a (map fresh_line fs)
    → PutsAt a b e.0 (Some (inode_and_place e.1)) → AreBeside b (map fresh_line gs) × FindSame (a ++ map fresh_line fs) (b ++ map fresh_line gs)
last_settled a b fs gs e last rest beside puts =
    let both = moved a b (map fresh_line (take (length fs - 1) fs)) (e.0, e.1.inode, e.1.place) (subst (AreBeside a) lines beside) puts in (
      subst (λ hs. AreBeside b (map fresh_line hs)) (sym rest) both.0,
      subst (λ hs. FindSame (a ++ map fresh_line fs) (b ++ map fresh_line hs)) (sym rest) (subst (λ ls. FindSame (a ++ ls) (b ++ map fresh_line (take (length fs - 1) fs))) (sym lines) both.1),
    )
  where
    lines : map fresh_line fs ≡ map fresh_line (take (length fs - 1) fs) ++ (e.0, e.1.inode, e.1.place) ∷ []
    lines = ap (map fresh_line) (front_last fs (length fs - 1) e (let within = slice_get_within fs (length fs - 1) e last in omega (arith, within)) last)
        ∙ map-append fresh_line (take (length fs - 1) fs) (e ∷ [])

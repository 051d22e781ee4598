-- The owners of blocks, found by the rows.
use Rattle.std.proofs.Common.{◌≡◌, ◌⊎◌, inl, inr, ◌==◌, ℕ, ◌<◌, Bool, true, false, cond, List, [], ◌∷◌, map, length, Option, Some, slice_get, refl, sym, ◌∙◌, subst, eqb-true}
use Rattle.std.specs.List.{Contains}
use Rattle.std.proofs.lemmas.Option.{slice_get_within}
use Rattle.nv_region.specs.Region.{Region}
use Rattle.nv_super.specs.declared.owners.Owner.{Owner}
use Rattle.nv_super.specs.declared.owners.Owner.TheVariants as owners
use Rattle.nv_super.specs.Layout.{Layout, chain_of}
use Rattle.nv_super.proofs.Rising.{Contains-head, Contains-tail}
use Rattle.nv_radix.specs.Pages.{Pages, block_at}
use Rattle.nv_scan.specs.Inode.{Log, IsInode}
use Rattle.nv_scan.specs.Owners.{Owns, by_table, teller, IsTable, table}
use Rattle.nv_scan.specs.Claims.{IsClaim, of_log, of_page}
use Rattle.nv_scan.specs.declared.piece.Row.{Row}
use Rattle.nv_scan.proofs.ChainBlocks.{chain_within}
use Rattle.nv_scan.proofs.Only.{owned_table, owned_log, owned_page}
use Rattle.nv_scan.proofs.Pieces.{owned, owns}
use Rattle.nv_outcome.specs.Outcome.{AreRows}
use Rattle.nv_outcome.proofs.CrossLaw.{stands}
use Rattle.nv_outcome.proofs.Finite.{Decided, told_as, number_is, Finite, only, elements, value_of, numbers, by_name, either, over, those, some}

-- the pages of an index
abbrev pages_of : Pages → List ℕ
pages_of m = map (λ (x : ℕ × Option ℕ). x.0) m

page_listed : (m : Pages) (p b : ℕ) → block_at m p ≡ Some b → Contains (pages_of m) p
page_listed [] p b h = absurd (cc)
page_listed (x ∷ m) p b h = test (x.0 == p) refl (page_listed m p b) h where
  test : (t : Bool) → (x.0 == p) ≡ t → (block_at m p ≡ Some b → Contains (pages_of m) p) → cond t x.1 (block_at m p) ≡ Some b → Contains (x.0 ∷ pages_of m) p
  test true e rest h = subst (Contains (x.0 ∷ pages_of m)) (eqb-true x.0 p e) (Contains-head x.0 (pages_of m))
  test false e rest h = Contains-tail x.0 (pages_of m) p (rest h)

-- the claims of one inode
claims : (i : ℕ) (pages : List ℕ) (m : Pages) → Finite (IsClaim i pages m)
claims i pages m = by_name there back (either logs files) where
  OfLog : ℕ × Owner → Type 0
  OfLog x = (k : ℕ) × (k < length pages) × ((b : ℕ) × (slice_get pages k ≡ Some b) × (x ≡ (b, owners.Log i k)))

  OfPage : ℕ × Owner → Type 0
  OfPage x = (p : ℕ) × Contains (pages_of m) p × ((b : ℕ) × (block_at m p ≡ Some b) × (x ≡ (b, owners.Data i p)))

  logs : Finite OfLog
  logs = over (numbers (length pages)) (λ k. over (value_of (slice_get pages k)) (λ b. only (b, owners.Log i k)))

  files : Finite OfPage
  files = over (elements (pages_of m)) (λ p. over (value_of (block_at m p)) (λ b. only (b, owners.Data i p)))

  there : (x : ℕ × Owner) → OfLog x ⊎ OfPage x → IsClaim i pages m x
  there x (inl w) = subst (IsClaim i pages m) (sym w.2.2) (of_log w.0 w.2.0 w.2.1)
  there x (inr w) = subst (IsClaim i pages m) (sym w.2.2) (of_page w.0 w.2.0 w.2.1)

  back : (x : ℕ × Owner) → IsClaim i pages m x → OfLog x ⊎ OfPage x
  back _ (of_log k b h) = inl (k, slice_get_within pages k b h, (b, h, refl))
  back _ (of_page p b h) = inr (p, page_listed m p b h, (b, h, refl))

-- the blocks of all chains
abbrev OfTable : Layout → ℕ × Owner → Type 0
OfTable l x = (c : ℕ) × (c < length l.chains) × ((k : ℕ) × (k < length (chain_of l c)) × ((b : ℕ) × (slice_get (chain_of l c) k ≡ Some b) × (x ≡ (b, owners.Table c k))))

tables : (l : Layout) → Finite (OfTable l)
tables l = over (numbers (length l.chains)) (λ c. over (numbers (length (chain_of l c))) (λ k. over (value_of (slice_get (chain_of l c) k)) (λ b. only (b, owners.Table c k))))

of_chain : (l : Layout) (c k b : ℕ) → slice_get (chain_of l c) k ≡ Some b → OfTable l (b, owners.Table c k)
of_chain l c k b has = (c, chain_within l c k b has, (k, slice_get_within (chain_of l c) k b has, (b, has, refl)))

of_table : {l : Layout} {i : ℕ} {x : ℕ × Owner} → IsTable l i x → OfTable l x
of_table {l = l} (table {c = c} {k = k} {b = b} has number) = of_chain l c k b has

module _ {R : Region} {l : Layout} {rows : List Row} (are : AreRows R l rows) where
  -- all owners, each with its block
  pub claimed : Finite (λ (x : ℕ × Owner). Owns R l x.0 x.1)
  claimed = by_name there back (either (tables l) (over (elements rows) (λ (r : Row). claims r.inode r.pages.items r.index))) where
    Claimed : ℕ × Owner → Type 0
    Claimed x = (r : Row) × Contains rows r × IsClaim r.inode r.pages.items r.index x

    there : (x : ℕ × Owner) → OfTable l x ⊎ Claimed x → Owns R l x.0 x.1
    there x (inl w) = let P : ℕ × Owner → Type 0 = λ y. Owns R l y.0 y.1 in subst P (sym w.2.2.2) (by_table w.2.2.1)
    there x (inr w) = let q = are.each w.0 w.1 in (owns q.2.inode w.0.pages.items w.0.index q.2.pages q.2.index x w.2).0

    of_row : (i a : ℕ) (log : Log) (b : ℕ) (o : Owner) → IsInode R l i a log → teller l o ≡ i → Owns R l b o → OfTable l (b, o) ⊎ Claimed (b, o)
    of_row i a log b o is told h =
        let s = stands are i a log is in
        elim (owned s.is.inode s.row.pages.items s.row.index s.is.pages s.is.index b o h (told ∙ sym s.inode)) [ inl w ↦ inl (of_table w) | inr w ↦ inr (s.row, s.here, w) ]

    back : (x : ℕ × Owner) → Owns R l x.0 x.1 → OfTable l x ⊎ Claimed x
    back (b, owners.Table c k) h = inl (of_chain l c k b (owned_table h))
    back (b, owners.Log i k) h = let w = owned_log h in of_row i w.a w.log b (owners.Log i k) w.is refl h
    back (b, owners.Data i p) h = let w = owned_page h in of_row i w.a w.log b (owners.Data i p) w.is refl h

  -- a block has an owner or none
  pub owned_or_not : (b : ℕ) → Decided ((o : Owner) × Owns R l b o)
  owned_or_not b = told_as
      (λ w. (w.0.1, subst (λ (c : ℕ). Owns R l c w.0.1) w.1.1 w.1.0))
      (λ h. ((b, h.0), (h.1, refl)))
      (some (those (λ (x : ℕ × Owner). x.0 ≡ b) claimed (λ x. number_is x.0 b)))

-- What was read so far of a log without some of its pages, at the head and after one entry more, and in all.
use Rattle.std.proofs.Common.{◌≡◌, ◌/◌, ℕ, zero, suc, ◌+◌, ◌<◌, ◌≤◌, Bool, true, false, not, ◌||◌, List, [], ◌∷◌, ◌++◌, append-nil, length, get_or, drop, take, refl, ap, sym, ◌∙◌, subst, arith, cond, Option}
use Rattle.std.specs.List.{list_any, remove}
use Rattle.std.proofs.Math.Dec.{eqb}
use Rattle.std.proofs.Math.Seq.{drop-cons}
use Rattle.std.proofs.lemmas.List.Edits.{length-remove}
use Rattle.std.proofs.lemmas.List.Elements.{filter-append}
use Rattle.nv_region.specs.Region.{Region}
use Rattle.nv_super.specs.declared.superblock.Super.{Super}
use Rattle.nv_logpage.specs.declared.found.LogEnd.{LogEnd}
use Rattle.nv_logpage.specs.declared.found.Placed.{Placed}
use Rattle.nv_logpage.specs.declared.found.Finding.{Finding}
use Rattle.nv_logpage.specs.declared.found.Finding.TheVariants.{Entry, End}
use Rattle.nv_logpage.specs.Reads.{Reads}
use Rattle.nv_logpage.specs.Progress.{Progress, Leads, Continues}
use Rattle.nv_logpage.specs.Unlinked.{without_page}
use Rattle.nv_deadpages.specs.InTurn.{IsReadSoFarWithoutPages, IsReadWithoutPages, without_pages}
use Rattle.nv_scan.specs.Fold.{Holds, Takes}
use Rattle.nv_scan.specs.declared.fold.Fold.{Fold}
use Rattle.nv_scan.specs.declared.piece.Row.{Row}
use Rattle.nv_deadpages.proofs.InTurn.{without_places}
use Rattle.nv_scan.proofs.Steps.{Holds-more}

one_more : (out : List ℕ) (x : Placed) (b : Bool) → list_any (eqb (x.at / 4096)) out ≡ b → without_pages out (x ∷ []) ≡ cond b [] (x ∷ [])
one_more out x true h = rw h refl
one_more out x false h = rw h refl

pub without_more : (out : List ℕ) (es : List Placed) (x : Placed) → list_any (eqb (x.at / 4096)) out ≡ false → without_pages out (es ++ x ∷ []) ≡ without_pages out es ++ x ∷ []
without_more out es x other = filter-append (λ (y : Placed). not (list_any (eqb (y.at / 4096)) out)) es (x ∷ []) ∙ ap (λ (ys : List Placed). without_pages out es ++ ys) (one_more out x false other)

pub without_less : (out : List ℕ) (es : List Placed) (x : Placed) → list_any (eqb (x.at / 4096)) out ≡ true → without_pages out (es ++ x ∷ []) ≡ without_pages out es
without_less out es x same = filter-append (λ (y : Placed). not (list_any (eqb (y.at / 4096)) out)) es (x ∷ []) ∙ ap (λ (ys : List Placed). without_pages out es ++ ys) (one_more out x true same) ∙ append-nil (without_pages out es)

module _ (R : Region) (row : Row) (created : ℕ) (out : List ℕ) (s : Super) (r r' : Progress) where
  -- after an entry that stands in another page, which is taken
  pub pages_more : (old new : Fold) (found : Finding) (x : Placed) → IsReadSoFarWithoutPages R row created out r old → ((h : ℕ) (es : List Placed) → Leads R h r es → Continues R h r' es found) → found ≡ Entry x
      → r.sup ≡ s → r'.sup ≡ s → list_any (eqb (x.at / 4096)) out ≡ false → Takes s row.kind row.inode x old new → IsReadSoFarWithoutPages R row created out r' new
  pages_more old new found x so_far goes is p q other t = record {
    entries = so_far.entries ++ x ∷ [];
    leads = subst (λ (f : Finding). Continues R row.head r' so_far.entries f) is (goes row.head so_far.entries so_far.leads);
    holds = subst (λ (n : Super). Holds n row.kind row.inode created (without_pages out (so_far.entries ++ x ∷ [])) new) (sym q)
        (subst (λ (es : List Placed). Holds s row.kind row.inode created es new) (sym (without_more out so_far.entries x other))
        (Holds-more (subst (λ (n : Super). Holds n row.kind row.inode created (without_pages out so_far.entries) old) p so_far.holds) t));
  }

  -- and after one that stands in one of these, which is left out
  pub pages_less : (fold : Fold) (found : Finding) (x : Placed) → IsReadSoFarWithoutPages R row created out r fold → ((h : ℕ) (es : List Placed) → Leads R h r es → Continues R h r' es found) → found ≡ Entry x
      → r.sup ≡ s → r'.sup ≡ s → list_any (eqb (x.at / 4096)) out ≡ true → IsReadSoFarWithoutPages R row created out r' fold
  pages_less fold found x so_far goes is p q same = record {
    entries = so_far.entries ++ x ∷ [];
    leads = subst (λ (f : Finding). Continues R row.head r' so_far.entries f) is (goes row.head so_far.entries so_far.leads);
    holds = subst (λ (n : Super). Holds n row.kind row.inode created (without_pages out (so_far.entries ++ x ∷ [])) fold) (p ∙ sym q)
        (subst (λ (es : List Placed). Holds r.sup row.kind row.inode created es fold) (sym (without_less out so_far.entries x same)) so_far.holds);
  }

  -- the whole log, once its end is found
  pub pages_whole : (fold : Fold) (found : Finding) (fault : Option LogEnd) → IsReadSoFarWithoutPages R row created out r fold → ((h : ℕ) (es : List Placed) → Leads R h r es → Continues R h r' es found) → found ≡ End fault
      → r.sup ≡ s → r'.sup ≡ s → r'.tail ≡ row.tail → IsReadWithoutPages R s row created out fold r'.pages fault
  pages_whole fold found fault so_far goes is p q t = record {
    entries = so_far.entries;
    reads = subst (λ (z : Super × ℕ). Reads R z.0 row.head z.1 so_far.entries r'.pages fault) (λ k. (q k, t k))
        (subst (λ (f : Finding). Continues R row.head r' so_far.entries f) is (goes row.head so_far.entries so_far.leads));
    holds = subst (λ (n : Super). Holds n row.kind row.inode created (without_pages out so_far.entries) fold) p so_far.holds;
  }

-- ---- pages that follow one another

-- without a page, and then without others
without_both : (b : ℕ) (out : List ℕ) (es : List Placed) → without_pages (b ∷ out) es ≡ without_pages out (without_page b es)
without_both b out [] = refl
without_both b out (x ∷ xs) = by (eqb (x.at / 4096) b) (list_any (eqb (x.at / 4096)) out) refl (without_both b out xs) where
  by : (here later : Bool) → list_any (eqb (x.at / 4096)) out ≡ later → without_pages (b ∷ out) xs ≡ without_pages out (without_page b xs)
      → cond (not (here || later)) (x ∷ without_pages (b ∷ out) xs) (without_pages (b ∷ out) xs) ≡ without_pages out (cond (not here) (x ∷ without_page b xs) (without_page b xs))
  by true later is rest = rest
  by false true is rest = rw is rest
  by false false is rest = rw is (ap (λ (ys : List Placed). x ∷ ys) rest)

drop_removed : (xs : List ℕ) (k : ℕ) → k < length xs → drop k (remove xs k) ≡ drop (suc k) xs
drop_removed [] k below = absurd (omega (arith, below))
drop_removed (x ∷ xs) zero below = refl
drop_removed (x ∷ xs) (suc k) below = drop_removed xs k (omega (arith, below))

none_left : (es : List Placed) → without_pages [] es ≡ es
none_left [] = refl
none_left (x ∷ xs) = ap (λ (ys : List Placed). x ∷ ys) (none_left xs)

pub without_run : (k n : ℕ) (pages : List ℕ) (es : List Placed) → k + n ≤ length pages → without_pages (take n (drop k pages)) es ≡ without_places k n pages es
without_run k zero pages es fits = none_left es
without_run k (suc n) pages es fits =
    let below : k < length pages = omega (arith, fits) in
    let long : length (remove pages k) + 1 ≡ length pages = length-remove pages k below in
    ap (λ (bs : List ℕ). without_pages (take (suc n) bs) es) (drop-cons pages k 0 below)
    ∙ without_both (get_or pages k 0) (take n (drop (suc k) pages)) es
    ∙ ap (λ (bs : List ℕ). without_pages (take n bs) (without_page (get_or pages k 0) es)) (sym (drop_removed pages k below))
    ∙ without_run k n (remove pages k) (without_page (get_or pages k 0) es) (omega (arith, fits, long))

-- What was read so far of a log without a page, at the head and after one entry more, and in all.
use Rattle.std.proofs.Common.{◌≡◌, ◌≢◌, ◌/◌, ℕ, List, [], ◌∷◌, ◌++◌, append-nil, refl, ap, sym, ◌∙◌, subst, not, Option}
use Rattle.std.proofs.lemmas.Bool.{ne_eqb}
use Rattle.std.proofs.lemmas.List.Elements.{filter-append}
use Rattle.std.proofs.Math.Dec.{eqb}
use Rattle.nv_region.specs.Region.{Region}
use Rattle.nv_super.specs.declared.superblock.Super.{Super}
use Rattle.nv_logpage.specs.declared.found.LogEnd.{LogEnd}
use Rattle.nv_logpage.specs.declared.found.Placed.{Placed}
use Rattle.nv_logpage.specs.declared.found.Finding.{Finding}
use Rattle.nv_logpage.specs.declared.found.Finding.TheVariants.{Entry, End}
use Rattle.nv_logpage.specs.Reads.{Reads}
use Rattle.nv_logpage.specs.Progress.{Progress, at_head, Leads, Continues}
use Rattle.nv_logpage.specs.Unlinked.{without_page}
use Rattle.nv_logpage.proofs.Longer.{eqb_yes}
use Rattle.nv_logpage.proofs.Progress.{leads_start}
use Rattle.nv_deadpages.specs.ReadingWithout.{IsReadSoFarWithout, IsReadWithout}
use Rattle.nv_scan.specs.Fold.{Holds, Takes}
use Rattle.nv_scan.specs.declared.fold.Fold.{Fold}
use Rattle.nv_scan.specs.declared.piece.Row.{Row}
use Rattle.nv_scan.proofs.Steps.{Holds-more}

pub without_one : (b : ℕ) (es : List Placed) (x : Placed) → x.at / 4096 ≢ b → without_page b (es ++ x ∷ []) ≡ without_page b es ++ x ∷ []
without_one b es x other = filter-append (λ (y : Placed). not (eqb (y.at / 4096) b)) es (x ∷ []) ∙ ap (λ (ys : List Placed). without_page b es ++ ys) (rw (ne_eqb (x.at / 4096) b other) refl)

pub without_none : (b : ℕ) (es : List Placed) (x : Placed) → x.at / 4096 ≡ b → without_page b (es ++ x ∷ []) ≡ without_page b es
without_none b es x same = filter-append (λ (y : Placed). not (eqb (y.at / 4096) b)) es (x ∷ []) ∙ ap (λ (ys : List Placed). without_page b es ++ ys) (rw (eqb_yes (x.at / 4096) b same) refl) ∙ append-nil (without_page b es)

pub read_none : (R : Region) (s : Super) (row : Row) (created page : ℕ) (fold : Fold) → Holds s row.kind row.inode created [] fold → IsReadSoFarWithout R row created page (at_head s row.head row.tail) fold
read_none R s row created page fold h = record { entries = []; leads = leads_start R s row.head row.tail; holds = h }

-- after an entry that stands in another page, which is taken
pub read_more : (R : Region) (row : Row) (created page : ℕ) (s : Super) (r r' : Progress) (old new : Fold) (found : Finding) (x : Placed)
    → IsReadSoFarWithout R row created page r old → ((h : ℕ) (es : List Placed) → Leads R h r es → Continues R h r' es found) → found ≡ Entry x
    → r.sup ≡ s → r'.sup ≡ s → x.at / 4096 ≢ page → Takes s row.kind row.inode x old new → IsReadSoFarWithout R row created page r' new
read_more R row created page s r r' old new found x so_far goes is p q other t = record {
  entries = so_far.entries ++ x ∷ [];
  leads = subst (λ (f : Finding). Continues R row.head r' so_far.entries f) is (goes row.head so_far.entries so_far.leads);
  holds = subst (λ (n : Super). Holds n row.kind row.inode created (without_page page (so_far.entries ++ x ∷ [])) new) (sym q)
      (subst (λ (es : List Placed). Holds s row.kind row.inode created es new) (sym (without_one page so_far.entries x other))
      (Holds-more (subst (λ (n : Super). Holds n row.kind row.inode created (without_page page so_far.entries) old) p so_far.holds) t));
}

-- and after one that stands in the page, which is left out
pub read_less : (R : Region) (row : Row) (created page : ℕ) (s : Super) (r r' : Progress) (fold : Fold) (found : Finding) (x : Placed)
    → IsReadSoFarWithout R row created page r fold → ((h : ℕ) (es : List Placed) → Leads R h r es → Continues R h r' es found) → found ≡ Entry x
    → r.sup ≡ s → r'.sup ≡ s → x.at / 4096 ≡ page → IsReadSoFarWithout R row created page r' fold
read_less R row created page s r r' fold found x so_far goes is p q same = record {
  entries = so_far.entries ++ x ∷ [];
  leads = subst (λ (f : Finding). Continues R row.head r' so_far.entries f) is (goes row.head so_far.entries so_far.leads);
  holds = subst (λ (n : Super). Holds n row.kind row.inode created (without_page page (so_far.entries ++ x ∷ [])) fold) (p ∙ sym q)
      (subst (λ (es : List Placed). Holds r.sup row.kind row.inode created es fold) (sym (without_none page so_far.entries x same)) so_far.holds);
}

-- the whole log, once its end is found
pub read_whole : (R : Region) (s : Super) (row : Row) (created page : ℕ) (r r' : Progress) (fold : Fold) (found : Finding) (fault : Option LogEnd)
    → IsReadSoFarWithout R row created page r fold → ((h : ℕ) (es : List Placed) → Leads R h r es → Continues R h r' es found) → found ≡ End fault
    → r.sup ≡ s → r'.sup ≡ s → r'.tail ≡ row.tail → IsReadWithout R s row created page fold r'.pages fault
read_whole R s row created page r r' fold found fault so_far goes is p q t = record {
  entries = so_far.entries;
  reads = subst (λ (z : Super × ℕ). Reads R z.0 row.head z.1 so_far.entries r'.pages fault) (λ k. (q k, t k))
      (subst (λ (f : Finding). Continues R row.head r' so_far.entries f) is (goes row.head so_far.entries so_far.leads));
  holds = subst (λ (n : Super). Holds n row.kind row.inode created (without_page page so_far.entries) fold) p so_far.holds;
}

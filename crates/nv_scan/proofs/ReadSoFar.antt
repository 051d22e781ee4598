-- What was read so far, at the head and after one entry more, and in all.
use Rattle.std.proofs.Common.{◌≡◌, ℕ, List, [], ◌∷◌, ◌++◌, refl, sym, subst, Option}
use Rattle.nv_region.specs.Region.{Region}
use Rattle.nv_super.specs.declared.superblock.Super.{Super}
use Rattle.nv_super.specs.declared.kind.Kind.{Kind}
use Rattle.nv_inode.specs.declared.slot.Slot.{Slot}
use Rattle.nv_entry.specs.declared.entry.WriteEntry.{WriteEntry}
use Rattle.nv_entry.specs.declared.entry.Entry.TheVariants.{Write}
use Rattle.nv_logpage.specs.declared.found.LogEnd.{LogEnd}
use Rattle.nv_logpage.specs.declared.found.Placed.{Placed}
use Rattle.nv_logpage.specs.declared.found.Finding.{Finding}
use Rattle.nv_logpage.specs.declared.found.Finding.TheVariants.{Entry, End}
use Rattle.nv_logpage.specs.Reads.{Reads, found_write, placed}
use Rattle.nv_logpage.specs.Progress.{Progress, at_head, Leads, Continues}
use Rattle.nv_logpage.proofs.Progress.{leads_start}
use Rattle.nv_scan.specs.Fold.{Holds, Takes}
use Rattle.nv_scan.specs.Reading.{IsRead, IsReadSoFar}
use Rattle.nv_scan.specs.declared.fold.Fold.{Fold}
use Rattle.nv_scan.proofs.Steps.{Holds-more}

pub read_none : (R : Region) (s : Super) (head tail : ℕ) (kind : Kind) (i created : ℕ) (fold : Fold) → Holds s kind i created [] fold → IsReadSoFar R head kind i created (at_head s head tail) fold
read_none R s head tail kind i created fold h = record { entries = []; leads = leads_start R s head tail; holds = h }

pub read_more : (R : Region) (head : ℕ) (s : Super) (kind : Kind) (i created : ℕ) (r r' : Progress) (old new : Fold) (found : Finding) (x : Placed)
    → IsReadSoFar R head kind i created r old → ((h : ℕ) (es : List Placed) → Leads R h r es → Continues R h r' es found) → found ≡ Entry x
    → r.sup ≡ s → r'.sup ≡ s → Takes s kind i x old new → IsReadSoFar R head kind i created r' new
read_more R head s kind i created r r' old new found x so_far goes is p q t = record {
  entries = so_far.entries ++ x ∷ [];
  leads = subst (λ (f : Finding). Continues R head r' so_far.entries f) is (goes head so_far.entries so_far.leads);
  holds = subst (λ (n : Super). Holds n kind i created (so_far.entries ++ x ∷ []) new) (sym q) (Holds-more (subst (λ (n : Super). Holds n kind i created so_far.entries old) p so_far.holds) t);
}

-- and after one write entry more
pub read_write : (R : Region) (head : ℕ) (s : Super) (kind : Kind) (i created : ℕ) (r r' : Progress) (old new : Fold) (e : WriteEntry)
    → IsReadSoFar R head kind i created r old → ((h : ℕ) (es : List Placed) → Leads R h r es → Continues R h r' es (found_write r.place e))
    → r.sup ≡ s → r'.sup ≡ s → Takes s kind i (placed r.place (Write e)) old new → IsReadSoFar R head kind i created r' new
read_write R head s kind i created r r' old new e so_far goes p q t = read_more R head s kind i created r r' old new (found_write r.place e) (placed r.place (Write e)) so_far goes refl p q t

-- the whole log, once its end is found
pub read_whole : (R : Region) (s : Super) (kind : Kind) (i : ℕ) (slot : Slot) (r r' : Progress) (fold : Fold) (found : Finding) (fault : Option LogEnd)
    → IsReadSoFar R slot.head kind i slot.created r fold → ((h : ℕ) (es : List Placed) → Leads R h r es → Continues R h r' es found) → found ≡ End fault
    → r.sup ≡ s → r'.sup ≡ s → r'.tail ≡ slot.tail → IsRead R s i kind slot fold r'.pages fault
read_whole R s kind i slot r r' fold found fault so_far goes is p q t = record {
  entries = so_far.entries;
  reads = subst (λ (z : Super × ℕ). Reads R z.0 slot.head z.1 so_far.entries r'.pages fault) (λ k. (q k, t k))
      (subst (λ (f : Finding). Continues R slot.head r' so_far.entries f) is (goes slot.head so_far.entries so_far.leads));
  holds = subst (λ (n : Super). Holds n kind i slot.created so_far.entries fold) p so_far.holds;
}

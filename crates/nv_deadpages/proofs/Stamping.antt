-- What stamps tell, after one entry more and in all.
use Rattle.std.proofs.Common.{◌≡◌, ℕ, ◌+◌, ◌-◌, ◌*◌, ◌/◌, Bool, true, false, ◌||◌, cond, nat_le, List, [], ◌∷◌, ◌++◌, refl, ap, sym, ◌∙◌, subst, arith, Option, Some, None, MatchBool}
use Rattle.std.specs.Option.{option_map}
use Rattle.std.proofs.lemmas.Bool.Decides.{nat_tests}
use Rattle.nv_region.specs.Region.{Region}
use Rattle.nv_super.specs.declared.superblock.Super.{Super}
use Rattle.nv_super.specs.declared.kind.Kind.{Kind}
use Rattle.nv_entry.specs.declared.entry.WriteEntry.{WriteEntry}
use Rattle.nv_entry.specs.declared.entry.AttrEntry.{AttrEntry}
use Rattle.nv_entry.specs.declared.entry.Entry.TheVariants as entries
use Rattle.nv_entry.specs.Content.{is_good}
use Rattle.nv_logpage.specs.declared.found.LogEnd.{LogEnd}
use Rattle.nv_logpage.specs.declared.found.Placed.{Placed}
use Rattle.nv_logpage.specs.declared.found.Finding.{Finding}
use Rattle.nv_logpage.specs.declared.found.Finding.TheVariants as finds
use Rattle.nv_logpage.specs.Reads.{Reads, placed}
use Rattle.nv_logpage.specs.Progress.{Progress, Leads, Continues, at_head}
use Rattle.nv_logpage.proofs.Progress.{leads_start}
use Rattle.nv_radix.specs.Pages.{in_run}
use Rattle.nv_radix.specs.Runs.{Runs, block_by}
use Rattle.nv_scan.specs.Fold.{word_after}
use Rattle.nv_deadpages.specs.Stamps.{page_saying, said_last_in, AreStamps, Stamped, Stamps, AreStampsOf, AreStampsSoFar}
use Rattle.nv_scan.specs.declared.piece.Row.{Row}
use Rattle.nv_scan.proofs.Words.{word-more}

-- ---- one entry

by_said : (run cut test good : Bool) (page v b : ℕ) (Old : Type 0) (last : Option ℕ) → cut ≡ test → good ≡ true → MatchBool (run || cut) (v / 262144 ≡ page) Old → (Old → last ≡ Some (v / 262144))
    → word_after good (option_map (λ (o : Option ℕ). Some page) (cond run (Some (Some b)) (cond test (Some None) None))) last ≡ Some (v / 262144)
by_said true cut test good page v b Old last same is h before = rw is (ap Some (sym h))
by_said false true test good page v b Old last same is h before = rw (is, ← same) (ap Some (sym h))
by_said false false test good page v b Old last same is h before = rw (is, ← same) (before h)

pub stamps_write : (s : Super) (kind : Kind) (at page past : ℕ) (e : WriteEntry) (old new : Runs) → at / 4096 ≡ page → is_good s kind (entries.Write e) ≡ true → ((p : ℕ) → nat_le past p ≡ nat_le e.size (p * 4096))
    → Stamped page past e.offset e.count old new → Stamps s kind (placed at (entries.Write e)) old new
stamps_write s kind at page past e old new here good tests h p v last is before =
    by_said (in_run e.offset e.count p) (nat_le past p) (nat_le e.size (p * 4096)) (is_good s kind (entries.Write e)) (at / 4096) v (e.block + (p - e.offset)) (block_by old p ≡ Some v) last (tests p) good
    (subst (λ (n : ℕ). MatchBool (in_run e.offset e.count p || nat_le past p) (v / 262144 ≡ n) (block_by old p ≡ Some v)) (sym here) (h p v is)) before

no_run : (p : ℕ) → in_run 0 0 p ≡ false
no_run p = grind (arith, nat_tests)

pub stamps_cut : (s : Super) (kind : Kind) (at page past : ℕ) (e : AttrEntry) (old new : Runs) → at / 4096 ≡ page → is_good s kind (entries.Attr e) ≡ true → ((p : ℕ) → nat_le past p ≡ nat_le e.size (p * 4096))
    → Stamped page past 0 0 old new → Stamps s kind (placed at (entries.Attr e)) old new
stamps_cut s kind at page past e old new here good tests h p v last is before =
    by_said false (nat_le past p) (nat_le e.size (p * 4096)) (is_good s kind (entries.Attr e)) (at / 4096) v 0 (block_by old p ≡ Some v) last (tests p) good
    (subst (λ (t : Bool). MatchBool (t || nat_le past p) (v / 262144 ≡ at / 4096) (block_by old p ≡ Some v)) (no_run p)
    (subst (λ (n : ℕ). MatchBool (in_run 0 0 p || nat_le past p) (v / 262144 ≡ n) (block_by old p ≡ Some v)) (sym here) (h p v is))) before

-- ---- the log

-- one entry more
pub stamps_more : (s : Super) (kind : Kind) (es : List Placed) (x : Placed) (old new : Runs) → AreStamps s kind es old → Stamps s kind x old new → AreStamps s kind (es ++ x ∷ []) new
stamps_more s kind es x old new are more p v here = word-more (page_saying p) None s kind es x (is_good s kind x.entry) refl ∙ more p v (said_last_in s kind es p) here (are p v)

pub read_none : (R : Region) (s : Super) (row : Row) (stamps : Runs) → ((p : ℕ) → block_by stamps p ≡ None) → AreStampsSoFar R row (at_head s row.head row.tail) stamps
read_none R s row stamps none = record { entries = []; leads = leads_start R s row.head row.tail; tell = λ p v here. absurd (let clash : None ≡ Some v = sym (none p) ∙ here in cc) }

pub read_more : (R : Region) (row : Row) (s : Super) (r r' : Progress) (old new : Runs) (found : Finding) (x : Placed)
    → AreStampsSoFar R row r old → ((h : ℕ) (es : List Placed) → Leads R h r es → Continues R h r' es found) → found ≡ finds.Entry x
    → r.sup ≡ s → r'.sup ≡ s → Stamps s row.kind x old new → AreStampsSoFar R row r' new
read_more R row s r r' old new found x so_far goes is p q t = record {
  entries = so_far.entries ++ x ∷ [];
  leads = subst (λ (f : Finding). Continues R row.head r' so_far.entries f) is (goes row.head so_far.entries so_far.leads);
  tell = subst (λ (n : Super). AreStamps n row.kind (so_far.entries ++ x ∷ []) new) (sym q)
      (stamps_more s row.kind so_far.entries x old new (subst (λ (n : Super). AreStamps n row.kind so_far.entries old) p so_far.tell) t);
}

-- at a page that is turned
pub read_on : (R : Region) (row : Row) (s : Super) (r r' : Progress) (stamps : Runs) (found : Finding) (a : ℕ)
    → AreStampsSoFar R row r stamps → ((h : ℕ) (es : List Placed) → Leads R h r es → Continues R h r' es found) → found ≡ finds.Page a
    → r.sup ≡ s → r'.sup ≡ s → AreStampsSoFar R row r' stamps
read_on R row s r r' stamps found a so_far goes is p q = record {
  entries = so_far.entries;
  leads = subst (λ (f : Finding). Continues R row.head r' so_far.entries f) is (goes row.head so_far.entries so_far.leads);
  tell = subst (λ (n : Super). AreStamps n row.kind so_far.entries stamps) (p ∙ sym q) so_far.tell;
}

-- the whole log, once its end is found
pub read_whole : (R : Region) (s : Super) (row : Row) (r r' : Progress) (stamps : Runs) (found : Finding) (fault : Option LogEnd)
    → AreStampsSoFar R row r stamps → ((h : ℕ) (es : List Placed) → Leads R h r es → Continues R h r' es found) → found ≡ finds.End fault
    → r.sup ≡ s → r'.sup ≡ s → r'.tail ≡ row.tail → AreStampsOf R s row stamps r'.pages fault
read_whole R s row r r' stamps found fault so_far goes is p q t = record {
  entries = so_far.entries;
  reads = subst (λ (z : Super × ℕ). Reads R z.0 row.head z.1 so_far.entries r'.pages fault) (λ k. (q k, t k))
      (subst (λ (f : Finding). Continues R row.head r' so_far.entries f) is (goes row.head so_far.entries so_far.leads));
  tell = subst (λ (n : Super). AreStamps n row.kind so_far.entries stamps) p so_far.tell;
}

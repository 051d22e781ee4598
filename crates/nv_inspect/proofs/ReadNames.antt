-- What is read of a log has names of 1 to 255 bytes.
use Rattle.std.proofs.Common.{ℕ, zero, suc, List, Option, sym, subst, arith}
use Rattle.nv_region.specs.Region.{Region}
use Rattle.nv_super.specs.declared.superblock.Super.{Super}
use Rattle.nv_entry.specs.declared.entry.Entry.{Entry}
use Rattle.nv_entry.specs.declared.entry.Entry.TheVariants.{NextPage, Write, Attr, Name, Links}
use Rattle.nv_entry.specs.Spelling.{Stands}
use Rattle.nv_logpage.specs.declared.found.LogEnd.{LogEnd}
use Rattle.nv_logpage.specs.declared.found.Placed.{Placed}
use Rattle.nv_logpage.specs.Reads.{ReadsOn, ends, reads, turns}
use Rattle.nv_logpage.proofs.Longer.{got_entry}
use Rattle.nv_inspect.specs.Held.{HasName, HaveNames}

has_name : (R : Region) (p : ℕ) (e : Entry) → Stands R p e → HasName e
has_name R p NextPage h = tt
has_name R p (Write e) h = tt
has_name R p (Attr e) h = tt
has_name R p (Name e) h = record { some = h.is_name.some; short = h.is_name.fits }
has_name R p (Links e) h = tt

module _ (R : Region) (s : Super) (tail : ℕ) where
  pub read_have_names : {pages : List ℕ} {p : ℕ} {es : List Placed} {all : List ℕ} {fault : Option LogEnd} → ReadsOn R s tail pages p es all fault → HaveNames es
  read_have_names (ends f) k x below is = absurd (omega (arith, below))
  read_have_names (reads f more) zero x below is = subst (λ (z : Placed). HasName z.entry) (sym is) (has_name R _ _ (got_entry R s tail _ _ _ f).here.0)
  read_have_names (reads f more) (suc k) x below is = read_have_names more k x (omega (arith, below)) is
  read_have_names (turns f more) k x below is = read_have_names more k x below is

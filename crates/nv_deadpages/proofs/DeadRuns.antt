-- Pages from a place on without which a log says the same: they go one after another.
use Rattle.std.proofs.Common.{◌≡◌, ◌⊎◌, inl, inr, ℕ, ◌+◌, ◌-◌, ◌<◌, true, List, length, drop, take, slice_range, ap, sym, ◌∙◌, subst, arith, Option, Some, IfSome}
use Rattle.nv_blockset.specs.Listed.{Listed}
use Rattle.nv_region.specs.Region.{Region}
use Rattle.nv_super.specs.declared.superblock.Super.{Super}
use Rattle.nv_super.specs.declared.kind.Kind.{Kind}
use Rattle.nv_super.specs.declared.kind.Kind.TheVariants.{File}
use Rattle.nv_inode.specs.Slot.{is_right_log}
use Rattle.nv_logpage.specs.declared.found.LogEnd.{LogEnd}
use Rattle.nv_logpage.specs.declared.found.Placed.{Placed}
use Rattle.nv_logpage.specs.Good.{good_entries}
use Rattle.nv_logpage.proofs.Once.{ReadsOn-only}
use Rattle.nv_logpage.proofs.RightLogs.{head_starts}
use Rattle.nv_deadpages.specs.Dead.{IsFirstDead, IsSaidBy, SameState}
use Rattle.nv_scan.specs.Fold.{Holds}
use Rattle.nv_deadpages.specs.InTurn.{GoInTurn, IsCleanLog, IsReadWithoutPages, SaysTheSame, without_pages}
use Rattle.nv_deadpages.specs.ReadingWithout.{SaysRow}
use Rattle.nv_scan.specs.declared.fold.Fold.{Fold}
use Rattle.nv_scan.specs.declared.piece.Row.{Row}
use Rattle.nv_deadpages.proofs.Deciding.{says_same}
use Rattle.nv_deadpages.proofs.InPages.{InPages, log_in_pages}
use Rattle.nv_deadpages.proofs.InTurn.{go_in_turn}
use Rattle.nv_deadpages.proofs.ReadWithoutPages.{without_run}

-- the blocks that were listed, as pages of the log from a place on
pub run_is : (found : Option Listed) (out : Listed) (xs items : List ℕ) (first count : ℕ) → found ≡ Some out → IfSome found (λ o. o.blocks ≡ slice_range xs first (first + count)) → xs ≡ items → out.blocks ≡ take count (drop first items)
run_is found out xs items first count is same slice =
    let long : first + count - first ≡ count = omega arith in
    subst (λ (o : Option Listed). IfSome o (λ l. l.blocks ≡ slice_range xs first (first + count))) is same ∙ ap (λ (ys : List ℕ). slice_range ys first (first + count)) slice ∙ ap (λ (n : ℕ). take n (drop first items)) long

-- what is kept without these pages says the same as the row, and so does the log
pub told_same : {R : Region} {s : Super} {created : ℕ} {row : Row} {fold : Fold} {pages : List ℕ} {fault : Option LogEnd} (listed out : List ℕ) → listed ≡ out → IsReadWithoutPages R s row created listed fold pages fault → SaysRow fold row → SaysTheSame R s created row out
told_same {R} {s} {created} {row} {fold} listed out same w says es is = says_same (without_pages out es) is
    (subst (λ (z : List ℕ × List Placed). Holds s row.kind row.inode created (without_pages z.0 z.1) fold) (λ t. (same t, (ReadsOn-only w.reads is.reads).0 t)) w.holds) says

module _ (s : Super) (i created : ℕ) (es : List Placed) (pages : List ℕ) (k n : ℕ) (fits : k + n < length pages) (is : InPages pages es) where
  abbrev Turns : Kind → Type 0
  Turns kind = IsCleanLog s kind i es → IsFirstDead s kind i created es pages (Some k) → (n ≡ 1) ⊎ SameState created (good_entries s kind es) (good_entries s kind (without_pages (take n (drop k pages)) es)) → GoInTurn s kind i created k n es pages

  of_file : Turns File
  of_file clean first (inl one) = subst (λ (m : ℕ). GoInTurn s File i created k m es pages) (sym one) (first, tt)
  of_file clean first (inr same) = go_in_turn s i created k n pages es fits is clean first.1
      (subst (λ (xs : List Placed). SameState created (good_entries s File es) (good_entries s File xs)) (without_run k n pages es (omega (arith, fits))) same)

  turns : (kind : Kind) → kind ≡ File → Turns kind
  turns kind file = subst Turns (sym file) of_file

-- so they do, by a row of the log
pub row_turns : (R : Region) (s : Super) (created : ℕ) (row : Row) (found : Option ℕ) (k n : ℕ) → row.kind ≡ File → is_right_log s row.head row.tail ≡ true → found ≡ Some k → k + n < length row.pages.items
    → ((es : List Placed) → IsSaidBy R s created es row → IsFirstDead s row.kind row.inode created es row.pages.items found)
    → (n ≡ 1) ⊎ SaysTheSame R s created row (take n (drop k row.pages.items))
    → (es : List Placed) → IsSaidBy R s created es row → IsCleanLog s row.kind row.inode es → GoInTurn s row.kind row.inode created k n es row.pages.items
row_turns R s created row found k n file right some fits first same es is clean =
    turns s row.inode created es row.pages.items k n fits (log_in_pages (head_starts s row.head row.tail right) is.reads) row.kind file clean
    (subst (λ (o : Option ℕ). IsFirstDead s row.kind row.inode created es row.pages.items o) some (first es is)) (elim same [ inl one ↦ inl one | inr w ↦ inr (w es is) ])

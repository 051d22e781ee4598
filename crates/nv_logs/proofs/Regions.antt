-- The log of a row in a region that was recovered, and in what was gathered of it.
use Rattle.std.proofs.Common.{◌≡◌, ◌∙◌, ℕ, ◌+◌, ◌%◌, ◌<◌, inl, Bool, true, false, List, length, Option, refl, sym, ap, subst, true≢false, arith}
use Rattle.std.specs.Prelude.{MatchBool, codes}
use Rattle.std.proofs.lemmas.List.FromFn.{length-map-range_with_len}
use Rattle.nv_region.specs.Region.{Region, HasBlocks, size, word}
use Rattle.nv_super.specs.declared.superblock.Super.{Super}
use Rattle.nv_super.specs.declared.superblock.SuperFault.TheVariants.{Length}
use Rattle.nv_super.specs.Layout.{Layout}
use Rattle.nv_super.specs.Super.{IsSuper}
use Rattle.nv_inode.specs.Slot.{is_right_log}
use Rattle.nv_logpage.specs.declared.found.Placed.{Placed}
use Rattle.nv_logpage.specs.declared.found.LogEnd.{LogEnd}
use Rattle.nv_logpage.specs.Reads.{Reads}
use Rattle.nv_scan.specs.Inode.{Log, IsInode, right, wrong}
use Rattle.nv_scan.specs.Rows.{IsRow}
use Rattle.nv_scan.specs.declared.piece.Row.{Row}
use Rattle.nv_scan.proofs.Only.{kind_in_use, slot_in_use}
use Rattle.nv_journal.specs.Undo.{undone}
use Rattle.nv_outcome.proofs.SuperOf.{blocks_of_super, is_equal}
use Rattle.nv_outcome.proofs.SameInodes.{SameInodes}
use Rattle.nv_text.specs.Answers.{line}
use Rattle.nv_inspect.specs.declared.fate.Fate.{Fate}
use Rattle.nv_inspect.specs.Dead.{AreFates}
use Rattle.nv_inspect.specs.Log.{IsLogText, created_at, created_by, read_text}

-- a region of whole words with a superblock has as many blocks as that says
pub blocks_of : (R : Region) (s : Super) → IsSuper R s → length R.rest < 8 → HasBlocks R s.blocks
blocks_of R s is short =
    let blocks = blocks_of_super R s is in
    let whole = is_equal (size R % 4096) 0 (λ differs. is.sound Length (inl differs)) in
    (omega (arith, blocks, whole, short), omega (arith, blocks, whole, short))

-- it keeps them where its journals are rolled back
pub blocks_undone : (R : Region) (s : Super) (n : ℕ) → HasBlocks R n → HasBlocks (undone s R) n
blocks_undone R s n has = (length-map-range_with_len _ 0 (length R.words) ∙ has.0, has.1)

-- ---- regions with the same inodes

module _ (l : Layout) (U V : Region) (same : SameInodes l U V) (a : ℕ) (log : Log) (row : Row) (is : IsRow V l a log row) where
  read_of : (found : Log) → IsInode U l row.inode a found → is_right_log l.sup (word U (a + 16)) (word U (a + 24)) ≡ true
      → Reads U l.sup (word U (a + 16)) (word U (a + 24)) found.entries found.pages found.fault
  read_of _ (right slot used ok read) good = read
  read_of _ (wrong slot used bad) good = absurd (true≢false (sym good ∙ bad))

  head_is : row.head ≡ word U (a + 16)
  head_is = is.head ∙ (same.slots row.inode a (slot_in_use is.inode)).head

  tail_is : row.tail ≡ word U (a + 24)
  tail_is = is.tail ∙ (same.slots row.inode a (slot_in_use is.inode)).tail

  reads_there : (es : List Placed) (pages : List ℕ) (end : Option LogEnd) → is_right_log l.sup row.head row.tail ≡ true → Reads V l.sup row.head row.tail es pages end → Reads U l.sup row.head row.tail es pages end
  reads_there es pages end good read =
      let found : Log = record { kind = log.kind; entries = es; pages = pages; fault = end } in
      let there : IsInode V l row.inode a found = right (slot_in_use is.inode) (kind_in_use is.inode) (rw (is.head, is.tail) at good) (rw (is.head, is.tail) at read) in
      let mine = read_of found (same.back there) (rw (head_is, tail_is) at good) in
      rw (head_is, tail_is) mine

  -- the log has the same text in both
  created_is : created_at V l row.inode ≡ created_at U l row.inode
  created_is = ap (created_by V) (slot_in_use is.inode) ∙ (same.slots row.inode a (slot_in_use is.inode)).created ∙ sym (ap (created_by U) (slot_in_use is.inode))

  pub same_text : (text : List ℕ) → IsLogText V l row text → IsLogText U l row text
  same_text text told = (told.0, by (is_right_log l.sup row.head row.tail) refl told.1, told.2) where
    by : (b : Bool) → is_right_log l.sup row.head row.tail ≡ b
        → MatchBool b ((es : List Placed) × (pages : List ℕ) × (end : Option LogEnd) × (fates : List Fate) × Reads V l.sup row.head row.tail es pages end
        × AreFates l.sup row.kind (created_at V l row.inode) es fates × (told.0 ≡ read_text l.sup row es fates pages end)) (told.0 ≡ line (codes "  no log, by I3"))
        → MatchBool b ((es : List Placed) × (pages : List ℕ) × (end : Option LogEnd) × (fates : List Fate) × Reads U l.sup row.head row.tail es pages end
        × AreFates l.sup row.kind (created_at U l row.inode) es fates × (told.0 ≡ read_text l.sup row es fates pages end)) (told.0 ≡ line (codes "  no log, by I3"))
    by true good w = (w.0, w.1, w.2, w.3, reads_there w.0 w.1 w.2 good w.4, subst (λ (created : ℕ). AreFates l.sup row.kind created w.0 w.3) created_is w.5, w.6)
    by false bad none = none

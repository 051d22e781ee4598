-- An inode is read from its slot's words and its log's pages alone, that of the tail up to it.
use Rattle.std.proofs.Common.{◌≡◌, ℕ, ◌+◌, ◌%◌, ◌≤◌, refl, ◌∙◌, sym, arith}
use Rattle.std.specs.List.{Contains}
use Rattle.nv_region.specs.Region.{Region, word}
use Rattle.nv_super.specs.Layout.{Layout}
use Rattle.nv_logpage.specs.ToTail.{SameToTail}
use Rattle.nv_logpage.proofs.ToTail.{ReadsOn-to_tail}
use Rattle.nv_logpage.proofs.RightLogs.{head_starts}
use Rattle.nv_logpage.proofs.Steps.{start_whole}
use Rattle.nv_scan.specs.Inode.{Log, IsInode, right, wrong}
use Rattle.nv_scan.specs.Rows.{IsRow}
use Rattle.nv_scan.specs.Scanned.{SameSlot}
use Rattle.nv_scan.specs.declared.piece.Row.{Row}

pub IsInode-same : {R : Region} {l : Layout} {i a : ℕ} {log : Log} (R' : Region) → SameSlot R R' a → ((b : ℕ) → Contains log.pages b → SameToTail (word R (a + 24)) R R' b) → IsInode R l i a log → IsInode R' l i a log
IsInode-same {R} {l} {i} {a} {log} R' slot pages (right s k t r) =
    let start : word R (a + 16) % 4096 ≡ 0 = start_whole l.sup (word R (a + 16)) (head_starts l.sup (word R (a + 16)) (word R (a + 24)) t) in
    let whole : word R (a + 16) % 8 ≡ 0 = omega arith in
    let low : word R (a + 16) % 4096 ≤ 4064 = omega arith in
    right s (rw (slot.valid, slot.kind) k) (rw (slot.head, slot.tail) t)
    (rw (slot.head, slot.tail) (ReadsOn-to_tail R' pages (0, omega arith, refl) (λ is. omega (arith, start, is)) whole low r))
IsInode-same {R} {l} {i} {a} R' slot pages (wrong s k t) = wrong s (rw (slot.valid, slot.kind) k) (rw (slot.head, slot.tail) t)

-- and so is its row, with the creation time
pub IsRow-same : {R : Region} {l : Layout} {a : ℕ} {log : Log} {row : Row} (R' : Region) → SameSlot R R' a → word R' (a + 32) ≡ word R (a + 32) → ((b : ℕ) → Contains log.pages b → SameToTail (word R (a + 24)) R R' b) → IsRow R l a log row → IsRow R' l a log row
IsRow-same R' slot created pages is = record {
  inode = IsInode-same R' slot pages is.inode;
  kind = is.kind;
  numbers = rw created is.numbers;
  head = is.head ∙ sym slot.head;
  tail = is.tail ∙ sym slot.tail;
  pages = is.pages;
  index = is.index;
  names = is.names;
}

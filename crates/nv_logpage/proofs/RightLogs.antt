-- Where a right log begins and ends.
use Rattle.std.proofs.Common.{◌≡◌, ◌≤◌, ◌%◌, IsTrue, ℕ, arith}
use Rattle.std.proofs.lemmas.Bool.Decides.{nat_tests}
use Rattle.nv_super.specs.declared.superblock.Super.{Super}
use Rattle.nv_super.specs.Layout.{is_page_start}
use Rattle.nv_inode.specs.Slot.{is_right_log}

-- the head begins a data block
pub head_starts : (s : Super) (head tail : ℕ) → IsTrue (is_right_log s head tail) → IsTrue (is_page_start s head)
head_starts s head tail h = grind (arith, nat_tests)

-- the tail is the address of a word
pub tail_whole : (s : Super) (head tail : ℕ) → IsTrue (is_right_log s head tail) → tail % 8 ≡ 0
tail_whole s head tail h = grind (arith, nat_tests)

-- the tail stands at its page's link or before it
pub tail_low : (s : Super) (head tail : ℕ) → IsTrue (is_right_log s head tail) → tail % 4096 ≤ 4064
tail_low s head tail h = grind (arith, nat_tests)

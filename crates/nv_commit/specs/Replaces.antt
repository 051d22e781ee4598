-- Two logs that grow while another inode goes, by the journal of a CPU.
use Rattle.std.specs.Prelude.{◌≡◌, ◌≢◌, ◌⊎◌, ℕ, ◌+◌, List, [], ◌∷◌, Some, None}
use Rattle.nv_region.specs.Region.{Region}
use Rattle.nv_region.specs.Stops.{Choices}
use Rattle.nv_super.specs.Layout.{Layout, slot_of}
use Rattle.nv_journal.specs.Several.{ChangesAll}
use Rattle.nv_logpage.specs.Append.{end_of}
use Rattle.nv_mounted.specs.Held.{Held, Store, with_inode}
use Rattle.nv_commit.specs.declared.together.Extension.{Extension}
use Rattle.nv_commit.specs.Together.{BothWords, CanExtendTwo, UndoneShows, with_logs}

-- Two inodes of a sound region can have these behind their logs' tails. A third has this slot.
pub record CanReplace (R : Region) (l : Layout) (held : Store) (cpu i : ℕ) (h : Held) (x : Extension) (j : ℕ) (g : Held) (y : Extension) (k slot : ℕ) : Type 0 where
  pub two : CanExtendTwo R l held cpu i h x j g y
  pub at : slot_of l k ≡ Some slot
  pub first_differs : i ≢ k
  pub second_differs : j ≢ k

-- what is held once both logs have grown and the third inode is gone
abbrev pub with_replaced : Store → ℕ → Held → Extension → ℕ → Held → Extension → ℕ → Store
with_replaced held i h x j g y k = with_inode (with_logs held i h x j g y) k None

-- rolled back, the region shows what was held, or that with both logs grown and without the third inode
abbrev pub BeforeOrReplaced : Layout → Store → ℕ → Held → Extension → ℕ → Held → Extension → ℕ → Region → Type 0
BeforeOrReplaced l held i h x j g y k left = UndoneShows l held left ⊎ UndoneShows l (with_replaced held i h x j g y k) left

-- the new tail of a log, in its word
abbrev pub new_tail : Extension → ℕ × ℕ
new_tail x = (x.slot + 24, end_of x.fresh.now 0 x.tail x.entries.now)

-- the words that change together, in their order: both tails, and the valid word
abbrev pub replaced_words : Extension → Extension → ℕ → List (ℕ × ℕ)
replaced_words x y slot = new_tail x ∷ new_tail y ∷ (slot, 0) ∷ []

-- what two appends may store, any word of the journal, the new tails in their words, and 0 in the valid word
abbrev pub ReplaceWords : ℕ → Extension → Extension → ℕ → Choices
ReplaceWords cpu x y slot k v = BothWords x y k v ⊎ ChangesAll cpu (replaced_words x y slot) k v

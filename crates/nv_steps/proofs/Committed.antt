-- New bytes stored, and entries written behind a log.
use Rattle.std.proofs.Common.{◌≡◌, ℕ, List, Result, Ok, Err, OnOk, subst}
use Rattle.nv_region.specs.Region.{Region}
use Rattle.nv_region.specs.Stops.{IsMixed}
use Rattle.nv_super.specs.Layout.{Layout}
use Rattle.nv_alloc.specs.Taking.{HasBlock}
use Rattle.nv_bytes.specs.Storing.{InBlocks}
use Rattle.nv_commit.specs.Extends.{CanExtend, ExtendWords, ShowsMoved, with_log}
use Rattle.nv_entry.specs.declared.entry.Entry.{Entry}
use Rattle.nv_mounted.specs.Held.{Held, Store}
use Rattle.nv_steps.specs.Written.{Commits, HoldEntries, entry_blocks}

-- What the two steps did, each told of a list that is the one that was prepared.
pub commits : {E : Type 0} (R mid S : Region) (l : Layout) (inode slot tail : ℕ) (bytes : ℕ → ℕ) (entries : List Entry) (fresh : List ℕ) (stored given : List Entry) (over : List ℕ) → stored ≡ entries → given ≡ entries → over ≡ fresh → (result : Result ℕ E)
    → IsMixed R (InBlocks (HasBlock (entry_blocks stored))) mid → HoldEntries mid bytes stored → IsMixed mid (ExtendWords slot tail given over) S
    → ((held : Store) (h : Held) → CanExtend mid l held inode h slot tail given over → OnOk result (ShowsMoved mid l (with_log held inode h given over) S)) → OnOk result (Commits R S l inode slot tail bytes entries fresh)
commits R mid S l inode slot tail bytes entries fresh stored given over same_stored same_given same_over (Err e) wrote holds mixed shows = tt
commits R mid S l inode slot tail bytes entries fresh stored given over same_stored same_given same_over (Ok end) wrote holds mixed shows = record {
  mid = mid;
  «data» = subst (λ (xs : List Entry). IsMixed R (InBlocks (HasBlock (entry_blocks xs))) mid) same_stored wrote;
  holds = subst (HoldEntries mid bytes) same_stored holds;
  moved = subst (λ (xs : List Entry). (held : Store) (h : Held) → CanExtend mid l held inode h slot tail xs fresh → ShowsMoved mid l (with_log held inode h xs fresh) S) same_given
      (subst (λ (ps : List ℕ). (held : Store) (h : Held) → CanExtend mid l held inode h slot tail given ps → ShowsMoved mid l (with_log held inode h given ps) S) same_over shows);
  mixed = subst (λ (xs : List Entry). IsMixed mid (ExtendWords slot tail xs fresh) S) same_given (subst (λ (ps : List ℕ). IsMixed mid (ExtendWords slot tail given ps) S) same_over mixed);
}

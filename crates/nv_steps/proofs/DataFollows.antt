-- A log that grows by entries that write blocks and set its file's size: what follows of the region and of the free lists.
use Rattle.std.proofs.Common.{◌≡◌, ◌↔◌, ℕ, ◌%◌, ◌<◌, ◌⊎◌, inl, inr, List, length, take, take_all, sym, ◌∙◌, subst, arith, Some}
use Rattle.std.specs.List.{Contains}
use Rattle.nv_region.specs.Region.{Region}
use Rattle.nv_region.specs.Stops.{IsMixed}
use Rattle.nv_super.specs.Layout.{Layout}
use Rattle.nv_super.specs.declared.owners.Run.{Run}
use Rattle.nv_alloc.specs.FreeValue.{FreeLists}
use Rattle.nv_alloc.specs.FreeLists.{JoinAll}
use Rattle.nv_alloc.specs.Taking.{HasBlock, TakesSingly}
use Rattle.nv_entry.specs.declared.entry.Entry.{Entry}
use Rattle.nv_logpage.specs.declared.found.Placed.{Placed}
use Rattle.nv_logpage.specs.Append.{appended, end_of, needed}
use Rattle.nv_scan.specs.declared.piece.Row.{Row}
use Rattle.nv_mounted.specs.Held.{Held, Store}
use Rattle.nv_mounted.specs.Blocks.{KeepsFree}
use Rattle.nv_mounted.specs.Bytes.{byte_of}
use Rattle.nv_mounted.specs.Grows.{AreFree}
use Rattle.nv_mounted.specs.Lists.{TakeAll, WasTaken}
use Rattle.nv_mounted.specs.Loose.{Loose}
use Rattle.nv_mounted.specs.Mounted.{IsFaultless, KeepsRow, ShowsSound}
use Rattle.nv_mounted.specs.Writes.{IsReplaced, WritesData, written_blocks}
use Rattle.nv_mounted.proofs.BytesKept.{loose_data}
use Rattle.nv_mounted.proofs.DataGrows.{free_then, gone_is, grows}
use Rattle.nv_mounted.proofs.Faultless.{still_faultless}
use Rattle.nv_mounted.proofs.Fronts.{sound_clear, sound_moves}
use Rattle.nv_mounted.proofs.Growing.{data_owns}
use Rattle.nv_mounted.proofs.ListsKept.{lists_change}
use Rattle.nv_commit.specs.Extends.{CanExtend, ExtendWords, ShowsMoved, extended, with_log}
use Rattle.nv_steps.specs.Steps.{LogFollows, ShowsRow}
use Rattle.nv_steps.proofs.SizedEntries.{data_clean, data_names}
use Rattle.nv_steps.proofs.LogGrows.{extended_bytes, pages_once}
use Rattle.nv_steps.specs.Slots.{slot_in}

-- The region shows what was held, and nothing but data of free blocks was stored in it. Then the log grew in it.
module _ {R M S : Region} {l : Layout} {held : Store} {h : Held} {row : Row} {free : FreeLists} {fresh : List ℕ} (entries : List Entry) (size : ℕ)
    (count : length fresh ≡ needed (h.tail % 4096) entries) (shows : ShowsRow R l held h row free) (stored : IsMixed R (Loose l held) M)
    (can : CanExtend M l held row.inode h (slot_in l row.inode) row.tail entries fresh)
    (moved : ShowsMoved M l (with_log held row.inode h entries fresh) S) (mixed : IsMixed M (ExtendWords (slot_in l row.inode) row.tail entries fresh) S)
    (writes : WritesData l held h (appended fresh 0 h.tail entries) (take (needed (h.tail % 4096) entries) fresh) size) where
  abbrev more : List Placed
  more = appended fresh 0 h.tail entries

  abbrev pages : List ℕ
  pages = take (needed (h.tail % 4096) entries) fresh

  whole : pages ≡ fresh
  whole = take_all (needed (h.tail % 4096) entries) fresh (omega (arith, count))

  pages_free : AreFree l held pages
  pages_free = subst (λ (blocks : List ℕ). AreFree l held blocks) (sym whole) can.free

  faultless : IsFaultless l (with_log held row.inode h entries fresh)
  faultless =
      let sound = shows.sound in
      let right = sound.faultless in
      still_faultless l held row.inode h (extended h entries fresh) shows.holds
      (data_names l held h (end_of fresh 0 h.tail entries) more pages size writes)
      (data_clean l held h (end_of fresh 0 h.tail entries) more pages size writes row.inode (λ f fault. right.clean row.inode h f shows.holds fault))
      (data_owns l held row.inode h (extended h entries fresh) shows.holds pages
      (grows l held h (end_of fresh 0 h.tail entries) more pages size writes row.inode shows.holds pages_free) right.undoubled (pages_once {S = S} can moved))
      right

  sound : ShowsSound S l (with_log held row.inode h entries fresh)
  sound = sound_moves M S l held (with_log held row.inode h entries fresh) can.sound moved.front moved.shows faultless

  -- each byte that a file had is where it was
  bytes : (i : ℕ) (g : Held) → held i ≡ Some g → (x : ℕ) → byte_of S l g x ≡ byte_of R l g x
  bytes i g is x =
      let was = shows.sound in
      let right = was.faultless in
      extended_bytes can mixed i g is x
      ∙ loose_data l held R M i g (sound_clear was) right.undoubled was.shows stored is x

  pub data_sound : ShowsSound S l (with_log held row.inode h entries fresh)
  data_sound = sound

  pub data_bytes : (i : ℕ) (g : Held) → held i ≡ Some g → (x : ℕ) → byte_of S l g x ≡ byte_of R l g x
  data_bytes = bytes

  -- The log has grown, and its row and the free lists are what is said of them.
  pub data_follows : (pools rest : List (List Run)) (cpu : ℕ) → TakesSingly pools cpu fresh rest → (new : Row) (after : FreeLists) → new.inode ≡ row.inode → KeepsRow l (extended h entries fresh) new
      → KeepsFree l (with_log held row.inode h entries fresh) after.pools → LogFollows R S l held h entries pools cpu row new after
  data_follows pools rest cpu taken new after same told lists = record { fresh = fresh; rest = rest; taken = taken; blocks = can.free; count = count; sound = sound; told = told; inode = same; lists = lists; bytes = bytes }

  -- The free lists once the blocks that were written and the log's pages were taken, and the blocks that the file let go given back.
  pub data_lists : (from mid after : FreeLists) (takes : List (List Run)) (runs : List Run) → KeepsFree l held from.pools → from.sup ≡ l.sup → TakeAll from takes mid → JoinAll mid runs after → 0 < length more
      → ((b : ℕ) → WasTaken takes b ↔ (Contains fresh b ⊎ HasBlock (written_blocks more) b)) → ((b : ℕ) → HasBlock runs b ↔ IsReplaced l h more size b)
      → KeepsFree l (with_log held row.inode h entries fresh) after.pools
  data_lists from mid after takes runs kept same taken joined some took gave =
      let was = shows.sound in
      let right = was.faultless in
      lists_change l held (with_log held row.inode h entries fresh) from mid after takes runs kept same taken joined (λ b. (
      let free_now = free_then l held h (end_of fresh 0 h.tail entries) more pages size writes row.inode shows.holds right.undoubled pages_free b in
      let gone = gone_is l held h (end_of fresh 0 h.tail entries) more pages size writes row.inode shows.holds right.undoubled pages_free some b in
      let took_b : WasTaken takes b ↔ (Contains pages b ⊎ HasBlock (written_blocks more) b) = subst (λ (blocks : List ℕ). WasTaken takes b ↔ (Contains blocks b ⊎ HasBlock (written_blocks more) b)) (sym whole) (took b) in
      let gave_b = gave b in (
        (λ now. elim (free_now.0 now) [
          | inl w ↦ inl (w.0, λ t. elim (took_b.0 t) [ inl page ↦ w.1 page | inr block ↦ w.2 block ])
          | inr let_go ↦ inr (gave_b.1 (gone.0 let_go))
        ]),
        (λ either. free_now.1 (elim either [
          | inl w ↦ inl (w.0, (λ page. w.1 (took_b.1 (inl page))), λ block. w.1 (took_b.1 (inr block)))
          | inr has ↦ inr (gone.1 (gave_b.0 has))
        ])),
      )))

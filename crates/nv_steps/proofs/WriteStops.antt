-- What a stop leaves of a write: the row and the free lists that the file has then.
use Rattle.std.proofs.Common.{◌≡◌, ℕ, ◌+◌, ◌-◌, ◌*◌, ◌<◌, ◌≤◌, ◌++◌, inl, inr, List, length, refl, ap, sym, ◌∙◌, subst, arith, Option, Some, None}
use Rattle.std.specs.List.{Contains}
use Rattle.std.proofs.lemmas.Bool.{cases_lt}
use Rattle.nv_region.specs.Region.{Region}
use Rattle.nv_super.specs.Layout.{Layout}
use Rattle.nv_super.specs.declared.owners.Run.{Run}
use Rattle.nv_super.specs.declared.kind.Kind.TheVariants.{File}
use Rattle.nv_alloc.specs.FreeValue.{FreeLists}
use Rattle.nv_alloc.specs.Taking.{HasBlock}
use Rattle.nv_bytes.specs.Bytes.{byte_after, file_byte}
use Rattle.nv_entry.specs.declared.entry.Entry.{Entry}
use Rattle.nv_entry.specs.declared.entry.Entry.TheVariants.{Write}
use Rattle.nv_entry.specs.declared.entry.WriteEntry.{WriteEntry}
use Rattle.nv_logpage.specs.declared.found.Placed.{Placed}
use Rattle.nv_logpage.specs.Append.{end_of}
use Rattle.nv_radix.specs.Pages.{block_at}
use Rattle.nv_scan.specs.State.{block_of}
use Rattle.nv_scan.specs.declared.piece.Row.{Row}
use Rattle.nv_mounted.specs.Held.{Held, Store, good_in}
use Rattle.nv_mounted.specs.Blocks.{IsUnowned, KeepsFree}
use Rattle.nv_mounted.specs.Mounted.{Keeps, KeepsRow, ShowsSound}
use Rattle.nv_mounted.specs.Writes.{written_pages}
use Rattle.nv_outcome.proofs.Exists.{has_outcome}
use Rattle.nv_mounted.proofs.Closes.{outcome_kept}
use Rattle.nv_mounted.proofs.DataGrows.{cut, in_run_from, kept, written}
use Rattle.nv_mounted.proofs.Owning.{same_held}
use Rattle.nv_commit.specs.Extends.{CanExtend, extended, with_log}
use Rattle.nv_commit.specs.Stopped.{LeavesEither}
use Rattle.nv_commit.proofs.Left.{one_held}
use Rattle.nv_journal.specs.Undo.{undone}
use Rattle.nv_steps.specs.Stopped.{Wrote}
use Rattle.nv_steps.specs.Grown.{StandsRight}
use Rattle.nv_steps.specs.Steps.{ShowsRow}
use Rattle.nv_steps.specs.Writes.{plan_of}
use Rattle.nv_steps.specs.Written.{Commits, FileStands, HasWritten, Prepared, WritesFile, entry_blocks, entry_pages}
use Rattle.nv_steps.specs.declared.planning.Plan.{Plan}
use Rattle.nv_steps.proofs.DataEntries.{Describes, describes}
use Rattle.nv_steps.proofs.LogGrows.{slot_there}
use Rattle.nv_steps.proofs.PreparedBlocks.{fits, free_held, fresh_was_free, runs_were_free}
use Rattle.nv_steps.proofs.TakenBlocks.{all_differ}
use Rattle.nv_steps.proofs.WriteFollows as made
use Rattle.nv_steps.proofs.WriteFollows.{IsRight}
use Rattle.nv_steps.proofs.WriteGood.{entry_placed, placed_pages}
use Rattle.nv_steps.proofs.WritesFile.{commits_as, writes_file_by}
use Rattle.nv_steps.specs.Slots.{slot_in}

-- There are rows and free lists of what a sound region shows.
pub some_kept : {R : Region} {l : Layout} {held : Store} → ShowsSound R l held → (rows : List Row) × (free : List (List Run)) × Keeps l held rows free
some_kept {R} {l} sound = let w = has_outcome R l.sup sound.sup in let o = w.0 in (o.rows, o.free, outcome_kept sound o w.2)

-- among them one of each inode in use
pub row_kept : {R : Region} {l : Layout} {held : Store} → ShowsSound R l held → (i : ℕ) (h : Held) → held i ≡ Some h → (row : Row) × KeepsRow l h row
row_kept {R} {l} {held} sound i h is =
    let k = some_kept sound in
    let keeps = k.2 in
    let rows = keeps.in_rows in
    let w = rows.all i h is in
    let v = rows.each w.0 w.1 in
    let both : Some v.0 ≡ Some h = sym v.1 ∙ ap held w.2 ∙ is in
    let same : v.0 ≡ h = cc in
    (w.0, subst (λ (g : Held). KeepsRow l g w.0) same v.2)

module _ {R : Region} {l : Layout} {held : Store} {h : Held} {row : Row} {free after : FreeLists} {cpu : ℕ} {plan : Plan} {entries : List Entry} {fresh : List ℕ}
    (shows : ShowsRow R l held h row free) (lists : free.sup ≡ l.sup) (below : cpu < free.sup.cpus) (right : IsRight row plan) (p : Prepared free cpu row.tail plan entries fresh after) where
  described : Describes plan p.runs entries
  described = subst (Describes plan p.runs) (sym p.says) (describes plan p.runs (fits p below right.some right.before))

  -- the blocks of the data are free
  pub data_free : (b : ℕ) → HasBlock (entry_blocks entries) b → IsUnowned l held b
  data_free b w = let f = runs_were_free p b ((described.blocks b).0 w) in free_held l held free shows.lists f.0 b f.1

  -- and the log can have the entries before the data are stored
  pub can_before : CanExtend R l held row.inode h (slot_in l row.inode) row.tail entries fresh
  can_before = record {
    sound = shows.sound;
    at = (let sound = shows.sound in slot_there row.inode h sound.shows shows.holds);
    holds = shows.holds;
    tail_is = (let told = shows.told in sym told.tail);
    free = λ b w. (let f = fresh_was_free p b w in free_held l held free shows.lists f.0 b f.1);
    differ = all_differ p.taken;
    enough = (let count = p.count in omega (arith, count));
    given = described.given;
    some = described.there;
  }

module _ {R S : Region} {l : Layout} {held : Store} {h : Held} {row : Row} {free after : FreeLists} {cpu : ℕ} {plan : Plan} {entries : List Entry} {fresh : List ℕ} {bytes : ℕ → ℕ}
    (stands : StandsRight R l free row) (is_file : row.kind ≡ File) (file : FileStands R l.sup free row) (below : cpu < free.sup.cpus) (right : IsRight row plan)
    (p : Prepared free cpu row.tail plan entries fresh after) (c : Commits R S l row.inode (slot_in l row.inode) row.tail bytes entries fresh) (shows : ShowsRow R l held h row free) where
  abbrev more : List Placed
  more = made.more shows stands.lists is_file below right p c

  abbrev others : List ℕ
  others = made.others shows stands.lists is_file below right p c

  sound : ShowsSound S l (with_log held row.inode h entries fresh)
  sound = made.sound_after shows stands.lists is_file below right p c

  there : (r : Row) × KeepsRow l (extended h entries fresh) r
  there = row_kept sound row.inode (extended h entries fresh) (same_held held row.inode (Some (extended h entries fresh)))

  -- the row that the file has then
  pub written_row : Row
  written_row = record row { numbers = record row.numbers { size = plan.size; time = plan.time }; tail = end_of fresh 0 row.tail entries; pages = record row.pages { items = row.pages.items ++ fresh }; index = there.0.index }

  here : (w : WriteEntry) → Contains entries (Write w) → (k : ℕ) → k < w.count → block_at there.0.index (w.offset + k) ≡ Some (w.block + k)
  here w inside k low =
      let x = entry_placed fresh 0 h.tail entries (Write w) inside in
      let told = there.1 in
      let back : w.offset + k - w.offset ≡ k = omega arith in
      told.index (w.offset + k)
      ∙ written l held h (end_of fresh 0 h.tail entries) more others plan.size (made.writes shows stands.lists is_file below right p c) x.0 w (w.offset + k) x.1 x.2 (in_run_from w.offset w.count (w.offset + k) (omega arith) (omega (arith, low)))
      ∙ ap (λ (n : ℕ). Some (w.block + n)) back

  elsewhere : (q : ℕ) → (HasBlock (entry_pages entries) q → ⊥) → block_at there.0.index q ≡ block_at row.index q
  elsewhere q away =
      let told = there.1 in
      let was = shows.told in
      let off : HasBlock (written_pages more) q → ⊥ = (λ w. away (subst (λ (xs : List Run). HasBlock xs q) (placed_pages fresh 0 h.tail entries) w)) in
      told.index q
      ∙ elim (cases_lt (q * 4096) plan.size) [
        | inl low ↦ kept l held h (end_of fresh 0 h.tail entries) more others plan.size (made.writes shows stands.lists is_file below right p c) q off low
        | inr high ↦ cut l held h (end_of fresh 0 h.tail entries) more others plan.size (made.writes shows stands.lists is_file below right p c) q (made.some_placed shows stands.lists is_file below right p c) off high ∙ sym (none_there (block_of (good_in l h) q) refl high)
      ]
      ∙ sym (was.index q)
    where
      none_there : (o : Option ℕ) → block_of (good_in l h) q ≡ o → plan.size ≤ q * 4096 → block_of (good_in l h) q ≡ None
      none_there None is high = is
      none_there (Some b) is high = absurd (let low = made.below_size shows stands.lists is_file below right p c q b is in omega (arith, low, high))

  pub has_then : HasWritten row plan entries fresh (end_of fresh 0 row.tail entries) written_row
  unfolding written_row
  has_then = record { inode = refl; kind = refl; numbers = refl; head = refl; tail = refl; pages = refl; index = record { here = here; others = elsewhere }; names = refl }

  -- the free lists that there are then
  pub given_then : FreeLists
  given_then = record { sup = l.sup; pools = (some_kept sound).1; room = 0 }

  pub given_sup : given_then.sup ≡ l.sup
  unfolding given_then
  given_sup = refl

  lists_then : (other : Store) (g : Held) → ShowsRow R l other g row free → KeepsFree l (with_log other row.inode g entries fresh) given_then.pools
  unfolding given_then
  lists_then other g shown =
      let one = shows.sound in
      let two = shown.sound in
      let same : held ≡ other = one_held one.shows two.shows in
      let both : Some h ≡ Some g = sym shows.holds ∙ ap (λ (st : Store). st row.inode) same ∙ shown.holds in
      let equal : h ≡ g = cc in
      let keeps = (some_kept sound).2 in
      subst (λ (k : Held). KeepsFree l (with_log other row.inode k entries fresh) (some_kept sound).1) equal (subst (λ (st : Store). KeepsFree l (with_log st row.inode h entries fresh) (some_kept sound).1) same keeps.in_lists)

  -- What the write makes of its file.
  pub writes_then : (offset time : ℕ) (new : List ℕ) → 0 < length new → plan ≡ plan_of (block_at row.index) row.numbers.size offset (length new) time → ((x : ℕ) → bytes x ≡ byte_after offset new row.numbers.size (file_byte R row.index) x)
      → WritesFile R S l free given_then cpu plan offset new row written_row
  writes_then = writes_file_by stands is_file file below right p c has_then given_then lists_then

-- What a stop leaves of a write, by what it leaves of the commit of its entries.
module _ {R : Region} {l : Layout} {held : Store} {h : Held} {row : Row} {free after : FreeLists} {cpu : ℕ} {plan : Plan} {entries : List Entry} {fresh : List ℕ}
    (stands : StandsRight R l free row) (is_file : row.kind ≡ File) (file : FileStands R l.sup free row) (below : cpu < free.sup.cpus) (right : IsRight row plan)
    (p : Prepared free cpu row.tail plan entries fresh after) (shows : ShowsRow R l held h row free) (slot end other : ℕ) (number : other ≡ row.inode) (tails : end ≡ row.tail) (at : slot ≡ slot_in l other) where
  -- the log can have the entries, as the commit asks
  pub can_there : CanExtend R l held row.inode h slot end entries fresh
  can_there =
      subst (λ (a : ℕ). CanExtend R l held row.inode h a end entries fresh) (sym (at ∙ ap (slot_in l) number))
      (subst (λ (t : ℕ). CanExtend R l held row.inode h (slot_in l row.inode) t entries fresh) (sym tails) (can_before shows stands.lists below right p))

  pub left_write : (bytes : ℕ → ℕ) (offset time : ℕ) (new : List ℕ) → 0 < length new → plan ≡ plan_of (block_at row.index) row.numbers.size offset (length new) time → ((x : ℕ) → bytes x ≡ byte_after offset new row.numbers.size (file_byte R row.index) x)
      → (left : Region) → LeavesEither R l held (λ S. Commits R S l row.inode slot end bytes entries fresh) left → LeavesEither R l held (Wrote R l free cpu plan offset new row) left
  left_write bytes offset time new some planned after_is left (inl same) = inl same
  left_write bytes offset time new some planned after_is left (inr w) =
      let done = commits_as R (undone l.sup left) l row.inode other slot row.tail end bytes entries fresh number tails at w.1 in
      inr (
        w.0,
        (
          given_then stands is_file file below right p done shows,
          written_row stands is_file file below right p done shows,
          writes_then stands is_file file below right p done shows offset time new some planned after_is,
          given_sup stands is_file file below right p done shows ∙ sym stands.lists,
        ),
      )

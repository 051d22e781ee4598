-- A log that grows by the entries of a write: what follows of the region, the row and the free lists.
use Rattle.std.proofs.Common.{◌≡◌, ◌↔◌, ℕ, ◌+◌, ◌-◌, ◌*◌, ◌/◌, ◌%◌, ◌<◌, ◌≤◌, ◌⊎◌, inl, inr, List, ◌∷◌, length, take, take_all, ap, sym, ◌∙◌, subst, arith, Some}
use Rattle.std.specs.List.{Contains}
use Rattle.nv_region.specs.Region.{Region}
use Rattle.nv_region.specs.Stops.{IsMixed}
use Rattle.nv_region.proofs.Stops.{mixed_same}
use Rattle.nv_region.proofs.Wordwise.{mixed_more}
use Rattle.nv_super.specs.declared.owners.Run.{Run}
use Rattle.nv_super.specs.declared.kind.Kind.{Kind}
use Rattle.nv_super.specs.declared.kind.Kind.TheVariants.{File}
use Rattle.nv_super.specs.Layout.{Layout}
use Rattle.nv_alloc.specs.FreeValue.{FreeLists}
use Rattle.nv_alloc.specs.FreeLists.{JoinAll}
use Rattle.nv_alloc.specs.Taking.{HasBlock, pool_at}
use Rattle.nv_entry.specs.declared.entry.Entry.{Entry}
use Rattle.nv_entry.specs.declared.entry.Entry.TheVariants.{Write}
use Rattle.nv_entry.specs.declared.entry.WriteEntry.{WriteEntry}
use Rattle.nv_logpage.specs.declared.found.Placed.{Placed}
use Rattle.nv_logpage.specs.Append.{appended, end_of, needed}
use Rattle.nv_bytes.specs.Storing.{InBlocks}
use Rattle.nv_radix.specs.Pages.{Pages, block_at}
use Rattle.nv_scan.specs.Rows.{AreNumbers}
use Rattle.nv_scan.specs.State.{block_of, size_of}
use Rattle.nv_scan.specs.declared.piece.Row.{Row}
use Rattle.nv_scan.proofs.Sizes.{page_below}
use Rattle.nv_mounted.specs.Held.{Held, Store, good_in}
use Rattle.nv_mounted.specs.Blocks.{IsUnowned, KeepsFree, NoneDoubled}
use Rattle.nv_mounted.specs.Bytes.{byte_of}
use Rattle.nv_mounted.specs.Grows.{AreFree, LetsGo, NoEntryFault, SameNames}
use Rattle.nv_mounted.specs.Lists.{WasTaken}
use Rattle.nv_mounted.specs.Loose.{Loose}
use Rattle.nv_mounted.specs.Mounted.{IsFaultless, ShowsSound}
use Rattle.nv_mounted.specs.Writes.{WritesData, written_blocks, written_pages}
use Rattle.nv_mounted.proofs.BytesKept.{loose_data}
use Rattle.nv_mounted.proofs.DataGrows.{free_then, gone_is, grows}
use Rattle.nv_mounted.proofs.Faultless.{still_faultless}
use Rattle.nv_mounted.proofs.Fronts.{loose_sound, sound_clear, sound_moves}
use Rattle.nv_mounted.proofs.Graphs.{quiet_grown}
use Rattle.nv_mounted.proofs.Growing.{data_owns}
use Rattle.nv_mounted.proofs.ListsKept.{lists_change}
use Rattle.nv_commit.specs.Extends.{CanExtend, ShowsMoved, extended, with_log}
use Rattle.nv_steps.specs.Steps.{ShowsRow}
use Rattle.nv_steps.specs.Writes.{replaced_blocks}
use Rattle.nv_steps.specs.Written.{Commits, MapsEntries, Prepared, entry_blocks}
use Rattle.nv_steps.specs.declared.planning.Plan.{Plan}
use Rattle.nv_steps.proofs.DataEntries.{Describes, describes}
use Rattle.nv_steps.proofs.LogGrows.{extended_bytes, pages_once, slot_there}
use Rattle.nv_steps.proofs.PreparedBlocks.{all_taken, fits, free_held, fresh_apart, fresh_was_free, runs_were_free}
use Rattle.nv_steps.proofs.Replaced.{are_replaced}
use Rattle.nv_steps.proofs.StoredEntries.{some_write}
use Rattle.nv_steps.proofs.TakenBlocks.{all_differ, is_taken, was_taken}
use Rattle.nv_steps.proofs.WriteGood.{all_clean, all_quiet, good_writes, placed_blocks, placed_count, placed_pages, timed, writes_data}
use Rattle.nv_steps.proofs.WrittenRow.{written_index, written_numbers}
use Rattle.nv_steps.proofs.OneByOne.{single_takes}
use Rattle.nv_steps.specs.Slots.{slot_in}

-- a block is free in a pool
abbrev pub IsFreeAt : FreeLists → ℕ → ℕ → Type 0
IsFreeAt free c b = HasBlock (pool_at free.pools c) b

-- What is known of a plan for the file of a row.
pub record IsRight (row : Row) (plan : Plan) : Type 0 where
  pub some : 0 < plan.pages
  pub before : (q : ℕ) → plan.ending ≡ Some q → q < plan.first
  pub small : plan.size ≤ 1073741824
  pub top : plan.first + plan.pages ≤ 262144
  pub last : (plan.first + plan.pages - 1) * 4096 < plan.size
  pub grows : row.numbers.size ≤ plan.size

module _ {R S : Region} {l : Layout} {held : Store} {h : Held} {row : Row} {free after : FreeLists} {cpu : ℕ} {plan : Plan} {entries : List Entry} {fresh : List ℕ} {bytes : ℕ → ℕ}
    (shows : ShowsRow R l held h row free) (lists : free.sup ≡ l.sup) (file : row.kind ≡ File) (below : cpu < free.sup.cpus) (right : IsRight row plan)
    (p : Prepared free cpu row.tail plan entries fresh after) (c : Commits R S l row.inode (slot_in l row.inode) row.tail bytes entries fresh) where
  pub described : Describes plan p.runs entries
  described = subst (Describes plan p.runs) (sym p.says) (describes plan p.runs (fits p below right.some right.before))

  tails : h.tail ≡ row.tail
  tails = (let told = shows.told in sym told.tail)

  kind : h.kind ≡ File
  kind = (let told = shows.told in sym told.kind ∙ file)

  undoubled : NoneDoubled l held
  undoubled = (let sound = shows.sound in let right = sound.faultless in right.undoubled)

  -- ---- what was taken

  pub runs_free : (b : ℕ) → HasBlock p.runs b → IsUnowned l held b
  runs_free b w = let f = runs_were_free p b w in free_held l held free shows.lists f.0 b f.1

  pub fresh_free : AreFree l held fresh
  fresh_free b w = let f = fresh_was_free p b w in free_held l held free shows.lists f.0 b f.1

  -- ---- what was stored

  loose : IsMixed R (Loose l held) c.mid
  loose = mixed_more (Loose l held) (InBlocks (HasBlock (entry_blocks entries))) R R c.mid (λ k v w. inl (runs_free (8 * k / 4096) ((described.blocks (8 * k / 4096)).0 w))) (mixed_same R (Loose l held)) c.data

  mid_sound : ShowsSound c.mid l held
  mid_sound = loose_sound R c.mid l held shows.sound loose

  pub can : CanExtend c.mid l held row.inode h (slot_in l row.inode) row.tail entries fresh
  can = record {
    sound = mid_sound;
    at = (let sound = shows.sound in slot_there row.inode h sound.shows shows.holds);
    holds = shows.holds;
    tail_is = tails;
    free = fresh_free;
    differ = all_differ p.taken;
    enough = (let count = p.count in omega (arith, count));
    given = described.given;
    some = described.there;
  }

  pub moved : ShowsMoved c.mid l (with_log held row.inode h entries fresh) S
  moved = c.moved held h can

  -- ---- the log

  abbrev pub more : List Placed
  more = appended fresh 0 h.tail entries

  abbrev pub others : List ℕ
  others = take (needed (h.tail % 4096) entries) fresh

  pub all_fresh : others ≡ fresh
  all_fresh = take_all (needed (h.tail % 4096) entries) fresh (let count = p.count in let same : needed (h.tail % 4096) entries ≡ needed (row.tail % 4096) entries = ap (λ (t : ℕ). needed (t % 4096) entries) tails in omega (arith, count, same))

  others_free : AreFree l held others
  others_free b w = fresh_free b (subst (λ (xs : List ℕ). Contains xs b) all_fresh w)

  others_apart : (b : ℕ) → HasBlock p.runs b → Contains others b → ⊥
  others_apart b w d = fresh_apart p b w (subst (λ (xs : List ℕ). Contains xs b) all_fresh d)

  abbrev pub new : Held
  new = extended h entries fresh

  pub writes : WritesData l held h more others plan.size
  writes = writes_data l held h kind plan p.runs entries described fresh others runs_free others_apart right.small right.top right.last h.tail

  pub names : SameNames l h new
  names = quiet_grown l h (end_of fresh 0 h.tail entries) more others (all_quiet l.sup more (good_writes l held h kind plan p.runs entries described fresh others runs_free others_apart right.small right.top right.last h.tail))

  pub some_placed : 0 < length more
  some_placed = (let count = placed_count fresh 0 h.tail entries in let there = described.there in omega (arith, count, there))

  size_held : row.numbers.size ≡ size_of (good_in l h)
  size_held = (let told = shows.told in let numbers = told.numbers in numbers.size)

  -- no page was cut
  pub below_size : (q b : ℕ) → block_of (good_in l h) q ≡ Some b → q * 4096 < plan.size
  below_size q b at =
      let less = page_below l.sup h.kind h.entries q b at in
      let grows = right.grows in
      omega (arith, less, grows, size_held)

  -- The numbers, once size and time are those of the write.
  pub numbers_held : AreNumbers h.created (good_in l new) (record row.numbers { size = plan.size; time = plan.time })
  numbers_held =
      let told = shows.told in
      written_numbers l held h (end_of fresh 0 h.tail entries) more others plan.size plan.time writes some_placed (timed l held h kind plan p.runs entries described fresh others runs_free others_apart right.small right.top right.last h.tail)
      (λ x d. (let w = good_writes l held h kind plan p.runs entries described fresh others runs_free others_apart right.small right.top right.last h.tail x d in (w.0, w.1))) row.numbers told.numbers names

  -- The index, once the entries' pages are mapped.
  pub index_held : (old now : Pages) → ((q : ℕ) → block_at old q ≡ block_of (good_in l h) q) → MapsEntries old entries now → (q : ℕ) → block_at now q ≡ block_of (good_in l new) q
  index_held old now was maps = written_index l held h (end_of fresh 0 h.tail entries) fresh entries others plan.size writes some_placed old now was below_size maps

  clean : NoEntryFault l.sup h.kind row.inode new.entries
  clean =
      let sound = shows.sound in
      let faultless = sound.faultless in
      subst (λ (k : Kind). NoEntryFault l.sup k row.inode new.entries) (sym kind)
      (all_clean l.sup row.inode h.entries more (good_writes l held h kind plan p.runs entries described fresh others runs_free others_apart right.small right.top right.last h.tail)
      (subst (λ (k : Kind). NoEntryFault l.sup k row.inode h.entries) kind (λ f fault. faultless.clean row.inode h f shows.holds fault)))

  faultless : IsFaultless l (with_log held row.inode h entries fresh)
  faultless =
      let sound = shows.sound in
      still_faultless l held row.inode h new shows.holds names clean
      (data_owns l held row.inode h new shows.holds others (grows l held h (end_of fresh 0 h.tail entries) more others plan.size writes row.inode shows.holds others_free) undoubled (pages_once {S = S} can moved)) sound.faultless

  pub sound_after : ShowsSound S l (with_log held row.inode h entries fresh)
  sound_after = sound_moves c.mid S l held (with_log held row.inode h entries fresh) mid_sound moved.front moved.shows faultless

  -- the pages that were written
  abbrev pub pages_there : List Run
  pages_there = written_pages more

  -- a block of one of the entries was taken
  pub entry_block_taken : (e : WriteEntry) → Contains entries (Write e) → (k : ℕ) → k < e.count → HasBlock p.runs (e.block + k)
  entry_block_taken e there k low =
      let v = described.each (Write e) there in
      let same : e ≡ v.0 = some_write e v.0 v.1 in
      let block : e.block ≡ v.0.block = ap (λ (x : WriteEntry). x.block) same in
      let count : e.count ≡ v.0.count = ap (λ (x : WriteEntry). x.count) same in
      v.6 (e.block + k) (omega (arith, block)) (omega (arith, block, count, low))

  -- ---- the bytes of all files

  pub bytes_before : (i : ℕ) (g : Held) → held i ≡ Some g → (x : ℕ) → byte_of S l g x ≡ byte_of R l g x
  bytes_before i g is x =
      let sound = shows.sound in
      extended_bytes can c.mixed i g is x ∙ loose_data l held R c.mid i g (sound_clear sound) undoubled sound.shows loose is x

  -- ---- the free lists

  replaced_is : (b : ℕ) → LetsGo l h new b ↔ HasBlock (replaced_blocks row.index plan) b
  replaced_is b =
      let told = shows.told in
      let both = gone_is l held h (end_of fresh 0 h.tail entries) more others plan.size writes row.inode shows.holds undoubled others_free some_placed b in
      let known = are_replaced row.index plan in (
        (λ gone. (
            let v = both.0 gone in
            elim v.2 [
              | inl written ↦ known.all v.0 b (told.index v.0 ∙ v.1) ((described.pages v.0).0 (subst (λ (xs : List Run). HasBlock xs v.0) (placed_pages fresh 0 h.tail entries) written))
              | inr cut ↦ absurd (let under = below_size v.0 b v.1 in omega (arith, under, cut))
            ])),
        (λ w. (
            let v = known.each b w in
            both.1 (v.0, sym (told.index v.0) ∙ v.1, inl (subst (λ (xs : List Run). HasBlock xs v.0) (sym (placed_pages fresh 0 h.tail entries)) ((described.pages v.0).1 v.2))))),
      )

  taken_is : (b : ℕ) → WasTaken (p.runs ∷ single_takes fresh) b ↔ (Contains others b ⊎ HasBlock (written_blocks more) b)
  taken_is b = (
    (λ w. elim w [
      | inl run ↦ inr (subst (λ (xs : List Run). HasBlock xs b) (sym (placed_blocks fresh 0 h.tail entries)) ((described.blocks b).1 run))
      | inr page ↦ inl (subst (λ (xs : List ℕ). Contains xs b) (sym all_fresh) (is_taken fresh b page))
    ]),
    (λ w. elim w [
      | inl page ↦ inr (was_taken fresh b (subst (λ (xs : List ℕ). Contains xs b) all_fresh page))
      | inr run ↦ inl ((described.blocks b).0 (subst (λ (xs : List Run). HasBlock xs b) (placed_blocks fresh 0 h.tail entries) run))
    ]),
  )

  free_now : (b : ℕ) → IsUnowned l (with_log held row.inode h entries fresh) b ↔ ((IsUnowned l held b × (WasTaken (p.runs ∷ single_takes fresh) b → ⊥)) ⊎ HasBlock (replaced_blocks row.index plan) b)
  free_now b =
      let both = free_then l held h (end_of fresh 0 h.tail entries) more others plan.size writes row.inode shows.holds undoubled others_free b in
      let took = taken_is b in
      let gone = replaced_is b in (
        (λ now. elim (both.0 now) [
          | inl v ↦ inl (v.0, λ w. elim (took.0 w) [ inl page ↦ v.1 page | inr run ↦ v.2 run ])
          | inr left ↦ inr (gone.0 left)
        ]),
        (λ either. both.1 (elim either [
          | inl v ↦ inl (v.0, (λ page. v.1 (took.1 (inl page))), (λ run. v.1 (took.1 (inr run))))
          | inr back ↦ inr (gone.1 back)
        ])),
      )

  pub lists_after : (given : FreeLists) → JoinAll after (replaced_blocks row.index plan) given → KeepsFree l (with_log held row.inode h entries fresh) given.pools
  lists_after given joins =
      lists_change l held (with_log held row.inode h entries fresh) p.from after given (p.runs ∷ single_takes fresh) (replaced_blocks row.index plan)
      (subst (λ (pools : List (List Run)). KeepsFree l held pools) (sym p.same.pools) shows.lists) (p.same.sup ∙ lists) (all_taken p) joins free_now

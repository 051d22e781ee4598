-- A file that gets longer, whose last page was copied: its log, its row, its free blocks and its bytes.
use Rattle.std.proofs.Common.{◌≡◌, ◌↔◌, ℕ, suc, ◌+◌, ◌-◌, ◌*◌, ◌/◌, ◌%◌, ◌<◌, ◌≤◌, ◌⊎◌, inl, inr, Bool, true, false, cond, not, ◌&&◌, nat_lt, nat_le, nat_eq, is_some, List, [], ◌∷◌, ◌++◌, length, take, take_all, slice_index, refl, ap, sym, ◌∙◌, subst, arith, Option, Some, None, Result, Ok, Err, OnOk}
use Rattle.std.specs.List.{Contains}
use Rattle.std.proofs.lemmas.Bool.{cases_eq, cases_lt, le-ltb, lt-ltb}
use Rattle.std.proofs.lemmas.Bool.Decides.{nat_tests}
use Rattle.std.proofs.lemmas.List.{get_or_default}
use Rattle.std.proofs.lemmas.Option.{none-some, same_Some}
use Rattle.nv_region.specs.Region.{Region}
use Rattle.nv_region.specs.Stops.{IsMixed}
use Rattle.nv_region.proofs.Stops.{mixed_same}
use Rattle.nv_region.proofs.Wordwise.{mixed_more}
use Rattle.nv_super.specs.Layout.{Layout}
use Rattle.nv_super.specs.declared.owners.Run.{Run}
use Rattle.nv_super.specs.declared.owners.Owner.TheVariants as owners
use Rattle.nv_super.proofs.Rising.{Contains-cons, Contains-head, Contains-tail}
use Rattle.nv_alloc.specs.FreeValue.{FreeLists}
use Rattle.nv_alloc.specs.FreeLists.{Joins}
use Rattle.nv_alloc.specs.Taking.{HasBlock, block_run, TakesSingly}
use Rattle.nv_alloc.proofs.Singly.{single_is}
use Rattle.nv_entry.specs.declared.entry.AttrEntry.{AttrEntry}
use Rattle.nv_entry.specs.declared.entry.WriteEntry.{WriteEntry}
use Rattle.nv_entry.specs.declared.entry.Entry.{Entry}
use Rattle.nv_entry.specs.declared.entry.Entry.TheVariants.{Attr, Write}
use Rattle.nv_logpage.specs.declared.found.Placed.{Placed}
use Rattle.nv_logpage.specs.Reads.{placed}
use Rattle.nv_logpage.specs.Append.{end_of, needed, pages_after, place_of}
use Rattle.nv_radix.specs.Pages.{Pages, block_at, in_run}
use Rattle.nv_names.specs.Names.{Names, name_at}
use Rattle.nv_scan.specs.State.{block_of}
use Rattle.nv_scan.specs.declared.piece.Row.{Row}
use Rattle.nv_mounted.specs.Held.{Held, Store, good_in}
use Rattle.nv_mounted.specs.Blocks.{IsUnowned, KeepsFree}
use Rattle.nv_mounted.specs.Bytes.{byte_in}
use Rattle.nv_mounted.specs.Grows.{AreFree}
use Rattle.nv_mounted.specs.Lists.{WasTaken}
use Rattle.nv_mounted.specs.Loose.{Loose}
use Rattle.nv_mounted.specs.Mounted.{KeepsRow, ShowsSound}
use Rattle.nv_mounted.specs.Writes.{IsReplaced, WritesData}
use Rattle.nv_mounted.proofs.DataGrows.{cut, kept, written}
use Rattle.nv_mounted.proofs.Fronts.{loose_sound, sound_clear}
use Rattle.nv_mounted.proofs.Kept.{page_owner, tail_there}
use Rattle.nv_mounted.proofs.Shown.{stands_at}
use Rattle.nv_mounted.proofs.BytesKept.{byte_stays}
use Rattle.nv_commit.specs.Extends.{CanExtend, ExtendWords, ShowsMoved, extended, with_log}
use Rattle.nv_bytes.specs.Bytes.{byte_after}
use Rattle.nv_bytes.specs.Storing.{HoldsPage, InBlocks}
use Rattle.nv_steps.specs.Grown.{HasGrown}
use Rattle.nv_steps.specs.Sizes.{CanResize, CopiesEnd, Resizes, SameBytes, end_block, resizing}
use Rattle.nv_steps.specs.Steps.{LogFollows, ShowsRow}
use Rattle.nv_steps.specs.Taken.{TakesEach}
use Rattle.nv_steps.proofs.CutFile.{Settled, file_held, lists_any, maps_below, mode_held, since}
use Rattle.nv_steps.proofs.SizedEntries.{data_names, data_numbers}
use Rattle.nv_steps.proofs.DataFollows.{data_bytes, data_follows, data_lists, data_sound}
use Rattle.nv_steps.proofs.WriteStops.{some_kept}
use Rattle.nv_steps.proofs.LogGrows.{slot_there}
use Rattle.nv_steps.proofs.ResizeEntries.{copy_writes, two_end}
use Rattle.nv_steps.proofs.TakenBlocks.{all_differ, are_free, is_taken, taken_apart, was_taken}
use Rattle.nv_steps.proofs.OneByOne.{single_takes, by_rule, takes_of}
use Rattle.nv_steps.proofs.Zeros.{one_page_zeros, zero_after}
use Rattle.nv_steps.specs.Zeros.{ZerosFrom}
use Rattle.nv_steps.specs.Slots.{slot_in}

-- What a file that ends in a page with a block, and gets longer, has there.
pub record EndsIn (m : Pages) (old new from : ℕ) : Type 0 where
  pub longer : old < new
  pub maps : block_at m (old / 4096) ≡ Some from

pub ends_in : (m : Pages) (old new from : ℕ) → end_block (block_at m) old new ≡ Some from → EndsIn m old new from
ends_in m old new from e = by (nat_lt old new) (nat_eq (old % 4096) 0) refl e where
  by : (a b : Bool) → nat_lt old new ≡ a → cond (a && not b) (block_at m (old / 4096)) None ≡ Some from → EndsIn m old new from
  by true false less e = record { longer = grind (arith, nat_tests); maps = e }
  by true true less e = absurd (none-some from e)
  by false b less e = absurd (none-some from e)

-- A page that was copied, and then a log that was extended.
pub copies_end : {E : Type 0} {R M S : Region} (from to size : ℕ) {slot tail : ℕ} {entries : List Entry} {fresh : List ℕ} (r : Result ℕ E) → HoldsPage M (byte_after 0 [] size (byte_in R (Some from))) to (size / 4096) → IsMixed R (InBlocks (λ b. b ≡ to)) M
    → ((l : Layout) (held : Store) (i : ℕ) (h : Held) → CanExtend M l held i h slot tail entries fresh → OnOk r (ShowsMoved M l (with_log held i h entries fresh) S)) → IsMixed M (ExtendWords slot tail entries fresh) S
    → OnOk r (CopiesEnd R S from to size slot tail entries fresh)
copies_end {E} {R} {M} {S} from to size (Ok a) page wrote moved extends = record { mid = M; page = page; wrote = wrote; moved = moved; extends = extends }
copies_end from to size (Err e) page wrote moved extends = tt

pub run_of_one : (p q : ℕ) → p ≡ q → in_run q 1 p ≡ true
run_of_one p q same = grind (arith, nat_tests)

pub not_in_run : (p q : ℕ) → (p ≡ q → ⊥) → in_run q 1 p ≡ false
not_in_run p q differs = grind (arith, nat_tests)

module _ {R S : Region} {l : Layout} {free mid : FreeLists} {cpu : ℕ} {row grown new : Row} {fresh : List ℕ} (x : AttrEntry) (can : CanResize R l free row x) (from to end : ℕ)
    (ends : end_block (block_at row.index) row.numbers.size x.size ≡ Some from) (taken : TakesEach free cpu (to ∷ fresh) mid) (enough : length fresh ≡ needed (row.tail % 4096) (resizing row.numbers.size x (Some to)))
    (copies : CopiesEnd R S from to row.numbers.size (slot_in l row.inode) row.tail (resizing row.numbers.size x (Some to)) fresh)
    (ending : end ≡ end_of fresh 0 row.tail (resizing row.numbers.size x (Some to))) (has_grown : HasGrown row fresh end grown)
    (settled : Settled grown x new) (index : (p : ℕ) → block_at new.index p ≡ cond (in_run (row.numbers.size / 4096) 1 p) (Some (to + (p - row.numbers.size / 4096))) (block_at grown.index p)) where
  abbrev entries : List Entry
  entries = resizing row.numbers.size x (Some to)

  abbrev page : ℕ
  page = row.numbers.size / 4096

  ending_in : EndsIn row.index row.numbers.size x.size from
  ending_in = ends_in row.index row.numbers.size x.size from ends

  -- what the take of the copied page's block leaves
  abbrev between : List (List Run)
  between = (by_rule taken).0

  -- the block is taken first, and then those of the log
  taken_first : TakesSingly free.pools cpu (to ∷ []) between
  taken_first = ((by_rule taken).0, (by_rule taken).1, refl)

  taken_then : TakesSingly between cpu fresh mid.pools
  taken_then = (by_rule taken).2

  module _ {held : Store} {h : Held} (shows : ShowsRow R l held h row free) where
    lists : free.sup ≡ l.sup
    lists = let stands = can.stands in stands.lists

    all_free : AreFree l held (to ∷ fresh)
    all_free = are_free taken l held shows.lists lists

    pub to_free : IsUnowned l held to
    to_free = all_free to (Contains-head to fresh)

    to_apart : Contains fresh to → ⊥
    to_apart c = taken_apart taken.from mid to fresh (takes_of taken) c

    tails : row.tail ≡ h.tail
    tails = let told = shows.told in told.tail

    count : length fresh ≡ needed (h.tail % 4096) entries
    count = enough ∙ ap (λ (t : ℕ). needed (t % 4096) entries) tails

    stored : IsMixed R (Loose l held) copies.mid
    stored = mixed_more (Loose l held) (InBlocks (λ b. b ≡ to)) R R copies.mid (λ k v here. inl (subst (IsUnowned l held) (sym here) to_free)) (mixed_same R (Loose l held)) copies.wrote

    sound_mid : ShowsSound copies.mid l held
    sound_mid = loose_sound R copies.mid l held shows.sound stored

    extends : CanExtend copies.mid l held row.inode h (slot_in l row.inode) row.tail entries fresh
    extends = record {
      sound = sound_mid;
      at = (let sound = shows.sound in slot_there row.inode h sound.shows shows.holds);
      holds = shows.holds;
      tail_is = sym tails;
      free = λ b c. all_free b (Contains-tail to fresh b c);
      differ = λ i j less inside. all_differ taken (suc i) (suc j) (omega (arith, less)) (omega (arith, inside));
      enough = omega (arith, enough);
      given = (refl, (refl, tt));
      some = omega arith;
    }

    moved : ShowsMoved copies.mid l (with_log held row.inode h entries fresh) S
    moved = copies.moved l held row.inode h extends

    abbrev pages : List ℕ
    pages = take (needed (h.tail % 4096) entries) fresh

    abbrev w : WriteEntry
    w = record { offset = row.numbers.size / 4096; count = 1; block = to; size = x.size; time = x.time }

    abbrev at : ℕ
    at = place_of fresh 0 h.tail (Write w)

    abbrev then : ℕ
    then = place_of fresh (pages_after 0 h.tail (Write w)) (at + 40) (Attr x)

    abbrev more : List Placed
    more = placed at (Write w) ∷ placed then (Attr x) ∷ []

    abbrev tail_now : ℕ
    tail_now = end_of fresh 0 h.tail entries

    whole : pages ≡ fresh
    whole = take_all (needed (h.tail % 4096) entries) fresh (omega (arith, count))

    writes : WritesData l held h more pages x.size
    writes = copy_writes l held h x (file_held x can shows) (mode_held x can shows) can.most pages row.numbers.size to at then (let e = ending_in in e.longer) to_free (λ c. to_apart (subst (λ (blocks : List ℕ). Contains blocks to) whole c))

    same_index : (p : ℕ) → block_at grown.index p ≡ block_of (good_in l h) p
    same_index p = let told = shows.told in ap (λ (m : Pages). block_at m p) has_grown.index ∙ told.index p

    -- the page that was copied, and no other, is written
    page_is : (p : ℕ) → HasBlock (record { start = row.numbers.size / 4096; count = 1 } ∷ []) p → p ≡ row.numbers.size / 4096
    page_is p here = single_is (row.numbers.size / 4096) p here

    page_in : HasBlock (record { start = row.numbers.size / 4096; count = 1 } ∷ []) (row.numbers.size / 4096)
    page_in = (record { start = row.numbers.size / 4096; count = 1 }, Contains-head (record { start = row.numbers.size / 4096; count = 1 }) [], omega arith, omega arith)

    unmapped_past : (p : ℕ) → x.size ≤ p * 4096 → (o : Option ℕ) → block_of (good_in l h) p ≡ o → o ≡ None
    unmapped_past p past None e = refl
    unmapped_past p past (Some b) e = absurd (let told = shows.told in let below = maps_below x can shows p b (told.index p ∙ e) in let ending_here = ending_in in let less = ending_here.longer in omega (arith, below, less, past))

    -- what a page has then
    page_now : (p : ℕ) → block_at new.index p ≡ block_of (good_in l (extended h entries fresh)) p
    page_now p = index p ∙ (elim (cases_eq p (row.numbers.size / 4096)) [
      | inl same ↦ (
          let on : in_run (row.numbers.size / 4096) 1 p ≡ true = run_of_one p (row.numbers.size / 4096) same in
          ap (λ (t : Bool). cond t (Some (to + (p - row.numbers.size / 4096))) (block_at grown.index p)) on ∙ sym (written l held h tail_now more pages x.size writes (placed at (Write w)) w p (Contains-head (placed at (Write w)) (placed then (Attr x) ∷ [])) refl on))
      | inr differs ↦ (
          let off : in_run (row.numbers.size / 4096) 1 p ≡ false = not_in_run p (row.numbers.size / 4096) differs in
          ap (λ (t : Bool). cond t (Some (to + (p - row.numbers.size / 4096))) (block_at grown.index p)) off ∙ same_index p ∙ (elim (cases_lt (p * 4096) x.size) [
            | inl below ↦ sym (kept l held h tail_now more pages x.size writes p (λ here. differs (page_is p here)) below)
            | inr past ↦ unmapped_past p past (block_of (good_in l h) p) refl ∙ sym (cut l held h tail_now more pages x.size writes p (omega arith) (λ here. differs (page_is p here)) past)
          ]))
    ])

    told_now : KeepsRow l (extended h entries fresh) new
    told_now =
        let told = shows.told in
        let has = settled.has in
        let stays_named = data_names l held h tail_now more pages x.size writes in
        record {
          kind = has.kind ∙ has_grown.kind ∙ told.kind;
          numbers = (let sized = since has_grown has in data_numbers l held h tail_now more pages x.size writes x (two_end at then w x) row.numbers new.numbers told.numbers sized.size sized.mode sized.owner sized.group sized.links sized.time);
          head = settled.head ∙ has_grown.head ∙ told.head;
          tail = settled.tail ∙ has_grown.tail ∙ ending ∙ ap (λ (t : ℕ). end_of fresh 0 t entries) tails;
          pages = settled.pages ∙ has_grown.pages ∙ ap (λ (ps : List ℕ). ps ++ fresh) told.pages ∙ ap (λ (ps : List ℕ). h.pages ++ ps) (sym whole);
          index = page_now;
          names = λ q. ap (λ (n : Names). name_at n q) (has.names ∙ has_grown.names) ∙ told.names q ∙ sym (stays_named.names q);
        }

    -- the block that is given back is that of the page that was copied
    gave : (b : ℕ) → HasBlock (block_run from ∷ []) b ↔ IsReplaced l h more x.size b
    gave b = (
      (λ has. (row.numbers.size / 4096, (let told = shows.told in let e = ending_in in sym (told.index (row.numbers.size / 4096)) ∙ e.maps ∙ ap Some (sym (single_is from b has))), inl page_in)),
      (λ v. elim v.2 [
        | inl here ↦ (
            let told = shows.told in
            let e = ending_in in
            let same : from ≡ b = same_Some from b (sym e.maps ∙ ap (block_at row.index) (sym (page_is v.0 here)) ∙ told.index v.0 ∙ v.1) in
            (block_run from, Contains-head (block_run from) [], omega (arith, same), omega (arith, same)))
        | inr past ↦ absurd (none-some b (sym (unmapped_past v.0 past (block_of (good_in l h) v.0) refl) ∙ v.1))
      ]),
    )

    took : (b : ℕ) → WasTaken (single_takes (to ∷ fresh)) b ↔ (Contains fresh b ⊎ HasBlock (block_run to ∷ []) b)
    took b = (
      (λ t. elim (Contains-cons to fresh b (is_taken (to ∷ fresh) b t)) [ inl same ↦ inr (block_run to, Contains-head (block_run to) [], omega (arith, same), omega (arith, same)) | inr c ↦ inl c ]),
      (λ either. was_taken (to ∷ fresh) b (elim either [ inl c ↦ Contains-tail to fresh b c | inr here ↦ subst (λ (n : ℕ). Contains (to ∷ fresh) n) (sym (single_is to b here)) (Contains-head to fresh) ])),
    )

    lists_now : {after : FreeLists} → Joins mid (block_run from) after → KeepsFree l (with_log held row.inode h entries fresh) after.pools
    lists_now {after} joins =
        let from_same = taken.same in
        let kept_lists = shows.lists in
        data_lists entries x.size count shows stored extends moved copies.extends writes taken.from mid after (single_takes (to ∷ fresh)) (block_run from ∷ [])
        (subst (λ (pools : List (List Run)). KeepsFree l held pools) (sym from_same.pools) kept_lists) (from_same.sup ∙ lists) (takes_of taken) (after, joins, refl) (omega arith) took gave

    pub copy_follows : (after : FreeLists) → KeepsFree l (with_log held row.inode h entries fresh) after.pools → LogFollows R S l held h entries between cpu row new after
    copy_follows after lists_then = let has = settled.has in data_follows entries x.size count shows stored extends moved copies.extends writes between mid.pools cpu taken_then new after (has.inode ∙ has_grown.inode) told_now lists_then

    -- ---- the bytes

    -- no word of the block that was copied to is stored again
    away : (k v : ℕ) → 8 * k / 4096 ≡ to → ExtendWords (slot_in l row.inode) row.tail entries fresh k v → ⊥
    away k v block (inl (inl tail)) =
        let there = (let sound = shows.sound in stands_at sound.shows row.inode h shows.holds) in
        let same : h.tail / 4096 ≡ to = ap (λ (t : ℕ). t / 4096) (sym tails) ∙ sym tail.0 ∙ block in
        let o = page_owner l held row.inode to h shows.holds (subst (λ (b : ℕ). Contains h.pages b) same (tail_there there.is.right there.is.reads)) in
        let f = to_free in
        f.unowned (owners.Log row.inode o.0) o.1
    away k v block (inl (inr one)) = to_apart (one.0, one.1, get_or_default fresh one.0 to 0 one.1 ∙ sym one.2 ∙ block)
    away k v block (inr one) =
        let sound = shows.sound in
        let slots = sound_clear sound in
        let at_slot = slot_there row.inode h sound.shows shows.holds in
        let aligned = slots.whole row.inode (slot_in l row.inode) at_slot in
        let word_is : k ≡ (slot_in l row.inode + 24) / 8 = one.0 in
        slots.unfree to to_free row.inode (slot_in l row.inode) at_slot (omega (arith, block, word_is, aligned))

    page_stays : (y : ℕ) → byte_in S (Some to) y ≡ byte_in copies.mid (Some to) y
    page_stays y = byte_stays copies.mid S (ExtendWords (slot_in l row.inode) row.tail entries fresh) (Some to) y copies.extends (λ b is k v at here. away k v (at ∙ sym (same_Some to b is)) here)

    -- the copied page has zeros behind the old end
    pub copy_zeros : ZerosFrom S row.numbers.size entries
    copy_zeros = one_page_zeros S row.numbers.size w x refl (λ y page_is past. page_stays y ∙ copies.page y page_is ∙ zero_after 0 [] row.numbers.size (byte_in R (Some from)) y (omega arith) past)

    pub copy_bytes : SameBytes R S row new x.size
    copy_bytes y below = elim (cases_eq (y / 4096) (row.numbers.size / 4096)) [
      | inl same ↦ (
          let e = ending_in in
          let on : in_run (row.numbers.size / 4096) 1 (y / 4096) ≡ true = run_of_one (y / 4096) (row.numbers.size / 4096) same in
          let none : to + (y / 4096 - row.numbers.size / 4096) ≡ to = omega (arith, same) in
          let here : block_at new.index (y / 4096) ≡ Some to = index (y / 4096) ∙ ap (λ (t : Bool). cond t (Some (to + (y / 4096 - row.numbers.size / 4096))) (block_at grown.index (y / 4096))) on ∙ ap Some none in
          let was : block_at row.index (y / 4096) ≡ Some from = ap (block_at row.index) same ∙ e.maps in
          ap (λ (o : Option ℕ). byte_in S o y) here ∙ page_stays y ∙ copies.page y same
          ∙ ap (λ (t : Bool). cond t (slice_index [] (y - 0)) (cond (nat_lt y row.numbers.size) (byte_in R (Some from) y) 0)) (no_new y)
          ∙ ap (λ (o : Option ℕ). cond (nat_lt y row.numbers.size) (byte_in R o y) 0) (sym was))
      | inr differs ↦ (
          let told = shows.told in
          let off : in_run (row.numbers.size / 4096) 1 (y / 4096) ≡ false = not_in_run (y / 4096) (row.numbers.size / 4096) differs in
          let here : block_at new.index (y / 4096) ≡ block_at row.index (y / 4096) = index (y / 4096) ∙ ap (λ (t : Bool). cond t (Some (to + (y / 4096 - row.numbers.size / 4096))) (block_at grown.index (y / 4096))) off ∙ ap (λ (m : Pages). block_at m (y / 4096)) has_grown.index in
          let same_bytes : byte_in S (block_at row.index (y / 4096)) y ≡ byte_in R (block_at row.index (y / 4096)) y = ap (λ (o : Option ℕ). byte_in S o y) (told.index (y / 4096)) ∙ data_bytes entries x.size count shows stored extends moved copies.extends writes row.inode h shows.holds y ∙ ap (λ (o : Option ℕ). byte_in R o y) (sym (told.index (y / 4096))) in
          ap (λ (o : Option ℕ). byte_in S o y) here ∙ same_bytes ∙ (elim (cases_lt y row.numbers.size) [
            | inl low ↦ (let less = lt-ltb y row.numbers.size low in sym (ap (λ (t : Bool). cond t (byte_in R (block_at row.index (y / 4096)) y) 0) less))
            | inr high ↦ (let past = le-ltb y row.numbers.size high in zeros y high differs (block_at row.index (y / 4096)) refl ∙ sym (ap (λ (t : Bool). cond t (byte_in R (block_at row.index (y / 4096)) y) 0) past))
          ]))
    ] where
      no_new : (y : ℕ) → (nat_le 0 y && nat_lt y (0 + 0)) ≡ false
      no_new y = by (nat_le 0 y) (nat_lt y 0) (le-ltb y 0 (omega arith)) where
        by : (a b : Bool) → b ≡ false → (a && b) ≡ false
        by true b off = off
        by false b off = refl

      zeros : (y : ℕ) → row.numbers.size ≤ y → (y / 4096 ≡ row.numbers.size / 4096 → ⊥) → (o : Option ℕ) → block_at row.index (y / 4096) ≡ o → byte_in R o y ≡ 0
      zeros y past differs None at = refl
      zeros y past differs (Some b) at = absurd (let begins = maps_below x can shows (y / 4096) b at in omega (arith, begins, past, differs))

  -- What the call makes of the file.
  pub copy_resizes : {after : FreeLists} → Joins mid (block_run from) after → Resizes R S l free cpu row x new after
  copy_resizes {after} joins = record {
    to = Some to;
    copied = ap is_some (sym ends);
    between = between;
    taken = taken_first;
    numbers = since has_grown settled.has;
    fresh = λ held h shows b at. subst (IsUnowned l held) (same_Some to b at) (to_free shows);
    follows = λ held h shows. copy_follows shows after (lists_now shows joins);
    bytes = λ held h shows. copy_bytes shows;
    zeros = λ held h shows. copy_zeros shows;
  }

  -- There are free lists for it, whatever was given back.
  pub copy_some : {held : Store} {h : Held} → ShowsRow R l held h row free → (after : FreeLists) × Resizes R S l free cpu row x new after × (after.sup ≡ free.sup)
  copy_some {held} {h} shows =
      let w = some_kept (data_sound entries x.size (count shows) shows (stored shows) (extends shows) (moved shows) copies.extends (writes shows)) in
      let keeps = w.2 in (
        record free { pools = w.1 },
        record {
          to = Some to;
          copied = ap is_some (sym ends);
          between = between;
          taken = taken_first;
          numbers = since has_grown settled.has;
          fresh = λ st g seen b at. subst (IsUnowned l st) (same_Some to b at) (to_free seen);
          follows = λ st g seen. copy_follows seen (record free { pools = w.1 }) (lists_any shows seen entries fresh w.1 keeps.in_lists);
          bytes = λ st g seen. copy_bytes seen;
          zeros = λ st g seen. copy_zeros seen;
        },
        refl,
      )

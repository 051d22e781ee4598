-- What the steps of a write ask for, by what was prepared.
use Rattle.std.proofs.Common.{◌≡◌, ℕ, ◌+◌, ◌-◌, ◌/◌, ◌<◌, ◌≤◌, inl, inr, List, [], ◌∷◌, ap, sym, ◌∙◌, subst, arith, true, Option, Some, None, IfSome}
use Rattle.std.specs.List.{Contains}
use Rattle.nv_region.specs.Region.{Region}
use Rattle.nv_super.specs.declared.superblock.Super.{Super}
use Rattle.nv_super.specs.Layout.{system_blocks, Layout}
use Rattle.nv_super.specs.Runs.{InRun}
use Rattle.nv_super.proofs.Members.{none_in}
use Rattle.nv_super.proofs.Rising.{Contains-cons}
use Rattle.nv_alloc.specs.FreeValue.{FreeLists}
use Rattle.nv_alloc.specs.FreeLists.{IsFreeIn}
use Rattle.nv_alloc.specs.Taking.{HasBlock}
use Rattle.nv_alloc.proofs.Leaving.{first_block, later_block}
use Rattle.nv_entry.specs.declared.entry.WriteEntry.{WriteEntry}
use Rattle.nv_entry.specs.declared.entry.Entry.{Entry}
use Rattle.nv_entry.specs.declared.entry.Entry.TheVariants.{NextPage, Write, Attr, Name, Links}
use Rattle.nv_logpage.specs.Append.{CanAppend}
use Rattle.nv_bytes.specs.Storing.{AreFresh}
use Rattle.nv_radix.specs.Pages.{AreReady, Pages, block_at, is_ready}
use Rattle.nv_scan.specs.declared.piece.Row.{Row}
use Rattle.nv_steps.specs.Grown.{StandsRight}
use Rattle.nv_steps.specs.Writes.{CanGive, replaced_blocks}
use Rattle.nv_steps.specs.Written.{AreSettled, AreSmall, FileStands, Prepared, entry_blocks, entry_pages}
use Rattle.nv_steps.specs.declared.planning.Plan.{Plan}
use Rattle.nv_steps.proofs.DataEntries.{Describes, IsWritten, describes}
use Rattle.nv_steps.proofs.EntrySteps.{pages_of}
use Rattle.nv_steps.proofs.LogGrows.{can_append}
use Rattle.nv_steps.proofs.PreparedBlocks.{fits, free_before, from_before, prepared_sup, runs_in_data, runs_were_free}
use Rattle.nv_steps.proofs.Replaced.{are_replaced}
use Rattle.nv_steps.proofs.StoredEntries.{some_write}
use Rattle.nv_steps.proofs.WriteFollows.{IsRight}

-- a page of one of the entries is written
page_among : (entries : List Entry) (w : WriteEntry) (q : ℕ) → Contains entries (Write w) → InRun (pages_of w) q → HasBlock (entry_pages entries) q
page_among [] w q c here = absurd (none_in (Write w) c)
page_among (e ∷ entries) w q c here = elim (Contains-cons e entries (Write w) c) [
  | inl same ↦ subst (λ (x : Entry). HasBlock (entry_pages (x ∷ entries)) q) same (first_block (pages_of w) (entry_pages entries) q here)
  | inr rest ↦ over e (page_among entries w q rest here)
] where
  over : (e : Entry) → HasBlock (entry_pages entries) q → HasBlock (entry_pages (e ∷ entries)) q
  over (Write v) there = later_block (pages_of v) (entry_pages entries) q there
  over NextPage there = there
  over (Attr v) there = there
  over (Name v) there = there
  over (Links v) there = there

module _ {R : Region} {l : Layout} {free after : FreeLists} {row : Row} {cpu : ℕ} {plan : Plan} {entries : List Entry} {fresh : List ℕ}
    (stands : StandsRight R l free row) (file : FileStands R l.sup free row) (right : IsRight row plan) (below : cpu < free.sup.cpus) (p : Prepared free cpu row.tail plan entries fresh after) where
  pub told : Describes plan p.runs entries
  told = subst (Describes plan p.runs) (sym p.says) (describes plan p.runs (fits p below right.some right.before))

  in_data : (b : ℕ) → HasBlock (entry_blocks entries) b → (system_blocks l.sup ≤ b) × (b < l.sup.blocks)
  in_data b w = subst (λ (t : Super). (system_blocks t ≤ b) × (b < t.blocks)) stands.lists (runs_in_data p b ((told.blocks b).0 w))

  -- ---- what storing asks for

  pub blocks_fresh : (index : Pages) → ((q : ℕ) → block_at index q ≡ block_at row.index q) → AreFresh R index (entry_blocks entries)
  blocks_fresh index same = record {
    inside = λ b w. (let place = in_data b w in let blocks = stands.blocks in omega (arith, place.1, blocks));
    once = told.blocks_once;
    apart = λ q b at w. (let f = runs_were_free p b ((told.blocks b).0 w) in file.used q b f.0 (sym (same q) ∙ at) f.1);
  }

  pub entries_small : AreSmall entries
  entries_small w c =
      let v = told.each (Write w) c in
      let same : w ≡ v.0 = some_write w v.0 v.1 in
      let page : w.offset ≡ v.0.offset = ap (λ (x : WriteEntry). x.offset) same in
      let count : w.count ≡ v.0.count = ap (λ (x : WriteEntry). x.count) same in
      let top = right.top in
      let high = v.3 in
      omega (arith, page, count, top, high)

  stands_between : StandsRight R l p.mid row
  stands_between = record {
    laid = stands.laid;
    lists = p.took.sup ∙ p.same.sup ∙ stands.lists;
    number = stands.number;
    whole = stands.whole;
    inside = stands.inside;
    aligned = stands.aligned;
    offset = stands.offset;
    blocks = stands.blocks;
    in_blocks = stands.in_blocks;
    used = λ c there. stands.used c (was_free c (row.tail / 4096) there);
  } where
    was_free : (c b : ℕ) → IsFreeIn p.mid c b → IsFreeIn free c b
    was_free c b there = from_before p c b (p.leave.stays c b there)

  pub can_append_entries : CanAppend R row.tail entries fresh
  can_append_entries = can_append entries stands_between p.taken p.count told.given

  -- ---- what settling asks for

  pub pages_settled : (index : Pages) → AreReady index plan.first plan.pages → IfSome plan.ending (λ q. AreReady index q 1) → AreSettled index entries
  pages_settled index first last w c =
      let v = told.each (Write w) c in
      let same : w ≡ v.0 = some_write w v.0 v.1 in
      let block : w.block ≡ v.0.block = ap (λ (x : WriteEntry). x.block) same in
      let count : w.count ≡ v.0.count = ap (λ (x : WriteEntry). x.count) same in
      let some = v.2 in
      let place = runs_in_data p (v.0.block + v.0.count - 1) (v.6 (v.0.block + v.0.count - 1) (omega (arith, some)) (omega (arith, some))) in
      let few = stands.laid.layout.areas.blocks_to in
      let blocks : free.sup.blocks ≡ l.sup.blocks = ap (λ (t : Super). t.blocks) stands.lists in
      (λ q low high. ready_page q ((told.pages q).0 (page_among entries w q c (low, high))), omega (arith, block, count, place.1, few, blocks))
    where
      ready_ending : (o : Option ℕ) (q : ℕ) → o ≡ Some q → IfSome o (λ k. AreReady index k 1) → is_ready index q ≡ true
      ready_ending None q is ready = absurd (cc)
      ready_ending (Some k) q is ready = (let same : k ≡ q = cc in ready q (omega (arith, same)) (omega (arith, same)))

      ready_page : (q : ℕ) → IsWritten plan q → is_ready index q ≡ true
      ready_page q (inl ends) = ready_ending plan.ending q ends last
      ready_page q (inr v) = first q v.0 v.1

  -- ---- what giving back asks for

  pub can_give_replaced : CanGive after (replaced_blocks row.index plan)
  can_give_replaced =
      let known = are_replaced row.index plan in
      let sups : after.sup ≡ l.sup = prepared_sup p ∙ stands.lists in
      record {
        «data» = λ b w. (let v = known.each b w in subst (λ (t : Super). (system_blocks t ≤ b) × (b < t.blocks)) (sym sups) (file.data v.0 b v.1));
        used = λ c b w there. (let v = known.each b w in file.used v.0 b c v.1 (free_before p c b there));
        once = known.once file.once right.before;
      }

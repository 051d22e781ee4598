-- What is owed where a file's last page is copied, and what its copy is made of.
use Rattle.std.proofs.Common.{◌≡◌, ℕ, zero, suc, ◌+◌, ◌*◌, ◌/◌, ◌%◌, ◌<◌, ◌≤◌, Bool, true, false, cond, ◌||◌, ◌==◌, List, [], ◌∷◌, length, get_or, refl, ap, sym, ◌∙◌, subst, arith, Some, ◌^◌}
use Rattle.std.specs.List.{Contains}
use Rattle.std.proofs.lemmas.List.{get_or_default}
use Rattle.std.proofs.lemmas.Option.{none-some}
use Rattle.nv_region.specs.Region.{Region, size}
use Rattle.nv_super.specs.declared.superblock.Super.{Super}
use Rattle.nv_super.proofs.Rising.{Contains-head, Contains-tail}
use Rattle.nv_super.specs.Layout.{Layout}
use Rattle.nv_alloc.specs.FreeValue.{FreeLists}
use Rattle.nv_alloc.specs.FreeLists.{CanJoin}
use Rattle.nv_alloc.specs.Taking.{block_run}
use Rattle.nv_entry.specs.declared.entry.AttrEntry.{AttrEntry}
use Rattle.nv_entry.specs.declared.entry.Entry.{Entry}
use Rattle.nv_logpage.specs.Append.{AreGiven, CanAppend, EndBy, end_of, needed}
use Rattle.nv_radix.specs.Pages.{Pages, block_at, is_ready}
use Rattle.nv_scan.specs.declared.numbers.Numbers.{Numbers}
use Rattle.nv_scan.specs.declared.piece.Row.{Row}
use Rattle.nv_steps.specs.Sizes.{CanResize, CopiesEnd, HasSize, end_block}
use Rattle.nv_steps.specs.Taken.{TakesEach}
use Rattle.nv_steps.proofs.CopiedEnd.{ends_in}
use Rattle.nv_steps.proofs.GivenPages.{gives_none, next_joins, own_taken}
use Rattle.nv_steps.proofs.TakenBlocks.{differ_rest, differ_with, each_in_data, each_was_free}

-- a page that maps to a block is ready
pub mapped_ready : (m : Pages) (p b : ℕ) → block_at m p ≡ Some b → is_ready m p ≡ true
mapped_ready [] p b at = absurd (none-some b at)
mapped_ready (y ∷ m) p b at = by (y.0 == p) (mapped_ready m p b) at where
  by : (t : Bool) → (block_at m p ≡ Some b → is_ready m p ≡ true) → cond t y.1 (block_at m p) ≡ Some b → (t || is_ready m p) ≡ true
  by true rest at = refl
  by false rest at = rest at

module _ {R : Region} {l : Layout} {free mid : FreeLists} {cpu : ℕ} {row : Row} {x : AttrEntry} {to : ℕ} {fresh : List ℕ} (can : CanResize R l free row x) (taken : TakesEach free cpu (to ∷ fresh) mid) where
  data_end : (b : ℕ) → Contains (to ∷ fresh) b → b * 4096 + 4096 ≤ size R
  data_end b c =
      let stands = can.stands in
      let blocks = stands.blocks in
      let below = (each_in_data taken b c).1 in
      let lists : free.sup.blocks ≡ l.sup.blocks = ap (λ (t : Super). t.blocks) stands.lists in
      omega (arith, below, blocks, lists)

  -- The entries can be written behind the tail.
  pub copy_appends : (entries : List Entry) → length fresh ≡ needed (row.tail % 4096) entries → AreGiven entries → CanAppend R row.tail entries fresh
  copy_appends entries count given =
      let stands = can.stands in record {
        whole = stands.aligned;
        offset = stands.offset;
        given = given;
        enough = omega (arith, count);
        differ = differ_rest (row.tail / 4096) to fresh (differ_with taken (row.tail / 4096) stands.used);
        inside = inside;
      }
    where
      inside : EndBy (row.tail / 4096 ∷ fresh) (size R)
      inside zero below = (let stands = can.stands in let blocks = stands.blocks in let page = stands.in_blocks in omega (arith, blocks, page))
      inside (suc j) below = (let end = data_end (get_or fresh j 0) (Contains-tail to fresh (get_or fresh j 0) (j, omega (arith, below), get_or_default fresh j (get_or fresh j 0) 0 (omega (arith, below)))) in omega (arith, end))

  -- The block that was taken lies inside the region.
  pub to_inside : to * 4096 + 4096 ≤ size R
  to_inside = data_end to (Contains-head to fresh)

  module _ {from : ℕ} (ends : end_block (block_at row.index) row.numbers.size x.size ≡ Some from) where
    maps : block_at row.index (row.numbers.size / 4096) ≡ Some from
    maps = let e = ends_in row.index row.numbers.size x.size from ends in e.maps

    -- The page's block lies inside the region.
    pub from_inside : from * 4096 + 4096 ≤ size R
    from_inside =
        let own = can.own in
        let stands = can.stands in
        let below = (own.in_data (row.numbers.size / 4096) from maps).1 in
        let blocks = stands.blocks in
        let lists : free.sup.blocks ≡ l.sup.blocks = ap (λ (t : Super). t.blocks) stands.lists in
        omega (arith, below, blocks, lists)

    -- The page's number is small.
    pub page_small : row.numbers.size / 4096 < 2 ^ 32
    page_small =
        let longer = (ends_in row.index row.numbers.size x.size from ends).longer in
        let most = can.most in
        omega (arith, longer, most)

    -- It isn't the page's block.
    pub to_differs : from ≡ to → ⊥
    to_differs same =
        let own = can.own in
        let f = each_was_free taken to (Contains-head to fresh) in
        own.used (row.numbers.size / 4096) to f.0 (maps ∙ ap Some same) f.1

    -- The page's block can be given back.
    pub from_joins : CanJoin mid (block_run from)
    from_joins = next_joins (own_taken taken can.own) (omega arith) (gives_none mid row.index (row.numbers.size / 4096)) from maps

    -- The page is ready.
    pub end_ready : {m : Pages} → m ≡ row.index → (p : ℕ) → row.numbers.size / 4096 ≤ p → p < row.numbers.size / 4096 + 1 → is_ready m p ≡ true
    end_ready {m} same p low high =
        let here : row.numbers.size / 4096 ≡ p = omega (arith, low, high) in
        subst (λ (k : Pages). is_ready k p ≡ true) (sym same) (mapped_ready row.index p from (ap (block_at row.index) (sym here) ∙ maps))

-- the copy, by what its slot, its entries and its pages are
pub copies_as : {R S : Region} {from to size slot at tail : ℕ} {es entries : List Entry} {given fresh : List ℕ} → slot ≡ at → es ≡ entries → given ≡ fresh → CopiesEnd R S from to size slot tail es given → CopiesEnd R S from to size at tail entries fresh
copies_as {R} {S} {from} {to} {size} {slot} {at} {tail} {es} {entries} {given} {fresh} same_slot same_entries same_pages copies =
    subst (λ (a : ℕ). CopiesEnd R S from to size a tail entries fresh) same_slot
    (subst (λ (e : List Entry). CopiesEnd R S from to size slot tail e fresh) same_entries (subst (λ (blocks : List ℕ). CopiesEnd R S from to size slot tail es blocks) same_pages copies))

-- A row with other numbers and another index.
pub numbered : {mid : Row} {x : AttrEntry} {index : Pages} {numbers : Numbers} → numbers ≡ record { size = x.size; mode = x.mode; owner = x.owner; group = x.group; links = mid.numbers.links; time = x.time } → HasSize mid x (record mid { numbers = numbers; index = index })
numbered {mid} {x} {index} {numbers} is = record {
  inode = refl;
  kind = refl;
  size = ap (λ (n : Numbers). n.size) is;
  mode = ap (λ (n : Numbers). n.mode) is;
  owner = ap (λ (n : Numbers). n.owner) is;
  group = ap (λ (n : Numbers). n.group) is;
  links = ap (λ (n : Numbers). n.links) is;
  time = ap (λ (n : Numbers). n.time) is;
  names = refl;
}

-- the end of the log, by what its entries and its pages are
pub ends_as : {end : ℕ} (tail : ℕ) {es entries : List Entry} {given fresh : List ℕ} → given ≡ fresh → es ≡ entries → end ≡ end_of given 0 tail es → end ≡ end_of fresh 0 tail entries
ends_as {end} tail {es} {entries} {given} {fresh} same_pages same_entries is = is ∙ ap (λ (blocks : List ℕ). end_of blocks 0 tail es) same_pages ∙ ap (λ (e : List Entry). end_of fresh 0 tail e) same_entries

-- What a write makes of the row of its file.
use Rattle.std.proofs.Common.{◌≡◌, ℕ, ◌+◌, ◌-◌, ◌*◌, ◌/◌, ◌%◌, ◌<◌, ◌≤◌, inl, inr, max, List, ◌++◌, length, ap, sym, ◌∙◌, subst, arith, Option, Some}
use Rattle.std.specs.List.{Contains}
use Rattle.std.proofs.lemmas.List.{get_or_default}
use Rattle.std.proofs.lemmas.Option.{same_Some}
use Rattle.nv_region.specs.Region.{Region}
use Rattle.nv_super.specs.Layout.{Layout}
use Rattle.nv_super.specs.declared.owners.Run.{Run}
use Rattle.nv_super.specs.declared.kind.Kind.TheVariants.{File}
use Rattle.nv_alloc.specs.FreeValue.{FreeLists}
use Rattle.nv_alloc.specs.FreeLists.{JoinAll}
use Rattle.nv_alloc.specs.Taking.{HasBlock, Takes}
use Rattle.nv_entry.specs.declared.entry.Entry.{Entry}
use Rattle.nv_entry.specs.declared.entry.Entry.TheVariants.{Write}
use Rattle.nv_logpage.specs.Append.{appended, end_of, needed}
use Rattle.nv_bytes.specs.Bytes.{LieInside, byte_after, file_byte}
use Rattle.nv_outcome.specs.Same.{SameRow}
use Rattle.nv_names.specs.Names.{Names, name_at}
use Rattle.nv_radix.specs.Pages.{Pages, block_at}
use Rattle.nv_scan.specs.declared.numbers.Numbers.{Numbers}
use Rattle.nv_scan.specs.declared.piece.Row.{Row}
use Rattle.nv_scan.specs.Rows.{AreNumbers}
use Rattle.nv_mounted.specs.Held.{Held, Store, good_in}
use Rattle.nv_mounted.specs.Blocks.{KeepsFree}
use Rattle.nv_mounted.specs.Bytes.{byte_in}
use Rattle.nv_mounted.specs.Mounted.{KeepsRow}
use Rattle.nv_mounted.proofs.Written.{EntryOf, in_runs, page_entry}
use Rattle.nv_mounted.proofs.BytesKept.{byte_stays}
use Rattle.nv_commit.specs.Extends.{ExtendWords, extended, with_log}
use Rattle.nv_commit.proofs.Extends.{slots}
use Rattle.nv_steps.specs.Grown.{StandsRight}
use Rattle.nv_steps.specs.Steps.{LogFollows, ShowsRow}
use Rattle.nv_steps.specs.Writes.{data_blocks, plan_of, replaced_blocks}
use Rattle.nv_steps.specs.Zeros.{ZerosFrom}
use Rattle.nv_steps.specs.Written.{Commits, FileStands, HasWritten, Prepared, WritesFile, entry_pages}
use Rattle.nv_steps.specs.declared.planning.Plan.{Plan}
use Rattle.nv_steps.proofs.DataEntries.{IsWritten}
use Rattle.nv_steps.proofs.PreparedBlocks.{fresh_apart, runs_were_free}
use Rattle.nv_steps.proofs.WriteFollows as made
use Rattle.nv_steps.proofs.WriteFollows.{IsRight}
use Rattle.nv_steps.proofs.WriteGood.{placed_entry, placed_pages}
use Rattle.nv_steps.proofs.WrittenBytes.{unwritten_byte}
use Rattle.nv_steps.proofs.OneByOne.{by_rule}
use Rattle.nv_steps.proofs.Zeros.{zero_after}
use Rattle.nv_steps.specs.Slots.{slot_in}

module _ {R S : Region} {l : Layout} {row now : Row} {free after : FreeLists} {cpu : ℕ} {plan : Plan} {entries : List Entry} {fresh : List ℕ} {bytes : ℕ → ℕ}
    (stands : StandsRight R l free row) (is_file : row.kind ≡ File) (file : FileStands R l.sup free row) (below : cpu < free.sup.cpus) (right : IsRight row plan)
    (p : Prepared free cpu row.tail plan entries fresh after) (c : Commits R S l row.inode (slot_in l row.inode) row.tail bytes entries fresh)
    (has : HasWritten row plan entries fresh (end_of fresh 0 row.tail entries) now) where
  module _ {held : Store} {h : Held} (shows : ShowsRow R l held h row free) where
    tails : row.tail ≡ h.tail
    tails = (let told = shows.told in told.tail)

    kept : KeepsRow l (extended h entries fresh) now
    kept =
        let told = shows.told in
        let names = made.names shows stands.lists is_file below right p c in
        record {
          kind = has.kind ∙ told.kind;
          numbers = subst (AreNumbers h.created (good_in l (extended h entries fresh))) (sym has.numbers) (made.numbers_held shows stands.lists is_file below right p c);
          head = has.head ∙ told.head;
          tail = has.tail ∙ ap (λ (t : ℕ). end_of fresh 0 t entries) tails;
          pages = has.pages ∙ ap (λ (ps : List ℕ). ps ++ fresh) told.pages ∙ ap (λ (ps : List ℕ). h.pages ++ ps) (sym (made.all_fresh shows stands.lists is_file below right p c));
          index = λ q. made.index_held shows stands.lists is_file below right p c row.index now.index told.index has.index q;
          names = λ q. ap (λ (n : Names). name_at n q) has.names ∙ told.names q ∙ sym (names.names q);
        }

    log : (given : FreeLists) → KeepsFree l (with_log held row.inode h entries fresh) given.pools → LogFollows R S l held h entries p.mid.pools cpu row now given
    log given in_lists = record {
      fresh = fresh;
      rest = after.pools;
      taken = by_rule p.taken;
      blocks = made.fresh_free shows stands.lists is_file below right p c;
      count = p.count ∙ ap (λ (t : ℕ). needed (t % 4096) entries) tails;
      sound = made.sound_after shows stands.lists is_file below right p c;
      told = kept;
      inode = has.inode;
      lists = in_lists;
      bytes = made.bytes_before shows stands.lists is_file below right p c;
    }

    -- a block that was taken isn't stored to by the commit
    untouched : (b : ℕ) → HasBlock p.runs b → (i v : ℕ) → 8 * i / 4096 ≡ b → ExtendWords (slot_in l row.inode) row.tail entries fresh i v → ⊥
    untouched b w i v at (inl (inl behind)) = (let f = runs_were_free p b w in stands.used f.0 (subst (λ (k : ℕ). made.IsFreeAt free f.0 k) (sym at ∙ behind.0) f.1))
    untouched b w i v at (inl (inr page)) = fresh_apart p b w (page.0, page.1, get_or_default fresh page.0 b 0 page.1 ∙ sym page.2 ∙ at)
    untouched b w i v at (inr one) =
        let can = made.can shows stands.lists is_file below right p c in
        let clear = slots can in
        let whole = clear.whole row.inode (slot_in l row.inode) can.at in
        let word_is : i ≡ (slot_in l row.inode + 24) / 8 = one.0 in
        let same : slot_in l row.inode / 4096 ≡ b = omega (arith, at, word_is, whole) in
        clear.unfree b (made.runs_free shows stands.lists is_file below right p c b w) row.inode (slot_in l row.inode) can.at same

    -- the byte of a page that an entry wrote
    written_byte : (x : ℕ) → EntryOf (appended fresh 0 h.tail entries) (λ e. record { start = e.offset; count = e.count }) (x / 4096) → file_byte S now.index x ≡ bytes x
    written_byte x v =
        let e = v.e in
        let k : ℕ = x / 4096 - e.offset in
        let inside = v.in_it in
        let low : k < e.count = (let from = inside.0 in let to = inside.1 in omega (arith, from, to)) in
        let page : e.offset + k ≡ x / 4096 = (let from = inside.0 in omega (arith, from)) in
        let there : Contains entries (Write e) = subst (λ (y : Entry). Contains entries y) v.is (placed_entry fresh 0 h.tail entries v.x v.here) in
        let index = has.index in
        let maps : block_at now.index (x / 4096) ≡ Some (e.block + k) = ap (block_at now.index) (sym page) ∙ index.here e there k low in
        let told = made.described shows stands.lists is_file below right p c in
        let d = told.each (Write e) there in
        let taken = made.entry_block_taken shows stands.lists is_file below right p c e there k low in
        ap (λ (o : Option ℕ). byte_in S o x) maps
        ∙ byte_stays c.mid S (ExtendWords (slot_in l row.inode) row.tail entries fresh) (Some (e.block + k)) x c.mixed (λ b is i v at w. untouched (e.block + k) taken i v (at ∙ sym (same_Some _ _ is)) w)
        ∙ c.holds e there k low x (sym page)

    -- any other byte
    other_byte : (x : ℕ) → (HasBlock (entry_pages entries) (x / 4096) → ⊥) → file_byte S now.index x ≡ file_byte R row.index x
    other_byte x away =
        let told = shows.told in
        let index = has.index in
        ap (λ (o : Option ℕ). byte_in S o x) (index.others (x / 4096) away ∙ told.index (x / 4096))
        ∙ made.bytes_before shows stands.lists is_file below right p c row.inode h shows.holds x
        ∙ ap (λ (o : Option ℕ). byte_in R o x) (sym (told.index (x / 4096)))

    -- the bytes of a page that an entry wrote, past the new end
    all_zeros : (offset time : ℕ) (new : List ℕ) → plan ≡ plan_of (block_at row.index) row.numbers.size offset (length new) time → ((x : ℕ) → bytes x ≡ byte_after offset new row.numbers.size (file_byte R row.index) x) → ZerosFrom S plan.size entries
    all_zeros offset time new planned after_is e there k x low page past =
        let taken = made.entry_block_taken shows stands.lists is_file below right p c e there k low in
        let behind : max row.numbers.size (offset + length new) ≤ x = subst (λ (q : Plan). q.size ≤ x) planned past in
        byte_stays c.mid S (ExtendWords (slot_in l row.inode) row.tail entries fresh) (Some (e.block + k)) x c.mixed (λ b is i v at w. untouched (e.block + k) taken i v (at ∙ sym (same_Some _ _ is)) w)
        ∙ c.holds e there k low x page ∙ after_is x ∙ zero_after offset new row.numbers.size (file_byte R row.index) x (omega (arith, behind)) (omega (arith, behind))

    all_bytes : (offset time : ℕ) (new : List ℕ) → 0 < length new → plan ≡ plan_of (block_at row.index) row.numbers.size offset (length new) time → ((x : ℕ) → bytes x ≡ byte_after offset new row.numbers.size (file_byte R row.index) x)
        → (x : ℕ) → x < plan.size → file_byte S now.index x ≡ byte_after offset new row.numbers.size (file_byte R row.index) x
    all_bytes offset time new some planned after_is x inside = elim (in_runs (made.pages_there shows stands.lists is_file below right p c) (x / 4096)) [
      | inl here ↦ written_byte x (page_entry (appended fresh 0 h.tail entries) (x / 4096) here) ∙ after_is x
      | inr away ↦
          let none : HasBlock (entry_pages entries) (x / 4096) → ⊥ = λ w. away (subst (λ (xs : List Run). HasBlock xs (x / 4096)) (sym (placed_pages fresh 0 h.tail entries)) w) in
          let told = made.described shows stands.lists is_file below right p c in
          let unwritten : IsWritten (plan_of (block_at row.index) row.numbers.size offset (length new) time) (x / 4096) → ⊥ =
          λ w. none ((told.pages (x / 4096)).1 (subst (λ (q : Plan). IsWritten q (x / 4096)) (sym planned) w)) in
          let within : x < max row.numbers.size (offset + length new) = subst (λ (q : Plan). x < q.size) planned inside in
          other_byte x none ∙ sym (unwritten_byte R row.index row.numbers.size offset time x new some file.below within unwritten)
    ]

  -- All of it, over these free lists.
  pub writes_file_by : (given : FreeLists) → ((held : Store) (h : Held) → ShowsRow R l held h row free → KeepsFree l (with_log held row.inode h entries fresh) given.pools) → (offset time : ℕ) (new : List ℕ) → 0 < length new → plan ≡ plan_of (block_at row.index) row.numbers.size offset (length new) time → ((x : ℕ) → bytes x ≡ byte_after offset new row.numbers.size (file_byte R row.index) x)
      → WritesFile R S l free given cpu plan offset new row now
  writes_file_by given in_lists offset time new some planned after_is = record {
    runs = p.runs;
    rest = p.mid.pools;
    taken = subst (λ (pools : List (List Run)). Takes pools cpu (data_blocks plan) p.runs p.mid.pools) p.same.pools p.took.takes;
    follows = λ held h shows. subst (λ (es : List Entry). LogFollows R S l held h es p.mid.pools cpu row now given) p.says (log shows given (in_lists held h shows));
    inode = has.inode;
    kind = has.kind;
    numbers = has.numbers;
    names = has.names;
    bytes = λ held h shows x inside. all_bytes shows offset time new some planned after_is x inside;
    zeros = λ held h shows. subst (λ (es : List Entry). ZerosFrom S plan.size es) p.says (all_zeros shows offset time new planned after_is);
  }

  -- The same where the blocks that were replaced are given back.
  pub writes_file : (given : FreeLists) → JoinAll after (replaced_blocks row.index plan) given → (offset time : ℕ) (new : List ℕ) → 0 < length new → plan ≡ plan_of (block_at row.index) row.numbers.size offset (length new) time → ((x : ℕ) → bytes x ≡ byte_after offset new row.numbers.size (file_byte R row.index) x)
      → WritesFile R S l free given cpu plan offset new row now
  writes_file given joins = writes_file_by given (λ held h shows. made.lists_after shows stands.lists is_file below right p c given joins)

-- ---- what the steps did, told of the row before

pub inside_as : (R : Region) (m n : Pages) → ((q : ℕ) → block_at n q ≡ block_at m q) → LieInside R m → LieInside R n
inside_as R m n same inside q b at = inside q b (sym (same q) ∙ at)

pub bytes_as : (R : Region) (m n : Pages) (offset given old : ℕ) (new : List ℕ) → ((q : ℕ) → block_at n q ≡ block_at m q) → given ≡ old → (x : ℕ) → byte_after offset new given (file_byte R n) x ≡ byte_after offset new old (file_byte R m) x
bytes_as R m n offset given old new same size x =
    ap (λ (z : ℕ). byte_after offset new z (file_byte R n) x) size ∙ ap (λ (b : ℕ). byte_after offset new old (λ y. b) x) (ap (λ (o : Option ℕ). byte_in R o x) (same (x / 4096)))

pub commits_as : (R S : Region) (l : Layout) (inode other slot tail end : ℕ) (bytes : ℕ → ℕ) (entries : List Entry) (fresh : List ℕ) → other ≡ inode → end ≡ tail → slot ≡ slot_in l other → Commits R S l inode slot end bytes entries fresh
    → Commits R S l inode (slot_in l inode) tail bytes entries fresh
commits_as R S l inode other slot tail end bytes entries fresh number tails at done =
    subst (λ (t : ℕ). Commits R S l inode (slot_in l inode) t bytes entries fresh) tails (subst (λ (a : ℕ). Commits R S l inode a end bytes entries fresh) (at ∙ ap (slot_in l) number) done)

pub has_written : (old mid new : Row) (plan : Plan) (entries : List Entry) (fresh : List ℕ) (end : ℕ) → SameRow old mid → mid.names ≡ old.names → end ≡ end_of fresh 0 mid.tail entries → HasWritten mid plan entries fresh end new
    → HasWritten old plan entries fresh (end_of fresh 0 old.tail entries) new
has_written old mid new plan entries fresh end same names ends has =
    let index = has.index in
    record {
      inode = has.inode ∙ same.inode;
      kind = has.kind ∙ same.kind;
      numbers = has.numbers ∙ ap (λ (n : Numbers). record n { size = plan.size; time = plan.time }) same.numbers;
      head = has.head ∙ same.head;
      tail = has.tail ∙ ends ∙ ap (λ (t : ℕ). end_of fresh 0 t entries) same.tail;
      pages = has.pages ∙ ap (λ (ps : List ℕ). ps ++ fresh) same.pages;
      index = record { here = index.here; others = λ q away. index.others q away ∙ same.index q };
      names = has.names ∙ names;
    }

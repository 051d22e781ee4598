-- A name that was given to an inode of another directory, once the logs have grown and the rows are settled.
use Rattle.std.proofs.Common.{◌≡◌, ℕ, ◌-◌, Bool, false, cond, nat_eq, inl, inr, List, [], ◌∷◌, refl, ap, ◌∙◌, subst, arith, Some, None}
use Rattle.std.specs.Cmp.Lexicographic.{pointwise, bytes_decides}
use Rattle.nv_region.specs.Region.{Region}
use Rattle.nv_super.specs.Layout.{Layout}
use Rattle.nv_alloc.specs.FreeValue.{FreeLists}
use Rattle.nv_entry.specs.declared.entry.Entry.{Entry}
use Rattle.nv_entry.specs.declared.entry.Entry.TheVariants.{Name}
use Rattle.nv_entry.specs.declared.entry.Operation.TheVariants.{Add, Remove}
use Rattle.nv_entry.specs.Spelling.{entry_length}
use Rattle.nv_logpage.specs.Append.{end_of}
use Rattle.nv_logpage.specs.Reads.{is_next_page}
use Rattle.nv_names.specs.Names.{EachOnce, name_at}
use Rattle.nv_radix.specs.Pages.{block_at}
use Rattle.nv_scan.specs.declared.numbers.Numbers.{Numbers}
use Rattle.nv_scan.specs.declared.piece.Row.{Row}
use Rattle.nv_mounted.specs.Held.{Store}
use Rattle.nv_commit.specs.Stopped.{LeavesEither}
use Rattle.nv_steps.specs.Across.{AppendedLogsLess, AppendsLogsLess, IsHanded, IsLeft, Lengthens, TakesAcross, TookAcross, handed_entries, handed_place}
use Rattle.nv_steps.specs.MoreNames.{AddsName, AreFew}
use Rattle.nv_steps.specs.NameEntries.{name_entries}
use Rattle.nv_steps.specs.Unlinks.{DropsName}
use Rattle.nv_steps.proofs.LessName.{found_without, once_without}
use Rattle.nv_steps.proofs.LinkedAt.{added_row}
use Rattle.nv_steps.proofs.MadeNamed.{named_once}
use Rattle.nv_steps.proofs.UnlinkedAt.{dropped_row, drops_after}

pub few_two : (e f : Entry) → is_next_page e ≡ false → is_next_page f ≡ false → AreFew (e ∷ f ∷ [])
few_two e f one two = record { given = (one, (two, tt)); some = omega arith; few = omega arith }

-- what is so of two lists of entries is so of them by other names
pub both_as : (P : List Entry → List Entry → Type 0) {a b c d : List Entry} → a ≡ b → c ≡ d → P a c → P b d
both_as P {a} {b} {c} {d} one two p = subst (λ (es : List Entry). P b es) two (subst (λ (es : List Entry). P es c) one p)

-- ---- one row

place_is : (end : ℕ) (more : List ℕ) (tail i j : ℕ) (name : List ℕ) (time len : ℕ) → end ≡ end_of more 0 tail (handed_entries i j name time) → len ≡ entry_length (Name (record { operation = Add; inode = i; time = time; name = name })) → end - len ≡ handed_place more tail i j name time
place_is end more tail i j name time len ends is = omega (arith, ends, is)

-- The row of the directory that the old name leaves.
pub left_row : {old grown new : Row} {fresh : List ℕ} (i : ℕ) (name : List ℕ) (time : ℕ) → Lengthens old grown (name_entries Remove i name time) fresh → DropsName grown name time new → EachOnce new.names → IsLeft old new i name time fresh
left_row i name time grew drops once = (drops_after name time grew.0 drops, (grew.1.0, once))

-- The row of the directory whose name is given.
pub handed_row : {old grown bare new : Row} {more : List ℕ} (i j : ℕ) (name : List ℕ) (time len : ℕ) → Lengthens old grown (handed_entries i j name time) more → len ≡ entry_length (Name (record { operation = Add; inode = i; time = time; name = name }))
    → DropsName grown name time bare → EachOnce bare.names → AddsName bare name i (grown.tail - len) time new → EachOnce new.names → IsHanded old new i j name time more
handed_row {old} {grown} {bare} {new} {more} i j name time len grew length_is cuts once_bare adds once_new =
    let row = grew.0 in
    let once = grew.1 in
    let cut = cuts.rest in
    let got = adds.rest in
    record {
      inode = got.inode ∙ cut.inode ∙ row.inode;
      kind = got.kind ∙ cut.kind ∙ row.kind;
      numbers = adds.numbers ∙ ap (λ (n : Numbers). record n { time = time }) (cuts.numbers ∙ ap (λ (n : Numbers). record n { time = time }) row.numbers);
      head = got.head ∙ cut.head ∙ row.head;
      tail = got.tail ∙ cut.tail ∙ row.tail;
      pages = (λ t. (got.pages t).items) ∙ (λ t. (cut.pages t).items) ∙ row.pages;
      index = λ p. (λ t. block_at (got.index t) p) ∙ (λ t. block_at (cut.index t) p) ∙ row.index p;
      between = bare.names;
      lost = λ q. cuts.names q ∙ (λ t. cond (pointwise nat_eq q name) None (row.names q t));
      names = λ q. adds.names q ∙ (λ t. cond (pointwise nat_eq q name) (Some (i, place_is grown.tail more old.tail i j name time len row.tail length_is t)) (name_at bare.names q));
      once = once.0;
      once_between = once_bare;
      once_now = once_new;
    }

-- ---- both rows

pub takes_across : {R S : Region} {l : Layout} {free after : FreeLists} {cpu : ℕ} {from to a b c bare d : Row} (i j : ℕ) (name other : List ℕ) (time len : ℕ) → AppendsLogsLess R S l free after cpu from a (name_entries Remove i name time) to b (handed_entries i j other time) j
    → len ≡ entry_length (Name (record { operation = Add; inode = i; time = time; name = other })) → DropsName a name time c → EachOnce c.names → DropsName b other time bare → EachOnce bare.names → AddsName bare other i (b.tail - len) time d → EachOnce d.names
    → TakesAcross R S l free after cpu from c to d i j name other time
takes_across i j name other time len grew length_is drops once_c cuts once_bare adds once_d = record {
  fresh = grew.fresh;
  more = grew.more;
  taken = grew.taken;
  count = grew.count;
  more_count = grew.more_count;
  is = left_row i name time grew.is drops once_c;
  other_is = handed_row i j other time len grew.other_is length_is cuts once_bare adds once_d;
  shows = grew.shows;
}

-- ---- a stop

pub drops_row : (row : Row) (name : List ℕ) (time : ℕ) → DropsName row name time (dropped_row row name time)
drops_row row name time = record { rest = record { inode = refl; kind = refl; head = refl; tail = refl; pages = refl; index = refl }; numbers = refl; names = λ q. found_without row.names.names name q }

-- the name that was taken out isn't there
gone_name : (row : Row) (name : List ℕ) (time : ℕ) → name_at (dropped_row row name time).names name ≡ None
gone_name row name time = found_without row.names.names name name ∙ ap (λ (b : Bool). cond b None (name_at row.names name)) ((bytes_decides name name).1 refl)

-- the directory's row with the name given
abbrev pub handed_now : Row → ℕ → List ℕ → ℕ → Row
handed_now b i name time = added_row (dropped_row b name time) name i (b.tail - entry_length (Name (record { operation = Add; inode = i; time = time; name = name }))) time

pub adds_row : (b : Row) (i : ℕ) (name : List ℕ) (time : ℕ) → AddsName (dropped_row b name time) name i (b.tail - entry_length (Name (record { operation = Add; inode = i; time = time; name = name }))) time (handed_now b i name time)
adds_row b i name time = record { rest = record { inode = refl; kind = refl; head = refl; tail = refl; pages = refl; index = refl }; numbers = refl; names = λ q. refl }

pub once_handed : (b : Row) (i : ℕ) (name : List ℕ) (time : ℕ) → EachOnce b.names → EachOnce (handed_now b i name time).names
once_handed b i name time once = named_once (dropped_row b name time) name i (b.tail - entry_length (Name (record { operation = Add; inode = i; time = time; name = name }))) (once_without b.names.names name once) (gone_name b name time)

-- What a stop leaves of a name that is given so, by what it leaves of both logs.
pub left_across : {R : Region} {l : Layout} {free : FreeLists} {cpu : ℕ} {held : Store} (from to : Row) (i j : ℕ) (name other : List ℕ) (time : ℕ)
    → (left : Region) → LeavesEither R l held (AppendedLogsLess R l free cpu from (name_entries Remove i name time) to (handed_entries i j other time) j) left → LeavesEither R l held (TookAcross R l free cpu from to i j name other time) left
left_across from to i j name other time left (inl stays) = inl stays
left_across from to i j name other time left (inr w) =
    let made = w.1 in
    let a = made.1 in
    let b = made.2 in
    let grew = made.3 in
    let is = grew.is in
    let other_is = grew.other_is in
    inr (
      w.0,
      (
        made.0,
        dropped_row a name time,
        handed_now b i other time,
        takes_across i j name other time (entry_length (Name (record { operation = Add; inode = i; time = time; name = other }))) grew refl (drops_row a name time) (once_without a.names.names name is.1.1) (drops_row b other time) (once_without b.names.names other other_is.1.1) (adds_row b i other time) (once_handed b i other time other_is.1.1),
      ),
    )

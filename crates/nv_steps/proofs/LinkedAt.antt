-- A link count and a name, once both logs have grown and the rows are settled.
use Rattle.std.proofs.Common.{◌≡◌, ◌≢◌, ℕ, ◌+◌, ◌-◌, cond, nat_eq, inl, inr, List, [], ◌∷◌, set, slice_get, refl, ap, sym, ◌∙◌, subst, arith, Some, None}
use Rattle.nv_super.specs.Layout.{Layout}
use Rattle.std.specs.Cmp.Lexicographic.{pointwise}
use Rattle.std.proofs.lemmas.Option.{same_Some}
use Rattle.nv_region.specs.Region.{Region}
use Rattle.nv_alloc.specs.FreeValue.{FreeLists}
use Rattle.nv_entry.specs.declared.entry.Entry.{Entry}
use Rattle.nv_entry.specs.declared.entry.Entry.TheVariants.{Name}
use Rattle.nv_entry.specs.declared.entry.Operation.TheVariants.{Add}
use Rattle.nv_entry.specs.Spelling.{entry_length}
use Rattle.nv_logpage.specs.Append.{end_of}
use Rattle.nv_names.specs.Names.{EachOnce, name_at}
use Rattle.nv_radix.specs.Pages.{block_at}
use Rattle.nv_scan.specs.declared.numbers.Numbers.{Numbers}
use Rattle.nv_scan.specs.declared.piece.Row.{Row}
use Rattle.nv_mounted.specs.Held.{Store}
use Rattle.nv_commit.specs.Stopped.{LeavesEither}
use Rattle.nv_steps.specs.NameEntries.{links_entries, name_entries}
use Rattle.nv_steps.specs.MoreNames.{AddsName, AppendsLogs, CountsLinks, GrowsSame, GrowsTwo, HasCounted, LinksAt}
use Rattle.nv_steps.specs.NewNames.{HasNamed}
use Rattle.nv_steps.specs.Stopped.{AppendedBoth, Linked}
use Rattle.nv_steps.proofs.MadeNamed.{named_once, place_is}
use Rattle.nv_steps.proofs.SetRows.{both_twice, first_set, second_set}
use Rattle.nv_steps.proofs.RowsAt.{other_set}

-- a row that grew and then counts
pub counted_after : {old mid new : Row} {fresh : List ℕ} {end : ℕ} (links time : ℕ) → GrowsSame old fresh end mid → CountsLinks mid links time new → HasCounted old fresh end links time new
counted_after {old} {mid} {new} {fresh} {end} links time grew counts =
    let rest = counts.rest in record {
      inode = rest.inode ∙ grew.inode;
      kind = rest.kind ∙ grew.kind;
      numbers = counts.numbers ∙ ap (λ (n : Numbers). record n { links = links; time = time }) grew.numbers;
      head = rest.head ∙ grew.head;
      tail = rest.tail ∙ grew.tail;
      pages = (λ t. (rest.pages t).items) ∙ grew.pages;
      index = λ p. (λ t. block_at (rest.index t) p) ∙ grew.index p;
      names = λ q. (λ t. name_at (counts.names t) q) ∙ grew.names q;
    }

-- a row that grew and then has a name more
pub adds_after : {old mid new : Row} {more : List ℕ} {end place spot : ℕ} (name : List ℕ) (j time : ℕ) → GrowsSame old more end mid → AddsName mid name j place time new → place ≡ spot → HasNamed old more end name j spot time new
adds_after {old} {mid} {new} {more} {end} {place} {spot} name j time grew adds at =
    let rest = adds.rest in record {
      inode = rest.inode ∙ grew.inode;
      kind = rest.kind ∙ grew.kind;
      numbers = adds.numbers ∙ ap (λ (n : Numbers). record n { time = time }) grew.numbers;
      head = rest.head ∙ grew.head;
      tail = rest.tail ∙ grew.tail;
      pages = (λ t. (rest.pages t).items) ∙ grew.pages;
      index = λ p. (λ t. block_at (rest.index t) p) ∙ grew.index p;
      names = λ q. adds.names q ∙ (λ t. cond (pointwise nat_eq q name) (Some (j, at t)) (grew.names q t));
    }

module _ {R S : Region} {l : Layout} {free after : FreeLists} {cpu : ℕ} {rows mid : List Row} {i j time : ℕ} {name : List ℕ} (read : Row) (grew : AppendsLogs R S l free after cpu rows mid i (links_entries (read.numbers.links + 1) time) j (name_entries Add read.inode name time)) (read_at : slice_get rows i ≡ Some read) (differ : i ≢ j) where
  abbrev entries : List Entry
  entries = links_entries (read.numbers.links + 1) time

  abbrev others : List Entry
  others = name_entries Add read.inode name time

  abbrev second : Row
  second = grew.second

  grown_file : GrowsTwo R S l free after cpu rows mid i read entries j second others (λ fresh now. GrowsSame read fresh (end_of fresh 0 read.tail entries) now) (λ more now. GrowsSame second more (end_of more 0 second.tail others) now)
  grown_file =
      let step = grew.step in
      subst (λ (r : Row). GrowsTwo R S l free after cpu rows mid i r entries j second others (λ fresh now. GrowsSame r fresh (end_of fresh 0 r.tail entries) now) (λ more now. GrowsSame second more (end_of more 0 second.tail others) now)) (same_Some _ _ (sym step.at ∙ read_at)) grew.step

  file_there : slice_get mid i ≡ Some grown_file.first_now
  file_there = ap (λ (rs : List Row). slice_get rs i) grown_file.put ∙ first_set rows i j read second grown_file.first_now grown_file.second_now grown_file.at grown_file.other_at differ

  directory_there : slice_get mid j ≡ Some grown_file.second_now
  directory_there = ap (λ (rs : List Row). slice_get rs j) grown_file.put ∙ second_set rows i j read second grown_file.first_now grown_file.second_now grown_file.at grown_file.other_at differ

  -- Both rows are settled.
  pub links_at_places : {c d : Row} (a b told : Row) (len : ℕ) → slice_get mid i ≡ Some a → CountsLinks a (read.numbers.links + 1) time c → slice_get (set mid i c) j ≡ Some told → len ≡ entry_length (Name (record { operation = Add; inode = read.inode; time = time; name = name })) → slice_get (set mid i c) j ≡ Some b
      → AddsName b name read.inode (told.tail - len) time d → EachOnce d.names → LinksAt R S l free after cpu rows (set (set mid i c) j d) i j name time
  links_at_places {c} {d} a b told len a_at counts told_at length_is b_at adds once_d =
      let step = grown_file in
      let first_is : a ≡ step.first_now = same_Some _ _ (sym a_at ∙ file_there) in
      let second_is : b ≡ step.second_now = same_Some _ _ (sym b_at ∙ other_set mid i j c differ ∙ directory_there) in
      let told_is : told ≡ step.second_now = same_Some _ _ (sym told_at ∙ other_set mid i j c differ ∙ directory_there) in
      let counts_now : CountsLinks step.first_now (read.numbers.links + 1) time c = subst (λ (r : Row). CountsLinks r (read.numbers.links + 1) time c) first_is counts in
      let adds_now : AddsName step.second_now name read.inode (told.tail - len) time d = subst (λ (r : Row). AddsName r name read.inode (told.tail - len) time d) second_is adds in
      let other = step.other_is in
      let ends : told.tail ≡ end_of step.more 0 second.tail others = ap (λ (r : Row). r.tail) told_is ∙ other.tail in
      record {
        file = read;
        directory = second;
        step = record {
          first_now = c;
          second_now = d;
          at = step.at;
          other_at = step.other_at;
          fresh = step.fresh;
          more = step.more;
          taken = step.taken;
          count = step.count;
          more_count = step.more_count;
          is = counted_after (read.numbers.links + 1) time step.is counts_now;
          other_is = adds_after name read.inode time step.other_is adds_now (place_is told.tail len step.more second.tail read.inode name time ends length_is);
          once = (step.once.0, subst EachOnce (sym counts_now.names) step.once.1);
          other_once = (step.other_once.0, once_d);
          put = ap (λ (rs : List Row). set (set rs i c) j d) step.put ∙ both_twice rows i j step.first_now step.second_now c d differ;
          shows = step.shows;
        };
      }

-- ---- a stop

-- a row with so many links
abbrev pub counted_row : Row → ℕ → ℕ → Row
counted_row row links time = record row { numbers = record row.numbers { links = links; time = time } }

-- and one with a name more
abbrev pub added_row : Row → List ℕ → ℕ → ℕ → ℕ → Row
added_row row name j place time = record row { numbers = record row.numbers { time = time }; names = record row.names { names = (name, j, place) ∷ row.names.names } }

-- What a stop leaves of a link and a name, by what it leaves of both logs.
pub left_linked : {R : Region} {l : Layout} {free : FreeLists} {cpu : ℕ} {held : Store} (file directory : Row) (name : List ℕ) (time : ℕ) → name_at directory.names name ≡ None
    → (left : Region) → LeavesEither R l held (AppendedBoth R l free cpu file (links_entries (file.numbers.links + 1) time) directory (name_entries Add file.inode name time)) left → LeavesEither R l held (Linked R l free cpu file directory name time) left
left_linked file directory name time absent left (inl same) = inl same
left_linked {R} {l} {free} file directory name time absent left (inr w) =
    let made = w.1 in
    let one = made.1 in
    let two = made.2 in
    let grew = made.3 in
    let step = grew.step in
    let other = step.other_is in
    let len = entry_length (Name (record { operation = Add; inode = file.inode; time = time; name = name })) in
    let second_is : step.second_now ≡ two = at_second step.put in
    let same_names : name_at two.names name ≡ name_at directory.names name = ap (λ (r : Row). name_at r.names name) (sym second_is) ∙ other.names name ∙ ap (λ (r : Row). name_at r.names name) (same_Some _ _ (sym step.other_at)) in
    inr (
      w.0,
      (
        made.0,
        counted_row one (file.numbers.links + 1) time,
        added_row two name file.inode (two.tail - len) time,
        links_at_places file grew refl (λ e. omega (arith, e)) one two two len refl
            (record { rest = record { inode = refl; kind = refl; head = refl; tail = refl; pages = refl; index = refl }; numbers = refl; names = refl }) refl refl refl
            (record { rest = record { inode = refl; kind = refl; head = refl; tail = refl; pages = refl; index = refl }; numbers = refl; names = λ q. refl })
            (named_once two name file.inode (two.tail - len) (subst (λ (r : Row). EachOnce r.names) second_is step.other_once.1) (same_names ∙ absent)),
      ),
    )
  where
    at_second : {a b c d : Row} → (c ∷ d ∷ []) ≡ (a ∷ b ∷ []) → b ≡ d
    at_second same = sym (same_Some _ _ (ap (λ (rs : List Row). slice_get rs 1) same))

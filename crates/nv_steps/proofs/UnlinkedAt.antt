-- A name less and a link less, once both logs have grown and the rows are settled.
use Rattle.std.proofs.Common.{◌≡◌, ◌≢◌, ℕ, ◌-◌, cond, nat_eq, inl, inr, List, [], ◌∷◌, set, slice_get, refl, ap, sym, ◌∙◌, subst, arith, Some, None}
use Rattle.nv_super.specs.Layout.{Layout}
use Rattle.std.specs.Cmp.Lexicographic.{pointwise}
use Rattle.std.proofs.lemmas.Option.{same_Some}
use Rattle.nv_region.specs.Region.{Region}
use Rattle.nv_alloc.specs.FreeValue.{FreeLists}
use Rattle.nv_entry.specs.declared.entry.Entry.{Entry}
use Rattle.nv_entry.specs.declared.entry.Operation.TheVariants.{Remove}
use Rattle.nv_logpage.specs.Append.{end_of}
use Rattle.nv_names.specs.Names.{EachOnce}
use Rattle.nv_radix.specs.Pages.{block_at}
use Rattle.nv_scan.specs.declared.numbers.Numbers.{Numbers}
use Rattle.nv_scan.specs.declared.piece.Row.{Row}
use Rattle.nv_mounted.specs.Held.{Store}
use Rattle.nv_commit.specs.Stopped.{LeavesEither}
use Rattle.nv_steps.specs.Stopped.{AppendedBoth, Unlinked}
use Rattle.nv_steps.specs.LessNames.{HasLost}
use Rattle.nv_steps.specs.NameEntries.{links_entries, name_entries}
use Rattle.nv_steps.specs.MoreNames.{AppendsLogs, CountsLinks, GrowsSame, GrowsTwo}
use Rattle.nv_steps.specs.Unlinks.{DropsName, UnlinksAt}
use Rattle.nv_steps.proofs.LessName.{found_without, once_without, without}
use Rattle.nv_steps.proofs.LinkedAt.{counted_after, counted_row}
use Rattle.nv_steps.proofs.SetRows.{both_twice, first_set, second_set}
use Rattle.nv_steps.proofs.RowsAt.{other_set}

-- a row that grew and then has a name less
pub drops_after : {old mid new : Row} {fresh : List ℕ} {end : ℕ} (name : List ℕ) (time : ℕ) → GrowsSame old fresh end mid → DropsName mid name time new → HasLost old fresh end name time new
drops_after {old} {mid} {new} {fresh} {end} name time grew drops =
    let rest = drops.rest in record {
      inode = rest.inode ∙ grew.inode;
      kind = rest.kind ∙ grew.kind;
      numbers = drops.numbers ∙ ap (λ (n : Numbers). record n { time = time }) grew.numbers;
      head = rest.head ∙ grew.head;
      tail = rest.tail ∙ grew.tail;
      pages = (λ t. (rest.pages t).items) ∙ grew.pages;
      index = λ p. (λ t. block_at (rest.index t) p) ∙ grew.index p;
      names = λ q. drops.names q ∙ (λ t. cond (pointwise nat_eq q name) None (grew.names q t));
    }

-- Of two logs that grew, the second one's row was read before.
module _ {R S : Region} {l : Layout} {free after : FreeLists} {cpu : ℕ} {rows mid : List Row} {i j : ℕ} {entries others : List Entry} (read : Row) (grew : AppendsLogs R S l free after cpu rows mid i entries j others) (read_at : slice_get rows j ≡ Some read) (differ : i ≢ j) where
  abbrev first : Row
  first = grew.first

  pub grown_rows : GrowsTwo R S l free after cpu rows mid i grew.first entries j read others (λ fresh now. GrowsSame grew.first fresh (end_of fresh 0 first.tail entries) now) (λ more now. GrowsSame read more (end_of more 0 read.tail others) now)
  grown_rows =
      let step = grew.step in
      subst (λ (r : Row). GrowsTwo R S l free after cpu rows mid i first entries j r others (λ fresh now. GrowsSame first fresh (end_of fresh 0 first.tail entries) now) (λ more now. GrowsSame r more (end_of more 0 r.tail others) now)) (same_Some _ _ (sym step.other_at ∙ read_at)) grew.step

  pub first_there : slice_get mid i ≡ Some grown_rows.first_now
  first_there = ap (λ (rs : List Row). slice_get rs i) grown_rows.put ∙ first_set rows i j first read grown_rows.first_now grown_rows.second_now grown_rows.at grown_rows.other_at differ

  pub second_there : slice_get mid j ≡ Some grown_rows.second_now
  second_there = ap (λ (rs : List Row). slice_get rs j) grown_rows.put ∙ second_set rows i j first read grown_rows.first_now grown_rows.second_now grown_rows.at grown_rows.other_at differ

module _ {R S : Region} {l : Layout} {free after : FreeLists} {cpu : ℕ} {rows mid : List Row} {i j time : ℕ} {name : List ℕ} (read : Row) (grew : AppendsLogs R S l free after cpu rows mid i (name_entries Remove read.inode name time) j (links_entries (read.numbers.links - 1) time)) (read_at : slice_get rows j ≡ Some read) (differ : i ≢ j) where
  -- Both rows are settled.
  pub unlinks_at_places : {c d : Row} (a b : Row) → slice_get mid i ≡ Some a → DropsName a name time c → EachOnce c.names → slice_get (set mid i c) j ≡ Some b → CountsLinks b (read.numbers.links - 1) time d → UnlinksAt R S l free after cpu rows (set (set mid i c) j d) i j name time
  unlinks_at_places {c} {d} a b a_at drops once_c b_at counts =
      let step = grown_rows read grew read_at differ in
      let first_is : a ≡ step.first_now = same_Some _ _ (sym a_at ∙ first_there read grew read_at differ) in
      let second_is : b ≡ step.second_now = same_Some _ _ (sym b_at ∙ other_set mid i j c differ ∙ second_there read grew read_at differ) in
      let drops_now : DropsName step.first_now name time c = subst (λ (r : Row). DropsName r name time c) first_is drops in
      let counts_now : CountsLinks step.second_now (read.numbers.links - 1) time d = subst (λ (r : Row). CountsLinks r (read.numbers.links - 1) time d) second_is counts in
      record {
        directory = grew.first;
        file = read;
        step = record {
          first_now = c;
          second_now = d;
          at = step.at;
          other_at = step.other_at;
          fresh = step.fresh;
          more = step.more;
          taken = step.taken;
          count = step.count;
          more_count = step.more_count;
          is = drops_after name time step.is drops_now;
          other_is = counted_after (read.numbers.links - 1) time step.other_is counts_now;
          once = (step.once.0, once_c);
          other_once = (step.other_once.0, subst EachOnce (sym counts_now.names) step.other_once.1);
          put = ap (λ (rs : List Row). set (set rs i c) j d) step.put ∙ both_twice rows i j step.first_now step.second_now c d differ;
          shows = step.shows;
        };
      }

-- ---- a stop

-- the first of two rows
pub at_first : {a b c d : Row} → (c ∷ d ∷ []) ≡ (a ∷ b ∷ []) → a ≡ c
at_first same = sym (same_Some _ _ (ap (λ (rs : List Row). slice_get rs 0) same))

-- a row with a name less
abbrev pub dropped_row : Row → List ℕ → ℕ → Row
dropped_row row name time = record row { numbers = record row.numbers { time = time }; names = record row.names { names = without name row.names.names } }

-- What a stop leaves of a name less and a link less, by what it leaves of both logs.
pub left_unlinked : {R : Region} {l : Layout} {free : FreeLists} {cpu : ℕ} {held : Store} (directory file : Row) (name : List ℕ) (time : ℕ)
    → (left : Region) → LeavesEither R l held (AppendedBoth R l free cpu directory (name_entries Remove file.inode name time) file (links_entries (file.numbers.links - 1) time)) left → LeavesEither R l held (Unlinked R l free cpu directory file name time) left
left_unlinked directory file name time left (inl same) = inl same
left_unlinked {R} {l} {free} directory file name time left (inr w) =
    let made = w.1 in
    let one = made.1 in
    let two = made.2 in
    let grew = made.3 in
    let step = grew.step in
    let first_is : step.first_now ≡ one = at_first step.put in
    inr (
      w.0,
      (
        made.0,
        dropped_row one name time,
        counted_row two (file.numbers.links - 1) time,
        unlinks_at_places file grew refl (λ e. omega (arith, e)) one two refl
            (record { rest = record { inode = refl; kind = refl; head = refl; tail = refl; pages = refl; index = refl }; numbers = refl; names = λ q. found_without one.names.names name q })
            (once_without one.names.names name (subst (λ (r : Row). EachOnce r.names) first_is step.once.1)) refl
            (record { rest = record { inode = refl; kind = refl; head = refl; tail = refl; pages = refl; index = refl }; numbers = refl; names = refl }),
      ),
    )

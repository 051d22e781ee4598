-- A name that is given to another inode of its directory and a link less, once both logs have grown and the rows are settled.
use Rattle.std.proofs.Common.{◌≡◌, ◌≢◌, ℕ, ◌-◌, inl, inr, List, set, slice_get, refl, ap, sym, ◌∙◌, subst, arith, Some}
use Rattle.std.proofs.lemmas.Option.{same_Some}
use Rattle.nv_region.specs.Region.{Region}
use Rattle.nv_super.specs.Layout.{Layout}
use Rattle.nv_alloc.specs.FreeValue.{FreeLists}
use Rattle.nv_entry.specs.declared.entry.Entry.TheVariants.{Name}
use Rattle.nv_entry.specs.declared.entry.Operation.TheVariants.{Add}
use Rattle.nv_entry.specs.Spelling.{entry_length}
use Rattle.nv_names.specs.Names.{EachOnce}
use Rattle.nv_scan.specs.declared.piece.Row.{Row}
use Rattle.nv_mounted.specs.Held.{Store}
use Rattle.nv_commit.specs.Stopped.{LeavesEither}
use Rattle.nv_steps.specs.NameEntries.{links_entries}
use Rattle.nv_steps.specs.MoreNames.{AddsName, AppendsLogs, CountsLinks}
use Rattle.nv_steps.specs.Lessens.{Lessened, LessensAt}
use Rattle.nv_steps.specs.Stopped.{AppendedBoth}
use Rattle.nv_steps.specs.Takes.{take_entries}
use Rattle.nv_steps.specs.Unlinks.{DropsName}
use Rattle.nv_steps.proofs.LessName.{once_without}
use Rattle.nv_steps.proofs.LinkedAt.{added_row, counted_after, counted_row}
use Rattle.nv_steps.proofs.MadeNamed.{named_once}
use Rattle.nv_steps.proofs.RowsAt.{other_set}
use Rattle.nv_steps.proofs.SetRows.{both_twice}
use Rattle.nv_steps.proofs.Took.{drops_one, gone_name, less_row, taken_place, took_after}
use Rattle.nv_steps.proofs.UnlinkedAt.{at_first, first_there, grown_rows, second_there}

module _ {R S : Region} {l : Layout} {free after : FreeLists} {cpu : ℕ} {rows mid : List Row} {d j i time : ℕ} {name other : List ℕ} (read : Row) (grew : AppendsLogs R S l free after cpu rows mid d (take_entries i read.inode name other time) j (links_entries (read.numbers.links - 1) time)) (read_at : slice_get rows j ≡ Some read) (differ : d ≢ j) where
  -- Both rows are settled.
  pub lessens_at_places : {less bare c e : Row} (a b : Row) (len : ℕ) → slice_get mid d ≡ Some a → len ≡ entry_length (Name (record { operation = Add; inode = i; time = time; name = other })) → DropsName a name time less → EachOnce less.names → DropsName less other time bare
      → AddsName bare other i (a.tail - len) time c → EachOnce c.names → slice_get (set mid d c) j ≡ Some b → CountsLinks b (read.numbers.links - 1) time e → LessensAt R S l free after cpu rows (set (set mid d c) j e) d j i name other time
  lessens_at_places {less} {bare} {c} {e} a b len a_at length_is drops once_less cuts adds once_c b_at counts =
      let step = grown_rows read grew read_at differ in
      let first = grew.first in
      let first_is : a ≡ step.first_now = same_Some _ _ (sym a_at ∙ first_there read grew read_at differ) in
      let second_is : b ≡ step.second_now = same_Some _ _ (sym b_at ∙ other_set mid d j c differ ∙ second_there read grew read_at differ) in
      let drops_now : DropsName step.first_now name time less = subst (λ (r : Row). DropsName r name time less) first_is drops in
      let counts_now : CountsLinks step.second_now (read.numbers.links - 1) time e = subst (λ (r : Row). CountsLinks r (read.numbers.links - 1) time e) second_is counts in
      let grown = step.is in
      record {
        directory = first;
        file = read;
        step = record {
          first_now = c;
          second_now = e;
          at = step.at;
          other_at = step.other_at;
          fresh = step.fresh;
          more = step.more;
          taken = step.taken;
          count = step.count;
          more_count = step.more_count;
          is = took_after i name other time step.is drops_now once_less cuts adds (taken_place a.tail len step.fresh first.tail i read.inode name other time (ap (λ (r : Row). r.tail) first_is ∙ grown.tail) length_is) once_c step.once.0;
          other_is = counted_after (read.numbers.links - 1) time step.other_is counts_now;
          once = (step.once.0, once_c);
          other_once = (step.other_once.0, subst EachOnce (sym counts_now.names) step.other_once.1);
          put = ap (λ (rs : List Row). set (set rs d c) j e) step.put ∙ both_twice rows d j step.first_now step.second_now c e differ;
          shows = step.shows;
        };
      }

-- ---- a stop

-- What a stop leaves of a name that is given so and a link less, by what it leaves of both logs.
pub left_lessened : {R : Region} {l : Layout} {free : FreeLists} {cpu : ℕ} {held : Store} (directory file : Row) (i : ℕ) (name other : List ℕ) (time : ℕ)
    → (left : Region) → LeavesEither R l held (AppendedBoth R l free cpu directory (take_entries i file.inode name other time) file (links_entries (file.numbers.links - 1) time)) left → LeavesEither R l held (Lessened R l free cpu directory file i name other time) left
left_lessened directory file i name other time left (inl same) = inl same
left_lessened {R} {l} {free} directory file i name other time left (inr w) =
    let made = w.1 in
    let one = made.1 in
    let two = made.2 in
    let grew = made.3 in
    let step = grew.step in
    let len = entry_length (Name (record { operation = Add; inode = i; time = time; name = other })) in
    let once : EachOnce one.names = subst (λ (r : Row). EachOnce r.names) (at_first step.put) step.once.1 in
    let less = less_row one name time in
    let bare = less_row less other time in
    let once_less : EachOnce less.names = once_without one.names.names name once in
    inr (
      w.0,
      (
        made.0,
        added_row bare other i (one.tail - len) time,
        counted_row two (file.numbers.links - 1) time,
        lessens_at_places file grew refl (λ e. omega (arith, e)) {less = less} {bare = bare} {c = added_row bare other i (one.tail - len) time} {e = counted_row two (file.numbers.links - 1) time} one two len refl refl (drops_one one name time) once_less (drops_one less other time)
            (record { rest = record { inode = refl; kind = refl; head = refl; tail = refl; pages = refl; index = refl }; numbers = refl; names = λ q. refl })
            (named_once bare other i (one.tail - len) (once_without less.names.names other once_less) (gone_name less other time)) refl
            (record { rest = record { inode = refl; kind = refl; head = refl; tail = refl; pages = refl; index = refl }; numbers = refl; names = refl }),
      ),
    )

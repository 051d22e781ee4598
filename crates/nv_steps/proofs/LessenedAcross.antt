-- A name that was given to an inode of another directory, and the file that lost it, once the logs have grown and the rows are
-- settled.
use Rattle.std.proofs.Common.{◌≡◌, ℕ, ◌-◌, inl, inr, List, refl, subst, sym}
use Rattle.nv_region.specs.Region.{Region}
use Rattle.nv_super.specs.Layout.{Layout}
use Rattle.nv_alloc.specs.FreeValue.{FreeLists}
use Rattle.nv_entry.specs.declared.entry.Entry.TheVariants.{Name}
use Rattle.nv_entry.specs.declared.entry.Operation.TheVariants.{Add, Remove}
use Rattle.nv_entry.specs.Spelling.{entry_length}
use Rattle.nv_names.specs.Names.{EachOnce}
use Rattle.nv_scan.specs.declared.piece.Row.{Row}
use Rattle.nv_mounted.specs.Held.{Store}
use Rattle.nv_commit.specs.Stopped.{LeavesEither}
use Rattle.nv_steps.specs.Across.{AppendedThreeLogs, AppendsThreeLogs, Lengthens, LessenedAcross, LessensAcross, LosesLink, handed_entries}
use Rattle.nv_steps.specs.MoreNames.{AddsName, CountsLinks}
use Rattle.nv_steps.specs.NameEntries.{links_entries, name_entries}
use Rattle.nv_steps.specs.Unlinks.{DropsName}
use Rattle.nv_steps.proofs.LessName.{once_without}
use Rattle.nv_steps.proofs.LinkedAt.{counted_after, counted_row}
use Rattle.nv_steps.proofs.TookAcross.{adds_row, drops_row, handed_now, handed_row, left_row, once_handed}
use Rattle.nv_steps.proofs.UnlinkedAt.{dropped_row}

-- The row of the file.
counted : {file grown new : Row} {rest : List ℕ} (time : ℕ) → Lengthens file grown (links_entries (file.numbers.links - 1) time) rest → CountsLinks grown (file.numbers.links - 1) time new → LosesLink file new time rest
counted {file} time grew counts = (counted_after (file.numbers.links - 1) time grew.0 counts, (grew.1.0, subst EachOnce (sym counts.names) grew.1.1))

pub lessens_across : {R S : Region} {l : Layout} {free after : FreeLists} {cpu : ℕ} {from to file a b longer c bare d e : Row} (i : ℕ) (name other : List ℕ) (time len : ℕ)
    → AppendsThreeLogs R S l free after cpu from a (name_entries Remove i name time) to b (handed_entries i file.inode other time) file longer (links_entries (file.numbers.links - 1) time) → len ≡ entry_length (Name (record { operation = Add; inode = i; time = time; name = other }))
    → DropsName a name time c → EachOnce c.names → DropsName b other time bare → EachOnce bare.names → AddsName bare other i (b.tail - len) time d → EachOnce d.names → CountsLinks longer (file.numbers.links - 1) time e → LessensAcross R S l free after cpu from c to d file e i name other time
lessens_across {file = file} i name other time len grew length_is drops once_c cuts once_bare adds once_d counts = record {
  fresh = grew.fresh;
  more = grew.more;
  rest = grew.rest;
  taken = grew.taken;
  count = grew.count;
  more_count = grew.more_count;
  rest_count = grew.rest_count;
  is = left_row i name time grew.is drops once_c;
  other_is = handed_row i file.inode other time len grew.other_is length_is cuts once_bare adds once_d;
  third_is = counted time grew.third_is counts;
  shows = grew.shows;
}

-- What a stop leaves of a name that is given so, by what it leaves of the logs.
pub left_lessened : {R : Region} {l : Layout} {free : FreeLists} {cpu : ℕ} {held : Store} (from to file : Row) (i : ℕ) (name other : List ℕ) (time : ℕ)
    → (left : Region) → LeavesEither R l held (AppendedThreeLogs R l free cpu from (name_entries Remove i name time) to (handed_entries i file.inode other time) file (links_entries (file.numbers.links - 1) time)) left
    → LeavesEither R l held (LessenedAcross R l free cpu from to file i name other time) left
left_lessened from to file i name other time left (inl stays) = inl stays
left_lessened from to file i name other time left (inr w) =
    let made = w.1 in
    let a = made.1 in
    let b = made.2 in
    let l = made.3 in
    let grew = made.4 in
    let is = grew.is in
    let other_is = grew.other_is in
    inr (
      w.0,
      (
        made.0,
        dropped_row a name time,
        handed_now b i other time,
        counted_row l (file.numbers.links - 1) time,
        lessens_across i name other time (entry_length (Name (record { operation = Add; inode = i; time = time; name = other }))) grew refl (drops_row a name time) (once_without a.names.names name is.1.1) (drops_row b other time) (once_without b.names.names other other_is.1.1)
            (adds_row b i other time) (once_handed b i other time other_is.1.1) (record { rest = record { inode = refl; kind = refl; head = refl; tail = refl; pages = refl; index = refl }; numbers = refl; names = refl }),
      ),
    )

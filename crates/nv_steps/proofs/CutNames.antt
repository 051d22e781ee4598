-- The removal of a name and its inode, once the directory's log has grown without the inode and the row is settled.
use Rattle.std.proofs.Common.{ℕ, inl, inr, List}
use Rattle.nv_region.specs.Region.{Region}
use Rattle.nv_super.specs.Layout.{Layout}
use Rattle.nv_alloc.specs.FreeValue.{FreeLists}
use Rattle.nv_entry.specs.declared.entry.Operation.TheVariants.{Remove}
use Rattle.nv_names.specs.Names.{EachOnce}
use Rattle.nv_scan.specs.declared.piece.Row.{Row}
use Rattle.nv_mounted.specs.Held.{Store}
use Rattle.nv_commit.specs.Stopped.{LeavesEither}
use Rattle.nv_steps.specs.LessNames.{CutsName}
use Rattle.nv_steps.specs.NameEntries.{name_entries}
use Rattle.nv_steps.specs.Stopped.{Cut}
use Rattle.nv_steps.specs.Takes.{AppendedLess, AppendsLess}
use Rattle.nv_steps.specs.Unlinks.{DropsName}
use Rattle.nv_steps.proofs.LessName.{once_without}
use Rattle.nv_steps.proofs.Took.{drops_one, less_row}
use Rattle.nv_steps.proofs.UnlinkedAt.{drops_after}

pub cuts_name : {R S : Region} {l : Layout} {free after : FreeLists} {cpu : ℕ} {old grown new : Row} (j : ℕ) (name : List ℕ) (time : ℕ) → AppendsLess R S l free after cpu old grown j (name_entries Remove j name time) → DropsName grown name time new → EachOnce new.names
    → CutsName R S l free after cpu old new j time name
cuts_name j name time grew drops once_new =
    let once = grew.once in
    record {
      fresh = grew.fresh;
      taken = grew.taken;
      count = grew.count;
      directory = drops_after name time grew.row drops;
      once = once.0;
      once_now = once_new;
      shows = grew.shows;
    }

-- What a stop leaves of it, by what it leaves of the log.
pub left_cut : {R : Region} {l : Layout} {free : FreeLists} {cpu : ℕ} {held : Store} (old : Row) (j : ℕ) (name : List ℕ) (time : ℕ) (left : Region)
    → LeavesEither R l held (AppendedLess R l free cpu old j (name_entries Remove j name time)) left → LeavesEither R l held (Cut R l free cpu old j time name) left
left_cut old j name time left (inl same) = inl same
left_cut old j name time left (inr w) =
    let made = w.1 in
    let grown = made.1 in
    let grew = made.2 in
    let once = grew.once in
    inr (w.0, (made.0, less_row grown name time, cuts_name {new = less_row grown name time} j name time grew (drops_one grown name time) (once_without grown.names.names name once.1)))

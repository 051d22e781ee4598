-- A name that was given to another inode of its directory, once the log has grown and the row is settled.
use Rattle.std.proofs.Common.{◌≡◌, ℕ, ◌-◌, ◌%◌, Bool, true, false, cond, nat_eq, inl, inr, List, ◌++◌, refl, ap, ◌∙◌, subst, arith, Some, None}
use Rattle.std.specs.Cmp.Lexicographic.{pointwise, bytes_decides}
use Rattle.nv_region.specs.Region.{Region}
use Rattle.nv_super.specs.Layout.{Layout}
use Rattle.nv_alloc.specs.FreeValue.{FreeLists}
use Rattle.nv_entry.specs.declared.entry.Entry.{Entry}
use Rattle.nv_entry.specs.declared.entry.Entry.TheVariants.{Name}
use Rattle.nv_entry.specs.declared.entry.Operation.TheVariants.{Add}
use Rattle.nv_entry.specs.Spelling.{entry_length}
use Rattle.nv_logpage.specs.Append.{end_of, needed}
use Rattle.nv_names.specs.Names.{EachOnce, name_at}
use Rattle.nv_scan.specs.declared.numbers.Numbers.{Numbers}
use Rattle.nv_scan.specs.declared.piece.Row.{Row}
use Rattle.nv_radix.specs.Pages.{block_at}
use Rattle.nv_outcome.specs.Same.{SameRow}
use Rattle.nv_mounted.specs.Held.{Held, Store}
use Rattle.nv_commit.specs.Stopped.{LeavesEither}
use Rattle.nv_steps.specs.MoreNames.{AddsName, GrowsSame}
use Rattle.nv_steps.specs.Moves.{HasMoved}
use Rattle.nv_steps.specs.NameEntries.{with_gone}
use Rattle.nv_steps.specs.NewNames.{ShowsNamed}
use Rattle.nv_steps.specs.Steps.{ShowsRow}
use Rattle.nv_steps.specs.Takes.{AppendedLess, AppendsLess, TakesWithin, TookWithin, take_entries, take_place}
use Rattle.nv_steps.specs.Unlinks.{DropsName}
use Rattle.nv_steps.proofs.LessName.{found_without, once_without, without}
use Rattle.nv_steps.proofs.LinkedAt.{added_row}
use Rattle.nv_steps.proofs.MadeNamed.{named_once}
use Rattle.nv_steps.proofs.MovedRow.{shows_same}

-- a name that is set over one that was taken
over : {A : Type 0} (b : Bool) (x y z : A) → cond b y (cond b x z) ≡ cond b y z
over true x y z = refl
over false x y z = refl

-- A row that grew by such entries, and then is settled.
pub took_after : {old grown less bare new : Row} {fresh : List ℕ} {end place spot : ℕ} (i : ℕ) (name other : List ℕ) (time : ℕ) → GrowsSame old fresh end grown → DropsName grown name time less → EachOnce less.names → DropsName less other time bare
    → AddsName bare other i place time new → place ≡ spot → EachOnce new.names → EachOnce old.names → HasMoved old fresh end name other i spot time new
took_after {old} {grown} {less} {bare} {new} {fresh} {end} {place} {spot} i name other time row drops once_less cuts adds at once_new once_old =
    let lost = drops.rest in
    let cut = cuts.rest in
    let got = adds.rest in
    record {
      inode = got.inode ∙ cut.inode ∙ lost.inode ∙ row.inode;
      kind = got.kind ∙ cut.kind ∙ lost.kind ∙ row.kind;
      numbers = adds.numbers ∙ ap (λ (n : Numbers). record n { time = time }) (cuts.numbers ∙ ap (λ (n : Numbers). record n { time = time }) (drops.numbers ∙ ap (λ (n : Numbers). record n { time = time }) row.numbers));
      head = got.head ∙ cut.head ∙ lost.head ∙ row.head;
      tail = got.tail ∙ cut.tail ∙ lost.tail ∙ row.tail;
      pages = (λ t. (got.pages t).items) ∙ (λ t. (cut.pages t).items) ∙ (λ t. (lost.pages t).items) ∙ row.pages;
      index = λ p. (λ t. block_at (got.index t) p) ∙ (λ t. block_at (cut.index t) p) ∙ (λ t. block_at (lost.index t) p) ∙ row.index p;
      between = less.names;
      lost = λ q. drops.names q ∙ (λ t. cond (pointwise nat_eq q name) None (row.names q t));
      names = λ q. adds.names q ∙ (λ t. cond (pointwise nat_eq q other) (Some (i, at t)) (cuts.names q t)) ∙ over (pointwise nat_eq q other) None (Some (i, spot)) (name_at less.names q);
      once = once_old;
      once_between = once_less;
      once_now = once_new;
    }

-- where its last entry stands
pub taken_place : (end len : ℕ) (fresh : List ℕ) (tail i j : ℕ) (name other : List ℕ) (time : ℕ) → end ≡ end_of fresh 0 tail (take_entries i j name other time) → len ≡ entry_length (Name (record { operation = Add; inode = i; time = time; name = other })) → end - len ≡ take_place fresh tail i j name other time
taken_place end len fresh tail i j name other time ends is = omega (arith, ends, is)

module _ {R S : Region} {l : Layout} {free after : FreeLists} {cpu : ℕ} {old mid grown : Row} (i j : ℕ) (name other : List ℕ) (time : ℕ) (same : SameRow old mid) (grew : AppendsLess R S l free after cpu mid grown j (take_entries i j name other time)) where
  abbrev entries : List Entry
  entries = take_entries i j name other time

  grew_from : GrowsSame old grew.fresh (end_of grew.fresh 0 old.tail entries) grown
  grew_from =
      let row = grew.row in record {
        inode = row.inode ∙ same.inode;
        kind = row.kind ∙ same.kind;
        numbers = row.numbers ∙ same.numbers;
        head = row.head ∙ same.head;
        tail = row.tail ∙ ap (λ (t : ℕ). end_of grew.fresh 0 t entries) same.tail;
        pages = row.pages ∙ ap (λ (ps : List ℕ). ps ++ grew.fresh) same.pages;
        index = λ p. row.index p ∙ same.index p;
        names = λ q. row.names q ∙ same.names q;
      }

  shows_old : (held : Store) (h : Held) → ShowsRow R l held h old free → ShowsNamed R S l cpu held (with_gone held old.inode h entries grew.fresh j)
  shows_old held h seen = subst (λ (d : ℕ). ShowsNamed R S l cpu held (with_gone held d h entries grew.fresh j)) same.inode (grew.shows held h (shows_same same seen))

  -- The row is settled.
  pub takes_within : {less bare new : Row} (len : ℕ) → len ≡ entry_length (Name (record { operation = Add; inode = i; time = time; name = other })) → DropsName grown name time less → EachOnce less.names → DropsName less other time bare
      → AddsName bare other i (grown.tail - len) time new → EachOnce new.names → EachOnce old.names → TakesWithin R S l free after cpu old new i j name other time
  takes_within {less} {bare} {new} len length_is drops once_less cuts adds once_new once_old = record {
    fresh = grew.fresh;
    taken = grew.taken;
    count = grew.count ∙ ap (λ (t : ℕ). needed (t % 4096) entries) same.tail;
    row = took_after i name other time grew_from drops once_less cuts adds (taken_place grown.tail len grew.fresh old.tail i j name other time (let row = grew_from in row.tail) length_is) once_new once_old;
    shows = shows_old;
  }

-- ---- a stop

-- the row without a name
abbrev pub less_row : Row → List ℕ → ℕ → Row
less_row grown name time = record grown { numbers = record grown.numbers { time = time }; names = record grown.names { names = without name grown.names.names } }

pub drops_one : (grown : Row) (name : List ℕ) (time : ℕ) → DropsName grown name time (less_row grown name time)
drops_one grown name time = record { rest = record { inode = refl; kind = refl; head = refl; tail = refl; pages = refl; index = refl }; numbers = refl; names = λ q. found_without grown.names.names name q }

-- the name that was taken out isn't there
pub gone_name : (grown : Row) (name : List ℕ) (time : ℕ) → name_at (less_row grown name time).names name ≡ None
gone_name grown name time = found_without grown.names.names name name ∙ ap (λ (b : Bool). cond b None (name_at grown.names name)) ((bytes_decides name name).1 refl)

-- What a stop leaves of a name that is given so, by what it leaves of the log.
pub left_taken : {R : Region} {l : Layout} {free : FreeLists} {cpu : ℕ} {held : Store} (old mid : Row) (i j : ℕ) (name other : List ℕ) (time : ℕ) → SameRow old mid → EachOnce old.names
    → (left : Region) → LeavesEither R l held (AppendedLess R l free cpu mid j (take_entries i j name other time)) left → LeavesEither R l held (TookWithin R l free cpu old i j name other time) left
left_taken old mid i j name other time same once left (inl stays) = inl stays
left_taken old mid i j name other time same once left (inr w) =
    let made = w.1 in
    let grown = made.1 in
    let grew = made.2 in
    let once_grown = grew.once in
    let len = entry_length (Name (record { operation = Add; inode = i; time = time; name = other })) in
    let less = less_row grown name time in
    let bare = less_row less other time in
    inr (
      w.0,
      (
        made.0,
        added_row bare other i (grown.tail - len) time,
        takes_within i j name other time same grew {less = less} {bare = bare} {new = added_row bare other i (grown.tail - len) time} len refl (drops_one grown name time) (once_without grown.names.names name once_grown.1) (drops_one less other time)
            (record { rest = record { inode = refl; kind = refl; head = refl; tail = refl; pages = refl; index = refl }; numbers = refl; names = λ q. refl })
            (named_once bare other i (grown.tail - len) (once_without less.names.names other (once_without grown.names.names name once_grown.1)) (gone_name less other time)) once,
      ),
    )
